use Rattle.std.proofs.Common.{refl, arith, subst, ap, ◌∙◌, ℕ}
use Rattle.spx_theory.specs.World.{end_at}
use Rattle.std.proofs.lemmas.Option.{slice_get_within}
use Rattle.ipx_net_hosts.specs.EndStates.{here_at, state_on_host}
use Rattle.ipx_net.specs.Ends.{told_of}
use Rattle.ipx_net.specs.EndSummaryChanges.{HasHostAndState, state_by}
use Rattle.ipx_net.proofs.TellingHolds.{end_place, settle_next}
use Rattle.ipx_net.proofs.told.EndSummaries.settle.Goals as goal

pub loop-place-init : goal.loop-place-init
loop-place-init c = record { count = refl; log = λ who. refl; here = λ j x who h. absurd (omega arith); others = λ who none. refl }

pub loop-place-preserved : goal.loop-place-preserved
loop-place-preserved c =
    settle_next c.args.hosts.now c.args.host c.args.gone c.args.self.now.infos.items c.loop-place.place c.loop-place.self.infos.items c.update_end_at.new.self.infos.items
    c.requires c.update_end_at.ensures c.loop-place.invariant

pub returns-clause-here : goal.returns-clause-here
returns-clause-here c = λ id who is within.
    let s = c.loop-place.invariant in
    let v = c.args.hosts.now in
    let found = end_place (here_at v c.args.host) id who is in
    let inside = slice_get_within (here_at v c.args.host) found.0 found.1 found.2 in
    subst (λ (i : ℕ). HasHostAndState c.args.host (state_by c.args.gone (state_on_host v c.args.host i)) (told_of c.loop-place.self.infos.items who)) found.3
    (s.here found.0 found.1 who (omega (arith, inside, c.links-place-end.ensures)) found.2 (ap (end_at (here_at v c.args.host)) found.3 ∙ is) within)
