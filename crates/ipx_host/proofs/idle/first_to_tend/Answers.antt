use Rattle.std.proofs.Common.{◌≡◌, arith, refl, rules, sym, take}
use Rattle.std.proofs.lemmas.List.{take_all}
use Rattle.std.proofs.lemmas.List.Elements.{All-same}
use Rattle.ipx_host.specs.Tending.{JustStays}
use Rattle.ipx_host.specs.declared.sessions.SessionAction.TheVariants as ActionsOfSessions
use Rattle.ipx_host.proofs.Holding.{first_more}
use Rattle.ipx_host.proofs.idle.first_to_tend.Goals as goal

pub loop-place-preserved : goal.loop-place-preserved
loop-place-preserved c =
    let stays : c.action_in.result ≡ ActionsOfSessions.Stays = first_of (search rules, cc) in
    first_more c.args.core.now c.args.sessions.now c.args.sessions.now c.loop-place.place _ c.action_in.result refl (omega arith) c.loop-place.invariant c.action_in.ensures.fate stays

pub returns-clause-first : goal.returns-clause-first
returns-clause-first c =
    let items = c.args.sessions.now in
    All-same (JustStays c.args.core.now) items (take c.loop-place.place items) (sym (take_all c.loop-place.place items (omega arith))) c.loop-place.invariant
