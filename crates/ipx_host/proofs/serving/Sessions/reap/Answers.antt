use Rattle.std.proofs.Common.{◌≡◌, ◌∙◌, ◌<◌, List, None, Some, ap, arith, length, subst, take}
use Rattle.std.proofs.lemmas.Result.{err_from_is_err_and}
use Rattle.std.specs.Prelude.{All, IfSome, IsTrue, slice_get}
use Rattle.ipx_host.specs.HostOutput.{left_of}
use Rattle.ipx_host.specs.Midway.{counts_at}
use Rattle.ipx_host.specs.Tending.{JustStays, Tends}
use Rattle.ipx_host.specs.declared.sessions.Session.{Session}
use Rattle.ipx_host.specs.declared.paced_host_core.PacedHostCore.{PacedHostCore}
use Rattle.ipx_host.specs.declared.listening.ListenOutcome.{ListenOutcome}
use Rattle.ipx_host.specs.declared.listening.ListenOutcome.TheVariants as Stops
use Rattle.ipx_host.proofs.Holding.{stop_is, tended_ends, tended_on}
use Rattle.ipx_host.proofs.Hosted.{tended_first, tends_more}
use Rattle.ipx_host.proofs.Unheard.{more_went}
use Rattle.ipx_host.proofs.serving.Sessions.reap.Goals as goal

pub returns-in_err-tend-clause-tidies : goal.returns-in_err-tend-clause-tidies
returns-in_err-tend-clause-tidies g c =
    let l = c.loop-tended.self in
    let i = c.loop-tended.invariant in
    let new = c.tend.new.self in
    let now = c.loop-tended.station in
    let after = c.tend.new.station in
    let place = c.in-Some.place in
    let there = subst (λ (l : List Session). place < length l) c.deref.ensures.value c.in-Some.ensures.there in
    let found = subst (λ (l : List Session). All (JustStays now.core) (take place l) × IfSome (slice_get l place) (λ k. JustStays now.core k → ⊥)) c.deref.ensures.value c.in-Some.ensures.first in
    let p = err_from_is_err_and c.from_residual.result c.from_residual.ensures.1 in
    rw (p.1, p.2) (
      c.loop-tended._tended,
      omega (arith, c.loop-tended-test.true),
      now.core,
      l.held.items,
      counts_at now.refused l,
      i.tends,
      tended_first c.args.self.now.once l.once now.core after.core l.held.items new.held.items (counts_at now.refused l) (counts_at after.refused new) (Some c.in_err-tend.field-0.0) place i.once there found c.in_err-tend.ensures.tends c.tend.ensures.core,
    )

pub returns-in_err-tend-clause-ended : goal.returns-in_err-tend-clause-ended
returns-in_err-tend-clause-ended g c =
    λ ended.
    let l = c.loop-tended.self in
    let new = c.tend.new.self in
    let now = c.loop-tended.station in
    let after = c.tend.new.station in
    let place = c.in-Some.place in
    let there = subst (λ (l : List Session). place < length l) c.deref.ensures.value c.in-Some.ensures.there in
    let is = c.in_err-tend.ensures.only in
    let p = err_from_is_err_and c.from_residual.result c.from_residual.ensures.1 in
    let stop : c.in_err-tend.field-0.0 ≡ Stops.Ended = stop_is c.from_residual.result p.0 c.in_err-tend.field-0.0 Stops.Ended p.1 p.2 ended in
    let tends = subst (λ (s : ListenOutcome). IfSome (slice_get l.held.items place) (λ k. Tends l.once now.core k place after.core.endpoint l.held.items new.held.items (counts_at now.refused l) (counts_at after.refused new) (Some s))) stop c.in_err-tend.ensures.tends in
    c.loop-tended.invariant.before is
    (tended_ends l.once now.core after.core.endpoint l.held.items new.held.items (counts_at now.refused l) (counts_at after.refused new) (left_of l.output) place is there l.one tends)

pub loop-tended-preserved : goal.loop-tended-preserved
loop-tended-preserved g c =
    let old = c.args.self.now in
    let first = c.args.station.now in
    let l = c.loop-tended.self in
    let i = c.loop-tended.invariant in
    let new = c.tend.new.self in
    let now = c.loop-tended.station in
    let after = c.tend.new.station in
    let place = c.in-Some.place in
    let there = subst (λ (l : List Session). place < length l) c.deref.ensures.value c.in-Some.ensures.there in
    let found = subst (λ (l : List Session). All (JustStays now.core) (take place l) × IfSome (slice_get l place) (λ k. JustStays now.core k → ⊥)) c.deref.ensures.value c.in-Some.ensures.first in
    let one = tended_first old.once l.once now.core after.core l.held.items new.held.items (counts_at now.refused l) (counts_at after.refused new) None place i.once there found c.in_ok-tend.ensures.tends c.tend.ensures.core in
    record {
      tends = tends_more old.once first.core now.core after.core old.held.items l.held.items new.held.items (counts_at first.refused old) (counts_at now.refused l) (counts_at after.refused new) c.loop-tended._tended i.tends one;
      core = c.tend.ensures.core ∙ ap (λ (k : PacedHostCore). record k { endpoint = after.core.endpoint }) i.core;
      clock = c.tend.ensures.clock ∙ i.clock;
      host_socket = c.tend.ensures.host_socket ∙ i.host_socket;
      poller = c.tend.ensures.poller ∙ i.poller;
      evicted = c.tend.ensures.evicted ∙ i.evicted;
      turned_away = c.tend.ensures.turned_away ∙ i.turned_away;
      output = c.tend.ensures.output ∙ i.output;
      unheard = more_went old.held.items l.held.items new.held.items old.never_heard l.never_heard new.never_heard i.unheard c.tend.ensures.counts;
      before = λ is alone.
          let same : IsTrue l.once = subst IsTrue c.tend.ensures.once is in
          i.before same (tended_on l.once now.core after.core.endpoint l.held.items new.held.items (counts_at now.refused l) (counts_at after.refused new) (left_of l.output) place same there l.one c.in_ok-tend.ensures.tends alone);
      once = c.tend.ensures.once ∙ i.once;
    }

pub returns-in_err-tend-clause-counts : goal.returns-in_err-tend-clause-counts
returns-in_err-tend-clause-counts g c =
    let old = c.args.self.now in
    let l = c.loop-tended.self in
    let new = c.tend.new.self in
    more_went old.held.items l.held.items new.held.items old.never_heard l.never_heard new.never_heard c.loop-tended.invariant.unheard c.tend.ensures.counts
