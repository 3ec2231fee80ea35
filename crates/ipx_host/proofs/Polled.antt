-- What a step of a host does with its poller, and why it stops.
use Rattle.std.proofs.Common.{◌≡◌, ◌≢◌, ℕ, Bool, true, false, List, Option, Some, None, Result, Err, ◌⊎◌, inl, inr, refl, sym, ap, ◌∙◌, subst}
use Rattle.std.specs.Prelude.{◌↔◌}
use Rattle.std.specs.Option.{option_map}
use Rattle.ipx_carrier.specs.Turns.{Peers, Turn}
use Rattle.ipx_sockets.specs.declared.poller.Poller.{Poller}
use Rattle.ipx_sockets.proofs.Waits.{err_is}
use Rattle.ipx_sockets.specs.Polling.{FailedToWait, WaitsOnce, WaitsWell}
use Rattle.ipx_host.specs.Feeding.{FeedState}
use Rattle.ipx_host.specs.SendRounds.{IsSendStep, SendState, feeding_of}
use Rattle.ipx_host.specs.SendSteps.{GoesOnOrEnds, IsFeedFault, IsReadFault}
use Rattle.ipx_host.specs.Sleeping.{MayRest, MayWait}
use Rattle.ipx_host.specs.Transfer.{ended_at, state_at, verdict_at}
use Rattle.spx_link.specs.declared.state.State.{State}
use Rattle.spx_link.specs.declared.state.State.TheVariants as States
use Rattle.spx_messages.specs.EndpointView.{EndpointView}
use Rattle.ipx_host.specs.declared.running_host.Activity.{Activity}
use Rattle.ipx_host.specs.SessionLogs.{ListenerCounts}
use Rattle.ipx_host.specs.Tending.{Tidies}
use Rattle.ipx_host.specs.declared.listening.ListenOutcome.{ListenOutcome}
use Rattle.ipx_host.specs.declared.listening.ListenOutcome.TheVariants as Stops
use Rattle.ipx_host.specs.declared.send_outcome.SendOutcome.{SendOutcome}
use Rattle.ipx_host.specs.declared.send_outcome.SendOutcome.TheVariants as Verdicts
use Rattle.ipx_host.specs.declared.sessions.Session.{Session}
use Rattle.ipx_host.specs.declared.paced_host_core.PacedHostCore.{PacedHostCore}
use Rattle.ipx_host.proofs.Hosted.{IsParting, tidied_parts}

-- what a step does with the poller, by what it may do
pub as_rest : (core : PacedHostCore) (cs : List Session) (p q : Poller) → MayRest core cs p q → (q ≡ p) ⊎ ((time : ℕ) × WaitsOnce time p q)
as_rest core cs p q (inl same) = inl same
as_rest core cs p q (inr w) = inr (w.1, w.4)

pub as_wait : (shows : Bool) (left : Option ℕ) (core : PacedHostCore) (p q : Poller) → MayWait shows left core p q → (q ≡ p) ⊎ ((time : ℕ) × WaitsOnce time p q)
as_wait shows left core p q (inl same) = inl same
as_wait shows left core p q (inr w) = inr (w.0, w.2)

-- ---- no step of a sender says that it can't wait before it waits

abbrev IsOther : Option SendOutcome → Type 0
IsOther None = Unit {0}
IsOther (Some Verdicts.Done) = Unit {0}
IsOther (Some Verdicts.Unanswered) = Unit {0}
IsOther (Some Verdicts.GivenUp) = Unit {0}
IsOther (Some Verdicts.PeerLeft) = Unit {0}
IsOther (Some Verdicts.Unread) = Unit {0}
IsOther (Some Verdicts.OutOfMemory) = Unit {0}
IsOther (Some Verdicts.Unwaited) = ⊥

judged : (whole joined waits : Bool) (state : Option State) → IsOther (verdict_at whole joined waits state)
judged whole joined waits None = tt
judged whole joined waits (Some States.Opening) = tt
judged whole joined waits (Some States.Live) = tt
judged true joined waits (Some States.Ending) = tt
judged false joined waits (Some States.Ending) = tt
judged true joined waits (Some States.PeerEnded) = tt
judged false joined true (Some States.PeerEnded) = tt
judged false joined false (Some States.PeerEnded) = tt
judged true joined waits (Some States.Confirmed) = tt
judged false joined waits (Some States.Confirmed) = tt
judged whole true waits (Some States.Lost) = tt
judged whole false waits (Some States.Lost) = tt

ended : (closed : Bool) (o : Option SendOutcome) → IsOther o → IsOther (option_map (ended_at closed) o)
ended closed None is = tt
ended true (Some v) is = is
ended false (Some Verdicts.Done) is = tt
ended false (Some Verdicts.Unanswered) is = tt
ended false (Some Verdicts.GivenUp) is = tt
ended false (Some Verdicts.PeerLeft) is = tt
ended false (Some Verdicts.Unread) is = tt
ended false (Some Verdicts.OutOfMemory) is = tt
ended false (Some Verdicts.Unwaited) is = is

read_fault : (f : SendOutcome) → IsReadFault f → f ≡ Verdicts.Unwaited → ⊥
read_fault f (inl e) is = let k : Verdicts.Unread ≡ Verdicts.Unwaited = sym e ∙ is in absurd (cc)
read_fault f (inr e) is = let k : Verdicts.OutOfMemory ≡ Verdicts.Unwaited = sym e ∙ is in absurd (cc)

fault_is_other : (id : ℕ) (seen : EndpointView) (a b : FeedState) (o : Option SendOutcome) (f : SendOutcome) → IsOther o → GoesOnOrEnds {T = Bool} IsFeedFault id seen a b o (Err f)
    → f ≡ Verdicts.Unwaited → ⊥
fault_is_other id seen a b (Some v) f other goes is =
    subst IsOther (ap Some (err_is v f (Err f) goes.0 refl ∙ is)) other
fault_is_other id seen a b None f other goes is = read_fault f goes.0.1 is

pub send_fault : {K : Type 0} (old new : SendState K) (f : SendOutcome) (drives : K → Turn → K → Type 0) (peers : Peers) (id : ℕ) (waits : Activity → Type 0)
    → IsSendStep {T = Bool} IsFeedFault waits old new (Err f) drives peers id → f ≡ Verdicts.Unwaited → ⊥
send_fault old new f drives peers id waits s =
    fault_is_other id s.seen.endpoint (feeding_of old) (feeding_of new) s.verdict f
    (subst IsOther (sym s.sees.tells) (ended old.closed _ (judged s.sees.whole new.noted.joined s.sees.waits (state_at s.seen.endpoint id))))
    s.goes

-- ---- nor does one of a listener

pub stopped : {T : Type 0} (once : Bool) (old new : PacedHostCore) (cs cs' : List Session) (ns ms : ListenerCounts) (stop : ListenOutcome) (r : Result T ListenOutcome) → Tidies once old new cs cs' ns ms (Some stop)
    → r ≡ Err stop → r ≡ Err Stops.Unwaited → ⊥
stopped once old new cs cs' ns ms stop r tidied at is =
    subst (λ (s : ListenOutcome). IsParting (Some s)) (err_is stop Stops.Unwaited r at is) (tidied_parts once old new cs cs' ns ms stop tidied)

-- ---- other outcomes

ended_waited : Stops.Ended ≡ Stops.Unwaited → ⊥
ended_waited e = cc

pub lost_waited : Stops.Lost ≡ Stops.Unwaited → ⊥
lost_waited e = cc

unwritten_waited : Stops.Unwritten ≡ Stops.Unwaited → ⊥
unwritten_waited e = cc

pub given_up_waited : Verdicts.GivenUp ≡ Verdicts.Unwaited → ⊥
given_up_waited e = cc

pub done_waited : (v : SendOutcome) → v ≡ Verdicts.Done → v ≡ Verdicts.Unwaited → ⊥
done_waited v e k = let both : Verdicts.Done ≡ Verdicts.Unwaited = sym e ∙ k in absurd (cc)

-- a run ends with a wait that failed, or no wait failed
pub failed_or_well : (stop : ListenOutcome) (p q : Poller) → (stop ≡ Stops.Unwaited) ↔ FailedToWait p q → (stop ≢ Stops.Unwaited → (count : ℕ) × WaitsWell count p q)
    → FailedToWait p q ⊎ ((count : ℕ) × WaitsWell count p q)
failed_or_well Stops.Unwaited p q so well = inl (so.0 refl)
failed_or_well Stops.Ended p q so well = inr (well ended_waited)
failed_or_well Stops.Lost p q so well = inr (well lost_waited)
failed_or_well Stops.Unwritten p q so well = inr (well unwritten_waited)
