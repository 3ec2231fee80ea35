-- How a host waits after a turn, and which faults are no failed wait.
use Rattle.std.proofs.Common.{◌≡◌, ◌<◌, ℕ, Bool, [], ◌∷◌, ◌++◌, Some, ◌⊎◌, inl, inr, refl, sym, subst, ◌∙◌}
use Rattle.std.specs.Prelude.{◌↔◌, IsTrue}
use Rattle.ipx_carrier.specs.declared.report.Report.{Report}
use Rattle.ipx_sockets.specs.PollEvents.{Waited}
use Rattle.ipx_sockets.specs.Polling.{WaitsOnce, reported}
use Rattle.ipx_sockets.specs.declared.poller.Poller.{Poller}
use Rattle.ipx_query_cmd.specs.Pausing.{MayPause}
use Rattle.ipx_query_cmd.specs.declared.fault.AskFault.{AskFault}
use Rattle.ipx_query_cmd.specs.declared.fault.AskFault.TheVariants as Faults

-- a turn is busy by its own report, and by what was filtered
pub busy_by : (more : Bool) (report its : Report) (a b x y : ℕ) → report ≡ its → a ≡ x → b ≡ y → IsTrue more ↔ ((0 < report.heard) ⊎ ((0 < report.sent) ⊎ (a < b)))
    → IsTrue more ↔ ((0 < its.heard) ⊎ ((0 < its.sent) ⊎ (x < y)))
busy_by more report its a b x y e p q so =
    subst (λ (r : Report). IsTrue more ↔ ((0 < r.heard) ⊎ ((0 < r.sent) ⊎ (x < y)))) e
    (subst (λ (n : ℕ). IsTrue more ↔ ((0 < report.heard) ⊎ ((0 < report.sent) ⊎ (n < y)))) p
    (subst (λ (n : ℕ). IsTrue more ↔ ((0 < report.heard) ⊎ ((0 < report.sent) ⊎ (a < n)))) q so))

-- a wait after a turn that left the poller as it was
pub paused : (old mid new : Poller) → mid ≡ old → new.poll.trace.items ≡ mid.poll.trace.items ++ Waited 20 (reported new) ∷ [] → new.asked ≡ Some 20 → WaitsOnce 20 old new
paused old mid new still traced asked = subst (λ (p : Poller). WaitsOnce 20 p new) still (traced, asked)

pub as_wait : (p q : Poller) → MayPause p q → (q ≡ p) ⊎ ((time : ℕ) × WaitsOnce time p q)
as_wait p q (inl same) = inl same
as_wait p q (inr once) = inr (20, once)

-- other faults
pub memory_waits : (f : AskFault) → f ≡ Faults.OutOfMemory → f ≡ Faults.Wait → ⊥
memory_waits f e k = let both : Faults.OutOfMemory ≡ Faults.Wait = sym e ∙ k in absurd (cc)

pub unwritten_waits : (f : AskFault) → f ≡ Faults.Unwritten → f ≡ Faults.Wait → ⊥
unwritten_waits f e k = let both : Faults.Unwritten ≡ Faults.Wait = sym e ∙ k in absurd (cc)

pub clock_waits : Faults.Clock ≡ Faults.Wait → ⊥
clock_waits e = cc
