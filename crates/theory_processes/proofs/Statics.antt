-- What the static entries of a core do to its router: nothing more waits, and its ports stay.
use Rattle.std.proofs.Common.{◌≡◌, ◌-◌, ℕ, List, [], ◌∷◌, ◌++◌, ◌∙◌, inl, inr, ap, subst}
use Rattle.ipx_router.specs.Advertisements.{is_due}
use Rattle.ipx_router.specs.RouterPackets.{SendingView}
use Rattle.ipx_router.specs.RouterView.{RouterView}
use Rattle.ipx_router.specs.declared.port.Port.{Port}
use Rattle.ipx_carrier.specs.OutcomeCounters.{outcome_counted}
use Rattle.ipx_carrier.specs.PriorityRouterCore.{PriorityCoreView, PriorityHears, PriorityHearOutOfMemory}
use Rattle.ipx_metrics.specs.MeteredRouter.{CountedView, CountsHeard, CountsMissed, without_counts}
use Rattle.ipx_static.specs.WithStatics.{AdvertisementOutOfMemory, HearsAdvertisements, HearsIfDue, WithStaticsView}
use Rattle.theory_processes.proofs.Queues.{Queued, answer_keeps, none_queued}
use Rattle.theory_processes.proofs.Quiet.{AllQuiet, IsQuiet}
use Rattle.theory_processes.proofs.Sending.{match_bool}

abbrev pub ports_of : CountedView → List Port
ports_of c = c.router.ports

-- nothing more waits, and the ports are the same
pub record Keeps (old new : CountedView) : Type 0 where
  pub queued : (s : SendingView) → Queued new.queues s → Queued old.queues s
  pub ports : ports_of new ≡ ports_of old

pub keeps_same : (old new : CountedView) → new ≡ old → Keeps old new
keeps_same old new same = record { queued = λ s is. subst (λ (c : CountedView). Queued c.queues s) same is; ports = ap ports_of same }

pub keeps_both : (x y z : CountedView) → Keeps x y → Keeps y z → Keeps x z
keeps_both x y z one two = record { queued = λ s is. one.queued s (two.queued s is); ports = two.ports ∙ one.ports }

quiet_hears : (old new : CountedView) (s : SendingView) (port now : ℕ) → IsQuiet s → PriorityHears (without_counts old) port s.bytes now (without_counts new) → Keeps old new
quiet_hears old new s port now quiet h =
    let heard : PriorityCoreView = record (without_counts old) { router = h.1; outcomes = outcome_counted h.0 old.outcomes } in
    record {
      queued = λ t is. none_queued h.0 heard t (quiet old.router h.1 _ now h.0 h.2) (subst (λ (c : PriorityCoreView). Queued c.queues t) h.3 is);
      ports = ap (λ (c : PriorityCoreView). c.router.ports) h.3 ∙ ap (λ (r : RouterView). r.ports) (answer_keeps h.0 heard) ∙ h.2.rest.ports;
    }

all_heard : (now : ℕ) (ss : List SendingView) (old new : CountedView) → AllQuiet ss → HearsAdvertisements CountsHeard now ss old new → Keeps old new
all_heard now [] old new quiet h = keeps_same old new h
all_heard now (s ∷ ss) old new quiet h = keeps_both old h.0 new (quiet_hears old h.0 s (s.port - 1) now quiet.0 h.1.0) (all_heard now ss h.0 new quiet.1 h.2)

pub record KeepsStatics (old new : WithStaticsView CountedView) : Type 0 where
  pub core : Keeps old.core new.core
  pub statics : new.advertisements ≡ old.advertisements

pub statics_heard : (now : ℕ) (old new : WithStaticsView CountedView) → AllQuiet old.advertisements → HearsIfDue CountsHeard old now new → KeepsStatics old new
statics_heard now old new quiet h =
    elim (match_bool (HearsAdvertisements CountsHeard now old.advertisements old.core new.core × (new ≡ record old { core = new.core; refreshed_at = _ })) (new ≡ old) (is_due old.refreshed_at now) h) [
      | inl due ↦ record { core = all_heard now old.advertisements old.core new.core quiet due.0; statics = ap (λ (w : WithStaticsView CountedView). w.advertisements) due.1 }
      | inr not_due ↦ record { core = keeps_same old.core new.core (ap (λ (w : WithStaticsView CountedView). w.core) not_due); statics = ap (λ (w : WithStaticsView CountedView). w.advertisements) not_due }
    ]

-- ---- out of memory

pub missed : (old new : CountedView) (port : ℕ) (bytes : List ℕ) (now : ℕ) → PriorityHearOutOfMemory (without_counts old) port bytes now (without_counts new) → Keeps old new
missed old new port bytes now m = elim m.1 [
  | inl refused ↦ record {
    queued = λ s is. subst (λ (c : PriorityCoreView). Queued c.queues s) refused.0 is;
    ports = ap (λ (c : PriorityCoreView). c.router.ports) refused.0 ∙ refused.1.1.ports;
  }
  | inr lost ↦ record {
    queued = λ s is. subst (λ (c : PriorityCoreView). Queued c.queues s) lost.1 is;
    ports = ap (λ (c : PriorityCoreView). c.router.ports) lost.1 ∙ lost.2.rest.ports;
  }
]

quiet_front : (xs ys : List SendingView) → AllQuiet (xs ++ ys) → AllQuiet xs
quiet_front [] ys quiet = tt
quiet_front (x ∷ xs) ys quiet = (quiet.0, quiet_front xs ys quiet.1)

pub statics_missed : (now : ℕ) (ss : List SendingView) (old new : CountedView) → AllQuiet ss → AdvertisementOutOfMemory CountsHeard CountsMissed now ss old new → Keeps old new
statics_missed now ss old new quiet m =
    keeps_both old m.3 new (all_heard now m.0 old m.3 (quiet_front m.0 (m.2 ∷ m.1) (subst AllQuiet m.4 quiet)) m.5)
    (missed m.3 new (m.2.port - 1) m.2.bytes now m.6.0)
