-- The packets that wait in a router that gives forwarded packets first: after it received, and as it is polled.
use Rattle.std.proofs.Common.{◌≡◌, ◌⊎◌, ◌+◌, ◌≤◌, Bool, true, false, cond, List, [], ◌∷◌, ◌++◌, length, Option, None, Some, refl, sym, inl, inr, ap, subst, arith}
use Rattle.std.specs.Prelude.{Contains, nat_le, option_map}
use Rattle.std.proofs.lemmas.Bool.{leb-true}
use Rattle.std.proofs.lemmas.List.Elements.{Contains-append_cases, Contains-append_right}
use Rattle.ipx_router.specs.OutcomeView.{Dropped, Forward, Heard, OutcomeView, Replies}
use Rattle.ipx_router.specs.RouterPackets.{SendingView}
use Rattle.ipx_carrier.specs.PriorityRouterCore.{Dequeues, PriorityCoreView, PriorityQueues, TakesByPriority, after_advertisement, put_advertisement, put_by_priority, put_own}
use Rattle.ipx_carrier.specs.RouterQueues.{given_of, max_queued, one_forwarded, put_after}
use Rattle.ipx_carrier.specs.Turns.{Given}
use Rattle.theory_processes.proofs.Holding.{contains_here}
use Rattle.theory_processes.proofs.Lists.{same_some}
use Rattle.theory_processes.specs.Lives.{SendsNone}

-- a packet waits in one of two queues
abbrev pub Queued : PriorityQueues → SendingView → Type 0
Queued q s = Contains q.forwarded s ⊎ Contains q.own s

-- packets that fit into an empty queue
abbrev pub Fit : List SendingView → Type 0
Fit sent = length sent ≤ max_queued

abbrev pub IsNew : List SendingView → SendingView → Type 0
IsNew sent s = Contains sent s × Fit sent

-- the packets of an answer
abbrev pub sent_in : OutcomeView → List SendingView
sent_in (Forward port next bytes) = one_forwarded port next bytes
sent_in (Replies sent) = sent
sent_in (Heard n) = []
sent_in (Dropped reason) = []

put_cases : (q sent : List SendingView) (s : SendingView) → Contains (put_after q sent) s → Contains q s ⊎ IsNew sent s
put_cases q sent s is = when (nat_le (length q + length sent) max_queued) refl is
  where
    when : (b : Bool) → nat_le (length q + length sent) max_queued ≡ b → Contains (cond b (q ++ sent) q) s → Contains q s ⊎ IsNew sent s
    when true fits has = elim (Contains-append_cases q sent s has) [
      | inl was ↦ inl was
      | inr new ↦ inr (new, omega (arith, leb-true (length q + length sent) max_queued fits))
    ]
    when false full has = inl has

told_cases : (q told : List SendingView) (s : SendingView) → Contains (after_advertisement q told) s → Contains q s ⊎ IsNew told s
told_cases q [] s is = inl is
told_cases q (t ∷ ts) s is = when (nat_le (length q + length (t ∷ ts)) max_queued) (nat_le (length (t ∷ ts)) max_queued) refl refl is
  where
    when : (b c : Bool) → nat_le (length q + length (t ∷ ts)) max_queued ≡ b → nat_le (length (t ∷ ts)) max_queued ≡ c
        → Contains (cond b (q ++ t ∷ ts) (cond c (t ∷ ts) q)) s → Contains q s ⊎ IsNew (t ∷ ts) s
    when true c fits alone has = elim (Contains-append_cases q (t ∷ ts) s has) [
      | inl was ↦ inl was
      | inr new ↦ inr (new, omega (arith, leb-true (length q + length (t ∷ ts)) max_queued fits))
    ]
    when false true full alone has = inr (has, leb-true (length (t ∷ ts)) max_queued alone)
    when false false full alone has = inl has

-- ---- it received

pub answer_queued : (a : OutcomeView) (c : PriorityCoreView) (s : SendingView) → Queued (put_by_priority a c).queues s → Queued c.queues s ⊎ IsNew (sent_in a) s
answer_queued (Forward port next bytes) c s is = elim is [
  | inl forwarded ↦ elim (put_cases c.queues.forwarded (one_forwarded port next bytes) s forwarded) [ inl was ↦ inl (inl was) | inr new ↦ inr new ]
  | inr own ↦ inl (inr own)
]
answer_queued (Replies sent) c s is = elim is [
  | inl forwarded ↦ inl (inl forwarded)
  | inr own ↦ elim (put_cases c.queues.own sent s own) [ inl was ↦ inl (inr was) | inr new ↦ inr new ]
]
answer_queued (Heard n) c s is = inl is
answer_queued (Dropped reason) c s is = inl is

pub none_queued : (a : OutcomeView) (c : PriorityCoreView) (s : SendingView) → SendsNone a → Queued (put_by_priority a c).queues s → Queued c.queues s
none_queued (Forward port next bytes) c s none is = absurd none
none_queued (Replies sent) c s none is = absurd none
none_queued (Heard n) c s none is = is
none_queued (Dropped reason) c s none is = is

pub answer_keeps : (a : OutcomeView) (c : PriorityCoreView) → (put_by_priority a c).router ≡ c.router
answer_keeps (Forward port next bytes) c = refl
answer_keeps (Replies sent) c = refl
answer_keeps (Heard n) c = refl
answer_keeps (Dropped reason) c = refl

-- ---- it is polled

pub first_queued : (first : List SendingView) (c : PriorityCoreView) (s : SendingView) → Queued (put_own first c).queues s → Queued c.queues s ⊎ IsNew first s
first_queued first c s is = elim is [
  | inl forwarded ↦ inl (inl forwarded)
  | inr own ↦ elim (put_cases c.queues.own first s own) [ inl was ↦ inl (inr was) | inr new ↦ inr new ]
]

told_queued : (told : List SendingView) (c : PriorityCoreView) (s : SendingView) → Queued (put_advertisement told c).queues s → Queued c.queues s ⊎ IsNew told s
told_queued told c s is = elim is [
  | inl forwarded ↦ inl (inl forwarded)
  | inr own ↦ elim (told_cases c.queues.own told s own) [ inl was ↦ inl (inr was) | inr new ↦ inr new ]
]

pub ready_queued : (first told : List SendingView) (c : PriorityCoreView) (s : SendingView) → Queued (put_advertisement told (put_own first c)).queues s
    → Queued c.queues s ⊎ (IsNew first s ⊎ IsNew told s)
ready_queued first told c s is = elim (told_queued told (put_own first c) s is) [
  | inl was ↦ elim (first_queued first c s was) [ inl before ↦ inl before | inr new ↦ inr (inl new) ]
  | inr new ↦ inr (inr new)
]

-- what waits after a packet left had waited, and so had the packet
pub taken_queued : (ready new : PriorityCoreView) (given : Option Given) → TakesByPriority ready given new → (s : SendingView) → Queued new.queues s → Queued ready.queues s
taken_queued ready new given t s is = from t.0.0 t.0.1
  where
    from : (leaving : Option SendingView) → Dequeues ready.queues leaving new.queues → Queued ready.queues s
    from None d = subst (λ (q : PriorityQueues). Queued q s) d.2 is
    from (Some x) d = elim d [
      | inl f ↦ elim is [
        | inl forwarded ↦ inl (subst (λ q. Contains q s) (sym f.0) (Contains-append_right (x ∷ []) new.queues.forwarded s forwarded))
        | inr own ↦ inr (subst (λ q. Contains q s) (ap (λ (q : PriorityQueues). q.own) f.1) own)
      ]
      | inr o ↦ elim is [
        | inl forwarded ↦ inl (subst (λ q. Contains q s) (ap (λ (q : PriorityQueues). q.forwarded) o.3) forwarded)
        | inr own ↦ inr (subst (λ q. Contains q s) (sym o.1) (Contains-append_right (x ∷ []) new.queues.own s own))
      ]
    ]

pub given_queued : (ready new : PriorityCoreView) (g : Given) → TakesByPriority ready (Some g) new → (s : SendingView) × Queued ready.queues s × (given_of s ≡ g)
given_queued ready new g t = from t.0.0 t.0.1 t.0.2
  where
    from : (leaving : Option SendingView) → Dequeues ready.queues leaving new.queues → Some g ≡ option_map given_of leaving → (s : SendingView) × Queued ready.queues s × (given_of s ≡ g)
    from None d is = absurd (cc is)
    from (Some s) d is = elim d [
      | inl f ↦ (s, inl (subst (λ q. Contains q s) (sym f.0) (contains_here s new.queues.forwarded)), sym (same_some g (given_of s) is))
      | inr o ↦ (s, inr (subst (λ q. Contains q s) (sym o.1) (contains_here s new.queues.own)), sym (same_some g (given_of s) is))
    ]

pub taken_router : (ready new : PriorityCoreView) (given : Option Given) → TakesByPriority ready given new → new.router ≡ ready.router
taken_router ready new given t = ap (λ (c : PriorityCoreView). c.router) t.1
