-- one more cause whose line may be due
use Rattle.std.proofs.Common.{◌≡◌, ◌⊎◌, ◌↔◌, ◌+◌, ℕ, List, get_or, inl, inr, subst, arith}
use Rattle.std.proofs.lemmas.Bool.{cases_lt}
use Rattle.ipx_sockets.specs.Moments.{IsDue, IsOneDueOf, never_logged}
use Rattle.ipx_sockets.specs.declared.throttled_log.ThrottledLog.{ThrottledLog}

more : (causes : List ThrottledLog) (happened : List ℕ) (i t : ℕ) → IsOneDueOf i causes happened t → IsOneDueOf (i + 1) causes happened t
more causes happened i t (place, lt, due) = (place, omega (arith, lt), due)

less : (causes : List ThrottledLog) (happened : List ℕ) (i t : ℕ) → IsOneDueOf (i + 1) causes happened t
    → IsOneDueOf i causes happened t ⊎ IsDue (get_or causes i never_logged) (get_or happened i 0) t
less causes happened i t (place, lt, due) = elim (cases_lt place i) [
  | inl below ↦ inl (place, below, due)
  | inr above ↦
      let same : place ≡ i = omega (arith, above, lt) in
      inr (subst (λ (n : ℕ). IsDue (get_or causes n never_logged) (get_or happened n 0) t) same due)
]

forth : {A B C : Type 0} → (A → C) → (B → C) → A ⊎ B → C
forth f g (inl a) = f a
forth f g (inr b) = g b

over : {A B C D : Type 0} → (A → C) → (B → D) → A ⊎ B → C ⊎ D
over f g (inl a) = inl (f a)
over f g (inr b) = inr (g b)

pub one_more : {E A N : Type 0} (causes : List ThrottledLog) (happened : List ℕ) (i t : ℕ) → (E ↔ (A ⊎ N)) → (A ↔ IsOneDueOf i causes happened t)
    → (N ↔ IsDue (get_or causes i never_logged) (get_or happened i 0) t) → E ↔ IsOneDueOf (i + 1) causes happened t
one_more causes happened i t e a n = (
  λ h. forth (λ x. more causes happened i t (a.0 x)) (λ x. (i, omega arith, n.0 x)) (e.0 h),
  λ d. e.1 (over a.1 n.1 (less causes happened i t d)),
)
