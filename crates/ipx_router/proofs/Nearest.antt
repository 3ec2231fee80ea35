-- The nearest service, with one more service at a time.
use Rattle.std.proofs.Common.{◌≡◌, ℕ, Bool, true, false, cond, List, [], ◌∷◌, ◌++◌, Option, Some, None, refl, sym, ap, ◌∙◌, subst, inl, inr}
use mathlib.Core.Bool.{true≢false}
use Rattle.std.specs.Prelude.{Contains, MatchOption}
use Rattle.std.specs.Cmp.{IsTotalOrder}
use Rattle.std.specs.Ordering.{is_lt, ordering_reverse}
use Rattle.std.specs.declared.cmp.Ordering.{Ordering}
use Rattle.std.specs.declared.cmp.Ordering.TheVariants.{Less, Equal, Greater}
use Rattle.std.proofs.lemmas.Cmp.{nat_cmp_total, nat_list_cmp_total, on_total, then_total}
use Rattle.std.proofs.lemmas.List.Elements.{Contains-append_left, Contains-push, Contains-push_cases}
use Rattle.ipx_control.specs.declared.sap.packet.ServiceEntry.{ServiceEntry}
use Rattle.ipx_router.specs.Replying.{IsNearest, NoneIsNear, is_near, is_nearer, nearness}
use Rattle.ipx_router.specs.Picking.{nearer}

nearness_total : IsTotalOrder nearness
nearness_total =
    then_total (on_total (λ (e : ServiceEntry). e.hops) nat_cmp_total)
    (then_total (on_total (λ (e : ServiceEntry). e.name) nat_list_cmp_total)
    (then_total
    (then_total (on_total (λ (e : ServiceEntry). e.at.network.0) nat_cmp_total) (then_total (on_total (λ (e : ServiceEntry). e.at.node.0) nat_list_cmp_total) (on_total (λ (e : ServiceEntry). e.at.socket.0) nat_cmp_total)))
    (on_total (λ (e : ServiceEntry). e.kind) nat_cmp_total)))

is_less : (r : Ordering) → is_lt r ≡ true → r ≡ Less
is_less Less h = refl
is_less Equal h = cc
is_less Greater h = cc

no_less : (r : Ordering) → r ≡ ordering_reverse r → is_lt r ≡ false
no_less Less h = cc
no_less Equal h = refl
no_less Greater h = cc

not_nearer_itself : (e : ServiceEntry) → is_nearer e e ≡ false
not_nearer_itself e = no_less (nearness e e) (nearness_total.antisymm e e)

decide : (b : Bool) → (b ≡ true → b ≡ false) → b ≡ false
decide true h = h refl
decide false h = refl

-- if x is not nearer than h, and y is nearer than h, then x is not nearer than y
not_nearer_than_nearer : (x y h : ServiceEntry) → is_nearer y h ≡ true → is_nearer x h ≡ false → is_nearer x y ≡ false
not_nearer_than_nearer x y h near far =
    decide (is_nearer x y) (λ e. absurd (true≢false (sym (ap is_lt (nearness_total.trans x y h (is_less (nearness x y) e) (is_less (nearness y h) near))) ∙ far)))

-- a service that is not near changes nothing
pub nearest_skip : (held : Option ServiceEntry) (told : List ServiceEntry) (kind : ℕ) (y : ServiceEntry) → MatchOption held (NoneIsNear (Contains told) kind) (IsNearest (Contains told) kind) → is_near kind y ≡ false
    → MatchOption held (NoneIsNear (Contains (told ++ y ∷ [])) kind) (IsNearest (Contains (told ++ y ∷ [])) kind)
nearest_skip None told kind y n far = λ x c. elim (Contains-push_cases told y x c) [
  | inl old ↦ n x old
  | inr same ↦ subst (λ v. is_near kind v ≡ false) same far
]
nearest_skip (Some h) told kind y n far = record {
  told = Contains-append_left told (y ∷ []) h n.told;
  near = n.near;
  least = λ x c near. elim (Contains-push_cases told y x c) [
    | inl old ↦ n.least x old near
    | inr same ↦ absurd (true≢false (sym near ∙ ap (is_near kind) (sym same) ∙ far))
  ];
}

kept : (told : List ServiceEntry) (kind : ℕ) (h y : ServiceEntry) → IsNearest (Contains told) kind h → is_near kind y ≡ true → (b : Bool) → is_nearer y h ≡ b → IsNearest (Contains (told ++ y ∷ [])) kind (cond b y h)
kept told kind h y n near true e = record {
  told = Contains-push told y;
  near = near;
  least = λ x c near_x. elim (Contains-push_cases told y x c) [
    | inl old ↦ not_nearer_than_nearer x y h e (n.least x old near_x)
    | inr same ↦ subst (λ v. is_nearer v y ≡ false) same (not_nearer_itself y)
  ];
}
kept told kind h y n near false e = record {
  told = Contains-append_left told (y ∷ []) h n.told;
  near = n.near;
  least = λ x c near_x. elim (Contains-push_cases told y x c) [
    | inl old ↦ n.least x old near_x
    | inr same ↦ subst (λ v. is_nearer v h ≡ false) same e
  ];
}

-- the nearer of a near service and the held one is the nearest
pub nearest_more : (held : Option ServiceEntry) (told : List ServiceEntry) (kind : ℕ) (y : ServiceEntry) → MatchOption held (NoneIsNear (Contains told) kind) (IsNearest (Contains told) kind) → is_near kind y ≡ true
    → IsNearest (Contains (told ++ y ∷ [])) kind (nearer held y)
nearest_more None told kind y n near = record {
  told = Contains-push told y;
  near = near;
  least = λ x c near_x. elim (Contains-push_cases told y x c) [
    | inl old ↦ absurd (true≢false (sym near_x ∙ n x old))
    | inr same ↦ subst (λ v. is_nearer v y ≡ false) same (not_nearer_itself y)
  ];
}
nearest_more (Some h) told kind y n near = kept told kind h y n near (is_nearer y h) refl
