-- Strict total orders, and comparisons in which no two different values are equal.
use Rattle.std.specs.Prelude.{◌≡◌, Bool, true, false, refl}
use Rattle.std.proofs.Common.{sym, ap, ◌∙◌}
use Rattle.std.specs.Cmp.{IsTotalOrder}
use Rattle.std.specs.declared.cmp.Ordering.{Ordering}
use Rattle.std.specs.declared.cmp.Ordering.TheVariants.{Less, Equal, Greater}
use Rattle.std.specs.Ordering.{is_lt, ordering_reverse}

-- of two different values exactly one is before the other
pub record IsStrictTotal {M : Type 0} (before : M → M → Bool) : Type 0 where
  pub irreflexive : (x : M) → before x x ≡ false
  pub transitive : (x y z : M) → before x y ≡ true → before y z ≡ true → before x z ≡ true
  pub total : (x y : M) → before x y ≡ false → before y x ≡ false → x ≡ y

-- no two different values compare as equal
abbrev pub EqualOnlyIfSame : {K : Type 0} → (K → K → Ordering) → Type 0
EqualOnlyIfSame {K} cmp = (a b : K) → cmp a b ≡ Equal → a ≡ b

module _ {M : Type 0} {R : M → M → Ordering} (o : IsTotalOrder R) (exact : EqualOnlyIfSame R) where
  is_less : (r : Ordering) → is_lt r ≡ true → r ≡ Less
  is_less Less h = refl
  is_less Equal h = cc
  is_less Greater h = cc

  not_itself : (r : Ordering) → r ≡ ordering_reverse r → is_lt r ≡ false
  not_itself Less h = cc
  not_itself Equal h = refl
  not_itself Greater h = refl

  neither : (r : Ordering) → is_lt r ≡ false → is_lt (ordering_reverse r) ≡ false → r ≡ Equal
  neither Less h k = cc
  neither Equal h k = refl
  neither Greater h k = cc

  -- `less` of a total order in which no two different values are equal is a strict total order
  pub strict_from_cmp : IsStrictTotal (λ x y. is_lt (R x y))
  strict_from_cmp = record {
    irreflexive = λ x. not_itself (R x x) (o.antisymm x x);
    transitive = λ x y z h k. ap is_lt (o.trans x y z (is_less (R x y) h) (is_less (R y z) k));
    total = λ x y h k. exact x y (neither (R x y) h (ap is_lt (sym (o.antisymm y x)) ∙ k));
  }
