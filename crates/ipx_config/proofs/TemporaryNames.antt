-- Names of files, and of those to which they are written first.
use Rattle.std.proofs.Common.{◌≡◌, ◌+◌, ◌-◌, ◌++◌, ◌∙◌, ℕ, Bool, IsTrue, true, List, ap, arith, drop, length, length-append, sym, take}
use Rattle.std.specs.Cmp.Lexicographic.{pointwise}
use Rattle.std.specs.Prelude.{nat_eq}
use Rattle.std.proofs.lemmas.Slice.Eq.{bytes_eq-Decides}
use Rattle.std.proofs.lemmas.List.{take-append-drop}
use Rattle.std.proofs.Math.Seq.{drop-append_seam, take-append_seam}

-- a name with this ending is what comes before it, followed by it
pub ends_so : (name front end : List ℕ) → drop (length name - length end) name ≡ end → front ≡ take (length name - length end) name → name ≡ front ++ end
ends_so name front end last first =
    let whole : take (length name - length end) name ++ drop (length name - length end) name ≡ name = take-append-drop (length name - length end) name in cc

-- the length of what comes before
before_end : (name other end : List ℕ) → name ≡ other ++ end → length name - length end ≡ length other
before_end name other end is =
    let long : length name ≡ length other + length end = ap length is ∙ length-append other end in
    omega (arith, long)

-- and it does have this ending
pub ends_with_it : (name other end : List ℕ) → name ≡ other ++ end → drop (length name - length end) name ≡ end
ends_with_it name other end is =
    let at : length name - length end ≡ length other = before_end name other end is in
    ap (λ (k : ℕ). drop k name) at ∙ ap (λ (l : List ℕ). drop (length other) l) is ∙ drop-append_seam other end

pub front_of_it : (name other end : List ℕ) → name ≡ other ++ end → take (length name - length end) name ≡ other
front_of_it name other end is =
    let at : length name - length end ≡ length other = before_end name other end is in
    ap (λ (k : ℕ). take k name) at ∙ ap (λ (l : List ℕ). take (length other) l) is ∙ take-append_seam other end

-- what is left of a name before its ending decides whether it is another name with this ending
pub tells_name : (name other end whole last front rest : List ℕ) (same : Bool) → whole ≡ name → last ≡ end
    → front ≡ take (length whole - length last) whole → pointwise nat_eq (drop (length whole - length last) whole) last ≡ true
    → same ≡ pointwise nat_eq front rest → rest ≡ other
    → (IsTrue same → name ≡ other ++ end) × (name ≡ other ++ end → IsTrue same)
tells_name name other end whole last front rest same is ends first tail tells left =
    let at_end : drop (length whole - length last) whole ≡ last = (bytes_eq-Decides (drop (length whole - length last) whole) last).0 tail in
    let parts : whole ≡ front ++ last = ends_so whole front last at_end first in (
      λ (h : same ≡ true).
          let fronts : front ≡ rest = (bytes_eq-Decides front rest).0 (sym tells ∙ h) in
          sym is ∙ parts ∙ ap (λ (l : List ℕ). l ++ last) (fronts ∙ left) ∙ ap (λ (l : List ℕ). other ++ l) ends,
      λ (h : name ≡ other ++ end).
          let joined : whole ≡ other ++ last = is ∙ h ∙ ap (λ (l : List ℕ). other ++ l) (sym ends) in
          tells ∙ (bytes_eq-Decides front rest).1 (first ∙ front_of_it whole other last joined ∙ sym left),
    )
