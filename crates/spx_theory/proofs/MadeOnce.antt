-- Each parcel is made by one entry, and so is each end: its number is how many there are before.
use Rattle.std.proofs.Common.{◌≡◌, ◌<◌, ◌≤◌, ◌⊎◌, ℕ, true, false, None, List, [], ◌∷◌, ◌++◌, length, refl, sym, ◌∙◌, ap, subst, arith, inl, inr, length-append, length-set}
use Rattle.spx_theory.specs.Below.{LawsBelow}
use Rattle.spx_theory.specs.Deeds.{Reached}
use Rattle.spx_theory.specs.Note.{Note, Opened, Accepted, Joined, Carried}
use Rattle.spx_theory.specs.Numbered.{IsNumbered}
use Rattle.spx_theory.specs.PremisesRead.{AreMadeOnce, MakesOnce, MakesParcel, MakesSomeEnd}
use Rattle.spx_theory.specs.Scan.{Mark, Role, Scan, asker, joined_by, mark_of, one_further, role_of, scan, seen, seen_all, unread}
use Rattle.spx_theory.specs.Scene.{Scene}
use Rattle.spx_theory.proofs.Folding.{seen_all-append}
use Rattle.spx_theory.proofs.Growing.{marks_grow}
use Rattle.spx_theory.proofs.LogOrigins.{made_seen, new_mark, numbered_in}
use Rattle.spx_theory.proofs.Numbering.{AllNumbered, are_numbered}

-- two indices of a list: the same one, or one before the other
abbrev Places : List Note → List Note → Note → Note → List Note → List Note → Type 0
Places before before' n n' after after' =
    ((before' ≡ before) × (n' ≡ n) × (after' ≡ after))
    ⊎ ((mid : List Note) × (before' ≡ before ++ n ∷ mid))
    ⊎ ((mid : List Note) × (before ≡ before' ++ n' ∷ mid))

places : (before before' after after' : List Note) (n n' : Note) → before ++ n ∷ after ≡ before' ++ n' ∷ after' → Places before before' n n' after after'
places [] [] after after' n n' is =
    let head : n' ≡ n = cc is in
    let tail : after' ≡ after = cc is in
    inl (refl, head, tail)
places [] (x ∷ xs) after after' n n' is = let head : x ≡ n = cc is in inr (inl (xs, ap (λ y. y ∷ xs) head))
places (x ∷ xs) [] after after' n n' is = let head : x ≡ n' = cc is in inr (inr (xs, ap (λ y. y ∷ xs) head))
places (x ∷ xs) (y ∷ ys) after after' n n' is =
    let head : y ≡ x = cc is in
    let tail : xs ++ n ∷ after ≡ ys ++ n' ∷ after' = cc is in
    elim (places xs ys after after' n n' tail) [
      | inl same ↦ inl (ap (λ z. z ∷ ys) head ∙ ap (λ zs. x ∷ zs) same.0, same.1, same.2)
      | inr apart ↦ elim apart [
        | inl past ↦ inr (inl (past.0, ap (λ z. z ∷ ys) head ∙ ap (λ zs. x ∷ zs) past.1))
        | inr past ↦ inr (inr (past.0, ap (λ z. z ∷ xs) (sym head) ∙ ap (λ zs. y ∷ zs) past.1))
      ]
    ]

-- what is numbered by a count that grows with each one
module _ (count : Scan → ℕ) (grows : (s : Scan) (ns : List Note) → count s ≤ count (seen_all s ns))
    (Makes : Note → ℕ → Type 0) (at : (s : Scan) (n : Note) (k : ℕ) → IsNumbered s n → Makes n k → (k ≡ count s) × (k < count (seen s n)))
    (log : List Note) (all : AllNumbered unread log) where
  -- an entry that makes the same does not come later
  not_later : (before after before' after' mid : List Note) (n n' : Note) (k : ℕ) → log ≡ before ++ n ∷ after → log ≡ before' ++ n' ∷ after' → before' ≡ before ++ n ∷ mid → Makes n k → Makes n' k → ⊥
  not_later before after before' after' mid n n' k is is' past makes makes' =
      let one = at (scan before) n k (numbered_in log before after n all is) makes in
      let two = at (scan before') n' k (numbered_in log before' after' n' all is') makes' in
      let there : count (scan before') ≡ count (seen_all (seen (scan before) n) mid) = ap (λ l. count (scan l)) past ∙ ap count (seen_all-append unread before (n ∷ mid)) in
      absurd (omega (arith, one.1, two.0, there, grows (seen (scan before) n) mid))

  pub once : MakesOnce log Makes
  once before after before' after' n n' k is is' makes makes' =
      elim (places before before' after after' n n' (sym is ∙ is')) [
        | inl same ↦ same
        | inr apart ↦ elim apart [
          | inl past ↦ absurd (not_later before after before' after' past.0 n n' k is is' past.1 makes makes')
          | inr past ↦ absurd (not_later before' after' before after past.0 n' n k is' is past.1 makes' makes)
        ]
      ]

-- ---- parcels

marks_more : (s : Scan) (ns : List Note) → length s.marks ≤ length (seen_all s ns).marks
marks_more s ns =
    let g = marks_grow s ns in
    omega (arith, ap length g.1, length-append s.marks g.0)

parcel_number : (s : Scan) (n : Note) (k : ℕ) → IsNumbered s n → MakesParcel n k → (k ≡ length s.marks) × (k < length (seen s n).marks)
parcel_number s n k is makes =
    elim makes [
      | inl anew ↦
          let m = made_seen s n k is anew in
          (m.0, omega (arith, m.0, ap length m.1, length-append s.marks (new_mark s n k ∷ [])))
      | inr carries ↦
          let is' : IsNumbered s (Carried carries.0 k) = subst (IsNumbered s) carries.1 is in
          let m : Mark = one_further (mark_of s carries.0) in
          let marks : (seen s n).marks ≡ s.marks ++ m ∷ [] = ap (λ x. (seen s x).marks) carries.1 in
          (is'.1, omega (arith, is'.1, ap length marks, length-append s.marks (m ∷ [])))
    ]

-- ---- ends

roles_on : (s : Scan) (n : Note) → length s.roles ≤ length (seen s n).roles
roles_on s (Opened who host buffers) =
    let r : Role = record { buffers = buffers; called = true; joined = false; partner = None } in
    omega (arith, length-append s.roles (r ∷ []))
roles_on s (Accepted who parcel buffers) =
    let r : Role = record { buffers = buffers; called = false; joined = true; partner = asker (mark_of s parcel).maker } in
    omega (arith, length-append s.roles (r ∷ []))
roles_on s (Joined who parcel) = omega (arith, length-set s.roles who (joined_by (mark_of s parcel).maker (role_of s who)))
roles_on s n = omega arith

roles_more : (s : Scan) (ns : List Note) → length s.roles ≤ length (seen_all s ns).roles
roles_more s [] = omega arith
roles_more s (n ∷ ns) = omega (arith, roles_on s n, roles_more (seen s n) ns)

end_number : (s : Scan) (n : Note) (k : ℕ) → IsNumbered s n → MakesSomeEnd n k → (k ≡ length s.roles) × (k < length (seen s n).roles)
end_number s n k is makes =
    elim makes.1 [
      | inl opens ↦
          let at : k ≡ length s.roles = subst (IsNumbered s) opens.1 is in
          let r : Role = record { buffers = makes.0; called = true; joined = false; partner = None } in
          let roles : (seen s n).roles ≡ s.roles ++ r ∷ [] = ap (λ x. (seen s x).roles) opens.1 in
          (at, omega (arith, at, ap length roles, length-append s.roles (r ∷ [])))
      | inr accepts ↦
          let at : IsNumbered s (Accepted k accepts.0 makes.0) = subst (IsNumbered s) accepts.1 is in
          let r : Role = record { buffers = makes.0; called = false; joined = true; partner = asker (mark_of s accepts.0).maker } in
          let roles : (seen s n).roles ≡ s.roles ++ r ∷ [] = ap (λ x. (seen s x).roles) accepts.1 in
          (at.0, omega (arith, at.0, ap length roles, length-append s.roles (r ∷ [])))
    ]

pub made_once : (laws : LawsBelow) (s : Scene) → Reached s → AreMadeOnce s.log
made_once laws s reached =
    let all = (are_numbered laws reached).all in
    record {
      parcels = once (λ (z : Scan). length z.marks) marks_more MakesParcel parcel_number s.log all;
      ends = once (λ (z : Scan). length z.roles) roles_more MakesSomeEnd end_number s.log all;
    }
