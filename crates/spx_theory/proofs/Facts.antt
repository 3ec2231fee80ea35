-- Invariants of every scene that can be reached, whatever was injected.
use Rattle.std.proofs.Common.{◌≡◌, ◌≢◌, ◌+◌, ◌≤◌, ◌<◌, ℕ, zero, suc, false, List, [], ◌∷◌, ◌++◌, length, set, Some, None, refl, sym, ◌∙◌, inl, inr, ap, subst, arith, length-append, length-set}
use Rattle.std.specs.Prelude.{slice_get}
use Rattle.std.proofs.lemmas.Bool.{cases_lt, cases_eq}
use Rattle.std.proofs.lemmas.Option.{slice_get_within}
use Rattle.spx_link.specs.declared.state.State.TheVariants.{Opening}
use Rattle.spx_link.specs.LinkView.{LinkView}
use Rattle.spx_theory.specs.Note.{Note}
use Rattle.spx_theory.specs.Scan.{Scan, Mark, Role, nowhere}
use Rattle.spx_theory.specs.Peers.{end_of}
use Rattle.spx_theory.specs.Scene.{PresentEnd}
use Rattle.spx_theory.proofs.Lists.{get_last, get_set}
use Rattle.spx_theory.proofs.Tied.{mark_at}
use Rattle.spx_theory.proofs.Adding.{mark_before, mark_here}
use Rattle.spx_theory.proofs.Folding.{AreIn, NoteIn, are_more, are-append}

-- a link that is opening has not joined
abbrev pub OpeningsAreUnjoined : List PresentEnd → List Role → Type 0
OpeningsAreUnjoined ends roles = (who : ℕ) (e : PresentEnd) (l : LinkView) (r : Role) → slice_get ends who ≡ Some e → e.link ≡ Some l → l.state ≡ Opening → slice_get roles who ≡ Some r → r.joined ≡ false

abbrev pub MakersAreThere : ℕ → List Mark → Type 0
MakersAreThere count marks = (k e : ℕ) → end_of (mark_at marks k).maker ≡ Some e → e < count

pub record Facts (ends : List PresentEnd) (parcels : List (List ℕ)) (s : Scan) (log : List Note) : Type 0 where
  pub count : length s.marks ≡ length parcels
  pub roles : length s.roles ≡ length ends
  pub newest : s.newest ≡ None
  pub are : AreIn (length parcels) log
  pub makers : MakersAreThere (length ends) s.marks
  pub opening : OpeningsAreUnjoined ends s.roles

pub nothing_past : (marks : List Mark) (k : ℕ) → length marks ≤ k → mark_at marks k ≡ nowhere
nothing_past [] k past = refl
nothing_past (m ∷ ms) zero past = absurd (omega (arith, past))
nothing_past (m ∷ ms) (suc k) past = nothing_past ms k (omega (arith, past))

-- one end is replaced, whose link is not opening
pub opening_set : (ends : List PresentEnd) (roles : List Role) (who : ℕ) (old new : PresentEnd) → slice_get ends who ≡ Some old
    → ((m : LinkView) → new.link ≡ Some m → m.state ≡ Opening → (l : LinkView) × (old.link ≡ Some l) × (l.state ≡ Opening))
    → OpeningsAreUnjoined ends roles → OpeningsAreUnjoined (set ends who new) roles
opening_set ends roles who old new there back facts j e l r at is opens role =
    elim (get_set ends who j new e at) [
      | inl here ↦
          let was = back l (ap (λ (x : PresentEnd). x.link) here.1 ∙ is) opens in
          facts j old was.0 r (ap (slice_get ends) (sym here.0) ∙ there) was.1 was.2 role
      | inr other ↦ facts j e l r other.1 is opens role
    ]

pub facts_noted : (ends ends' : List PresentEnd) (parcels : List (List ℕ)) (s t : Scan) (log ns : List Note) → length ends' ≡ length ends
    → t.marks ≡ s.marks → t.roles ≡ s.roles → t.newest ≡ None → AreIn (length parcels) ns → OpeningsAreUnjoined ends' s.roles
    → Facts ends parcels s log → Facts ends' parcels t (log ++ ns)
facts_noted ends ends' parcels s t log ns same marks roles newest are opening f =
    record {
      count = ap length marks ∙ f.count;
      roles = ap length roles ∙ f.roles ∙ sym same;
      newest = newest;
      are = are-append (length parcels) log ns f.are are;
      makers = λ k e by. omega (arith, same, f.makers k e (ap (λ ms. end_of (mark_at ms k).maker) (sym marks) ∙ by));
      opening = subst (OpeningsAreUnjoined ends') (sym roles) opening;
    }

pub facts_sent : (ends ends' : List PresentEnd) (parcels : List (List ℕ)) (bytes : List ℕ) (s t : Scan) (m : Mark) (log : List Note) (n : Note) → length ends' ≡ length ends
    → t.marks ≡ s.marks ++ m ∷ [] → ((e : ℕ) → end_of m.maker ≡ Some e → e < length ends) → t.roles ≡ s.roles → t.newest ≡ None → NoteIn (length parcels + 1) n → OpeningsAreUnjoined ends' s.roles
    → Facts ends parcels s log → Facts ends' (parcels ++ bytes ∷ []) t (log ++ n ∷ [])
facts_sent ends ends' parcels bytes s t m log n same marks by roles newest is opening f =
    let more : length (parcels ++ bytes ∷ []) ≡ length parcels + 1 = length-append parcels (bytes ∷ []) in
    record {
      count = omega (arith, ap length marks, length-append s.marks (m ∷ []), more, f.count);
      roles = ap length roles ∙ f.roles ∙ sym same;
      newest = newest;
      are = subst (λ k. AreIn k (log ++ n ∷ [])) (sym more) (are-append (length parcels + 1) log (n ∷ []) (are_more (length parcels) 1 log f.are) (is, tt));
      makers = λ k e made.
          let at : end_of (mark_at (s.marks ++ m ∷ []) k).maker ≡ Some e = ap (λ ms. end_of (mark_at ms k).maker) (sym marks) ∙ made in
          elim (cases_lt k (length s.marks)) [
            | inl before ↦ omega (arith, same, f.makers k e (ap (λ (x : Mark). end_of x.maker) (sym (mark_before s.marks m k before)) ∙ at))
            | inr past ↦ elim (cases_eq k (length s.marks)) [
              | inl here ↦ omega (arith, same, by e (ap (λ (x : Mark). end_of x.maker) (sym (ap (mark_at (s.marks ++ m ∷ [])) here ∙ mark_here s.marks m)) ∙ at))
              | inr ne ↦
                  let beyond : length (s.marks ++ m ∷ []) ≤ k = omega (arith, past, ne, length-append s.marks (m ∷ [])) in
                  absurd (cc (sym (ap (λ (x : Mark). end_of x.maker) (nothing_past (s.marks ++ m ∷ []) k beyond)) ∙ at))
            ]
          ];
      opening = subst (OpeningsAreUnjoined ends') (sym roles) opening;
    }

pub facts_end : (ends : List PresentEnd) (e : PresentEnd) (parcels : List (List ℕ)) (s t : Scan) (r : Role) (log ns : List Note)
    → t.marks ≡ s.marks → t.roles ≡ s.roles ++ r ∷ [] → t.newest ≡ None → AreIn (length parcels) ns
    → ((l : LinkView) → e.link ≡ Some l → l.state ≡ Opening → r.joined ≡ false)
    → Facts ends parcels s log → Facts (ends ++ e ∷ []) parcels t (log ++ ns)
facts_end ends e parcels s t r log ns marks roles newest are opens f =
    record {
      count = ap length marks ∙ f.count;
      roles = omega (arith, ap length roles, length-append s.roles (r ∷ []), length-append ends (e ∷ []), f.roles);
      newest = newest;
      are = are-append (length parcels) log ns f.are are;
      makers = λ k x by. omega (arith, length-append ends (e ∷ []), f.makers k x (ap (λ ms. end_of (mark_at ms k).maker) (sym marks) ∙ by));
      opening = subst (OpeningsAreUnjoined (ends ++ e ∷ [])) (sym roles)
          (λ j x l q at is open' role. elim (get_last ends e x j at) [
            | inl before ↦ elim (get_last s.roles r q j role) [
              | inl was ↦ f.opening j x l q before is open' was
              | inr new ↦ absurd (omega (arith, new.0, f.roles, slice_get_within ends j x before))
            ]
            | inr here ↦ elim (get_last s.roles r q j role) [
              | inl was ↦ absurd (omega (arith, here.0, f.roles, slice_get_within s.roles j q was))
              | inr new ↦ ap (λ (y : Role). y.joined) (sym new.1) ∙ opens l (ap (λ (y : PresentEnd). y.link) here.1 ∙ is) open'
            ]
          ]);
    }

-- an end joined: its link is no longer opening
pub facts_joined : (ends : List PresentEnd) (who : ℕ) (new : PresentEnd) (parcels : List (List ℕ)) (s t : Scan) (r : Role) (log ns : List Note)
    → t.marks ≡ s.marks → t.roles ≡ set s.roles who r → t.newest ≡ None → AreIn (length parcels) ns
    → ((l : LinkView) → new.link ≡ Some l → l.state ≢ Opening)
    → Facts ends parcels s log → Facts (set ends who new) parcels t (log ++ ns)
facts_joined ends who new parcels s t r log ns marks roles newest are closed f =
    record {
      count = ap length marks ∙ f.count;
      roles = ap length roles ∙ length-set s.roles who r ∙ f.roles ∙ sym (length-set ends who new);
      newest = newest;
      are = are-append (length parcels) log ns f.are are;
      makers = λ k x by. omega (arith, length-set ends who new, f.makers k x (ap (λ ms. end_of (mark_at ms k).maker) (sym marks) ∙ by));
      opening = subst (OpeningsAreUnjoined (set ends who new)) (sym roles)
          (λ j x l q at is open' role. elim (get_set ends who j new x at) [
            | inl here ↦ absurd (closed l (ap (λ (y : PresentEnd). y.link) here.1 ∙ is) open')
            | inr other ↦ elim (get_set s.roles who j r q role) [
              | inl same ↦ absurd (other.0 same.0)
              | inr was ↦ f.opening j x l q other.1 is open' was.1
            ]
          ]);
    }
