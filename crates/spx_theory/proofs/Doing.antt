-- Deeds one after another; and polls that give nothing at many ends are a list of deeds.
use Rattle.std.proofs.Common.{◌≡◌, ◌⊎◌, ℕ, zero, suc, List, [], ◌∷◌, ◌++◌, length, Some, None, refl, sym, ◌∙◌, inl, inr, ap, subst, arith, append_assoc}
use Rattle.std.specs.Prelude.{slice_get}
use Rattle.spx_link.specs.LinkView.{LinkView}
use Rattle.spx_link.specs.Poll.{poll_link}
use Rattle.spx_theory.specs.Scene.{Scene, PresentEnd, linked}
use Rattle.spx_theory.specs.Deeds.{Deed, DoesDeed, Rests, Reached, happened}
use Rattle.spx_theory.specs.DeedRuns.{DoesAll, Deeds}
use Rattle.spx_theory.proofs.Places.{get_past, set_past}

pub no_deed : (old new : Scene) → new ≡ old → Deeds old new
no_deed old new e = ([], e)

pub one_deed : (d : Deed) (old new : Scene) → DoesDeed d old new → Deeds old new
one_deed d old new does = (d ∷ [], (new, does, refl))

does_more : (ds es : List Deed) (a b c : Scene) → DoesAll ds a b → DoesAll es b c → DoesAll (ds ++ es) a c
does_more [] es a b c one two = subst (λ s. DoesAll es s c) one two
does_more (d ∷ ds) es a b c one two = (one.0, one.1, does_more ds es one.0 b c one.2 two)

pub then : (a b c : Scene) → Deeds a b → Deeds b c → Deeds a c
then a b c one two = (one.0 ++ two.0, does_more one.0 two.0 a b c one.1 two.1)

-- a scene that can be reached still can after deeds
reached_all : (ds : List Deed) (old new : Scene) → Reached old → DoesAll ds old new → Reached new
reached_all [] old new r does = subst Reached (sym does) r
reached_all (d ∷ ds) old new r does = reached_all ds does.0 new (happened old d r does.1) does.2

pub reached_after : (old new : Scene) → Reached old → Deeds old new → Reached new
reached_after old new r deeds = reached_all deeds.0 old new r deeds.1

-- ---- many polls that give nothing

abbrev pub RestsOr : ℕ → PresentEnd → PresentEnd → Type 0
RestsOr now x y = (y ≡ x) ⊎ ((l : LinkView) × (x.link ≡ Some l) × ((poll_link l now).0 ≡ None) × (y ≡ linked x (poll_link l now).1))

abbrev pub with_ends : Scene → List PresentEnd → Scene
with_ends s ends = record s { ends = ends }

step_on : (s : Scene) (now : ℕ) (done : List PresentEnd) (x y : PresentEnd) (xs : List PresentEnd) → RestsOr now x y → Deeds (with_ends s (done ++ x ∷ xs)) (with_ends s (done ++ y ∷ xs))
step_on s now done x y xs rests = elim rests [
  | inl same ↦ no_deed (with_ends s (done ++ x ∷ xs)) (with_ends s (done ++ y ∷ xs)) (ap (λ z. with_ends s (done ++ z ∷ xs)) same)
  | inr asked ↦ one_deed (Rests (length done) now) (with_ends s (done ++ x ∷ xs)) (with_ends s (done ++ y ∷ xs)) (record {
    stand = x;
    link = asked.0;
    stands = record { there = get_past done x xs; link = asked.1 };
    gives = asked.2;
    after = ap (with_ends s) (ap (λ z. done ++ z ∷ xs) asked.3 ∙ sym (set_past done x (linked x (poll_link asked.0 now).1) xs));
  })
]

rest_on : (s : Scene) (now : ℕ) (done xs ys : List PresentEnd) → length xs ≡ length ys
    → ((j : ℕ) (x y : PresentEnd) → slice_get xs j ≡ Some x → slice_get ys j ≡ Some y → RestsOr now x y) → Deeds (with_ends s (done ++ xs)) (with_ends s (done ++ ys))
rest_on s now done [] [] same each = no_deed (with_ends s (done ++ [])) (with_ends s (done ++ [])) refl
rest_on s now done [] (y ∷ ys) same each = absurd (omega (arith, same))
rest_on s now done (x ∷ xs) [] same each = absurd (omega (arith, same))
rest_on s now done (x ∷ xs) (y ∷ ys) same each =
    let further : Deeds (with_ends s ((done ++ y ∷ []) ++ xs)) (with_ends s ((done ++ y ∷ []) ++ ys)) =
    rest_on s now (done ++ y ∷ []) xs ys (omega (arith, same)) (λ j a b at there. each (suc j) a b at there) in
    let from : Deeds (with_ends s (done ++ y ∷ xs)) (with_ends s ((done ++ y ∷ []) ++ ys)) =
    subst (λ es. Deeds (with_ends s es) (with_ends s ((done ++ y ∷ []) ++ ys))) (append_assoc done (y ∷ []) xs) further in
    let to : Deeds (with_ends s (done ++ y ∷ xs)) (with_ends s (done ++ y ∷ ys)) =
    subst (λ es. Deeds (with_ends s (done ++ y ∷ xs)) (with_ends s es)) (append_assoc done (y ∷ []) ys) from in
    then (with_ends s (done ++ x ∷ xs)) (with_ends s (done ++ y ∷ xs)) (with_ends s (done ++ y ∷ ys)) (step_on s now done x y xs (each zero x y refl refl)) to

-- each end is polled and gives nothing, or stays as it is
pub all_rest : (s : Scene) (now : ℕ) (ys : List PresentEnd) → length s.ends ≡ length ys
    → ((j : ℕ) (x y : PresentEnd) → slice_get s.ends j ≡ Some x → slice_get ys j ≡ Some y → RestsOr now x y) → Deeds s (with_ends s ys)
all_rest s now ys same each = rest_on s now [] s.ends ys same each
