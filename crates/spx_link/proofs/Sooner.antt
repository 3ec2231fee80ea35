-- Before the first of some links is due every poll of each is quiet, and from then on one acts.
use Rattle.std.proofs.Common.{◌≡◌, ℕ, zero, suc, ◌+◌, ◌^◌, ◌<◌, ◌≤◌, min, Bool, true, false, ◌==◌, ◌&&◌, nat_lt, refl, ap, sym, subst, ◌∙◌, List, [], ◌∷◌, ◌++◌, length, take, Option, None, Some, get_or, slice_index_or, arith}
use Rattle.std.proofs.lemmas.Bool.Decides.{nat_tests}
use Rattle.std.proofs.lemmas.List.{take_more}
use Rattle.spx_link.specs.declared.state.State.{State}
use Rattle.spx_link.specs.declared.state.State.TheVariants as States
use Rattle.spx_link.specs.Due.{IsQuiet, IsNextDue, IsNextDueOfAll, earliest, again_at, owes_now, probe_due, sent_due, asked_due, again_due, working_due, joined_due, due_at, due_link, sooner, soonest}
use Rattle.spx_link.specs.LinkView.{LinkView, is_working}
use Rattle.spx_link.specs.Links.{LinksView, link_at}
use Rattle.spx_link.specs.Poll as P
use Rattle.spx_link.specs.Sound.{ids_of, AreIdsDistinct}
use Rattle.spx_link.proofs.Apart.{stands}
use Rattle.spx_link.proofs.Carrying.{by_test}
use Rattle.spx_link.proofs.Found.{place_of_found}
use Rattle.spx_link.proofs.Waiting.{next_due}

-- ---- the loop

sooner_turns : (a b r : Option ℕ) → sooner a (sooner b r) ≡ sooner b (sooner a r)
sooner_turns None b r = refl
sooner_turns (Some a) None r = refl
sooner_turns (Some a) (Some b) None = ap Some (omega arith)
sooner_turns (Some a) (Some b) (Some n) = ap Some (omega arith)

soonest_more : (ls : List LinkView) (x : LinkView) → soonest (ls ++ x ∷ []) ≡ sooner (due_link x) (soonest ls)
soonest_more [] x = refl
soonest_more (l ∷ ls) x =
    let f : Option ℕ → Option ℕ = λ r. sooner (due_link l) r in
    ap f (soonest_more ls x) ∙ sooner_turns (due_link l) (due_link x) (soonest ls)

pub soonest_next : (ls : List LinkView) (i : ℕ) (x : LinkView) → i < length ls → x ≡ get_or ls i x → soonest (take (i + 1) ls) ≡ sooner (due_link x) (soonest (take i ls))
soonest_next ls i x less at =
    ap soonest (take_more ls i x less) ∙ ap (λ (y : LinkView). soonest (take i ls ++ y ∷ [])) (sym at) ∙ soonest_more (take i ls) x

-- ---- moments that a clock can show

abbrev Shown : Option ℕ → Type 0
Shown None = Unit {0}
Shown (Some t) = t < 2 ^ 64

again_shown : (at : ℕ) → Shown (again_at at)
again_shown at = by_test Shown (nat_lt (at + 500) (2 ^ 64)) (Some (at + 500)) None (λ less. grind (arith, nat_tests)) (λ _. tt)

zero_shown : Shown (Some 0)
zero_shown = omega arith

probe_shown : (l : LinkView) → Shown (probe_due l)
probe_shown l = by_test Shown (P.is_waiting l && (l.room == 0)) (again_at l.spoke) None (λ _. again_shown l.spoke) (λ _. tt)

sent_shown : (l : LinkView) (o : Option ℕ) → Shown (sent_due l o)
sent_shown l None = probe_shown l
sent_shown l (Some at) = again_shown at

asked_shown : (l : LinkView) (o : Option ℕ) → Shown (asked_due l o)
asked_shown l (Some place) = zero_shown
asked_shown l None = by_test Shown (l.out == 0) (probe_due l) None (λ _. probe_shown l) (λ _. tt)

again_due_shown : (l : LinkView) → Shown (again_due l)
again_due_shown l = by_test Shown l.manual (asked_due l (P.asked_again l)) (sent_due l (earliest (take l.out l.queue))) (λ _. asked_shown l (P.asked_again l)) (λ _. sent_shown l (earliest (take l.out l.queue)))

joined_shown : (l : LinkView) → Shown (joined_due l)
joined_shown l =
    by_test Shown (owes_now l) (Some 0) (working_due l) (λ _. zero_shown)
    (λ _. by_test Shown (is_working l.state) (again_due l) None (λ _. again_due_shown l) (λ _. tt))

due_at_shown : (s : State) (l : LinkView) → Shown (due_at s l)
due_at_shown States.Opening l = by_test Shown (l.asked_count == 0) (Some 0) (again_at l.asked_at) (λ _. zero_shown) (λ _. again_shown l.asked_at)
due_at_shown States.Live l = joined_shown l
due_at_shown States.Ending l = joined_shown l
due_at_shown States.PeerEnded l = joined_shown l
due_at_shown States.Confirmed l = joined_shown l
due_at_shown States.Lost l = tt

-- ---- before it

-- a moment before another, or one that a clock can show where there is no other
abbrev Before : ℕ → Option ℕ → Type 0
Before now None = now < 2 ^ 64
Before now (Some t) = now < t

quiet_before : (l : LinkView) (now : ℕ) (o : Option ℕ) → IsNextDue l o → Before now o → IsQuiet l now
quiet_before l now None due before = due now before
quiet_before l now (Some t) due before = due.0 now before

before_both : (now : ℕ) (a b : Option ℕ) → Shown a → Shown b → Before now (sooner a b) → Before now a × Before now b
before_both now None None sa sb before = (before, before)
before_both now None (Some b) sa sb before = (omega (arith, sb), before)
before_both now (Some a) None sa sb before = (before, omega (arith, sa))
before_both now (Some a) (Some b) sa sb before = (omega arith, omega arith)

soonest_shown : (ls : List LinkView) → Shown (soonest ls)
soonest_shown [] = tt
soonest_shown (l ∷ ls) = both (due_link l) (soonest ls) (due_at_shown l.state l) (soonest_shown ls)
  where
    both : (a b : Option ℕ) → Shown a → Shown b → Shown (sooner a b)
    both None b sa sb = sb
    both (Some a) None sa sb = sa
    both (Some a) (Some b) sa sb = omega arith

all_before : (ls : List LinkView) (now k : ℕ) (d : LinkView) → Before now (soonest ls) → k < length ls → IsQuiet (slice_index_or ls k d) now
all_before [] now k d before less = absurd (omega arith)
all_before (l ∷ ls) now zero d before less =
    quiet_before l now (due_link l) (next_due l) (before_both now (due_link l) (soonest ls) (due_at_shown l.state l) (soonest_shown ls) before).0
all_before (l ∷ ls) now (suc k) d before less =
    all_before ls now k d (before_both now (due_link l) (soonest ls) (due_at_shown l.state l) (soonest_shown ls) before).1 (omega arith)

found_before : (s : LinksView) (id now : ℕ) (l : LinkView) → Before now (soonest s.links) → link_at s id ≡ Some l → IsQuiet l now
found_before s id now l before at =
    let place = place_of_found s.links id l at in
    let Q : LinkView → Type 0 = λ x. IsQuiet x now in
    subst Q place.2 (all_before s.links now place.0 l before place.1)

-- ---- the link that is due then

-- at a place of the list
pub record IsPresent (ls : List LinkView) (t : ℕ) : Type 0 where
  pub place : ℕ
  pub link : LinkView
  pub within : place < length ls
  pub read : slice_index_or ls place link ≡ link
  pub due : due_link link ≡ Some t

one_more : (l : LinkView) (ls : List LinkView) (t : ℕ) → IsPresent ls t → IsPresent (l ∷ ls) t
one_more l ls t s = record { place = suc s.place; link = s.link; within = omega (arith, s.within); read = s.read; due = s.due }

some_holds_at : (l : LinkView) (ls : List LinkView) (t : ℕ) (a b : Option ℕ) → ((n : ℕ) → soonest ls ≡ Some n → IsPresent ls n) → due_link l ≡ a → soonest ls ≡ b → sooner a b ≡ Some t → IsPresent (l ∷ ls) t
some_holds_at l ls t None b rest here later is = one_more l ls t (rest t (later ∙ is))
some_holds_at l ls t (Some a) None rest here later is = record { place = 0; link = l; within = omega arith; read = refl; due = here ∙ is }
some_holds_at l ls t (Some a) (Some b) rest here later is = first_of_two (nat_lt a b) refl
  where
    least : min a b ≡ t
    least = cc

    first_of_two : (first : Bool) → nat_lt a b ≡ first → IsPresent (l ∷ ls) t
    first_of_two true e =
        let less : a < b = grind (arith, nat_tests) in
        let same : a ≡ t = omega (arith, least) in
        record { place = 0; link = l; within = omega arith; read = refl; due = here ∙ ap Some same }
    first_of_two false e =
        let less : b ≤ a = grind (arith, nat_tests) in
        let same : b ≡ t = omega (arith, least) in
        one_more l ls t (rest t (later ∙ ap Some same))

some_holds : (ls : List LinkView) (t : ℕ) → soonest ls ≡ Some t → IsPresent ls t
some_holds [] t e = absurd (cc)
some_holds (l ∷ ls) t e = some_holds_at l ls t (due_link l) (soonest ls) (λ n later. some_holds ls n later) refl refl e

acts_from : (l : LinkView) (t : ℕ) → due_link l ≡ Some t → (now : ℕ) → t ≤ now → IsQuiet l now → ⊥
acts_from l t is = let P : Option ℕ → Type 0 = λ o. IsNextDue l o in (subst P is (next_due l)).1

all_by : (s : LinksView) (o : Option ℕ) → AreIdsDistinct (ids_of s.links) → soonest s.links ≡ o → IsNextDueOfAll s o
all_by s None apart is =
    λ id now l at less.
    let P : Option ℕ → Type 0 = λ o. Before now o in
    found_before s id now l (subst P (sym is) less) at
all_by s (Some t) apart is =
    let one = some_holds s.links t is in (
      λ id now l at less.
          let P : Option ℕ → Type 0 = λ o. Before now o in
          found_before s id now l (subst P (sym is) less) at,
      (one.link.own, one.link, stands s.links one.place one.link apart one.within one.read, acts_from one.link t one.due),
    )

pub next_due_of_all : (s : LinksView) → AreIdsDistinct (ids_of s.links) → IsNextDueOfAll s (soonest s.links)
next_due_of_all s apart = all_by s (soonest s.links) apart refl
