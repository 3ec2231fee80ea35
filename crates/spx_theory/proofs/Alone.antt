-- There is exactly one round of two links at a time.
use Rattle.std.proofs.Common.{◌≡◌, ℕ, ◌∷◌, ◌++◌, [], List, Option, Some, None, refl, sym, ap, ◌∙◌}
use Rattle.spx_link.specs.declared.unit.Unit.{Unit}
use Rattle.spx_link.specs.declared.received.Received.{Received}
use Rattle.spx_link.specs.LinkView.{LinkView}
use Rattle.spx_link.specs.Offer.{take_link, take_held}
use Rattle.spx_link.specs.Poll.{OutgoingView, poll_link}
use Rattle.spx_link.specs.Receive.{receive_link}
use Rattle.spx_theory.specs.LosslessRounds.{Conveys, stops, goes, TakesAll, nothing, another, RoundIsOne, RoundsExist, over, after}
use Rattle.spx_theory.proofs.Ending.{Conveyed, conveyed}

none_some : {X Y : Type 0} (x : X) (y z : Y) → ◌≡◌ {A = Option X × Y} (None, y) (Some x, z) → ⊥
none_some {X = X} {Y = Y} x y z e = let f = ap (λ (r : Option X × Y). r.0) e in cc f

first_same : {X Y : Type 0} (x w : X) (y z : Y) → ◌≡◌ {A = Option X × Y} (Some x, y) (Some w, z) → x ≡ w
first_same {X = X} {Y = Y} x w y z e = let f = ap (λ (r : Option X × Y). r.0) e in cc f

polled_same : (a c : LinkView) (now : ℕ) (r s : Option OutgoingView × LinkView) → a ≡ c → poll_link a now ≡ r → poll_link c now ≡ s → r ≡ s
polled_same a c now r s ac p q = sym p ∙ (ap (λ k. poll_link k now) ac ∙ q)

pub conveyed_alone : (a b c d x y x' y' : LinkView) (now : ℕ) → a ≡ c → b ≡ d → Conveys a b now x y → Conveys c d now x' y' → (x ≡ x') × (y ≡ y')
conveyed_alone a b c d x y x' y' now ac bd (stops p) (stops q) = (ap (λ r. r.1) (polled_same a c now _ _ ac p q), bd)
conveyed_alone a b c d x y x' y' now ac bd (stops p) (goes o r q read rest) = absurd (none_some _ _ _ (polled_same a c now _ _ ac p q))
conveyed_alone a b c d x y x' y' now ac bd (goes o r p read rest) (stops q) = absurd (none_some _ _ _ (sym (polled_same a c now _ _ ac p q)))
conveyed_alone a b c d x y x' y' now ac bd (goes {a1 = a1} {b1 = b1} o r p read rest) (goes {a1 = c1} {b1 = d1} o' r' p' read' rest') =
    let polled : ◌≡◌ {A = Option OutgoingView × LinkView} (Some o, a1) (Some o', c1) = polled_same a c now _ _ ac p p' in
    let given : o ≡ o' = first_same o o' a1 c1 polled in
    let heard : ◌≡◌ {A = Received × LinkView} (r, b1) (r', d1) = sym read ∙ (ap (λ k. receive_link k o.header o.body) bd ∙ (ap (λ (g : OutgoingView). receive_link d g.header g.body) given ∙ read')) in
    conveyed_alone a1 b1 c1 d1 x y x' y' now (ap (λ z. z.1) polled) (ap (λ z. z.1) heard) rest rest'

taken_same : (l m : LinkView) (r s : Option Unit × LinkView) → l ≡ m → take_link l ≡ r → take_link m ≡ s → r ≡ s
taken_same l m r s lm p q = sym p ∙ (ap take_link lm ∙ q)

pub taken_alone : (l m k k' : LinkView) (us vs : List Unit) → l ≡ m → TakesAll l k us → TakesAll m k' vs → (k ≡ k') × (us ≡ vs)
taken_alone l m k k' us vs lm (nothing p) (nothing q) = (ap (λ r. r.1) (taken_same l m _ _ lm p q), refl)
taken_alone l m k k' us vs lm (nothing p) (another u q rest) = absurd (none_some _ _ _ (taken_same l m _ _ lm p q))
taken_alone l m k k' us vs lm (another u p rest) (nothing q) = absurd (none_some _ _ _ (sym (taken_same l m _ _ lm p q)))
taken_alone l m k k' us vs lm (another {m = n} {us = ws} u p rest) (another {m = n'} {us = zs} u' p' rest') =
    let took : ◌≡◌ {A = Option Unit × LinkView} (Some u, n) (Some u', n') = taken_same l m _ _ lm p p' in
    let more = taken_alone n n' k k' ws zs (ap (λ r. r.1) took) rest rest' in
    let one : u ≡ u' = first_same u u' n n' took in
    (more.0, ap (λ w. w ∷ ws) one ∙ ap (λ ys. u' ∷ ys) more.1)

pub record Taken (l : LinkView) : Type 0 where
  pub after : LinkView
  pub units : List Unit
  pub all : TakesAll l after units

taken_at : (held : List Unit) (l : LinkView) → l.held ≡ held → Taken l
taken_at [] l is = record { after = l; units = []; all = nothing (ap (take_held l) is) }
taken_at (u ∷ us) l is =
    let m = (take_held l (u ∷ us)).1 in
    let rest = taken_at us m refl in
    record { after = rest.after; units = u ∷ rest.units; all = another u (ap (take_held l) is) rest.all }

pub taken : (l : LinkView) → Taken l
taken l = taken_at l.held l refl

pub round_is_one : (a b : LinkView) (now : ℕ) → RoundIsOne a b now
round_is_one a b now =
    let one : Conveyed a b now = conveyed a b now in
    let two : Taken one.heard = taken one.heard in
    let three : Conveyed two.after one.told now = conveyed two.after one.told now in
    let four : Taken three.heard = taken three.heard in
    record {
      first = four.after;
      second = three.told;
      units_b = two.units;
      units_a = four.units;
      round = record { told = one.told; heard = one.heard; answered = two.after; there = one.all; taken = two.all; second = three.heard; back = three.all; taken_back = four.all };
      alone = λ a' b' us vs r.
          let p = conveyed_alone a b a b r.told r.heard one.told one.heard now refl refl r.there one.all in
          let q = taken_alone r.heard one.heard r.answered two.after us two.units p.1 r.taken two.all in
          let s = conveyed_alone r.answered r.told two.after one.told b' r.second three.told three.heard now q.0 p.0 r.back three.all in
          let t = taken_alone r.second three.heard a' four.after vs four.units s.1 r.taken_back four.all in
          (t.0, s.0, q.1, t.1);
    }

pub rounds_exist : (a b : LinkView) (moments : List ℕ) → RoundsExist a b moments
rounds_exist a b [] = record { first = a; second = b; units_b = []; units_a = []; turns = over }
rounds_exist a b (now ∷ moments) =
    let one : RoundIsOne a b now = round_is_one a b now in
    let rest : RoundsExist one.first one.second moments = rounds_exist one.first one.second moments in
    record { first = rest.first; second = rest.second; units_b = one.units_b ++ rest.units_b; units_a = one.units_a ++ rest.units_a; turns = after one.round rest.turns }
