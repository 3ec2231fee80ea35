-- A call on an end, by which no parcel is made or read.
use Rattle.std.proofs.Common.{◌≡◌, ◌≢◌, ◌⊎◌, ◌==◌, ℕ, true, false, cond, List, set, Some, None, refl, sym, ◌∙◌, inl, inr, ap, subst, arith, length-set, ne_eqb}
use Rattle.std.specs.Prelude.{slice_get}
use Rattle.std.proofs.lemmas.Bool.{cases_eq, cond-true, cond-false}
use Rattle.std.proofs.lemmas.Option.{slice_get_within}
use Rattle.spx_link.specs.declared.unit.Unit.{Unit}
use Rattle.spx_link.specs.LinkView.{LinkView}
use Rattle.spx_link.specs.Offer.{refusal, take_link}
use Rattle.spx_link.specs.Machine.{End}
use Rattle.spx_theory.specs.Note.{Note, TakesUnit}
use Rattle.spx_theory.specs.Scan.{Scan, seen}
use Rattle.spx_theory.specs.PairLog.{Half, Pair, half_after, pair_after, one_taken, gained}
use Rattle.spx_theory.specs.Tracks.{Formed, Follows}
use Rattle.spx_theory.specs.States.{is_quiet}
use Rattle.spx_theory.specs.Scene.{PresentEnd}
use Rattle.spx_theory.proofs.Tied.{Whole}
use Rattle.spx_theory.proofs.Moving.{other_end, this_end}
use Rattle.spx_theory.proofs.Speaking.{eqb_same}
use Rattle.spx_theory.proofs.Others.{elsewhere}
use Rattle.spx_theory.proofs.Taking.{takes_whole, gains_whole, rests_whole}
use Rattle.spx_theory.proofs.Held.{Held, IsUnjoined, turned, calmed}
use Rattle.spx_theory.specs.Below.{LawsBelow}

-- the link that an end is left with, if it is left with any
abbrev pub IsLeft : PresentEnd → LinkView → Type 0
IsLeft w l = (m : LinkView) → w.link ≡ Some m → m ≡ l

module _ (c d a b : ℕ) (differ : c ≢ d) (ends : List PresentEnd) (parcels : List (List ℕ)) (s : Scan) (p : Pair) where
  -- an end that is neither of the two is replaced
  pub other_held : (who : ℕ) (w : PresentEnd) (t : Scan) (q : Pair) → who ≢ c → who ≢ d → t.marks ≡ s.marks → t.sent ≡ s.sent → t.roles ≡ s.roles → q.one ≡ p.one → q.two ≡ p.two
      → Held c d a b ends parcels s p → Held c d a b (set ends who w) parcels t q
  other_held who w t q not_c not_d marks sent roles one two h =
      let u : IsUnjoined t.roles c → IsUnjoined s.roles c = λ v. subst (λ rs. IsUnjoined rs c) roles v in
      record {
        whole = rw (marks, sent, one, two) (elsewhere c d ends (set ends who w) parcels s.marks s.sent p.one p.two (λ f there. other_end ends who c w f not_c there) (λ f there. other_end ends who d w f not_d there) h.whole);
        early = λ v. rw one (h.early (u v));
        quiet = λ v f m there link. h.quiet (u v) f m (other_end ends who c w f not_c there) link;
        unmade = λ past. rw two (h.unmade (omega (arith, past, length-set ends who w)));
      }

  -- the link of an end changes in parts that the machine does not have, and stays opening or lost if it was
  pub rests_held : (who : ℕ) (e w : PresentEnd) (l k : LinkView) (t : Scan) → t.marks ≡ s.marks → t.sent ≡ s.sent → t.roles ≡ s.roles
      → slice_get ends who ≡ Some e → e.link ≡ Some l → IsLeft w k → ((x y : End) → Follows l x y → Follows k x y) → (is_quiet l.state ≡ true → is_quiet k.state ≡ true)
      → Held c d a b ends parcels s p → Held c d a b (set ends who w) parcels t p
  rests_held who e w l k t marks sent roles at is left follows still h =
      let u : IsUnjoined t.roles c → IsUnjoined s.roles c = λ v. subst (λ rs. IsUnjoined rs c) roles v in
      elim (cases_eq who c) [
        | inl one ↦
            let at' : slice_get ends c ≡ Some e = subst (λ j. slice_get ends j ≡ Some e) one at in
            subst (λ j. Held c d a b (set ends j w) parcels t p) (sym one)
            (record {
              whole = rw (marks, sent) (rests_whole c d differ ends parcels s.marks s.sent p.one p.two h.whole w k left (follows p.one.end p.two.end (h.whole.one.link e l at' is)));
              early = λ v. h.early (u v);
              quiet = λ v f m there link.
                  let same : m ≡ k = left m (ap (λ (x : PresentEnd). x.link) (sym (this_end ends c w f there)) ∙ link) in
                  subst (λ (x : LinkView). is_quiet x.state ≡ true) (sym same) (still (h.quiet (u v) e l at' is));
              unmade = λ past. h.unmade (omega (arith, past, length-set ends c w));
            })
        | inr not_c ↦ elim (cases_eq who d) [
          | inl two ↦
              let at' : slice_get ends d ≡ Some e = subst (λ j. slice_get ends j ≡ Some e) two at in
              let back : d ≢ c = λ z. differ (sym z) in
              let w' = turned c d ends parcels s.marks s.sent p.one p.two h.whole in
              subst (λ j. Held c d a b (set ends j w) parcels t p) (sym two)
              (record {
                whole = rw (marks, sent) (turned d c _ _ _ _ _ _ (rests_whole d c back ends parcels s.marks s.sent p.two p.one w' w k left (follows p.two.end p.one.end (h.whole.two.link e l at' is))));
                early = λ v. h.early (u v);
                quiet = λ v f m there link. h.quiet (u v) f m (other_end ends d c w f back there) link;
                unmade = λ past. absurd (omega (arith, past, slice_get_within ends d e at', length-set ends d w));
              })
          | inr not_d ↦ other_held who w t p not_c not_d marks sent roles refl refl h
        ]
      ]

  -- a unit is taken
  pub takes_held : (laws : LawsBelow) (who : ℕ) (e w : PresentEnd) (l k : LinkView) (v : Unit) → slice_get ends who ≡ Some e → e.link ≡ Some l → (take_link l).0 ≡ Some v
      → IsLeft w k → ((x y : End) → Follows (take_link l).1 x y → Follows k x y)
      → Held c d a b ends parcels s p
      → Held c d a b (set ends who w) parcels (calmed s) (pair_after parcels c d p (TakesUnit who v))
  takes_held laws who e w l k v at is gives left follows h =
      elim (cases_eq who c) [
        | inl one ↦
            let at' : slice_get ends c ≡ Some e = subst (λ j. slice_get ends j ≡ Some e) one at in
            let to = laws.steps.takes l v p.one.end p.two.end (h.whole.one.link e l at' is) h.whole.sound gives in
            let w' = takes_whole c d differ ends parcels s.marks s.sent p.one p.two laws h.whole w k left to.some (follows _ _ to.follows) in
            subst (λ j. Held c d a b (set ends j w) parcels (calmed s) (pair_after parcels c d p (TakesUnit j v))) (sym one)
            (record {
              whole = rw (cond-true (c == c) (one_taken p.one) p.one (eqb_same c), cond-false (c == d) (one_taken p.two) p.two (ne_eqb c d differ)) w';
              early = λ u. let n = h.early u in absurd (omega (arith, to.some, n.taken, n.read));
              quiet = λ u. let n = h.early u in absurd (omega (arith, to.some, n.taken, n.read));
              unmade = λ past. rw (cond-false (c == d) (one_taken p.two) p.two (ne_eqb c d differ)) (h.unmade (omega (arith, past, length-set ends c w)));
            })
        | inr not_c ↦ elim (cases_eq who d) [
          | inl two ↦
              let at' : slice_get ends d ≡ Some e = subst (λ j. slice_get ends j ≡ Some e) two at in
              let back : d ≢ c = λ z. differ (sym z) in
              let t = turned c d ends parcels s.marks s.sent p.one p.two h.whole in
              let to = laws.steps.takes l v p.two.end p.one.end (t.one.link e l at' is) t.sound gives in
              let w' = takes_whole d c back ends parcels s.marks s.sent p.two p.one laws t w k left to.some (follows _ _ to.follows) in
              subst (λ j. Held c d a b (set ends j w) parcels (calmed s) (pair_after parcels c d p (TakesUnit j v))) (sym two)
              (record {
                whole = rw (cond-false (d == c) (one_taken p.one) p.one (ne_eqb d c back), cond-true (d == d) (one_taken p.two) p.two (eqb_same d)) (turned d c _ _ _ _ _ _ w');
                early = λ u. rw (cond-false (d == c) (one_taken p.one) p.one (ne_eqb d c back)) (h.early u);
                quiet = λ u f m there link. h.quiet u f m (other_end ends d c w f back there) link;
                unmade = λ past. absurd (omega (arith, past, slice_get_within ends d e at', length-set ends d w));
              })
          | inr not_d ↦ other_held who w (calmed s) (pair_after parcels c d p (TakesUnit who v)) not_c not_d refl refl refl
              (cond-false (who == c) (one_taken p.one) p.one (ne_eqb who c not_c)) (cond-false (who == d) (one_taken p.two) p.two (ne_eqb who d not_d)) h
        ]
      ]

  -- units are added after the others: of a message, or the end
  pub gains_held : (laws : LawsBelow) (us : List Unit) (n : ℕ → Note) (who : ℕ) (e w : PresentEnd) (l k : LinkView)
      → ((j : ℕ) (i : ℕ) (x y : Half) → half_after parcels i x y (n j) ≡ cond (j == i) (gained us x) x) → ((j : ℕ) → seen s (n j) ≡ calmed s)
      → slice_get ends who ≡ Some e → e.link ≡ Some l → refusal l.state ≡ None → IsLeft w k
      → ((x y : End) → Follows l x y → Formed x.units false) → ((x y : Half) → Whole c d ends parcels s.marks s.sent x y ⊎ Whole d c ends parcels s.marks s.sent x y → Follows l x.end y.end → Follows k (gained us x).end y.end)
      → Held c d a b ends parcels s p
      → Held c d a b (set ends who w) parcels (seen s (n who)) (pair_after parcels c d p (n who))
  gains_held laws us n who e w l k does seen_is at is live left shut follows h =
      elim (cases_eq who c) [
        | inl one ↦
            let at' : slice_get ends c ≡ Some e = subst (λ j. slice_get ends j ≡ Some e) one at in
            let fs = h.whole.one.link e l at' is in
            let w' = gains_whole c d differ ends parcels s.marks s.sent p.one p.two laws h.whole w k us left (shut _ _ fs) (follows p.one p.two (inl h.whole) fs) in
            subst (λ j. Held c d a b (set ends j w) parcels (seen s (n j)) (pair_after parcels c d p (n j))) (sym one)
            (rw (seen_is c, does c c p.one p.two, does c d p.two p.one, cond-true (c == c) (gained us p.one) p.one (eqb_same c), cond-false (c == d) (gained us p.two) p.two (ne_eqb c d differ))
            record {
              whole = w';
              early = λ u. absurd (laws.states.quiet_refuses l (h.quiet u e l at' is) live);
              quiet = λ u. absurd (laws.states.quiet_refuses l (h.quiet u e l at' is) live);
              unmade = λ past. h.unmade (omega (arith, past, length-set ends c w));
            })
        | inr not_c ↦ elim (cases_eq who d) [
          | inl two ↦
              let at' : slice_get ends d ≡ Some e = subst (λ j. slice_get ends j ≡ Some e) two at in
              let back : d ≢ c = λ z. differ (sym z) in
              let t = turned c d ends parcels s.marks s.sent p.one p.two h.whole in
              let fs = t.one.link e l at' is in
              let w' = gains_whole d c back ends parcels s.marks s.sent p.two p.one laws t w k us left (shut _ _ fs) (follows p.two p.one (inr t) fs) in
              subst (λ j. Held c d a b (set ends j w) parcels (seen s (n j)) (pair_after parcels c d p (n j))) (sym two)
              (rw (seen_is d, does d c p.one p.two, does d d p.two p.one, cond-false (d == c) (gained us p.one) p.one (ne_eqb d c back), cond-true (d == d) (gained us p.two) p.two (eqb_same d))
              record {
                whole = turned d c _ _ _ _ _ _ w';
                early = h.early;
                quiet = λ u f m there link. h.quiet u f m (other_end ends d c w f back there) link;
                unmade = λ past. absurd (omega (arith, past, slice_get_within ends d e at', length-set ends d w));
              })
          | inr not_d ↦ other_held who w (seen s (n who)) (pair_after parcels c d p (n who)) not_c not_d
              (ap (λ (t : Scan). t.marks) (seen_is who)) (ap (λ (t : Scan). t.sent) (seen_is who)) (ap (λ (t : Scan). t.roles) (seen_is who))
              (does who c p.one p.two ∙ cond-false (who == c) (gained us p.one) p.one (ne_eqb who c not_c)) (does who d p.two p.one ∙ cond-false (who == d) (gained us p.two) p.two (ne_eqb who d not_d)) h
        ]
      ]
