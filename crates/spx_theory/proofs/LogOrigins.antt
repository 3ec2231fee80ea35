-- The origins of parcels, by the entries that make and forward them, are those of their marks.
use Rattle.std.proofs.Common.{◌≡◌, ◌<◌, ℕ, zero, suc, List, [], ◌∷◌, ◌++◌, length, get_or, Some, refl, sym, ◌∙◌, ap, subst, arith, length-append, inl, inr}
use Rattle.std.specs.Prelude.{Contains}
use Rattle.std.proofs.lemmas.Bool.{cases_lt}
use Rattle.std.proofs.lemmas.List.Elements.{Contains-append_right}
use Rattle.spx_theory.specs.LogPremises.{ComesFrom, IsMadeBy, carried, itself, makes_new}
use Rattle.spx_theory.specs.Note.{Note, SendsUnit, SendsAgain, SendsSystem, Told, Carried, Injected}
use Rattle.spx_theory.specs.Numbered.{IsNumbered}
use Rattle.spx_theory.specs.Peers.{end_of}
use Rattle.spx_theory.specs.Scan.{ByRouter, BySystem, ByUnit, FromOutside, Maker, Mark, Scan, one_further, scan, seen, seen_all, unread}
use Rattle.spx_theory.proofs.Adding.{mark_before, mark_here}
use Rattle.spx_theory.proofs.Folding.{seen_all-append}
use Rattle.spx_theory.proofs.Growing.{mark_in, marks_grow}
use Rattle.spx_theory.proofs.Numbering.{AllNumbered, numbered_at}
use Rattle.spx_theory.proofs.Tied.{mark_at}

-- ---- the index of an entry

by_place : (xs : List Note) (x : Note) (k : ℕ) → k < length xs → get_or xs k x ≡ x → (before : List Note) × (after : List Note) × (xs ≡ before ++ x ∷ after)
by_place [] x k within is = absurd (omega (arith, within))
by_place (y ∷ ys) x zero within is = ([], ys, ap (λ z. z ∷ ys) is)
by_place (y ∷ ys) x (suc k) within is =
    let rest = by_place ys x k (omega (arith, within)) is in
    (y ∷ rest.0, rest.1, ap (λ zs. y ∷ zs) rest.2)

pub parts : (xs : List Note) (x : Note) → Contains xs x → (before : List Note) × (after : List Note) × (xs ≡ before ++ x ∷ after)
parts xs x has = by_place xs x has.0 has.1 has.2

pub contains_at : (log before after : List Note) (n : Note) → log ≡ before ++ n ∷ after → Contains log n
contains_at log before after n is = subst (λ xs. Contains xs n) (sym is) (Contains-append_right before (n ∷ after) n (zero, omega arith, refl))

pub later : (log before after : List Note) (n : Note) → log ≡ before ++ n ∷ after → scan log ≡ seen_all (seen (scan before) n) after
later log before after n is = ap scan is ∙ seen_all-append unread before (n ∷ after)

pub numbered_in : (log before after : List Note) (n : Note) → AllNumbered unread log → log ≡ before ++ n ∷ after → IsNumbered (scan before) n
numbered_in log before after n all is = numbered_at unread before after n (subst (AllNumbered unread) is all)

-- ---- marks

pub stays : (s : Scan) (ns : List Note) (k : ℕ) → k < length s.marks → (mark_at (seen_all s ns).marks k ≡ mark_at s.marks k) × (k < length (seen_all s ns).marks)
stays s ns k within =
    let g = marks_grow s ns in
    (ap (λ ms. mark_at ms k) g.1 ∙ mark_in s.marks g.0 k within, omega (arith, ap length g.1, length-append s.marks g.0, within))

-- a mark before an entry is still there at the end
pub mark_later : (log before after : List Note) (n : Note) (k : ℕ) → log ≡ before ++ n ∷ after → k < length (scan before).marks
    → (mark_at (scan log).marks k ≡ mark_at (scan before).marks k) × (k < length (scan log).marks)
mark_later log before after n k is within =
    let same = later log before after n is in
    let s = stays (scan before) (n ∷ after) k within in
    (ap (λ (z : Scan). mark_at z.marks k) same ∙ s.0, subst (λ (z : Scan). k < length z.marks) (sym same) s.1)

abbrev pub maker_of : Note → Maker
maker_of (SendsUnit who parcel) = ByUnit who
maker_of (SendsAgain who parcel) = ByUnit who
maker_of (SendsSystem who parcel) = BySystem who
maker_of (Told router parcel) = ByRouter router
maker_of n = FromOutside

abbrev pub new_mark : Scan → Note → ℕ → Mark
new_mark s n k = record { origin = k; maker = maker_of n; passed = 0; units = length (seen s n).sent }

pub made_seen : (s : Scan) (n : Note) (k : ℕ) → IsNumbered s n → makes_new n ≡ Some k → (k ≡ length s.marks) × ((seen s n).marks ≡ s.marks ++ new_mark s n k ∷ [])
made_seen s (SendsUnit who parcel) k is makes =
    let at : k ≡ length s.marks = (let same : parcel ≡ k = cc makes in sym same ∙ is.1) in
    (at, ap (λ j. s.marks ++ record { origin = j; maker = ByUnit who; passed = 0; units = length (s.sent ++ who ∷ []) } ∷ []) (sym at))
made_seen s (SendsAgain who parcel) k is makes =
    let at : k ≡ length s.marks = (let same : parcel ≡ k = cc makes in sym same ∙ is.1) in
    (at, ap (λ j. s.marks ++ record { origin = j; maker = ByUnit who; passed = 0; units = length s.sent } ∷ []) (sym at))
made_seen s (SendsSystem who parcel) k is makes =
    let at : k ≡ length s.marks = (let same : parcel ≡ k = cc makes in sym same ∙ is.1) in
    (at, ap (λ j. s.marks ++ record { origin = j; maker = BySystem who; passed = 0; units = length s.sent } ∷ []) (sym at))
made_seen s (Told router parcel) k is makes =
    let at : k ≡ length s.marks = (let same : parcel ≡ k = cc makes in sym same ∙ is) in
    (at, ap (λ j. s.marks ++ record { origin = j; maker = ByRouter router; passed = 0; units = length s.sent } ∷ []) (sym at))
made_seen s (Injected parcel) k is makes =
    let at : k ≡ length s.marks = (let same : parcel ≡ k = cc makes in sym same ∙ is) in
    (at, ap (λ j. s.marks ++ record { origin = j; maker = FromOutside; passed = 0; units = length s.sent } ∷ []) (sym at))
made_seen s n k is makes = absurd (cc makes)

-- the mark of a new parcel of an entry of a log
pub made_mark : (log before after : List Note) (n : Note) (k : ℕ) → AllNumbered unread log → log ≡ before ++ n ∷ after → makes_new n ≡ Some k
    → (k < length (scan log).marks) × (mark_at (scan log).marks k ≡ new_mark (scan before) n k)
made_mark log before after n k all is makes =
    let s : Scan = scan before in
    let new : Mark = new_mark s n k in
    let m = made_seen s n k (numbered_in log before after n all is) makes in
    let within : k < length (seen s n).marks = omega (arith, m.0, ap length m.1, length-append s.marks (new ∷ [])) in
    let at : mark_at (seen s n).marks k ≡ new = ap (λ ms. mark_at ms k) m.1 ∙ ap (mark_at (s.marks ++ new ∷ [])) m.0 ∙ mark_here s.marks new in
    let st = stays (seen s n) after k within in
    let same = later log before after n is in
    (subst (λ (z : Scan). k < length z.marks) (sym same) st.1, ap (λ (z : Scan). mark_at z.marks k) same ∙ st.0 ∙ at)

carried_mark : (log before after : List Note) (from k : ℕ) → AllNumbered unread log → log ≡ before ++ Carried from k ∷ after
    → (k < length (scan log).marks) × (mark_at (scan log).marks k ≡ one_further (mark_at (scan log).marks from))
carried_mark log before after from k all is =
    let s : Scan = scan before in
    let n : Note = Carried from k in
    let numbers = numbered_in log before after n all is in
    let new : Mark = one_further (mark_at s.marks from) in
    let within : k < length (seen s n).marks = omega (arith, numbers.1, length-append s.marks (new ∷ [])) in
    let at : mark_at (seen s n).marks k ≡ new = ap (mark_at (s.marks ++ new ∷ [])) numbers.1 ∙ mark_here s.marks new in
    let st = stays (seen s n) after k within in
    let same = later log before after n is in
    let old = mark_later log before after n from is numbers.0 in
    (subst (λ (z : Scan). k < length z.marks) (sym same) st.1, ap (λ (z : Scan). mark_at z.marks k) same ∙ st.0 ∙ at ∙ ap one_further (sym old.0))

-- ---- from entries to marks

pub record IsMarkOf (log : List Note) (origin k passed : ℕ) : Type 0 where
  pub there : k < length (scan log).marks
  pub mark : mark_at (scan log).marks k ≡ record (mark_at (scan log).marks origin) { passed = passed }
  pub origin_is : (mark_at (scan log).marks origin).origin ≡ origin
  pub making : Note
  pub stands : Contains log making
  pub makes : makes_new making ≡ Some origin

pub comes_marked : (log : List Note) → AllNumbered unread log → (origin : ℕ) {k passed : ℕ} → ComesFrom log origin k passed → IsMarkOf log origin k passed
comes_marked log all origin (itself n has makes) =
    let p = parts log n has in
    let m = made_mark log p.0 p.1 n origin all p.2 makes in
    record {
      there = m.0;
      mark = m.1 ∙ ap (λ (x : Mark). record x { passed = 0 }) (sym m.1);
      origin_is = ap (λ (x : Mark). x.origin) m.1;
      making = n;
      stands = has;
      makes = makes;
    }
comes_marked log all origin (carried {from} {passed} k comes has) =
    let was = comes_marked log all origin comes in
    let p = parts log (Carried from k) has in
    let m = carried_mark log p.0 p.1 from k all p.2 in
    record {
      there = m.0;
      mark = m.1 ∙ ap one_further was.mark;
      origin_is = was.origin_is;
      making = was.making;
      stands = was.stands;
      makes = was.makes;
    }

-- ---- from marks to entries

abbrev pub SourcedAt : List Note → List Mark → Type 0
SourcedAt log marks = (k : ℕ) → k < length marks → ComesFrom log (mark_at marks k).origin k (mark_at marks k).passed

sourced_more : (log : List Note) (marks : List Mark) (m : Mark) → SourcedAt log marks → ComesFrom log m.origin (length marks) m.passed → SourcedAt log (marks ++ m ∷ [])
sourced_more log marks m old new k within =
    elim (cases_lt k (length marks)) [
      | inl before ↦ subst (λ (x : Mark). ComesFrom log x.origin k x.passed) (sym (mark_before marks m k before)) (old k before)
      | inr past ↦
          let here : k ≡ length marks = omega (arith, past, within, length-append marks (m ∷ [])) in
          subst (λ j. ComesFrom log (mark_at (marks ++ m ∷ []) j).origin j (mark_at (marks ++ m ∷ []) j).passed) (sym here)
          (subst (λ (x : Mark). ComesFrom log x.origin (length marks) x.passed) (sym (mark_here marks m)) new)
    ]

sourced_on : (log : List Note) (s : Scan) (n : Note) → Contains log n → IsNumbered s n → SourcedAt log s.marks → SourcedAt log (seen s n).marks
sourced_on log s (SendsUnit who parcel) has is old = sourced_more log s.marks _ old (itself (SendsUnit who parcel) has (ap Some is.1))
sourced_on log s (SendsAgain who parcel) has is old = sourced_more log s.marks _ old (itself (SendsAgain who parcel) has (ap Some is.1))
sourced_on log s (SendsSystem who parcel) has is old = sourced_more log s.marks _ old (itself (SendsSystem who parcel) has (ap Some is.1))
sourced_on log s (Told router parcel) has is old = sourced_more log s.marks _ old (itself (Told router parcel) has (ap Some is))
sourced_on log s (Injected parcel) has is old = sourced_more log s.marks _ old (itself (Injected parcel) has (ap Some is))
sourced_on log s (Carried from parcel) has is old =
    sourced_more log s.marks _ old (carried (length s.marks) (old from is.0) (subst (λ j. Contains log (Carried from j)) is.1 has))
sourced_on log s n has is old = old

sourced_all : (log : List Note) (s : Scan) (ns : List Note) → ((n : Note) → Contains ns n → Contains log n) → AllNumbered s ns → SourcedAt log s.marks → SourcedAt log (seen_all s ns).marks
sourced_all log s [] there all old = old
sourced_all log s (n ∷ ns) there all old =
    sourced_all log (seen s n) ns (λ m has. there m (Contains-append_right (n ∷ []) ns m has)) all.1 (sourced_on log s n (there n (zero, omega arith, refl)) all.0 old)

pub all_sourced : (log : List Note) → AllNumbered unread log → SourcedAt log (scan log).marks
all_sourced log all = sourced_all log unread log (λ n has. has) all (λ k within. absurd (omega (arith, within)))

-- ---- who made an origin

system_note : (n : Note) (k e : ℕ) → makes_new n ≡ Some k → maker_of n ≡ BySystem e → n ≡ SendsSystem e k
system_note (SendsSystem who parcel) k e makes is = let a : parcel ≡ k = cc makes in let b : who ≡ e = cc is in ap (SendsSystem who) a ∙ ap (λ x. SendsSystem x k) b
system_note n k e makes is = absurd (cc is)

outside_note : (n : Note) (k : ℕ) → makes_new n ≡ Some k → maker_of n ≡ FromOutside → n ≡ Injected k
outside_note (Injected parcel) k makes is = let a : parcel ≡ k = cc makes in ap Injected a
outside_note (SendsUnit who parcel) k makes is = absurd (cc is)
outside_note (SendsAgain who parcel) k makes is = absurd (cc is)
outside_note (SendsSystem who parcel) k makes is = absurd (cc is)
outside_note (Told router parcel) k makes is = absurd (cc is)
outside_note n k makes is = absurd (cc makes)

end_note : (n : Note) (k e : ℕ) → makes_new n ≡ Some k → end_of (maker_of n) ≡ Some e → IsMadeBy n e k
end_note (SendsUnit who parcel) k e makes is = let a : parcel ≡ k = cc makes in let b : who ≡ e = cc is in inl (ap (SendsUnit who) a ∙ ap (λ x. SendsUnit x k) b)
end_note (SendsAgain who parcel) k e makes is = let a : parcel ≡ k = cc makes in let b : who ≡ e = cc is in inr (inl (ap (SendsAgain who) a ∙ ap (λ x. SendsAgain x k) b))
end_note (SendsSystem who parcel) k e makes is = let a : parcel ≡ k = cc makes in let b : who ≡ e = cc is in inr (inr (ap (SendsSystem who) a ∙ ap (λ x. SendsSystem x k) b))
end_note n k e makes is = absurd (cc is)

pub made_makes : (n : Note) (e k : ℕ) → IsMadeBy n e k → (makes_new n ≡ Some k) × (end_of (maker_of n) ≡ Some e)
made_makes n e k made =
    elim made [
      | inl unit ↦ (ap makes_new unit, ap (λ x. end_of (maker_of x)) unit)
      | inr others ↦ elim others [
        | inl again ↦ (ap makes_new again, ap (λ x. end_of (maker_of x)) again)
        | inr system ↦ (ap makes_new system, ap (λ x. end_of (maker_of x)) system)
      ]
    ]

-- the maker of a parcel's mark is that of the entry that made its origin
pub mark_maker : (log : List Note) → AllNumbered unread log → (before after : List Note) (n : Note) (origin k passed : ℕ) → ComesFrom log origin k passed
    → log ≡ before ++ n ∷ after → makes_new n ≡ Some origin
    → (mark_at (scan log).marks k).maker ≡ maker_of n
mark_maker log all before after n origin k passed comes is makes =
    let m = comes_marked log all origin comes in
    ap (λ (x : Mark). x.maker) m.mark ∙ ap (λ (x : Mark). x.maker) (made_mark log before after n origin all is makes).1

own_maker : (log : List Note) → AllNumbered unread log → (origin k passed : ℕ) (m : IsMarkOf log origin k passed) → (mark_at (scan log).marks k).maker ≡ maker_of m.making
own_maker log all origin k passed m =
    let p = parts log m.making m.stands in
    ap (λ (x : Mark). x.maker) m.mark ∙ ap (λ (x : Mark). x.maker) (made_mark log p.0 p.1 m.making origin all p.2 m.makes).1

pub system_holds : (log : List Note) → AllNumbered unread log → (origin k passed e : ℕ) → ComesFrom log origin k passed → (mark_at (scan log).marks k).maker ≡ BySystem e → Contains log (SendsSystem e origin)
system_holds log all origin k passed e comes by =
    let m = comes_marked log all origin comes in
    subst (Contains log) (system_note m.making origin e m.makes (sym (own_maker log all origin k passed m) ∙ by)) m.stands

pub injected_holds : (log : List Note) → AllNumbered unread log → (origin k passed : ℕ) → ComesFrom log origin k passed → (mark_at (scan log).marks k).maker ≡ FromOutside → Contains log (Injected origin)
injected_holds log all origin k passed comes by =
    let m = comes_marked log all origin comes in
    subst (Contains log) (outside_note m.making origin m.makes (sym (own_maker log all origin k passed m) ∙ by)) m.stands

pub end_holds : (log : List Note) → AllNumbered unread log → (origin k passed e : ℕ) → ComesFrom log origin k passed → end_of (mark_at (scan log).marks k).maker ≡ Some e
    → (making : Note) × Contains log making × IsMadeBy making e origin
end_holds log all origin k passed e comes by =
    let m = comes_marked log all origin comes in
    (m.making, m.stands, end_note m.making origin e m.makes (ap end_of (sym (own_maker log all origin k passed m)) ∙ by))
