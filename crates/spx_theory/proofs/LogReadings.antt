-- What ends read, and the units sent between the making of a packet and its reading, in terms of the entries
-- of the log.
use Rattle.std.proofs.Common.{◌≡◌, ◌⊎◌, ◌+◌, ℕ, true, List, [], ◌∷◌, ◌++◌, length, take, drop, Some, refl, sym, ◌∙◌, ap, arith, inl, inr, append_assoc, length-append}
use Rattle.std.specs.Prelude.{Contains, slice_get}
use Rattle.std.proofs.Math.Seq.{drop-append_seam, take-append_seam}
use Rattle.std.proofs.lemmas.List.{append-nil}
use Rattle.spx_theory.specs.LogPremises.{ComesFrom, JustMadeOrJoined, MakesOrJoins, carried, itself, makes_new, unit_by, units_sent}
use Rattle.spx_theory.specs.Note.{Note, Accepted, Joined, Got, SendsUnit, Carried}
use Rattle.spx_theory.specs.Peers.{units_between}
use Rattle.spx_theory.specs.PremisesRead.{packets_read, read_by}
use Rattle.spx_theory.specs.Scan.{Mark, Reading, Scan, is_now, scan, seen, seen_all, times, unread}
use Rattle.spx_theory.proofs.Folding.{seen_all-append}
use Rattle.spx_theory.proofs.HeldReads.{reading_now}
use Rattle.spx_theory.proofs.Lists.{get_before, get_here, get_last, times-append}
use Rattle.spx_theory.proofs.LogOrigins.{comes_marked, later, made_mark, mark_later, numbered_in}
use Rattle.spx_theory.proofs.Numbering.{AllNumbered}
use Rattle.spx_theory.proofs.PairPremises.{all_grew}
use Rattle.spx_theory.proofs.PeerFinding.{now_is}
use Rattle.spx_theory.proofs.Speaking.{eqb_same}
use Rattle.spx_theory.proofs.Tied.{mark_at}

-- ---- units that were sent

abbrev pub unit_sender : Note → List ℕ
unit_sender (SendsUnit who parcel) = who ∷ []
unit_sender n = []

abbrev pub senders : List Note → List ℕ
senders [] = []
senders (n ∷ ns) = unit_sender n ++ senders ns

unit_counted : (e : ℕ) (n : Note) → times e (unit_sender n) ≡ unit_by e n
unit_counted e (SendsUnit who parcel) = omega arith
unit_counted e n = refl

pub units_counted : (e : ℕ) (ns : List Note) → times e (senders ns) ≡ units_sent e ns
units_counted e [] = refl
units_counted e (n ∷ ns) = omega (arith, times-append e (unit_sender n) (senders ns), unit_counted e n, units_counted e ns)

sent_on : (s : Scan) (n : Note) → (seen s n).sent ≡ s.sent ++ unit_sender n
sent_on s (SendsUnit who parcel) = refl
sent_on s n = sym (append-nil s.sent)

pub sent_all : (s : Scan) (ns : List Note) → (seen_all s ns).sent ≡ s.sent ++ senders ns
sent_all s [] = sym (append-nil s.sent)
sent_all s (n ∷ ns) = sent_all (seen s n) ns ∙ ap (λ xs. xs ++ senders ns) (sent_on s n) ∙ append_assoc s.sent (unit_sender n) (senders ns)

-- ---- readings and the entries Got

abbrev pub reading_at : Scan → ℕ → ℕ → Reading
reading_at s who k = reading_now s who k (is_now s.newest who)

-- each entry makes a reading
pub reading_there : (log before after : List Note) (who parcel : ℕ) → log ≡ before ++ Got who parcel ∷ after
    → slice_get (scan log).readings (length (scan before).readings) ≡ Some (reading_at (scan before) who parcel)
reading_there log before after who parcel is =
    let t : Scan = scan before in
    let r : Reading = reading_at t who parcel in
    let g = all_grew (seen t (Got who parcel)) after in
    let readings : (scan log).readings ≡ (t.readings ++ r ∷ []) ++ g.readings = ap (λ (z : Scan). z.readings) (later log before after (Got who parcel) is) ∙ g.readings_is in
    ap (λ rs. slice_get rs (length t.readings)) readings ∙ get_before (t.readings ++ r ∷ []) g.readings r (length t.readings) (get_here t.readings r)

-- as many readings as entries Got
readings_on : (s : Scan) (n : Note) → length (seen s n).readings ≡ length s.readings + read_by n
readings_on s (Got who parcel) = length-append s.readings (reading_at s who parcel ∷ [])
readings_on s n = omega arith

pub readings_counted : (s : Scan) (ns : List Note) → length (seen_all s ns).readings ≡ length s.readings + packets_read ns
readings_counted s [] = omega arith
readings_counted s (n ∷ ns) = omega (arith, readings_counted (seen s n) ns, readings_on s n)

-- each reading is from an entry
pub record IsReadAt (s : Scan) (ns : List Note) (r : Reading) : Type 0 where
  pub before : List Note
  pub after : List Note
  pub who : ℕ
  pub parcel : ℕ
  pub is : ns ≡ before ++ Got who parcel ∷ after
  pub reading : r ≡ reading_at (seen_all s before) who parcel

reading_on : (s : Scan) (n : Note) (ns : List Note) (k : ℕ) (r : Reading) → slice_get (seen s n).readings k ≡ Some r → (slice_get s.readings k ≡ Some r) ⊎ IsReadAt s (n ∷ ns) r
reading_on s (Got who parcel) ns k r at =
    elim (get_last s.readings _ r k at) [
      | inl was ↦ inl was
      | inr new ↦ inr (record { before = []; after = ns; who = who; parcel = parcel; is = refl; reading = sym new.1 })
    ]
reading_on s n ns k r at = inl at

reading_all : (s : Scan) (ns : List Note) (k : ℕ) (r : Reading) → slice_get (seen_all s ns).readings k ≡ Some r → (slice_get s.readings k ≡ Some r) ⊎ IsReadAt s ns r
reading_all s [] k r at = inl at
reading_all s (n ∷ ns) k r at =
    elim (reading_all (seen s n) ns k r at) [
      | inl was ↦ reading_on s n ns k r was
      | inr new ↦ inr (record { before = n ∷ new.before; after = new.after; who = new.who; parcel = new.parcel; is = ap (λ ms. n ∷ ms) new.is; reading = new.reading })
    ]

pub reading_from : (log : List Note) (k : ℕ) (r : Reading) → slice_get (scan log).readings k ≡ Some r → IsReadAt unread log r
reading_from log k r at = elim (reading_all unread log k r at) [ inl none ↦ absurd (cc none) | inr is ↦ is ]

-- ---- what is between

mark_units : (log : List Note) → AllNumbered unread log → (before after : List Note) (n : Note) (origin k passed : ℕ) → ComesFrom log origin k passed
    → log ≡ before ++ n ∷ after → makes_new n ≡ Some origin
    → (mark_at (scan log).marks k).units ≡ length (seen (scan before) n).sent
mark_units log all before after n origin k passed comes is makes =
    let m = comes_marked log all origin comes in
    ap (λ (x : Mark). x.units) m.mark ∙ ap (λ (x : Mark). x.units) (made_mark log before after n origin all is makes).1

pub joined_split : (before between after : List Note) (n m : Note) (log : List Note) → log ≡ before ++ n ∷ (between ++ m ∷ after) → log ≡ (before ++ n ∷ between) ++ m ∷ after
joined_split before between after n m log is = is ∙ sym (append_assoc before (n ∷ between) (m ∷ after))

pub between_counts : (log : List Note) → AllNumbered unread log → (before between after : List Note) (making : Note) (who parcel origin passed : ℕ)
    → log ≡ before ++ making ∷ (between ++ Got who parcel ∷ after)
    → makes_new making ≡ Some origin → ComesFrom log origin parcel passed
    → (e : ℕ) → units_between e (scan log).sent (reading_at (scan (before ++ making ∷ between)) who parcel) ≡ units_sent e between
between_counts log all before between after making who parcel origin passed is makes comes e =
    let front : List Note = before ++ making ∷ between in
    let got : log ≡ front ++ Got who parcel ∷ after = joined_split before between after making (Got who parcel) log is in
    let within = (numbered_in log front after (Got who parcel) all got).1 in
    let first : List ℕ = (seen (scan before) making).sent in
    let from : (mark_at (scan front).marks parcel).units ≡ length first =
    ap (λ (m : Mark). m.units) (sym (mark_later log front after (Got who parcel) parcel got within).0) ∙ mark_units log all before (between ++ Got who parcel ∷ after) making origin parcel passed comes is makes in
    let upto : (scan front).sent ≡ first ++ senders between = ap (λ (z : Scan). z.sent) (later front before between making refl) ∙ sent_all (seen (scan before) making) between in
    let whole : (scan log).sent ≡ (scan front).sent ++ senders (Got who parcel ∷ after) =
    ap (λ (z : Scan). z.sent) (ap scan got ∙ seen_all-append unread front (Got who parcel ∷ after)) ∙ sent_all (scan front) (Got who parcel ∷ after) in
    let cut : take (length (scan front).sent) (scan log).sent ≡ (scan front).sent =
    ap (take (length (scan front).sent)) whole ∙ take-append_seam (scan front).sent (senders (Got who parcel ∷ after)) in
    ap (λ xs. times e (drop (mark_at (scan front).marks parcel).units xs)) cut
    ∙ ap (λ k. times e (drop k (scan front).sent)) from
    ∙ ap (λ xs. times e (drop (length first) xs)) upto
    ∙ ap (times e) (drop-append_seam first (senders between))
    ∙ units_counted e between

-- ---- what made or joined an end just before

makes_newest : (s : Scan) (n : Note) (who : ℕ) → MakesOrJoins n who → (seen s n).newest ≡ Some who
makes_newest s n who makes =
    elim makes.1 [
      | inl accepts ↦ ap (λ m. (seen s m).newest) accepts.1
      | inr joins ↦ ap (λ m. (seen s m).newest) joins
    ]

newest_makes : (s : Scan) (n : Note) (who : ℕ) → (seen s n).newest ≡ Some who → MakesOrJoins n who
newest_makes s (Accepted e parcel buffers) who is = let same : e ≡ who = cc is in (parcel, inl (buffers, ap (λ x. Accepted x parcel buffers) same))
newest_makes s (Joined e parcel) who is = let same : e ≡ who = cc is in (parcel, inr (ap (λ x. Joined x parcel) same))
newest_makes s n who is = absurd (cc is)

last_of : (xs : List Note) → (xs ≡ []) ⊎ ((ys : List Note) × (y : Note) × (xs ≡ ys ++ y ∷ []))
last_of [] = inl refl
last_of (x ∷ xs) =
    elim (last_of xs) [
      | inl none ↦ inr ([], x, ap (λ zs. x ∷ zs) none)
      | inr some ↦ inr (x ∷ some.0, some.1, ap (λ zs. x ∷ zs) some.2)
    ]

scan_last : (log before : List Note) (n : Note) → log ≡ before ++ n ∷ [] → scan log ≡ seen (scan before) n
scan_last log before n is = ap scan is ∙ seen_all-append unread before (n ∷ [])

pub first_after : (log : List Note) (who : ℕ) → JustMadeOrJoined log who → is_now (scan log).newest who ≡ true
first_after log who just =
    let newest : (scan log).newest ≡ Some who = ap (λ (z : Scan). z.newest) (scan_last log just.0 just.1 just.2) ∙ makes_newest (scan just.0) just.1 who just.3 in
    ap (λ o. is_now o who) newest ∙ eqb_same who

pub after_first : (log : List Note) (who : ℕ) → is_now (scan log).newest who ≡ true → JustMadeOrJoined log who
after_first log who is =
    let newest : (scan log).newest ≡ Some who = now_is (scan log).newest who is in
    elim (last_of log) [
      | inl none ↦ absurd (cc (sym newest ∙ ap (λ l. (scan l).newest) none))
      | inr some ↦ (some.0, some.1, some.2, newest_makes (scan some.0) some.1 who (ap (λ (z : Scan). z.newest) (sym (scan_last log some.0 some.1 some.2)) ∙ newest))
    ]

-- ---- an origin in a prefix of a log

pub comes_later : (log front : List Note) → ((n : Note) → Contains front n → Contains log n) → (origin : ℕ) {k passed : ℕ} → ComesFrom front origin k passed → ComesFrom log origin k passed
comes_later log front there origin (itself n has makes) = itself n (there n has) makes
comes_later log front there origin (carried {from} {passed} k comes has) = carried k (comes_later log front there origin comes) (there (Carried from k) has)
