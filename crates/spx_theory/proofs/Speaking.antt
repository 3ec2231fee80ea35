-- The entry of a packet that an end gives is a step of the machine of the log.
use Rattle.std.proofs.Common.{◌≡◌, ◌≢◌, ◌+◌, ◌-◌, ◌≤◌, ◌<◌, ◌==◌, ℕ, true, false, cond, List, [], ◌∷◌, ◌++◌, length, set, Some, None, refl, sym, ◌∙◌, ap, subst, arith, ne_eqb}
use Rattle.std.specs.Prelude.{slice_index_or}
use Rattle.std.proofs.lemmas.List.{append-nil}
use Rattle.std.proofs.lemmas.Bool.{cond-true, cond-false}
use Rattle.std.proofs.lemmas.Bool.Decides.{nat_tests}
use Rattle.spx_link.specs.declared.outgoing.Sent.{Sent}
use Rattle.spx_link.specs.SequenceMarks.{mark, distance}
use Rattle.spx_link.specs.LinkView.{LinkView}
use Rattle.spx_link.specs.Poll.{OutgoingView}
use Rattle.spx_link.specs.Machine.{one_more_sent}
use Rattle.spx_theory.proofs.Running.{mailed_runs, sent_again_runs, sent_next_runs}
use Rattle.spx_theory.proofs.Stepping.{sent_again_sound, mailed_sound, sent_next_sound}
use Rattle.spx_theory.specs.SentUnits.{SaysOnly}
use Rattle.ipx_wire.specs.Connection.{sequence_in}
use Rattle.spx_theory.specs.Note.{Note, SendsUnit, SendsAgain, SendsSystem}
use Rattle.spx_theory.specs.Scan.{Scan, Mark, times, seen, ByUnit, BySystem}
use Rattle.spx_theory.specs.PairLog.{Half, half_after, not_mine, posted, posted_next, position_of}
use Rattle.spx_theory.specs.Spelling.{Says, Spoke}
use Rattle.spx_theory.specs.Tracks.{core, IsOpen}
use Rattle.spx_theory.specs.Scene.{PresentEnd, linked}
use Rattle.spx_theory.specs.PacketsOnWay.{note_of}
use Rattle.spx_theory.proofs.Lists.{times-append, read_there, get_here}
use Rattle.spx_theory.proofs.Tied.{Whole}
use Rattle.spx_theory.proofs.Giving.{gives_whole}
use Rattle.spx_link.specs.declared.outgoing.Sent.TheVariants as Sents
use Rattle.spx_theory.specs.Below.{LawsBelow}

pub eqb_same : (n : ℕ) → (n == n) ≡ true
eqb_same n = grind (arith, nat_tests)

-- both halves after an entry, tied to the ends and parcels after it
abbrev pub WholeAfter : (c d : ℕ) (ends : List PresentEnd) (parcels : List (List ℕ)) (s : Scan) (x y : Half) → Note → Type 0
WholeAfter c d ends parcels s x y n =
    Whole c d ends parcels (seen s n).marks (seen s n).sent (half_after parcels c x y n) (half_after parcels d y x n)

module _ (laws : LawsBelow) (c d : ℕ) (differ : c ≢ d) (ends : List PresentEnd) (parcels : List (List ℕ)) (s : Scan) (x y : Half) where
  whole_is : (ends' : List PresentEnd) (bytes : List ℕ) (n : Note) (x' y' : Half) → half_after (parcels ++ bytes ∷ []) c x y n ≡ x' → half_after (parcels ++ bytes ∷ []) d y x n ≡ y'
      → Whole c d ends' (parcels ++ bytes ∷ []) (seen s n).marks (seen s n).sent x' y' → WholeAfter c d ends' (parcels ++ bytes ∷ []) s x y n
  whole_is ends' bytes n x' y' one two w =
      subst (λ h. Whole c d ends' (parcels ++ bytes ∷ []) (seen s n).marks (seen s n).sent h (half_after (parcels ++ bytes ∷ []) d y x n)) (sym one)
      (subst (λ h. Whole c d ends' (parcels ++ bytes ∷ []) (seen s n).marks (seen s n).sent x' h) (sym two) w)

  other_no : (c == d) ≡ false
  other_no = ne_eqb c d differ

  -- a packet without a unit
  pub system_whole : Whole c d ends parcels s.marks s.sent x y → (w : PresentEnd) (l : LinkView) (g : OutgoingView) (bytes : List ℕ)
      → SaysOnly g.header g.body bytes → IsOpen l → Says (core l) g None x.end y.end
      → WholeAfter c d (set ends c (linked w l)) (parcels ++ bytes ∷ []) s x y (SendsSystem c (length parcels))
  system_whole whole w l g bytes only open' says =
      let m : Mark = record { origin = length s.marks; maker = BySystem c; passed = 0; units = length s.sent } in
      let e : s.sent ++ [] ≡ s.sent = append-nil s.sent in
      let done = gives_whole c d differ ends parcels s.marks s.sent [] x y whole None x.end w l g bytes m
      (record {
        sound = mailed_sound laws x.end y.end whole.sound;
        run = mailed_runs x.end y.end whole.run;
        bag = refl;
        later = omega arith;
        back = omega arith;
        units = refl;
        buffers = refl;
        says = says;
        open' = open';
        only = only;
        by = refl;
        at = sym (ap length e);
        count = whole.one.count ∙ ap (times c) (sym e);
        peer_count = whole.two.count ∙ ap (times d) (sym e);
      }) in
      whole_is (set ends c (linked w l)) bytes (SendsSystem c (length parcels)) (posted None x y) (not_mine y)
      (cond-true _ _ _ (eqb_same c)) (cond-false _ _ _ other_no)
      (subst (λ (ns : List ℕ). Whole c d (set ends c (linked w l)) (parcels ++ bytes ∷ []) (s.marks ++ m ∷ []) ns (posted None x y) (not_mine y)) e done)

  -- the next unit
  pub unit_whole : Whole c d ends parcels s.marks s.sent x y → (w : PresentEnd) (l : LinkView) (g : OutgoingView) (bytes : List ℕ)
      → SaysOnly g.header g.body bytes → IsOpen l → x.end.sent < x.end.limit → x.end.sent < length x.end.units → Says (core l) g (Some x.end.sent) (one_more_sent x.end) y.end
      → WholeAfter c d (set ends c (linked w l)) (parcels ++ bytes ∷ []) s x y (SendsUnit c (length parcels))
  unit_whole whole w l g bytes only open' room within says =
      let m : Mark = record { origin = length s.marks; maker = ByUnit c; passed = 0; units = length (s.sent ++ c ∷ []) } in
      let own : times c (c ∷ []) ≡ 1 = ap (λ b. cond b 1 0 + 0) (eqb_same c) in
      let other : times d (c ∷ []) ≡ 0 = ap (λ b. cond b 1 0 + 0) other_no in
      let done = gives_whole c d differ ends parcels s.marks s.sent (c ∷ []) x y whole (Some x.end.sent) (one_more_sent x.end) w l g bytes m
      (record {
        sound = sent_next_sound laws x.end y.end whole.sound room within;
        run = sent_next_runs x.end y.end whole.run room within;
        bag = refl;
        later = omega arith;
        back = omega arith;
        units = refl;
        buffers = refl;
        says = says;
        open' = open';
        only = only;
        by = refl;
        at = refl;
        count = omega (arith, whole.one.count, times-append c s.sent (c ∷ []), own);
        peer_count = omega (arith, whole.two.count, times-append d s.sent (c ∷ []), other);
      }) in
      whole_is (set ends c (linked w l)) bytes (SendsUnit c (length parcels)) (posted_next x y) (not_mine y)
      (cond-true _ _ _ (eqb_same c)) (cond-false _ _ _ other_no) done

  -- a unit again
  pub again_whole : Whole c d ends parcels s.marks s.sent x y → (w : PresentEnd) (l : LinkView) (g : OutgoingView) (bytes : List ℕ) (n : ℕ)
      → SaysOnly g.header g.body bytes → sequence_in bytes ≡ g.header.seq → IsOpen l → x.end.base ≤ n → n < x.end.sent → Says (core l) g (Some n) x.end y.end
      → WholeAfter c d (set ends c (linked w l)) (parcels ++ bytes ∷ []) s x y (SendsAgain c (length parcels))
  again_whole whole w l g bytes n only number open' low high says =
      let m : Mark = record { origin = length s.marks; maker = ByUnit c; passed = 0; units = length s.sent } in
      let e : s.sent ++ [] ≡ s.sent = append-nil s.sent in
      let t = says.tracks.counts in
      let seq : sequence_in bytes ≡ mark n = number ∙ says.carries.1 in
      let back : distance (mark x.end.sent) (sequence_in bytes) + n ≡ x.end.sent = omega (arith, seq, low, high, t.out, t.window) in
      let some : (distance (mark x.end.sent) (sequence_in bytes) == 0) ≡ false = ne_eqb _ 0 (λ z. omega (arith, z, back, high)) in
      let place : position_of x.end.sent (sequence_in bytes) ≡ n = ap (λ b. x.end.sent - cond b 65536 (distance (mark x.end.sent) (sequence_in bytes))) some ∙ omega (arith, back) in
      let here : slice_index_or (parcels ++ bytes ∷ []) (length parcels) [] ≡ bytes = read_there (parcels ++ bytes ∷ []) (length parcels) bytes [] (get_here parcels bytes) in
      let done = gives_whole c d differ ends parcels s.marks s.sent [] x y whole (Some n) x.end w l g bytes m
      (record {
        sound = sent_again_sound laws x.end y.end whole.sound n low high;
        run = sent_again_runs x.end y.end whole.run n low high;
        bag = refl;
        later = omega arith;
        back = omega arith;
        units = refl;
        buffers = refl;
        says = says;
        open' = open';
        only = only;
        by = refl;
        at = sym (ap length e);
        count = whole.one.count ∙ ap (times c) (sym e);
        peer_count = whole.two.count ∙ ap (times d) (sym e);
      }) in
      whole_is (set ends c (linked w l)) bytes (SendsAgain c (length parcels)) (posted (Some n) x y) (not_mine y)
      (cond-true _ _ _ (eqb_same c) ∙ ap (λ k. posted (Some k) x y) (ap (λ bs. position_of x.end.sent (sequence_in bs)) here ∙ place))
      (cond-false _ _ _ other_no)
      (subst (λ (ns : List ℕ). Whole c d (set ends c (linked w l)) (parcels ++ bytes ∷ []) (s.marks ++ m ∷ []) ns (posted (Some n) x y) (not_mine y)) e done)

  -- any packet that is given
  pub speaks_whole : Whole c d ends parcels s.marks s.sent x y → (what : Sent) (w : PresentEnd) (l : LinkView) (g : OutgoingView) (bytes : List ℕ)
      → SaysOnly g.header g.body bytes → sequence_in bytes ≡ g.header.seq → IsOpen l → Spoke what (core l) g x.end y.end
      → WholeAfter c d (set ends c (linked w l)) (parcels ++ bytes ∷ []) s x y (note_of what c (length parcels))
  speaks_whole whole Sents.Request w l g bytes only number open' spoke = system_whole whole w l g bytes only open' spoke
  speaks_whole whole Sents.Reply w l g bytes only number open' spoke = system_whole whole w l g bytes only open' spoke
  speaks_whole whole Sents.Confirm w l g bytes only number open' spoke = system_whole whole w l g bytes only open' spoke
  speaks_whole whole Sents.Unit w l g bytes only number open' spoke = unit_whole whole w l g bytes only open' spoke.0 spoke.1 spoke.2
  speaks_whole whole Sents.Again w l g bytes only number open' spoke = again_whole whole w l g bytes spoke.0 only number open' spoke.1 spoke.2 spoke.3
  speaks_whole whole Sents.Ack w l g bytes only number open' spoke = system_whole whole w l g bytes only open' spoke
  speaks_whole whole Sents.Probe w l g bytes only number open' spoke = system_whole whole w l g bytes only open' spoke
