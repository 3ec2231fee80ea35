-- The summaries after one more entry: new ends, the messages that they handed in and out, and the units that
-- they sent.
use Rattle.std.proofs.Common.{◌≡◌, ◌<◌, ◌≤◌, ◌+◌, ◌==◌, ℕ, zero, suc, List, [], ◌∷◌, ◌++◌, length, get_or, take, drop, Bool, true, false, cond, refl, sym, ◌∙◌, ap, arith, subst, eqb-true, length-append, length-set, length-take, ltb, ltb-true, ltb-false, None}
use Rattle.std.proofs.lemmas.Bool.{eqb-false}
use Rattle.std.proofs.lemmas.List.{map-append, get_or-set_same, get_or-set_other, take-append-drop, take_more, drop_more, set_past}
use Rattle.spx_messages.specs.Message.{MessageView}
use Rattle.spx_link.specs.SequenceMarks.{mark}
use Rattle.spx_theory.specs.Handed.{gathered, handed_in, handed_out, in_by, out_by}
use Rattle.spx_theory.specs.Note.{Note, Opened, Accepted, Joined, HandsIn, HandsOut, TakesUnit, AsksEnd, Got, Released, SendsUnit, SendsAgain, SendsSystem, Told, Carried, Injected}
use Rattle.spx_theory.specs.Numbered.{IsNumbered}
use Rattle.spx_theory.specs.Scan.{Scan, asker, joined_by, mark_of, role_of, scan, seen, times, unread}
use Rattle.spx_theory.specs.SentUnits.{sent_by}
use Rattle.ipx_net.specs.Ends.{nobody, told_of}
use Rattle.ipx_net.specs.LogEntries.{entry_note, entry_notes}
use Rattle.ipx_net.specs.Theorems.{AreNumbered}
use Rattle.ipx_net.specs.EndSummaryChanges.{AreCounted, IsCounted, StayAs, StaysAs, change, one_given, one_out, one_sent, summaries_with}
use Rattle.ipx_net.specs.declared.endinfo.EndInfo.{EndInfo}
use Rattle.ipx_net.specs.declared.entry.Entry.{Entry}
use Rattle.ipx_net.proofs.Sightings.{seen_all-append}

pub scan_on : (log : List Note) (n : Note) → scan (log ++ n ∷ []) ≡ seen (scan log) n
scan_on log n = seen_all-append unread log (n ∷ [])

gathered_on : (f : Note → List MessageView) (log : List Note) (n : Note) → length (gathered f (log ++ n ∷ [])) ≡ length (gathered f log) + length (f n)
gathered_on f [] n = omega (arith, length-append (f n) [])
gathered_on f (m ∷ log) n = omega (arith, length-append (f m) (gathered f (log ++ n ∷ [])), length-append (f m) (gathered f log), gathered_on f log n)

times_on : (e : ℕ) (ns : List ℕ) (w : ℕ) → times e (ns ++ w ∷ []) ≡ times e ns + cond (w == e) 1 0
times_on e [] w = omega arith
times_on e (n ∷ ns) w = omega (arith, times_on e ns w)

-- the summary of an end that changes, and those of the others
pub change_at : (f : EndInfo → EndInfo) (w : ℕ) (told : List EndInfo) (who : ℕ) (b : Bool) → (w == who) ≡ b → w < length told
    → told_of (change f w told) who ≡ cond b (f (told_of told who)) (told_of told who)
change_at f w told who true same h =
    let one : w ≡ who = eqb-true w who same in
    subst (λ (k : ℕ). told_of (change f w told) k ≡ f (told_of told k)) one (get_or-set_same told w (f (told_of told w)) nobody h)
change_at f w told who false differ h =
    get_or-set_other told w who (f (told_of told w)) nobody (λ same. eqb-false w who differ (sym same))

nobody_on : (told : List EndInfo) (who : ℕ) → told_of (told ++ nobody ∷ []) who ≡ told_of told who
nobody_on [] zero = refl
nobody_on [] (suc who) = refl
nobody_on (x ∷ xs) zero = refl
nobody_on (x ∷ xs) (suc who) = nobody_on xs who

-- an entry that hands nothing in or out and sends no unit
kept : (log : List Note) (n : Note) (told told' : List EndInfo) → ((e : ℕ) → in_by e n ≡ []) → ((e : ℕ) → out_by e n ≡ []) → (seen (scan log) n).sent ≡ (scan log).sent
    → ((e : ℕ) → told_of told' e ≡ told_of told e) → length told' ≡ length (seen (scan log) n).roles → AreCounted log told → AreCounted (log ++ n ∷ []) told'
kept log n told told' none silent sent same count old =
    record {
      count = count ∙ sym (ap (λ (s : Scan). length s.roles) (scan_on log n));
      each = λ who. let c = old.each who in let e = same who in
          record {
            given = ap (λ (x : EndInfo). x.given) e ∙ omega (arith, c.given, gathered_on (in_by who) log n, ap length (none who));
            out = ap (λ (x : EndInfo). x.out) e ∙ omega (arith, c.out, gathered_on (out_by who) log n, ap length (silent who));
            next = ap (λ (x : EndInfo). x.next) e ∙ c.next ∙ ap (λ (ns : List ℕ). mark (times who ns)) (sym sent) ∙ ap (λ (s : Scan). mark (times who s.sent)) (sym (scan_on log n));
          };
    }

-- an entry by which one end changes
changed : (f : EndInfo → EndInfo) (w : ℕ) (log : List Note) (n : Note) (told : List EndInfo) → w < length told → (seen (scan log) n).roles ≡ (scan log).roles
    → ((who : ℕ) (x : EndInfo) (b : Bool) → (w == who) ≡ b → IsCounted log who x → IsCounted (log ++ n ∷ []) who (cond b (f x) x))
    → AreCounted log told → AreCounted (log ++ n ∷ []) (change f w told)
changed f w log n told h roles step old =
    record {
      count = length-set told w (f (told_of told w)) ∙ old.count ∙ ap length (sym roles) ∙ sym (ap (λ (s : Scan). length s.roles) (scan_on log n));
      each = λ who. subst (λ (e : EndInfo). IsCounted (log ++ n ∷ []) who e) (sym (change_at f w told who (w == who) refl h)) (step who (told_of told who) (w == who) refl (old.each who));
    }

given_step : (w : ℕ) (m : MessageView) (log : List Note) (who : ℕ) (x : EndInfo) (b : Bool) → (w == who) ≡ b → IsCounted log who x → IsCounted (log ++ HandsIn w m ∷ []) who (cond b (one_given x) x)
given_step w m log who x true is c =
    let one : length (in_by who (HandsIn w m)) ≡ 1 = ap (λ (b : Bool). length (cond b (m ∷ []) [])) is in
    record {
      given = omega (arith, c.given, gathered_on (in_by who) log (HandsIn w m), one);
      out = omega (arith, c.out, gathered_on (out_by who) log (HandsIn w m));
      next = c.next ∙ ap (λ (s : Scan). mark (times who s.sent)) (sym (scan_on log (HandsIn w m)));
    }
given_step w m log who x false is c =
    let no : length (in_by who (HandsIn w m)) ≡ 0 = ap (λ (b : Bool). length (cond b (m ∷ []) [])) is in
    record {
      given = omega (arith, c.given, gathered_on (in_by who) log (HandsIn w m), no);
      out = omega (arith, c.out, gathered_on (out_by who) log (HandsIn w m));
      next = c.next ∙ ap (λ (s : Scan). mark (times who s.sent)) (sym (scan_on log (HandsIn w m)));
    }

out_step : (w : ℕ) (m : MessageView) (log : List Note) (who : ℕ) (x : EndInfo) (b : Bool) → (w == who) ≡ b → IsCounted log who x → IsCounted (log ++ HandsOut w m ∷ []) who (cond b (one_out x) x)
out_step w m log who x true is c =
    let one : length (out_by who (HandsOut w m)) ≡ 1 = ap (λ (b : Bool). length (cond b (m ∷ []) [])) is in
    record {
      given = omega (arith, c.given, gathered_on (in_by who) log (HandsOut w m));
      out = omega (arith, c.out, gathered_on (out_by who) log (HandsOut w m), one);
      next = c.next ∙ ap (λ (s : Scan). mark (times who s.sent)) (sym (scan_on log (HandsOut w m)));
    }
out_step w m log who x false is c =
    let no : length (out_by who (HandsOut w m)) ≡ 0 = ap (λ (b : Bool). length (cond b (m ∷ []) [])) is in
    record {
      given = omega (arith, c.given, gathered_on (in_by who) log (HandsOut w m));
      out = omega (arith, c.out, gathered_on (out_by who) log (HandsOut w m), no);
      next = c.next ∙ ap (λ (s : Scan). mark (times who s.sent)) (sym (scan_on log (HandsOut w m)));
    }

sent_step : (w parcel : ℕ) (log : List Note) (who : ℕ) (x : EndInfo) (b : Bool) → (w == who) ≡ b → IsCounted log who x → IsCounted (log ++ SendsUnit w parcel ∷ []) who (cond b (one_sent x) x)
sent_step w parcel log who x b is c =
    let sent : sent_by who (log ++ SendsUnit w parcel ∷ []) ≡ times who ((scan log).sent ++ w ∷ []) = ap (λ (s : Scan). times who s.sent) (scan_on log (SendsUnit w parcel)) in
    let more : sent_by who (log ++ SendsUnit w parcel ∷ []) ≡ sent_by who log + cond b 1 0 = sent ∙ times_on who (scan log).sent w ∙ ap (λ (b : Bool). times who (scan log).sent + cond b 1 0) is in
    let given : x.given ≡ length (handed_in who (log ++ SendsUnit w parcel ∷ [])) = omega (arith, c.given, gathered_on (in_by who) log (SendsUnit w parcel)) in
    let out : x.out ≡ length (handed_out who (log ++ SendsUnit w parcel ∷ [])) = omega (arith, c.out, gathered_on (out_by who) log (SendsUnit w parcel)) in
    by b more given out
  where
    by : (b : Bool) → sent_by who (log ++ SendsUnit w parcel ∷ []) ≡ sent_by who log + cond b 1 0 → x.given ≡ length (handed_in who (log ++ SendsUnit w parcel ∷ [])) → x.out ≡ length (handed_out who (log ++ SendsUnit w parcel ∷ []))
        → IsCounted (log ++ SendsUnit w parcel ∷ []) who (cond b (one_sent x) x)
    by true more given out = record { given = given; out = out; next = omega (arith, c.next, more) }
    by false more given out = record { given = given; out = out; next = omega (arith, c.next, more) }

-- one entry more
pub counted_on : (log : List Note) (n : Note) (told : List EndInfo) → IsNumbered (scan log) n → AreCounted log told → AreCounted (log ++ n ∷ []) (summaries_with n told)
counted_on log (Opened who host buffers) told is old =
    kept log (Opened who host buffers) told (told ++ nobody ∷ []) (λ e. refl) (λ e. refl) refl (nobody_on told) (omega (arith, old.count, length-append told (nobody ∷ []), length-append (scan log).roles (record { buffers = buffers; called = true; joined = false; partner = None } ∷ []))) old
counted_on log (Accepted who parcel buffers) told is old =
    kept log (Accepted who parcel buffers) told (told ++ nobody ∷ []) (λ e. refl) (λ e. refl) refl (nobody_on told) (omega (arith, old.count, length-append told (nobody ∷ []), length-append (scan log).roles (record { buffers = buffers; called = false; joined = true; partner = asker (mark_of (scan log) parcel).maker } ∷ []))) old
counted_on log (Joined who parcel) told is old =
    kept log (Joined who parcel) told told (λ e. refl) (λ e. refl) refl (λ e. refl) (old.count ∙ sym (length-set (scan log).roles who (joined_by (mark_of (scan log) parcel).maker (role_of (scan log) who)))) old
counted_on log (HandsIn who m) told is old = changed one_given who log (HandsIn who m) told (omega (arith, is, old.count)) refl (given_step who m log) old
counted_on log (HandsOut who m) told is old = changed one_out who log (HandsOut who m) told (omega (arith, is, old.count)) refl (out_step who m log) old
counted_on log (TakesUnit who u) told is old = kept log (TakesUnit who u) told told (λ e. refl) (λ e. refl) refl (λ e. refl) old.count old
counted_on log (AsksEnd who) told is old = kept log (AsksEnd who) told told (λ e. refl) (λ e. refl) refl (λ e. refl) old.count old
counted_on log (Got who parcel) told is old = kept log (Got who parcel) told told (λ e. refl) (λ e. refl) refl (λ e. refl) old.count old
counted_on log (Released who) told is old = kept log (Released who) told told (λ e. refl) (λ e. refl) refl (λ e. refl) old.count old
counted_on log (SendsUnit who parcel) told is old = changed one_sent who log (SendsUnit who parcel) told (let w : who < length (scan log).roles = is.0 in omega (arith, w, old.count)) refl (sent_step who parcel log) old
counted_on log (SendsAgain who parcel) told is old = kept log (SendsAgain who parcel) told told (λ e. refl) (λ e. refl) refl (λ e. refl) old.count old
counted_on log (SendsSystem who parcel) told is old = kept log (SendsSystem who parcel) told told (λ e. refl) (λ e. refl) refl (λ e. refl) old.count old
counted_on log (Told router parcel) told is old = kept log (Told router parcel) told told (λ e. refl) (λ e. refl) refl (λ e. refl) old.count old
counted_on log (Carried from parcel) told is old = kept log (Carried from parcel) told told (λ e. refl) (λ e. refl) refl (λ e. refl) old.count old
counted_on log (Injected parcel) told is old = kept log (Injected parcel) told told (λ e. refl) (λ e. refl) refl (λ e. refl) old.count old

-- ---- what does not change

same_stays : (e f : EndInfo) → f ≡ e → StaysAs e f
same_stays e f is = record { host = ap (λ (x : EndInfo). x.host) is; state = ap (λ (x : EndInfo). x.state) is; peer = ap (λ (x : EndInfo). x.peer) is }

pub stays_then : (a b c : List EndInfo) → StayAs a b → StayAs b c → StayAs a c
stays_then a b c one two = λ who.
    let x = one who in let y = two who in
    record { host = y.host ∙ x.host; state = y.state ∙ x.state; peer = y.peer ∙ x.peer }

change_stays : (f : EndInfo → EndInfo) (w : ℕ) (told : List EndInfo) → ((e : EndInfo) → StaysAs e (f e)) → StayAs told (change f w told)
change_stays f w told keeps who = by_length (ltb w (length told)) refl
  where
    pick : (b : Bool) → (w == who) ≡ b → w < length told → StaysAs (told_of told who) (told_of (change f w told) who)
    pick true same h = subst (λ (e : EndInfo). StaysAs (told_of told who) e) (sym (change_at f w told who true same h)) (keeps (told_of told who))
    pick false same h = same_stays (told_of told who) (told_of (change f w told) who) (change_at f w told who false same h)

    by_length : (b : Bool) → ltb w (length told) ≡ b → StaysAs (told_of told who) (told_of (change f w told) who)
    by_length true h = pick (w == who) refl (ltb-true w (length told) h)
    by_length false h = same_stays (told_of told who) (told_of (change f w told) who) (ap (λ (xs : List EndInfo). told_of xs who) (set_past told w (f (told_of told w)) (ltb-false w (length told) h)))

pub told_stays : (n : Note) (told : List EndInfo) → StayAs told (summaries_with n told)
told_stays (Opened who host buffers) told = λ w. same_stays (told_of told w) (told_of (told ++ nobody ∷ []) w) (nobody_on told w)
told_stays (Accepted who parcel buffers) told = λ w. same_stays (told_of told w) (told_of (told ++ nobody ∷ []) w) (nobody_on told w)
told_stays (HandsIn who m) told = change_stays one_given who told (λ e. record { host = refl; state = refl; peer = refl })
told_stays (HandsOut who m) told = change_stays one_out who told (λ e. record { host = refl; state = refl; peer = refl })
told_stays (SendsUnit who parcel) told = change_stays one_sent who told (λ e. record { host = refl; state = refl; peer = refl })
told_stays (Joined who parcel) told = λ w. record { host = refl; state = refl; peer = refl }
told_stays (TakesUnit who u) told = λ w. record { host = refl; state = refl; peer = refl }
told_stays (AsksEnd who) told = λ w. record { host = refl; state = refl; peer = refl }
told_stays (Got who parcel) told = λ w. record { host = refl; state = refl; peer = refl }
told_stays (Released who) told = λ w. record { host = refl; state = refl; peer = refl }
told_stays (SendsAgain who parcel) told = λ w. record { host = refl; state = refl; peer = refl }
told_stays (SendsSystem who parcel) told = λ w. record { host = refl; state = refl; peer = refl }
told_stays (Told router parcel) told = λ w. record { host = refl; state = refl; peer = refl }
told_stays (Carried from parcel) told = λ w. record { host = refl; state = refl; peer = refl }
told_stays (Injected parcel) told = λ w. record { host = refl; state = refl; peer = refl }

-- ---- along a log

-- a log up to an index, followed by the entry there
pub taken_more : (log : List Entry) (at : ℕ) (e : Entry) → at < length log → e ≡ get_or log at e → entry_notes (take (at + 1) log) ≡ entry_notes (take at log) ++ entry_note e ∷ []
taken_more log at e h is =
    ap entry_notes (take_more log at e h ∙ ap (λ (x : Entry). take at log ++ x ∷ []) (sym is)) ∙ map-append entry_note (take at log) (e ∷ [])

pub numbered_at : (log : List Entry) (at : ℕ) (e : Entry) → at < length log → e ≡ get_or log at e → AreNumbered (entry_notes log) → IsNumbered (scan (entry_notes (take at log))) (entry_note e)
numbered_at log at e h is numbered =
    numbered (entry_notes (take at log)) (entry_notes (drop (at + 1) log)) (entry_note e)
    (ap entry_notes (sym (take-append-drop at log)) ∙ map-append entry_note (take at log) (drop at log)
    ∙ ap (λ (es : List Entry). entry_notes (take at log) ++ entry_notes es) (drop_more log at e h ∙ ap (λ (x : Entry). x ∷ drop (at + 1) log) (sym is)))

pub counted_next : (log : List Entry) (at : ℕ) (e : Entry) (told : List EndInfo) → at < length log → e ≡ get_or log at e → AreNumbered (entry_notes log)
    → AreCounted (entry_notes (take at log)) told → AreCounted (entry_notes (take (at + 1) log)) (summaries_with (entry_note e) told)
counted_next log at e told h is numbered old =
    subst (λ (ns : List Note). AreCounted ns (summaries_with (entry_note e) told)) (sym (taken_more log at e h is))
    (counted_on (entry_notes (take at log)) (entry_note e) told (numbered_at log at e h is numbered) old)

-- ---- no end handed in or out more messages than there are entries

cond_few : (m : MessageView) (b : Bool) → length (cond b (m ∷ []) []) ≤ 1
cond_few m true = omega arith
cond_few m false = omega arith

one_in : (e : ℕ) (n : Note) → length (in_by e n) ≤ 1
one_in e (HandsIn who m) = cond_few m (who == e)
one_in e (Opened who host buffers) = omega arith
one_in e (Accepted who parcel buffers) = omega arith
one_in e (Joined who parcel) = omega arith
one_in e (HandsOut who m) = omega arith
one_in e (TakesUnit who u) = omega arith
one_in e (AsksEnd who) = omega arith
one_in e (Got who parcel) = omega arith
one_in e (Released who) = omega arith
one_in e (SendsUnit who parcel) = omega arith
one_in e (SendsAgain who parcel) = omega arith
one_in e (SendsSystem who parcel) = omega arith
one_in e (Told router parcel) = omega arith
one_in e (Carried from parcel) = omega arith
one_in e (Injected parcel) = omega arith

one_out_of : (e : ℕ) (n : Note) → length (out_by e n) ≤ 1
one_out_of e (HandsOut who m) = cond_few m (who == e)
one_out_of e (HandsIn who m) = omega arith
one_out_of e (Opened who host buffers) = omega arith
one_out_of e (Accepted who parcel buffers) = omega arith
one_out_of e (Joined who parcel) = omega arith
one_out_of e (TakesUnit who u) = omega arith
one_out_of e (AsksEnd who) = omega arith
one_out_of e (Got who parcel) = omega arith
one_out_of e (Released who) = omega arith
one_out_of e (SendsUnit who parcel) = omega arith
one_out_of e (SendsAgain who parcel) = omega arith
one_out_of e (SendsSystem who parcel) = omega arith
one_out_of e (Told router parcel) = omega arith
one_out_of e (Carried from parcel) = omega arith
one_out_of e (Injected parcel) = omega arith

gathered_few : (f : Note → List MessageView) → ((n : Note) → length (f n) ≤ 1) → (log : List Note) → length (gathered f log) ≤ length log
gathered_few f one [] = omega arith
gathered_few f one (n ∷ log) = omega (arith, length-append (f n) (gathered f log), one n, gathered_few f one log)

pub notes_length : (es : List Entry) → length (entry_notes es) ≡ length es
notes_length [] = refl
notes_length (e ∷ es) = ap suc (notes_length es)

pub few : (log : List Entry) (at : ℕ) (told : List EndInfo) (e : ℕ) → AreCounted (entry_notes (take at log)) told → ((told_of told e).given ≤ at) × ((told_of told e).out ≤ at)
few log at told e c =
    let ns : List Note = entry_notes (take at log) in
    let short : length ns ≤ at = omega (arith, notes_length (take at log), length-take at log) in
    (omega (arith, (c.each e).given, gathered_few (in_by e) (one_in e) ns, short), omega (arith, (c.each e).out, gathered_few (out_by e) (one_out_of e) ns, short))
