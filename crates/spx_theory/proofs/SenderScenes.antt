-- In every scene that can be reached, whatever was read, ends sent their units in order.
use Rattle.std.proofs.Common.{◌≡◌, ◌≢◌, ◌+◌, ◌-◌, ◌≤◌, ◌<◌, ◌==◌, ℕ, false, cond, List, [], ◌∷◌, ◌++◌, length, set, Some, refl, sym, ◌∙◌, inl, inr, ap, subst, arith, length-append, length-set, ne_eqb, eqb-true}
use Rattle.std.specs.Prelude.{slice_get, slice_index_or}
use Rattle.std.proofs.lemmas.List.{append-nil}
use Rattle.std.proofs.lemmas.Bool.{cond_both, cond-true, cond-false, eqb-false}
use Rattle.std.proofs.lemmas.Option.{slice_get_within}
use Rattle.ipx_wire.specs.declared.address.Network.{Network}
use Rattle.spx_link.specs.declared.unit.Unit.{Unit}
use Rattle.spx_link.specs.declared.outgoing.Sent.{Sent}
use Rattle.spx_link.specs.Limits.{most_units}
use Rattle.spx_link.specs.SequenceMarks.{mark, distance}
use Rattle.spx_link.specs.LinkView.{LinkView}
use Rattle.spx_link.specs.Poll.{OutgoingView, poll_link}
use Rattle.spx_link.specs.Receive.{receive_link}
use Rattle.spx_link.specs.Offer.{owe_reply_link, pace_link, again_link, lose_link, take_link, offer_link, end_link, the_end}
use Rattle.spx_messages.specs.Cut.{cut_of}
use Rattle.ipx_wire.specs.Connection.{IsConnectionPacket, sequence_in}
use Rattle.spx_theory.specs.Note.{Note, Opened, Accepted, Got, HandsIn, AsksEnd, TakesUnit, Released, SendsUnit, SendsAgain, SendsSystem, Told, Carried, Injected}
use Rattle.spx_theory.specs.Scan.{times, scan, unread}
use Rattle.spx_theory.specs.Handed.{units_of}
use Rattle.spx_theory.specs.PairLog.{position_of}
use Rattle.spx_theory.specs.Scene.{Scene, PresentEnd, linked}
use Rattle.spx_theory.specs.Deeds.{Deed, DoesDeed, Dials, Accepts, Reads, OwesReply, Paces, AsksAgain, Gives, Rests, Sends, Takes, Overruns, Closes, Releases, Carries, Tells, Injects, DoesGive, IsBegun, Reached, begun, happened}
use Rattle.spx_theory.specs.PacketsOnWay.{note_of, notes_of, out_notes}
use Rattle.spx_messages.specs.WrittenPackets.{Home, IsWrittenPacket}
use Rattle.spx_theory.specs.SentUnits.{sent_by, IsUnitPacket, CarriesUnit, UnitsAreSentInOrder, LinksSendInOrder, PositionsAreGreatest}
use Rattle.spx_theory.specs.PairQueues.{SendsFrom, Queues, GivesUnit, IsGivenOut, PolledFrom}
use Rattle.spx_theory.proofs.Lists.{get_last, get_set, get_here, read_there, times-append}
use Rattle.spx_theory.proofs.Bytes.{written_says}
use Rattle.spx_theory.proofs.Folding.{seen_all-append}
use Rattle.spx_theory.proofs.NextHeld.{pieces_stream}
use Rattle.spx_theory.proofs.Speaking.{eqb_same}
use Rattle.spx_theory.proofs.Telling.{outs_units}
use Rattle.spx_theory.proofs.SenderLogs.{any_sending, sent_same, outs_unsent, reads_unsent, reads_units, units_more, units_same, only_note, News, CarriesAgain, no_news, told_later}
use Rattle.spx_link.specs.declared.outgoing.Sent.TheVariants as Sents
use Rattle.spx_theory.specs.Below.{LawsBelow}

pub record Senders (s : Scene) : Type 0 where
  pub links : (who : ℕ) (e : PresentEnd) (l : LinkView) → slice_get s.ends who ≡ Some e → e.link ≡ Some l → Queues l (units_of who s.log) (sent_by who s.log)
  pub past : (who : ℕ) → length s.ends ≤ who → (units_of who s.log ≡ []) × (sent_by who s.log ≡ 0)
  pub told : UnitsAreSentInOrder s

-- entries that change nothing of an end
pub record SameFor (j : ℕ) (log ns : List Note) : Type 0 where
  pub units : units_of j (log ++ ns) ≡ units_of j log
  pub sent : sent_by j (log ++ ns) ≡ sent_by j log

calm_for : (j : ℕ) (log ns : List Note) → any_sending ns ≡ false → units_of j ns ≡ [] → SameFor j log ns
calm_for j log ns none units = record { units = units_same j log ns units; sent = sent_same j log ns none }

queues_at : (l : LinkView) (us vs : List Unit) (m n : ℕ) → vs ≡ us → n ≡ m → Queues l us m → Queues l vs n
queues_at l us vs m n units sent q = subst (λ xs. Queues l xs n) (sym units) (subst (Queues l us) (sym sent) q)

queues_same : (l : LinkView) (j : ℕ) (log ns : List Note) → SameFor j log ns → Queues l (units_of j log) (sent_by j log) → Queues l (units_of j (log ++ ns)) (sent_by j (log ++ ns))
queues_same l j log ns f q = queues_at l (units_of j log) (units_of j (log ++ ns)) (sent_by j log) (sent_by j (log ++ ns)) f.units f.sent q

-- one end is replaced
pub record Writes (s s' : Scene) (who : ℕ) (old w : PresentEnd) (ns : List Note) (more : List (List ℕ)) : Type 0 where
  pub at : slice_get s.ends who ≡ Some old
  pub ends : s'.ends ≡ set s.ends who w
  pub parcels : s'.parcels ≡ s.parcels ++ more
  pub log : s'.log ≡ s.log ++ ns
  pub others : (j : ℕ) → who ≢ j → SameFor j s.log ns
  pub own : (l : LinkView) → w.link ≡ Some l → Queues l (units_of who (s.log ++ ns)) (sent_by who (s.log ++ ns))
  pub news : News s' s.log ns

abbrev pub QueuesAt : LinkView → ℕ → List Note → Type 0
QueuesAt l j log = Queues l (units_of j log) (sent_by j log)

abbrev pub IsUnmade : ℕ → List Note → Type 0
IsUnmade j log = (units_of j log ≡ []) × (sent_by j log ≡ 0)

writes : (s s' : Scene) (who : ℕ) (old w : PresentEnd) (ns : List Note) (more : List (List ℕ)) → Writes s s' who old w ns more → Senders s → Senders s'
writes s s' who old w ns more c f =
    record {
      links = λ j e l at is.
          subst (QueuesAt l j) (sym c.log)
          (elim (get_set s.ends who j w e (ap (λ (es : List PresentEnd). slice_get es j) (sym c.ends) ∙ at)) [
            | inl here ↦ subst (λ k. QueuesAt l k (s.log ++ ns)) here.0 (c.own l (ap (λ (x : PresentEnd). x.link) here.1 ∙ is))
            | inr other ↦ queues_same l j s.log ns (c.others j other.0) (f.links j e l other.1 is)
          ]);
      past = λ j past.
          let beyond : length s.ends ≤ j = omega (arith, past, ap length c.ends, length-set s.ends who w) in
          let differ : who ≢ j = λ z. omega (arith, z, beyond, slice_get_within s.ends who old c.at) in
          let still : SameFor j s.log ns = c.others j differ in
          let none : IsUnmade j s.log = f.past j beyond in
          subst (IsUnmade j) (sym c.log) (still.units ∙ none.0, still.sent ∙ none.1);
      told = told_later s s' ns more c.log c.parcels c.news f.told;
    }

-- one end is replaced, by a call that does not change its units
quietly : (s s' : Scene) (who : ℕ) (old w : PresentEnd) (ns : List Note) → slice_get s.ends who ≡ Some old → s'.ends ≡ set s.ends who w → s'.parcels ≡ s.parcels → s'.log ≡ s.log ++ ns
    → any_sending ns ≡ false → ((j : ℕ) → units_of j ns ≡ []) → ((l : LinkView) → w.link ≡ Some l → QueuesAt l who s.log) → Senders s → Senders s'
quietly s s' who old w ns at ends parcels log none units own f =
    writes s s' who old w ns []
    (record {
      at = at;
      ends = ends;
      parcels = parcels ∙ sym (append-nil s.parcels);
      log = log;
      others = λ j differ. calm_for j s.log ns none (units j);
      own = λ l is. queues_same l who s.log ns (calm_for who s.log ns none (units who)) (own l is);
      news = no_news s' s.log ns none;
    }) f

silently : (s s' : Scene) (who : ℕ) (old w : PresentEnd) → slice_get s.ends who ≡ Some old → s'.ends ≡ set s.ends who w → s'.parcels ≡ s.parcels → s'.log ≡ s.log
    → ((l : LinkView) → w.link ≡ Some l → QueuesAt l who s.log) → Senders s → Senders s'
silently s s' who old w at ends parcels log own f =
    quietly s s' who old w [] at ends parcels (log ∙ sym (append-nil s.log)) refl (λ j. refl) own f

-- an end is added
arrives : (s s' : Scene) (w : PresentEnd) (ns : List Note) → s'.ends ≡ s.ends ++ w ∷ [] → s'.parcels ≡ s.parcels → s'.log ≡ s.log ++ ns
    → any_sending ns ≡ false → ((j : ℕ) → units_of j ns ≡ []) → ((l : LinkView) → w.link ≡ Some l → Queues l [] 0) → Senders s → Senders s'
arrives s s' w ns ends parcels log none units own f =
    record {
      links = λ j e l at is.
          subst (QueuesAt l j) (sym log)
          (queues_same l j s.log ns (calm_for j s.log ns none (units j))
          (elim (get_last s.ends w e j (ap (λ (es : List PresentEnd). slice_get es j) (sym ends) ∙ at)) [
            | inl before ↦ f.links j e l before is
            | inr here ↦
                let new : IsUnmade j s.log = f.past j (omega (arith, here.0)) in
                queues_at l [] (units_of j s.log) 0 (sent_by j s.log) new.0 new.1 (own l (ap (λ (x : PresentEnd). x.link) here.1 ∙ is))
          ]));
      past = λ j past.
          let beyond : length s.ends ≤ j = omega (arith, past, ap length ends, length-append s.ends (w ∷ [])) in
          let still : SameFor j s.log ns = calm_for j s.log ns none (units j) in
          let new : IsUnmade j s.log = f.past j beyond in
          subst (IsUnmade j) (sym log) (still.units ∙ new.0, still.sent ∙ new.1);
      told = told_later s s' ns [] log (parcels ∙ sym (append-nil s.parcels)) (no_news s' s.log ns none) f.told;
    }

-- a parcel is added that no end made
passes : (s s' : Scene) (bytes : List ℕ) (n : Note) → s'.ends ≡ s.ends → s'.parcels ≡ s.parcels ++ bytes ∷ [] → s'.log ≡ s.log ++ n ∷ []
    → any_sending (n ∷ []) ≡ false → ((j : ℕ) → units_of j (n ∷ []) ≡ []) → Senders s → Senders s'
passes s s' bytes n ends parcels log none units f =
    record {
      links = λ j e l at is.
          subst (QueuesAt l j) (sym log)
          (queues_same l j s.log (n ∷ []) (calm_for j s.log (n ∷ []) none (units j)) (f.links j e l (ap (λ (es : List PresentEnd). slice_get es j) (sym ends) ∙ at) is));
      past = λ j past.
          let beyond : length s.ends ≤ j = omega (arith, past, ap length ends) in
          let still : SameFor j s.log (n ∷ []) = calm_for j s.log (n ∷ []) none (units j) in
          let new : IsUnmade j s.log = f.past j beyond in
          subst (IsUnmade j) (sym log) (still.units ∙ new.0, still.sent ∙ new.1);
      told = told_later s s' (n ∷ []) (bytes ∷ []) log parcels (no_news s' s.log (n ∷ []) none) f.told;
    }

-- ---- a packet is given

-- what is written is a packet of the unit, and no other
unit_packet : (laws : LawsBelow) (home : Home) (l : LinkView) (g : OutgoingView) (bytes : List ℕ) (units : List Unit) (k : ℕ) → IsWrittenPacket home l g bytes → (has : GivesUnit g units k)
    → IsUnitPacket has.u (mark k) bytes
unit_packet laws home l g bytes units k w has =
    record {
      packet = w.packet;
      header = g.header;
      body = g.body;
      is = record { tail = []; packet = w.is; kind = w.kind; spx = w.spx };
      only = written_says laws home l g bytes w;
      unit = has.unit;
      whole = has.whole;
      reads = has.reads;
      number_is = has.number;
    }

carries_unit : (laws : LawsBelow) (s s' : Scene) (n : Note) (home : Home) (l : LinkView) (g : OutgoingView) (bytes : List ℕ) (who k : ℕ)
    → s'.log ≡ s.log ++ n ∷ [] → s'.parcels ≡ s.parcels ++ bytes ∷ [] → units_of who (n ∷ []) ≡ []
    → IsWrittenPacket home l g bytes → GivesUnit g (units_of who s.log) k → CarriesUnit s' who k (length s.parcels)
carries_unit laws s s' n home l g bytes who k log parcels none w has = (
  has.u,
  bytes,
  ap (λ (xs : List Note). slice_get (units_of who xs) k) log ∙ ap (λ (us : List Unit). slice_get us k) (units_same who s.log (n ∷ []) none) ∙ has.there,
  ap (λ (ps : List (List ℕ)). slice_get ps (length s.parcels)) parcels ∙ get_here s.parcels bytes,
  unit_packet laws home l g bytes (units_of who s.log) k w has,
)

-- the position of a 16-bit number
place_of : (n k seq : ℕ) → seq ≡ mark k → k < n → n ≤ k + 8192 → position_of n seq ≡ k
place_of n k seq is below near =
    let back : distance (mark n) seq + k ≡ n = omega (arith, is, below, near) in
    let some : (distance (mark n) seq == 0) ≡ false = ne_eqb _ 0 (λ z. omega (arith, z, back, below)) in
    ap (λ b. n - cond b 65536 (distance (mark n) seq)) some ∙ omega (arith, back)

-- it is the greatest
pub positions_are_greatest : PositionsAreGreatest
positions_are_greatest sent n below =
    cond_both (distance (mark sent) (mark n) == 0) 65536 (distance (mark sent) (mark n)) (λ k. (sent - k < sent) × (mark (sent - k) ≡ mark n) × (n ≤ sent - k))
    (λ yes.
    let same : distance (mark sent) (mark n) ≡ 0 = eqb-true _ _ yes in
    let far : n + 65536 ≤ sent = omega (arith, same, below) in
    (omega (arith, below, far), omega (arith, same, far), omega (arith, far)))
    (λ no.
    let near : distance (mark sent) (mark n) + n ≤ sent = omega (arith, below) in
    let some : distance (mark sent) (mark n) ≢ 0 = eqb-false _ _ no in
    (omega (arith, below, near, some), omega (arith, near), omega (arith, near)))

-- one more unit was sent, by this end
sent_one : (who j parcel : ℕ) (log : List Note) → sent_by j (log ++ SendsUnit who parcel ∷ []) ≡ sent_by j log + cond (who == j) 1 0
sent_one who j parcel log =
    ap (λ t. times j t.sent) (seen_all-append unread log (SendsUnit who parcel ∷ [])) ∙ omega (arith, times-append j (scan log).sent (who ∷ []))

sent_again : (who j parcel : ℕ) (log : List Note) → sent_by j (log ++ SendsAgain who parcel ∷ []) ≡ sent_by j log
sent_again who j parcel log = ap (λ t. times j t.sent) (seen_all-append unread log (SendsAgain who parcel ∷ []))

module _ (laws : LawsBelow) (s s' : Scene) (who now : ℕ) (segment : Network) (bytes : List ℕ) (does : DoesGive who now segment bytes s s') (f : Senders s) where
  abbrev after : LinkView
  after = (poll_link does.link now).1

  abbrev units : List Unit
  units = units_of who s.log

  abbrev n : ℕ
  n = sent_by who s.log

  -- the link of the end
  own_link : (P : LinkView → Type 0) → P after → (l : LinkView) → (linked does.stand after).link ≡ Some l → P l
  own_link P p l is = let same : after ≡ l = cc is in subst P same p

  abbrev Rest : Type 0
  Rest = (m : ℕ) → SendsFrom after units m → Queues after units m

  gives_system : SendsFrom after units n → Rest → s'.log ≡ s.log ++ SendsSystem who (length s.parcels) ∷ [] → s'.parcels ≡ s.parcels ++ bytes ∷ [] → s'.ends ≡ set s.ends who (linked does.stand after) → Senders s'
  gives_system from rest log parcels ends =
      let note : Note = SendsSystem who (length s.parcels) in
      writes s s' who does.stand (linked does.stand after) (note ∷ []) (bytes ∷ [])
      (record {
        at = does.stands.there;
        ends = ends;
        parcels = parcels;
        log = log;
        others = λ j differ. calm_for j s.log (note ∷ []) refl refl;
        own = own_link (λ l. QueuesAt l who (s.log ++ note ∷ [])) (queues_same after who s.log (note ∷ []) (calm_for who s.log (note ∷ []) refl refl) (rest n from));
        news = no_news s' s.log (note ∷ []) refl;
      }) f

  gives_next : SendsFrom after units (n + 1) → GivesUnit does.given units n → Rest → s'.log ≡ s.log ++ SendsUnit who (length s.parcels) ∷ [] → s'.parcels ≡ s.parcels ++ bytes ∷ []
      → s'.ends ≡ set s.ends who (linked does.stand after) → Senders s'
  gives_next from has rest log parcels ends =
      let note : Note = SendsUnit who (length s.parcels) in
      let sent : sent_by who (s.log ++ note ∷ []) ≡ n + 1 = sent_one who who (length s.parcels) s.log ∙ ap (λ b. n + cond b 1 0) (eqb_same who) in
      writes s s' who does.stand (linked does.stand after) (note ∷ []) (bytes ∷ [])
      (record {
        at = does.stands.there;
        ends = ends;
        parcels = parcels;
        log = log;
        others = λ j differ. record { units = units_same j s.log (note ∷ []) refl; sent = sent_one who j (length s.parcels) s.log ∙ ap (λ b. sent_by j s.log + cond b 1 0) (ne_eqb who j differ) ∙ omega arith };
        own = own_link (λ l. QueuesAt l who (s.log ++ note ∷ []))
            (queues_at after units (units_of who (s.log ++ note ∷ [])) (n + 1) (sent_by who (s.log ++ note ∷ [])) (units_same who s.log (note ∷ []) refl) sent (rest (n + 1) from));
        news = record {
          first = λ b a e k is.
              let only = only_note note (SendsUnit e k) b a is in
              let made : CarriesUnit s' who n (length s.parcels) = carries_unit laws s s' note does.home does.link does.given bytes who n log parcels refl does.written has in
              let same : who ≡ e = cc only.1 in
              let place : length s.parcels ≡ k = cc only.1 in
              let upto : s.log ++ b ≡ s.log = ap (λ xs. s.log ++ xs) only.0 ∙ append-nil s.log in
              subst (λ xs. CarriesUnit s' e (sent_by e xs) k) (sym upto) (subst (λ i. CarriesUnit s' e (sent_by e s.log) i) place (subst (λ i. CarriesUnit s' i (sent_by i s.log) (length s.parcels)) same made));
          again = λ b a e k is. absurd (cc (only_note note (SendsAgain e k) b a is).1);
        };
      }) f

  gives_again : SendsFrom after units n → (k : ℕ) → k < n → n ≤ k + most_units → GivesUnit does.given units k → Rest → s'.log ≡ s.log ++ SendsAgain who (length s.parcels) ∷ [] → s'.parcels ≡ s.parcels ++ bytes ∷ []
      → s'.ends ≡ set s.ends who (linked does.stand after) → Senders s'
  gives_again from i below near has rest log parcels ends =
      let note : Note = SendsAgain who (length s.parcels) in
      let read : IsConnectionPacket does.written.packet does.given.header does.given.body bytes = record { tail = []; packet = does.written.is; kind = does.written.kind; spx = does.written.spx } in
      let seq : sequence_in bytes ≡ mark i = laws.sequence does.written.packet does.given.header does.given.body bytes read ∙ has.number in
      let there : slice_get s'.parcels (length s.parcels) ≡ Some bytes = ap (λ (ps : List (List ℕ)). slice_get ps (length s.parcels)) parcels ∙ get_here s.parcels bytes in
      let here : slice_index_or s'.parcels (length s.parcels) [] ≡ bytes = read_there s'.parcels (length s.parcels) bytes [] there in
      let place : position_of n (sequence_in (slice_index_or s'.parcels (length s.parcels) [])) ≡ i = ap (λ bs. position_of n (sequence_in bs)) here ∙ place_of n i (sequence_in bytes) seq below near in
      let made : CarriesUnit s' who i (length s.parcels) = carries_unit laws s s' note does.home does.link does.given bytes who i log parcels refl does.written has in
      let made' : CarriesAgain s' who n (length s.parcels) = subst (λ j. (j < n) × CarriesUnit s' who j (length s.parcels)) (sym place) (below, made) in
      writes s s' who does.stand (linked does.stand after) (note ∷ []) (bytes ∷ [])
      (record {
        at = does.stands.there;
        ends = ends;
        parcels = parcels;
        log = log;
        others = λ j differ. record { units = units_same j s.log (note ∷ []) refl; sent = sent_again who j (length s.parcels) s.log };
        own = own_link (λ l. QueuesAt l who (s.log ++ note ∷ []))
            (queues_at after units (units_of who (s.log ++ note ∷ [])) n (sent_by who (s.log ++ note ∷ [])) (units_same who s.log (note ∷ []) refl) (sent_again who who (length s.parcels) s.log) (rest n from));
        news = record {
          first = λ b a e k is. absurd (cc (only_note note (SendsUnit e k) b a is).1);
          again = λ b a e k is.
              let only = only_note note (SendsAgain e k) b a is in
              let same : who ≡ e = cc only.1 in
              let at : length s.parcels ≡ k = cc only.1 in
              let upto : s.log ++ b ≡ s.log = ap (λ xs. s.log ++ xs) only.0 ∙ append-nil s.log in
              subst (λ xs. CarriesAgain s' e (sent_by e xs) k) (sym upto) (subst (λ j. CarriesAgain s' e (sent_by e s.log) j) at (subst (λ j. CarriesAgain s' j (sent_by j s.log) (length s.parcels)) same made'));
        };
      }) f

  gives_by : (what : Sent) → IsGivenOut what does.given after units n → Rest → s'.log ≡ s.log ++ note_of what who (length s.parcels) ∷ [] → s'.parcels ≡ s.parcels ++ bytes ∷ []
      → s'.ends ≡ set s.ends who (linked does.stand after) → Senders s'
  gives_by Sents.Request from rest log parcels ends = gives_system from rest log parcels ends
  gives_by Sents.Reply from rest log parcels ends = gives_system from rest log parcels ends
  gives_by Sents.Confirm from rest log parcels ends = gives_system from rest log parcels ends
  gives_by Sents.Unit from rest log parcels ends = gives_next from.0 from.1 rest log parcels ends
  gives_by Sents.Again (from, (i, below, near, has)) rest log parcels ends = gives_again from i below near has rest log parcels ends
  gives_by Sents.Ack from rest log parcels ends = gives_system from rest log parcels ends
  gives_by Sents.Probe from rest log parcels ends = gives_system from rest log parcels ends

  pub gives_senders : Senders s'
  gives_senders =
      let p = laws.queues.polls units n does.link now (f.links who does.stand does.link does.stands.there does.stands.link) in
      gives_by does.given.what (subst (λ o. PolledFrom o after units n) does.gives p.to) (λ m from. record { from = from; formed = p.formed; open' = p.open' })
      (ap (λ (z : Scene). z.log) does.after) (ap (λ (z : Scene). z.parcels) does.after) (ap (λ (z : Scene). z.ends) does.after)

-- ---- each deed

-- the link of an end that was replaced
link_is : (P : LinkView → Type 0) (e : PresentEnd) (k : LinkView) → P k → (l : LinkView) → (linked e k).link ≡ Some l → P l
link_is P e k p l is = let same : k ≡ l = cc is in subst P same p

abbrev pub ends_in : Scene → List PresentEnd
ends_in z = z.ends

abbrev pub parcels_in : Scene → List (List ℕ)
parcels_in z = z.parcels

abbrev pub log_in : Scene → List Note
log_in z = z.log

pub next_senders : (laws : LawsBelow) (s s' : Scene) (deed : Deed) → DoesDeed deed s s' → Senders s → Senders s'
next_senders laws s s' (Dials host id socket to buffers now) does f =
    arrives s s' _ (Opened (length s.ends) host buffers ∷ []) (ap ends_in does.after) (ap parcels_in does.after) (ap log_in does.after) refl (λ j. refl)
    (λ l is. subst (λ (k : LinkView). Queues k [] 0) (cc is) (laws.queues.dials id socket to buffers now)) f
next_senders laws s s' (Accepts host id socket parcel buffers now) does f =
    arrives s s' _ (Accepted (length s.ends) parcel buffers ∷ Got (length s.ends) parcel ∷ []) (ap ends_in does.after) (ap parcels_in does.after) (ap log_in does.after) refl (λ j. refl)
    (λ l is. subst (λ (k : LinkView). Queues k [] 0) (cc is) (laws.queues.accepts id socket does.packet.header.from does.header buffers now)) f
next_senders laws s s' (Reads who parcel) does f =
    let k : LinkView = (receive_link does.link does.header does.body).1 in
    quietly s s' who does.stand (linked does.stand k) (notes_of (receive_link does.link does.header does.body).0 who parcel) does.stands.there (ap ends_in does.after) (ap parcels_in does.after) (ap log_in does.after)
    (reads_unsent (receive_link does.link does.header does.body).0 who parcel) (λ j. reads_units j (receive_link does.link does.header does.body).0 who parcel)
    (link_is (λ l. QueuesAt l who s.log) does.stand k (laws.queues.receives does.link does.header does.body (units_of who s.log) (sent_by who s.log) (f.links who does.stand does.link does.stands.there does.stands.link))) f
next_senders laws s s' (OwesReply who) does f =
    let k : LinkView = owe_reply_link does.link in
    silently s s' who does.stand (linked does.stand k) does.stands.there (ap ends_in does.after) (ap parcels_in does.after) (ap log_in does.after)
    (link_is (λ l. QueuesAt l who s.log) does.stand k (laws.queues.owes does.link (units_of who s.log) (sent_by who s.log) (f.links who does.stand does.link does.stands.there does.stands.link))) f
next_senders laws s s' (Paces who window manual) does f =
    let k : LinkView = pace_link does.link window manual in
    silently s s' who does.stand (linked does.stand k) does.stands.there (ap ends_in does.after) (ap parcels_in does.after) (ap log_in does.after)
    (link_is (λ l. QueuesAt l who s.log) does.stand k (laws.queues.paces does.link window manual (units_of who s.log) (sent_by who s.log) (f.links who does.stand does.link does.stands.there does.stands.link))) f
next_senders laws s s' (AsksAgain who place) does f =
    let k : LinkView = again_link does.link place in
    silently s s' who does.stand (linked does.stand k) does.stands.there (ap ends_in does.after) (ap parcels_in does.after) (ap log_in does.after)
    (link_is (λ l. QueuesAt l who s.log) does.stand k (laws.queues.asks does.link place (units_of who s.log) (sent_by who s.log) (f.links who does.stand does.link does.stands.there does.stands.link))) f
next_senders laws s s' (Gives who now segment bytes) does f = gives_senders laws s s' who now segment bytes does f
next_senders laws s s' (Rests who now) does f =
    let k : LinkView = (poll_link does.link now).1 in
    let p = laws.queues.polls (units_of who s.log) (sent_by who s.log) does.link now (f.links who does.stand does.link does.stands.there does.stands.link) in
    let from : SendsFrom k (units_of who s.log) (sent_by who s.log) = subst (λ o. PolledFrom o k (units_of who s.log) (sent_by who s.log)) does.gives p.to in
    silently s s' who does.stand (linked does.stand k) does.stands.there (ap ends_in does.after) (ap parcels_in does.after) (ap log_in does.after)
    (link_is (λ l. QueuesAt l who s.log) does.stand k (record { from = from; formed = p.formed; open' = p.open' })) f
next_senders laws s s' (Sends who m) does f =
    let k : LinkView = offer_link does.link (cut_of m) in
    let us : List Unit = cut_of m in
    let units : units_of who (s.log ++ HandsIn who m ∷ []) ≡ units_of who s.log ++ us =
    units_more who s.log (HandsIn who m ∷ []) ∙ ap (λ xs. units_of who s.log ++ (xs ++ [])) (cond-true (who == who) us [] (eqb_same who)) ∙ ap (λ xs. units_of who s.log ++ xs) (append-nil us) in
    writes s s' who does.stand (linked does.stand k) (HandsIn who m ∷ []) []
    (record {
      at = does.stands.there;
      ends = ap ends_in does.after;
      parcels = ap parcels_in does.after ∙ sym (append-nil s.parcels);
      log = ap log_in does.after;
      others = λ j differ. calm_for j s.log (HandsIn who m ∷ []) refl (ap (λ xs. xs ++ []) (cond-false (who == j) us [] (ne_eqb who j differ)));
      own = link_is (λ l. QueuesAt l who (s.log ++ HandsIn who m ∷ [])) does.stand k
          (queues_at k (units_of who s.log ++ us) _ (sent_by who s.log) _ units (sent_same who s.log (HandsIn who m ∷ []) refl)
          (laws.queues.offers does.link us (units_of who s.log) (sent_by who s.log) does.live (λ j u at. omega (arith, pieces_stream (length m.body) m.stream m.body j u at, does.stream))
          (f.links who does.stand does.link does.stands.there does.stands.link)));
      news = no_news s' s.log (HandsIn who m ∷ []) refl;
    }) f
next_senders laws s s' (Takes who u) does f =
    let k : LinkView = (take_link does.link).1 in
    quietly s s' who does.stand _ (TakesUnit who u ∷ out_notes who does.joins.messages) does.stands.there (ap ends_in does.after) (ap parcels_in does.after) (ap log_in does.after)
    (outs_unsent who does.joins.messages) (λ j. outs_units j who does.joins.messages)
    (link_is (λ l. QueuesAt l who s.log) does.stand k (laws.queues.takes does.link (units_of who s.log) (sent_by who s.log) (f.links who does.stand does.link does.stands.there does.stands.link))) f
next_senders laws s s' (Overruns who u) does f =
    let k : LinkView = lose_link (take_link does.link).1 in
    silently s s' who does.stand _ does.stands.there (ap ends_in does.after) (ap parcels_in does.after) (ap log_in does.after)
    (link_is (λ l. QueuesAt l who s.log) does.stand k (laws.queues.loses (take_link does.link).1 (units_of who s.log) (sent_by who s.log) (laws.queues.takes does.link (units_of who s.log) (sent_by who s.log) (f.links who does.stand does.link does.stands.there does.stands.link)))) f
next_senders laws s s' (Closes who) does f =
    let k : LinkView = end_link does.link in
    let units : units_of who (s.log ++ AsksEnd who ∷ []) ≡ units_of who s.log ++ the_end ∷ [] =
    units_more who s.log (AsksEnd who ∷ []) ∙ ap (λ xs. units_of who s.log ++ (xs ++ [])) (cond-true (who == who) (the_end ∷ []) [] (eqb_same who)) in
    writes s s' who does.stand (linked does.stand k) (AsksEnd who ∷ []) []
    (record {
      at = does.stands.there;
      ends = ap ends_in does.after;
      parcels = ap parcels_in does.after ∙ sym (append-nil s.parcels);
      log = ap log_in does.after;
      others = λ j differ. calm_for j s.log (AsksEnd who ∷ []) refl (ap (λ xs. xs ++ []) (cond-false (who == j) (the_end ∷ []) [] (ne_eqb who j differ)));
      own = link_is (λ l. QueuesAt l who (s.log ++ AsksEnd who ∷ [])) does.stand k
          (queues_at k (units_of who s.log ++ the_end ∷ []) _ (sent_by who s.log) _ units (sent_same who s.log (AsksEnd who ∷ []) refl)
          (laws.queues.ends does.link (units_of who s.log) (sent_by who s.log) does.live (f.links who does.stand does.link does.stands.there does.stands.link)));
      news = no_news s' s.log (AsksEnd who ∷ []) refl;
    }) f
next_senders laws s s' (Releases who) does f =
    quietly s s' who does.stand _ (Released who ∷ []) does.stands.there (ap ends_in does.after) (ap parcels_in does.after) (ap log_in does.after) refl (λ j. refl) (λ l is. absurd (cc is)) f
next_senders laws s s' (Carries from network segment bytes) does f =
    passes s s' bytes (Carried from (length s.parcels)) (ap ends_in does.after) (ap parcels_in does.after) (ap log_in does.after) refl (λ j. refl) f
next_senders laws s s' (Tells router segment bytes) does f =
    passes s s' bytes (Told router (length s.parcels)) (ap ends_in does.after) (ap parcels_in does.after) (ap log_in does.after) refl (λ j. refl) f
next_senders laws s s' (Injects segment bytes) does f =
    passes s s' bytes (Injected (length s.parcels)) (ap ends_in does) (ap parcels_in does) (ap log_in does) refl (λ j. refl) f

no_entry : (before after : List Note) (n : Note) → [] ≡ before ++ n ∷ after → ⊥
no_entry [] after n e = cc e
no_entry (b ∷ before) after n e = cc e

senders_begun : (s : Scene) → IsBegun s → Senders s
senders_begun s is =
    record {
      links = λ who e l at link. absurd (cc (ap (λ (es : List PresentEnd). slice_get es who) (sym is.ends) ∙ at));
      past = λ who past. (ap (units_of who) is.log, ap (sent_by who) is.log);
      told = record {
        first = λ b a who k e. absurd (no_entry b a (SendsUnit who k) (sym is.log ∙ e));
        again = λ b a who k e. absurd (no_entry b a (SendsAgain who k) (sym is.log ∙ e));
      };
    }

pub senders_along : (laws : LawsBelow) {s : Scene} → Reached s → Senders s
senders_along laws {s} (begun is) = senders_begun s is
senders_along laws {s} (happened old deed reached does) = next_senders laws old s deed does (senders_along laws reached)

pub units_are_sent_in_order : (laws : LawsBelow) (s : Scene) → Reached s → UnitsAreSentInOrder s
units_are_sent_in_order laws s reached = (senders_along laws reached).told

pub links_send_in_order : (laws : LawsBelow) (s : Scene) → Reached s → LinksSendInOrder s
links_send_in_order laws s reached = λ who e l stands. ((senders_along laws reached).links who e l stands.there stands.link).from
