-- An end that reads only the packet that made or joined it: it reads no unit, and sends within what that
-- packet allowed.
use Rattle.std.proofs.Common.{◌≡◌, ◌≢◌, ◌+◌, ◌≤◌, ◌<◌, ◌==◌, ◌&&◌, ℕ, true, false, nat_lt, nat_le, List, [], ◌∷◌, ◌++◌, length, set, Some, None, refl, sym, ◌∙◌, inl, inr, ap, subst, arith, length-append, length-set, ne_eqb}
use Rattle.std.specs.Prelude.{slice_get}
use Rattle.std.proofs.lemmas.List.{append-nil, append_assoc}
use Rattle.std.proofs.lemmas.Bool.{cond-true, cond-false, cond_both}
use Rattle.std.proofs.lemmas.Option.{slice_get_within}
use Rattle.ipx_wire.specs.declared.spx.packet.SpxHeader.{SpxHeader}
use Rattle.ipx_wire.specs.Ipx.{PacketView}
use Rattle.spx_link.specs.declared.unit.Unit.{Unit}
use Rattle.spx_link.specs.declared.outgoing.Sent.{Sent}
use Rattle.spx_link.specs.declared.received.Received.{Received}
use Rattle.spx_link.specs.LinkView.{LinkView}
use Rattle.spx_link.specs.SequenceMarks.{mark, distance, room_after}
use Rattle.spx_link.specs.Offer.{offer_link, end_link, take_link, owe_reply_link, pace_link, again_link}
use Rattle.spx_link.specs.Poll.{poll_link}
use Rattle.spx_link.specs.Receive.{receive_link}
use Rattle.spx_messages.specs.Message.{MessageView}
use Rattle.spx_messages.specs.Cut.{cut_of}
use Rattle.ipx_wire.specs.Connection.{IsConnectionPacket}
use Rattle.spx_theory.specs.Note.{Note, Opened, Accepted, Joined, HandsIn, TakesUnit, AsksEnd, Got, Released, Told, Carried, Injected}
use Rattle.spx_theory.specs.Scan.{Each, times, Scan, Mark, Reading, FromOutside, seen, seen_all, scan, unread, mark_of, role_of, is_now}
use Rattle.spx_theory.specs.Handed.{taken_by, taken_of, handed_out, out_by}
use Rattle.spx_theory.specs.States.{is_quiet}
use Rattle.spx_theory.specs.Scene.{Scene, PresentEnd, IsPresent, linked}
use Rattle.spx_theory.specs.Deeds.{Deed, DoesDeed, Dials, Accepts, Reads, OwesReply, Paces, AsksAgain, Gives, Rests, Sends, Takes, Overruns, Closes, Releases, Carries, Tells, Injects, Reached, begun, happened}
use Rattle.spx_theory.specs.PacketsOnWay.{note_of, notes_of, out_notes}
use Rattle.spx_theory.specs.SentUnits.{sent_by}
use Rattle.spx_theory.proofs.Lists.{get_before, get_here, times-append}
use Rattle.spx_theory.proofs.Folding.{seen_all-append}
use Rattle.spx_theory.proofs.Held.{outs_seen}
use Rattle.spx_theory.proofs.Speaking.{eqb_same}
use Rattle.spx_theory.proofs.HeldReads.{notes_cases, reading_now}
use Rattle.spx_theory.proofs.PairPremises.{all_grew}
use Rattle.spx_theory.proofs.Gathering.{gathered-append}
use Rattle.spx_theory.proofs.NextFacts.{FactsAt}
use Rattle.spx_theory.proofs.Along.{facts_along, log_grows}
use Rattle.spx_theory.proofs.Growing.{IsPosted, IsAllowing, allowing_more, posted_more, mark_stays, role_stays}
use Rattle.spx_theory.specs.Allowances.{GivesAs, SendsAs, Took}
use Rattle.spx_theory.proofs.PacketsAllow.{SidesAt, sides_along, IsSilent, read_silent, read_scan, posting}
use Rattle.spx_link.specs.declared.outgoing.Sent.TheVariants as Sents
use Rattle.spx_link.specs.declared.state.State.TheVariants as S
use Rattle.spx_theory.specs.Below.{LawsBelow}
use Rattle.spx_theory.proofs.Fields.{at_scene, ends_of, log_of}
use Rattle.spx_theory.proofs.EachLink.{EachLink, links_put, links_come}

pub record AloneReads (who : ℕ) (log : List Note) : Type 0 where
  pub only : Each (λ (r : Reading). r.who ≡ who → r.first ≡ true) (scan log).readings
  pub inside : Each (λ (r : Reading). r.maker ≢ FromOutside) (scan log).readings

pub alone_before : (who : ℕ) (log ns : List Note) → AloneReads who (log ++ ns) → AloneReads who log
alone_before who log ns a =
    let g = all_grew (scan log) ns in
    let is : (scan (log ++ ns)).readings ≡ (scan log).readings ++ g.readings = ap (λ (t : Scan). t.readings) (seen_all-append unread log ns) ∙ g.readings_is in
    record {
      only = λ k r at. a.only k r (ap (λ rs. slice_get rs k) is ∙ get_before (scan log).readings g.readings r k at);
      inside = λ k r at. a.inside k r (ap (λ rs. slice_get rs k) is ∙ get_before (scan log).readings g.readings r k at);
    }

some_same : {A : Type 0} {x y : A} → Some x ≡ Some y → x ≡ y
some_same is = cc is

-- the last reading
last_reading : (who : ℕ) (log ns : List Note) (r : Reading) → (seen_all (scan log) ns).readings ≡ (scan log).readings ++ r ∷ [] → AloneReads who (log ++ ns) → (r.who ≡ who → r.first ≡ true) × (r.maker ≢ FromOutside)
last_reading who log ns r is a =
    let all : (scan (log ++ ns)).readings ≡ (scan log).readings ++ r ∷ [] = ap (λ (t : Scan). t.readings) (seen_all-append unread log ns) ∙ is in
    let at : slice_get (scan (log ++ ns)).readings (length (scan log).readings) ≡ Some r = ap (λ rs. slice_get rs (length (scan log).readings)) all ∙ get_here (scan log).readings r in
    (a.only (length (scan log).readings) r at, a.inside (length (scan log).readings) r at)

-- a packet that was read allows the position, for an end that exists
pub record AllowedHere (who n : ℕ) (log : List Note) : Type 0 where
  pub sender : ℕ
  pub allowing : IsAllowing who sender (role_of (scan log) sender).buffers n log

pub record AloneLink (who : ℕ) (l : LinkView) (log : List Note) : Type 0 where
  pub expected : l.expected ≡ 0
  pub held : l.held ≡ []
  pub opening : l.state ≡ S.Opening → (l.next ≡ 0) × (l.room ≡ 0) × (sent_by who log ≡ 0)
  pub limit : (n : ℕ) → n < sent_by who log + l.room → AllowedHere who n log

pub record Alone (who : ℕ) (ends : List PresentEnd) (log : List Note) : Type 0 where
  pub taken : taken_of who log ≡ []
  pub out : handed_out who log ≡ []
  pub link : (w : PresentEnd) (l : LinkView) → slice_get ends who ≡ Some w → w.link ≡ Some l → AloneLink who l log
  pub unmade : length ends ≤ who → sent_by who log ≡ 0

abbrev pub AloneAt : ℕ → Scene → Type 0
AloneAt who s = Alone who s.ends s.log

alone_at : (who : ℕ) (s : Scene) (ends : List PresentEnd) (log : List Note) → s.ends ≡ ends → s.log ≡ log → Alone who ends log → AloneAt who s
alone_at who s ends log one two t = at_scene (λ es ps l. Alone who es l) s ends s.parcels log one refl two t

allowed_more : (who n : ℕ) (log ns : List Note) → AllowedHere who n log → AllowedHere who n (log ++ ns)
allowed_more who n log ns a =
    record {
      sender = a.sender;
      allowing = subst (λ b. IsAllowing who a.sender b n (log ++ ns)) (sym (role_stays log ns a.sender a.allowing.posted.known).buffers)
          (allowing_more who a.sender (role_of (scan log) a.sender).buffers n log ns a.allowing);
    }

abbrev SameSent : ℕ → List Note → List Note → Type 0
SameSent who log ns = times who (seen_all (scan log) ns).sent ≡ times who (scan log).sent

sent_then : (who : ℕ) (log ns : List Note) → sent_by who (log ++ ns) ≡ times who (seen_all (scan log) ns).sent
sent_then who log ns = ap (λ (t : Scan). times who t.sent) (seen_all-append unread log ns)

-- a link that changed in parts that do not matter here
alone_same : (who : ℕ) (log ns : List Note) (l k : LinkView) → k.expected ≡ l.expected → k.held ≡ l.held → (k.state ≡ S.Opening → (k.next ≡ l.next) × (k.room ≡ l.room) × (l.state ≡ S.Opening) × SameSent who log ns)
    → times who (seen_all (scan log) ns).sent + k.room ≡ times who (scan log).sent + l.room → AloneLink who l log → AloneLink who k (log ++ ns)
alone_same who log ns l k expected held opening room a =
    record {
      expected = expected ∙ a.expected;
      held = held ∙ a.held;
      opening = λ o. let p = opening o in let q = a.opening p.2 in (p.0 ∙ q.0, p.1 ∙ q.1, sent_then who log ns ∙ p.3 ∙ q.2);
      limit = λ n low. allowed_more who n log ns (a.limit n (omega (arith, low, sent_then who log ns, room)));
    }

room_le : (limit allows : ℕ) → limit ≡ mark (allows + 65535) → room_after 0 0 limit ≤ allows
room_le limit allows is =
    cond_both (nat_lt 0 (distance (limit + 1) 0) && nat_le (distance (limit + 1) 0) 16383) (distance (limit + 1) 0) 0 (λ k. k ≤ allows) (λ y. omega (arith, is)) (λ n. omega arith)

module _ (who : ℕ) (s : Scene) (f : FactsAt s) (t : SidesAt s) (a : AloneAt who s) where
  nothing_taken : (ns : List Note) → IsSilent who ns → taken_of who (s.log ++ ns) ≡ []
  nothing_taken ns q = gathered-append (taken_by who) s.log ns ∙ ap (λ us. us ++ taken_of who ns) a.taken ∙ q.taken

  nothing_out : (ns : List Note) → IsSilent who ns → handed_out who (s.log ++ ns) ≡ []
  nothing_out ns q = gathered-append (out_by who) s.log ns ∙ ap (λ us. us ++ handed_out who ns) a.out ∙ q.out

  link_more : (ns : List Note) (l : LinkView) → SameSent who s.log ns → AloneLink who l s.log → AloneLink who l (s.log ++ ns)
  link_more ns l same b = alone_same who s.log ns l l refl refl (λ o. (refl, refl, o, same)) (omega (arith, same)) b

  own_link : EachLink (λ k m. k ≡ who → AloneLink who m s.log) s.ends
  own_link k w l at is own = a.link w l (subst (λ i. slice_get s.ends i ≡ Some w) own at) is

  -- no end changes
  stays : (ns : List Note) → IsSilent who ns → SameSent who s.log ns → Alone who s.ends (s.log ++ ns)
  stays ns q same =
      record {
        taken = nothing_taken ns q;
        out = nothing_out ns q;
        link = λ w l at is. link_more ns l same (a.link w l at is);
        unmade = λ past. sent_then who s.log ns ∙ same ∙ a.unmade past;
      }

  -- one end is replaced
  writes : (ns : List Note) (e : ℕ) (w v : PresentEnd) → slice_get s.ends e ≡ Some w → IsSilent who ns → (e ≢ who → SameSent who s.log ns)
      → (e ≡ who → (m : LinkView) → v.link ≡ Some m → AloneLink who m (s.log ++ ns)) → Alone who (set s.ends e v) (s.log ++ ns)
  writes ns e w v at q same new =
      record {
        taken = nothing_taken ns q;
        out = nothing_out ns q;
        link = λ x l there is.
            links_put (λ k m. k ≡ who → AloneLink who m s.log) (λ k m. k ≡ who → AloneLink who m (s.log ++ ns)) s.ends v own_link e
            (λ k y m at' ne old own. link_more ns m (same (λ z. ne (own ∙ sym z))) (old own))
            (λ m has own. new own m has) who x l there is refl;
        unmade = λ past.
            let before : length s.ends ≤ who = omega (arith, past, length-set s.ends e v) in
            sent_then who s.log ns ∙ same (λ z. absurd (omega (arith, z, before, slice_get_within s.ends e w at))) ∙ a.unmade before;
      }

  -- one end is added
  comes : (ns : List Note) (v : PresentEnd) → IsSilent who ns → SameSent who s.log ns → (length s.ends ≡ who → (m : LinkView) → v.link ≡ Some m → AloneLink who m (s.log ++ ns)) → Alone who (s.ends ++ v ∷ []) (s.log ++ ns)
  comes ns v q same new =
      record {
        taken = nothing_taken ns q;
        out = nothing_out ns q;
        link = λ x l there is.
            links_come (λ k m. k ≡ who → AloneLink who m s.log) (λ k m. k ≡ who → AloneLink who m (s.log ++ ns)) s.ends v own_link
            (λ k y m at' old own. link_more ns m same (old own))
            (λ m has own. new own m has) who x l there is refl;
        unmade = λ past. sent_then who s.log ns ∙ same ∙ a.unmade (omega (arith, past, length-append s.ends (v ∷ [])));
      }

  -- what the first packet allows
  first_allows : (k : ℕ) (bytes : List ℕ) (p : PacketView) (h : SpxHeader) (body : List ℕ) (pre : List Note) → slice_get s.parcels k ≡ Some bytes → IsConnectionPacket p h body bytes
      → (mark_of (scan s.log) k).maker ≢ FromOutside → (n : ℕ) → n < room_after 0 0 h.limit → AllowedHere who n (s.log ++ (pre ++ Got who k ∷ []))
  first_allows k bytes p h body pre at reads inside n low =
      let ns : List Note = pre ++ Got who k ∷ [] in
      elim (t.parcels_say k bytes p h body at reads) [
        | inl out ↦ absurd (inside out)
        | inr x ↦
            let m = mark_stays s.log ns k (omega (arith, slice_get_within s.parcels k bytes at, f.count)) in
            let r = role_stays s.log ns x.sender x.within in
            record {
              sender = x.sender;
              allowing = record {
                parcel = k;
                older = s.log ++ pre;
                newer = [];
                read = sym (append_assoc s.log pre (Got who k ∷ []));
                within = m.within;
                allows = x.allows;
                posted = subst (λ b. IsPosted x.sender (mark_of (scan (s.log ++ ns)) k).origin x.allows b (s.log ++ ns)) (sym r.buffers)
                    (subst (λ (z : Mark). IsPosted x.sender z.origin x.allows (role_of (scan s.log) x.sender).buffers (s.log ++ ns)) (sym m.mark) (posted_more x.sender _ x.allows _ s.log ns x.posted));
                over = omega (arith, low, room_le h.limit x.allows x.limit);
              };
            }
      ]

-- the number of sent units and of those that may still be sent, when an end sends
own_gives : (what : Sent) (who k : ℕ) (s : Scan) (l m : LinkView) → SendsAs what l m → times who (seen s (note_of what who k)).sent + m.room ≡ times who s.sent + l.room
own_gives Sents.Unit who k s l m by = omega (arith, by, times-append who s.sent (who ∷ []), cond-true {A = ℕ} (who == who) 1 0 (eqb_same who))
own_gives Sents.Request who k s l m by = omega (arith, by.0)
own_gives Sents.Reply who k s l m by = omega (arith, by.0)
own_gives Sents.Confirm who k s l m by = omega (arith, by.0)
own_gives Sents.Again who k s l m by = omega (arith, by.0)
own_gives Sents.Ack who k s l m by = omega (arith, by.0)
own_gives Sents.Probe who k s l m by = omega (arith, by.0)

other_gives : (what : Sent) (who e k : ℕ) (s : Scan) → e ≢ who → times who (seen s (note_of what e k)).sent ≡ times who s.sent
other_gives Sents.Unit who e k s ne = omega (arith, times-append who s.sent (e ∷ []), cond-false {A = ℕ} (e == who) 1 0 (ne_eqb e who ne))
other_gives Sents.Request who e k s ne = refl
other_gives Sents.Reply who e k s ne = refl
other_gives Sents.Confirm who e k s ne = refl
other_gives Sents.Again who e k s ne = refl
other_gives Sents.Ack who e k s ne = refl
other_gives Sents.Probe who e k s ne = refl

outs_silent : (who e : ℕ) (ms : List MessageView) → e ≢ who → IsSilent who (out_notes e ms)
outs_silent who e [] ne = record { taken = refl; out = refl }
outs_silent who e (m ∷ ms) ne =
    let rest = outs_silent who e ms ne in
    record { taken = rest.taken; out = ap (λ ts. ts ++ handed_out who (out_notes e ms)) (cond-false (e == who) (m ∷ []) [] (ne_eqb e who ne)) ∙ rest.out }

calm_silent : (who : ℕ) → IsSilent who []
calm_silent who = record { taken = refl; out = refl }

-- the end's link is replaced by one with the same parts that matter here
own_same : (who : ℕ) (s : Scene) (ns : List Note) (e : ℕ) (w : PresentEnd) (l k : LinkView) → AloneAt who s → IsPresent s e w l → k.expected ≡ l.expected → k.held ≡ l.held → k.room ≡ l.room → k.next ≡ l.next → (k.state ≡ S.Opening → l.state ≡ S.Opening)
    → SameSent who s.log ns → e ≡ who → (m : LinkView) → (linked w k).link ≡ Some m → AloneLink who m (s.log ++ ns)
own_same who s ns e w l k a stands expected held room next opens same own m is =
    let new : k ≡ m = cc is in
    subst (λ x. AloneLink who x (s.log ++ ns)) new
    (alone_same who s.log ns l k expected held (λ o. (next, room, opens o, same)) (omega (arith, room, same)) (a.link w l (subst (λ i. slice_get s.ends i ≡ Some w) own stands.there) stands.link))

none_held : (laws : LawsBelow) (who : ℕ) (s : Scene) (e : ℕ) (w : PresentEnd) (l : LinkView) (u : Unit) → AloneAt who s → IsPresent s e w l → (take_link l).0 ≡ Some u → e ≢ who
none_held laws who s e w l u a stands gives own =
    let took : Took l u (take_link l).1 = laws.allowances.takes l u gives in
    let link = a.link w l (subst (λ i. slice_get s.ends i ≡ Some w) own stands.there) stands.link in
    absurd (cc (sym took.held ∙ link.held))

next_alone : (laws : LawsBelow) (who : ℕ) (s s' : Scene) (deed : Deed) → DoesDeed deed s s' → FactsAt s → SidesAt s → AloneReads who s'.log → AloneAt who s → AloneAt who s'
next_alone laws who s s' (Dials host id socket to buffers now) does f t premise a =
    let ns : List Note = Opened (length s.ends) host buffers ∷ [] in
    alone_at who s' _ _ (ap ends_of does.after) (ap log_of does.after)
    (comes who s f t a ns _ (record { taken = refl; out = refl }) refl
    (λ own m is.
    let none : sent_by who s.log ≡ 0 = a.unmade (omega (arith, own)) in
    subst (λ x. AloneLink who x (s.log ++ ns)) (some_same is)
    (record {
      expected = refl;
      held = refl;
      opening = λ o. (refl, refl, sent_then who s.log ns ∙ none);
      limit = λ n low. absurd (omega (arith, low, sent_then who s.log ns, none));
    })))
next_alone laws who s s' (Accepts host id socket parcel buffers now) does f t premise a =
    let e : ℕ = length s.ends in
    let pre : List Note = Accepted e parcel buffers ∷ [] in
    let ns : List Note = Accepted e parcel buffers ∷ Got e parcel ∷ [] in
    let inside : (mark_of (scan s.log) parcel).maker ≢ FromOutside = (last_reading who s.log ns _ refl (subst (AloneReads who) (ap log_of does.after) premise)).1 in
    alone_at who s' _ _ (ap ends_of does.after) (ap log_of does.after)
    (comes who s f t a ns _ (record { taken = refl; out = refl }) refl
    (λ own m is.
    let none : sent_by who s.log ≡ 0 = a.unmade (omega (arith, own)) in
    subst (λ x. AloneLink who x (s.log ++ ns)) (some_same is)
    (record {
      expected = refl;
      held = refl;
      opening = λ o. absurd (cc o);
      limit = λ n low.
          subst (λ i. AllowedHere who n (s.log ++ Accepted e parcel buffers ∷ Got i parcel ∷ [])) (sym own)
          (first_allows who s f t a parcel does.bytes does.packet does.header does.body pre does.comes does.reads inside n (omega (arith, low, sent_then who s.log ns, none)));
    })))
next_alone laws who s s' (Reads e parcel) does f t premise a =
    let r : Received = (receive_link does.link does.header does.body).0 in
    let k : LinkView = (receive_link does.link does.header does.body).1 in
    let after : AloneReads who (s.log ++ notes_of r e parcel) = subst (AloneReads who) (ap log_of does.after) premise in
    let sc = read_scan (scan s.log) r e parcel in
    alone_at who s' _ _ (ap ends_of does.after) (ap log_of does.after)
    (writes who s f t a (notes_of r e parcel) e does.stand (linked does.stand k) does.stands.there (read_silent r e parcel who) (λ ne. ap (times who) sc.sent)
    (λ own m is.
    let new : k ≡ m = cc is in
    subst (λ x. AloneLink who x (s.log ++ notes_of r e parcel)) new
    (elim (notes_cases r e parcel does.read) [
      | inl joins ↦
          let old = a.link does.stand does.link (subst (λ i. slice_get s.ends i ≡ Some does.stand) own does.stands.there) does.stands.link in
          let opens : does.link.state ≡ S.Opening = laws.states.joins does.link does.header does.body joins.0 in
          let j = laws.allowances.joins does.link does.header does.body opens does.read in
          let early = old.opening opens in
          let last = last_reading who s.log (Joined e parcel ∷ Got e parcel ∷ []) _ refl (subst (λ ns. AloneReads who (s.log ++ ns)) joins.1 after) in
          let room : k.room ≡ room_after 0 0 does.header.limit = j.room ∙ ap (λ x. room_after x does.link.room does.header.limit) early.0 ∙ ap (λ x. room_after 0 x does.header.limit) early.1 in
          record {
            expected = j.same.expected ∙ old.expected;
            held = j.same.held ∙ old.held;
            opening = λ o. absurd (cc (sym j.live ∙ o));
            limit = λ n low.
                subst (λ ns. AllowedHere who n (s.log ++ ns)) (sym joins.1)
                (subst (λ i. AllowedHere who n (s.log ++ Joined e parcel ∷ Got i parcel ∷ [])) (sym own)
                (first_allows who s f t a parcel does.bytes does.packet does.header does.body (Joined e parcel ∷ []) does.comes does.reads last.1 n
                (omega (arith, low, sent_then who s.log (notes_of r e parcel), ap (times who) sc.sent, early.2, room))));
          }
      | inr gets ↦
          let last = last_reading who s.log (Got e parcel ∷ []) (reading_now (scan s.log) e parcel (is_now (scan s.log).newest e)) refl (subst (λ ns. AloneReads who (s.log ++ ns)) gets.1 after) in
          let first : is_now (scan s.log).newest e ≡ true = last.0 own in
          let never : is_now (scan s.log).newest e ≡ false = ap (λ o. is_now o e) f.newest in
          absurd (cc (sym first ∙ never))
    ])))
next_alone laws who s s' (OwesReply e) does f t premise a =
    alone_at who s' _ (s.log ++ []) (ap ends_of does.after) (ap log_of does.after ∙ sym (append-nil s.log))
    (writes who s f t a [] e does.stand _ does.stands.there (calm_silent who) (λ ne. refl) (own_same who s [] e does.stand does.link (owe_reply_link does.link) a does.stands refl refl refl refl (λ o. o) refl))
next_alone laws who s s' (Paces e window manual) does f t premise a =
    alone_at who s' _ (s.log ++ []) (ap ends_of does.after) (ap log_of does.after ∙ sym (append-nil s.log))
    (writes who s f t a [] e does.stand _ does.stands.there (calm_silent who) (λ ne. refl) (own_same who s [] e does.stand does.link (pace_link does.link window manual) a does.stands refl refl refl refl (λ o. o) refl))
next_alone laws who s s' (AsksAgain e place) does f t premise a =
    alone_at who s' _ (s.log ++ []) (ap ends_of does.after) (ap log_of does.after ∙ sym (append-nil s.log))
    (writes who s f t a [] e does.stand _ does.stands.there (calm_silent who) (λ ne. refl) (own_same who s [] e does.stand does.link (again_link does.link place) a does.stands refl refl refl refl (λ o. o) refl))
next_alone laws who s s' (Gives e now segment bytes) does f t premise a =
    let k : LinkView = (poll_link does.link now).1 in
    let what : Sent = does.given.what in
    let n : Note = note_of what e (length s.parcels) in
    let le = laws.allowances.polls does.link now in
    let given : GivesAs does.link (Some does.given) k = subst (λ o. GivesAs does.link o k) does.gives le.gives in
    alone_at who s' _ _ (ap ends_of does.after) (ap log_of does.after)
    (writes who s f t a (n ∷ []) e does.stand (linked does.stand k) does.stands.there ((posting (scan s.log) what e (length s.parcels)).silent who) (λ ne. other_gives what who e (length s.parcels) (scan s.log) ne)
    (λ own m is.
    let new : k ≡ m = cc is in
    let moved : times who (seen (scan s.log) n).sent + k.room ≡ times who (scan s.log).sent + does.link.room =
    subst (λ i. times who (seen (scan s.log) (note_of what i (length s.parcels))).sent + k.room ≡ times who (scan s.log).sent + does.link.room) (sym own)
    (own_gives what who (length s.parcels) (scan s.log) does.link k given.1) in
    subst (λ x. AloneLink who x (s.log ++ n ∷ [])) new
    (alone_same who s.log (n ∷ []) does.link k le.same.expected le.same.held
    (λ o.
    let opens : does.link.state ≡ S.Opening = laws.states.polls_open does.link now o in
    let asks : what ≡ Sents.Request = laws.states.quiet_asks does.link now does.given (ap is_quiet opens) does.gives in
    let by : SendsAs Sents.Request does.link k = subst (λ w. SendsAs w does.link k) asks given.1 in
    (by.1, by.0, opens, omega (arith, moved, by.0)))
    moved (a.link does.stand does.link (subst (λ i. slice_get s.ends i ≡ Some does.stand) own does.stands.there) does.stands.link))))
next_alone laws who s s' (Rests e now) does f t premise a =
    let le = laws.allowances.polls does.link now in
    let k : LinkView = (poll_link does.link now).1 in
    let given : GivesAs does.link None k = subst (λ o. GivesAs does.link o k) does.gives le.gives in
    alone_at who s' _ (s.log ++ []) (ap ends_of does.after) (ap log_of does.after ∙ sym (append-nil s.log))
    (writes who s f t a [] e does.stand _ does.stands.there (calm_silent who) (λ ne. refl)
    (own_same who s [] e does.stand does.link k a does.stands le.same.expected le.same.held given.0 given.1 (laws.states.polls_open does.link now) refl))
next_alone laws who s s' (Sends e m) does f t premise a =
    alone_at who s' _ _ (ap ends_of does.after) (ap log_of does.after)
    (writes who s f t a (HandsIn e m ∷ []) e does.stand _ does.stands.there (record { taken = refl; out = refl }) (λ ne. refl)
    (own_same who s (HandsIn e m ∷ []) e does.stand does.link (offer_link does.link (cut_of m)) a does.stands refl refl refl refl (λ o. o) refl))
next_alone laws who s s' (Takes e u) does f t premise a =
    let ne : e ≢ who = none_held laws who s e does.stand does.link u a does.stands does.gives in
    let ns : List Note = TakesUnit e u ∷ out_notes e does.joins.messages in
    let outs = outs_silent who e does.joins.messages ne in
    alone_at who s' _ _ (ap ends_of does.after) (ap log_of does.after)
    (writes who s f t a ns e does.stand _ does.stands.there
    (record { taken = ap (λ us. us ++ taken_of who (out_notes e does.joins.messages)) (cond-false (e == who) (u ∷ []) [] (ne_eqb e who ne)) ∙ outs.taken; out = outs.out })
    (λ other. ap (λ (z : Scan). times who z.sent) (outs_seen (scan s.log) e does.joins.messages)) (λ own. absurd (ne own)))
next_alone laws who s s' (Overruns e u) does f t premise a =
    let ne : e ≢ who = none_held laws who s e does.stand does.link u a does.stands does.gives in
    alone_at who s' _ (s.log ++ []) (ap ends_of does.after) (ap log_of does.after ∙ sym (append-nil s.log))
    (writes who s f t a [] e does.stand _ does.stands.there (calm_silent who) (λ other. refl) (λ own. absurd (ne own)))
next_alone laws who s s' (Closes e) does f t premise a =
    alone_at who s' _ _ (ap ends_of does.after) (ap log_of does.after)
    (writes who s f t a (AsksEnd e ∷ []) e does.stand _ does.stands.there (record { taken = refl; out = refl }) (λ ne. refl)
    (own_same who s (AsksEnd e ∷ []) e does.stand does.link (end_link does.link) a does.stands refl refl refl refl (λ o. absurd (cc o)) refl))
next_alone laws who s s' (Releases e) does f t premise a =
    alone_at who s' _ _ (ap ends_of does.after) (ap log_of does.after)
    (writes who s f t a (Released e ∷ []) e does.stand _ does.stands.there (record { taken = refl; out = refl }) (λ ne. refl) (λ own m is. absurd (cc is)))
next_alone laws who s s' (Carries from network segment bytes) does f t premise a =
    alone_at who s' _ _ (ap ends_of does.after) (ap log_of does.after) (stays who s f t a (Carried from (length s.parcels) ∷ []) (record { taken = refl; out = refl }) refl)
next_alone laws who s s' (Tells router segment bytes) does f t premise a =
    alone_at who s' _ _ (ap ends_of does.after) (ap log_of does.after) (stays who s f t a (Told router (length s.parcels) ∷ []) (record { taken = refl; out = refl }) refl)
next_alone laws who s s' (Injects segment bytes) does f t premise a =
    alone_at who s' _ _ (ap ends_of does) (ap log_of does) (stays who s f t a (Injected (length s.parcels) ∷ []) (record { taken = refl; out = refl }) refl)

pub alone_along : (laws : LawsBelow) (who : ℕ) {s : Scene} → Reached s → AloneReads who s.log → AloneAt who s
alone_along laws who {s} (begun is) premise =
    alone_at who s [] [] is.ends is.log (record { taken = refl; out = refl; link = λ w l at. absurd (cc at); unmade = λ past. refl })
alone_along laws who {s} (happened old deed reached does) premise =
    let g = log_grows old s deed does in
    next_alone laws who old s deed does (facts_along laws reached) (sides_along laws reached) premise
    (alone_along laws who reached (alone_before who old.log g.more (subst (AloneReads who) g.is premise)))
