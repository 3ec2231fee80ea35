-- Each deed keeps the invariant of a pair.
use Rattle.std.proofs.Common.{◌≡◌, ◌≢◌, ◌⊎◌, ℕ, zero, suc, true, false, nat_le, List, [], ◌∷◌, ◌++◌, length, take, drop, set, Some, None, refl, sym, ◌∙◌, inl, inr, ap, subst, arith, length-set}
use Rattle.std.specs.Prelude.{slice_get}
use Rattle.std.proofs.lemmas.Bool.{cases_eq, cond_both}
use Rattle.spx_link.specs.declared.unit.Unit.{Unit}
use Rattle.spx_link.specs.declared.state.State.{State}
use Rattle.spx_link.specs.declared.state.State.TheVariants.{Opening, Live, Ending, PeerEnded, Confirmed, Lost}
use Rattle.spx_link.specs.declared.received.Received.{Received}
use Rattle.spx_link.specs.LinkView.{LinkView}
use Rattle.spx_link.specs.Poll.{OutgoingView, poll_link}
use Rattle.spx_link.specs.Receive.{receive_link}
use Rattle.spx_link.specs.Offer.{refusal, owe_reply_link, pace_link, again_link, take_link, offer_link, end_link, the_end}
use Rattle.spx_link.specs.Machine.{AreSound}
use Rattle.spx_messages.specs.Cut.{cut_of, pieces}
use Rattle.ipx_wire.specs.Connection.{IsConnectionPacket}
use Rattle.spx_theory.specs.Note.{Note, Opened, Accepted, Got, HandsIn, AsksEnd, TakesUnit, Released, Told, Carried, Injected}
use Rattle.spx_theory.specs.Scan.{Each, Scan, seen_all, scan, unread, ByRouter, FromOutside}
use Rattle.spx_theory.proofs.OfTwo.{AreRoles, ReadsOf, PairPremises}
use Rattle.spx_theory.specs.PairLog.{Half, Pair, pair_after, pair_from, pair_between}
use Rattle.spx_theory.specs.Tracks.{Formed, core, Follows, may_end}
use Rattle.spx_theory.specs.Spelling.{PolledTo}
use Rattle.spx_theory.specs.States.{is_quiet}
use Rattle.spx_theory.specs.Scene.{Scene, PresentEnd, linked}
use Rattle.spx_theory.specs.PacketsOnWay.{note_of, notes_of, out_notes}
use Rattle.spx_messages.specs.WrittenPackets.{Home, IsWrittenPacket}
use Rattle.spx_theory.specs.Deeds.{Deed, DoesDeed, DoesOverrun, Dials, Accepts, Reads, OwesReply, Paces, AsksAgain, Gives, Rests, Sends, Takes, Overruns, Closes, Releases, Carries, Tells, Injects}
use Rattle.spx_theory.proofs.Tied.{Whole}
use Rattle.spx_theory.proofs.Bytes.{written_says}
use Rattle.spx_theory.proofs.Taking.{rests_whole}
use Rattle.spx_theory.proofs.Moving.{other_end, this_link}
use Rattle.std.proofs.lemmas.Option.{slice_get_within}
use Rattle.spx_theory.proofs.Others.{carried_whole}
use Rattle.spx_theory.proofs.Folding.{seen_all-append}
use Rattle.spx_theory.proofs.NextFacts.{FactsAt}
use Rattle.spx_theory.proofs.Held.{Held, HeldAt, turned, at_noted, at_sent, calmed, outs_seen, outs_paired}
use Rattle.spx_theory.proofs.HeldParcels.{gives_held, nobody_gives}
use Rattle.spx_theory.proofs.HeldReads.{Premised, caller_reads}
use Rattle.spx_theory.proofs.HeldReadsOf.{callee_reads, other_reads}
use Rattle.spx_theory.proofs.HeldCalls.{IsLeft, other_held, rests_held, takes_held, gains_held}
use Rattle.spx_theory.proofs.HeldEnds.{dials_held, accepts_held}
use Rattle.spx_theory.specs.Below.{LawsBelow}
use Rattle.spx_link.specs.declared.received.Received.TheVariants as Rs

pub live_may : (s : State) → refusal s ≡ None → may_end s ≡ true
live_may Opening is = absurd (cc is)
live_may Live is = refl
live_may Ending is = absurd (cc is)
live_may PeerEnded is = absurd (cc is)
live_may Confirmed is = absurd (cc is)
live_may Lost is = absurd (cc is)

pub pieces_stream : (more stream : ℕ) (bytes : List ℕ) (k : ℕ) (u : Unit) → slice_get (pieces more stream bytes) k ≡ Some u → u.stream ≡ stream
pieces_stream zero stream bytes zero u = λ at. cc at
pieces_stream zero stream bytes (suc k) u = λ at. absurd (cc at)
pieces_stream (suc more) stream bytes k u =
    cond_both (nat_le (length bytes) 534) (record { stream = stream; last = true; body = record { items = bytes } } ∷ [])
    (record { stream = stream; last = false; body = record { items = take 534 bytes } } ∷ pieces more stream (drop 534 bytes))
    (λ us. slice_get us k ≡ Some u → u.stream ≡ stream)
    (λ yes. one k)
    (λ no. many k (λ j. pieces_stream more stream (drop 534 bytes) j u))
  where
    one : (j : ℕ) → slice_get (record { stream = stream; last = true; body = record { items = bytes } } ∷ []) j ≡ Some u → u.stream ≡ stream
    one zero at = cc at
    one (suc j) at = absurd (cc at)

    many : (j : ℕ) → ((i : ℕ) → slice_get (pieces more stream (drop 534 bytes)) i ≡ Some u → u.stream ≡ stream) → slice_get (record { stream = stream; last = false; body = record { items = take 534 bytes } } ∷ pieces more stream (drop 534 bytes)) j ≡ Some u → u.stream ≡ stream
    many zero rest at = cc at
    many (suc j) rest at = rest j at

left_linked : (e : PresentEnd) (k : LinkView) → IsLeft (linked e k) k
left_linked e k m is = cc is

notes_sent : (s : Scan) (r : Received) (who k : ℕ) → (seen_all s (notes_of r who k)).sent ≡ s.sent
notes_sent s Rs.Joined who k = refl
notes_sent s Rs.Kept who k = refl
notes_sent s Rs.Repeat who k = refl
notes_sent s Rs.Ahead who k = refl
notes_sent s Rs.OverAllocation who k = refl
notes_sent s Rs.System who k = refl
notes_sent s Rs.PeerEnded who k = refl
notes_sent s Rs.Confirmed who k = refl
notes_sent s Rs.Stranger who k = refl

written_packet : (home : Home) (l : LinkView) (g : OutgoingView) (bytes : List ℕ) (w : IsWrittenPacket home l g bytes) → IsConnectionPacket w.packet g.header g.body bytes
written_packet home l g bytes w = record { tail = []; packet = w.is; kind = w.kind; spx = w.spx }

module _ (laws : LawsBelow) (c d a b : ℕ) (differ : c ≢ d) where
  same_roles : (s t : Scan) → t.roles ≡ s.roles → AreRoles c d a b s → AreRoles c d a b t
  same_roles s t same r =
      record { caller = λ q at. r.caller q (ap (λ rs. slice_get rs c) (sym same) ∙ at); callee = λ q at. r.callee q (ap (λ rs. slice_get rs d) (sym same) ∙ at) }

  -- the premises of a log with more entries, in terms of its index
  pub roles_then : (log ns : List Note) → PairPremises c d a b (log ++ ns) → AreRoles c d a b (seen_all (scan log) ns)
  roles_then log ns p = subst (AreRoles c d a b) (seen_all-append unread log ns) p.roles

  premised : (s : Scene) (r : Received) (who k : ℕ) → PairPremises c d a b (s.log ++ notes_of r who k)
      → let t : Scan = seen_all (scan s.log) (notes_of r who k) in
      Premised c d a b differ laws s.ends s.parcels (scan s.log) (pair_between c d a b s.parcels s.log) t.roles t.readings
  premised s r who k p =
      let t : Scan = seen_all (scan s.log) (notes_of r who k) in
      let is : scan (s.log ++ notes_of r who k) ≡ t = seen_all-append unread s.log (notes_of r who k) in
      let sent : t.sent ≡ (scan s.log).sent = notes_sent (scan s.log) r who k in (
        same_roles t (record (scan s.log) { roles = t.roles }) refl (subst (AreRoles c d a b) is p.roles),
        subst (λ ns. Each (ReadsOf c d ns) t.readings) sent (subst (λ (x : Scan). Each (ReadsOf c d x.sent) x.readings) is p.one),
        subst (λ ns. Each (ReadsOf d c ns) t.readings) sent (subst (λ (x : Scan). Each (ReadsOf d c x.sent) x.readings) is p.two),
      )

  abbrev pub HoldsAt : Scene → Type 0
  HoldsAt s = HeldAt c d a b s

  -- the two have no message that grows too long now
  abbrev pub NeverOverrun : Scene → Type 0
  NeverOverrun s = (s' : Scene) (who : ℕ) (u : Unit) → DoesOverrun who u s s' → (who ≡ c) ⊎ (who ≡ d) → ⊥

  line_of : (s : Scene) (x y : Half) → Whole c d s.ends s.parcels (scan s.log).marks (scan s.log).sent x y ⊎ Whole d c s.ends s.parcels (scan s.log).marks (scan s.log).sent x y → AreSound x.end y.end
  line_of s x y w = elim w [ inl v ↦ v.sound | inr v ↦ v.sound ]

  rests_here : (s : Scene) (who now : ℕ) (e : PresentEnd) (l : LinkView) → HoldsAt s → slice_get s.ends who ≡ Some e → e.link ≡ Some l → (poll_link l now).0 ≡ None
      → Held c d a b (set s.ends who (linked e (poll_link l now).1)) s.parcels (scan s.log) (pair_between c d a b s.parcels s.log)
  rests_here s who now e l h at is gives =
      let k : LinkView = (poll_link l now).1 in
      let p : Pair = pair_between c d a b s.parcels s.log in
      elim (cases_eq who c) [
        | inl one ↦
            let at' : slice_get s.ends c ≡ Some e = subst (λ j. slice_get s.ends j ≡ Some e) one at in
            let polled = laws.steps.polls l now p.one.end p.two.end (h.whole.one.link e l at' is) h.whole.sound in
            let k_follows : Follows k p.one.end p.two.end = record { tracks = subst (λ o. PolledTo o (core k) p.one.end p.two.end) gives polled.to; open' = polled.open' } in
            subst (λ j. Held c d a b (set s.ends j (linked e k)) s.parcels (scan s.log) p) (sym one)
            (record {
              whole = rests_whole c d differ s.ends s.parcels (scan s.log).marks (scan s.log).sent p.one p.two h.whole (linked e k) k (left_linked e k) k_follows;
              early = h.early;
              quiet = λ u g m there link. subst (λ (x : LinkView). is_quiet x.state ≡ true) (sym (this_link s.ends c e k g m there link)) (laws.states.quiet_stays l now (h.quiet u e l at' is));
              unmade = λ past. h.unmade (omega (arith, past, length-set s.ends c (linked e k)));
            })
        | inr not_c ↦ elim (cases_eq who d) [
          | inl two ↦
              let at' : slice_get s.ends d ≡ Some e = subst (λ j. slice_get s.ends j ≡ Some e) two at in
              let back : d ≢ c = λ z. differ (sym z) in
              let t = turned c d s.ends s.parcels (scan s.log).marks (scan s.log).sent p.one p.two h.whole in
              let polled = laws.steps.polls l now p.two.end p.one.end (t.one.link e l at' is) t.sound in
              let k_follows : Follows k p.two.end p.one.end = record { tracks = subst (λ o. PolledTo o (core k) p.two.end p.one.end) gives polled.to; open' = polled.open' } in
              subst (λ j. Held c d a b (set s.ends j (linked e k)) s.parcels (scan s.log) p) (sym two)
              (record {
                whole = turned d c _ _ _ _ _ _ (rests_whole d c back s.ends s.parcels (scan s.log).marks (scan s.log).sent p.two p.one t (linked e k) k (left_linked e k) k_follows);
                early = h.early;
                quiet = λ u g m there link. h.quiet u g m (other_end s.ends d c (linked e k) g back there) link;
                unmade = λ past. absurd (omega (arith, past, slice_get_within s.ends d e at', length-set s.ends d (linked e k)));
              })
          | inr not_d ↦ other_held c d a b differ s.ends s.parcels (scan s.log) p who (linked e k) (scan s.log) p not_c not_d refl refl refl refl refl h
        ]
      ]

  pub next_held : (s s' : Scene) (deed : Deed) → NeverOverrun s → DoesDeed deed s s' → FactsAt s → PairPremises c d a b s.log → PairPremises c d a b s'.log → HoldsAt s → HoldsAt s'
  next_held s s' (Dials host id socket to buffers now) never does f before after h =
      let ns : List Note = Opened (length s.ends) host buffers ∷ [] in
      let then' : PairPremises c d a b (s.log ++ ns) = subst (λ (z : Scene). PairPremises c d a b z.log) does.after after in
      subst HoldsAt (sym does.after)
      (at_noted c d a b s _ ns
      (dials_held c d a b differ s.ends s.parcels (scan s.log) (pair_between c d a b s.parcels s.log) host id socket to buffers now f.roles does.range.1 (roles_then s.log ns then') h))
  next_held s s' (Accepts host id socket parcel buffers now) never does f before after h =
      let ns : List Note = Accepted (length s.ends) parcel buffers ∷ Got (length s.ends) parcel ∷ [] in
      let then' : PairPremises c d a b (s.log ++ ns) = subst (λ (z : Scene). PairPremises c d a b z.log) does.after after in
      subst HoldsAt (sym does.after)
      (at_noted c d a b s _ ns
      (accepts_held c d a b differ s.ends s.parcels (scan s.log) (pair_between c d a b s.parcels s.log) laws host id socket does.packet.header.from parcel buffers now does.bytes does.packet does.header does.body
      f.roles does.range.1 does.comes does.reads does.request (roles_then s.log ns then') h))
  next_held s s' (Reads who parcel) never does f before after h =
      let r : Received = (receive_link does.link does.header does.body).0 in
      let then' : PairPremises c d a b (s.log ++ notes_of r who parcel) = subst (λ (z : Scene). PairPremises c d a b z.log) does.after after in
      let p : Pair = pair_between c d a b s.parcels s.log in
      let w : PresentEnd = linked does.stand (receive_link does.link does.header does.body).1 in
      subst HoldsAt (sym does.after)
      (at_noted c d a b s (set s.ends who w) (notes_of r who parcel)
      (elim (cases_eq who c) [
        | inl one ↦
            subst (λ j. Held c d a b (set s.ends j w) s.parcels (seen_all (scan s.log) (notes_of r j parcel)) (pair_from s.parcels c d p (notes_of r j parcel))) (sym one)
            (caller_reads c d a b differ laws s.ends s.parcels (scan s.log) p s.log f h does.stand does.link parcel does.bytes does.packet does.header does.body
            (subst (λ j. slice_get s.ends j ≡ Some does.stand) one does.stands.there) does.stands.link does.comes does.reads does.read
            (premised s r c parcel (subst (λ j. PairPremises c d a b (s.log ++ notes_of r j parcel)) one then')))
        | inr not_c ↦ elim (cases_eq who d) [
          | inl two ↦
              subst (λ j. Held c d a b (set s.ends j w) s.parcels (seen_all (scan s.log) (notes_of r j parcel)) (pair_from s.parcels c d p (notes_of r j parcel))) (sym two)
              (callee_reads c d a b differ laws s.ends s.parcels (scan s.log) p s.log f before.roles h does.stand does.link parcel does.bytes does.packet does.header does.body
              (subst (λ j. slice_get s.ends j ≡ Some does.stand) two does.stands.there) does.stands.link does.comes does.reads does.read
              (premised s r d parcel (subst (λ j. PairPremises c d a b (s.log ++ notes_of r j parcel)) two then')))
          | inr not_d ↦ other_reads c d a b differ laws s.ends s.parcels (scan s.log) p s.log h who does.stand w parcel r not_c not_d does.stands.there does.read
        ]
      ]))
  next_held s s' (OwesReply who) never does f before after h =
      let k : LinkView = owe_reply_link does.link in
      subst HoldsAt (sym does.after)
      (rests_held c d a b differ s.ends s.parcels (scan s.log) (pair_between c d a b s.parcels s.log) who does.stand (linked does.stand k) does.link k (scan s.log) refl refl refl
      does.stands.there does.stands.link (left_linked does.stand k)
      (λ x y g. record { tracks = g.tracks; open' = g.open' }) (λ q. q) h)
  next_held s s' (Paces who window manual) never does f before after h =
      let k : LinkView = pace_link does.link window manual in
      subst HoldsAt (sym does.after)
      (rests_held c d a b differ s.ends s.parcels (scan s.log) (pair_between c d a b s.parcels s.log) who does.stand (linked does.stand k) does.link k (scan s.log) refl refl refl
      does.stands.there does.stands.link (left_linked does.stand k)
      (λ x y g. record { tracks = g.tracks; open' = g.open' }) (λ q. q) h)
  next_held s s' (AsksAgain who place) never does f before after h =
      let k : LinkView = again_link does.link place in
      subst HoldsAt (sym does.after)
      (rests_held c d a b differ s.ends s.parcels (scan s.log) (pair_between c d a b s.parcels s.log) who does.stand (linked does.stand k) does.link k (scan s.log) refl refl refl
      does.stands.there does.stands.link (left_linked does.stand k)
      (λ x y g. record { tracks = g.tracks; open' = g.open' }) (λ q. q) h)
  next_held s s' (Gives who now segment bytes) never does f before after h =
      let n : Note = note_of does.given.what who (length s.parcels) in
      subst HoldsAt (sym does.after)
      (at_sent c d a b s _ bytes n f.are
      (gives_held c d a b differ s.ends s.parcels (scan s.log) (pair_between c d a b s.parcels s.log) laws who now does.stand does.link does.given bytes
      f.roles does.stands.there does.stands.link does.gives (written_says laws does.home does.link does.given bytes does.written)
      (laws.sequence does.written.packet does.given.header does.given.body bytes (written_packet does.home does.link does.given bytes does.written)) h))
  next_held s s' (Rests who now) never does f before after h =
      let k : LinkView = (poll_link does.link now).1 in
      let p : Pair = pair_between c d a b s.parcels s.log in
      subst HoldsAt (sym does.after) (rests_here s who now does.stand does.link h does.stands.there does.stands.link does.gives)
  next_held s s' (Sends who m) never does f before after h =
      let us : List Unit = cut_of m in
      let k : LinkView = offer_link does.link us in
      subst HoldsAt (sym does.after)
      (at_noted c d a b s _ (HandsIn who m ∷ [])
      (gains_held c d a b differ s.ends s.parcels (scan s.log) (pair_between c d a b s.parcels s.log) laws us (λ j. HandsIn j m) who does.stand (linked does.stand k) does.link k
      (λ j i x y. refl) (λ j. refl) does.stands.there does.stands.link does.live (left_linked does.stand k)
      (λ x y g. subst (Formed x.units) (g.open' (live_may does.link.state does.live)) g.tracks.formed)
      (λ x y w g. laws.steps.offers does.link us x.end y.end g (line_of s x y w) does.live (λ j u at. omega (arith, pieces_stream (length m.body) m.stream m.body j u at, does.stream))) h))
  next_held s s' (Takes who u) never does f before after h =
      let k : LinkView = (take_link does.link).1 in
      let p : Pair = pair_between c d a b s.parcels s.log in
      let ns : List Note = TakesUnit who u ∷ out_notes who does.joins.messages in
      let w : PresentEnd = record (linked does.stand k) { rest = does.joins.rest } in
      subst HoldsAt (sym does.after)
      (at_noted c d a b s (set s.ends who w) ns
      (subst (λ t. Held c d a b (set s.ends who w) s.parcels t (pair_from s.parcels c d p ns)) (sym (outs_seen (scan s.log) who does.joins.messages))
      (subst (λ q. Held c d a b (set s.ends who w) s.parcels (calmed (scan s.log)) q) (sym (outs_paired s.parcels c d (pair_after s.parcels c d p (TakesUnit who u)) who does.joins.messages))
      (takes_held c d a b differ s.ends s.parcels (scan s.log) p laws who does.stand w does.link k u does.stands.there does.stands.link does.gives (λ m is. cc is) (λ x y g. g) h))))
  next_held s s' (Overruns who u) never does f before after h =
      elim (cases_eq who c) [
        | inl one ↦ absurd (never s' who u does (inl one))
        | inr not_c ↦ elim (cases_eq who d) [
          | inl two ↦ absurd (never s' who u does (inr two))
          | inr not_d ↦ subst HoldsAt (sym does.after) (other_held c d a b differ s.ends s.parcels (scan s.log) (pair_between c d a b s.parcels s.log) who _ (scan s.log) (pair_between c d a b s.parcels s.log) not_c not_d refl refl refl refl refl h)
        ]
      ]
  next_held s s' (Closes who) never does f before after h =
      let us : List Unit = the_end ∷ [] in
      let k : LinkView = end_link does.link in
      subst HoldsAt (sym does.after)
      (at_noted c d a b s _ (AsksEnd who ∷ [])
      (gains_held c d a b differ s.ends s.parcels (scan s.log) (pair_between c d a b s.parcels s.log) laws us (λ j. AsksEnd j) who does.stand (linked does.stand k) does.link k
      (λ j i x y. refl) (λ j. refl) does.stands.there does.stands.link does.live (left_linked does.stand k)
      (λ x y g. subst (Formed x.units) (g.open' (live_may does.link.state does.live)) g.tracks.formed)
      (λ x y w g. laws.steps.ends does.link x.end y.end g (line_of s x y w) does.live) h))
  next_held s s' (Releases who) never does f before after h =
      subst HoldsAt (sym does.after)
      (at_noted c d a b s _ (Released who ∷ [])
      (rests_held c d a b differ s.ends s.parcels (scan s.log) (pair_between c d a b s.parcels s.log) who does.stand (record does.stand { link = None; rest = None }) does.link does.link (calmed (scan s.log)) refl refl refl
      does.stands.there does.stands.link (λ m is. absurd (cc is)) (λ x y g. g) (λ q. q) h))
  next_held s s' (Carries from network segment bytes) never does f before after h =
      let p : Pair = pair_between c d a b s.parcels s.log in
      subst HoldsAt (sym does.after)
      (at_sent c d a b s s.ends bytes (Carried from (length s.parcels)) f.are
      (record {
        whole = carried_whole laws c d s.ends s.parcels (scan s.log) p.one p.two from network does.old bytes does.comes does.on h.whole;
        early = h.early;
        quiet = h.quiet;
        unmade = h.unmade;
      }))
  next_held s s' (Tells router segment bytes) never does f before after h =
      let p : Pair = pair_between c d a b s.parcels s.log in
      subst HoldsAt (sym does.after)
      (at_sent c d a b s s.ends bytes (Told router (length s.parcels)) f.are
      (record {
        whole = nobody_gives c d a b differ s.ends s.parcels (scan s.log) p (record { origin = length (scan s.log).marks; maker = ByRouter router; passed = 0; units = length (scan s.log).sent }) bytes refl h.whole;
        early = h.early;
        quiet = h.quiet;
        unmade = h.unmade;
      }))
  next_held s s' (Injects segment bytes) never does f before after h =
      let p : Pair = pair_between c d a b s.parcels s.log in
      subst HoldsAt (sym does)
      (at_sent c d a b s s.ends bytes (Injected (length s.parcels)) f.are
      (record {
        whole = nobody_gives c d a b differ s.ends s.parcels (scan s.log) p (record { origin = length (scan s.log).marks; maker = FromOutside; passed = 0; units = length (scan s.log).sent }) bytes refl h.whole;
        early = h.early;
        quiet = h.quiet;
        unmade = h.unmade;
      }))
