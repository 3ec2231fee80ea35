-- In every scene that can be reached, whatever was injected: each end keeps its id, its packets carry it, and
-- an end that was made or joined by one of them addresses its peer by it.
use Rattle.std.proofs.Common.{◌≡◌, ℕ, true, false, List, [], ◌∷◌, ◌++◌, length, set, Some, None, refl, sym, ap, ◌∙◌, inl, inr, subst, arith, length-append, length-set}
use Rattle.std.specs.Prelude.{slice_get}
use Rattle.std.proofs.lemmas.Bool.{cond-false}
use Rattle.std.proofs.lemmas.Option.{slice_get_within, slice_get-get_or}
use Rattle.ipx_wire.specs.Connection.{IsConnectionPacket}
use Rattle.ipx_wire.specs.Ipx.{PacketView}
use Rattle.ipx_wire.specs.declared.address.Network.{Network}
use Rattle.ipx_wire.specs.declared.spx.packet.SpxHeader.{SpxHeader}
use Rattle.spx_link.specs.LinkView.{LinkView}
use Rattle.spx_link.specs.Poll.{poll_link}
use Rattle.spx_link.specs.Receive.{receive_link}
use Rattle.spx_link.specs.Offer.{owe_reply_link, pace_link, again_link, take_link, offer_link, end_link, lose_link, dialed, accepted_from}
use Rattle.spx_link.specs.declared.state.State.TheVariants.{Opening}
use Rattle.spx_messages.specs.Cut.{cut_of}
use Rattle.spx_theory.specs.Names.{Names, names}
use Rattle.spx_theory.specs.Note.{Note, Opened, Accepted, Joined, Got, HandsIn, AsksEnd, TakesUnit, Released, Told, Carried, Injected}
use Rattle.spx_theory.specs.Scan.{Scan, Mark, Maker, Role, seen, seen_all, scan, unread, mark_of, role_of, one_further, joined_by, asker, no_role, ByRouter, FromOutside}
use Rattle.spx_theory.specs.Peers.{end_of}
use Rattle.spx_theory.specs.Named.{PeersAreNamed}
use Rattle.spx_theory.specs.Scene.{Scene, PresentEnd, IsPresent, linked}
use Rattle.spx_theory.specs.PacketsOnWay.{note_of, out_notes}
use Rattle.spx_theory.specs.Deeds.{Deed, DoesDeed, DoesGive, DoesRead, Dials, Accepts, Reads, OwesReply, Paces, AsksAgain, Gives, Rests, Sends, Takes, Overruns, Closes, Releases, Carries, Tells, Injects, IsBegun, Reached, begun, happened}
use Rattle.spx_theory.specs.Below.{LawsBelow}
use Rattle.spx_theory.proofs.Adding.{mark_before, mark_here}
use Rattle.spx_theory.proofs.Along.{facts_along}
use Rattle.spx_theory.proofs.Bytes.{written_says, carried_reads}
use Rattle.spx_theory.proofs.Fields.{at_scene}
use Rattle.spx_theory.proofs.Folding.{seen_all-append}
use Rattle.spx_theory.proofs.Held.{calmed, outs_seen, set_here}
use Rattle.spx_theory.proofs.HeldReads.{asker_end, notes_cases}
use Rattle.spx_theory.proofs.Lists.{get_before, get_last, get_here, get_set, same_element}
use Rattle.spx_theory.proofs.NextFacts.{FactsAt, given_mark, given_scan}
use Rattle.spx_theory.proofs.Tied.{mark_at}

-- an SPX packet carries the id of the end that made it
abbrev SaysId : List ℕ → Maker → List ℕ → Type 0
SaysId ids m bytes =
    (p : PacketView) (h : SpxHeader) (body : List ℕ) (who : ℕ) → IsConnectionPacket p h body bytes → end_of m ≡ Some who → slice_get ids who ≡ Some h.from_id

-- the id of each end, even if its link was released
record Called (ids : List ℕ) (ends : List PresentEnd) (parcels : List (List ℕ)) (marks : List Mark) (roles : List Role) : Type 0 where
  own : (who : ℕ) (e : PresentEnd) (l : LinkView) → slice_get ends who ≡ Some e → e.link ≡ Some l → slice_get ids who ≡ Some l.own
  peer : (who : ℕ) (e : PresentEnd) (l : LinkView) (r : Role) (d : ℕ) → slice_get ends who ≡ Some e → e.link ≡ Some l → slice_get roles who ≡ Some r → r.partner ≡ Some d
      → slice_get ids d ≡ Some l.peer
  says : (k : ℕ) (bytes : List ℕ) → slice_get parcels k ≡ Some bytes → SaysId ids (mark_at marks k).maker bytes
  count : length ids ≡ length ends

abbrev CalledIn : List PresentEnd → List (List ℕ) → Scan → Type 0
CalledIn ends parcels t = (ids : List ℕ) × Called ids ends parcels t.marks t.roles

abbrev CalledAt : Scene → Type 0
CalledAt s = CalledIn s.ends s.parcels (scan s.log)

called_at : (ends : List PresentEnd) (parcels : List (List ℕ)) (log ns : List Note) → CalledIn ends parcels (seen_all (scan log) ns) → CalledIn ends parcels (scan (log ++ ns))
called_at ends parcels log ns c = subst (CalledIn ends parcels) (sym (seen_all-append unread log ns)) c

module _ (ends : List PresentEnd) (parcels : List (List ℕ)) (t : Scan) (c : CalledIn ends parcels t) where
  -- the link of an end is replaced, or released
  called_put : (who : ℕ) (e w : PresentEnd) (l : LinkView) → slice_get ends who ≡ Some e → e.link ≡ Some l → ((k : LinkView) → w.link ≡ Some k → names k ≡ names l) → CalledIn (set ends who w) parcels t
  called_put who e w l there is same = (
    c.0,
    record {
      own = λ j x k at link. elim (get_set ends who j w x at) [
        | inl here ↦ own_of j k here.0 (same k (ap (λ (y : PresentEnd). y.link) here.1 ∙ link))
        | inr other ↦ c.1.own j x k other.1 link
      ];
      peer = λ j x k r d at link role partner. elim (get_set ends who j w x at) [
        | inl here ↦
            let named : names k ≡ names l = same k (ap (λ (y : PresentEnd). y.link) here.1 ∙ link) in
            c.1.peer who e l r d there is (ap (slice_get t.roles) here.0 ∙ role) partner ∙ ap (λ (n : Names). Some n.peer) (sym named)
        | inr other ↦ c.1.peer j x k r d other.1 link role partner
      ];
      says = c.1.says;
      count = c.1.count ∙ sym (length-set ends who w);
    },
  )
    where
      own_of : (j : ℕ) (k : LinkView) → who ≡ j → names k ≡ names l → slice_get c.0 j ≡ Some k.own
      own_of j k at named = ap (slice_get c.0) (sym at) ∙ c.1.own who e l there is ∙ ap (λ (n : Names). Some n.own) (sym named)

  -- a parcel is added
  called_sent : (bytes : List ℕ) (m : Mark) (t' : Scan) → length t.marks ≡ length parcels → t'.marks ≡ t.marks ++ m ∷ [] → t'.roles ≡ t.roles → SaysId c.0 m.maker bytes → CalledIn ends (parcels ++ bytes ∷ []) t'
  called_sent bytes m t' count marks roles made = (
    c.0,
    record {
      own = c.1.own;
      peer = λ j x k r d at link role partner. c.1.peer j x k r d at link (ap (λ rs. slice_get rs j) (sym roles) ∙ role) partner;
      says = λ k bs at. elim (get_last parcels bytes bs k at) [
        | inl was ↦
            let within = slice_get_within parcels k bs was in
            subst (λ (n : Mark). SaysId c.0 n.maker bs) (sym (ap (λ ms. mark_at ms k) marks ∙ mark_before t.marks m k (omega (arith, count, within)))) (c.1.says k bs was)
        | inr new ↦ subst (SaysId c.0 (mark_at t'.marks k).maker) new.1
            (subst (λ (n : Mark). SaysId c.0 n.maker bytes) (sym (ap (λ ms. mark_at ms k) marks ∙ ap (mark_at (t.marks ++ m ∷ [])) (new.0 ∙ sym count) ∙ mark_here t.marks m)) made)
      ];
      count = c.1.count;
    },
  )

  -- an end is added
  called_new : (e : PresentEnd) (l : LinkView) (r : Role) (t' : Scan) → length t.roles ≡ length ends → e.link ≡ Some l → t'.marks ≡ t.marks → t'.roles ≡ t.roles ++ r ∷ []
      → ((d : ℕ) → r.partner ≡ Some d → slice_get c.0 d ≡ Some l.peer) → CalledIn (ends ++ e ∷ []) parcels t'
  called_new e l r t' count is marks roles peer = (
    c.0 ++ l.own ∷ [],
    record {
      own = λ j x k at link. elim (get_last ends e x j at) [
        | inl was ↦ get_before c.0 (l.own ∷ []) k.own j (c.1.own j x k was link)
        | inr new ↦
            let same : l ≡ k = cc (sym is ∙ (ap (λ (y : PresentEnd). y.link) new.1 ∙ link)) in
            ap (slice_get (c.0 ++ l.own ∷ [])) (new.0 ∙ sym c.1.count) ∙ get_here c.0 l.own ∙ ap (λ (y : LinkView). Some y.own) same
      ];
      peer = λ j x k q d at link role partner.
          let role' : slice_get (t.roles ++ r ∷ []) j ≡ Some q = ap (λ rs. slice_get rs j) (sym roles) ∙ role in
          elim (get_last ends e x j at) [
            | inl was ↦ elim (get_last t.roles r q j role') [
              | inl old ↦ get_before c.0 (l.own ∷ []) k.peer d (c.1.peer j x k q d was link old partner)
              | inr new ↦ absurd (omega (arith, new.0, count, slice_get_within ends j x was))
            ]
            | inr here ↦ elim (get_last t.roles r q j role') [
              | inl old ↦ absurd (omega (arith, here.0, count, slice_get_within t.roles j q old))
              | inr new ↦
                  let same : l ≡ k = cc (sym is ∙ (ap (λ (y : PresentEnd). y.link) here.1 ∙ link)) in
                  get_before c.0 (l.own ∷ []) k.peer d (peer d (ap (λ (y : Role). y.partner) new.1 ∙ partner) ∙ ap (λ (y : LinkView). Some y.peer) same)
            ]
          ];
      says = λ k bs at p h body who reads by. get_before c.0 (l.own ∷ []) h.from_id who (c.1.says k bs at p h body who reads (ap (λ ms. end_of (mark_at ms k).maker) (sym marks) ∙ by));
      count = omega (arith, c.1.count, length-append c.0 (l.own ∷ []), length-append ends (e ∷ []));
    },
  )

  -- an end joins
  called_joined : (who : ℕ) (e w : PresentEnd) (l k : LinkView) (r : Role) (t' : Scan) → slice_get ends who ≡ Some e → e.link ≡ Some l → w.link ≡ Some k → k.own ≡ l.own → t'.marks ≡ t.marks → t'.roles ≡ set t.roles who r
      → ((d : ℕ) → r.partner ≡ Some d → slice_get c.0 d ≡ Some k.peer) → CalledIn (set ends who w) parcels t'
  called_joined who e w l k r t' there is is' own marks roles peer = (
    c.0,
    record {
      own = λ j x m at link. elim (get_set ends who j w x at) [
        | inl here ↦
            let same : k ≡ m = cc (sym is' ∙ (ap (λ (y : PresentEnd). y.link) here.1 ∙ link)) in
            ap (slice_get c.0) (sym here.0) ∙ c.1.own who e l there is ∙ ap Some (sym own ∙ ap (λ (y : LinkView). y.own) same)
        | inr other ↦ c.1.own j x m other.1 link
      ];
      peer = λ j x m q d at link role partner.
          let role' : slice_get (set t.roles who r) j ≡ Some q = ap (λ rs. slice_get rs j) (sym roles) ∙ role in
          elim (get_set ends who j w x at) [
            | inl here ↦ elim (get_set t.roles who j r q role') [
              | inl new ↦
                  let same : k ≡ m = cc (sym is' ∙ (ap (λ (y : PresentEnd). y.link) here.1 ∙ link)) in
                  peer d (ap (λ (y : Role). y.partner) new.1 ∙ partner) ∙ ap (λ (y : LinkView). Some y.peer) same
              | inr old ↦ absurd (old.0 here.0)
            ]
            | inr other ↦ elim (get_set t.roles who j r q role') [
              | inl new ↦ absurd (other.0 new.0)
              | inr old ↦ c.1.peer j x m q d other.1 link old.1 partner
            ]
          ];
      says = λ j bs at. subst (λ ms. SaysId c.0 (mark_at ms j).maker bs) (sym marks) (c.1.says j bs at);
      count = c.1.count ∙ sym (length-set ends who w);
    },
  )

-- ---- each deed
same_named : (e : PresentEnd) (l m : LinkView) → names m ≡ names l → (k : LinkView) → (linked e m).link ≡ Some k → names k ≡ names l
same_named e l m named k is = let same : m ≡ k = cc is in ap names (sym same) ∙ named

-- a link is replaced, and the entries change nothing in the index
keeps : (s : Scene) (ns : List Note) (who : ℕ) (e w : PresentEnd) (l : LinkView) → IsPresent s who e l → ((k : LinkView) → w.link ≡ Some k → names k ≡ names l)
    → (seen_all (scan s.log) ns).marks ≡ (scan s.log).marks → (seen_all (scan s.log) ns).roles ≡ (scan s.log).roles → CalledAt s → CalledIn (set s.ends who w) s.parcels (scan (s.log ++ ns))
keeps s ns who e w l stands same marks roles c =
    let t : Scan = scan s.log in
    let put : CalledIn (set s.ends who w) s.parcels t = called_put s.ends s.parcels t c who e w l stands.there stands.link same in
    called_at (set s.ends who w) s.parcels s.log ns (
      put.0,
      subst (λ rs. Called put.0 (set s.ends who w) s.parcels (seen_all t ns).marks rs) (sym roles) (subst (λ ms. Called put.0 (set s.ends who w) s.parcels ms t.roles) (sym marks) put.1),
    )

-- the role of a link that is opening, joined by a packet
role_joins : (s : Scene) (f : FactsAt s) (maker : Maker) (who : ℕ) (e : PresentEnd) (l : LinkView) → IsPresent s who e l → l.state ≡ Opening → (joined_by maker (role_of (scan s.log) who)).partner ≡ asker maker
role_joins s f maker who e l stands opens =
    let t : Scan = scan s.log in
    let role : Role = role_of t who in
    let there : slice_get t.roles who ≡ Some role = slice_get-get_or t.roles who no_role (omega (arith, f.roles, slice_get_within s.ends who e stands.there)) in
    let unjoined : role.joined ≡ false = f.opening who e l role stands.there stands.link opens there in
    ap (λ (r : Role). r.partner) (cond-false role.joined role (record role { joined = true; partner = asker maker }) unjoined)

reads : (laws : LawsBelow) (s s' : Scene) (who parcel : ℕ) → DoesRead who parcel s s' → FactsAt s → CalledAt s → CalledAt s'
reads laws s s' who parcel does f c =
    let t : Scan = scan s.log in
    let k : LinkView = (receive_link does.link does.header does.body).1 in
    let w : PresentEnd = linked does.stand k in
    let n = laws.names.reads does.link does.header does.body in
    let maker : Maker = (mark_of t parcel).maker in
    subst CalledAt (sym does.after)
    (elim (notes_cases (receive_link does.link does.header does.body).0 who parcel does.read) [
      | inl joins ↦
          let named : names k ≡ record (names does.link) { peer = does.header.from_id } = (n.joins joins.0).1 in
          let opens : does.link.state ≡ Opening = laws.states.joins does.link does.header does.body joins.0 in
          let by : (joined_by maker (role_of t who)).partner ≡ asker maker = role_joins s f maker who does.stand does.link does.stands opens in
          subst (λ ns. CalledIn (set s.ends who w) s.parcels (scan (s.log ++ ns))) (sym joins.1)
          (called_at (set s.ends who w) s.parcels s.log (Joined who parcel ∷ Got who parcel ∷ [])
          (called_joined s.ends s.parcels t c who does.stand w does.link k (joined_by maker (role_of t who)) (seen_all t (Joined who parcel ∷ Got who parcel ∷ []))
          does.stands.there does.stands.link refl (ap (λ (y : Names). y.own) named) refl refl
          (λ d partner. c.1.says parcel does.bytes does.comes does.packet does.header does.body d does.reads (asker_end maker d (sym by ∙ partner)) ∙ ap (λ (y : Names). Some y.peer) (sym named))))
      | inr gets ↦ subst (λ ns. CalledIn (set s.ends who w) s.parcels (scan (s.log ++ ns))) (sym gets.1)
          (keeps s (Got who parcel ∷ []) who does.stand w does.link does.stands (same_named does.stand does.link k (n.reads gets.0 does.read).1) refl refl c)
    ])

-- a packet is given
gives : (laws : LawsBelow) (s s' : Scene) (who now : ℕ) (segment : Network) (bytes : List ℕ) → DoesGive who now segment bytes s s' → FactsAt s → CalledAt s → CalledAt s'
gives laws s s' who now segment bytes does f c =
    let t : Scan = scan s.log in
    let k : LinkView = (poll_link does.link now).1 in
    let w : PresentEnd = linked does.stand k in
    let n = laws.names.polls does.link now in
    let note : Note = note_of does.given.what who (length s.parcels) in
    let g = given_scan t does.given.what who (length s.parcels) in
    let put : CalledIn (set s.ends who w) s.parcels t = called_put s.ends s.parcels t c who does.stand w does.link does.stands.there does.stands.link (same_named does.stand does.link k n.keeps) in
    subst CalledAt (sym does.after)
    (called_at (set s.ends who w) (s.parcels ++ bytes ∷ []) s.log (note ∷ [])
    (called_sent (set s.ends who w) s.parcels t put bytes (given_mark t does.given.what who) (seen t note) f.count g.marks g.roles
    (λ p h body by reads maker.
    let same : who ≡ by = cc (sym g.maker ∙ maker) in
    let header : h ≡ does.given.header = (written_says laws does.home does.link does.given bytes does.written p h body reads).0 in
    let says : k.own ≡ h.from_id = ap (λ (y : Names). y.own) n.keeps ∙ sym (ap (λ (x : SpxHeader). x.from_id) header ∙ (n.gave does.given does.gives).from) in
    ap (slice_get put.0) (sym same) ∙ put.1.own who w k (set_here s.ends who w does.stand does.stands.there) refl ∙ ap Some says)))

next_called : (laws : LawsBelow) (s s' : Scene) (deed : Deed) → DoesDeed deed s s' → FactsAt s → CalledAt s → CalledAt s'
next_called laws s s' (Dials host id socket to buffers now) does f c =
    let l : LinkView = dialed id socket to buffers now in
    let ns : List Note = Opened (length s.ends) host buffers ∷ [] in
    subst CalledAt (sym does.after)
    (called_at (s.ends ++ record { host = host; own = id; link = Some l; rest = None; overlong = false } ∷ []) s.parcels s.log ns
    (called_new s.ends s.parcels (scan s.log) c (record { host = host; own = id; link = Some l; rest = None; overlong = false }) l (record { buffers = buffers; called = true; joined = false; partner = None })
    (seen_all (scan s.log) ns) f.roles refl refl refl (λ d partner. absurd (cc partner))))
next_called laws s s' (Accepts host id socket parcel buffers now) does f c =
    let l : LinkView = accepted_from id socket does.packet.header.from does.header buffers now in
    let maker : Maker = (mark_of (scan s.log) parcel).maker in
    let ns : List Note = Accepted (length s.ends) parcel buffers ∷ Got (length s.ends) parcel ∷ [] in
    subst CalledAt (sym does.after)
    (called_at (s.ends ++ record { host = host; own = id; link = Some l; rest = None; overlong = false } ∷ []) s.parcels s.log ns
    (called_new s.ends s.parcels (scan s.log) c (record { host = host; own = id; link = Some l; rest = None; overlong = false }) l
    (record { buffers = buffers; called = false; joined = true; partner = asker maker }) (seen_all (scan s.log) ns) f.roles refl refl refl
    (λ d partner. c.1.says parcel does.bytes does.comes does.packet does.header does.body d does.reads (asker_end maker d partner))))
next_called laws s s' (Reads who parcel) does f c = reads laws s s' who parcel does f c
next_called laws s s' (OwesReply who) does f c =
    subst CalledAt (sym does.after) (called_put s.ends s.parcels (scan s.log) c who does.stand _ does.link does.stands.there does.stands.link (same_named does.stand does.link (owe_reply_link does.link) refl))
next_called laws s s' (Paces who window manual) does f c =
    subst CalledAt (sym does.after) (called_put s.ends s.parcels (scan s.log) c who does.stand _ does.link does.stands.there does.stands.link (same_named does.stand does.link (pace_link does.link window manual) refl))
next_called laws s s' (AsksAgain who place) does f c =
    subst CalledAt (sym does.after) (called_put s.ends s.parcels (scan s.log) c who does.stand _ does.link does.stands.there does.stands.link (same_named does.stand does.link (again_link does.link place) refl))
next_called laws s s' (Gives who now segment bytes) does f c = gives laws s s' who now segment bytes does f c
next_called laws s s' (Rests who now) does f c =
    subst CalledAt (sym does.after)
    (called_put s.ends s.parcels (scan s.log) c who does.stand _ does.link does.stands.there does.stands.link (same_named does.stand does.link (poll_link does.link now).1 (laws.names.polls does.link now).keeps))
next_called laws s s' (Sends who m) does f c =
    subst CalledAt (sym does.after) (keeps s (HandsIn who m ∷ []) who does.stand _ does.link does.stands (same_named does.stand does.link (offer_link does.link (cut_of m)) refl) refl refl c)
next_called laws s s' (Takes who u) does f c =
    let ns : List Note = TakesUnit who u ∷ out_notes who does.joins.messages in
    let out : seen_all (scan s.log) ns ≡ calmed (scan s.log) = outs_seen (scan s.log) who does.joins.messages in
    subst CalledAt (sym does.after)
    (keeps s ns who does.stand _ does.link does.stands (same_named does.stand does.link (take_link does.link).1 (laws.names.takes does.link)) (ap (λ (t : Scan). t.marks) out) (ap (λ (t : Scan). t.roles) out) c)
next_called laws s s' (Overruns who u) does f c =
    subst CalledAt (sym does.after)
    (called_put s.ends s.parcels (scan s.log) c who does.stand _ does.link does.stands.there does.stands.link (same_named does.stand does.link (lose_link (take_link does.link).1) (laws.names.takes does.link)))
next_called laws s s' (Closes who) does f c =
    subst CalledAt (sym does.after) (keeps s (AsksEnd who ∷ []) who does.stand _ does.link does.stands (same_named does.stand does.link (end_link does.link) refl) refl refl c)
next_called laws s s' (Releases who) does f c =
    subst CalledAt (sym does.after) (keeps s (Released who ∷ []) who does.stand _ does.link does.stands (λ k is. absurd (cc is)) refl refl c)
next_called laws s s' (Carries from network segment bytes) does f c =
    subst CalledAt (sym does.after)
    (called_at s.ends (s.parcels ++ bytes ∷ []) s.log (Carried from (length s.parcels) ∷ [])
    (called_sent s.ends s.parcels (scan s.log) c bytes (one_further (mark_of (scan s.log) from)) (seen (scan s.log) (Carried from (length s.parcels))) f.count refl refl
    (λ p h body who reads by. let old = carried_reads laws network does.old bytes does.on p h body reads in c.1.says from does.old does.comes old.0 h body who old.1 by)))
next_called laws s s' (Tells router segment bytes) does f c =
    subst CalledAt (sym does.after)
    (called_at s.ends (s.parcels ++ bytes ∷ []) s.log (Told router (length s.parcels) ∷ [])
    (called_sent s.ends s.parcels (scan s.log) c bytes (record { origin = length (scan s.log).marks; maker = ByRouter router; passed = 0; units = length (scan s.log).sent })
    (seen (scan s.log) (Told router (length s.parcels))) f.count refl refl (λ p h body who reads by. absurd (cc by))))
next_called laws s s' (Injects segment bytes) does f c =
    subst CalledAt (sym does)
    (called_at s.ends (s.parcels ++ bytes ∷ []) s.log (Injected (length s.parcels) ∷ [])
    (called_sent s.ends s.parcels (scan s.log) c bytes (record { origin = length (scan s.log).marks; maker = FromOutside; passed = 0; units = length (scan s.log).sent })
    (seen (scan s.log) (Injected (length s.parcels))) f.count refl refl (λ p h body who reads by. absurd (cc by))))

called_begun : (s : Scene) → IsBegun s → CalledAt s
called_begun s is =
    at_scene (λ ends parcels log. CalledIn ends parcels (scan log)) s [] [] [] is.ends is.parcels is.log
    ([], record { own = λ who e l at. absurd (cc at); peer = λ who e l r d at. absurd (cc at); says = λ k bs at. absurd (cc at); count = refl })

-- in every scene that can be reached
called_along : (laws : LawsBelow) {s : Scene} → Reached s → CalledAt s
called_along laws {s} (begun is) = called_begun s is
called_along laws {s} (happened old deed reached does) = next_called laws old s deed does (facts_along laws reached) (called_along laws reached)

pub peers_are_named : (laws : LawsBelow) (s : Scene) → Reached s → PeersAreNamed s
peers_are_named laws s reached c d j e f a b one two =
    let all : CalledAt s = called_along laws reached in
    record { peer = named all c d e f a b one two j.caller j.caller_is j.answered; peer_back = named all d c f e b a two one j.callee j.callee_is j.asked }
  where
    named : CalledAt s → (c d : ℕ) (e f : PresentEnd) (a b : LinkView) → IsPresent s c e a → IsPresent s d f b → (r : Role) → slice_get (scan s.log).roles c ≡ Some r → r.partner ≡ Some d → a.peer ≡ b.own
    named all c d e f a b one two r at partner =
        same_element all.0 d a.peer b.own (all.1.peer c e a r d one.there one.link at partner) (all.1.own d f b two.there two.link)
