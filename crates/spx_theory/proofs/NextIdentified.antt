-- Each deed keeps the identities identified.
use Rattle.std.proofs.Common.{ℕ, ◌≡◌, ◌⊎◌, ◌<◌, ◌==◌, Bool, true, false, List, [], ◌∷◌, ◌++◌, length, set, Some, None, refl, sym, ◌∙◌, ap, subst, inl, inr, arith, ne_eqb}
use Rattle.std.specs.Prelude.{slice_get}
use Rattle.std.proofs.lemmas.Bool.{cond-false}
use Rattle.ipx_wire.specs.declared.address.Network.{Network}
use Rattle.ipx_wire.specs.declared.address.Socket.{Socket}
use Rattle.ipx_wire.specs.declared.address.Address.{Address}
use Rattle.ipx_wire.specs.declared.spx.packet.SpxHeader.{SpxHeader}
use Rattle.ipx_wire.specs.Ipx.{PacketView}
use Rattle.ipx_wire.specs.Spx.{IsSpx}
use Rattle.spx_link.specs.declared.outgoing.Sent.{Sent}
use Rattle.spx_link.specs.declared.state.State.TheVariants.{Opening}
use Rattle.spx_link.specs.Limits.{no_id}
use Rattle.spx_link.specs.LinkView.{LinkView}
use Rattle.spx_link.specs.Poll.{OutgoingView, poll_link}
use Rattle.spx_link.specs.Offer.{owe_reply_link, pace_link, again_link, take_link, offer_link, end_link, lose_link, dialed}
use Rattle.spx_messages.specs.Cut.{cut_of}
use Rattle.ipx_wire.specs.Connection.{IsConnectionPacket}
use Rattle.spx_theory.specs.Note.{Note, Opened, HandsIn, AsksEnd, TakesUnit, Released, Told, Carried, Injected}
use Rattle.spx_theory.specs.Scan.{Scan, Mark, Maker, Role, seen, seen_all, scan, mark_of, one_further, BySystem, ByRouter, FromOutside}
use Rattle.spx_theory.specs.Peers.{end_of, NothingInjected}
use Rattle.spx_theory.specs.Scene.{Scene, PresentEnd, IsPresent, linked}
use Rattle.spx_messages.specs.WrittenPackets.{Home}
use Rattle.spx_theory.specs.PacketsOnWay.{IsOneOn, one_on, note_of, out_notes}
use Rattle.spx_theory.specs.Deeds.{Deed, DoesDeed, DoesDial, DoesGive, DoesCarry, DoesTell, Dials, Accepts, Reads, OwesReply, Paces, AsksAgain, Gives, Rests, Sends, Takes, Overruns, Closes, Releases, Carries, Tells, Injects}
use Rattle.spx_theory.proofs.Bytes.{written_says}
use Rattle.spx_theory.proofs.NextFacts.{FactsAt, given_mark}
use Rattle.spx_theory.proofs.Held.{calmed, outs_seen, set_here}
use Rattle.spx_theory.specs.Names.{Names, names, GaveNames, is_plain}
use Rattle.spx_theory.proofs.Identities.{Identity, IdentityIs, IsFrom, IsFromOrOutside, OneEnd, HaveNetworks, address_at}
use Rattle.spx_theory.proofs.Identified.{Identified, IdentityOf, identity_of, identified_gone, identified_put, identified_sent, identified_new}
use Rattle.spx_theory.proofs.IdentifiedReads.{IdentifiedIn, IdentifiedAt, identified_at, opening_called, accepts, reads}
use Rattle.spx_link.specs.declared.outgoing.Sent.TheVariants as Sents
use Rattle.spx_theory.specs.Below.{LawsBelow}
use Rattle.spx_theory.proofs.Lists.{same_element}

-- ---- what is sent
pub record GivenAll (s : Scan) (what : Sent) (who k : ℕ) : Type 0 where
  pub marks : (seen s (note_of what who k)).marks ≡ s.marks ++ given_mark s what who ∷ []
  pub roles : (seen s (note_of what who k)).roles ≡ s.roles
  pub readings : (seen s (note_of what who k)).readings ≡ s.readings
  pub maker : end_of (given_mark s what who).maker ≡ Some who
  pub system : is_plain what ≡ true → (given_mark s what who).maker ≡ BySystem who

given_all : (s : Scan) (what : Sent) (who k : ℕ) → GivenAll s what who k
given_all s Sents.Request who k = record { marks = refl; roles = refl; readings = refl; maker = refl; system = λ e. refl }
given_all s Sents.Reply who k = record { marks = refl; roles = refl; readings = refl; maker = refl; system = λ e. refl }
given_all s Sents.Confirm who k = record { marks = refl; roles = refl; readings = refl; maker = refl; system = λ e. refl }
given_all s Sents.Unit who k = record { marks = refl; roles = refl; readings = refl; maker = refl; system = λ e. absurd (cc e) }
given_all s Sents.Again who k = record { marks = refl; roles = refl; readings = refl; maker = refl; system = λ e. absurd (cc e) }
given_all s Sents.Ack who k = record { marks = refl; roles = refl; readings = refl; maker = refl; system = λ e. refl }
given_all s Sents.Probe who k = record { marks = refl; roles = refl; readings = refl; maker = refl; system = λ e. refl }

-- an unjoined identity is identified by its id of no peer
apart : (homes : List Home) (identities : List Identity) (k : ℕ) (x : Identity) → IdentityIs homes identities k x → (b : Bool) → x.role.joined ≡ b → ((x.role.joined ≡ true) × (x.names.peer < no_id)) ⊎ ((x.role.called ≡ true) × (x.names.peer ≡ no_id))
apart homes identities k x c true is = inl (is, (c.partner is).0)
apart homes identities k x c false is = inr (c.idle is)

-- a written packet carries the identity of its end
given_from : (homes : List Home) (identities : List Identity) (who : ℕ) (c : Identity) (home : Home) (l : LinkView) (g : OutgoingView) (m : Maker) (p : PacketView)
    → slice_get identities who ≡ Some c → slice_get homes c.host ≡ Some home → IdentityIs homes identities who c → c.names ≡ names l → end_of m ≡ Some who → (is_plain g.what ≡ true → m ≡ BySystem who)
    → (l.state ≡ Opening → c.role.called ≡ true) → GaveNames l.state l g
    → p.header.from ≡ record { network = home.network; node = home.node; socket = l.local } → p.header.to ≡ l.remote → IsFrom homes identities m p g.header
given_from homes identities who c home l g m p at home_is identity named maker system opens gave from to =
    let peer : c.names.peer ≡ l.peer = ap (λ (n : Names). n.peer) named in
    let is = apart homes identities who c identity c.role.joined refl in
    record {
      who = who;
      identity = c;
      home = home;
      at = at;
      home_is = home_is;
      maker = maker;
      from = from ∙ ap (λ (n : Names). address_at home n) (sym named);
      to = to ∙ ap (λ (n : Names). n.remote) (sym named);
      own = gave.from ∙ ap (λ (n : Names). n.own) (sym named);
      system = λ e. system (gave.system e);
      asks = λ e. elim gave.to [
        | inl peers ↦ elim is [ inl j ↦ absurd (omega (arith, j.1, peer, peers, e)) | inr i ↦ i.0 ]
        | inr asks ↦ opens asks.1
      ];
      named = λ ne. elim gave.to [
        | inl peers ↦ elim is [ inl j ↦ (j.0, peers ∙ sym peer) | inr i ↦ absurd (ne (peers ∙ sym peer ∙ i.1)) ]
        | inr asks ↦ absurd (ne asks.0)
      ];
    }

-- ---- what a router forwards
carried_from : (homes : List Home) (networks : HaveNetworks homes) (identities : List Identity) (network : Network) (m : Maker) (p q : PacketView) (h : SpxHeader) → p ≡ one_on network q → IsFrom homes identities m q h → IsFrom homes identities m p h
carried_from homes networks identities network m p q h is f =
    let far : q.header.from.network ≡ f.home.network = ap (λ (a : Address). a.network) f.from in
    let not_none : (q.header.from.network.0 == 0) ≡ false = ne_eqb _ _ (λ e. networks f.identity.host f.home f.home_is (ap (λ (n : Network). n.0) (sym far) ∙ e)) in
    let stays : (one_on network q).header.from ≡ q.header.from =
    ap (λ (n : Network). record { network = n; node = q.header.from.node; socket = q.header.from.socket }) (cond-false _ network q.header.from.network not_none) in
    record {
      who = f.who;
      identity = f.identity;
      home = f.home;
      at = f.at;
      home_is = f.home_is;
      maker = f.maker;
      from = ap (λ (d : PacketView). d.header.from) is ∙ stays ∙ f.from;
      to = ap (λ (d : PacketView). d.header.to) is ∙ f.to;
      own = f.own;
      system = f.system;
      asks = f.asks;
      named = f.named;
    }

module _ (laws : LawsBelow) (homes : List Home) (networks : HaveNetworks homes) where
  -- ---- an end dials
  dials : (s s' : Scene) (host id : ℕ) (socket : Socket) (to : Address) (buffers now : ℕ) → s.homes ≡ homes → DoesDial host id socket to buffers now s s' → FactsAt s → IdentifiedAt homes s → IdentifiedAt homes s'
  dials s s' host id socket to buffers now same does facts f =
      let l : LinkView = dialed id socket to buffers now in
      let e : PresentEnd = record { host = host; own = id; link = Some l; rest = None; overlong = false } in
      let role : Role = record { buffers = buffers; called = true; joined = false; partner = None } in
      let identity : IdentityIs homes f.identities (length s.ends) (record { host = host; names = names l; role = role }) = record {
        home = (does.there.0, ap (λ hs. slice_get hs host) (sym same) ∙ does.there.1);
        range = does.below;
        idle = λ e. (refl, refl);
        nobody = λ e. refl;
        partner = λ e. absurd (cc e);
      } in
      subst (IdentifiedAt homes) (sym does.after)
      (identified_at homes (s.ends ++ e ∷ []) s.parcels s.log (Opened (length s.ends) host buffers ∷ [])
      (identified_new homes s.ends s.parcels (scan s.log).marks (scan s.log).roles (scan s.log).readings f e l role facts.roles refl refl identity))

  -- ---- a link changes and keeps its names
  keeps : (s : Scene) (who : ℕ) (e w : PresentEnd) (l k : LinkView) → IsPresent s who e l → w.link ≡ Some k → w.host ≡ e.host → w.own ≡ e.own → names k ≡ names l → IdentifiedAt homes s → IdentifiedIn homes (set s.ends who w) s.parcels (scan s.log)
  keeps s who e w l k stands is host own same f =
      identified_put homes s.ends s.parcels (scan s.log).marks (scan s.log).roles (scan s.log).readings f who e w l k stands.there stands.link is host own same

  -- entries that change nothing in the index
  noted_known : (ends : List PresentEnd) (parcels : List (List ℕ)) (log ns : List Note) → (seen_all (scan log) ns).marks ≡ (scan log).marks → (seen_all (scan log) ns).roles ≡ (scan log).roles → (seen_all (scan log) ns).readings ≡ (scan log).readings
      → IdentifiedIn homes ends parcels (scan log) → IdentifiedIn homes ends parcels (scan (log ++ ns))
  noted_known ends parcels log ns marks roles readings f =
      identified_at homes ends parcels log ns
      (subst (λ ms. Identified homes ends parcels ms (seen_all (scan log) ns).roles (seen_all (scan log) ns).readings) (sym marks)
      (subst (λ rs. Identified homes ends parcels (scan log).marks rs (seen_all (scan log) ns).readings) (sym roles)
      (subst (λ rs. Identified homes ends parcels (scan log).marks (scan log).roles rs) (sym readings) f)))

  -- ---- a packet is added
  sent_known : (ends : List PresentEnd) (parcels : List (List ℕ)) (bytes : List ℕ) (log : List Note) (n : Note) (m : Mark) → length (scan log).marks ≡ length parcels
      → (seen (scan log) n).marks ≡ (scan log).marks ++ m ∷ [] → (seen (scan log) n).roles ≡ (scan log).roles → (seen (scan log) n).readings ≡ (scan log).readings
      → (f : IdentifiedIn homes ends parcels (scan log))
      → ((p : PacketView) (h : SpxHeader) (body : List ℕ) → IsConnectionPacket p h body bytes → IsFromOrOutside homes f.identities m.maker p h)
      → IdentifiedIn homes ends (parcels ++ bytes ∷ []) (scan (log ++ n ∷ []))
  sent_known ends parcels bytes log n m count marks roles readings f made =
      identified_at homes ends (parcels ++ bytes ∷ []) log (n ∷ [])
      (subst (λ ms. Identified homes ends (parcels ++ bytes ∷ []) ms (seen (scan log) n).roles (seen (scan log) n).readings) (sym marks)
      (subst (λ rs. Identified homes ends (parcels ++ bytes ∷ []) ((scan log).marks ++ m ∷ []) rs (seen (scan log) n).readings) (sym roles)
      (subst (λ rs. Identified homes ends (parcels ++ bytes ∷ []) ((scan log).marks ++ m ∷ []) (scan log).roles rs) (sym readings)
      (identified_sent homes ends parcels (scan log).marks (scan log).roles (scan log).readings f bytes m count made))))

  gives : (s s' : Scene) (who now : ℕ) (segment : Network) (bytes : List ℕ) → s.homes ≡ homes → DoesGive who now segment bytes s s' → FactsAt s → IdentifiedAt homes s → IdentifiedAt homes s'
  gives s s' who now segment bytes same does facts f =
      let k : LinkView = (poll_link does.link now).1 in
      let n = laws.names.polls does.link now in
      let g = given_all (scan s.log) does.given.what who (length s.parcels) in
      let m : Mark = given_mark (scan s.log) does.given.what who in
      let c : IdentityOf f.identities (scan s.log).roles who does.stand does.link =
      identity_of homes s.ends s.parcels (scan s.log).marks (scan s.log).roles (scan s.log).readings f who does.stand does.link does.stands.there does.stands.link in
      let identity : IdentityIs homes f.identities who c.identity = f.are who c.identity c.at in
      let home : slice_get homes c.identity.host ≡ Some does.home = ap (slice_get homes) c.host ∙ ap (λ hs. slice_get hs does.stand.host) (sym same) ∙ does.home_is in
      let after : IdentifiedIn homes (set s.ends who (linked does.stand k)) s.parcels (scan s.log) = keeps s who does.stand (linked does.stand k) does.link k does.stands refl refl refl n.keeps f in
      let c' : IdentityOf after.identities (scan s.log).roles who (linked does.stand k) k =
      identity_of homes (set s.ends who (linked does.stand k)) s.parcels (scan s.log).marks (scan s.log).roles (scan s.log).readings after who (linked does.stand k) k
      (set_here s.ends who (linked does.stand k) does.stand does.stands.there) refl in
      let role : c'.identity.role ≡ c.identity.role = same_element (scan s.log).roles who c'.identity.role c.identity.role c'.role c.role in
      subst (IdentifiedAt homes) (sym does.after)
      (sent_known (set s.ends who (linked does.stand k)) s.parcels bytes s.log (note_of does.given.what who (length s.parcels)) m facts.count g.marks g.roles g.readings after
      (λ p h body reads.
      let packet : p ≡ does.written.packet = (laws.one_packet p does.written.packet bytes reads.tail [] reads.packet does.written.is).0 in
      let header : h ≡ does.given.header = (written_says laws does.home does.link does.given bytes does.written p h body reads).0 in
      subst (IsFromOrOutside homes after.identities m.maker p) (sym header)
      (inr (given_from homes after.identities who c'.identity does.home does.link does.given m.maker p c'.at
      (ap (slice_get homes) c'.host ∙ ap (slice_get homes) (sym c.host) ∙ home) (after.are who c'.identity c'.at) (c'.named ∙ n.keeps) g.maker g.system
      (λ opens. ap (λ (r : Role). r.called) role ∙ opening_called laws homes networks s facts f who does.stand does.link does.stands c opens) (n.gave does.given does.gives)
      (ap (λ (d : PacketView). d.header.from) packet ∙ does.written.from) (ap (λ (d : PacketView). d.header.to) packet ∙ does.written.to)))))

  carries : (s s' : Scene) (from : ℕ) (network segment : Network) (bytes : List ℕ) → DoesCarry from network segment bytes s s' → FactsAt s → IdentifiedAt homes s → IdentifiedAt homes s'
  carries s s' from network segment bytes does facts f =
      let m : Mark = one_further (mark_of (scan s.log) from) in
      subst (IdentifiedAt homes) (sym does.after)
      (sent_known s.ends s.parcels bytes s.log (Carried from (length s.parcels)) m facts.count refl refl refl f
      (λ p h body reads.
      let on : IsOneOn network does.old bytes = does.on in
      let is : p ≡ one_on network on.packet = (laws.one_packet p (one_on network on.packet) bytes reads.tail [] reads.packet on.becomes).0 in
      let old : IsConnectionPacket on.packet h body does.old = record {
        tail = on.tail;
        packet = on.is;
        kind = ap (λ (d : PacketView). d.header.kind) (sym is) ∙ reads.kind;
        spx = subst (λ (d : PacketView). IsSpx h body d.body) is reads.spx;
      } in
      elim (f.from from does.old does.comes on.packet h body old) [
        | inl outside ↦ inl outside
        | inr g ↦ inr (carried_from homes networks f.identities network m.maker p on.packet h is g)
      ]))

  tells : (s s' : Scene) (router : ℕ) (segment : Network) (bytes : List ℕ) → DoesTell router segment bytes s s' → FactsAt s → IdentifiedAt homes s → IdentifiedAt homes s'
  tells s s' router segment bytes does facts f =
      subst (IdentifiedAt homes) (sym does.after)
      (sent_known s.ends s.parcels bytes s.log (Told router (length s.parcels)) (record { origin = length (scan s.log).marks; maker = ByRouter router; passed = 0; units = length (scan s.log).sent })
      facts.count refl refl refl f
      (λ p h body reads.
      let is : p ≡ does.packet = (laws.one_packet p does.packet bytes reads.tail [] reads.packet does.is).0 in
      absurd (does.kind (ap (λ (d : PacketView). d.header.kind) (sym is) ∙ reads.kind))))

  -- ---- each deed
  pub next_identified : (s s' : Scene) (deed : Deed) → DoesDeed deed s s' → s.homes ≡ homes → FactsAt s → NothingInjected s'.log → (f : IdentifiedAt homes s) → OneEnd homes f.identities → IdentifiedAt homes s'
  next_identified s s' (Dials host id socket to buffers now) does same facts nothing f one = dials s s' host id socket to buffers now same does facts f
  next_identified s s' (Accepts host id socket parcel buffers now) does same facts nothing f one = accepts laws homes networks s s' host id socket parcel buffers now same does facts nothing f
  next_identified s s' (Reads who parcel) does same facts nothing f one = reads laws homes networks s s' who parcel same does facts nothing f one
  next_identified s s' (OwesReply who) does same facts nothing f one =
      subst (IdentifiedAt homes) (sym does.after) (keeps s who does.stand _ does.link (owe_reply_link does.link) does.stands refl refl refl refl f)
  next_identified s s' (Paces who window manual) does same facts nothing f one =
      subst (IdentifiedAt homes) (sym does.after) (keeps s who does.stand _ does.link (pace_link does.link window manual) does.stands refl refl refl refl f)
  next_identified s s' (AsksAgain who place) does same facts nothing f one =
      subst (IdentifiedAt homes) (sym does.after) (keeps s who does.stand _ does.link (again_link does.link place) does.stands refl refl refl refl f)
  next_identified s s' (Gives who now segment bytes) does same facts nothing f one = gives s s' who now segment bytes same does facts f
  next_identified s s' (Rests who now) does same facts nothing f one =
      subst (IdentifiedAt homes) (sym does.after) (keeps s who does.stand _ does.link (poll_link does.link now).1 does.stands refl refl refl (laws.names.polls does.link now).keeps f)
  next_identified s s' (Sends who m) does same facts nothing f one =
      subst (IdentifiedAt homes) (sym does.after)
      (noted_known _ s.parcels s.log (HandsIn who m ∷ []) refl refl refl (keeps s who does.stand _ does.link (offer_link does.link (cut_of m)) does.stands refl refl refl refl f))
  next_identified s s' (Takes who u) does same facts nothing f one =
      let out : seen_all (scan s.log) (TakesUnit who u ∷ out_notes who does.joins.messages) ≡ calmed (scan s.log) = outs_seen (scan s.log) who does.joins.messages in
      subst (IdentifiedAt homes) (sym does.after)
      (noted_known _ s.parcels s.log (TakesUnit who u ∷ out_notes who does.joins.messages) (ap (λ (t : Scan). t.marks) out) (ap (λ (t : Scan). t.roles) out) (ap (λ (t : Scan). t.readings) out)
      (keeps s who does.stand _ does.link (take_link does.link).1 does.stands refl refl refl (laws.names.takes does.link) f))
  next_identified s s' (Overruns who u) does same facts nothing f one =
      subst (IdentifiedAt homes) (sym does.after) (keeps s who does.stand _ does.link (lose_link (take_link does.link).1) does.stands refl refl refl (laws.names.takes does.link) f)
  next_identified s s' (Closes who) does same facts nothing f one =
      subst (IdentifiedAt homes) (sym does.after)
      (noted_known _ s.parcels s.log (AsksEnd who ∷ []) refl refl refl (keeps s who does.stand _ does.link (end_link does.link) does.stands refl refl refl refl f))
  next_identified s s' (Releases who) does same facts nothing f one =
      subst (IdentifiedAt homes) (sym does.after)
      (noted_known _ s.parcels s.log (Released who ∷ []) refl refl refl
      (identified_gone homes s.ends s.parcels (scan s.log).marks (scan s.log).roles (scan s.log).readings f who does.stand (record does.stand { link = None; rest = None }) does.stands.there refl refl refl))
  next_identified s s' (Carries from network segment bytes) does same facts nothing f one = carries s s' from network segment bytes does facts f
  next_identified s s' (Tells router segment bytes) does same facts nothing f one = tells s s' router segment bytes does facts f
  next_identified s s' (Injects segment bytes) does same facts nothing f one =
      subst (IdentifiedAt homes) (sym does)
      (sent_known s.ends s.parcels bytes s.log (Injected (length s.parcels)) (record { origin = length (scan s.log).marks; maker = FromOutside; passed = 0; units = length (scan s.log).sent })
      facts.count refl refl refl f (λ p h body reads. inl refl))
