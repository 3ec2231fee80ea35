-- The identities of all ends when a request is accepted, and when a packet is read.
use Rattle.std.proofs.Common.{ℕ, ◌≡◌, ◌≢◌, ◌<◌, ◌==◌, Bool, true, false, List, [], ◌∷◌, ◌++◌, length, set, Some, None, refl, sym, ◌∙◌, ap, subst, inl, inr, arith}
use Rattle.std.specs.Prelude.{slice_get}
use Rattle.std.proofs.lemmas.Bool.{cond-false}
use Rattle.ipx_wire.specs.declared.address.Socket.{Socket}
use Rattle.ipx_wire.specs.declared.spx.packet.SpxHeader.{SpxHeader}
use Rattle.ipx_wire.specs.Ipx.{PacketView}
use Rattle.spx_link.specs.declared.state.State.TheVariants.{Opening}
use Rattle.spx_link.specs.Limits.{no_id}
use Rattle.spx_link.specs.LinkView.{LinkView}
use Rattle.spx_link.specs.Receive.{receive_link}
use Rattle.spx_link.specs.Offer.{accepted_from}
use Rattle.spx_theory.specs.Note.{Note, Accepted, Joined, Got}
use Rattle.spx_theory.specs.Scan.{Scan, Maker, Role, Reading, seen_all, scan, unread, mark_of, role_of, joined_by, asker, is_now, no_role, BySystem, FromOutside}
use Rattle.spx_theory.specs.Peers.{NothingInjected}
use Rattle.spx_theory.specs.Scene.{Scene, PresentEnd, IsPresent, linked}
use Rattle.spx_theory.specs.PacketsOnWay.{IsFor, notes_of}
use Rattle.spx_messages.specs.WrittenPackets.{Home, IsRequestFor}
use Rattle.spx_theory.specs.Deeds.{DoesAccept, DoesRead}
use Rattle.spx_theory.proofs.Lists.{get_here, read_there}
use Rattle.spx_theory.proofs.Folding.{seen_all-append}
use Rattle.spx_theory.proofs.NextFacts.{FactsAt}
use Rattle.spx_theory.proofs.HeldReads.{notes_cases}
use Rattle.spx_theory.proofs.Speaking.{eqb_same}
use Rattle.spx_theory.specs.Names.{Names, names}
use Rattle.spx_theory.proofs.Identities.{Identity, IdentityIs, IsFrom, IsFromOrOutside, IsAdvertised, IdentityLater, OneEnd, HaveNetworks, ComesTo, answers, told_by}
use Rattle.spx_theory.proofs.Identified.{Identified, IdentityOf, identity_of, identified_put, identified_got, identified_first, identified_new, identified_joined}
use Rattle.spx_link.specs.declared.received.Received.TheVariants as Rs
use Rattle.spx_theory.specs.Below.{LawsBelow}

abbrev pub IdentifiedIn : List Home → List PresentEnd → List (List ℕ) → Scan → Type 0
IdentifiedIn homes ends parcels s = Identified homes ends parcels s.marks s.roles s.readings

abbrev pub IdentifiedAt : List Home → Scene → Type 0
IdentifiedAt homes s = IdentifiedIn homes s.ends s.parcels (scan s.log)

pub identified_at : (homes : List Home) (ends : List PresentEnd) (parcels : List (List ℕ)) (log ns : List Note) → IdentifiedIn homes ends parcels (seen_all (scan log) ns) → IdentifiedIn homes ends parcels (scan (log ++ ns))
identified_at homes ends parcels log ns f = subst (IdentifiedIn homes ends parcels) (sym (seen_all-append unread log ns)) f

-- the last packet that was read is not from outside
not_outside : (log ns : List Note) (rs : List Reading) (r : Reading) → (seen_all (scan log) ns).readings ≡ rs ++ r ∷ [] → NothingInjected (log ++ ns) → r.maker ≢ FromOutside
not_outside log ns rs r is nothing =
    nothing (length rs) r (ap (λ (t : Scan). slice_get t.readings (length rs)) (seen_all-append unread log ns) ∙ ap (λ xs. slice_get xs (length rs)) is ∙ get_here rs r)

inside : (homes : List Home) (identities : List Identity) (m : Maker) (p : PacketView) (h : SpxHeader) → m ≢ FromOutside → IsFromOrOutside homes identities m p h → IsFrom homes identities m p h
inside homes identities m p h not_outside' from = elim from [ inl outside ↦ absurd (not_outside' outside) | inr f ↦ f ]

-- the identity of an end that a request makes
accepted_identity : (homes : List Home) (identities : List Identity) (k host : ℕ) (n : Names) (buffers : ℕ) (m : Maker) (p : PacketView) (h : SpxHeader) (g : IsFrom homes identities m p h) (home : Home)
    → slice_get homes host ≡ Some home → n.own < no_id → m ≡ BySystem g.who → n.peer ≡ h.from_id → n.remote ≡ p.header.from → IsRequestFor h
    → IdentityIs homes identities k (record { host = host; names = n; role = record { buffers = buffers; called = false; joined = true; partner = asker m } })
accepted_identity homes identities k host n buffers m p h g home home_is below by peer remote request =
    record {
      home = (home, home_is);
      range = below;
      idle = λ e. absurd (cc e);
      nobody = λ e. absurd (cc e);
      partner = λ e. (
        omega (arith, peer, request.below),
        record {
          other = g.who;
          identity = g.identity;
          home = g.home;
          at = g.at;
          home_is = g.home_is;
          partner = ap asker by;
          peer = peer ∙ g.own;
          remote = remote ∙ g.from;
          called = λ e. absurd (cc e);
          accepted = λ e. g.asks request.to;
        },
      );
    }

-- the identity of an end that joins
joined_identity : (homes : List Home) (identities : List Identity) (k : ℕ) (x : Identity) (n : Names) (m : Maker) (p : PacketView) (h : SpxHeader) (g : IsFrom homes identities m p h)
    → IdentityIs homes identities k x → x.role.called ≡ true → n.own ≡ x.names.own → n.peer ≡ h.from_id → h.from_id < no_id → n.remote ≡ p.header.from → m ≡ BySystem g.who
    → g.identity.role.called ≡ false → g.identity.role.joined ≡ true → g.identity.role.partner ≡ Some k
    → IdentityIs homes identities k (record { host = x.host; names = n; role = record x.role { joined = true; partner = asker m } })
joined_identity homes identities k x n m p h g identity called own peer below remote by callee joined' partner =
    record {
      home = identity.home;
      range = omega (arith, own, identity.range);
      idle = λ e. absurd (cc e);
      nobody = λ e. absurd (cc e);
      partner = λ e. (
        omega (arith, peer, below),
        record {
          other = g.who;
          identity = g.identity;
          home = g.home;
          at = g.at;
          home_is = g.home_is;
          partner = ap asker by;
          peer = peer ∙ g.own;
          remote = remote ∙ g.from;
          called = λ c. (callee, joined', partner);
          accepted = λ c. absurd (cc (sym called ∙ c));
        },
      );
    }

callee_is : (b : Bool) (x y : Identity) → y.role.called ≡ b → x.role.called ≡ true → (y.role.called ≡ true → x.role.called ≡ false) → y.role.called ≡ false
callee_is true x y is called not = absurd (cc (sym called ∙ not is))
callee_is false x y is called not = is

module _ (laws : LawsBelow) (homes : List Home) (networks : HaveNetworks homes) where
  not_joined : (s : Scene) → FactsAt s → (f : IdentifiedAt homes s) → (who : ℕ) (e : PresentEnd) (l : LinkView) → IsPresent s who e l → (c : IdentityOf f.identities (scan s.log).roles who e l) → l.state ≡ Opening → c.identity.role.joined ≡ false
  not_joined s facts f who e l stands c opens = facts.opening who e l c.identity.role stands.there stands.link opens c.role

  pub opening_called : (s : Scene) → FactsAt s → (f : IdentifiedAt homes s) → (who : ℕ) (e : PresentEnd) (l : LinkView) → IsPresent s who e l → (c : IdentityOf f.identities (scan s.log).roles who e l) → l.state ≡ Opening → c.identity.role.called ≡ true
  opening_called s facts f who e l stands c opens = ((f.are who c.identity c.at).idle (not_joined s facts f who e l stands c opens)).0

  -- ---- a request is accepted
  pub accepts : (s s' : Scene) (host id : ℕ) (socket : Socket) (parcel buffers now : ℕ) → s.homes ≡ homes → DoesAccept host id socket parcel buffers now s s' → FactsAt s → NothingInjected s'.log → IdentifiedAt homes s → IdentifiedAt homes s'
  accepts s s' host id socket parcel buffers now same does facts nothing f =
      let m : Maker = (mark_of (scan s.log) parcel).maker in
      let ns : List Note = Accepted (length s.ends) parcel buffers ∷ Got (length s.ends) parcel ∷ [] in
      let r : Reading = record {
        who = length s.ends;
        maker = m;
        from = (mark_of (scan s.log) parcel).units;
        to = length (scan s.log).sent;
        first = is_now (Some (length s.ends)) (length s.ends);
      } in
      let log : s'.log ≡ s.log ++ ns = ap (λ (z : Scene). z.log) does.after in
      let out : m ≢ FromOutside = not_outside s.log ns (scan s.log).readings r refl (subst NothingInjected log nothing) in
      let g : IsFrom homes f.identities m does.packet does.header =
      inside homes f.identities m does.packet does.header out (f.from parcel does.bytes does.comes does.packet does.header does.body does.reads) in
      let by : m ≡ BySystem g.who = g.system does.request.system in
      let l : LinkView = accepted_from id socket does.packet.header.from does.header buffers now in
      let e : PresentEnd = record { host = host; own = id; link = Some l; rest = None; overlong = false } in
      let role : Role = record { buffers = buffers; called = false; joined = true; partner = asker m } in
      let home : slice_get homes host ≡ Some does.there.0 = ap (λ hs. slice_get hs host) (sym same) ∙ does.there.1 in
      let identity : IdentityIs homes f.identities (length s.ends) (record { host = host; names = names l; role = role }) =
      accepted_identity homes f.identities (length s.ends) host (names l) buffers m does.packet does.header g does.there.0 home does.below by refl refl does.request in
      let come = identified_new homes s.ends s.parcels (scan s.log).marks (scan s.log).roles (scan s.log).readings f e l role facts.roles refl refl identity in
      subst (IdentifiedAt homes) (sym does.after)
      (identified_at homes (s.ends ++ e ∷ []) s.parcels s.log ns
      (identified_first homes (s.ends ++ e ∷ []) s.parcels (scan s.log).marks ((scan s.log).roles ++ role ∷ []) (scan s.log).readings come r (eqb_same (length s.ends))))

  -- ---- a packet is read
  module _ (s s' : Scene) (who parcel : ℕ) (same : s.homes ≡ homes) (does : DoesRead who parcel s s') (facts : FactsAt s) (nothing : NothingInjected s'.log) (f : IdentifiedAt homes s) (one : OneEnd homes f.identities) where
    abbrev maker_now : Maker
    maker_now = (mark_of (scan s.log) parcel).maker

    abbrev link_now : LinkView
    link_now = (receive_link does.link does.header does.body).1

    abbrev ends_now : List PresentEnd
    ends_now = set s.ends who (linked does.stand link_now)

    abbrev reading_of : Bool → Reading
    reading_of first = record { who = who; maker = maker_now; from = (mark_of (scan s.log) parcel).units; to = length (scan s.log).sent; first = first }

    reader : IdentityOf f.identities (scan s.log).roles who does.stand does.link
    reader = identity_of homes s.ends s.parcels (scan s.log).marks (scan s.log).roles (scan s.log).readings f who does.stand does.link does.stands.there does.stands.link

    letter : (ns : List Note) (first : Bool) → (seen_all (scan s.log) ns).readings ≡ (scan s.log).readings ++ reading_of first ∷ []
        → notes_of (receive_link does.link does.header does.body).0 who parcel ≡ ns → IsFrom homes f.identities maker_now does.packet does.header
    letter ns first is notes =
        let log : s'.log ≡ s.log ++ ns = ap (λ (z : Scene). z.log) does.after ∙ ap (λ (xs : List Note). s.log ++ xs) notes in
        let out : maker_now ≢ FromOutside = not_outside s.log ns (scan s.log).readings (reading_of first) is (subst NothingInjected log nothing) in
        inside homes f.identities maker_now does.packet does.header out (f.from parcel does.bytes does.comes does.packet does.header does.body does.reads)

    comes_to : (c : IdentityOf f.identities (scan s.log).roles who does.stand does.link) (h : Home) → slice_get homes c.identity.host ≡ Some h → does.header.to_id ≡ does.link.own → ComesTo h c.identity.names does.packet does.header
    comes_to c h home to =
        let for : IsFor h does.link.local does.link.remote does.packet = does.home h (ap (λ hs. slice_get hs does.stand.host) same ∙ ap (slice_get homes) (sym c.host) ∙ home) in
        record {
          to_network = for.to_network;
          to_node = for.to_node;
          from = for.from_address ∙ ap (λ (n : Names). n.remote) (sym c.named);
          to = to ∙ ap (λ (n : Names). n.own) (sym c.named);
        }

    got : (first : Bool) → (receive_link does.link does.header does.body).0 ≢ Rs.Joined → IsFrom homes f.identities maker_now does.packet does.header
        → Identified homes ends_now s.parcels (scan s.log).marks (scan s.log).roles ((scan s.log).readings ++ reading_of first ∷ [])
    got first not g =
        let c : IdentityOf f.identities (scan s.log).roles who does.stand does.link = reader in
        let n = (laws.names.reads does.link does.header does.body).reads not does.read in
        let identity : IdentityIs homes f.identities who c.identity = f.are who c.identity c.at in
        let told : IsAdvertised f.identities (reading_of first) =
        told_by homes networks f.identities f.are one who c.identity identity.home.0 (reading_of first) does.packet does.header c.at identity.home.1
        (comes_to c identity.home.0 identity.home.1 n.0.to) (n.0.from ∙ ap (λ (x : Names). x.peer) (sym c.named)) refl g in
        let k : Identified homes s.ends s.parcels (scan s.log).marks (scan s.log).roles ((scan s.log).readings ++ reading_of first ∷ []) =
        identified_got homes s.ends s.parcels (scan s.log).marks (scan s.log).roles (scan s.log).readings f (reading_of first) (λ e. told) in
        identified_put homes s.ends s.parcels (scan s.log).marks (scan s.log).roles ((scan s.log).readings ++ reading_of first ∷ []) k who does.stand (linked does.stand link_now) does.link link_now
        does.stands.there does.stands.link refl refl refl n.1

    -- ---- which joins
    joined : (receive_link does.link does.header does.body).0 ≡ Rs.Joined → IsFrom homes f.identities maker_now does.packet does.header
        → Identified homes ends_now s.parcels (scan s.log).marks (set (scan s.log).roles who (joined_by maker_now (role_of (scan s.log) who))) ((scan s.log).readings ++ reading_of (who == who) ∷ [])
    joined is g =
        let c : IdentityOf f.identities (scan s.log).roles who does.stand does.link = reader in
        let n = (laws.names.reads does.link does.header does.body).joins is in
        let identity : IdentityIs homes f.identities who c.identity = f.are who c.identity c.at in
        let unjoined : c.identity.role.joined ≡ false = not_joined s facts f who does.stand does.link does.stands c (laws.states.joins does.link does.header does.body is) in
        let called : c.identity.role.called ≡ true = (identity.idle unjoined).0 in
        let a = answers homes networks f.identities f.are one who c.identity identity.home.0 maker_now does.packet does.header c.at identity.home.1 (comes_to c identity.home.0 identity.home.1 n.0.to) g in
        let by : maker_now ≡ BySystem g.who = g.system n.0.system in
        let role : Role = record c.identity.role { joined = true; partner = asker maker_now } in
        let y : Identity = record { host = c.identity.host; names = names link_now; role = role } in
        let same_role : joined_by maker_now (role_of (scan s.log) who) ≡ role =
        ap (joined_by maker_now) (read_there (scan s.log).roles who c.identity.role no_role c.role) ∙ cond-false c.identity.role.joined c.identity.role role unjoined in
        let changed : IdentityLater c.identity y = record {
          host = refl;
          own = ap (λ (x : Names). x.own) n.1 ∙ ap (λ (x : Names). x.own) (sym c.named);
          local = ap (λ (x : Names). x.local) n.1 ∙ ap (λ (x : Names). x.local) (sym c.named);
          remote = ap (λ (x : Names). x.remote) n.1 ∙ ap (λ (x : Names). x.remote) (sym c.named);
          called = refl;
          settled = λ e. absurd (cc (sym unjoined ∙ e));
        } in
        let peer : link_now.peer ≡ does.header.from_id = ap (λ (x : Names). x.peer) n.1 in
        let comes : ComesTo identity.home.0 c.identity.names does.packet does.header = comes_to c identity.home.0 identity.home.1 n.0.to in
        let callee : g.identity.role.called ≡ false = callee_is g.identity.role.called c.identity g.identity refl called a.called in
        let new : IdentityIs homes f.identities who y =
        joined_identity homes f.identities who c.identity (names link_now) maker_now does.packet does.header g identity called changed.own peer n.0.from (changed.remote ∙ sym comes.from) by callee a.joined a.partner in
        let after : Identified homes ends_now s.parcels (scan s.log).marks (set (scan s.log).roles who role) (scan s.log).readings =
        identified_joined homes s.ends s.parcels (scan s.log).marks (scan s.log).roles (scan s.log).readings f who does.stand (linked does.stand link_now) c.identity y link_now
        does.stands.there refl c.at (sym c.host) (changed.own ∙ c.own) refl changed new in
        subst (λ r. Identified homes ends_now s.parcels (scan s.log).marks (set (scan s.log).roles who r) ((scan s.log).readings ++ reading_of (who == who) ∷ [])) (sym same_role)
        (identified_first homes ends_now s.parcels (scan s.log).marks (set (scan s.log).roles who role) (scan s.log).readings after (reading_of (who == who)) (eqb_same who))

    pub reads : IdentifiedAt homes s'
    reads =
        subst (IdentifiedAt homes) (sym does.after)
        (elim (notes_cases (receive_link does.link does.header does.body).0 who parcel does.read) [
          | inl joins ↦ subst (λ ns. IdentifiedIn homes ends_now s.parcels (scan (s.log ++ ns))) (sym joins.1)
              (identified_at homes ends_now s.parcels s.log (Joined who parcel ∷ Got who parcel ∷ [])
              (joined joins.0 (letter (Joined who parcel ∷ Got who parcel ∷ []) (who == who) refl joins.1)))
          | inr gets ↦ subst (λ ns. IdentifiedIn homes ends_now s.parcels (scan (s.log ++ ns))) (sym gets.1)
              (identified_at homes ends_now s.parcels s.log (Got who parcel ∷ [])
              (got (is_now (scan s.log).newest who) gets.0 (letter (Got who parcel ∷ []) (is_now (scan s.log).newest who) refl gets.1)))
        ])
