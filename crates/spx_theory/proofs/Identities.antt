-- What identifies each end among all others, and its peer.
use Rattle.std.proofs.Common.{ℕ, ◌≡◌, ◌≢◌, ◌⊎◌, ◌<◌, Bool, true, false, List, [], ◌∷◌, ◌++◌, set, None, Some, refl, sym, ◌∙◌, ap, subst, inl, inr, arith}
use Rattle.std.specs.Prelude.{slice_get}
use Rattle.std.proofs.lemmas.Bool.{cases_eq}
use Rattle.ipx_wire.specs.declared.address.Network.{Network}
use Rattle.ipx_wire.specs.declared.address.Node.{Node}
use Rattle.ipx_wire.specs.declared.address.Socket.{Socket}
use Rattle.ipx_wire.specs.declared.address.Address.{Address}
use Rattle.ipx_wire.specs.declared.spx.packet.SpxHeader.{SpxHeader}
use Rattle.ipx_wire.specs.Ipx.{PacketView}
use Rattle.spx_link.specs.Limits.{no_id}
use Rattle.spx_link.specs.LinkView.{LinkView}
use Rattle.spx_theory.specs.Scan.{Each, Mark, Maker, Role, Reading, BySystem, FromOutside}
use Rattle.spx_theory.specs.Peers.{end_of}
use Rattle.ipx_wire.specs.Connection.{IsConnectionPacket}
use Rattle.spx_theory.specs.Scene.{PresentEnd}
use Rattle.spx_messages.specs.WrittenPackets.{Home}
use Rattle.spx_theory.proofs.Lists.{get_before}
use Rattle.spx_theory.proofs.Held.{set_other, set_here}
use Rattle.spx_theory.proofs.Tied.{mark_at}
use Rattle.spx_theory.specs.Names.{Names, names}
use Rattle.spx_theory.proofs.Lists.{same_element}

pub record Identity : Type 0 where
  pub host : ℕ
  pub names : Names
  pub role : Role

abbrev pub address_at : Home → Names → Address
address_at h n = record { network = h.network; node = h.node; socket = n.local }

-- an end has this identity; until its link is released, it has these names
pub record Shows (ends : List PresentEnd) (roles : List Role) (k : ℕ) (c : Identity) : Type 0 where
  pub stand : PresentEnd
  pub there : slice_get ends k ≡ Some stand
  pub role : slice_get roles k ≡ Some c.role
  pub host : c.host ≡ stand.host
  pub own : c.names.own ≡ stand.own
  pub named : (l : LinkView) → stand.link ≡ Some l → c.names ≡ names l

-- the end that made or joined it, and whose id and address it has
pub record HasPartner (homes : List Home) (identities : List Identity) (k : ℕ) (x : Identity) : Type 0 where
  pub other : ℕ
  pub identity : Identity
  pub home : Home
  pub at : slice_get identities other ≡ Some identity
  pub home_is : slice_get homes identity.host ≡ Some home
  pub partner : x.role.partner ≡ Some other
  pub peer : x.names.peer ≡ identity.names.own
  pub remote : x.names.remote ≡ address_at home identity.names
  pub called : x.role.called ≡ true → (identity.role.called ≡ false) × (identity.role.joined ≡ true) × (identity.role.partner ≡ Some k)
  pub accepted : x.role.called ≡ false → identity.role.called ≡ true

pub record IdentityIs (homes : List Home) (identities : List Identity) (k : ℕ) (x : Identity) : Type 0 where
  pub home : (h : Home) × (slice_get homes x.host ≡ Some h)
  pub range : x.names.own < no_id
  pub idle : x.role.joined ≡ false → (x.role.called ≡ true) × (x.names.peer ≡ no_id)
  pub nobody : x.role.joined ≡ false → x.role.partner ≡ None
  pub partner : x.role.joined ≡ true → (x.names.peer < no_id) × HasPartner homes identities k x

abbrev pub AreIdentities : List Home → List Identity → Type 0
AreIdentities homes identities = (k : ℕ) (x : Identity) → slice_get identities k ≡ Some x → IdentityIs homes identities k x

-- an end made the packet
pub record IsFrom (homes : List Home) (identities : List Identity) (m : Maker) (p : PacketView) (h : SpxHeader) : Type 0 where
  pub who : ℕ
  pub identity : Identity
  pub home : Home
  pub at : slice_get identities who ≡ Some identity
  pub home_is : slice_get homes identity.host ≡ Some home
  pub maker : end_of m ≡ Some who
  pub from : p.header.from ≡ address_at home identity.names
  pub to : p.header.to ≡ identity.names.remote
  pub own : h.from_id ≡ identity.names.own
  pub system : h.system ≡ true → m ≡ BySystem who
  pub asks : h.to_id ≡ no_id → identity.role.called ≡ true
  pub named : h.to_id ≢ no_id → (identity.role.joined ≡ true) × (h.to_id ≡ identity.names.peer)

abbrev pub IsFromOrOutside : List Home → List Identity → Maker → PacketView → SpxHeader → Type 0
IsFromOrOutside homes identities m p h = (m ≡ FromOutside) ⊎ IsFrom homes identities m p h

abbrev pub AreFrom : List Home → List Identity → List (List ℕ) → List Mark → Type 0
AreFrom homes identities parcels marks =
    (k : ℕ) (bytes : List ℕ) → slice_get parcels k ≡ Some bytes → (p : PacketView) (h : SpxHeader) (body : List ℕ) → IsConnectionPacket p h body bytes
    → IsFromOrOutside homes identities (mark_at marks k).maker p h

-- an end read a packet of its partner, which has it as partner
pub record IsAdvertised (identities : List Identity) (r : Reading) : Type 0 where
  pub other : ℕ
  pub one : Identity
  pub two : Identity
  pub here : slice_get identities r.who ≡ Some one
  pub there : slice_get identities other ≡ Some two
  pub joined : one.role.joined ≡ true
  pub joined_too : two.role.joined ≡ true
  pub partner : one.role.partner ≡ Some other
  pub back : two.role.partner ≡ Some r.who
  pub maker : end_of r.maker ≡ Some other

abbrev pub AreAdvertised : List Identity → List Reading → Type 0
AreAdvertised identities readings = Each (λ (r : Reading). r.first ≡ false → IsAdvertised identities r) readings

-- ---- ends are added and join
pub record IdentityLater (x y : Identity) : Type 0 where
  pub host : y.host ≡ x.host
  pub own : y.names.own ≡ x.names.own
  pub local : y.names.local ≡ x.names.local
  pub remote : y.names.remote ≡ x.names.remote
  pub called : y.role.called ≡ x.role.called
  pub settled : x.role.joined ≡ true → y ≡ x

pub identity_same : (x : Identity) → IdentityLater x x
identity_same x = record { host = refl; own = refl; local = refl; remote = refl; called = refl; settled = λ e. refl }

abbrev pub IdentitiesLater : List Identity → List Identity → Type 0
IdentitiesLater old new = (k : ℕ) (x : Identity) → slice_get old k ≡ Some x → (y : Identity) × (slice_get new k ≡ Some y) × IdentityLater x y

pub identity_comes : (identities : List Identity) (c : Identity) → IdentitiesLater identities (identities ++ c ∷ [])
identity_comes identities c k x at = (x, get_before identities (c ∷ []) x k at, identity_same x)

pub identity_joins : (identities : List Identity) (who : ℕ) (x y : Identity) → slice_get identities who ≡ Some x → IdentityLater x y → IdentitiesLater identities (set identities who y)
identity_joins identities who x y here later k z at =
    elim (cases_eq who k) [
      | inl same ↦
          let both : Some x ≡ Some z = sym here ∙ ap (slice_get identities) same ∙ at in
          let is : x ≡ z = cc both in
          (y, ap (slice_get (set identities who y)) (sym same) ∙ set_here identities who y x here, subst (λ w. IdentityLater w y) is later)
      | inr ne ↦ (z, set_other identities who k y z ne at, identity_same z)
    ]

settled_role : (x y : Identity) → IdentityLater x y → x.role.joined ≡ true → y.role ≡ x.role
settled_role x y later is = ap (λ (c : Identity). c.role) (later.settled is)

from_later : (homes : List Home) (old new : List Identity) → IdentitiesLater old new → (m : Maker) (p : PacketView) (h : SpxHeader) → IsFrom homes old m p h → IsFrom homes new m p h
from_later homes old new later m p h f =
    let n = later f.who f.identity f.at in
    let c : IdentityLater f.identity n.0 = n.2 in
    record {
      who = f.who;
      identity = n.0;
      home = f.home;
      at = n.1;
      home_is = ap (slice_get homes) c.host ∙ f.home_is;
      maker = f.maker;
      from = f.from ∙ ap (λ (s : Socket). record { network = f.home.network; node = f.home.node; socket = s }) (sym c.local);
      to = f.to ∙ sym c.remote;
      own = f.own ∙ sym c.own;
      system = f.system;
      asks = λ e. c.called ∙ f.asks e;
      named = λ e. let was = f.named e in (ap (λ (z : Identity). z.role.joined) (c.settled was.0) ∙ was.0, was.1 ∙ ap (λ (z : Identity). z.names.peer) (sym (c.settled was.0)));
    }

pub are_from_later : (homes : List Home) (old new : List Identity) (parcels : List (List ℕ)) (marks : List Mark) → IdentitiesLater old new → AreFrom homes old parcels marks → AreFrom homes new parcels marks
are_from_later homes old new parcels marks later from k bytes at p h body reads =
    elim (from k bytes at p h body reads) [ inl outside ↦ inl outside | inr f ↦ inr (from_later homes old new later (mark_at marks k).maker p h f) ]

pub are_told_later : (old new : List Identity) (readings : List Reading) → IdentitiesLater old new → AreAdvertised old readings → AreAdvertised new readings
are_told_later old new readings later told k r at first =
    let t = told k r at first in
    let a = later r.who t.one t.here in
    let b = later t.other t.two t.there in
    let one : a.0 ≡ t.one = a.2.settled t.joined in
    let two : b.0 ≡ t.two = b.2.settled t.joined_too in
    record {
      other = t.other;
      one = t.one;
      two = t.two;
      here = a.1 ∙ ap Some one;
      there = b.1 ∙ ap Some two;
      joined = t.joined;
      joined_too = t.joined_too;
      partner = t.partner;
      back = t.back;
      maker = t.maker;
    }

partner_later : (homes : List Home) (old new : List Identity) → IdentitiesLater old new → (k : ℕ) (x : Identity) → HasPartner homes old k x → HasPartner homes new k x
partner_later homes old new later k x p =
    let n = later p.other p.identity p.at in
    let c : IdentityLater p.identity n.0 = n.2 in
    record {
      other = p.other;
      identity = n.0;
      home = p.home;
      at = n.1;
      home_is = ap (slice_get homes) c.host ∙ p.home_is;
      partner = p.partner;
      peer = p.peer ∙ sym c.own;
      remote = p.remote ∙ ap (λ (s : Socket). record { network = p.home.network; node = p.home.node; socket = s }) (sym c.local);
      called = λ e. let was = p.called e in let same = settled_role p.identity n.0 c was.1 in
          (c.called ∙ was.0, ap (λ (r : Role). r.joined) same ∙ was.1, ap (λ (r : Role). r.partner) same ∙ was.2);
      accepted = λ e. c.called ∙ p.accepted e;
    }

pub identity_is_later : (homes : List Home) (old new : List Identity) → IdentitiesLater old new → (k : ℕ) (x : Identity) → IdentityIs homes old k x → IdentityIs homes new k x
identity_is_later homes old new later k x c =
    record { home = c.home; range = c.range; idle = c.idle; nobody = c.nobody; partner = λ e. let p = c.partner e in (p.0, partner_later homes old new later k x p.1) }

-- ---- an address and an id identify one end
abbrev pub OneEnd : List Home → List Identity → Type 0
OneEnd homes identities = (j k : ℕ) (x y : Identity) (g h : Home) → slice_get identities j ≡ Some x → slice_get identities k ≡ Some y → slice_get homes x.host ≡ Some g → slice_get homes y.host ≡ Some h
    → g.network ≡ h.network → g.node ≡ h.node → x.names.own ≡ y.names.own → j ≡ k

abbrev pub HaveNetworks : List Home → Type 0
HaveNetworks homes = (k : ℕ) (h : Home) → slice_get homes k ≡ Some h → h.network.0 ≢ 0

pub same_home : (x y : Home) → x.network ≡ y.network → x.node ≡ y.node → x ≡ y
same_home x y network node = ap (λ (n : Network). record { network = n; node = x.node }) network ∙ ap (λ (n : Node). record { network = y.network; node = n }) node

-- what a packet must have to be read by a joined end
pub record ComesTo (home : Home) (n : Names) (p : PacketView) (h : SpxHeader) : Type 0 where
  pub to_network : (p.header.to.network ≡ home.network) ⊎ (p.header.to.network.0 ≡ 0)
  pub to_node : p.header.to.node ≡ home.node
  pub from : p.header.from ≡ n.remote
  pub to : h.to_id ≡ n.own

module _ (homes : List Home) (networks : HaveNetworks homes) (identities : List Identity) (are : AreIdentities homes identities) (same_end : OneEnd homes identities) where
  -- the end that sends to an id other than FFFF is joined, and its partner is the end that reads
  pub record Answers (who : ℕ) (x : Identity) (m : Maker) (f : ℕ) (y : Identity) : Type 0 where
    pub at : slice_get identities f ≡ Some y
    pub joined : y.role.joined ≡ true
    pub partner : y.role.partner ≡ Some who
    pub maker : end_of m ≡ Some f
    pub called : y.role.called ≡ true → x.role.called ≡ false
    pub accepted : y.role.called ≡ false → x.role.called ≡ true

  pub answers : (who : ℕ) (x : Identity) (home : Home) (m : Maker) (p : PacketView) (h : SpxHeader) → slice_get identities who ≡ Some x → slice_get homes x.host ≡ Some home
      → ComesTo home x.names p h → (f : IsFrom homes identities m p h) → Answers who x m f.who f.identity
  answers who x home m p h at home_is comes f =
      let named = f.named (λ e. absurd (omega (arith, e, comes.to, (are who x at).range))) in
      let q : HasPartner homes identities f.who f.identity = ((are f.who f.identity f.at).partner named.0).1 in
      let to : p.header.to ≡ address_at q.home q.identity.names = f.to ∙ q.remote in
      let far : p.header.to.network ≡ q.home.network = ap (λ (a : Address). a.network) to in
      let node : q.home.node ≡ home.node = sym (ap (λ (a : Address). a.node) to) ∙ comes.to_node in
      let network : q.home.network ≡ home.network =
      elim comes.to_network [ inl is ↦ sym far ∙ is | inr none ↦ absurd (networks q.identity.host q.home q.home_is (sym (ap (λ (n : Network). n.0) far) ∙ none)) ] in
      let own : q.identity.names.own ≡ x.names.own = sym q.peer ∙ sym named.1 ∙ comes.to in
      let same : q.other ≡ who = same_end q.other who q.identity x q.home home q.at at q.home_is home_is network node own in
      let is : q.identity ≡ x = same_element identities who q.identity x (ap (slice_get identities) (sym same) ∙ q.at) at in
      record {
        at = f.at;
        joined = named.0;
        partner = q.partner ∙ ap Some same;
        maker = f.maker;
        called = λ e. ap (λ (c : Identity). c.role.called) (sym is) ∙ (q.called e).0;
        accepted = λ e. ap (λ (c : Identity). c.role.called) (sym is) ∙ q.accepted e;
      }

  -- a joined end reads only its partner's packets
  pub told_by : (who : ℕ) (x : Identity) (home : Home) (r : Reading) (p : PacketView) (h : SpxHeader) → slice_get identities who ≡ Some x → slice_get homes x.host ≡ Some home
      → ComesTo home x.names p h → h.from_id ≡ x.names.peer → r.who ≡ who → IsFrom homes identities r.maker p h → IsAdvertised identities r
  told_by who x home r p h at home_is comes peer whose f =
      let a = answers who x home r.maker p h at home_is comes f in
      let from_id : f.identity.names.own ≡ x.names.peer = sym f.own ∙ peer in
      let joined : x.role.joined ≡ true = joins x.role.joined (are who x at) refl (omega (arith, from_id, (are f.who f.identity f.at).range)) in
      let q : HasPartner homes identities who x = ((are who x at).partner joined).1 in
      let there : address_at q.home q.identity.names ≡ address_at f.home f.identity.names = sym q.remote ∙ sym comes.from ∙ f.from in
      let same : q.other ≡ f.who =
      same_end q.other f.who q.identity f.identity q.home f.home q.at f.at q.home_is f.home_is (ap (λ (z : Address). z.network) there) (ap (λ (z : Address). z.node) there) (sym q.peer ∙ sym from_id) in
      record {
        other = f.who;
        one = x;
        two = f.identity;
        here = ap (slice_get identities) whose ∙ at;
        there = f.at;
        joined = joined;
        joined_too = a.joined;
        partner = q.partner ∙ ap Some same;
        back = a.partner ∙ ap Some (sym whose);
        maker = f.maker;
      }
    where
      joins : (b : Bool) → IdentityIs homes identities who x → x.role.joined ≡ b → x.names.peer < no_id → x.role.joined ≡ true
      joins true c is below = is
      joins false c is below = absurd (omega (arith, (c.idle is).1, below))
