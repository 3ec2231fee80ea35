-- If addresses differ, and nothing is released or injected, each end reads only its own peer.
use Rattle.std.proofs.Common.{◌≡◌, ℕ, Bool, true, false, List, [], ◌++◌, Some, refl, sym, ◌∙◌, ap, subst, inl, inr}
use Rattle.std.specs.Prelude.{slice_get}
use Rattle.spx_theory.specs.Note.{Note}
use Rattle.spx_theory.specs.Scan.{Role, Scan, Reading, seen_all, scan, unread}
use Rattle.spx_theory.specs.Peers.{ArePeersIn, NothingInjected}
use Rattle.spx_theory.specs.Addresses.{AddressesTellPeers, IdsDiffer, IdsTellPeers}
use Rattle.ipx_wire.specs.declared.address.Address.{Address}
use Rattle.spx_theory.specs.Names.{Names}
use Rattle.spx_theory.specs.Named.{PeersAreThere}
use Rattle.spx_theory.specs.Scene.{Scene, PresentEnd}
use Rattle.spx_theory.specs.EndsSummarized.{StaysAtHost}
use Rattle.spx_messages.specs.WrittenPackets.{Home}
use Rattle.spx_theory.specs.Deeds.{Deed, DoesDeed, Dials, Accepts, Reads, OwesReply, Paces, AsksAgain, Gives, Rests, Sends, Takes, Overruns, Closes, Releases, Carries, Tells, Injects, IsBegun, Reached, begun, happened}
use Rattle.spx_theory.proofs.Lists.{get_before}
use Rattle.spx_theory.proofs.Folding.{seen_all-append}
use Rattle.spx_theory.proofs.PairPremises.{Grew, all_grew}
use Rattle.spx_theory.proofs.Along.{LogGrows, log_grows, facts_along}
use Rattle.spx_theory.proofs.Identities.{Identity, IdentityIs, HasPartner, HaveNetworks, IsAdvertised, OneEnd, address_at, same_home}
use Rattle.spx_theory.proofs.EndsStaying.{ends_stay}
use Rattle.spx_theory.proofs.OwnIds.{ids_differ}
use Rattle.spx_theory.proofs.Identified.{Identified, IdentityOf, identity_of}
use Rattle.spx_theory.proofs.IdentifiedReads.{IdentifiedAt}
use Rattle.spx_theory.proofs.NextIdentified.{next_identified}
use Rattle.spx_theory.specs.Below.{LawsBelow}
use Rattle.spx_theory.proofs.Lists.{same_element}

-- homes do not change
same_homes : (s s' : Scene) (deed : Deed) → DoesDeed deed s s' → s'.homes ≡ s.homes
same_homes s s' (Dials host id socket to buffers now) does = ap (λ (z : Scene). z.homes) does.after
same_homes s s' (Accepts host id socket parcel buffers now) does = ap (λ (z : Scene). z.homes) does.after
same_homes s s' (Reads who parcel) does = ap (λ (z : Scene). z.homes) does.after
same_homes s s' (OwesReply who) does = ap (λ (z : Scene). z.homes) does.after
same_homes s s' (Paces who window manual) does = ap (λ (z : Scene). z.homes) does.after
same_homes s s' (AsksAgain who place) does = ap (λ (z : Scene). z.homes) does.after
same_homes s s' (Gives who now segment bytes) does = ap (λ (z : Scene). z.homes) does.after
same_homes s s' (Rests who now) does = ap (λ (z : Scene). z.homes) does.after
same_homes s s' (Sends who m) does = ap (λ (z : Scene). z.homes) does.after
same_homes s s' (Takes who u) does = ap (λ (z : Scene). z.homes) does.after
same_homes s s' (Overruns who u) does = ap (λ (z : Scene). z.homes) does.after
same_homes s s' (Closes who) does = ap (λ (z : Scene). z.homes) does.after
same_homes s s' (Releases who) does = ap (λ (z : Scene). z.homes) does.after
same_homes s s' (Carries from network segment bytes) does = ap (λ (z : Scene). z.homes) does.after
same_homes s s' (Tells router segment bytes) does = ap (λ (z : Scene). z.homes) does.after
same_homes s s' (Injects segment bytes) does = ap (λ (z : Scene). z.homes) does

-- no host's network is 0
pub have_networks : {s : Scene} → Reached s → HaveNetworks s.homes
have_networks {s} (begun is) = is.homes
have_networks {s} (happened old deed reached does) = subst HaveNetworks (sym (same_homes old s deed does)) (have_networks reached)

-- a premise of a log holds for every earlier log
injected_before : (log more : List Note) → NothingInjected (log ++ more) → NothingInjected log
injected_before log more none k r at =
    let g : Grew (scan log) (seen_all (scan log) more) = all_grew (scan log) more in
    none k r (ap (λ (t : Scan). slice_get t.readings k) (seen_all-append unread log more) ∙ ap (λ xs. slice_get xs k) g.readings_is ∙ get_before (scan log).readings g.readings r k at)

known_begun : (s : Scene) → IsBegun s → IdentifiedAt s.homes s
known_begun s is =
    subst (λ es. Identified s.homes es s.parcels (scan s.log).marks (scan s.log).roles (scan s.log).readings) (sym is.ends)
    (subst (λ ps. Identified s.homes [] ps (scan s.log).marks (scan s.log).roles (scan s.log).readings) (sym is.parcels)
    (subst (λ log. Identified s.homes [] [] (scan log).marks (scan log).roles (scan log).readings) (sym is.log)
    (record {
      identities = [];
      count = refl;
      shows = λ k c at. absurd (cc at);
      are = λ k c at. absurd (cc at);
      from = λ k bytes at. absurd (cc at);
      told = λ k r at. absurd (cc at);
    })))

-- if ids differ after a deed, they differ before it
ids_before : (old s : Scene) (deed : Deed) → DoesDeed deed old s → IdsDiffer s → IdsDiffer old
ids_before old s deed does differ j k e f h at at' here here' own =
    let a : (x : PresentEnd) × (slice_get s.ends j ≡ Some x) × StaysAtHost e x = ends_stay old s deed does j e at in
    let b : (x : PresentEnd) × (slice_get s.ends k ≡ Some x) × StaysAtHost f x = ends_stay old s deed does k f at' in
    let homes : s.homes ≡ old.homes = same_homes old s deed does in
    differ j k a.0 b.0 h a.1 b.1 (ap (slice_get s.homes) a.2.host ∙ ap (λ hs. slice_get hs e.host) homes ∙ here) (ap (slice_get s.homes) b.2.host ∙ ap (λ hs. slice_get hs f.host) homes ∙ here')
    (a.2.own ∙ own ∙ sym b.2.own)

-- so an address and an id are one identity
one_end : (homes : List Home) (s : Scene) → s.homes ≡ homes → (f : IdentifiedAt homes s) → IdsDiffer s → OneEnd homes f.identities
one_end homes s same f differ j k x y g h at at' here here' network node own =
    let a = f.shows j x at in
    let b = f.shows k y at' in
    differ j k a.stand b.stand h a.there b.there
    (ap (λ hs. slice_get hs a.stand.host) same ∙ ap (slice_get homes) (sym a.host) ∙ here ∙ ap Some (same_home g h network node))
    (ap (λ hs. slice_get hs b.stand.host) same ∙ ap (slice_get homes) (sym b.host) ∙ here')
    (sym a.own ∙ own ∙ b.own)

-- in every scene that can be reached
pub identified_along : (laws : LawsBelow) {s : Scene} → Reached s → IdsDiffer s → NothingInjected s.log → IdentifiedAt s.homes s
identified_along laws {s} (begun is) differ nothing = known_begun s is
identified_along laws {s} (happened old deed reached does) differ nothing =
    let g : LogGrows old s = log_grows old s deed does in
    let same : s.homes ≡ old.homes = same_homes old s deed does in
    let was : IdsDiffer old = ids_before old s deed does differ in
    let before : IdentifiedAt s.homes old =
    subst (λ hs. IdentifiedAt hs old) (sym same) (identified_along laws reached was (injected_before old.log g.more (subst NothingInjected g.is nothing))) in
    next_identified laws s.homes (subst HaveNetworks (sym same) (have_networks reached)) old s deed does (sym same) (facts_along laws reached) nothing before (one_end s.homes old (sym same) before was)

-- ---- if a partner has this end as its partner, it is the peer
peers_of : (homes : List Home) (s : Scene) (f : IdentifiedAt homes s) (r : Reading) (t : IsAdvertised f.identities r) (b : Bool) → t.one.role.called ≡ b → ArePeersIn (scan s.log) r.who t.other
peers_of homes s f r t true is =
    let q : HasPartner homes f.identities r.who t.one = ((f.are r.who t.one t.here).partner t.joined).1 in
    let both : Some q.other ≡ Some t.other = sym q.partner ∙ t.partner in
    let other : q.other ≡ t.other = cc both in
    let same : q.identity ≡ t.two = same_element f.identities t.other q.identity t.two (ap (slice_get f.identities) (sym other) ∙ q.at) t.there in
    inl (record {
      caller = t.one.role;
      callee = t.two.role;
      caller_is = (f.shows r.who t.one t.here).role;
      callee_is = (f.shows t.other t.two t.there).role;
      called = is;
      accepted = ap (λ (c : Identity). c.role.called) (sym same) ∙ (q.called is).0;
      answered = t.partner;
      asked = t.back;
    })
peers_of homes s f r t false is =
    let q : HasPartner homes f.identities r.who t.one = ((f.are r.who t.one t.here).partner t.joined).1 in
    let both : Some q.other ≡ Some t.other = sym q.partner ∙ t.partner in
    let other : q.other ≡ t.other = cc both in
    let same : q.identity ≡ t.two = same_element f.identities t.other q.identity t.two (ap (slice_get f.identities) (sym other) ∙ q.at) t.there in
    inr (record {
      caller = t.two.role;
      callee = t.one.role;
      caller_is = (f.shows t.other t.two t.there).role;
      callee_is = (f.shows r.who t.one t.here).role;
      called = ap (λ (c : Identity). c.role.called) (sym same) ∙ q.accepted is;
      accepted = is;
      answered = t.back;
      asked = t.partner;
    })

pub ids_tell_peers : (laws : LawsBelow) (s : Scene) → Reached s → IdsTellPeers s
ids_tell_peers laws s reached differ nothing k r at first =
    let f : IdentifiedAt s.homes s = identified_along laws reached differ nothing in
    let t : IsAdvertised f.identities r = f.told k r at first in
    (t.other, peers_of s.homes s f r t t.one.role.called refl, t.maker)

pub addresses_tell_peers : (laws : LawsBelow) (s : Scene) → Reached s → AddressesTellPeers s
addresses_tell_peers laws s reached differ stay nothing = ids_tell_peers laws s reached (ids_differ laws s reached differ stay) nothing

-- ---- a link goes to the host of its peer

-- an end that has a partner joined, or was made by a request
has_joined : (homes : List Home) (identities : List Identity) (k d : ℕ) (x : Identity) → IdentityIs homes identities k x → x.role.partner ≡ Some d → (b : Bool) → x.role.joined ≡ b → x.role.joined ≡ true
has_joined homes identities k d x is partner true joined = joined
has_joined homes identities k d x is partner false joined = absurd (cc (sym (is.nobody joined) ∙ partner))

pub peers_are_there : (laws : LawsBelow) (s : Scene) → Reached s → PeersAreThere s
peers_are_there laws s reached differ nothing c d peers e f l stands at =
    let t : IdentifiedAt s.homes s = identified_along laws reached differ nothing in
    let own : IdentityOf t.identities (scan s.log).roles c e l = identity_of s.homes s.ends s.parcels (scan s.log).marks (scan s.log).roles (scan s.log).readings t c e l stands.there stands.link in
    let x : Identity = own.identity in
    let is : IdentityIs s.homes t.identities c x = t.are c x own.at in
    let partner : x.role.partner ≡ Some d = elim peers [
      | inl j ↦ ap (λ (r : Role). r.partner) (same_element (scan s.log).roles c x.role j.caller own.role j.caller_is) ∙ j.answered
      | inr j ↦ ap (λ (r : Role). r.partner) (same_element (scan s.log).roles c x.role j.callee own.role j.callee_is) ∙ j.asked
    ] in
    let q : HasPartner s.homes t.identities c x = (is.partner (has_joined s.homes t.identities c d x is partner x.role.joined refl)).1 in
    let both : Some q.other ≡ Some d = sym q.partner ∙ partner in
    let other : q.other ≡ d = cc both in
    let shown = t.shows q.other q.identity q.at in
    let stand : shown.stand ≡ f = same_element s.ends d shown.stand f (ap (slice_get s.ends) (sym other) ∙ shown.there) at in
    let host : q.identity.host ≡ f.host = shown.host ∙ ap (λ (z : PresentEnd). z.host) stand in
    let remote : l.remote ≡ address_at q.home q.identity.names = ap (λ (n : Names). n.remote) (sym own.named) ∙ q.remote in (
      q.home,
      ap (slice_get s.homes) (sym host) ∙ q.home_is,
      record {
        network = ap (λ (a : Address). a.network) remote;
        node = ap (λ (a : Address). a.node) remote;
        peer = ap (λ (n : Names). n.peer) (sym own.named) ∙ q.peer ∙ shown.own ∙ ap (λ (z : PresentEnd). z.own) stand;
      },
    )
