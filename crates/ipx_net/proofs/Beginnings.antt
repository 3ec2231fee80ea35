-- Hosts and routers that are made one after another, and the network that starts with them.
use Rattle.std.proofs.Common.{ℕ, zero, suc, ◌≡◌, ◌<◌, ◌≤◌, ◌+◌, ◌==◌, ◌∷◌, ◌++◌, Bool, true, false, cond, IfSome, arith, List, [], length, map, take, drop, get_or, All, Option, Some, None, sym, ◌∙◌, ap, subst}
use Rattle.std.specs.Prelude.{Vec, slice_get}
use Rattle.std.specs.Global.{Global}
use Rattle.std.specs.List.{AllZip, cons_option}
use Rattle.std.proofs.lemmas.List.{map-id, take-append-drop, take_more}
use Rattle.std.proofs.lemmas.List.Elements.{filter_map-append}
use Rattle.ipx_wire.specs.declared.address.Network.{Network}
use Rattle.ipx_wire.specs.declared.address.Socket.{Socket}
use Rattle.spx_link.specs.Limits.{most_units}
use Rattle.spx_theory.specs.Deeds.{Reached}
use Rattle.ipx_net_hosts.specs.HostBeginnings.{AddsHost, listens_at}
use Rattle.ipx_net_hosts.specs.Hosts.{HostsView, world_of}
use Rattle.ipx_router.specs.NewRouter.{ports_fault}
use Rattle.ipx_router.specs.declared.fault.NewFault.{NewFault}
use Rattle.ipx_router.specs.declared.port.Port.{Port}
use Rattle.spx_theory.specs.Reach.{CameTo, HasNoLinks, IsNewWorld}
use Rattle.spx_theory.specs.World.{InOrder, HostState, World, scene_of}
use Rattle.ipx_net.specs.IndexedLogView.{IndexedLogView, blank}
use Rattle.ipx_net.specs.NetReach.{GoesOn}
use Rattle.ipx_net.specs.NetBeginnings.{AreHosts, AreRouters, IsHostOwed, IsStationOf, IsRouterOf, PortLists, first_refusal, router_faults}
use Rattle.ipx_net.specs.declared.host.Host.{Host}
use Rattle.ipx_net.specs.declared.routers.RouterNow.{RouterNow}

zip_more : {A B : Type 0} (R : A → B → Type 0) (xs : List A) (ys : List B) (x : A) (y : B) → AllZip R xs ys → R x y → AllZip R (xs ++ x ∷ []) (ys ++ y ∷ [])
zip_more R [] [] x y are r = (r, tt)
zip_more R [] (b ∷ ys) x y are r = absurd are
zip_more R (a ∷ xs) [] x y are r = absurd are
zip_more R (a ∷ xs) (b ∷ ys) x y are r = (are.0, zip_more R xs ys x y are.1 r)

-- one more host after the others
pub one_more_host : (hosts : List Host) (i : ℕ) (d : Host) (old new : List HostState) → i < length hosts → AreHosts (take i hosts) old
    → AddsHost old new (get_or hosts i d).network (get_or hosts i d).node (get_or hosts i d).router (get_or hosts i d).listen → AreHosts (take (i + 1) hosts) new
one_more_host hosts i d old new within are adds =
    let h : Host = get_or hosts i d in
    subst (λ (hs : List Host). AreHosts hs new) (sym (take_more hosts i d within))
    (subst (AreHosts (take i hosts ++ h ∷ [])) (sym adds.stations)
    (zip_more IsStationOf (take i hosts) old h adds.station are adds.begins))

-- one more router that is not refused
pub sound_more : (ps : PortLists) (p : Vec Port Global) → router_faults ps ≡ [] → ports_fault p.items ≡ None → router_faults (ps ++ p ∷ []) ≡ []
sound_more ps p sound none =
    filter_map-append (λ (q : Vec Port Global). ports_fault q.items) ps (p ∷ [])
    ∙ ap (λ (fs : List NewFault). fs ++ router_faults (p ∷ [])) sound
    ∙ ap (λ (o : Option NewFault). cons_option o []) none

pub more_routers : (ps : PortLists) (p : Vec Port Global) (old new : List RouterNow) (r : RouterNow) → AreRouters ps old → IsRouterOf p r → new ≡ old ++ r ∷ [] → AreRouters (ps ++ p ∷ []) new
more_routers ps p old new r are is grown = subst (AreRouters (ps ++ p ∷ [])) (sym grown) (zip_more IsRouterOf ps old p r are is)

-- the first router that is refused, if those before it are not
pub refused_at : (all ps : PortLists) (p : Vec Port Global) (f : NewFault) → map (λ x. x) ps ≡ take (length ps) all
    → (length ps < length all) × (p ≡ get_or all (length ps) p) → router_faults ps ≡ [] → ports_fault p.items ≡ Some f → first_refusal all ≡ Some f
refused_at all ps p f so_far there sound fault =
    let n : ℕ = length ps in
    let first : take (n + 1) all ≡ ps ++ p ∷ [] =
    take_more all n p there.0 ∙ ap (λ (x : Vec Port Global). take n all ++ x ∷ []) (sym there.1)
    ∙ ap (λ (xs : PortLists). xs ++ p ∷ []) (sym so_far ∙ map-id ps) in
    let faults : router_faults (ps ++ p ∷ []) ≡ f ∷ [] =
    filter_map-append (λ (q : Vec Port Global). ports_fault q.items) ps (p ∷ [])
    ∙ ap (λ (fs : List NewFault). fs ++ router_faults (p ∷ [])) sound
    ∙ ap (λ (o : Option NewFault). cons_option o []) fault in
    let whole : router_faults all ≡ f ∷ router_faults (drop (n + 1) all) =
    ap router_faults (sym (take-append-drop (n + 1) all))
    ∙ filter_map-append (λ (q : Vec Port Global). ports_fault q.items) (take (n + 1) all) (drop (n + 1) all)
    ∙ ap (λ (xs : PortLists). router_faults xs ++ router_faults (drop (n + 1) all)) first
    ∙ ap (λ (fs : List NewFault). fs ++ router_faults (drop (n + 1) all)) faults in
    ap (λ (fs : List NewFault). slice_get fs 0) whole

-- ---- a network of hosts that were just made goes on

given_if : (b : Bool) (x y : ℕ) → cond b (Some x) None ≡ Some y → x ≡ y
given_if true x y is = cc is
given_if false x y is = absurd (cc is)

in_range : (listen : Option (Socket × ℕ)) (socket : Socket) (buffers : ℕ) → IfSome listen (λ l. (0 < l.1) × (l.1 ≤ most_units))
    → listens_at listen socket ≡ Some buffers → (0 < buffers) × (buffers ≤ most_units)
in_range None socket buffers range is = absurd (cc is)
in_range (Some l) socket buffers range is = subst (λ (n : ℕ). (0 < n) × (n ≤ most_units)) (given_if (l.0.0 == socket.0) l.1 buffers is) range

fresh : (h : Host) (s : HostState) → IsHostOwed h → IsStationOf h s → HasNoLinks s
fresh h s owed is =
    record {
      network = λ zero'. owed.not_local (ap (λ (n : Network). n.0) (sym is.network_is) ∙ zero');
      none = is.none;
      here = is.here;
      range = λ socket buffers at. in_range h.listen socket buffers owed.range (sym (is.buffers socket) ∙ at);
    }

all_fresh : (hosts : List Host) (stations : List HostState) → All IsHostOwed hosts → AreHosts hosts stations → (k : ℕ) (s : HostState) → slice_get stations k ≡ Some s → HasNoLinks s
all_fresh [] [] owed are zero s at = absurd (cc at)
all_fresh [] [] owed are (suc k) s at = absurd (cc at)
all_fresh [] (t ∷ ts) owed are k s at = absurd are
all_fresh (h ∷ hs) [] owed are k s at = absurd are
all_fresh (h ∷ hs) (t ∷ ts) owed are zero s at = subst HasNoLinks (cc at) (fresh h t (owed zero h (omega arith)) are.0)
all_fresh (h ∷ hs) (t ∷ ts) owed are (suc k) s at = all_fresh hs ts (λ j d within. owed (suc j) d (omega (arith, within))) are.1 k s at

pub begun : (hosts : List Host) (v : HostsView) (b : IndexedLogView) → ((w : World) → CameTo w → InOrder w × Reached (scene_of w))
    → All IsHostOwed hosts → AreHosts hosts v.stations → v.ends ≡ [] → b ≡ blank → GoesOn (world_of v b.parcels b.log 0)
begun hosts v b reached owed are ends is =
    let new : IsNewWorld (world_of v b.parcels b.log 0) =
    record {
      hosts = all_fresh hosts v.stations owed are;
      ends = ends;
      parcels = ap (λ (x : IndexedLogView). x.parcels) is;
      log = ap (λ (x : IndexedLogView). x.log) is;
    } in
    let both = reached (world_of v b.parcels b.log 0) (CameTo.new new) in
    record { order = both.0; reached = both.1 }
