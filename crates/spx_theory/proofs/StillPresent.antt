-- The ends of a world in its scene, and how they change if one host changes.
use Rattle.std.proofs.Common.{◌≡◌, ◌≢◌, ℕ, false, cond, List, ◌++◌, map, set, Option, Some, None, sym, ◌∙◌, inl, inr, ap}
use Rattle.std.specs.Prelude.{slice_get}
use Rattle.std.proofs.lemmas.Bool.{cases_eq, cases_Bool, cond-true, cond-false}
use Rattle.ipx_wire.specs.declared.address.Network.{Network}
use Rattle.spx_link.specs.LinkView.{LinkView}
use Rattle.spx_link.specs.Links.{link_at}
use Rattle.spx_messages.specs.Message.{MessageView}
use Rattle.spx_theory.specs.Note.{Note}
use Rattle.spx_theory.specs.Scene.{Scene, PresentEnd}
use Rattle.spx_messages.specs.WrittenPackets.{Home}
use Rattle.spx_messages.specs.Changes.{SameSelf}
use Rattle.spx_messages.specs.EndpointView.{Held, EndpointView, rest_in, held_with, held_at}
use Rattle.spx_messages.specs.Polls.{home_of}
use Rattle.spx_theory.specs.World.{World, HostState, EndNow, end_at, held_in, held_of, present_with, present_of, home_at, bytes_of, segment_of, scene_of, IsPresentAt, InOrder}
use Rattle.spx_theory.proofs.Places.{one_of_it, same_some, get_map, get_set_here, get_set_other, map_to_set, map_same, map_set_same}

-- ---- a link and its rest

linked_with : (o : Option LinkView) (rest : Option MessageView) (h : Held) → held_with o rest ≡ Some h → o ≡ Some h.link
linked_with None rest h is = cc
linked_with (Some l) rest h is = ap (λ (x : Held). Some x.link) (same_some (record { link = l; rest = rest }) h is)

pub link_of_held : (e : EndpointView) (id : ℕ) (h : Held) → held_at e id ≡ Some h → link_at e.links id ≡ Some h.link
link_of_held e id h is = linked_with (link_at e.links id) (rest_in e.parts id) h is

pub none_held : (e : EndpointView) (id : ℕ) → link_at e.links id ≡ None → held_at e id ≡ None
none_held e id none = ap (λ o. held_with o (rest_in e.parts id)) none

-- ---- what an end has

pub held_holds : (hosts : List HostState) (e : EndNow) (s : HostState) → e.released ≡ false → slice_get hosts e.host ≡ Some s → held_of hosts e ≡ held_at s.endpoint e.id
held_holds hosts e s stands there = cond-false e.released None (held_in (slice_get hosts e.host) e.id) stands ∙ ap (λ o. held_in o e.id) there

-- one host changes, but not in what it holds for this end
pub held_same : (hosts : List HostState) (k : ℕ) (s s' : HostState) (e : EndNow) → slice_get hosts k ≡ Some s
    → (e.released ≡ false → e.host ≡ k → held_at s'.endpoint e.id ≡ held_at s.endpoint e.id) → held_of (set hosts k s') e ≡ held_of hosts e
held_same hosts k s s' e there same = elim (cases_Bool e.released) [
  | inl gone ↦ cond-true e.released None (held_in (slice_get (set hosts k s') e.host) e.id) gone ∙ sym (cond-true e.released None (held_in (slice_get hosts e.host) e.id) gone)
  | inr stands ↦ elim (cases_eq e.host k) [
    | inl here ↦
        let new : slice_get (set hosts k s') e.host ≡ Some s' = ap (slice_get (set hosts k s')) here ∙ get_set_here hosts k s s' there in
        let old : slice_get hosts e.host ≡ Some s = ap (slice_get hosts) here ∙ there in
        held_holds (set hosts k s') e s' stands new ∙ same stands here ∙ sym (held_holds hosts e s stands old)
    | inr other ↦ ap (λ o. cond e.released None (held_in o e.id)) (get_set_other hosts k e.host s' other)
  ]
]

-- an end is the only one of its host and id
pub the_only : (w : World) → InOrder w → (j who : ℕ) (x e : EndNow) → slice_get w.ends j ≡ Some x → x.released ≡ false → slice_get w.ends who ≡ Some e → e.released ≡ false
    → x.host ≡ e.host → x.id ≡ e.id → j ≡ who
the_only w o j who x e at stands at' stands' host id =
    let a : IsPresentAt w.hosts j x = o.ends j x at stands in
    let b : IsPresentAt w.hosts who e = o.ends who e at' stands' in
    let same : a.station ≡ b.station = one_of_it (slice_get w.hosts x.host) a.station b.station a.there (ap (slice_get w.hosts) host ∙ b.there) in
    let known : end_at b.station.here e.id ≡ Some j = ap (end_at b.station.here) (sym id) ∙ ap (λ (s : HostState). end_at s.here x.id) (sym same) ∙ a.known in
    one_of_it (end_at b.station.here e.id) j who known b.known

-- the host of an end
pub held_there : (w : World) → InOrder w → (who : ℕ) (e : EndNow) (s : HostState) (k : ℕ) → slice_get w.ends who ≡ Some e → e.released ≡ false → e.host ≡ k → slice_get w.hosts k ≡ Some s
    → (h : Held) × (held_at s.endpoint e.id ≡ Some h)
held_there w o who e s k at stands host there =
    let a : IsPresentAt w.hosts who e = o.ends who e at stands in
    let same : a.station ≡ s = one_of_it (slice_get w.hosts e.host) a.station s a.there (ap (slice_get w.hosts) host ∙ there) in
    (a.held, ap (λ (z : HostState). held_at z.endpoint e.id) (sym same) ∙ a.live)

-- an end as it is in the scene
pub holds_there : (hosts : List HostState) (ends : List EndNow) (who : ℕ) (e : EndNow) (s : HostState) (h : Held) → slice_get ends who ≡ Some e → e.released ≡ false
    → slice_get hosts e.host ≡ Some s → held_at s.endpoint e.id ≡ Some h → slice_get (map (present_of hosts) ends) who ≡ Some (present_with e (Some h))
holds_there hosts ends who e s h at stands there holds =
    get_map (present_of hosts) ends who e at ∙ ap (λ o. Some (present_with e o)) (held_holds hosts e s stands there ∙ holds)

-- ---- what changes

-- a host holds what it held before
pub ends_same : (hosts : List HostState) (ends : List EndNow) (k : ℕ) (s s' : HostState) → slice_get hosts k ≡ Some s → ((q : ℕ) → held_at s'.endpoint q ≡ held_at s.endpoint q)
    → map (present_of (set hosts k s')) ends ≡ map (present_of hosts) ends
ends_same hosts ends k s s' there same =
    map_same (present_of hosts) (present_of (set hosts k s')) ends (λ j e at. ap (present_with e) (held_same hosts k s s' e there (λ stands here. same e.id)))

-- one end of a host changes
pub ends_changed : (w : World) → InOrder w → (k : ℕ) (s s' : HostState) (who : ℕ) (e : EndNow) (after : Held) → slice_get w.hosts k ≡ Some s
    → slice_get w.ends who ≡ Some e → e.released ≡ false → e.host ≡ k → held_at s'.endpoint e.id ≡ Some after → ((q : ℕ) → q ≢ e.id → held_at s'.endpoint q ≡ held_at s.endpoint q)
    → map (present_of (set w.hosts k s')) w.ends ≡ set (map (present_of w.hosts) w.ends) who (present_with e (Some after))
ends_changed w o k s s' who e after there at stands host holds others =
    map_to_set (present_of w.hosts) (present_of (set w.hosts k s')) w.ends who (present_with e (Some after))
    (λ j x at' apart. ap (present_with x) (held_same w.hosts k s s' x there
    (λ stands' here. others x.id (λ same. apart (the_only w o j who x e at' stands' at stands (here ∙ sym host) same)))))
    (λ x at'.
    let same : x ≡ e = one_of_it (slice_get w.ends who) x e at' at in
    let new : slice_get (set w.hosts k s') e.host ≡ Some s' = ap (slice_get (set w.hosts k s')) host ∙ get_set_here w.hosts k s s' there in
    ap (present_of (set w.hosts k s')) same ∙ ap (present_with e) (held_holds (set w.hosts k s') e s' stands new ∙ holds))

-- ---- a scene by its parts

abbrev pub made : List Home → List PresentEnd → List (List ℕ) → List Network → List Note → Scene
made homes ends parcels segments log = record { homes = homes; ends = ends; parcels = parcels; segments = segments; log = log }

pub made_same : (h h' : List Home) (e e' : List PresentEnd) (p p' : List (List ℕ)) (g g' : List Network) (l l' : List Note) → h ≡ h' → e ≡ e' → p ≡ p' → g ≡ g' → l ≡ l'
    → made h e p g l ≡ made h' e' p' g' l'
made_same h h' e e' p p' g g' l l' eh ee ep eg el =
    ap (λ x. made x e p g l) eh ∙ ap (λ x. made h' x p g l) ee ∙ ap (λ x. made h' e' x g l) ep ∙ ap (λ x. made h' e' p' x l) eg ∙ ap (λ x. made h' e' p' g' x) el

same_home : (old new : EndpointView) → SameSelf old new → home_of new ≡ home_of old
same_home old new self = ap (λ n. record { network = n; node = new.node }) self.network ∙ ap (λ n. record { network = old.network; node = n }) self.node

pub homes_same : (hosts : List HostState) (k : ℕ) (s s' : HostState) → slice_get hosts k ≡ Some s → SameSelf s.endpoint s'.endpoint → map home_at (set hosts k s') ≡ map home_at hosts
homes_same hosts k s s' there self = map_set_same home_at hosts k s s' there (same_home s.endpoint s'.endpoint self)

-- the scene of a world in which a host changed and nothing was sent
pub scene_after : (old new : World) (k : ℕ) (s s' : HostState) (ends : List PresentEnd) (ns : List Note) → slice_get old.hosts k ≡ Some s → new.hosts ≡ set old.hosts k s' → SameSelf s.endpoint s'.endpoint
    → map (present_of (set old.hosts k s')) new.ends ≡ ends → new.parcels ≡ old.parcels → new.log ≡ old.log ++ ns
    → scene_of new ≡ made (map home_at old.hosts) ends (map bytes_of old.parcels) (map segment_of old.parcels) (old.log ++ ns)
scene_after old new k s s' ends ns there hosts self are parcels log =
    made_same (map home_at new.hosts) (map home_at old.hosts) (map (present_of new.hosts) new.ends) ends (map bytes_of new.parcels) (map bytes_of old.parcels)
    (map segment_of new.parcels) (map segment_of old.parcels) new.log (old.log ++ ns)
    (ap (map home_at) hosts ∙ homes_same old.hosts k s s' there self) (ap (λ hs. map (present_of hs) new.ends) hosts ∙ are) (ap (map bytes_of) parcels) (ap (map segment_of) parcels) log
