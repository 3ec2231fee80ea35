-- Each call on an end is a deed, and leaves a world in order.
use Rattle.std.proofs.Common.{◌≡◌, ℕ, Bool, false, List, [], ◌∷◌, ◌++◌, length, map, set, Some, None, refl, sym, ◌∙◌, ap, subst, arith}
use Rattle.std.specs.Prelude.{slice_get}
use Rattle.std.proofs.lemmas.List.{append-nil}
use Rattle.ipx_wire.specs.declared.address.Network.{Network}
use Rattle.ipx_wire.specs.declared.address.Node.{Node}
use Rattle.ipx_wire.specs.declared.address.Socket.{Socket}
use Rattle.ipx_wire.specs.declared.address.Address.{Address}
use Rattle.spx_link.specs.LinkView.{LinkView}
use Rattle.spx_link.specs.Offer.{offer_link, end_link, pace_link, again_link, dialed}
use Rattle.spx_messages.specs.Message.{MessageView}
use Rattle.spx_messages.specs.Cut.{cut_of}
use Rattle.spx_theory.specs.Note.{Note}
use Rattle.spx_theory.specs.Scene.{PresentEnd, IsPresent, linked, with_entries, put_end}
use Rattle.spx_theory.specs.Deeds.{Deed, DoesDeed}
use Rattle.spx_messages.specs.EndpointView.{Held, held_at}
use Rattle.spx_theory.specs.World.{World, HostState, EndNow, ParcelView, present_with, present_of, home_at, bytes_of, segment_of, scene_of, InOrder, IsPresentAt, IsHostInOrder}
use Rattle.spx_theory.specs.EndCalls.{DialsFrom, ChangesLink, ChangesQuietly, SendsTo, Closes, PacesOf, AsksAgainOf, InjectsInto, Ticks}
use Rattle.spx_theory.specs.DeedRuns.{Deeds}
use Rattle.spx_theory.proofs.Places.{get_map, get_set_here, map_more, map_same, map_length}
use Rattle.spx_theory.proofs.Doing.{no_deed, one_deed}
use Rattle.spx_theory.proofs.StillPresent.{none_held, held_same, held_holds, held_there, holds_there, ends_changed, made, made_same, scene_after}
use Rattle.spx_theory.proofs.Finding.{free_id}
use Rattle.spx_theory.proofs.Keeping.{same_ends, ids_kept, id_comes}
use Rattle.spx_theory.proofs.KeptBy.{ids_changed}
use Rattle.spx_theory.specs.Note as Notes
use Rattle.spx_theory.specs.Deeds as Scenes

-- ---- an end is opened

pub dials_deeds : (old new : World) (host : ℕ) (socket : Socket) (to : Address) (buffers id : ℕ) → InOrder old → DialsFrom old host socket to buffers id new → Deeds (scene_of old) (scene_of new)
dials_deeds old new host socket to buffers id o d =
    let l : LinkView = dialed id socket to buffers old.moment in
    let e : EndNow = record { host = host; id = id; released = false; overlong = false } in
    let hosts' : List HostState = set old.hosts host d.after in
    let none : held_at d.before.endpoint id ≡ None = none_held d.before.endpoint id d.free.free in
    let olds : map (present_of hosts') old.ends ≡ map (present_of old.hosts) old.ends =
    map_same (present_of old.hosts) (present_of hosts') old.ends
    (λ j x at. ap (present_with x) (held_same old.hosts host d.before d.after x d.there
    (λ stands here. d.adds.others x.id (λ same. absurd (cc (sym (ap (held_at d.before.endpoint) same ∙ none) ∙ (held_there old o j x d.before host at stands here d.there).1)))))) in
    let one : present_of hosts' e ≡ present_with e (Some (record { link = l; rest = None })) =
    ap (present_with e) (held_holds hosts' e d.after refl (get_set_here old.hosts host d.before d.after d.there) ∙ d.adds.held) in
    let ends : map (present_of hosts') new.ends ≡ map (present_of old.hosts) old.ends ++ present_with e (Some (record { link = l; rest = None })) ∷ [] =
    ap (map (present_of hosts')) d.ends ∙ map_more (present_of hosts') old.ends (e ∷ []) ∙ ap (λ xs. xs ++ present_of hosts' e ∷ []) olds
    ∙ ap (λ x. map (present_of old.hosts) old.ends ++ x ∷ []) one in
    let count : ℕ = length (map (present_of old.hosts) old.ends) in
    let notes : old.log ++ Notes.Opened (length old.ends) host buffers ∷ [] ≡ old.log ++ Notes.Opened count host buffers ∷ [] =
    ap (λ n. old.log ++ Notes.Opened n host buffers ∷ []) (sym (map_length (present_of old.hosts) old.ends)) in
    one_deed (Scenes.Dials host id socket to buffers old.moment) (scene_of old) (scene_of new) (record {
      there = (home_at d.before, get_map home_at old.hosts host d.before d.there);
      free = free_id old host d.before id d.there none;
      above = omega (arith, d.free.is);
      below = omega (arith, d.free.is);
      range = d.range;
      after = scene_after old new host d.before d.after (map (present_of old.hosts) old.ends ++ present_with e (Some (record { link = l; rest = None })) ∷ [])
          (Notes.Opened count host buffers ∷ []) d.there d.hosts d.adds.self ends d.parcels (d.log ∙ notes);
    })

pub dials_kept : (old new : World) (host : ℕ) (socket : Socket) (to : Address) (buffers id : ℕ) → InOrder old → DialsFrom old host socket to buffers id new → InOrder new
dials_kept old new host socket to buffers id o d =
    id_comes old new o host d.before d.after d.there d.hosts d.adds.self id (record { host = host; id = id; released = false; overlong = false }) refl refl refl
    (none_held d.before.endpoint id d.free.free) (record { link = dialed id socket to buffers old.moment; rest = None }) d.adds.held d.adds.others d.here d.ends

-- ---- a message, or the end, is handed in

changed_holds : (old new : World) (who : ℕ) (f : LinkView → LinkView) (n : Note) (c : ChangesLink old who f n new) → IsPresent (scene_of old) who (present_with c.end' (Some c.held)) c.held.link
changed_holds old new who f n c = record { there = holds_there old.hosts old.ends who c.end' c.before c.held c.at c.stands c.there c.holds; link = refl }

changed_scene : (old new : World) (who : ℕ) (f : LinkView → LinkView) (n : Note) → InOrder old → (c : ChangesLink old who f n new)
    → scene_of new ≡ with_entries (put_end (scene_of old) who (linked (present_with c.end' (Some c.held)) (f c.held.link))) (n ∷ [])
changed_scene old new who f n o c =
    let after : Held = record c.held { link = f c.held.link } in
    scene_after old new c.end'.host c.before c.after (set (map (present_of old.hosts) old.ends) who (present_with c.end' (Some after))) (n ∷ []) c.there c.hosts c.changes.self
    (ap (map (present_of (set old.hosts c.end'.host c.after))) c.ends ∙ ends_changed old o c.end'.host c.before c.after who c.end' after c.there c.at c.stands refl c.changes.held c.changes.others)
    c.parcels c.log

changed_kept : (old new : World) (who : ℕ) (f : LinkView → LinkView) (n : Note) → InOrder old → ChangesLink old who f n new → InOrder new
changed_kept old new who f n o c =
    ids_kept old new o c.end'.host c.before c.after c.there c.hosts c.changes.self c.here
    (ids_changed c.before.endpoint c.after.endpoint c.end'.id c.held (record c.held { link = f c.held.link }) c.holds c.changes) (same_ends old.ends new.ends c.ends)

pub sends_deeds : (old new : World) (who : ℕ) (m : MessageView) → InOrder old → SendsTo old who m new → Deeds (scene_of old) (scene_of new)
sends_deeds old new who m o d =
    let f : LinkView → LinkView = λ l. offer_link l (cut_of m) in
    one_deed (Scenes.Sends who m) (scene_of old) (scene_of new) (record {
      stand = present_with d.changes.end' (Some d.changes.held);
      link = d.changes.held.link;
      stands = changed_holds old new who f (Notes.HandsIn who m) d.changes;
      live = d.changes.live;
      stream = d.stream;
      short = d.short;
      after = changed_scene old new who f (Notes.HandsIn who m) o d.changes;
    })

pub sends_kept : (old new : World) (who : ℕ) (m : MessageView) → InOrder old → SendsTo old who m new → InOrder new
sends_kept old new who m o d = changed_kept old new who (λ l. offer_link l (cut_of m)) (Notes.HandsIn who m) o d.changes

pub closes_deeds : (old new : World) (who : ℕ) → InOrder old → Closes old who new → Deeds (scene_of old) (scene_of new)
closes_deeds old new who o c =
    one_deed (Scenes.Closes who) (scene_of old) (scene_of new) (record {
      stand = present_with c.end' (Some c.held);
      link = c.held.link;
      stands = changed_holds old new who end_link (Notes.AsksEnd who) c;
      live = c.live;
      after = changed_scene old new who end_link (Notes.AsksEnd who) o c;
    })

pub closes_kept : (old new : World) (who : ℕ) → InOrder old → Closes old who new → InOrder new
closes_kept old new who o c = changed_kept old new who end_link (Notes.AsksEnd who) o c

-- ---- a change of the window, and a request to retransmit

quiet_scene : (old new : World) (who : ℕ) (f : LinkView → LinkView) → InOrder old → (c : ChangesQuietly old who f new)
    → scene_of new ≡ put_end (scene_of old) who (linked (present_with c.end' (Some c.held)) (f c.held.link))
quiet_scene old new who f o c =
    let after : Held = record c.held { link = f c.held.link } in
    let stands : List PresentEnd = set (map (present_of old.hosts) old.ends) who (present_with c.end' (Some after)) in
    scene_after old new c.end'.host c.before c.after stands [] c.there c.hosts c.changes.self
    (ap (map (present_of (set old.hosts c.end'.host c.after))) c.ends ∙ ends_changed old o c.end'.host c.before c.after who c.end' after c.there c.at c.stands refl c.changes.held c.changes.others)
    c.parcels (c.log ∙ sym (append-nil old.log))
    ∙ ap (made (map home_at old.hosts) stands (map bytes_of old.parcels) (map segment_of old.parcels)) (append-nil old.log)

quiet_holds : (old new : World) (who : ℕ) (f : LinkView → LinkView) (c : ChangesQuietly old who f new) → IsPresent (scene_of old) who (present_with c.end' (Some c.held)) c.held.link
quiet_holds old new who f c = record { there = holds_there old.hosts old.ends who c.end' c.before c.held c.at c.stands c.there c.holds; link = refl }

pub quiet_kept : (old new : World) (who : ℕ) (f : LinkView → LinkView) → InOrder old → ChangesQuietly old who f new → InOrder new
quiet_kept old new who f o c =
    ids_kept old new o c.end'.host c.before c.after c.there c.hosts c.changes.self c.here
    (ids_changed c.before.endpoint c.after.endpoint c.end'.id c.held (record c.held { link = f c.held.link }) c.holds c.changes) (same_ends old.ends new.ends c.ends)

pub paces_deeds : (old new : World) (who window : ℕ) (manual : Bool) → InOrder old → PacesOf old who window manual new → Deeds (scene_of old) (scene_of new)
paces_deeds old new who window manual o c =
    let f : LinkView → LinkView = λ l. pace_link l window manual in
    one_deed (Scenes.Paces who window manual) (scene_of old) (scene_of new)
    (record { stand = present_with c.end' (Some c.held); link = c.held.link; stands = quiet_holds old new who f c; after = quiet_scene old new who f o c })

pub asks_deeds : (old new : World) (who place : ℕ) → InOrder old → AsksAgainOf old who place new → Deeds (scene_of old) (scene_of new)
asks_deeds old new who place o c =
    let f : LinkView → LinkView = λ l. again_link l place in
    one_deed (Scenes.AsksAgain who place) (scene_of old) (scene_of new)
    (record { stand = present_with c.end' (Some c.held); link = c.held.link; stands = quiet_holds old new who f c; after = quiet_scene old new who f o c })

-- ---- a packet from outside, and a clock tick

pub injects_deeds : (old new : World) (segment : Network) (next : Node) (bytes : List ℕ) → InjectsInto old segment next bytes new → Deeds (scene_of old) (scene_of new)
injects_deeds old new segment next bytes d =
    let letter : ParcelView = record { segment = segment; next = next; bytes = bytes; sent_by = None } in
    let count : ℕ = length (map bytes_of old.parcels) in
    one_deed (Scenes.Injects segment bytes) (scene_of old) (scene_of new)
    (made_same (map home_at new.hosts) (map home_at old.hosts) (map (present_of new.hosts) new.ends) (map (present_of old.hosts) old.ends) (map bytes_of new.parcels) (map bytes_of old.parcels ++ bytes ∷ [])
    (map segment_of new.parcels) (map segment_of old.parcels ++ segment ∷ []) new.log (old.log ++ Notes.Injected count ∷ [])
    (ap (map home_at) d.hosts) (ap (λ hs. map (present_of hs) new.ends) d.hosts ∙ ap (map (present_of old.hosts)) d.ends)
    (ap (map bytes_of) d.parcels ∙ map_more bytes_of old.parcels (letter ∷ [])) (ap (map segment_of) d.parcels ∙ map_more segment_of old.parcels (letter ∷ []))
    (d.log ∙ ap (λ n. old.log ++ Notes.Injected n ∷ []) (sym (map_length bytes_of old.parcels))))

pub ticks_deeds : (old new : World) (now : ℕ) → Ticks old now new → Deeds (scene_of old) (scene_of new)
ticks_deeds old new now d =
    no_deed (scene_of old) (scene_of new)
    (made_same (map home_at new.hosts) (map home_at old.hosts) (map (present_of new.hosts) new.ends) (map (present_of old.hosts) old.ends) (map bytes_of new.parcels) (map bytes_of old.parcels)
    (map segment_of new.parcels) (map segment_of old.parcels) new.log old.log
    (ap (map home_at) d.hosts) (ap (λ hs. map (present_of hs) new.ends) d.hosts ∙ ap (map (present_of old.hosts)) d.ends) (ap (map bytes_of) d.parcels) (ap (map segment_of) d.parcels) d.log)

pub order_of_same : (old new : World) → new.hosts ≡ old.hosts → new.ends ≡ old.ends → InOrder old → InOrder new
order_of_same old new hosts ends o =
    record {
      ends = λ who e at stands. subst (λ hs. IsPresentAt hs who e) (sym hosts) (o.ends who e (ap (λ es. slice_get es who) (sym ends) ∙ at) stands);
      hosts = λ k s at. subst (λ es. IsHostInOrder es k s) (sym ends) (o.hosts k s (ap (λ hs. slice_get hs k) (sym hosts) ∙ at));
    }
