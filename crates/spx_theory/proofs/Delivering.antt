-- The delivery of a parcel to a host is at most one deed.
use Rattle.std.proofs.Common.{◌≡◌, ℕ, false, List, [], ◌∷◌, ◌++◌, length, map, set, Some, None, refl, sym, ◌∙◌, inl, inr, ap, subst, arith}
use Rattle.std.specs.Prelude.{slice_get}
use Rattle.std.proofs.lemmas.List.{append-nil}
use Rattle.ipx_wire.specs.declared.address.Socket.{Socket}
use Rattle.ipx_wire.specs.declared.address.Address.{Address}
use Rattle.ipx_wire.specs.Ipx.{PacketView}
use Rattle.spx_link.specs.declared.received.Received.{Received}
use Rattle.spx_link.specs.LinkView.{LinkView}
use Rattle.spx_link.specs.Receive.{receive_link}
use Rattle.spx_link.specs.Offer.{owe_reply_link, accepted_from}
use Rattle.spx_theory.specs.Note.{Note}
use Rattle.spx_messages.specs.WrittenPackets.{Home}
use Rattle.spx_theory.specs.Deeds.{Accepts, Reads, OwesReply}
use Rattle.spx_theory.specs.PacketsOnWay.{IsFor, notes_of}
use Rattle.spx_messages.specs.Changes.{SameBut}
use Rattle.spx_messages.specs.EndpointView.{Held, EndpointView, held_at}
use Rattle.spx_messages.specs.declared.arrived.Arrived.{Arrived}
use Rattle.spx_messages.specs.Arrives.{IsOurs, IsAccepted, IsAskedAgain, IsHeard}
use Rattle.spx_theory.specs.World.{World, HostState, EndNow, present_with, present_of, home_at, bytes_of, segment_of, scene_of, InOrder}
use Rattle.spx_theory.specs.HostSteps.{Delivers, heard_notes, read_notes, arrival_notes, buffers_of}
use Rattle.spx_theory.specs.DeedRuns.{Deeds}
use Rattle.spx_theory.proofs.Places.{get_map, get_set_here, map_more, map_same, map_length}
use Rattle.spx_theory.proofs.Doing.{no_deed, one_deed}
use Rattle.spx_theory.proofs.StillPresent.{none_held, held_same, held_holds, held_there, ends_same, made, scene_after}
use Rattle.spx_theory.proofs.Finding.{Found, found, found_changed, home_there, free_id}
use Rattle.spx_theory.specs.Note as Notes
use Rattle.spx_messages.specs.declared.arrived.Arrived.TheVariants as Arriveds

-- nothing changes that a scene shows
pub left_alone : (old new : World) (host : ℕ) (s s' : HostState) → slice_get old.hosts host ≡ Some s → new.hosts ≡ set old.hosts host s' → SameBut s.endpoint s'.endpoint
    → new.ends ≡ old.ends → new.parcels ≡ old.parcels → new.log ≡ old.log ++ [] → Deeds (scene_of old) (scene_of new)
left_alone old new host s s' there hosts same ends parcels log =
    no_deed (scene_of old) (scene_of new)
    (scene_after old new host s s' (map (present_of old.hosts) old.ends) [] there hosts same.self
    (ap (map (present_of (set old.hosts host s'))) ends ∙ ends_same old.hosts old.ends host s s' there same.held) parcels log
    ∙ ap (made (map home_at old.hosts) (map (present_of old.hosts) old.ends) (map bytes_of old.parcels) (map segment_of old.parcels)) (append-nil old.log))

is_for : (e : EndpointView) (p : PacketView) (local : Socket) (remote : Address) → IsOurs e p → local ≡ p.header.to.socket → remote ≡ p.header.from
    → IsFor (record { network = e.network; node = e.node }) local remote p
is_for e p local remote ours to from = record { to_network = ours.network; to_node = ours.node; to_socket = sym to; from_address = sym from }

asked_again : (old new : World) (parcel host id : ℕ) (r : Received) (o : InOrder old) (d : Delivers old parcel host (Arriveds.Link id r) new)
    → IsAskedAgain d.before.endpoint d.letter.bytes id d.after.endpoint → Deeds (scene_of old) (scene_of new)
asked_again old new parcel host id r o d a =
    let f : Found old host d.before id a.held = found old o host d.before id a.held d.there a.at in
    let notes : heard_notes d.after.here d.after.endpoint.heard r parcel ≡ [] = ap (λ x. heard_notes d.after.here x r parcel) a.heard in
    let ends : map (present_of (set old.hosts host d.after)) new.ends ≡ set (map (present_of old.hosts) old.ends) f.who (present_with f.end' (Some (record a.held { link = owe_reply_link a.held.link }))) =
    ap (map (present_of (set old.hosts host d.after))) d.ends
    ∙ found_changed old o host d.before d.after id a.held (record a.held { link = owe_reply_link a.held.link }) d.there f a.changes.held a.changes.others in
    one_deed (OwesReply f.who) (scene_of old) (scene_of new) (record {
      stand = present_with f.end' (Some a.held);
      link = a.held.link;
      stands = f.stand;
      after =
          scene_after old new host d.before d.after (set (map (present_of old.hosts) old.ends) f.who (present_with f.end' (Some (record a.held { link = owe_reply_link a.held.link })))) [] d.there d.hosts a.changes.self
          ends d.parcels (d.log ∙ ap (λ ns. old.log ++ ns) notes)
          ∙ ap (made (map home_at old.hosts) (set (map (present_of old.hosts) old.ends) f.who (present_with f.end' (Some (record a.held { link = owe_reply_link a.held.link })))) (map bytes_of old.parcels) (map segment_of old.parcels)) (append-nil old.log);
    })

heard : (old new : World) (parcel host id : ℕ) (r : Received) (o : InOrder old) (d : Delivers old parcel host (Arriveds.Link id r) new)
    → IsHeard d.before.endpoint d.letter.bytes id r d.after.endpoint → Deeds (scene_of old) (scene_of new)
heard old new parcel host id r o d a =
    let f : Found old host d.before id a.held = found old o host d.before id a.held d.there a.at in
    let l : LinkView = a.held.link in
    let after : Held = record a.held { link = (receive_link l a.header a.body).1 } in
    let notes : heard_notes d.after.here d.after.endpoint.heard r parcel ≡ notes_of (receive_link l a.header a.body).0 f.who parcel =
    ap (λ x. heard_notes x d.after.endpoint.heard r parcel) d.here ∙ ap (λ x. heard_notes d.before.here x r parcel) a.heard ∙ ap (λ x. read_notes x r parcel) f.known
    ∙ ap (λ x. notes_of x f.who parcel) (sym a.answer) in
    let ends : map (present_of (set old.hosts host d.after)) new.ends ≡ set (map (present_of old.hosts) old.ends) f.who (present_with f.end' (Some after)) =
    ap (map (present_of (set old.hosts host d.after))) d.ends
    ∙ found_changed old o host d.before d.after id a.held after d.there f a.changes.held a.changes.others in
    one_deed (Reads f.who parcel) (scene_of old) (scene_of new) (record {
      stand = present_with f.end' (Some a.held);
      link = l;
      bytes = d.letter.bytes;
      packet = a.packet;
      header = a.header;
      body = a.body;
      stands = f.stand;
      comes = get_map bytes_of old.parcels parcel d.letter d.comes;
      reads = a.comes.is;
      home = λ h at. subst (λ (z : Home). IsFor z l.local l.remote a.packet) (home_there old.hosts host f.end'.host d.before h d.there f.host at)
          (is_for d.before.endpoint a.packet l.local l.remote a.comes.ours a.local a.remote);
      read = λ strange. a.read (sym a.answer ∙ strange);
      after = scene_after old new host d.before d.after (set (map (present_of old.hosts) old.ends) f.who (present_with f.end' (Some after))) (notes_of (receive_link l a.header a.body).0 f.who parcel)
          d.there d.hosts a.changes.self ends d.parcels (d.log ∙ ap (λ ns. old.log ++ ns) notes);
    })

accepted : (old new : World) (parcel host id : ℕ) (o : InOrder old) (d : Delivers old parcel host (Arriveds.Accepted id) new)
    → IsAccepted d.before.endpoint d.letter.bytes old.moment id d.after.endpoint → Deeds (scene_of old) (scene_of new)
accepted old new parcel host id o d a =
    let socket : Socket = a.packet.header.to.socket in
    let l : LinkView = accepted_from id socket a.packet.header.from a.header a.buffers old.moment in
    let e : EndNow = record { host = host; id = id; released = false; overlong = false } in
    let hosts' : List HostState = set old.hosts host d.after in
    let none : held_at d.before.endpoint id ≡ None = none_held d.before.endpoint id a.free.free in
    let olds : map (present_of hosts') old.ends ≡ map (present_of old.hosts) old.ends =
    map_same (present_of old.hosts) (present_of hosts') old.ends
    (λ j x at. ap (present_with x) (held_same old.hosts host d.before d.after x d.there
    (λ stands here. a.adds.others x.id (λ same. absurd (cc (sym (ap (held_at d.before.endpoint) same ∙ none) ∙ (held_there old o j x d.before host at stands here d.there).1)))))) in
    let one : present_of hosts' e ≡ present_with e (Some (record { link = l; rest = None })) =
    ap (present_with e) (held_holds hosts' e d.after refl (get_set_here old.hosts host d.before d.after d.there) ∙ a.adds.held) in
    let ends : map (present_of hosts') new.ends ≡ map (present_of old.hosts) old.ends ++ present_with e (Some (record { link = l; rest = None })) ∷ [] =
    ap (map (present_of hosts')) d.ends ∙ map_more (present_of hosts') old.ends (e ∷ []) ∙ ap (λ xs. xs ++ present_of hosts' e ∷ []) olds
    ∙ ap (λ x. map (present_of old.hosts) old.ends ++ x ∷ []) one in
    let count : ℕ = length (map (present_of old.hosts) old.ends) in
    let notes : arrival_notes (Arriveds.Accepted id) d.after (length old.ends) parcel ≡ Notes.Accepted count parcel a.buffers ∷ Notes.Got count parcel ∷ [] =
    ap (λ x. Notes.Accepted (length old.ends) parcel (buffers_of x) ∷ Notes.Got (length old.ends) parcel ∷ []) a.adds.held
    ∙ ap (λ n. Notes.Accepted n parcel a.buffers ∷ Notes.Got n parcel ∷ []) (sym (map_length (present_of old.hosts) old.ends)) in
    one_deed (Accepts host id socket parcel a.buffers old.moment) (scene_of old) (scene_of new) (record {
      bytes = d.letter.bytes;
      packet = a.packet;
      header = a.header;
      body = a.body;
      comes = get_map bytes_of old.parcels parcel d.letter d.comes;
      reads = a.asks.comes.is;
      request = a.asks.request;
      home = λ h at. subst (λ (z : Home). IsFor z socket a.packet.header.from a.packet) (home_there old.hosts host host d.before h d.there refl at)
          (is_for d.before.endpoint a.packet socket a.packet.header.from a.asks.comes.ours refl refl);
      there = (home_at d.before, get_map home_at old.hosts host d.before d.there);
      free = free_id old host d.before id d.there none;
      above = omega (arith, a.free.is);
      below = omega (arith, a.free.is);
      range = (o.hosts host d.before d.there).range socket a.buffers a.listens;
      after = scene_after old new host d.before d.after (map (present_of old.hosts) old.ends ++ present_with e (Some (record { link = l; rest = None })) ∷ [])
          (Notes.Accepted count parcel a.buffers ∷ Notes.Got count parcel ∷ []) d.there d.hosts a.adds.self ends d.parcels (d.log ∙ ap (λ ns. old.log ++ ns) notes);
    })

pub delivers_deeds : (old new : World) (parcel host : ℕ) (answer : Arrived) → InOrder old → Delivers old parcel host answer new → Deeds (scene_of old) (scene_of new)
delivers_deeds old new parcel host (Arriveds.Bad f) o d = left_alone old new host d.before d.after d.there d.hosts d.arrives.answers.1.same d.ends d.parcels d.log
delivers_deeds old new parcel host Arriveds.NotOurs o d = left_alone old new host d.before d.after d.there d.hosts d.arrives.answers.1.same d.ends d.parcels d.log
delivers_deeds old new parcel host (Arriveds.BadSpx f) o d = left_alone old new host d.before d.after d.there d.hosts d.arrives.answers.1.same d.ends d.parcels d.log
delivers_deeds old new parcel host Arriveds.NoListener o d = left_alone old new host d.before d.after d.there d.hosts d.arrives.answers.1.same d.ends d.parcels d.log
delivers_deeds old new parcel host Arriveds.NoRoom o d = left_alone old new host d.before d.after d.there d.hosts d.arrives.answers.1.same d.ends d.parcels d.log
delivers_deeds old new parcel host Arriveds.Stranger o d = left_alone old new host d.before d.after d.there d.hosts d.arrives.answers.1.same d.ends d.parcels d.log
delivers_deeds old new parcel host (Arriveds.Accepted id) o d = accepted old new parcel host id o d d.arrives.answers
delivers_deeds old new parcel host (Arriveds.Link id r) o d = elim d.arrives.answers [
  | inl again ↦ asked_again old new parcel host id r o d again.0
  | inr read ↦ heard old new parcel host id r o d read
]
