-- The effect of a datagram on an endpoint, from its effect on the links.
use Rattle.std.proofs.Common.{◌≡◌, ℕ, List, Option, None, Some, Result, Ok, Err, IfOk, OnErr, refl, ap, sym, subst, ◌∙◌, inl, inr}
use Rattle.ipx_wire.specs.declared.address.Address.{Address}
use Rattle.ipx_wire.specs.declared.address.Socket.{Socket}
use Rattle.ipx_wire.specs.Ipx.{PacketView}
use Rattle.spx_link.specs.declared.received.Received.{Received}
use Rattle.spx_link.specs.LinkView.{LinkView}
use Rattle.spx_link.specs.Links.{LinksView, link_at, Adds, ChangesOnly, IsAcceptedFrom, IsLeast}
use Rattle.spx_link.specs.Offer.{accepted_from, owe_reply_link}
use Rattle.spx_link.specs.Receive.{receive_link}
use Rattle.spx_messages.specs.Message.{MessageView}
use Rattle.spx_messages.specs.WrittenPackets.{IsRequestFor}
use Rattle.spx_messages.specs.Arrives.{Answers, Arrives, Comes, IsAcceptable, IsAccepted, IsAskedAgain, IsHeard, IsNewRequest, IsOneTooMany, IsOurs, IsStrange, IsUnheard, Unheard}
use Rattle.spx_messages.specs.Changes.{AddsEnd, ChangesEnd, SameBut, SameSelf}
use Rattle.spx_messages.specs.EndpointView.{EndpointView, buffers_at, buffers_in, held_with, rest_in}
use Rattle.spx_messages.specs.Polls.{home_of}
use Rattle.spx_messages.specs.Readings.{Accepts, OwesReplyAgain, Forgets, IsReadBy, IsAsked, IsDeafTo, IsFullFor, IsNew, IsOfNobody, IsOpenTo, IsRead, IsTo, SameLinks, Unasked}
use Rattle.spx_messages.specs.declared.arrived.Arrived.{Arrived}
use Rattle.spx_messages.specs.declared.arrived.Arrived.TheVariants as Arriveds
use Rattle.spx_messages.specs.declared.listening.Listener.{Listener}
use Rattle.spx_messages.specs.declared.parts.Part.{Part}
use Rattle.spx_messages.specs.declared.receive.reading.ConnectionPacket.{ConnectionPacket}

-- the endpoint with other links, partial messages, and link that read last
abbrev pub heard_with : EndpointView → LinksView → List Part → Option ℕ → EndpointView
heard_with e links parts heard = record e { links = links; parts = parts; heard = heard }

same_self : (e : EndpointView) (links : LinksView) (parts : List Part) (heard : Option ℕ) → SameSelf e (heard_with e links parts heard)
same_self e links parts heard = record { network = refl; node = refl; router = refl; buffers = λ socket. refl }

-- ---- the packet

ours : (e : EndpointView) (p : PacketView) → IsTo (home_of e) p.header → IsOurs e p
ours e p t = record { kind = t.kind; node = t.node; network = t.network }

comes : (e : EndpointView) (bytes : List ℕ) (r : ConnectionPacket) (x : IsRead (home_of e) bytes r) → Comes e x.packet r.header r.body.now bytes
comes e bytes r x = record { is = x.is; ours = ours e x.packet x.ours }

new_request : (e : EndpointView) (bytes : List ℕ) (r : ConnectionPacket) (x : IsRead (home_of e) bytes r) → IsRequestFor r.header → IsNew e.links r → IsNewRequest e x.packet r.header r.body.now bytes
new_request e bytes r x request new =
    let P : Address → Type 0 = λ a. (id : ℕ) → ¬ IsAcceptedFrom e.links a r.header.from_id id in
    record { comes = comes e bytes r x; request = request; new = subst P (sym x.from) new }

buffers_to : (e : EndpointView) (bytes : List ℕ) (r : ConnectionPacket) (x : IsRead (home_of e) bytes r) (b : Option ℕ) → buffers_in e.listening r.to.0 ≡ b → buffers_at e x.packet.header.to.socket ≡ b
buffers_to e bytes r x b is =
    let P : Socket → Type 0 = λ s. buffers_at e s ≡ b in
    subst P (sym x.to) is

-- ---- changes

same_but : (e : EndpointView) (links : LinksView) (heard : Option ℕ) → SameLinks e.links links → SameBut e (heard_with e links e.parts heard)
same_but e links heard s = record {
  held = λ q. ap (λ (o : Option LinkView). held_with o (rest_in e.parts q)) (s.links q);
  last = s.last;
  count = s.count;
  self = same_self e links e.parts heard;
}

-- nothing changed but the link that read last
unheard : (e : EndpointView) (links : LinksView) (parts : List Part) → Unasked e.links links e.parts parts → Unheard e (heard_with e links parts None)
unheard e links parts u =
    let P : LinksView → List Part → Type 0 = λ ls ps. Unheard e (heard_with e ls ps None) in
    let there : Unheard e (heard_with e e.links e.parts None) = record {
      same = same_but e e.links None (record { links = λ q. refl; last = refl; count = refl });
      heard = refl;
    } in
    subst (λ ls. P ls parts) (sym u.links) (subst (P e.links) (sym u.parts) there)

-- the link of an id changed
changes_end : (e : EndpointView) (links : LinksView) (heard : Option ℕ) (id : ℕ) (l : LinkView) → ChangesOnly e.links links id l → ChangesEnd e (heard_with e links e.parts heard) id (record { link = l; rest = rest_in e.parts id })
changes_end e links heard id l c = record {
  held = ap (λ (o : Option LinkView). held_with o (rest_in e.parts id)) c.link;
  others = λ q apart. ap (λ (o : Option LinkView). held_with o (rest_in e.parts q)) (c.others q apart);
  last = c.last;
  count = c.count;
  self = same_self e links e.parts heard;
}

both : (o p : Option LinkView) (m n : Option MessageView) → o ≡ p → m ≡ n → held_with o m ≡ held_with p n
both o p m n e f = cc

-- a link was added
adds_end : (e : EndpointView) (links : LinksView) (parts : List Part) (heard : Option ℕ) (id : ℕ) (l : LinkView) → Adds e.links links id l → Forgets e.parts parts id → AddsEnd e (heard_with e links parts heard) id l
adds_end e links parts heard id l a f = record {
  held = both (link_at links id) (Some l) (rest_in parts id) None a.link f.gone;
  others = λ q apart. both (link_at links q) (link_at e.links q) (rest_in parts q) (rest_in e.parts q) (a.others q apart) (f.others q apart);
  last = a.last;
  count = a.count;
  self = same_self e links parts heard;
}

-- ---- a request

again : (e : EndpointView) (bytes : List ℕ) (r : ConnectionPacket) (links : LinksView) (id : ℕ) → IsRead (home_of e) bytes r → IsRequestFor r.header → OwesReplyAgain e.links links r id → IsAskedAgain e bytes id (heard_with e links e.parts None)
again e bytes r links id x request a =
    let P : Address → Type 0 = λ b. IsLeast (IsAcceptedFrom e.links b r.header.from_id) id in
    record {
      packet = x.packet;
      header = r.header;
      body = r.body.now;
      comes = comes e bytes r x;
      request = request;
      least = subst P (sym x.from) a.least;
      held = record { link = a.link; rest = rest_in e.parts id };
      at = ap (λ (o : Option LinkView). held_with o (rest_in e.parts id)) a.at;
      changes = changes_end e links None id (owe_reply_link a.link) a.changes;
      heard = refl;
    }

accepted : (e : EndpointView) (bytes : List ℕ) (r : ConnectionPacket) (now : ℕ) (links : LinksView) (parts : List Part) (id : ℕ) → IsRead (home_of e) bytes r → IsRequestFor r.header → Accepts e.listening e.links links e.parts parts r now id → IsAccepted e bytes now id (heard_with e links parts None)
accepted e bytes r now links parts id x request a =
    let P : Socket → Address → Type 0 = λ s b. AddsEnd e (heard_with e links parts None) id (accepted_from id s b r.header a.room.buffers now) in
    let made : P r.to r.from = adds_end e links parts None id (accepted_from id r.to r.from r.header a.room.buffers now) a.adds a.forgets in
    record {
      packet = x.packet;
      header = r.header;
      body = r.body.now;
      asks = new_request e bytes r x request a.room.new;
      buffers = a.room.buffers;
      listens = buffers_to e bytes r x (Some a.room.buffers) a.room.listens;
      room = a.room.room;
      free = a.free;
      adds = subst (λ s. P s x.packet.header.from) (sym x.to) (subst (P r.to) (sym x.from) made);
      heard = refl;
    }

no_listener : (e : EndpointView) (bytes : List ℕ) (r : ConnectionPacket) → IsRead (home_of e) bytes r → IsRequestFor r.header → IsDeafTo e.listening e.links r → IsUnheard e bytes
no_listener e bytes r x request d = record {
  packet = x.packet;
  header = r.header;
  body = r.body.now;
  asks = new_request e bytes r x request d.new;
  no_listener = buffers_to e bytes r x None d.no_listener;
}

full : (e : EndpointView) (bytes : List ℕ) (r : ConnectionPacket) → IsRead (home_of e) bytes r → IsRequestFor r.header → IsFullFor e.listening e.links r → IsOneTooMany e bytes
full e bytes r x request f = record {
  packet = x.packet;
  header = r.header;
  body = r.body.now;
  asks = new_request e bytes r x request f.new;
  buffers = f.buffers;
  listens = buffers_to e bytes r x (Some f.buffers) f.listens;
  full = f.full;
}

acceptable : (e : EndpointView) (bytes : List ℕ) (r : ConnectionPacket) → IsRead (home_of e) bytes r → IsRequestFor r.header → IsOpenTo e.listening e.links r → IsAcceptable e bytes
acceptable e bytes r x request o = record {
  packet = x.packet;
  header = r.header;
  body = r.body.now;
  asks = new_request e bytes r x request o.new;
  buffers = o.buffers;
  listens = buffers_to e bytes r x (Some o.buffers) o.listens;
  room = o.room;
}

again_with : (e : EndpointView) (bytes : List ℕ) (r : ConnectionPacket) (links : LinksView) (parts : List Part) (id : ℕ) → IsRead (home_of e) bytes r → IsRequestFor r.header → OwesReplyAgain e.links links r id → parts ≡ e.parts → IsAskedAgain e bytes id (heard_with e links parts None)
again_with e bytes r links parts id x request a same =
    let P : List Part → Type 0 = λ ps. IsAskedAgain e bytes id (heard_with e links ps None) in
    subst P (sym same) (again e bytes r links id x request a)

answers : (e : EndpointView) (bytes : List ℕ) (r : ConnectionPacket) (now : ℕ) (links : LinksView) (parts : List Part) (a : Arrived) → IsRead (home_of e) bytes r → IsRequestFor r.header → IsAsked e.listening e.links links e.parts parts r now a → Answers e bytes now a (heard_with e links parts None)
answers e bytes r now links parts (Arriveds.Bad f) x request asked = absurd asked
answers e bytes r now links parts Arriveds.NotOurs x request asked = absurd asked
answers e bytes r now links parts (Arriveds.BadSpx f) x request asked = absurd asked
answers e bytes r now links parts Arriveds.NoListener x request asked = (no_listener e bytes r x request asked.0, unheard e links parts asked.1)
answers e bytes r now links parts Arriveds.NoRoom x request asked = (full e bytes r x request asked.0, unheard e links parts asked.1)
answers e bytes r now links parts Arriveds.Stranger x request asked = absurd asked
answers e bytes r now links parts (Arriveds.Accepted id) x request asked = accepted e bytes r now links parts id x request asked
answers e bytes r now links parts (Arriveds.Link id answer) x request asked = inl (again_with e bytes r links parts id x request asked.0 asked.2, asked.1)

if_asked : {E : Type 0} (e : EndpointView) (bytes : List ℕ) (r : ConnectionPacket) (now : ℕ) (links : LinksView) (parts : List Part) (result : Result Arrived E) → IsRead (home_of e) bytes r → IsRequestFor r.header → IfOk result (IsAsked e.listening e.links links e.parts parts r now) → IfOk result (λ a. Arrives e bytes now a (heard_with e links parts None))
if_asked {E} e bytes r now links parts (Ok a) x request asked = record { answers = answers e bytes r now links parts a x request asked; said = refl }
if_asked {E} e bytes r now links parts (Err f) x request asked = tt

-- a request was answered
pub asked_arrives : {E : Type 0} (old e : EndpointView) → e ≡ old → (bytes : List ℕ) (r : ConnectionPacket) (now : ℕ) (listening : List Listener) (links : LinksView) (parts : List Part) (result : Result Arrived E) → listening ≡ e.listening → IsRead (home_of e) bytes r → IsRequestFor r.header → IfOk result (IsAsked listening e.links links e.parts parts r now) → IfOk result (λ a. Arrives old bytes now a (heard_with e links parts None))
asked_arrives {E} old e view bytes r now listening links parts result same x request asked =
    let P : EndpointView → Type 0 = λ o. IfOk result (λ a. Arrives o bytes now a (heard_with e links parts None)) in
    let Q : List Listener → Type 0 = λ ls. IfOk result (IsAsked ls e.links links e.parts parts r now) in
    subst P view (if_asked e bytes r now links parts result x request (subst Q same asked))

if_acceptable : {A E : Type 0} (e : EndpointView) (bytes : List ℕ) (r : ConnectionPacket) (result : Result A E) → IsRead (home_of e) bytes r → IsRequestFor r.header → OnErr result (IsOpenTo e.listening e.links r) → OnErr result (IsAcceptable e bytes)
if_acceptable {A} {E} e bytes r (Ok a) x request open' = tt
if_acceptable {A} {E} e bytes r (Err f) x request open' = acceptable e bytes r x request open'

pub acceptable_if : {A E : Type 0} (old e : EndpointView) → e ≡ old → (bytes : List ℕ) (r : ConnectionPacket) (listening : List Listener) (result : Result A E) → listening ≡ e.listening → IsRead (home_of e) bytes r → IsRequestFor r.header → OnErr result (IsOpenTo listening e.links r) → OnErr result (IsAcceptable old bytes)
acceptable_if {A} {E} old e view bytes r listening result same x request open' =
    let P : EndpointView → Type 0 = λ o. OnErr result (IsAcceptable o bytes) in
    let Q : List Listener → Type 0 = λ ls. OnErr result (IsOpenTo ls e.links r) in
    subst P view (if_acceptable e bytes r result x request (subst Q same open'))

-- ---- another packet

-- the link of an id read it
pub heard_arrives : (old e : EndpointView) → e ≡ old → (bytes : List ℕ) (r : ConnectionPacket) (now : ℕ) (links : LinksView) (id : ℕ) (answer : Received) → IsRead (home_of e) bytes r → ¬ IsRequestFor r.header → IsReadBy e.links links r id answer → Arrives old bytes now (Arriveds.Link id answer) (heard_with e links e.parts (Some id))
heard_arrives old e view bytes r now links id answer x other h =
    let there : IsHeard e bytes id answer (heard_with e links e.parts (Some id)) = record {
      packet = x.packet;
      header = r.header;
      body = r.body.now;
      comes = comes e bytes r x;
      other = other;
      to = h.to;
      held = record { link = h.link; rest = rest_in e.parts id };
      at = ap (λ (o : Option LinkView). held_with o (rest_in e.parts id)) h.at;
      local = h.local ∙ sym x.to;
      remote = h.remote ∙ sym x.from;
      answer = h.answer';
      read = h.read;
      changes = changes_end e links (Some id) id (receive_link h.link r.header r.body.now).1 h.changes;
      heard = refl;
    } in
    let P : EndpointView → Type 0 = λ o. Arrives o bytes now (Arriveds.Link id answer) (heard_with e links e.parts (Some id)) in
    subst P view (record { answers = inr there; said = refl })

-- no link read it
pub strange_arrives : (old e : EndpointView) → e ≡ old → (bytes : List ℕ) (r : ConnectionPacket) (now : ℕ) (links : LinksView) → IsRead (home_of e) bytes r → ¬ IsRequestFor r.header → IsOfNobody e.links r → SameLinks e.links links → Arrives old bytes now Arriveds.Stranger (heard_with e links e.parts None)
strange_arrives old e view bytes r now links x other nobody same =
    let there : IsStrange e bytes = record {
      packet = x.packet;
      header = r.header;
      body = r.body.now;
      comes = comes e bytes r x;
      other = other;
      none = λ l at local remote. nobody l at (local ∙ x.to) (remote ∙ x.from);
    } in
    let P : EndpointView → Type 0 = λ o. Arrives o bytes now Arriveds.Stranger (heard_with e links e.parts None) in
    subst P view (record { answers = (there, record { same = same_but e links None same; heard = refl }); said = refl })
