-- A datagram has exactly one effect on an endpoint. The contract is first brought into a fixed order of
-- questions, each with two answers. Then two effects of one datagram take the same way.
use Rattle.std.proofs.Common.{◌≡◌, ◌≢◌, ℕ, ◌<◌, ◌≤◌, ◌==◌, Bool, true, false, List, Option, None, Some, refl, ap, sym, subst, ◌∙◌, ◌⊎◌, inl, inr, arith, is_some}
use Rattle.std.proofs.lemmas.Bool.Decides.{Decides-eqb, leb_tells}
use lib.Dec.{leb}
use Rattle.ipx_wire.specs.Ipx.{BeginsWith, IsIpx, PacketView, ipx_fault}
use Rattle.ipx_wire.specs.Spx.{IsSpx, spx_fault}
use Rattle.ipx_wire.specs.declared.ipx.fault.IpxFault.{IpxFault}
use Rattle.ipx_wire.specs.declared.spx.fault.SpxFault.{SpxFault}
use Rattle.ipx_wire.specs.declared.spx.packet.SpxHeader.{SpxHeader}
use Rattle.spx_link.specs.Limits.{most_links}
use Rattle.spx_link.specs.LinkView.{LinkView}
use Rattle.spx_link.specs.Links.{LinksView, IsAcceptedFrom, IsLeast, IsLive, IsNextFree, count_of, id_after, link_at}
use Rattle.spx_link.specs.Offer.{accepted_from, owe_reply_link}
use Rattle.spx_link.specs.Receive.{receive_link}
use Rattle.spx_link.specs.declared.received.Received.{Received}
use Rattle.spx_link.specs.declared.received.Received.TheVariants as Receiveds
use Rattle.spx_messages.specs.WrittenPackets.{IsRequestFor}
use Rattle.spx_messages.specs.Arrives.{Answers, Arrives, Comes, IsAccepted, IsAskedAgain, IsHeard, IsNewRequest, IsOneTooMany, IsOurs, IsStrange, IsUnheard, Unheard}
use Rattle.spx_messages.specs.Changes.{AddsEnd, ChangesEnd, SameBut, SameSelf}
use Rattle.spx_messages.specs.EndpointView.{EndpointView, Held, buffers_at, held_at, held_with, rest_in}
use Rattle.spx_messages.specs.declared.arrived.Arrived.{Arrived}
use Rattle.spx_messages.specs.declared.arrived.Arrived.TheVariants as Arriveds

-- laws of bytes and packets
pub record WireLaws : Type 0 where
  pub one_packet : (p q : PacketView) (bytes s t : List ℕ) → IsIpx p bytes s → IsIpx q bytes t → (p ≡ q) × (s ≡ t)
  pub one_spx : (h k : SpxHeader) (body other bytes : List ℕ) → IsSpx h body bytes → IsSpx k other bytes → (h ≡ k) × (body ≡ other)
  pub no_ipx_fault : (p : PacketView) (bytes tail : List ℕ) → IsIpx p bytes tail → ipx_fault bytes ≡ None
  pub no_spx_fault : (h : SpxHeader) (body bytes : List ℕ) → IsSpx h body bytes → spx_fault bytes ≡ None

-- two answers are equal, and so are the endpoints after them
pub record One (a b : Arrived) (new other : EndpointView) : Type 0 where
  pub answer : a ≡ b
  pub same : SameBut new other
  pub heard : other.heard ≡ new.heard

both : {A B C D E : Type 0} → A ⊎ B → C ⊎ D → (A → C → E) → (A → D → E) → (B → C → E) → (B → D → E) → E
both {A} {B} {C} {D} {E} (inl a) (inl c) f g h k = f a c
both {A} {B} {C} {D} {E} (inl a) (inr d) f g h k = g a d
both {A} {B} {C} {D} {E} (inr b) (inl c) f g h k = h b c
both {A} {B} {C} {D} {E} (inr b) (inr d) f g h k = k b d

pub none_or_some : {A X : Type 0} (o : Option X) (x : X) → o ≡ None → o ≡ Some x → A
none_or_some {A} {X} o x none some = absurd (cc (sym none ∙ some))

-- ---- changes of one endpoint

pub same_self : (old new other : EndpointView) → SameSelf old new → SameSelf old other → SameSelf new other
same_self old new other x y = record {
  network = y.network ∙ sym x.network;
  node = y.node ∙ sym x.node;
  router = y.router ∙ sym x.router;
  buffers = λ s. y.buffers s ∙ sym (x.buffers s);
}

same_after : (old new other : EndpointView) → SameBut old new → SameBut old other → SameBut new other
same_after old new other x y = record {
  held = λ q. y.held q ∙ sym (x.held q);
  last = y.last ∙ sym x.last;
  count = y.count ∙ sym x.count;
  self = same_self old new other x.self y.self;
}

one_unheard : (a b c : Arrived) (old new other : EndpointView) → a ≡ c → b ≡ c → Unheard old new → Unheard old other → One a b new other
one_unheard a b c old new other x y u v = record {
  answer = x ∙ sym y;
  same = same_after old new other u.same v.same;
  heard = v.heard ∙ sym u.heard;
}

-- what one id holds is given, and the others hold what they held
held_alike : (f g k : ℕ → Option Held) (id : ℕ) (o : Option Held) (q : ℕ) (b : Bool) → (q == id) ≡ b → g id ≡ o → k id ≡ o → ((n : ℕ) → n ≢ id → g n ≡ f n) → ((n : ℕ) → n ≢ id → k n ≡ f n) → k q ≡ g q
held_alike f g k id o q true e gs ks go ko =
    let is : q ≡ id = (Decides-eqb q id).0 e in
    subst (λ n. k n ≡ g n) (sym is) (ks ∙ sym gs)
held_alike f g k id o q false e gs ks go ko =
    let apart : q ≢ id = λ is. absurd (cc (sym e ∙ (Decides-eqb q id).1 is)) in
    ko q apart ∙ sym (go q apart)

same_changes : (old new other : EndpointView) (id : ℕ) (h : Held) → ChangesEnd old new id h → ChangesEnd old other id h → SameBut new other
same_changes old new other id h x y = record {
  held = λ q. held_alike (held_at old) (held_at new) (held_at other) id (Some h) q (q == id) refl x.held y.held x.others y.others;
  last = y.last ∙ sym x.last;
  count = y.count ∙ sym x.count;
  self = same_self old new other x.self y.self;
}

same_adds : (old new other : EndpointView) (id : ℕ) (l : LinkView) → AddsEnd old new id l → AddsEnd old other id l → SameBut new other
same_adds old new other id l x y = record {
  held = λ q. held_alike (held_at old) (held_at new) (held_at other) id (Some (record { link = l; rest = None })) q (q == id) refl x.held y.held x.others y.others;
  last = y.last ∙ sym x.last;
  count = y.count ∙ sym x.count;
  self = same_self old new other x.self y.self;
}

-- ---- ids

pub below_or_not : (k m : ℕ) → (k ≤ m) ⊎ (m < k)
below_or_not k m = by (leb_tells k m)
  where
    by : ((leb k m ≡ true) × (k ≤ m)) ⊎ ((leb k m ≡ false) × (m < k)) → (k ≤ m) ⊎ (m < k)
    by (inl h) = inl h.1
    by (inr h) = inr h.1

-- there is one first free id
not_passed : (s : LinksView) (a b : ℕ) (x : IsNextFree s a) (y : IsNextFree s b) → x.steps < y.steps → ⊥
not_passed s a b x y less =
    let live : IsLive s (id_after s.last x.steps) = y.passed x.steps less in
    let there : IsLive s a = subst (IsLive s) (sym x.is) live in
    absurd (cc (sym (ap is_some x.free) ∙ there))

next_free_once : (s : LinksView) (a b : ℕ) → IsNextFree s a → IsNextFree s b → a ≡ b
next_free_once s a b x y = by (below_or_not x.steps y.steps) (below_or_not y.steps x.steps)
  where
    by : (x.steps ≤ y.steps) ⊎ (y.steps < x.steps) → (y.steps ≤ x.steps) ⊎ (x.steps < y.steps) → a ≡ b
    by (inr h) k = absurd (not_passed s b a y x h)
    by (inl h) (inr k) = absurd (not_passed s a b x y k)
    by (inl h) (inl k) =
        let same : x.steps ≡ y.steps = omega arith in
        x.is ∙ ap (id_after s.last) same ∙ sym y.is

least_once : (P : ℕ → Type 0) (a b : ℕ) → IsLeast P a → IsLeast P b → a ≡ b
least_once P a b x y =
    let le : a ≤ b = x.least b y.holds in
    let ge : b ≤ a = y.least a x.holds in
    omega arith

-- ---- a new request

record Full (old : EndpointView) (a : Arrived) (new : EndpointView) : Type 0 where
  pub answer : a ≡ Arriveds.NoRoom
  pub full : most_links ≤ count_of old.links
  pub unheard : Unheard old new

record Opens (old : EndpointView) (now : ℕ) (p : PacketView) (h : SpxHeader) (buffers : ℕ) (a : Arrived) (new : EndpointView) : Type 0 where
  pub id : ℕ
  pub answer : a ≡ Arriveds.Accepted id
  pub room : count_of old.links < most_links
  pub free : IsNextFree old.links id
  pub adds : AddsEnd old new id (accepted_from id p.header.to.socket p.header.from h buffers now)
  pub heard : new.heard ≡ None

one_opened : (old : EndpointView) (now : ℕ) (p : PacketView) (h : SpxHeader) (buffers : ℕ) (a b : Arrived) (new other : EndpointView) → Opens old now p h buffers a new → Opens old now p h buffers b other → One a b new other
one_opened old now p h buffers a b new other x y =
    let same : y.id ≡ x.id = next_free_once old.links y.id x.id y.free x.free in
    let P : ℕ → Type 0 = λ id. AddsEnd old other id (accepted_from id p.header.to.socket p.header.from h buffers now) in
    record {
      answer = x.answer ∙ ap Arriveds.Accepted (sym same) ∙ sym y.answer;
      same = same_adds old new other x.id (accepted_from x.id p.header.to.socket p.header.from h buffers now) x.adds (subst P same y.adds);
      heard = y.heard ∙ sym x.heard;
    }

one_full : (old : EndpointView) (now : ℕ) (p : PacketView) (h : SpxHeader) (buffers : ℕ) (a b : Arrived) (new other : EndpointView) → Full old a new ⊎ Opens old now p h buffers a new → Full old b other ⊎ Opens old now p h buffers b other → One a b new other
one_full old now p h buffers a b new other x y =
    both x y (λ (v : Full old a new) (w : Full old b other). one_unheard a b Arriveds.NoRoom old new other v.answer w.answer v.unheard w.unheard)
    (λ (v : Full old a new) (w : Opens old now p h buffers b other). clash v.full w.room)
    (λ (v : Opens old now p h buffers a new) (w : Full old b other). clash w.full v.room)
    (one_opened old now p h buffers a b new other)
  where
    clash : {A : Type 0} → most_links ≤ count_of old.links → count_of old.links < most_links → A
    clash {A} m n = absurd (omega arith)

record Deaf (old : EndpointView) (p : PacketView) (a : Arrived) (new : EndpointView) : Type 0 where
  pub answer : a ≡ Arriveds.NoListener
  pub no_listener : buffers_at old p.header.to.socket ≡ None
  pub unheard : Unheard old new

record Listening (old : EndpointView) (now : ℕ) (p : PacketView) (h : SpxHeader) (a : Arrived) (new : EndpointView) : Type 0 where
  pub buffers : ℕ
  pub listens : buffers_at old p.header.to.socket ≡ Some buffers
  pub rest : Full old a new ⊎ Opens old now p h buffers a new

one_listening : (old : EndpointView) (now : ℕ) (p : PacketView) (h : SpxHeader) (a b : Arrived) (new other : EndpointView) → Listening old now p h a new → Listening old now p h b other → One a b new other
one_listening old now p h a b new other x y =
    let same : y.buffers ≡ x.buffers = cc (sym y.listens ∙ x.listens) in
    let P : ℕ → Type 0 = λ n. Full old b other ⊎ Opens old now p h n b other in
    one_full old now p h x.buffers a b new other x.rest (subst P same y.rest)

one_new : (old : EndpointView) (now : ℕ) (p : PacketView) (h : SpxHeader) (a b : Arrived) (new other : EndpointView) → Deaf old p a new ⊎ Listening old now p h a new → Deaf old p b other ⊎ Listening old now p h b other → One a b new other
one_new old now p h a b new other x y =
    both x y (λ (v : Deaf old p a new) (w : Deaf old p b other). one_unheard a b Arriveds.NoListener old new other v.answer w.answer v.unheard w.unheard)
    (λ (v : Deaf old p a new) (w : Listening old now p h b other). none_or_some (buffers_at old p.header.to.socket) w.buffers v.no_listener w.listens)
    (λ (v : Listening old now p h a new) (w : Deaf old p b other). none_or_some (buffers_at old p.header.to.socket) v.buffers w.no_listener v.listens)
    (one_listening old now p h a b new other)

-- ---- a request

record Again (old : EndpointView) (p : PacketView) (h : SpxHeader) (a : Arrived) (new : EndpointView) : Type 0 where
  pub id : ℕ
  pub answer : a ≡ Arriveds.Link id Receiveds.Repeat
  pub least : IsLeast (IsAcceptedFrom old.links p.header.from h.from_id) id
  pub held : Held
  pub at : held_at old id ≡ Some held
  pub changes : ChangesEnd old new id (record held { link = owe_reply_link held.link })
  pub heard : new.heard ≡ None

record New (old : EndpointView) (now : ℕ) (p : PacketView) (h : SpxHeader) (a : Arrived) (new : EndpointView) : Type 0 where
  pub fresh : (id : ℕ) → ¬ IsAcceptedFrom old.links p.header.from h.from_id id
  pub rest : Deaf old p a new ⊎ Listening old now p h a new

one_again : (old : EndpointView) (p : PacketView) (h : SpxHeader) (a b : Arrived) (new other : EndpointView) → Again old p h a new → Again old p h b other → One a b new other
one_again old p h a b new other x y =
    let same : y.id ≡ x.id = least_once (IsAcceptedFrom old.links p.header.from h.from_id) y.id x.id y.least x.least in
    let held : y.held ≡ x.held = cc (sym y.at ∙ ap (held_at old) same ∙ x.at) in
    let P : ℕ → Held → Type 0 = λ id k. ChangesEnd old other id (record k { link = owe_reply_link k.link }) in
    let changes : P x.id x.held = subst (P x.id) held (subst (λ id. P id y.held) same y.changes) in
    record {
      answer = x.answer ∙ ap (λ id. Arriveds.Link id Receiveds.Repeat) (sym same) ∙ sym y.answer;
      same = same_changes old new other x.id (record (x.held) { link = owe_reply_link x.held.link }) x.changes changes;
      heard = y.heard ∙ sym x.heard;
    }

one_asked : (old : EndpointView) (now : ℕ) (p : PacketView) (h : SpxHeader) (a b : Arrived) (new other : EndpointView) → Again old p h a new ⊎ New old now p h a new → Again old p h b other ⊎ New old now p h b other → One a b new other
one_asked old now p h a b new other x y =
    both x y (one_again old p h a b new other)
    (λ (v : Again old p h a new) (w : New old now p h b other). absurd (w.fresh v.id v.least.holds))
    (λ (v : New old now p h a new) (w : Again old p h b other). absurd (v.fresh w.id w.least.holds))
    (λ (v : New old now p h a new) (w : New old now p h b other). one_new old now p h a b new other v.rest w.rest)

-- ---- another packet

record Strange (old : EndpointView) (p : PacketView) (h : SpxHeader) (body : List ℕ) (a : Arrived) (new : EndpointView) : Type 0 where
  pub answer : a ≡ Arriveds.Stranger
  pub none : (l : LinkView) → link_at old.links h.to_id ≡ Some l → l.local ≡ p.header.to.socket → l.remote ≡ p.header.from → (receive_link l h body).0 ≡ Receiveds.Stranger
  pub unheard : Unheard old new

record Heard (old : EndpointView) (p : PacketView) (h : SpxHeader) (body : List ℕ) (a : Arrived) (new : EndpointView) : Type 0 where
  pub read : Received
  pub answer : a ≡ Arriveds.Link h.to_id read
  pub held : Held
  pub at : held_at old h.to_id ≡ Some held
  pub local : held.link.local ≡ p.header.to.socket
  pub remote : held.link.remote ≡ p.header.from
  pub reads : (receive_link held.link h body).0 ≡ read
  pub known : read ≢ Receiveds.Stranger
  pub changes : ChangesEnd old new h.to_id (record held { link = (receive_link held.link h body).1 })
  pub heard : new.heard ≡ Some h.to_id

link_held : (e : EndpointView) (id : ℕ) (h : Held) (o : Option LinkView) → link_at e.links id ≡ o → held_at e id ≡ Some h → link_at e.links id ≡ Some h.link
link_held e id h None is at = absurd (cc (sym at ∙ ap (λ (o : Option LinkView). held_with o (rest_in e.parts id)) is))
link_held e id h (Some l) is at =
    let same : Some (record { link = l; rest = rest_in e.parts id }) ≡ Some h = sym (ap (λ (o : Option LinkView). held_with o (rest_in e.parts id)) is) ∙ at in
    is ∙ ap link_of_held same
  where
    link_of_held : Option Held → Option LinkView
    link_of_held None = None
    link_of_held (Some k) = Some k.link

not_strange : {A : Type 0} (old : EndpointView) (p : PacketView) (h : SpxHeader) (body : List ℕ) (a b : Arrived) (new other : EndpointView) → Strange old p h body a new → Heard old p h body b other → A
not_strange {A} old p h body a b new other s k =
    let there : link_at old.links h.to_id ≡ Some k.held.link = link_held old h.to_id k.held (link_at old.links h.to_id) refl k.at in
    absurd (k.known (sym k.reads ∙ s.none k.held.link there k.local k.remote))

one_heard : (old : EndpointView) (p : PacketView) (h : SpxHeader) (body : List ℕ) (a b : Arrived) (new other : EndpointView) → Heard old p h body a new → Heard old p h body b other → One a b new other
one_heard old p h body a b new other x y =
    let held : y.held ≡ x.held = cc (sym y.at ∙ x.at) in
    let P : Held → Type 0 = λ k. ChangesEnd old other h.to_id (record k { link = (receive_link k.link h body).1 }) in
    let read : x.read ≡ y.read = sym x.reads ∙ ap (λ (k : Held). (receive_link k.link h body).0) (sym held) ∙ y.reads in
    record {
      answer = x.answer ∙ ap (Arriveds.Link h.to_id) read ∙ sym y.answer;
      same = same_changes old new other h.to_id (record (x.held) { link = (receive_link x.held.link h body).1 }) x.changes (subst P held y.changes);
      heard = y.heard ∙ sym x.heard;
    }

one_other : (old : EndpointView) (p : PacketView) (h : SpxHeader) (body : List ℕ) (a b : Arrived) (new other : EndpointView) → Strange old p h body a new ⊎ Heard old p h body a new → Strange old p h body b other ⊎ Heard old p h body b other → One a b new other
one_other old p h body a b new other x y =
    both x y (λ (v : Strange old p h body a new) (w : Strange old p h body b other). one_unheard a b Arriveds.Stranger old new other v.answer w.answer v.unheard w.unheard)
    (not_strange old p h body a b new other)
    (λ (v : Heard old p h body a new) (w : Strange old p h body b other). not_strange old p h body b a other new w v)
    (one_heard old p h body a b new other)

-- ---- an SPX packet

record Asks (old : EndpointView) (now : ℕ) (p : PacketView) (h : SpxHeader) (a : Arrived) (new : EndpointView) : Type 0 where
  pub request : IsRequestFor h
  pub rest : Again old p h a new ⊎ New old now p h a new

record Other (old : EndpointView) (p : PacketView) (h : SpxHeader) (body : List ℕ) (a : Arrived) (new : EndpointView) : Type 0 where
  pub other : ¬ IsRequestFor h
  pub rest : Strange old p h body a new ⊎ Heard old p h body a new

one_header : (old : EndpointView) (now : ℕ) (p : PacketView) (h : SpxHeader) (body : List ℕ) (a b : Arrived) (new other : EndpointView) → Asks old now p h a new ⊎ Other old p h body a new → Asks old now p h b other ⊎ Other old p h body b other → One a b new other
one_header old now p h body a b new other x y =
    both x y (λ (v : Asks old now p h a new) (w : Asks old now p h b other). one_asked old now p h a b new other v.rest w.rest)
    (λ (v : Asks old now p h a new) (w : Other old p h body b other). absurd (w.other v.request))
    (λ (v : Other old p h body a new) (w : Asks old now p h b other). absurd (v.other w.request))
    (λ (v : Other old p h body a new) (w : Other old p h body b other). one_other old p h body a b new other v.rest w.rest)

record Faulty (old : EndpointView) (p : PacketView) (a : Arrived) (new : EndpointView) : Type 0 where
  pub f : SpxFault
  pub answer : a ≡ Arriveds.BadSpx f
  pub fault : spx_fault p.body ≡ Some f
  pub unheard : Unheard old new

record Whole (old : EndpointView) (now : ℕ) (p : PacketView) (a : Arrived) (new : EndpointView) : Type 0 where
  pub header : SpxHeader
  pub body : List ℕ
  pub is : IsSpx header body p.body
  pub rest : Asks old now p header a new ⊎ Other old p header body a new

one_faulty : (old : EndpointView) (p : PacketView) (a b : Arrived) (new other : EndpointView) → Faulty old p a new → Faulty old p b other → One a b new other
one_faulty old p a b new other x y =
    let same : y.f ≡ x.f = cc (sym y.fault ∙ x.fault) in
    one_unheard a b (Arriveds.BadSpx x.f) old new other x.answer (y.answer ∙ ap Arriveds.BadSpx same) x.unheard y.unheard

one_whole : WireLaws → (old : EndpointView) (now : ℕ) (p : PacketView) (a b : Arrived) (new other : EndpointView) → Whole old now p a new → Whole old now p b other → One a b new other
one_whole wire old now p a b new other x y =
    let same = wire.one_spx y.header x.header y.body x.body p.body y.is x.is in
    let P : SpxHeader → List ℕ → Type 0 = λ h body. Asks old now p h b other ⊎ Other old p h body b other in
    let rest : P x.header x.body = subst (P x.header) same.1 (subst (λ h. P h y.body) same.0 y.rest) in
    one_header old now p x.header x.body a b new other x.rest rest

one_body : WireLaws → (old : EndpointView) (now : ℕ) (p : PacketView) (a b : Arrived) (new other : EndpointView) → Faulty old p a new ⊎ Whole old now p a new → Faulty old p b other ⊎ Whole old now p b other → One a b new other
one_body wire old now p a b new other x y =
    both x y (one_faulty old p a b new other)
    (λ (v : Faulty old p a new) (w : Whole old now p b other). none_or_some (spx_fault p.body) v.f (wire.no_spx_fault w.header w.body p.body w.is) v.fault)
    (λ (v : Whole old now p a new) (w : Faulty old p b other). none_or_some (spx_fault p.body) w.f (wire.no_spx_fault v.header v.body p.body v.is) w.fault)
    (one_whole wire old now p a b new other)

-- ---- an IPX packet

record Elsewhere (old : EndpointView) (p : PacketView) (a : Arrived) (new : EndpointView) : Type 0 where
  pub answer : a ≡ Arriveds.NotOurs
  pub not : ¬ IsOurs old p
  pub unheard : Unheard old new

record Ours (old : EndpointView) (now : ℕ) (p : PacketView) (a : Arrived) (new : EndpointView) : Type 0 where
  pub ours : IsOurs old p
  pub rest : Faulty old p a new ⊎ Whole old now p a new

one_packet : WireLaws → (old : EndpointView) (now : ℕ) (p : PacketView) (a b : Arrived) (new other : EndpointView) → Elsewhere old p a new ⊎ Ours old now p a new → Elsewhere old p b other ⊎ Ours old now p b other → One a b new other
one_packet wire old now p a b new other x y =
    both x y (λ (v : Elsewhere old p a new) (w : Elsewhere old p b other). one_unheard a b Arriveds.NotOurs old new other v.answer w.answer v.unheard w.unheard)
    (λ (v : Elsewhere old p a new) (w : Ours old now p b other). absurd (v.not w.ours))
    (λ (v : Ours old now p a new) (w : Elsewhere old p b other). absurd (w.not v.ours))
    (λ (v : Ours old now p a new) (w : Ours old now p b other). one_body wire old now p a b new other v.rest w.rest)

record Bad (old : EndpointView) (bytes : List ℕ) (a : Arrived) (new : EndpointView) : Type 0 where
  pub f : IpxFault
  pub answer : a ≡ Arriveds.Bad f
  pub fault : ipx_fault bytes ≡ Some f
  pub unheard : Unheard old new

record Packet (old : EndpointView) (bytes : List ℕ) (now : ℕ) (a : Arrived) (new : EndpointView) : Type 0 where
  pub packet : PacketView
  pub is : BeginsWith bytes packet
  pub rest : Elsewhere old packet a new ⊎ Ours old now packet a new

one_bad : (old : EndpointView) (bytes : List ℕ) (a b : Arrived) (new other : EndpointView) → Bad old bytes a new → Bad old bytes b other → One a b new other
one_bad old bytes a b new other x y =
    let same : y.f ≡ x.f = cc (sym y.fault ∙ x.fault) in
    one_unheard a b (Arriveds.Bad x.f) old new other x.answer (y.answer ∙ ap Arriveds.Bad same) x.unheard y.unheard

one_read : WireLaws → (old : EndpointView) (bytes : List ℕ) (now : ℕ) (a b : Arrived) (new other : EndpointView) → Packet old bytes now a new → Packet old bytes now b other → One a b new other
one_read wire old bytes now a b new other x y =
    let same = wire.one_packet y.packet x.packet bytes y.is.0 x.is.0 y.is.1 x.is.1 in
    let P : PacketView → Type 0 = λ p. Elsewhere old p b other ⊎ Ours old now p b other in
    one_packet wire old now x.packet a b new other x.rest (subst P same.0 y.rest)

one_datagram : WireLaws → (old : EndpointView) (bytes : List ℕ) (now : ℕ) (a b : Arrived) (new other : EndpointView) → Bad old bytes a new ⊎ Packet old bytes now a new → Bad old bytes b other ⊎ Packet old bytes now b other → One a b new other
one_datagram wire old bytes now a b new other x y =
    both x y (one_bad old bytes a b new other)
    (λ (v : Bad old bytes a new) (w : Packet old bytes now b other). none_or_some (ipx_fault bytes) v.f (wire.no_ipx_fault w.packet bytes w.is.0 w.is.1) v.fault)
    (λ (v : Packet old bytes now a new) (w : Bad old bytes b other). none_or_some (ipx_fault bytes) w.f (wire.no_ipx_fault v.packet bytes v.is.0 v.is.1) w.fault)
    (one_read wire old bytes now a b new other)

-- ---- the questions in order

came : (old : EndpointView) (bytes : List ℕ) (now : ℕ) (p : PacketView) (h : SpxHeader) (body : List ℕ) (a : Arrived) (new : EndpointView) → Comes old p h body bytes → Asks old now p h a new ⊎ Other old p h body a new → Packet old bytes now a new
came old bytes now p h body a new c rest = record {
  packet = p;
  is = (c.is.tail, c.is.packet);
  rest = inr (record { ours = c.ours; rest = inr (record { header = h; body = body; is = c.is.spx; rest = rest }) });
}

asked : (old : EndpointView) (bytes : List ℕ) (now : ℕ) (p : PacketView) (h : SpxHeader) (body : List ℕ) (a : Arrived) (new : EndpointView) → IsNewRequest old p h body bytes → Deaf old p a new ⊎ Listening old now p h a new → Packet old bytes now a new
asked old bytes now p h body a new x rest =
    came old bytes now p h body a new x.comes (inl (record { request = x.request; rest = inr (record { fresh = x.new; rest = rest }) }))

no_listener : (old : EndpointView) (bytes : List ℕ) (now : ℕ) (new : EndpointView) → IsUnheard old bytes → Unheard old new → Packet old bytes now Arriveds.NoListener new
no_listener old bytes now new x u =
    asked old bytes now x.packet x.header x.body Arriveds.NoListener new x.asks (inl (record { answer = refl; no_listener = x.no_listener; unheard = u }))

full : (old : EndpointView) (bytes : List ℕ) (now : ℕ) (new : EndpointView) → IsOneTooMany old bytes → Unheard old new → Packet old bytes now Arriveds.NoRoom new
full old bytes now new x u =
    asked old bytes now x.packet x.header x.body Arriveds.NoRoom new x.asks (inr (record { buffers = x.buffers; listens = x.listens; rest = inl (record { answer = refl; full = x.full; unheard = u }) }))

accepted : (old : EndpointView) (bytes : List ℕ) (now id : ℕ) (new : EndpointView) → IsAccepted old bytes now id new → Packet old bytes now (Arriveds.Accepted id) new
accepted old bytes now id new x =
    asked old bytes now x.packet x.header x.body (Arriveds.Accepted id) new x.asks (inr (record { buffers = x.buffers; listens = x.listens; rest = inr (record { id = id; answer = refl; room = x.room; free = x.free; adds = x.adds; heard = x.heard }) }))

again : (old : EndpointView) (bytes : List ℕ) (now id : ℕ) (r : Received) (new : EndpointView) → IsAskedAgain old bytes id new → r ≡ Receiveds.Repeat → Packet old bytes now (Arriveds.Link id r) new
again old bytes now id r new x repeat =
    came old bytes now x.packet x.header x.body (Arriveds.Link id r) new x.comes (inl (record { request = x.request; rest = inl (record { id = id; answer = ap (Arriveds.Link id) repeat; least = x.least; held = x.held; at = x.at; changes = x.changes; heard = x.heard }) }))

heard : (old : EndpointView) (bytes : List ℕ) (now id : ℕ) (r : Received) (new : EndpointView) → IsHeard old bytes id r new → Packet old bytes now (Arriveds.Link id r) new
heard old bytes now id r new x =
    let back : id ≡ x.header.to_id = sym x.to in
    let at : held_at old x.header.to_id ≡ Some x.held = subst (λ n. held_at old n ≡ Some x.held) back x.at in
    let changes : ChangesEnd old new x.header.to_id (record (x.held) { link = (receive_link x.held.link x.header x.body).1 }) =
    subst (λ n. ChangesEnd old new n (record (x.held) { link = (receive_link x.held.link x.header x.body).1 })) back x.changes in
    came old bytes now x.packet x.header x.body (Arriveds.Link id r) new x.comes (inr (record { other = x.other; rest = inr (record { read = r; answer = ap (λ n. Arriveds.Link n r) back; held = x.held; at = at; local = x.local; remote = x.remote; reads = x.answer; known = x.read; changes = changes; heard = x.heard ∙ ap Some back }) }))

strange : (old : EndpointView) (bytes : List ℕ) (now : ℕ) (new : EndpointView) → IsStrange old bytes → Unheard old new → Packet old bytes now Arriveds.Stranger new
strange old bytes now new x u =
    came old bytes now x.packet x.header x.body Arriveds.Stranger new x.comes (inr (record { other = x.other; rest = inl (record { answer = refl; none = x.none; unheard = u }) }))

in_order : (old : EndpointView) (bytes : List ℕ) (now : ℕ) (a : Arrived) (new : EndpointView) → Answers old bytes now a new → Bad old bytes a new ⊎ Packet old bytes now a new
in_order old bytes now (Arriveds.Bad f) new x = inl (record { f = f; answer = refl; fault = x.0; unheard = x.1 })
in_order old bytes now Arriveds.NotOurs new x = inr (record { packet = x.0.packet; is = x.0.is; rest = inl (record { answer = refl; not = x.0.not; unheard = x.1 }) })
in_order old bytes now (Arriveds.BadSpx f) new x = inr (record { packet = x.0.packet; is = x.0.is; rest = inr (record { ours = x.0.ours; rest = inl (record { f = f; answer = refl; fault = x.0.fault; unheard = x.1 }) }) })
in_order old bytes now Arriveds.NoListener new x = inr (no_listener old bytes now new x.0 x.1)
in_order old bytes now Arriveds.NoRoom new x = inr (full old bytes now new x.0 x.1)
in_order old bytes now Arriveds.Stranger new x = inr (strange old bytes now new x.0 x.1)
in_order old bytes now (Arriveds.Accepted id) new x = inr (accepted old bytes now id new x)
in_order old bytes now (Arriveds.Link id r) new (inl x) = inr (again old bytes now id r new x.0 x.1)
in_order old bytes now (Arriveds.Link id r) new (inr x) = inr (heard old bytes now id r new x)

pub once : WireLaws → (old new other : EndpointView) (bytes : List ℕ) (now : ℕ) (a b : Arrived) → Arrives old bytes now a new → Arrives old bytes now b other → One a b new other
once wire old new other bytes now a b x y =
    one_datagram wire old bytes now a b new other (in_order old bytes now a new x.answers) (in_order old bytes now b other y.answers)
