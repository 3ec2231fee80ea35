-- A poll has exactly one result.
use Rattle.std.proofs.Common.{◌≡◌, ℕ, ◌+◌, ◌<◌, ◌≤◌, List, [], ◌++◌, length, take, drop, get_or, Option, None, Some, refl, ap, sym, subst, ◌∙◌, ◌⊎◌, inl, inr, arith, append-nil, take-append-drop}
use Rattle.std.proofs.lemmas.List.{get_or-drop, get_or-take, get_or_past, length-take, length-take-le}
use Rattle.ipx_wire.specs.Ipx.{IsBytes, IsIpx, PacketView}
use Rattle.ipx_wire.specs.Spx.{HasFreeBitsClear, IsSpx}
use Rattle.ipx_wire.specs.declared.address.Node.{Node}
use Rattle.ipx_wire.specs.declared.spx.packet.SpxHeader.{SpxHeader}
use Rattle.spx_link.specs.LinkView.{LinkView}
use Rattle.spx_link.specs.Poll.{OutgoingView, poll_link}
use Rattle.spx_messages.specs.WrittenPackets.{Home, IsWrittenPacket}
use Rattle.spx_messages.specs.Changes.{SameBut}
use Rattle.spx_messages.specs.EndpointView.{EndpointView, Held, held_at}
use Rattle.spx_messages.specs.OneValue.{IsBufferStill, IsOnePoll}
use Rattle.spx_messages.specs.Polls.{FirstLinkGives, Polls, RestsAt, home_of, next_node, polled_held}
use Rattle.spx_messages.proofs.Once.{below_or_not, none_or_some, same_self}

-- laws of the bytes of a packet
pub record ByteLaws : Type 0 where
  pub ipx : (p : PacketView) (a b tail : List ℕ) → IsBytes a → IsBytes b → IsIpx p a tail → IsIpx p b tail → a ≡ b
  pub spx : (h : SpxHeader) (body a b : List ℕ) → IsBytes a → IsBytes b → IsSpx h body a → IsSpx h body b → HasFreeBitsClear a → HasFreeBitsClear b → a ≡ b

-- ---- the bytes

body_in_range : (p : PacketView) (bytes : List ℕ) → IsBytes bytes → IsIpx p bytes [] → IsBytes p.body
body_in_range p bytes range is i =
    let body : drop 30 bytes ≡ p.body = is.body ∙ append-nil p.body in
    let at : get_or p.body i 0 ≡ get_or bytes (30 + i) 0 = ap (λ (xs : List ℕ). get_or xs i 0) (sym body) ∙ get_or-drop 30 bytes i 0 in
    subst (λ (n : ℕ). n < 256) (sym at) (range (30 + i))

front_in_range : (n : ℕ) (bytes : List ℕ) → IsBytes bytes → IsBytes (take n bytes)
front_in_range n bytes range i = by (below_or_not n i)
  where
    by : (n ≤ i) ⊎ (i < n) → get_or (take n bytes) i 0 < 256
    by (inl over) =
        let none : get_or (take n bytes) i 0 ≡ 0 = get_or_past (take n bytes) i 0 (omega (arith, over, length-take n bytes)) in
        subst (λ (k : ℕ). k < 256) (sym none) (omega arith)
    by (inr within) = subst (λ (k : ℕ). k < 256) (sym (get_or-take n bytes i 0 within)) (range i)

module _ (f : ByteLaws) (home : Home) (l : LinkView) (g : OutgoingView) where
  written_one : (a b : List ℕ) → IsBytes a → IsBytes b → (x : IsWrittenPacket home l g a) → (y : IsWrittenPacket home l g b) → HasFreeBitsClear x.packet.body → HasFreeBitsClear y.packet.body → a ≡ b
  written_one a b in_a in_b x y clear_x clear_y =
      let header : x.packet.header ≡ y.packet.header = λ i. record { hops = (x.hops ∙ sym y.hops) i; kind = (x.kind ∙ sym y.kind) i; to = (x.to ∙ sym y.to) i; from = (x.from ∙ sym y.from) i } in
      let body : x.packet.body ≡ y.packet.body = f.spx g.header g.body x.packet.body y.packet.body (body_in_range x.packet a in_a x.is) (body_in_range y.packet b in_b y.is) x.spx y.spx clear_x clear_y in
      let same : x.packet ≡ y.packet = λ i. record { header = header i; body = body i } in
      f.ipx y.packet a b [] in_a in_b (subst (λ (p : PacketView). IsIpx p a []) same x.is) y.is

-- the same length, and the same buffer
count_one : (n m : ℕ) (a b : List ℕ) → n ≤ length a → m ≤ length b → take n a ≡ take m b → n ≡ m
count_one n m a b fits_n fits_m same = sym (length-take-le n a fits_n) ∙ ap length same ∙ length-take-le m b fits_m

room_one : (n m : ℕ) (room a b : List ℕ) → n ≡ m → take n a ≡ take m b → drop n a ≡ drop n room → drop m b ≡ drop m room → a ≡ b
room_one n m room a b count front back_a back_b =
    let back : drop n a ≡ drop m b = back_a ∙ ap (λ (k : ℕ). drop k room) count ∙ sym back_b in
    sym (take-append-drop n a) ∙ (λ i. front i ++ back i) ∙ take-append-drop m b

-- ---- the links

rests_alike : (old new other : EndpointView) (now q : ℕ) (o : Option Held) → held_at old q ≡ o → RestsAt old new now q → RestsAt old other now q → held_at other q ≡ held_at new q
rests_alike old new other now q None is x y = y.none is ∙ sym (x.none is)
rests_alike old new other now q (Some h) is x y = (y.asked h is).1 ∙ sym (x.asked h is).1

-- a link that gives a packet does not give nothing
gives_or_rests : {A : Type 0} (old new : EndpointView) (now id : ℕ) (h : Held) (g : OutgoingView) → held_at old id ≡ Some h → (poll_link h.link now).0 ≡ Some g → RestsAt old new now id → A
gives_or_rests {A} old new now id h g at gives rests = none_or_some (poll_link h.link now).0 g (rests.asked h at).0 gives

module _ (old : EndpointView) (now : ℕ) where
  -- what is known of the link that gave a packet
  record Gave (id : ℕ) (held : Held) (given : OutgoingView) (node : Node) (n : ℕ) (room written : List ℕ) (new : EndpointView) : Type 0 where
    becomes : held_at new id ≡ Some (polled_held held now)
    below : (q : ℕ) → q < id → RestsAt old new now q
    above : (q : ℕ) → id < q → held_at new q ≡ held_at old q
    said : new.said ≡ Some (id, given.what)
    short : n ≤ 576
    is : IsWrittenPacket (home_of old) held.link given (take n written)
    clear : HasFreeBitsClear is.packet.body
    behind : drop n written ≡ drop n room
    next : node ≡ next_node old held.link.remote

  gave : (node : Node) (n : ℕ) (room written : List ℕ) (new : EndpointView) (x : FirstLinkGives old now node n room written new) → Gave x.id x.held x.given node n room written new
  gave node n room written new x = record { becomes = x.becomes; below = x.below; above = x.above; said = x.said; short = x.short; is = x.is; clear = x.clear; behind = x.behind; next = x.next }

  -- two results of one link
  module _ (f : ByteLaws) (id : ℕ) (held : Held) (given : OutgoingView) (node_a node_b : Node) (n m : ℕ) (room a b : List ℕ) (new other : EndpointView) where
    held_one : Gave id held given node_a n room a new → Gave id held given node_b m room b other → (q : ℕ) → held_at other q ≡ held_at new q
    held_one x y q = by (below_or_not id q) (below_or_not q id)
      where
        by : (id ≤ q) ⊎ (q < id) → (q ≤ id) ⊎ (id < q) → held_at other q ≡ held_at new q
        by (inr low) k = rests_alike old new other now q (held_at old q) refl (x.below q low) (y.below q low)
        by (inl h) (inr up) = y.above q up ∙ sym (x.above q up)
        by (inl h) (inl k) =
            let here : id ≡ q = omega (arith, h, k) in
            subst (λ (j : ℕ). held_at other j ≡ held_at new j) here (y.becomes ∙ sym x.becomes)

    gave_one : 576 ≤ length room → IsBufferStill room a → IsBufferStill room b → Gave id held given node_a n room a new → Gave id held given node_b m room b other
        → (node_a ≡ node_b) × (n ≡ m) × (a ≡ b) × ((q : ℕ) → held_at other q ≡ held_at new q) × (other.said ≡ new.said)
    gave_one fits still_a still_b x y =
        let front : take n a ≡ take m b = written_one f (home_of old) held.link given (take n a) (take m b) (front_in_range n a still_a.bytes) (front_in_range m b still_b.bytes) x.is y.is x.clear y.clear in
        let count : n ≡ m = count_one n m a b (omega (arith, fits, still_a.size, x.short)) (omega (arith, fits, still_b.size, y.short)) front in
        let node : node_a ≡ node_b = x.next ∙ sym y.next in
        (node, count, room_one n m room a b count front x.behind y.behind, held_one x y, y.said ∙ sym x.said)

-- ---- the first link that gives a packet is determined

module _ (old : EndpointView) (now : ℕ) (node_a node_b : Node) (n m : ℕ) (room a b : List ℕ) (new other : EndpointView) where
  abbrev FirstA : Type 0
  FirstA = FirstLinkGives old now node_a n room a new

  abbrev FirstB : Type 0
  FirstB = FirstLinkGives old now node_b m room b other

  id_one : (x : FirstA) (y : FirstB) → x.id ≡ y.id
  id_one x y = by (below_or_not x.id y.id) (below_or_not y.id x.id)
    where
      by : (x.id ≤ y.id) ⊎ (y.id < x.id) → (y.id ≤ x.id) ⊎ (x.id < y.id) → x.id ≡ y.id
      by (inr low) k = gives_or_rests old new now y.id y.held y.given y.at y.gives (x.below y.id low)
      by (inl h) (inr low) = gives_or_rests old other now x.id x.held x.given x.at x.gives (y.below x.id low)
      by (inl h) (inl k) = omega (arith, h, k)

  link_one : (x : FirstA) (y : FirstB) → x.held ≡ y.held
  link_one x y =
      let both : Some x.held ≡ Some y.held = sym x.at ∙ ap (held_at old) (id_one x y) ∙ y.at in
      cc both

  given_one : (x : FirstA) (y : FirstB) → x.given ≡ y.given
  given_one x y =
      let both : Some x.given ≡ Some y.given = sym x.gives ∙ ap (λ (h : Held). (poll_link h.link now).0) (link_one x y) ∙ y.gives in
      cc both

  first_one : ByteLaws → 576 ≤ length room → IsBufferStill room a → IsBufferStill room b → (x : FirstA) (y : FirstB)
      → (node_a ≡ node_b) × (n ≡ m) × (a ≡ b) × ((q : ℕ) → held_at other q ≡ held_at new q) × (other.said ≡ new.said)
  first_one f fits still_a still_b x y =
      let moved = subst (λ (k : ℕ). Gave old now k x.held x.given node_a n room a new) (id_one x y) (gave old now node_a n room a new x) in
      let linked = subst (λ (h : Held). Gave old now y.id h x.given node_a n room a new) (link_one x y) moved in
      let given = subst (λ (g : OutgoingView). Gave old now y.id y.held g node_a n room a new) (given_one x y) linked in
      gave_one old now f y.id y.held y.given node_a node_b n m room a b new other fits still_a still_b given (gave old now node_b m room b other y)

same_but : (old new other : EndpointView) (now : ℕ) (a b : Option (Node × ℕ)) (room written_a written_b : List ℕ) → Polls old now a room written_a new → Polls old now b room written_b other → ((q : ℕ) → held_at other q ≡ held_at new q) → SameBut new other
same_but old new other now a b room written_a written_b x y held = record {
  held = held;
  last = y.last ∙ sym x.last;
  count = y.count ∙ sym x.count;
  self = same_self old new other x.self y.self;
}

pub one_poll : ByteLaws → IsOnePoll
one_poll f old new other now None None room written_a written_b fits still_a still_b x y = record {
  result = refl;
  written = x.gives.room' ∙ sym y.gives.room';
  same = same_but old new other now None None room written_a written_b x y (λ q. rests_alike old new other now q (held_at old q) refl (x.gives.each q) (y.gives.each q));
  said = y.gives.said ∙ sym x.gives.said;
  heard = y.heard ∙ sym x.heard;
}
one_poll f old new other now None (Some s) room written_a written_b fits still_a still_b x y =
    gives_or_rests old new now y.gives.id y.gives.held y.gives.given y.gives.at y.gives.gives (x.gives.each y.gives.id)
one_poll f old new other now (Some r) None room written_a written_b fits still_a still_b x y =
    gives_or_rests old other now x.gives.id x.gives.held x.gives.given x.gives.at x.gives.gives (y.gives.each x.gives.id)
one_poll f old new other now (Some r) (Some s) room written_a written_b fits still_a still_b x y =
    let one = first_one old now r.0 s.0 r.1 s.1 room written_a written_b new other f fits still_a still_b x.gives y.gives in
    record {
      result = λ i. Some (one.0 i, one.1 i);
      written = one.2;
      same = same_but old new other now (Some r) (Some s) room written_a written_b x y one.3;
      said = one.4;
      heard = y.heard ∙ sym x.heard;
    }
