-- A packet that is written after the place of its header, followed by that header.
use Rattle.std.proofs.Common.{◌≡◌, ◌≤◌, ℕ, ◌+◌, ◌-◌, List, [], ◌++◌, length, take, drop, arith, sym, ap, subst, ◌∙◌}
use Rattle.std.proofs.lemmas.List.{drop-drop, length-drop, length-take-le, drop_at, drop_all, append-nil, take_rest}
use Rattle.ipx_wire.specs.Assigned.{ipx_header_size, spx_type}
use Rattle.ipx_wire.specs.Ipx.{IsIpx, packet_of}
use Rattle.ipx_wire.specs.Spx.{HasFreeBitsClear, IsSpx}
use Rattle.ipx_wire.specs.declared.address.Address.{Address}
use Rattle.ipx_wire.specs.declared.ipx.packet.IpxHeader.{IpxHeader}
use Rattle.spx_link.specs.Poll.{OutgoingView}
use Rattle.spx_messages.specs.EndpointTurns.{IsPacketBetween}
use borrow.Rule.Slice.PartMut.{put_mid, mid_of}

-- what follows an index after everything from there on was written
pub from_place : (a : ℕ) (room inner : List ℕ) → a ≤ length room → drop a (put_mid a (length room - a) room inner) ≡ inner
from_place a room inner fits =
    let end : drop (length room - a) (drop a room) ≡ [] = drop_all (length room - a) (drop a room) (omega (arith, length-drop a room)) in
    let rest : inner ++ drop (length room - a) (drop a room) ≡ inner = ap (λ (l : List ℕ). inner ++ l) end ∙ append-nil inner in
    drop_at (take a room) _ a (length-take-le a room fits) ∙ rest

-- after both headers and the body the buffer is unchanged
pub behind : (count : ℕ) (room inner written : List ℕ) → 30 ≤ length room → drop count inner ≡ drop count (mid_of 30 (length room - 30) room) → drop 30 written ≡ drop 30 (put_mid 30 (length room - 30) room inner) → drop (30 + count) written ≡ drop (30 + count) room
behind count room inner written fits inside outside =
    let all : mid_of 30 (length room - 30) room ≡ drop 30 room = take_rest room 30 in
    sym (drop-drop count 30 written) ∙ ap (drop count) (outside ∙ from_place 30 room inner fits) ∙ inside ∙ ap (drop count) all ∙ drop-drop count 30 room

-- the bytes are that packet
pub between : (from to : Address) (g : OutgoingView) (count : ℕ) (room inner bytes : List ℕ) → 30 ≤ length room → IsSpx g.header g.body (take count inner) → HasFreeBitsClear (take count inner) → IsIpx (packet_of (record { hops = 0; kind = spx_type; to = to; from = from }) (take count (drop ipx_header_size (put_mid 30 (length room - 30) room inner)))) bytes [] → IsPacketBetween from to g bytes
between from to g count room inner bytes fits spx clear ipx =
    let header : IpxHeader = record { hops = 0; kind = spx_type; to = to; from = from } in
    let same : take count (drop ipx_header_size (put_mid 30 (length room - 30) room inner)) ≡ take count inner = ap (take count) (from_place 30 room inner fits) in
    record { body = take count inner; spx = spx; clear = clear; ipx = subst (λ b. IsIpx (packet_of header b) bytes []) same ipx }
