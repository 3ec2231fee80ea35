-- How a written packet is read, and how it is read after a router forwarded it.
use Rattle.std.proofs.Common.{◌≡◌, ℕ, List, [], sym, ◌∙◌, ap, subst}
use Rattle.ipx_wire.specs.declared.spx.packet.SpxHeader.{SpxHeader}
use Rattle.ipx_wire.specs.declared.address.Network.{Network}
use Rattle.ipx_wire.specs.Ipx.{PacketView}
use Rattle.ipx_wire.specs.Spx.{IsSpx}
use Rattle.spx_link.specs.Poll.{OutgoingView}
use Rattle.spx_link.specs.LinkView.{LinkView}
use Rattle.ipx_wire.specs.Connection.{IsConnectionPacket}
use Rattle.spx_theory.specs.SentUnits.{SaysOnly}
use Rattle.spx_theory.specs.PacketsOnWay.{IsOneOn, one_on}
use Rattle.spx_messages.specs.WrittenPackets.{Home, IsWrittenPacket}
use Rattle.spx_theory.specs.Below.{LawsBelow}

-- what was written is read as what was given, and in no other way
pub written_says : (laws : LawsBelow) (home : Home) (l : LinkView) (g : OutgoingView) (bytes : List ℕ) → IsWrittenPacket home l g bytes → SaysOnly g.header g.body bytes
written_says laws home l g bytes w p k other reads =
    let same = (laws.one_packet p w.packet bytes reads.tail [] reads.packet w.is).0 in
    let spx : IsSpx k other w.packet.body = subst (λ (q : PacketView). IsSpx k other q.body) same reads.spx in
    laws.one_spx k g.header other g.body w.packet.body spx w.spx

-- what a router forwarded is read like what it got, and in no other way
pub carried_reads : (laws : LawsBelow) (network : Network) (old new : List ℕ) → IsOneOn network old new
    → (p : PacketView) (h : SpxHeader) (body : List ℕ) → IsConnectionPacket p h body new → (q : PacketView) × IsConnectionPacket q h body old
carried_reads laws network old new on p h body reads =
    let same : p ≡ one_on network on.packet = (laws.one_packet p (one_on network on.packet) new reads.tail [] reads.packet on.becomes).0 in (
      on.packet,
      record {
        tail = on.tail;
        packet = on.is;
        kind = ap (λ (d : PacketView). d.header.kind) (sym same) ∙ reads.kind;
        spx = subst (λ (d : PacketView). IsSpx h body d.body) same reads.spx;
      },
    )
