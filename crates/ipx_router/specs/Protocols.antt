-- Definitions for the private function that answers RIP and SAP.
use Rattle.ipx_router.specs.declared.answering.Protocol.{Protocol}
use Rattle.ipx_router.specs.declared.answering.Protocol.TheVariants as protocols
use Rattle.ipx_router.specs.declared.classify.PacketClass.{PacketClass}
use Rattle.ipx_router.specs.declared.classify.PacketClass.TheVariants.{Rip, Sap}

-- the packet_class of a packet that this protocol answers
abbrev pub class_of_protocol : Protocol → PacketClass
class_of_protocol protocols.Rip = Rip
class_of_protocol protocols.Sap = Sap
