-- The lines that `show --frame` prints for a frame, or for bytes that are none.
use Rattle.std.specs.Prelude.{ℕ, List, [], ◌∷◌, ◌++◌, codes}
use Rattle.std.specs.Fmt.{decimal}
use Rattle.std.specs.Int.{w16, to_be_bytes}
use Rattle.hex.specs.Hex.{encode_lower}
use Rattle.ipx_inspect.specs.Line.{fault_text, numbered}
use Rattle.ipx_ethernet.specs.declared.encapsulation.Encapsulation.{Encapsulation}
use Rattle.ipx_ethernet.specs.declared.encapsulation.Encapsulation.TheVariants.{Raw, Llc, Snap, EthernetII}
use Rattle.ipx_ethernet.specs.declared.fault.FrameFault.{FrameFault}
use Rattle.ipx_ethernet.specs.declared.fault.FrameFault.TheVariants.{FrameShort, FrameLong, SourceGroup, SourceZero, OwnSource, OtherStation, Tagged, OtherType, FrameTruncated, OtherLlc, NoPacket, PacketLong, NoRoom}
use Rattle.ipx_ethernet.specs.Frame.{FrameView}
use Rattle.ipx_ethernet.specs.FrameFault.{frame_fault_number}

abbrev pub encapsulation_text : Encapsulation → List ℕ
encapsulation_text Raw = codes "802.3"
encapsulation_text Llc = codes "802.2"
encapsulation_text Snap = codes "snap"
encapsulation_text EthernetII = codes "ethernet-ii"

-- the line of a frame: its encapsulation, and its stations in 12 hex digits each
abbrev pub frame_line : Encapsulation → FrameView → List ℕ
frame_line e f =
    codes "frame " ++ (encapsulation_text e ++ (codes " to " ++ (encode_lower f.to.0
    ++ (codes " from " ++ (encode_lower f.from.0 ++ 10 ∷ [])))))

-- a type in 4 hex digits
abbrev pub type_text : ℕ → List ℕ
type_text value = encode_lower (to_be_bytes w16 value)

-- a fault's name and its values: stations and types in hex, a fault of the packet with its number
abbrev pub frame_fault_name : FrameFault → List ℕ
frame_fault_name (FrameShort have) = codes "FrameShort " ++ decimal have
frame_fault_name (FrameLong have) = codes "FrameLong " ++ decimal have
frame_fault_name (SourceGroup address) = codes "SourceGroup " ++ encode_lower address.0
frame_fault_name SourceZero = codes "SourceZero"
frame_fault_name OwnSource = codes "OwnSource"
frame_fault_name (OtherStation address) = codes "OtherStation " ++ encode_lower address.0
frame_fault_name (Tagged value) = codes "Tagged " ++ type_text value
frame_fault_name (OtherType value) = codes "OtherType " ++ type_text value
frame_fault_name (FrameTruncated said have) =
    codes "FrameTruncated " ++ (decimal said ++ (codes " " ++ decimal have))
frame_fault_name OtherLlc = codes "OtherLlc"
frame_fault_name (NoPacket f) = codes "NoPacket " ++ fault_text f
frame_fault_name (PacketLong have most) =
    codes "PacketLong " ++ (decimal have ++ (codes " " ++ decimal most))
frame_fault_name (NoRoom want have) =
    codes "NoRoom " ++ (decimal want ++ (codes " " ++ decimal have))

-- the line for bytes that are not a frame: the fault with its number
abbrev pub no_frame_line : FrameFault → List ℕ
no_frame_line fault =
    codes "refused " ++ (numbered (frame_fault_number fault) (frame_fault_name fault) ++ 10 ∷ [])
