-- RIP packets (Novell IPX Router Specification): which bytes are one, and the first fault of bytes that are
-- none.
use Rattle.std.specs.Prelude.{◌≡◌, ◌≤◌, ◌<◌, ◌^◌, ℕ, ◌+◌, ◌-◌, ◌*◌, ◌/◌, List, ◌++◌, length, drop, All, Option, Some, nat_lt, ◌==◌, ◌||◌, if◌then◌else◌}
use Rattle.byteorder.specs.Endian.{big_bytes}
use Rattle.ipx_wire.specs.Ipx.{number}
use Rattle.ipx_control.specs.declared.fault.ControlFault.{ControlFault}
use Rattle.ipx_control.specs.declared.fault.ControlFault.TheVariants.{NoOperation, UnknownOperation}
use Rattle.ipx_control.specs.declared.rip.packet.RipEntry.{RipEntry}
use Rattle.ipx_control.specs.declared.rip.packet.Rip.{Rip}
use Rattle.ipx_control.specs.declared.rip.packet.Rip.TheVariants as rips
use Rattle.ipx_control.specs.declared.rip.packet.RipBody.{RipBody}
use Rattle.ipx_control.specs.declared.rip.packet.RipBody.TheVariants as bodies
use Rattle.ipx_control.specs.Entries.{AreEntries, entries_fault}

-- the size of an entry in bytes, and how many entries a packet may hold
abbrev pub rip_entry_size : ℕ
rip_entry_size = 8

abbrev pub rip_max_entries : ℕ
rip_max_entries = 50

-- a RIP packet without the place of its entries in memory
pub data RipView : Type 0 where
  Request : List RipEntry → RipView
  Response : List RipEntry → RipView

abbrev pub rip_view : Rip → RipView
rip_view (rips.Request entries) = Request entries.items
rip_view (rips.Response entries) = Response entries.items

-- the same of one whose entries are borrowed
abbrev pub rip_body_view : RipBody → RipView
rip_body_view (bodies.Request entries) = Request entries
rip_body_view (bodies.Response entries) = Response entries

abbrev pub rip_operation : RipView → ℕ
rip_operation (Request entries) = 1
rip_operation (Response entries) = 2

abbrev pub rip_entries : RipView → List RipEntry
rip_entries (Request entries) = entries
rip_entries (Response entries) = entries

-- the bytes begin with an entry: network 4 bytes, hops 2, ticks 2
pub record IsRipEntry (e : RipEntry) (bytes : List ℕ) : Type 0 where
  pub network : number 4 0 bytes ≡ e.network.0
  pub hops : number 2 4 bytes ≡ e.hops
  pub ticks : number 2 6 bytes ≡ e.ticks

-- the bytes are the packet: operation 2 bytes, followed by entries within the limit, and a tail that is
-- shorter than an entry
pub record IsRip (m : RipView) (bytes tail : List ℕ) : Type 0 where
  pub has_operation : 2 ≤ length bytes
  pub operation : number 2 0 bytes ≡ rip_operation m
  pub entries : AreEntries IsRipEntry rip_entry_size (rip_entries m) (drop 2 bytes) tail
  pub limit : length (rip_entries m) ≤ rip_max_entries
  pub short_tail : length tail < rip_entry_size

-- the first reason why bytes are no RIP packet
abbrev pub rip_fault : List ℕ → Option ControlFault
rip_fault bytes =
    if nat_lt (length bytes) 2 then Some NoOperation
    else if (number 2 0 bytes == 1) || (number 2 0 bytes == 2) then
    entries_fault rip_max_entries ((length bytes - 2) / rip_entry_size)
    else Some (UnknownOperation (number 2 0 bytes))

-- the values that fit in an entry
pub record IsRipEntryInRange (e : RipEntry) : Type 0 where
  pub network : e.network.0 < 2 ^ 32
  pub hops : e.hops < 2 ^ 16
  pub ticks : e.ticks < 2 ^ 16

-- the values that fit in a packet
pub record IsRipInRange (m : RipView) : Type 0 where
  pub entries : All IsRipEntryInRange (rip_entries m)
  pub limit : length (rip_entries m) ≤ rip_max_entries

-- the size of a packet in bytes
abbrev pub rip_size : RipView → ℕ
rip_size m = 2 + rip_entry_size * length (rip_entries m)

-- the bytes of an entry
abbrev pub rip_entry_bytes : RipEntry → List ℕ
rip_entry_bytes e = big_bytes 4 e.network.0 ++ big_bytes 2 e.hops ++ big_bytes 2 e.ticks
