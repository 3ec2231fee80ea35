-- SAP packets (Novell IPX Router Specification): which bytes are one, and the first fault of bytes that are
-- none.
use Rattle.std.specs.Prelude.{◌≡◌, ◌≤◌, ◌<◌, ◌^◌, ℕ, ◌+◌, ◌-◌, ◌*◌, ◌/◌, Bool, List, [], ◌++◌, length, take, drop, All, Option, Some, None, nat_lt, ◌==◌, ◌||◌, if◌then◌else◌}
use Rattle.byteorder.specs.Endian.{big_bytes}
use Rattle.ipx_wire.specs.Ipx.{IsAddress, IsAddressInRange, IsBytes, address_bytes, number}
use Rattle.ipx_control.specs.declared.fault.ControlFault.{ControlFault}
use Rattle.ipx_control.specs.declared.fault.ControlFault.TheVariants.{NoOperation, UnknownOperation, QueryShort}
use Rattle.ipx_control.specs.declared.sap.packet.ServiceEntry.{ServiceEntry}
use Rattle.ipx_control.specs.declared.sap.packet.Sap.{Sap}
use Rattle.ipx_control.specs.declared.sap.packet.Sap.TheVariants as saps
use Rattle.ipx_control.specs.declared.sap.packet.SapBody.{SapBody}
use Rattle.ipx_control.specs.declared.sap.packet.SapBody.TheVariants as bodies
use Rattle.ipx_control.specs.Entries.{AreEntries, entries_fault}

-- the size of a service in bytes, and how many services a response may hold
abbrev pub service_size : ℕ
service_size = 64

abbrev pub sap_max_services : ℕ
sap_max_services = 7

-- a SAP packet without the place of its services in memory; the flag says whether it is about the nearest
-- service
pub data SapView : Type 0 where
  Query : Bool → ℕ → SapView
  Response : Bool → List ServiceEntry → SapView

abbrev pub sap_view : Sap → SapView
sap_view (saps.Query nearest kind) = Query nearest kind
sap_view (saps.Response nearest services) = Response nearest services.items

-- the same of one whose services are borrowed
abbrev pub sap_body_view : SapBody → SapView
sap_body_view (bodies.Query nearest kind) = Query nearest kind
sap_body_view (bodies.Response nearest services) = Response nearest services

-- the services of a packet
abbrev pub sap_services : SapView → List ServiceEntry
sap_services (Query nearest kind) = []
sap_services (Response nearest services) = services

-- the operation of a query, and that of a response
abbrev pub query_operation : Bool → ℕ
query_operation nearest = if nearest then 3 else 1

abbrev pub response_operation : Bool → ℕ
response_operation nearest = if nearest then 4 else 2

-- the bytes begin with a service: type 2 bytes, name 48, address 12, hops 2
pub record IsServiceEntry (e : ServiceEntry) (bytes : List ℕ) : Type 0 where
  pub kind : number 2 0 bytes ≡ e.kind
  pub name : take 48 (drop 2 bytes) ≡ e.name
  pub at : IsAddress e.at (drop 50 bytes)
  pub hops : number 2 62 bytes ≡ e.hops

-- the bytes are a query, operation 2 bytes and service type 2, followed by the tail
pub record IsSapQuery (nearest : Bool) (kind : ℕ) (bytes tail : List ℕ) : Type 0 where
  pub has_query : 4 ≤ length bytes
  pub operation : number 2 0 bytes ≡ query_operation nearest
  pub service : number 2 2 bytes ≡ kind
  pub rest : drop 4 bytes ≡ tail

-- the bytes are a response: operation 2 bytes, followed by services within the limit, and a tail that is
-- shorter than a service
pub record IsSapResponse (nearest : Bool) (services : List ServiceEntry)
    (bytes tail : List ℕ) : Type 0 where
  pub has_operation : 2 ≤ length bytes
  pub operation : number 2 0 bytes ≡ response_operation nearest
  pub entries : AreEntries IsServiceEntry service_size services (drop 2 bytes) tail
  pub limit : length services ≤ sap_max_services
  pub short_tail : length tail < service_size

-- the bytes are the packet, followed by the tail
abbrev pub IsSap : SapView → List ℕ → List ℕ → Type 0
IsSap (Query nearest kind) bytes tail = IsSapQuery nearest kind bytes tail
IsSap (Response nearest services) bytes tail = IsSapResponse nearest services bytes tail

-- the first reason why bytes are no SAP packet
abbrev pub sap_fault : List ℕ → Option ControlFault
sap_fault bytes =
    if nat_lt (length bytes) 2 then Some NoOperation
    else if (number 2 0 bytes == 1) || (number 2 0 bytes == 3) then (
    if nat_lt (length bytes) 4 then Some (QueryShort (length bytes)) else None
    )
    else if (number 2 0 bytes == 2) || (number 2 0 bytes == 4) then
    entries_fault sap_max_services ((length bytes - 2) / service_size)
    else Some (UnknownOperation (number 2 0 bytes))

-- the values that fit in a service
pub record IsServiceEntryInRange (e : ServiceEntry) : Type 0 where
  pub kind : e.kind < 2 ^ 16
  pub name : length e.name ≡ 48
  pub at : IsAddressInRange e.at
  pub hops : e.hops < 2 ^ 16

-- the lists of a service are bytes
pub record ServiceHoldsBytes (e : ServiceEntry) : Type 0 where
  pub name : IsBytes e.name
  pub node : IsBytes e.at.node.0

-- the values that fit in a packet
pub record AreServicesInRange (services : List ServiceEntry) : Type 0 where
  pub each : All IsServiceEntryInRange services
  pub limit : length services ≤ sap_max_services

abbrev pub IsSapInRange : SapView → Type 0
IsSapInRange (Query nearest kind) = kind < 2 ^ 16
IsSapInRange (Response nearest services) = AreServicesInRange services

-- which tails may follow a packet: any after a query, a short one after a response
abbrev pub IsSapTail : SapView → List ℕ → Type 0
IsSapTail (Query nearest kind) tail = Unit {0}
IsSapTail (Response nearest services) tail = length tail < service_size

-- the packet has at most as many services as it may hold
abbrev pub IsSapWithinLimit : SapView → Type 0
IsSapWithinLimit (Query nearest kind) = Unit {0}
IsSapWithinLimit (Response nearest services) = length services ≤ sap_max_services

-- the size of a packet in bytes
abbrev pub sap_size : SapView → ℕ
sap_size (Query nearest kind) = 4
sap_size (Response nearest services) = 2 + service_size * length services

-- the bytes of a service
abbrev pub service_bytes : ServiceEntry → List ℕ
service_bytes e = big_bytes 2 e.kind ++ e.name ++ address_bytes e.at ++ big_bytes 2 e.hops
