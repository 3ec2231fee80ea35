-- The bytes of RIP and SAP packets are bytes.
use Rattle.std.proofs.Common.{ℕ, suc, List, ◌++◌, [], ◌∷◌, arith}
use Rattle.std.specs.Prelude.{All}
use Rattle.std.specs.List.{flat_map}
use Rattle.byteorder.specs.Endian.{big_bytes}
use Rattle.ipx_wire.specs.FieldLaws.{FieldLaws}
use Rattle.ipx_wire.specs.Ipx.{IsBytes, address_bytes}
use Rattle.ipx_control.specs.declared.rip.packet.RipEntry.{RipEntry}
use Rattle.ipx_control.specs.declared.sap.packet.ServiceEntry.{ServiceEntry}
use Rattle.ipx_control.specs.Rip.{RipView, rip_entries, rip_entry_bytes, rip_operation}
use Rattle.ipx_control.specs.Sap.{ServiceHoldsBytes, SapView, Query, Response, query_operation, response_operation, sap_services, service_bytes}
use Rattle.ipx_control.proofs.SapPackets.{sap_bytes}

-- the bytes of entries one after another
IsBytes-entries : FieldLaws → {E : Type 0} (spelled : E → List ℕ) (P : E → Type 0) → ((e : E) → P e → IsBytes (spelled e)) → (es : List E) → All P es → IsBytes (flat_map spelled es)
IsBytes-entries laws spelled P each [] all = λ i. omega arith
IsBytes-entries laws spelled P each (e ∷ es) all =
    laws.bytes.joined (spelled e) (flat_map spelled es) (each e (all 0 e (omega arith)))
    (IsBytes-entries laws spelled P each es (λ k d lt. all (suc k) d (omega arith)))

IsBytes-rip_entry : FieldLaws → (e : RipEntry) → IsBytes (rip_entry_bytes e)
IsBytes-rip_entry laws e =
    laws.bytes.joined (big_bytes 4 e.network.0 ++ big_bytes 2 e.hops) (big_bytes 2 e.ticks)
    (laws.bytes.joined (big_bytes 4 e.network.0) (big_bytes 2 e.hops) (laws.numbers.has_bytes 4 e.network.0) (laws.numbers.has_bytes 2 e.hops)) (laws.numbers.has_bytes 2 e.ticks)

pub IsBytes-rip : FieldLaws → (m : RipView) → IsBytes (big_bytes 2 (rip_operation m) ++ flat_map rip_entry_bytes (rip_entries m))
IsBytes-rip laws m =
    laws.bytes.joined (big_bytes 2 (rip_operation m)) (flat_map rip_entry_bytes (rip_entries m)) (laws.numbers.has_bytes 2 (rip_operation m))
    (IsBytes-entries laws rip_entry_bytes (λ e. Unit {0}) (λ e _. IsBytes-rip_entry laws e) (rip_entries m) (λ k d lt. tt))

IsBytes-service : FieldLaws → (e : ServiceEntry) → ServiceHoldsBytes e → IsBytes (service_bytes e)
IsBytes-service laws e b =
    let one = laws.bytes.joined (big_bytes 2 e.kind) e.name (laws.numbers.has_bytes 2 e.kind) b.name in
    let two = laws.bytes.joined (big_bytes 2 e.kind ++ e.name) (address_bytes e.at) one (laws.addresses.has_bytes e.at b.node) in
    laws.bytes.joined (big_bytes 2 e.kind ++ e.name ++ address_bytes e.at) (big_bytes 2 e.hops) two (laws.numbers.has_bytes 2 e.hops)

pub IsBytes-sap : FieldLaws → (m : SapView) → All ServiceHoldsBytes (sap_services m) → IsBytes (sap_bytes m)
IsBytes-sap laws (Query nearest kind) b =
    laws.bytes.joined (big_bytes 2 (query_operation nearest)) (big_bytes 2 kind) (laws.numbers.has_bytes 2 (query_operation nearest)) (laws.numbers.has_bytes 2 kind)
IsBytes-sap laws (Response nearest services) b =
    laws.bytes.joined (big_bytes 2 (response_operation nearest)) (flat_map service_bytes services) (laws.numbers.has_bytes 2 (response_operation nearest))
    (IsBytes-entries laws service_bytes ServiceHoldsBytes (IsBytes-service laws) services b)
