-- The metric of a service: its hops, of which 16 mean down (Novell IPX Router Specification, SAP). If hops
-- are equal, the address decides, as this project defines.
use Rattle.std.specs.Prelude.{ℕ, ◌+◌, Bool, List, nat_le, min}
use Rattle.std.proofs.Common.{ap}
use Rattle.std.specs.declared.cmp.Ordering.{Ordering}
use Rattle.std.specs.Ordering.{nat_cmp, is_lt, ordering_then}
use Rattle.std.specs.Cmp.Lexicographic.{slice_cmp}
use Rattle.std.proofs.lemmas.Cmp.{nat_cmp_total, nat_list_cmp_total, on_total, then_total}
use Rattle.std.proofs.lemmas.Map.Lookups.{exact_unsigned, exact_bytes, exact_pairs}
use Rattle.ipx_wire.specs.declared.address.Address.{Address}
use Rattle.ipx_tables.specs.declared.service.ServiceKey.{ServiceKey}
use Rattle.ipx_tables.specs.declared.service.ServiceMetric.{ServiceMetric}
use Rattle.ipx_tables.specs.Order.{IsStrictTotal, EqualOnlyIfSame, strict_from_cmp}

-- by type, and then by the bytes of the name
abbrev pub service_key_cmp : ServiceKey → ServiceKey → Ordering
service_key_cmp a b = ordering_then (nat_cmp a.kind b.kind) (slice_cmp nat_cmp a.name b.name)

pub service_key_exact : EqualOnlyIfSame service_key_cmp
service_key_exact a b h =
    ap (λ (p : ℕ × List ℕ).
    let key : ServiceKey = record { kind = p.0; name = p.1 } in key)
    (exact_pairs nat_cmp (slice_cmp nat_cmp) exact_unsigned exact_bytes
    (a.kind, a.name) (b.kind, b.name) h)

-- by network, node and socket
abbrev pub address_cmp : Address → Address → Ordering
address_cmp a b =
    ordering_then (nat_cmp a.network.0 b.network.0)
    (ordering_then (slice_cmp nat_cmp a.node.0 b.node.0) (nat_cmp a.socket.0 b.socket.0))

-- by hops, and then by address
abbrev pub service_cmp : ServiceMetric → ServiceMetric → Ordering
service_cmp a b = ordering_then (nat_cmp a.hops b.hops) (address_cmp a.at b.at)

-- the first is the better one
abbrev pub service_before : ServiceMetric → ServiceMetric → Bool
service_before a b = is_lt (service_cmp a b)

-- down
abbrev pub service_dead : ServiceMetric → Bool
service_dead m = nat_le 16 m.hops

-- one hop more, at most 16
abbrev pub service_one_more : ServiceMetric → ServiceMetric
service_one_more m = record { hops = min (m.hops + 1) 16; at = m.at }

-- a metric from its numbers and bytes
abbrev whole : ℕ × (ℕ × (List ℕ × ℕ)) → ServiceMetric
whole p =
    record {
      hops = p.0;
      at = record {
        network = record { 0 = p.1.0 };
        node = record { 0 = p.1.1.0 };
        socket = record { 0 = p.1.1.1 };
      };
    }

service_exact : EqualOnlyIfSame service_cmp
service_exact a b h =
    ap whole
    (exact_pairs nat_cmp _ exact_unsigned
    (exact_pairs nat_cmp _ exact_unsigned
    (exact_pairs (slice_cmp nat_cmp) nat_cmp exact_bytes exact_unsigned))
    (a.hops, (a.at.network.0, (a.at.node.0, a.at.socket.0)))
    (b.hops, (b.at.network.0, (b.at.node.0, b.at.socket.0))) h)

pub service_strict : IsStrictTotal service_before
service_strict =
    strict_from_cmp
    (then_total (on_total (λ (m : ServiceMetric). m.hops) nat_cmp_total)
    (then_total (on_total (λ (m : ServiceMetric). m.at.network.0) nat_cmp_total)
    (then_total (on_total (λ (m : ServiceMetric). m.at.node.0) nat_list_cmp_total)
    (on_total (λ (m : ServiceMetric). m.at.socket.0) nat_cmp_total))))
    service_exact
