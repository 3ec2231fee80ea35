-- Whether something may wait at each port of a running router. Defined by this project.
use Rattle.std.specs.Prelude.{◌≡◌, ℕ, Bool, true, false, ◌==◌, List, Option, Some, None, IfSome, if◌then◌else◌, slice_get, count_by}
use Rattle.ipx_carrier.specs.Readiness.{Readiness}
use Rattle.ipx_site.specs.declared.router_ports.PortIndex.{PortIndex}
use Rattle.ipx_site.specs.declared.router_ports.PortIndex.TheVariants.{Datagrams, Ethernet, IpxnetServer}

-- two indices are the same
abbrev pub is_same_index : PortIndex → PortIndex → Bool
is_same_index (Datagrams k) (Datagrams n) = k == n
is_same_index (Ethernet k) (Ethernet n) = k == n
is_same_index (IpxnetServer k) (IpxnetServer n) = k == n
is_same_index i j = false

-- what the ports of its kind say of an index
abbrev pub mark_of_kind : Readiness → Readiness → Readiness → PortIndex → Bool
mark_of_kind datagrams ethernet servers (Datagrams k) = datagrams k
mark_of_kind datagrams ethernet servers (Ethernet k) = ethernet k
mark_of_kind datagrams ethernet servers (IpxnetServer k) = servers k

-- what is said of a port that alone has its index. A port that does not is always marked
abbrev pub mark_at_index : (PortIndex → Bool) → List PortIndex → Option PortIndex → Bool
mark_at_index mark port_indices None = true
mark_at_index mark port_indices (Some index) =
    if count_by (is_same_index index) port_indices == 1 then mark index else true

-- the marks of ports of all kinds
abbrev pub marked_by_kind : Readiness → Readiness → Readiness → List PortIndex → Readiness
marked_by_kind datagrams ethernet servers port_indices port =
    mark_at_index (mark_of_kind datagrams ethernet servers) port_indices (slice_get port_indices port)

-- each port alone has its index
abbrev pub AreIndicesDistinct : List PortIndex → Type 0
AreIndicesDistinct port_indices = (port : ℕ) → IfSome (slice_get port_indices port)
    (λ index. count_by (is_same_index index) port_indices ≡ 1)
