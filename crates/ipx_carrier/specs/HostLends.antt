-- What a host is after its endpoint was lent.
use Rattle.std.specs.Borrow.{Lends, MutBor, Fml}
use Rattle.spx_messages.specs.contracts.endpoint.Endpoint.{the_row as endpoint_row}
use Rattle.ipx_carrier.specs.declared.host_core.HostCore.{HostCore}
use Rattle.ipx_carrier.specs.contracts.host_core.HostCore.{the_row}

-- the host has the endpoint that the reference held last
abbrev pub LendsEndpoint : MutBor HostCore → MutBor endpoint_row.Denot → Fml
LendsEndpoint h r = Lends the_row endpoint_row h r (λ e. record h.now { endpoint = e })
