use Rattle.std.proofs.Common.{subst}
use Rattle.toml.specs.View.{table_view}
use Rattle.ipx_config.specs.Fields.{HoldsOr}
use Rattle.ipx_config.specs.Values.{IsKind}
use Rattle.ipx_config.specs.declared.key.Key.TheVariants as Key
use Rattle.ipx_config.specs.declared.site.Kind.{Kind}
use Rattle.ipx_config.specs.declared.site.Kind.TheVariants.{Rfc1234}
use Rattle.ipx_config.proofs.port.port_of.Goals as goal

pub returns-in_ok-ethernet_port-in-Ethernet-clause-port : goal.returns-in_ok-ethernet_port-in-Ethernet-clause-port
returns-in_ok-ethernet_port-in-Ethernet-clause-port c = (
  subst (λ (kind : Kind). HoldsOr IsKind Key.Kind (table_view c.args.table.now) Rfc1234 kind) c.in-Ethernet.is c.in_ok-kind_in.ensures,
  c.in_ok-ethernet_port-in-Ethernet.ensures.port,
)
