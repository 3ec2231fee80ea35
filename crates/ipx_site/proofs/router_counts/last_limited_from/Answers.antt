use Rattle.std.proofs.Common.{◌∙◌, List, ap, subst}
use Rattle.ipxnet_server.specs.ServerHears.{ServerView}
use Rattle.ipx_site.specs.IpxnetTotals.{IsLastFlood}
use Rattle.ipx_site.proofs.router_counts.last_limited_from.Goals as goal

pub returns : goal.returns
returns c =
    let flood = c.last_limited-flood.result in
    let at_ports = c.servers-2.ensures ∙ ap (λ s. s.servers.items) c.servers.ensures in record {
      flood = flood;
      last = subst (λ (servers : List ServerView). IsLastFlood servers flood) at_ports c.last_limited-flood.ensures;
      own = c.flood_from.ensures;
    }
