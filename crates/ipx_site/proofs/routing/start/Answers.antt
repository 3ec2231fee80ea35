use Rattle.std.proofs.Common.{◌∙◌, [], ap, length, sym}
use Rattle.std.proofs.lemmas.List.{length-map}
use Rattle.ipx_site.specs.KindPorts.{port_indices_of}
use Rattle.ipx_config.specs.SitePorts.{router_port_of_kind}
use Rattle.ipx_site.proofs.KindLists.{as_many_port_indices}
use Rattle.ipx_site.proofs.routing.start.Goals as goal

pub new-requires-3 : goal.new-requires-3
new-requires-3 g c =
    let ports = ap length c.in_ok-core.ensures.router ∙ length-map c.args.site.ports.items router_port_of_kind in
    ap length (c.in_ok-ports.ensures.bound.port_indices ∙ ap port_indices_of c.deref-2.ensures.value) ∙ as_many_port_indices [] c.args.site.ports.items ∙ sym ports

pub returns-clause-idle : goal.returns-clause-idle
returns-clause-idle g c =
    let e = c.new-3.ensures in record {
      totals = e.totals;
      looked = e.looked;
      known = e.known;
      clients = e.clients;
      warnings = e.warnings;
      drops = e.drops;
      written = e.written;
    }

pub returns-clause-files : goal.returns-clause-files
returns-clause-files g c =
    let e = c.new-3.ensures in
    let f = c.new-2.ensures in record {
      metrics_file = e.metrics_file;
      tables_file = e.tables_file;
      secret_file = ap (λ f. f.path) e.clients_file ∙ f.path;
      kept_secret = ap (λ f. f.secret) e.clients_file ∙ f.secret;
      listed = ap (λ f. f.listed.items) e.clients_file ∙ ap (λ v. v.items) f.listed;
      looked = ap (λ f. f.looked) e.clients_file ∙ f.looked;
      written = ap (λ f. f.written) e.clients_file ∙ f.written;
    }
