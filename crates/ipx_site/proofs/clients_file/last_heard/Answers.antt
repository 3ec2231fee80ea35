use Rattle.std.proofs.Common.{rules}
use Rattle.ipx_site.proofs.clients_file.last_heard.Goals as goal

pub returns-clause-last : goal.returns-clause-last
returns-clause-last c = record {
  ordered = c.in_ok-heard.heard.items;
  all = c.in_ok-heard.ensures.all;
  order = c.in_ok-heard.ensures.order;
  first = search rules;
}
