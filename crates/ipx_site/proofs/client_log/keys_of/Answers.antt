use Rattle.std.proofs.Common.{◌∙◌, map, rules, tests}
use Rattle.std.proofs.lemmas.Iterator.{YieldsList-from_map, YieldsList-from_slice}
use Rattle.std.proofs.lemmas.Iterator.Adapters.{fact_from_collect}
use Rattle.std.proofs.lemmas.Result.{IfOk-weaker}
use Rattle.std.specs.HashSet as keys
use Rattle.ipx_site.specs.ClientLog.{client_key, is_same_key}
use Rattle.ipx_site.proofs.ListedClients.{listed_by_key}
use Rattle.ipx_site.proofs.client_log.keys_of.Goals as goal

pub returns : goal.returns
returns c =
    let clients = c.args.clients.now in
    IfOk-weaker c.collect.result (keys.IsFromIterResult is_same_key (map client_key clients)) _ (λ made h client. h.0 (client_key client) ∙ listed_by_key client clients)
    (fact_from_collect (keys.IsFromIterResult is_same_key) c.collect.result c.collect.ensures.ran
    (YieldsList-from_map _ client_key (YieldsList-from_slice clients cc) c.map.ensures.closure (λ x r q k. search (rules, tests))))
