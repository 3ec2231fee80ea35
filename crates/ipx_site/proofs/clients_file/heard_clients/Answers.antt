use Rattle.std.proofs.Common.{◌≡◌, rules}
use Rattle.std.proofs.lemmas.Fn.{always_returns_same}
use Rattle.std.specs.declared.cmp.Reverse.{Reverse}
use Rattle.ipx_site.specs.declared.clients_file.HeardClient.{HeardClient}
use Rattle.ipx_site.proofs.clients_file.heard_clients.Goals as goal

pub returns-clause-order : goal.returns-clause-order
returns-clause-order c =
    let key : HeardClient → Reverse _ = λ (h : HeardClient). record { 0 = h.heard } in
    c.in_ok-sort_by_key.ensures.sorted key (always_returns_same _ (λ a r. r ≡ key a.0.now) _ (λ a r f' k. search rules))
