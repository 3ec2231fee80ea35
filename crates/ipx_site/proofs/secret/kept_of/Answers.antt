use Rattle.std.proofs.Common.{◌∙◌, ap, refl, rules, sym, true≢false}
use Rattle.std.specs.List.{list_any}
use Rattle.ipx_site.specs.Secrets.{is_ipxnet}
use Rattle.ipx_site.proofs.secret.kept_of.Goals as goal

pub returns-then-not-has_ipxnet_port-clause-none : goal.returns-then-not-has_ipxnet_port-clause-none
returns-then-not-has_ipxnet_port-clause-none g c = λ none.
    (c.new.result, refl, search rules, c.new.ensures.clients)

pub returns-clause-none : goal.returns-clause-none
returns-clause-none g c = λ none.
    absurd (true≢false (sym c.if-not-has_ipxnet_port.false ∙ c.has_ipxnet_port.ensures ∙ ap (list_any is_ipxnet) c.deref.ensures.value ∙ none))
