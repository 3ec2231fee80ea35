use Rattle.std.proofs.Common.{◌≡◌, ◌∙◌, ap, sym, Err, None}
use Rattle.spx_messages.specs.EndpointView.{held_at}
use Rattle.spx_theory.specs.World.{HostState}
use Rattle.ipx_net_hosts.proofs.Placing.{unheld}
use Rattle.ipx_net_hosts.proofs.host_state.HostState.again.Goals as goal

pub returns-in-Err-clause-done : goal.returns-in-Err-clause-done
returns-in-Err-clause-done c =
    let none : held_at c.self.inside.endpoint c.args.id ≡ None = c.again.ensures.unknown.0 (c.in-Err.is ∙ ap Err c.in-Err.ensures.fault) in
    unheld (held_at c.args.self.now.endpoint c.args.id) _ (ap (λ (s : HostState). held_at s.endpoint c.args.id) (sym c.self.view_is) ∙ none)
