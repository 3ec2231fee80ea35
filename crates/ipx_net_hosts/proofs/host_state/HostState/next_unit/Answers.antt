use Rattle.std.proofs.Common.{◌≡◌, ◌∙◌, ap, sym, Option, None, Some, IfSome, Err}
use Rattle.spx_link.specs.declared.unit.Unit.{Unit}
use Rattle.spx_link.specs.Offer.{first_of}
use Rattle.spx_messages.specs.EndpointView.{Held, held_at}
use Rattle.spx_theory.specs.World.{HostState}
use Rattle.ipx_net_hosts.proofs.host_state.HostState.next_unit.Goals as goal

unheld : (o : Option Held) (u : Option Unit) → o ≡ None → IfSome o (λ h. u ≡ first_of h.link.held)
unheld None u is = tt
unheld (Some h) u is = absurd (cc is)

pub returns-in-Err : goal.returns-in-Err
returns-in-Err c =
    let none : held_at c.self.inside.endpoint c.args.id ≡ None = c.peek.ensures.unknown.0 (c.in-Err.is ∙ ap Err c.in-Err.ensures.fault) in
    unheld (held_at c.args.self.now.endpoint c.args.id) None (ap (λ (s : HostState). held_at s.endpoint c.args.id) (sym c.self.view_is) ∙ none)
