use Rattle.std.proofs.Common.{Some, subst}
use Rattle.spx_messages.specs.EndpointView.{EndpointView}
use Rattle.spx_messages.specs.Polls.{Polls}
use Rattle.spx_messages.specs.contracts.endpoint.Endpoint.{the_view}
use Rattle.spx_messages.proofs.Polling.{gives_packet, with_links}
use Rattle.spx_messages.proofs.endpoint.Endpoint.poll.Goals as goal

pub returns : goal.returns
returns c =
    let g = c.in_ok-given.given in
    let old : EndpointView = the_view c.self.inside in
    let new : EndpointView = with_links old c.poll_links.new.links (Some (g.id, g.what)) in
    subst (λ e. Polls e c.args.now (Some (g.next, g.count)) c.args.room.now c.poll_links.new.room new) c.self.view_is
    (gives_packet old c.poll_links.new.links c.args.now g c.args.room.now c.poll_links.new.room c.in_ok-given.ensures.gives c.in_ok-given.ensures.behind c.in_ok-given.ensures.short)
