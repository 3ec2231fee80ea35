use Rattle.std.proofs.Common.{◌+◌, ◌∙◌, sym}
use Rattle.ipx_wire.specs.Ipx.{with_hops}
use Rattle.ipx_router.proofs.forwarding.forward_in_place.Goals as goal

pub returns-then-eq : goal.returns-then-eq
returns-then-eq c = λ body tail is. rw (sym c.eq.ensures ∙ c.if-eq.true)
    (c.set_source_network.ensures.packet (with_hops (c.args.header.hops + 1) (record { header = c.args.header; body = body })) tail
    (c.set_hops.ensures.packet (record { header = c.args.header; body = body }) tail is))
