-- For private functions: a packet whose body is still in the queue of one of the links.
use Rattle.std.specs.Prelude.{ℕ, List, [], Option, None, Some, slice_get}
use Rattle.spx_link.specs.Chosen.{body_at}
use Rattle.spx_link.specs.LinkView.{LinkView}
use Rattle.spx_link.specs.Links.{LinksView}
use Rattle.spx_link.specs.Poll.{OutgoingView}
use Rattle.spx_link.specs.declared.outgoing.Chosen.{Chosen}

abbrev pub body_in : Option LinkView → Option ℕ → List ℕ
body_in None place = []
body_in (Some l) place = body_at l.queue place

-- the packet of the link at a place of the list, with the body that it carries
abbrev pub carried_in : LinksView → ℕ → Chosen → OutgoingView
carried_in s at c =
    record { what = c.what; header = c.header; body = body_in (slice_get s.links at) c.place }
