-- For private functions: a packet whose body is still in the queue.
use Rattle.std.specs.Prelude.{ℕ, List, [], Option, None, Some, slice_get}
use Rattle.spx_link.specs.declared.queue.Queued.{Queued}
use Rattle.spx_link.specs.declared.outgoing.Chosen.{Chosen}
use Rattle.spx_link.specs.LinkView.{LinkView}
use Rattle.spx_link.specs.Poll.{OutgoingView}

abbrev pub body_of : Option Queued → List ℕ
body_of None = []
body_of (Some q) = q.unit.body.items

abbrev pub body_at : List Queued → Option ℕ → List ℕ
body_at qs None = []
body_at qs (Some place) = body_of (slice_get qs place)

-- the packet, with the body that it carries
abbrev pub carried : LinkView → Chosen → OutgoingView
carried l c = record { what = c.what; header = c.header; body = body_at l.queue c.place }
