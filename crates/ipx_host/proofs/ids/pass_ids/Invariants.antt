use Rattle.std.proofs.Common.{◌≡◌, ◌+◌, ◌<◌, ℕ}
use Rattle.spx_link.specs.Links.{count_of}
use Rattle.spx_messages.specs.Changes.{SameSelf}
use Rattle.spx_messages.specs.EndpointView.{held_at}
use Rattle.ipx_host.proofs.ids.pass_ids.Given as goal

-- of the ids that were passed over none is held, and the host is the same
abbrev pub invariant-loop : goal.invariant-loop
invariant-loop l = record {
  held : (q : ℕ) → held_at l.endpoint q ≡ held_at l.fn.endpoint q;
  count : count_of l.endpoint.links ≡ count_of l.fn.endpoint.links;
  last : count_of l.fn.endpoint.links ≡ 0 → l.fn.endpoint.links.last + l.count < 65535 → l.endpoint.links.last ≡ l.fn.endpoint.links.last + l.counter;
  host : SameSelf l.fn.endpoint l.endpoint;
}
