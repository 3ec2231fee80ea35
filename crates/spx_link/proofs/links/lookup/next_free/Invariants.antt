use Rattle.std.proofs.Common.{ℕ, ◌<◌, IsSome}
use Rattle.spx_link.specs.Links.{id_after, link_of}
use Rattle.spx_link.proofs.links.lookup.next_free.Given as goal

-- each id before this one is live
abbrev pub invariant-loop-steps : goal.invariant-loop-steps
invariant-loop-steps l = (k : ℕ) → k < l.steps → IsSome (link_of l.links (id_after l.last k))
