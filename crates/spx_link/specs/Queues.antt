-- For private functions: what the search for due units keeps.
use Rattle.std.specs.Prelude.{ℕ, ◌≤◌, ◌<◌, ◌+◌, List, [], ◌∷◌, length, take}
use Rattle.spx_link.specs.declared.queue.Queued.{Queued}
use Rattle.spx_link.specs.Limits.{resend_after}

-- each was sent at this time or later
abbrev pub IsSince : ℕ → List Queued → Type 0
IsSince n [] = Unit {0}
IsSince n (q ∷ qs) = (n ≤ q.at) × IsSince n qs

-- this holds for so many of the first units
pub record IsSearched (units : List Queued) (searched since : ℕ) : Type 0 where
  pub within : searched ≤ length units
  pub first : IsSince since (take searched units)

-- how far a search came at this time: none of the units before is due then
pub record IsFound (units : List Queued) (end now place since : ℕ) : Type 0 where
  pub within : place ≤ end
  pub first : IsSince since (take place units)
  pub early : now < since + resend_after
