use Rattle.std.proofs.Common.{◌≡◌}
use Rattle.std.specs.List.{filter}
use Rattle.ipx_tables.specs.Content.{is_young}
use Rattle.ipx_tables.proofs.ageing.expire.Given as goal

-- the valid offers are those that were valid before
abbrev pub invariant-loop : goal.invariant-loop
invariant-loop g l = filter (λ o. is_young l.now o.heard) l.offer_store ≡ filter (λ o. is_young l.now o.heard) l.fn.offer_store
