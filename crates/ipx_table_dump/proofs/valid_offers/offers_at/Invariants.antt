use Rattle.std.proofs.Common.{◌≡◌, ◌++◌}
use Rattle.std.specs.Prelude.{filter}
use Rattle.ipx_tables.specs.Content.{is_young}
use Rattle.ipx_table_dump.proofs.valid_offers.offers_at.Given as goal

-- with those among what the walk has left they are all that count
abbrev pub invariant-loop-offer : goal.invariant-loop-offer
invariant-loop-offer g l =
    l.offers.items ++ filter (λ o. is_young l.now o.heard) l.offer-iterator ≡ filter (λ o. is_young l.now o.heard) l.initial.offer-iterator
