use Rattle.std.proofs.Common.{◌≡◌, ◌++◌, string_bytes, take}
use Rattle.std.specs.List.{flat_map}
use Rattle.ipx_tables.specs.Service.{service_key_cmp}
use Rattle.ipx_table_dump.specs.StillPresent.{is_among_best}
use Rattle.ipx_table_dump.specs.TableText.{service_offer_line}
use Rattle.ipx_table_dump.proofs.service_lines.put_offers.Given as goal

abbrev pub invariant-loop-offer : goal.invariant-loop-offer
invariant-loop-offer l =
    string_bytes l.text ≡ string_bytes l.fn.text ++ flat_map (λ o. service_offer_line (is_among_best service_key_cmp l.bests o) l.now o) (take l.offer-index l.offers)
