-- Offers in order are all that a table says.
use Rattle.std.proofs.Common.{◌≡◌, ℕ, List, Some, ◌∙◌, subst, sym}
use Rattle.std.specs.List.{All}
use Rattle.std.specs.Cmp.{IsTotalOrder}
use Rattle.std.specs.declared.cmp.Ordering.{Ordering}
use Rattle.std.specs.declared.cmp.Ordering.TheVariants.{Equal}
use Rattle.std.proofs.lemmas.List.{get_or_default}
use Rattle.ipx_tables.specs.declared.source.Source.{Source}
use Rattle.ipx_tables.specs.declared.offer.Offer.{Offer}
use Rattle.ipx_tables.specs.Content.{content, heard_key, said_of, is_same, pair_cmp, pair_of}
use Rattle.ipx_tables.specs.Inventory.{IsInventory}
use Rattle.ipx_tables.specs.Sorted.{IsRising, IsAtKey}
use Rattle.ipx_tables.proofs.Lists.{same_equiv}
use Rattle.ipx_tables.proofs.Listed.{IsFound, member_found, found_member}
use Rattle.ipx_tables.proofs.Ordered.{separate_rising}
use Rattle.ipx_tables.proofs.Walks.{is_equal}

module _ {K M : Type 0} {cmp : K → K → Ordering} (o : IsTotalOrder cmp) (os : List (Offer K M)) (rising : IsRising (pair_cmp cmp) pair_of os) where
  pub all_as_heard : All (λ x. heard_key cmp os (pair_of x) ≡ Some x.key) os
  all_as_heard j d lt = member_found (same_equiv o) (λ (x : Offer K M). x.key) os j d (separate_rising o os rising) lt

  at_pair : (p : K × Source) (v : M × ℕ) → IsFound (is_same cmp) os p v → (i : ℕ) × IsAtKey (pair_cmp cmp) pair_of os p i
  at_pair p v f =
      let tie : pair_cmp cmp (pair_of f.offer) p ≡ Equal = is_equal _ f.same_pair in
      (f.there.0, record { in_range = f.there.1; ties = λ d. subst (λ (x : Offer K M). pair_cmp cmp (pair_of x) p ≡ Equal) (sym (get_or_default os f.there.0 d f.offer f.there.1 ∙ f.there.2)) tie })

  pub is_inventory : IsInventory cmp (content cmp os) os
  is_inventory = record {
    in_order = rising;
    as_said = λ j d lt. member_found (same_equiv o) said_of os j d (separate_rising o os rising) lt;
    no_other = λ p v said. at_pair p v (found_member (same_equiv o) os p v said);
  }
