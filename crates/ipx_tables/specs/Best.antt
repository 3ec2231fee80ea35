-- The best offer of a key: by metric. If metrics are equal, the lower port decides, and then the lower
-- neighbour, as this project defines.
use Rattle.std.specs.Prelude.{◌≡◌, ℕ, Bool, true, false, cond, Some}
use Rattle.std.specs.declared.cmp.Ordering.{Ordering}
use Rattle.std.specs.declared.cmp.Ordering.TheVariants.{Less, Equal, Greater}
use Rattle.std.specs.Ordering.{ordering_then, is_lt}
use Rattle.ipx_tables.specs.declared.source.Source.{Source}
use Rattle.ipx_tables.specs.Content.{Content, is_young, source_cmp}

module _ {M : Type 0} (before : M → M → Bool) where
  -- by metric, the better one first
  abbrev pub metric_cmp : M → M → Ordering
  metric_cmp x y = cond (before x y) Less (cond (before y x) Greater Equal)

  -- by metric, then by the lower port, then by the lower neighbour
  abbrev pub rank_cmp : Source × M → Source × M → Ordering
  rank_cmp a b = ordering_then (metric_cmp a.1 b.1) (source_cmp a.0 b.0)

  -- the first is the better one
  abbrev pub is_better : Source × M → Source × M → Bool
  is_better a b = is_lt (rank_cmp a b)

  -- of the valid offers of a key at a time, this is the best
  pub record IsBest {K : Type 0} (c : Content K M) (key : K) (now : ℕ)
      (best : Source × M) : Type 0 where
    pub moment : ℕ
    pub stands : c (key, best.0) ≡ Some (best.1, moment)
    pub counts : is_young now moment ≡ true
    pub least : (s : Source) (m : M) (t : ℕ) → c (key, s) ≡ Some (m, t) → is_young now t ≡ true
        → is_better (s, m) best ≡ false

-- no offer of the key is valid at this time
abbrev pub NoneCounts : {K M : Type 0} → Content K M → K → ℕ → Type 0
NoneCounts {K} {M} c key now = (s : Source) (m : M) (t : ℕ) → c (key, s) ≡ Some (m, t)
    → is_young now t ≡ false
