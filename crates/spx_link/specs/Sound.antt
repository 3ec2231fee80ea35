-- What is true of the ids of a host's links: they are from 0001 to FFFE, and no two are equal.
use Rattle.std.specs.Prelude.{◌≡◌, ℕ, ◌<◌, ◌≤◌, ◌==◌, ◌&&◌, nat_lt, Bool, true, false, List, []}
use Rattle.std.specs.Prelude.{◌∷◌, map, length, ⊤}
use Rattle.std.specs.List.{list_all, list_any}
use Rattle.spx_link.specs.Limits.{most_links, no_id}
use Rattle.spx_link.specs.LinkView.{LinkView}

abbrev pub own_of : LinkView → ℕ
own_of l = l.own

abbrev pub ids_of : List LinkView → List ℕ
ids_of ls = map own_of ls

abbrev pub is_among : List ℕ → ℕ → Bool
is_among ns n = list_any (λ m. m == n) ns

abbrev pub AreIdsDistinct : List ℕ → Type 0
AreIdsDistinct [] = ⊤
AreIdsDistinct (n ∷ ns) = (is_among ns n ≡ false) × AreIdsDistinct ns

abbrev pub is_id : ℕ → Bool
is_id n = nat_lt 0 n && nat_lt n no_id

-- the id assigned last, and the live ids
pub record AreIdsSound (given : ℕ) (ids : List ℕ) : Type 0 where
  pub apart : AreIdsDistinct ids
  pub in_range : list_all is_id ids ≡ true
  pub few : length ids ≤ most_links
  pub last : given < no_id
