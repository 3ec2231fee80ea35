-- The nodes of its own network that a host's file names. Defined by this project.
use Rattle.std.specs.Prelude.{Vec, ◌≡◌, ◌≤◌, ℕ, List, length, true, Option, Some, MatchOption}
use Rattle.std.specs.Global.{Global}
use Rattle.std.specs.List.{list_all}
use Rattle.toml.specs.Data.{Data, Items, as_array}
use Rattle.ipx_config.specs.Values.{is_peer, AreAddresses}

-- an array of strings that are IP addresses, at most 256
abbrev pub AreNeighbours : Data → List (List ℕ) → Type 0
AreNeighbours d ips = (ds : Items) × (as_array d ≡ Some ds) × AreAddresses ds ips
    × (length ips ≤ 256)

-- the same, and each of them is one of these peers
abbrev pub AreAmong : List (List ℕ) → Data → List (List ℕ) → Type 0
AreAmong peers d ips = AreNeighbours d ips × (list_all (is_peer peers) ips ≡ true)

-- ---- relations for private functions

-- the IP addresses that a value gives, or that it gives none
abbrev pub ReadsList : (Data → List (List ℕ) → Type 0) → Data → Option (Vec (List ℕ) Global) → Type 0
ReadsList Means d found = MatchOption found ((ips : List (List ℕ)) → Means d ips → ⊥)
    (λ v. Means d v.items)
