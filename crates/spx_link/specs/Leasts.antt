-- For private functions: the least id of the links that satisfy a condition.
use Rattle.std.specs.Prelude.{◌≡◌, ℕ, ◌<◌, ◌≤◌, min, Bool, true, false, List, Option, Some, None}
use Rattle.std.specs.Prelude.{All, Any}
use Rattle.ipx_wire.specs.declared.address.Address.{Address}
use Rattle.spx_link.specs.LinkView.{LinkView}

abbrev pub IsLeastId : (LinkView → Type 0) → List LinkView → Option ℕ → Type 0
IsLeastId P ls None = All (λ l. ¬ P l) ls
IsLeastId P ls (Some id) = Any (λ l. P l × (l.own ≡ id)) ls × All (λ l. P l → id ≤ l.own) ls

abbrev pub HasGreaterId : ℕ → LinkView → Type 0
HasGreaterId id l = id < l.own

pub record IsFrom (address : Address) (peer_id : ℕ) (l : LinkView) : Type 0 where
  pub accepted : l.accepted ≡ true
  pub remote : l.remote ≡ address
  pub peer : l.peer ≡ peer_id

-- the least id so far, after one more that may count
abbrev pub lesser_of : ℕ → Bool → Option ℕ → Option ℕ
lesser_of id false r = r
lesser_of id true None = Some id
lesser_of id true (Some n) = Some (min n id)
