-- What a table says after a list of calls, and the last word on a key and source.
use Rattle.std.specs.Prelude.{◌≡◌, ℕ, Bool, true, false, List, [], ◌∷◌, ◌++◌}
use Rattle.std.specs.List.{AllByRecursion}
use Rattle.std.specs.declared.cmp.Ordering.{Ordering}
use Rattle.ipx_tables.specs.declared.source.Source.{Source}
use Rattle.ipx_tables.specs.Content.{Content, is_same, after_hear, after_age, is_young}

-- a call that was accepted
pub data Call (K M : Type 0) : Type 0 where
  Hear : K × Source → M → ℕ → Call K M
  Age : ℕ → Call K M

module _ {K M : Type 0} (cmp : K → K → Ordering) (dead : M → Bool) where
  -- the content after one call
  abbrev pub after_call : Content K M → Call K M → Content K M
  after_call c (Hear p metric now) = after_hear cmp dead c p metric now
  after_call c (Age now) = after_age c now

  -- the content after the calls, in their order
  abbrev pub after_calls : Content K M → List (Call K M) → Content K M
  after_calls c [] = c
  after_calls c (call ∷ calls) = after_calls (after_call c call) calls

-- the call is of another key or source, or does not find an offer of this time old
abbrev pub Spares : {K M : Type 0} → (K → K → Ordering) → K × Source → ℕ → Call K M → Type 0
Spares cmp p moment (Hear q metric now) = is_same cmp q p ≡ false
Spares cmp p moment (Age now) = is_young now moment ≡ true

-- the last offer of the key and source has this metric, which is not dead, and this time, and no later call
-- found it old
pub record IsLastWord {K M : Type 0} (cmp : K → K → Ordering) (dead : M → Bool)
    (calls : List (Call K M)) (p : K × Source) (metric : M) (moment : ℕ) : Type 0 where
  pub earlier : List (Call K M)
  pub said_of : K × Source
  pub later : List (Call K M)
  pub are : calls ≡ earlier ++ Hear said_of metric moment ∷ later
  pub same : is_same cmp said_of p ≡ true
  pub alive : dead metric ≡ false
  pub spared : AllByRecursion (Spares cmp p moment) later
