-- Definitions for private functions: marks of the slots in use, in the order of their times. A mark may be
-- late: its time may be earlier than that of the item in its slot.
use Rattle.std.specs.Prelude.{◌≡◌, ℕ, ◌≤◌, ◌<◌, ◌==◌, Bool, false, not, List, Option, Some, None, length, map, slice_get, slice_index_or}
use Rattle.std.specs.List.{All}
use Rattle.std.specs.List.Sorted.{IsNonDecreasingBy, IsPermutation}
use Rattle.ipx_tables.specs.declared.marks.Mark.{Mark}

-- the slot numbers of marks
abbrev pub places_of : List Mark → List ℕ
places_of marks = map (λ m. m.place) marks

-- no mark is earlier than the one before it
abbrev pub AreByTime : List Mark → Type 0
AreByTime marks = IsNonDecreasingBy (λ m. m.moment) marks

-- no two marks are of one slot
abbrev pub HaveDistinctSlots : List Mark → Type 0
HaveDistinctSlots marks = (i j : ℕ) (d : Mark) → i < j → j < length marks
    → (slice_index_or marks i d).place ≡ (slice_index_or marks j d).place → ⊥

module _ {X : Type 0} (moment : X → ℕ) where
  -- a mark is not late if its slot does not exist, or if the item there has the mark's time
  abbrev pub is_late_for : Mark → Option X → Bool
  is_late_for m None = false
  is_late_for m (Some x) = not (moment x == m.moment)

  -- the corrected mark: it gets the time of the item in its slot
  abbrev pub right_for : Mark → Option X → Mark
  right_for m None = m
  right_for m (Some x) = record { moment = moment x; place = m.place }

  module _ (slots : List X) where
    -- a mark whose time is not that of the item in its slot
    abbrev pub is_late_mark : Mark → Bool
    is_late_mark m = is_late_for m (slice_get slots m.place)

    -- the mark with the time of the item in its slot
    abbrev pub right_mark : Mark → Mark
    right_mark m = right_for m (slice_get slots m.place)

    -- a mark that is not later than the item in its slot
    abbrev pub IsNoLater : Mark → Type 0
    IsNoLater m = (d : X) → m.moment ≤ moment (slice_index_or slots m.place d)

    -- a mark that is not late
    abbrev pub IsRightMark : Mark → Type 0
    IsRightMark m = (d : X) → moment (slice_index_or slots m.place d) ≡ m.moment

    -- each slot in use has one mark. Marks are in the order of their times, none is later than its item, and
    -- there is space for a mark of each slot
    pub record AreMarked (used : List ℕ) (marks : List Mark) (room : ℕ) : Type 0 where
      pub each : IsPermutation used (places_of marks)
      pub by_time : AreByTime marks
      pub no_later : All IsNoLater marks
      pub fits : length slots ≤ room

-- it is one of the items, and none has an earlier time
pub record IsEarliest {X : Type 0} (moment : X → ℕ) (xs : List X) (x : X) : Type 0 where
  pub at : ℕ
  pub in_range : at < length xs
  pub is : (d : X) → slice_index_or xs at d ≡ x
  pub first : All (λ y. moment x ≤ moment y) xs
