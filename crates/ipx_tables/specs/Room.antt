-- Space in a table: what it can say, which offers make it grow, and for which ones it is full.
use Rattle.std.specs.Prelude.{◌≡◌, ◌<◌, ◌≤◌, ℕ, Bool, false, None, length}
use Rattle.std.specs.declared.cmp.Ordering.{Ordering}
use Rattle.ipx_tables.specs.declared.fault.TableFault.{TableFault}
use Rattle.ipx_tables.specs.declared.fault.TableFault.TheVariants as TableFaults
use Rattle.ipx_tables.specs.declared.source.Source.{Source}
use Rattle.ipx_tables.specs.Content.{Content, IsTable, Table, content}

-- some table of this size says it
pub record Fits {K M : Type 0} (cmp : K → K → Ordering) (most : ℕ) (c : Content K M) : Type 0 where
  pub table : Table K M
  pub valid : IsTable cmp table
  pub room : table.capacity ≡ most
  pub says : (p : K × Source) → content cmp table.offers p ≡ c p

module _ {K M : Type 0} (cmp : K → K → Ordering) (dead : M → Bool) where
  -- the table is full for an offer: its metric is not dead, there is no offer of its key and source, and
  -- there are as many offers as there may be
  pub record IsFull (t : Table K M) (p : K × Source) (metric : M) : Type 0 where
    pub alive : dead metric ≡ false
    pub unknown : content cmp t.offers p ≡ None
    pub full : t.capacity ≤ length t.offers

  -- an offer makes the table grow: its metric is not dead, there is no offer of its key and source, and there
  -- is space for one more
  pub record Grows (t : Table K M) (p : K × Source) (metric : M) : Type 0 where
    pub alive : dead metric ≡ false
    pub unknown : content cmp t.offers p ≡ None
    pub room : length t.offers < t.capacity

-- the numbers of a table's faults
abbrev pub table_fault_number : TableFault → ℕ
table_fault_number TableFaults.Full = 13
table_fault_number TableFaults.OutOfMemory = 14
