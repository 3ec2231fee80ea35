-- how a fault of one part is the first fault of the whole
use Rattle.std.proofs.Common.{◌≡◌, ◌⊎◌, ℕ, suc, ◌+◌, List, [], ◌∷◌, ◌++◌, length, Option, Some, None, inl, inr, refl, ap, subst, ◌∙◌}
use Rattle.toml.specs.Data.{Data, Items, item, Members}
use Rattle.toml.specs.View.{items_view}
use Rattle.toml.specs.declared.value.Value.{Value}
use Rattle.ipx_config.specs.declared.fault.ConfigError.{ConfigError}
use Rattle.ipx_config.specs.declared.fault.ConfigError.TheVariants.{Again, Missing, NotToml, OtherKind, OtherTunnel, OutOfMemory, SamePlace, Twin, Unknown, Wrong}
use Rattle.ipx_config.specs.declared.key.Key.{Key}
use Rattle.ipx_config.specs.declared.site.PortConfig.{PortConfig}
use Rattle.ipx_config.specs.declared.key.Key.{Key}
use Rattle.ipx_config.specs.Values.{item_count}
use Rattle.ipx_config.specs.Loading.{IsStatus, fault_status}
use Rattle.ipx_config.specs.Fields.{HoldsIf, HoldsOr, IsRightOr}
use Rattle.ipx_config.specs.Site.{ArePorts, IsFirstFault, IsPortItem, IsPortItemFault, IsApart, IsRepeated}

-- a fault of the whole comes from a fault of a part, or from running out of memory
pub or_memory : {A B : Type 0} (f : ConfigError) → (A → B) → (f ≡ OutOfMemory) ⊎ A → (f ≡ OutOfMemory) ⊎ B
or_memory f to (inl memory) = inl memory
or_memory f to (inr a) = inr (to a)

pub right_or : {A : Type 0} (Means : Data → A → Type 0) (key : Key) (ms : Members) (default a : A)
    → HoldsOr Means key ms default a → IsRightOr Means key ms
right_or Means key ms default a (inl absent) = inl absent.0
right_or Means key ms default a (inr holds) = inr (a, holds)

pub right_if : {A : Type 0} (Means : Data → A → Type 0) (key : Key) (ms : Members) (found : Option A)
    → HoldsIf Means key ms found → IsRightOr Means key ms
right_if Means key ms None absent = inl absent
right_if Means key ms (Some a) holds = inr (a, holds)

-- The first of the remaining items is at fault. The ports seen so far are those before it, and they are
-- counted.
pub item_fault : (earlier : List PortConfig) (i n : ℕ) → n ≡ i → (ds : Items) (d : Data) (left : Items)
    → ds ≡ item d left → (f : ConfigError) → IsPortItemFault (n + 1) d f → IsFirstFault earlier (i + 1) ds f
item_fault earlier i n counted ds d left is f fault = rw (is, ← counted) (inl fault)

pub repeated_fault : (earlier seen : List PortConfig) → seen ≡ earlier → (i n : ℕ) → n ≡ i
    → (ds : Items) (d : Data) (left : Items) → ds ≡ item d left
    → (p : PortConfig) → IsPortItem d p → (f : ConfigError) → IsRepeated seen (n + 1) p f
    → IsFirstFault earlier (i + 1) ds f
repeated_fault earlier seen same i n counted ds d left is p port f repeated =
    rw (is, ← counted, ← same) (inr (p, port, inl repeated))

-- or one after it is
pub later_fault : (earlier seen new : List PortConfig) → seen ≡ earlier → (p : PortConfig) → new ≡ earlier ++ p ∷ []
    → (i : ℕ) (ds : Items) (d : Data) (left : Items) → ds ≡ item d left
    → IsPortItem d p → IsApart seen p
    → (f : ConfigError) → IsFirstFault new (i + 1 + 1) left f → IsFirstFault earlier (i + 1) ds f
later_fault earlier seen new same p more i ds d left is port alone f fault =
    let behind = rw more at fault in
    let first = rw same at alone in
    rw is (inr (p, port, inr (first, behind)))

-- a port, and those after it
pub one_more_port : (earlier seen new : List PortConfig) → seen ≡ earlier → (p : PortConfig) → new ≡ earlier ++ p ∷ []
    → (ds : Items) (d : Data) (left : Items) → ds ≡ item d left
    → IsPortItem d p → IsApart seen p
    → (rest : List PortConfig) → ArePorts new left rest → ArePorts earlier ds (p ∷ rest)
one_more_port earlier seen new same p more ds d left is port alone rest are =
    let behind = rw more at are in
    let first = rw same at alone in
    rw is (p, rest, refl, port, first, behind)

pub count_is : (vs : List Value) → item_count (items_view vs) ≡ length vs
count_is [] = refl
count_is (v ∷ vs) = ap (λ n. suc n) (count_is vs)

-- the exit status of a fault of a text says what kind of fault it is
fault_is : (IsFault : ConfigError → Type 0) (bytes : List ℕ) (f : ConfigError) (status : ℕ) → IsFault f
    → status ≡ fault_status f → IsStatus IsFault bytes status
fault_is IsFault bytes OutOfMemory status fault is = inl is
fault_is IsFault bytes (NotToml line error) status fault is = inr (is, inr (NotToml line error, fault))
fault_is IsFault bytes (Unknown table name) status fault is = inr (is, inr (Unknown table name, fault))
fault_is IsFault bytes (OtherKind table key kind) status fault is = inr (is, inr (OtherKind table key kind, fault))
fault_is IsFault bytes (OtherTunnel table key) status fault is = inr (is, inr (OtherTunnel table key, fault))
fault_is IsFault bytes (Missing table key) status fault is = inr (is, inr (Missing table key, fault))
fault_is IsFault bytes (Wrong table key) status fault is = inr (is, inr (Wrong table key, fault))
fault_is IsFault bytes (Twin table network earlier) status fault is = inr (is, inr (Twin table network earlier, fault))
fault_is IsFault bytes (SamePlace table earlier) status fault is = inr (is, inr (SamePlace table earlier, fault))
fault_is IsFault bytes (Again table earlier) status fault is = inr (is, inr (Again table earlier, fault))

pub status_is : (F : List ℕ → ConfigError → Type 0) (bytes text : List ℕ) (f : ConfigError) (status : ℕ) → text ≡ bytes
    → (f ≡ OutOfMemory) ⊎ F text f → status ≡ fault_status f → IsStatus (F bytes) bytes status
status_is F bytes text f status same (inl memory) is = inl (is ∙ ap fault_status memory)
status_is F bytes text f status same (inr fault) is =
    fault_is (F bytes) bytes f status (subst (λ (it : List ℕ). F it f) same fault) is
