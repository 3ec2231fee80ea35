-- What a key of a table gives, and its faults.
use Rattle.std.specs.Prelude.{String, string_bytes, ◌≡◌, ◌⊎◌, ◌+◌, ◌==◌, ℕ, List, count_by, find, is_some, take, Option, Some, None, Result, MatchOption, MatchResult}
use Rattle.std.specs.Global.{Global}
use Rattle.toml.specs.Data.{Data, Members, get_member}
use Rattle.toml.specs.Errors.{IsMemory, IsWithin, span_start}
use Rattle.toml.specs.Parse.{parse_document}
use Rattle.toml.specs.declared.de.error.Error.{Error}
use Rattle.ipx_config.specs.declared.key.Key.{Key}
use Rattle.ipx_config.specs.declared.fault.ConfigError.{ConfigError}
use Rattle.ipx_config.specs.declared.fault.ConfigError.TheVariants.{Missing, NotToml, OtherKind, OutOfMemory, Unknown, Wrong}
use Rattle.ipx_config.specs.declared.site.Kind.{Kind}
use Rattle.ipx_config.specs.Keys.{first_unknown, is_text_of, key_text, keys_of_kind, keys_of_other_kinds}

-- the number of the line at an index into a text: one more than the line ends before it
abbrev pub line_number : List ℕ → ℕ → ℕ
line_number text place = count_by (λ b. b == 10) (take place text) + 1

-- a text is not TOML. The fault has the line and the error of the TOML parser, which lies within the text and
-- is not out of memory
abbrev pub IsNoToml : List ℕ → ConfigError → Type 0
IsNoToml text f = (e : Error) × (f ≡ NotToml (line_number text (span_start e)) e)
    × IsWithin text e × ¬ IsMemory e
    × (parse_document text ≡ None)

-- a table has a name that is no key: the fault has the first one. The number of the table is for the line of
-- the fault
abbrev pub IsUnknown : List Key → Members → ℕ → ConfigError → Type 0
IsUnknown keys ms table f = (name : String Global) × (f ≡ Unknown table name)
    × (first_unknown keys ms ≡ Some (string_bytes name))

-- the fault of a name in a port's table that is no key of its kind: it is a key of another kind, or no key at
-- all
abbrev pub IsStrayName : Kind → List ℕ → ℕ → ConfigError → Type 0
IsStrayName kind name table f = MatchOption (find (is_text_of name) (keys_of_other_kinds kind))
    ((copy : String Global) × (f ≡ Unknown table copy) × (string_bytes copy ≡ name))
    (λ key. f ≡ OtherKind table key kind)

-- the table of a port has such a name: the fault has the first one
abbrev pub IsStray : Kind → Members → ℕ → ConfigError → Type 0
IsStray kind ms table f =
    (name : List ℕ) × (first_unknown (keys_of_kind kind) ms ≡ Some name) × IsStrayName kind name table f

-- the first of these keys that a table has
abbrev pub first_present : List Key → Members → Option Key
first_present keys ms = find (λ key. is_some (get_member (key_text key) ms)) keys

-- a key is absent
abbrev pub IsMissing : Key → Members → ℕ → ConfigError → Type 0
IsMissing key ms table f = (f ≡ Missing table key) × (get_member (key_text key) ms ≡ None)

module _ {A : Type 0} (Means : Data → A → Type 0) where
  -- what a value gives, or that it gives nothing
  abbrev pub Reads : Data → Option A → Type 0
  Reads d found = MatchOption found ((a : A) → Means d a → ⊥) (Means d)

  module _ (key : Key) (ms : Members) where
    -- the key is present, and its value gives this
    abbrev pub Holds : A → Type 0
    Holds a = (d : Data) × (get_member (key_text key) ms ≡ Some d) × Means d a

    -- the same, or the key is absent and this is the default
    abbrev pub HoldsOr : A → A → Type 0
    HoldsOr default a = ((get_member (key_text key) ms ≡ None) × (a ≡ default)) ⊎ Holds a

    -- the same, or the key is absent and there is no value
    abbrev pub HoldsIf : Option A → Type 0
    HoldsIf found = MatchOption found (get_member (key_text key) ms ≡ None) Holds

    -- this key has no fault; only then is a fault of a later key reported
    abbrev pub IsRight : Type 0
    IsRight = (a : A) × Holds a

    abbrev pub IsRightOr : Type 0
    IsRightOr = (get_member (key_text key) ms ≡ None) ⊎ IsRight

    -- the key is present, and its value gives nothing
    abbrev pub IsWrong : ℕ → ConfigError → Type 0
    IsWrong table f = (f ≡ Wrong table key)
        × ((d : Data) × (get_member (key_text key) ms ≡ Some d) × ((a : A) → Means d a → ⊥))

    -- the fault of a required key
    abbrev pub IsFault : ℕ → ConfigError → Type 0
    IsFault table f = IsMissing key ms table f ⊎ IsWrong table f

    -- the result of reading a required key, and a key with a default
    abbrev pub Gives : ℕ → Result A ConfigError → Type 0
    Gives table r = MatchResult r Holds (λ f. (f ≡ OutOfMemory) ⊎ IsFault table f)

    abbrev pub GivesOr : ℕ → A → Result A ConfigError → Type 0
    GivesOr table default r =
        MatchResult r (HoldsOr default) (λ f. (f ≡ OutOfMemory) ⊎ IsWrong table f)

    -- the result of reading an optional key
    abbrev pub GivesIf : ℕ → Result (Option A) ConfigError → Type 0
    GivesIf table r = MatchResult r HoldsIf (λ f. (f ≡ OutOfMemory) ⊎ IsWrong table f)
