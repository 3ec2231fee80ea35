-- The valid bytes of a file, and the exit status of a fault. Defined by this project.
use Rattle.std.specs.Prelude.{◌≡◌, ◌≤◌, ◌⊎◌, ℕ, List, IsUtf8, length}
use Rattle.ipx_config.specs.Values.{Spares}
use Rattle.ipx_config.specs.declared.fault.ConfigError.{ConfigError}
use Rattle.ipx_config.specs.declared.fault.ConfigError.TheVariants.{Again, Missing, NotToml, OtherKind, OtherTunnel, OutOfMemory, SamePlace, Twin, Unknown, Wrong}
use Rattle.ipx_config.specs.declared.site.RouterConfig.{RouterConfig}

-- the bytes of a file are a text: at most 65,536 of them, in UTF-8
abbrev pub IsFileText : List ℕ → Type 0
IsFileText bytes = (length bytes ≤ 65536) × IsUtf8 bytes

-- the exit status of a fault: 1 if out of memory, otherwise 2
abbrev pub fault_status : ConfigError → ℕ
fault_status OutOfMemory = 1
fault_status (NotToml line error) = 2
fault_status (Unknown table name) = 2
fault_status (OtherKind table key kind) = 2
fault_status (OtherTunnel table key) = 2
fault_status (Missing table key) = 2
fault_status (Wrong table key) = 2
fault_status (Twin table network earlier) = 2
fault_status (SamePlace table earlier) = 2
fault_status (Again table earlier) = 2

-- the exit status if bytes describe nothing: out of memory, no text, or a fault
abbrev pub IsStatus : (ConfigError → Type 0) → List ℕ → ℕ → Type 0
IsStatus IsFault bytes status = (status ≡ 1)
    ⊎ ((status ≡ 2) × ((IsFileText bytes → ⊥) ⊎ ((f : ConfigError) × IsFault f)))

-- none of the files that a router writes overwrites the file of this name
abbrev pub WritesOtherFiles : List ℕ → RouterConfig → Type 0
WritesOtherFiles path s =
    Spares s.metrics_file path × Spares s.tables_file path × Spares s.secret_file path
