-- What a router writes into its table file.
use Rattle.std.specs.Prelude.{ℕ, List}
use Rattle.ipx_router.specs.RouterView.{RouterView}
use Rattle.ipx_table_dump.specs.TableText.{IsTables}

-- a text says what this router knows at this time
abbrev pub TellsKnown : RouterView → ℕ → List ℕ → Type 0
TellsKnown router now text = IsTables router.ports router.routes router.services now text
