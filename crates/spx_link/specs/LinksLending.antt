-- The state of the links after the packet that one of them lent is given back: it satisfies a condition.
use Rattle.std.specs.Prelude.{⊤}
use mathlib.Core.Option.{none}
use Rattle.std.specs.Borrow.{follows_so, MutBor, Fml}
use Rattle.spx_link.specs.Links.{LinksView}
use Rattle.spx_link.specs.contracts.links.Links.{the_row}

abbrev pub RestsSo : MutBor LinksView → (LinksView → Type 0) → Fml
RestsSo s P = follows_so the_row the_row s.ghost_name none (λ _ _. ⊤) P
