-- The state of a link after the packet that it lent is given back.
use Rattle.std.specs.Prelude.{◌≡◌, ⊤}
use mathlib.Core.Option.{none}
use Rattle.std.specs.Borrow.{follows_so, MutBor, Fml}
use Rattle.spx_link.specs.LinkView.{LinkView}
use Rattle.spx_link.specs.contracts.link.Link.{the_row}

abbrev pub LoanEndsAs : MutBor LinkView → LinkView → Fml
LoanEndsAs s after = follows_so the_row the_row s.ghost_name none (λ _ _. ⊤) (λ n. n ≡ after)
