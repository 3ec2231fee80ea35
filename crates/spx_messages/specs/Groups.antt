-- The messages that a whole list of units is joined to, and the beginning of one that is not complete (Novell
-- SPX: the end of message bit).
use Rattle.std.specs.Prelude.{◌≡◌, true, false, not, All, List, [], ◌∷◌, ◌++◌, filter, map, Option, Some, None}
use Rattle.std.specs.List.{flat_map}
use Rattle.spx_link.specs.declared.unit.Unit.{Unit}
use Rattle.spx_link.specs.LinkView.{is_end}
use Rattle.spx_messages.specs.Message.{MessageView}
use Rattle.spx_messages.specs.Cut.{unit_bytes}

-- no unit ends a message
abbrev pub HasNoMark : List Unit → Type 0
HasNoMark = All (λ u. u.last ≡ false)

-- units of which the last one ends a message, and no other does
pub record IsGroup (units : List Unit) : Type 0 where
  pub before : List Unit
  pub final : Unit
  pub are : units ≡ before ++ final ∷ []
  pub unmarked : HasNoMark before
  pub marked : final.last ≡ true

-- all bytes of units, with the stream of the first one; none if there is no unit
abbrev pub as_one : List Unit → Option MessageView
as_one [] = None
as_one (u ∷ us) = Some (record { stream = u.stream; body = flat_map unit_bytes (u ∷ us) })

-- without the ends of connections, the units are groups, followed by others without an end of message. Each
-- group is one message, and the others are the beginning of one
pub record UnitsJoinTo (units : List Unit) (messages : List MessageView)
    (rest : Option MessageView) : Type 0 where
  pub groups : List (List Unit)
  pub others : List Unit
  pub are : filter (λ u. not (is_end u)) units ≡ flat_map (λ g. g) groups ++ others
  pub ended : All IsGroup groups
  pub unended : HasNoMark others
  pub each : map as_one groups ≡ map Some messages
  pub begun : as_one others ≡ rest
