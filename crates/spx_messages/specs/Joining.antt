-- How units are joined to messages: those up to one that ends a message are one message, and ends of
-- connections are left out.
use Rattle.std.specs.Prelude.{ℕ, ◌≡◌, ◌<◌, ◌≤◌, nat_lt, Bool, All, List, [], ◌∷◌, ◌++◌, length, map, Option, Some, None, fold, if◌then◌else◌}
use Rattle.std.specs.List.{flat_map}
use Rattle.spx_link.specs.declared.unit.Unit.{Unit}
use Rattle.spx_link.specs.Limits.{end_stream}
use Rattle.spx_link.specs.LinkView.{is_end}
use Rattle.spx_messages.specs.Message.{MessageView, most_bytes}
use Rattle.spx_messages.specs.Cut.{unit_bytes, cut_of}

-- the complete messages of the units, and the beginning of one that is not complete
pub record Joining : Type 0 where
  pub messages : List MessageView
  pub rest : Option MessageView

-- a unit's bytes, added to those of its message, whose stream is that of its first unit
abbrev pub added : Option MessageView → Unit → MessageView
added None u = record { stream = u.stream; body = unit_bytes u }
added (Some m) u = record m { body = m.body ++ unit_bytes u }

abbrev pub join_unit : Joining → Unit → Joining
join_unit j u =
    if is_end u then j
    else if u.last then record { messages = j.messages ++ added j.rest u ∷ []; rest = None }
    else record j { rest = Some (added j.rest u) }

abbrev pub join_all : Joining → List Unit → Joining
join_all = fold join_unit

abbrev pub joined : List Unit → Joining
joined = join_all (record { messages = []; rest = None })

-- with this unit a message has more than 65,535 bytes
abbrev pub is_overlong : Option MessageView → Unit → Bool
is_overlong rest u = nat_lt most_bytes (length (added rest u).body)

-- the units of messages, one after another
abbrev pub units_of_messages : List MessageView → List Unit
units_of_messages = flat_map cut_of

-- a message that can be sent
pub record IsSendable (m : MessageView) : Type 0 where
  pub stream : m.stream < end_stream
  pub bytes : length m.body ≤ most_bytes

abbrev pub AreSendable : List MessageView → Type 0
AreSendable = All IsSendable
