-- The entries of a log, without their place in memory.
use Rattle.std.specs.Prelude.{List, map}
use Rattle.spx_link.specs.declared.unit.Unit.{Unit}
use Rattle.spx_messages.specs.Message.{message_view}
use Rattle.spx_theory.specs.Note.{Note}
use Rattle.ipx_net.specs.declared.entry.Entry.{Entry}
use Rattle.ipx_net.specs.declared.entry.Entry.TheVariants as Entries
use Rattle.ipx_net.specs.declared.entry.TakenUnit.{TakenUnit}
use Rattle.spx_theory.specs.Note as Notes

-- the unit that was taken
abbrev pub taken_unit : TakenUnit → Unit
taken_unit u = record { stream = u.stream; last = u.last; body = record { items = u.body.items } }

abbrev pub entry_note : Entry → Note
entry_note (Entries.Opened who host buffers) = Notes.Opened who host buffers
entry_note (Entries.Accepted who parcel buffers) = Notes.Accepted who parcel buffers
entry_note (Entries.Joined who parcel) = Notes.Joined who parcel
entry_note (Entries.HandIn who message) = Notes.HandsIn who (message_view message)
entry_note (Entries.HandOut who message) = Notes.HandsOut who (message_view message)
entry_note (Entries.UnitTaken who unit) = Notes.TakesUnit who (taken_unit unit)
entry_note (Entries.EndAsked who) = Notes.AsksEnd who
entry_note (Entries.Got who parcel) = Notes.Got who parcel
entry_note (Entries.Released who) = Notes.Released who
entry_note (Entries.Unit who parcel) = Notes.SendsUnit who parcel
entry_note (Entries.Again who parcel) = Notes.SendsAgain who parcel
entry_note (Entries.System who parcel) = Notes.SendsSystem who parcel
entry_note (Entries.Told router parcel) = Notes.Told router parcel
entry_note (Entries.Carried from parcel) = Notes.Carried from parcel
entry_note (Entries.Injected parcel) = Notes.Injected parcel

abbrev pub entry_notes : List Entry → List Note
entry_notes entries = map entry_note entries
