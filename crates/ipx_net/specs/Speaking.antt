-- Definitions for private functions: the entries of a packet that a host sent, by the end that sent it.
use Rattle.std.specs.Prelude.{ℕ, List, [], ◌∷◌, Option, Some, None}
use Rattle.spx_link.specs.declared.outgoing.Sent.{Sent}
use Rattle.spx_theory.specs.Note.{Note}
use Rattle.spx_theory.specs.PacketsOnWay.{note_of}

abbrev pub spoken_notes : Option (ℕ × Sent) → ℕ → List Note
spoken_notes None parcel = []
spoken_notes (Some s) parcel = note_of s.1 s.0 parcel ∷ []
