-- What an end handed out is what it took, joined to messages (Novell SPX: the end of message bit).
use Rattle.std.specs.Prelude.{ℕ, ◌≡◌, ◌≢◌, ◌≤◌, false, List, [], length, Some, None, slice_get}
use Rattle.spx_messages.specs.Joining.{joined}
use Rattle.spx_theory.specs.Handed.{handed_out, taken_of}
use Rattle.spx_theory.specs.Scene.{Scene, PresentEnd}

-- unless a take of it answered that a message grew too long
abbrev pub HandsOutWhatItTook : Scene → Type 0
HandsOutWhatItTook s = (who : ℕ) (e : PresentEnd) → slice_get s.ends who ≡ Some e → e.overlong ≡ false
    → handed_out who s.log ≡ (joined (taken_of who s.log)).messages

-- and its partial message is what is left after them
abbrev pub HoldsWhatIsLeft : Scene → Type 0
HoldsWhatIsLeft s = (who : ℕ) (e : PresentEnd) → slice_get s.ends who ≡ Some e → e.overlong ≡ false
    → e.link ≢ None → e.rest ≡ (joined (taken_of who s.log)).rest

-- an end that does not exist took nothing and handed out nothing
abbrev pub AbsentHandsOutNothing : Scene → Type 0
AbsentHandsOutNothing s = (who : ℕ) → length s.ends ≤ who
    → (taken_of who s.log ≡ []) × (handed_out who s.log ≡ [])
