-- The lines at the end of a script: what became of each end, and whether all that was read of peers was
-- fresh.
use Rattle.std.specs.Prelude.{ℕ, ◌≡◌, ◌+◌, ◌↔◌, Bool, IsTrue, List, [], ◌∷◌, ◌++◌, codes, slice_get, Option, Some, None, if◌then◌else◌}
use Rattle.std.specs.Fmt.{decimal}
use Rattle.std.specs.Int.{w16, to_be_bytes}
use Rattle.hex.specs.Hex.{encode_lower}
use Rattle.spx_theory.specs.LogPremises.{ReadsRecent}
use Rattle.ipx_net.specs.Begins.{Begins}
use Rattle.ipx_net.specs.Ends.{TellsEnds}
use Rattle.ipx_net.specs.NetView.{NetView}
use Rattle.ipx_net.specs.declared.endinfo.EndInfo.{EndInfo}
use Rattle.ipx_sim.specs.ScriptWords.{state_word}

abbrev pub yes_no : Bool → List ℕ
yes_no b = if b then codes "yes" else codes "no"

abbrev pub name_or_none : Option (List ℕ) → List ℕ
name_or_none None = []
name_or_none (Some name) = name

-- the name of a host
abbrev pub name_at : List (List ℕ) → ℕ → List ℕ
name_at names host = name_or_none (slice_get names host)

-- an end, its host and its state
abbrev pub present_text : List (List ℕ) → ℕ → EndInfo → List ℕ
present_text names who info =
    codes "end " ++ (decimal who ++ (codes " " ++ (name_at names info.host
    ++ (codes " " ++ state_word info.state))))

-- how many messages went in and out of it, and its next number in 4 hex digits
abbrev pub end_counts_text : EndInfo → List ℕ
end_counts_text info =
    codes " in " ++ (decimal info.given ++ (codes " out " ++ (decimal info.out
    ++ (codes " next " ++ encode_lower (to_be_bytes w16 info.next)))))

-- and whether what it handed out is a prefix of what its peer handed in
abbrev pub end_summary_line : List (List ℕ) → ℕ → EndInfo → Bool → List ℕ
end_summary_line names who info begins =
    present_text names who info ++ (end_counts_text info
    ++ (codes " begins " ++ (yes_no begins ++ 10 ∷ [])))

-- the lines of ends, numbered from this number on
abbrev pub AreEndLines : NetView → List (List ℕ) → ℕ → List EndInfo → List ℕ → Type 0
AreEndLines n names who [] text = text ≡ []
AreEndLines n names who (info ∷ infos) text =
    (begins : Bool) × (IsTrue begins ↔ Begins n.now.world.log who)
    × (rest : List ℕ) × (text ≡ end_summary_line names who info begins ++ rest)
    × AreEndLines n names (who + 1) infos rest

abbrev pub fresh_line : Bool → List ℕ
fresh_line fresh = codes "fresh " ++ (yes_no fresh ++ 10 ∷ [])

-- the whole summary of a network, whose hosts have these names
pub record Summarizes (n : NetView) (names : List (List ℕ)) (text : List ℕ) : Type 0 where
  pub infos : List EndInfo
  pub told : TellsEnds n infos
  pub lines : List ℕ
  pub are : AreEndLines n names 0 infos lines
  pub fresh : Bool
  pub is_fresh : IsTrue fresh ↔ ReadsRecent n.now.world.log
  pub whole : text ≡ lines ++ fresh_line fresh
