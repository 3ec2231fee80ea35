-- The lines of ends, one more at a time.
use Rattle.std.proofs.Common.{◌≡◌, ℕ, ◌+◌, ◌<◌, List, [], ◌∷◌, ◌++◌, length, get_or, take, append-nil, append_assoc, Bool, Option, Result, Ok, Err, refl, sym, ap, ◌∙◌, arith, subst}
use Rattle.std.specs.Prelude.{◌↔◌, IsTrue, OnOk}
use Rattle.std.specs.Io.KnownBytes.{Appends}
use Rattle.std.proofs.lemmas.List.{length-take, take_more}
use Rattle.std.proofs.KnownBytes.{Appends-trans}
use Rattle.spx_theory.specs.LogPremises.{ReadsRecent}
use Rattle.ipx_net.specs.Ends.{TellsEnds}
use Rattle.ipx_net.specs.Begins.{Begins}
use Rattle.ipx_net.specs.NetView.{NetView}
use Rattle.ipx_net.specs.declared.endinfo.EndInfo.{EndInfo}
use Rattle.ipx_sim.specs.Summary.{AreEndLines, Summarizes, end_summary_line, fresh_line}

pub end_lines_more : (n : NetView) (names : List (List ℕ)) (who : ℕ) (infos : List EndInfo) (info : EndInfo) (text : List ℕ) (b : Bool) (at : ℕ) → at ≡ who + length infos → AreEndLines n names who infos text
    → (IsTrue b ↔ Begins n.now.world.log at) → AreEndLines n names who (infos ++ info ∷ []) (text ++ end_summary_line names at info b)
end_lines_more n names who [] info text b at is are begins =
    let here : at ≡ who = omega (arith, is) in (
      b,
      subst (λ (k : ℕ). IsTrue b ↔ Begins n.now.world.log k) here begins,
      [],
      ap (λ (t : List ℕ). t ++ end_summary_line names at info b) are ∙ ap (λ (k : ℕ). end_summary_line names k info b) here ∙ sym (append-nil (end_summary_line names who info b)),
      refl,
    )
end_lines_more n names who (x ∷ xs) info text b at is are begins = (
  are.0,
  are.1,
  are.2 ++ end_summary_line names at info b,
  ap (λ (t : List ℕ). t ++ end_summary_line names at info b) are.3 ∙ append_assoc (end_summary_line names who x are.0) are.2 (end_summary_line names at info b),
  end_lines_more n names (who + 1) xs info are.2 b at (omega (arith, is)) are.4 begins,
)

-- the line of one more end was written after those before it
pub written_more : (n : NetView) (names : List (List ℕ)) (infos : List EndInfo) (who : ℕ) (info d : EndInfo) (b : Bool) (old before now : Option (List ℕ)) → who < length infos → info ≡ get_or infos who d
    → ((lines : List ℕ) × AreEndLines n names 0 (take who infos) lines × Appends old before lines) → (IsTrue b ↔ Begins n.now.world.log who) → Appends before now (end_summary_line names who info b)
    → (lines : List ℕ) × AreEndLines n names 0 (take (who + 1) infos) lines × Appends old now lines
written_more n names infos who info d b old before now lt is wrote begins more =
    let at : who ≡ 0 + length (take who infos) = omega (arith, length-take who infos, lt) in
    let longer : take who infos ++ info ∷ [] ≡ take (who + 1) infos = ap (λ (x : EndInfo). take who infos ++ x ∷ []) is ∙ sym (take_more infos who d lt) in (
      wrote.0 ++ end_summary_line names who info b,
      subst (λ (xs : List EndInfo). AreEndLines n names 0 xs (wrote.0 ++ end_summary_line names who info b)) longer (end_lines_more n names 0 (take who infos) info wrote.0 b who at wrote.1 begins),
      Appends-trans old before now wrote.0 (end_summary_line names who info b) wrote.2 more,
    )

-- and last whether all was fresh
pub summarized : {A E : Type 0} (result : Result A E) (n : NetView) (names : List (List ℕ)) (fresh : Bool) (a b c : Option (List ℕ))
    → ((infos : List EndInfo) × TellsEnds n infos × (lines : List ℕ) × AreEndLines n names 0 infos lines × Appends a b lines) → (IsTrue fresh ↔ ReadsRecent n.now.world.log)
    → OnOk result (Appends b c (fresh_line fresh)) → OnOk result ((text : List ℕ) × Summarizes n names text × Appends a c text)
summarized (Err e) n names fresh a b c ends is wrote = tt
summarized (Ok x) n names fresh a b c ends is wrote = (
  ends.2 ++ fresh_line fresh,
  record { infos = ends.0; told = ends.1; lines = ends.2; are = ends.3; fresh = fresh; is_fresh = is; whole = refl },
  Appends-trans a b c ends.2 (fresh_line fresh) ends.4 wrote,
)
