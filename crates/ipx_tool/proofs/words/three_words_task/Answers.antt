use Rattle.std.proofs.Common.{◌≡◌, ℕ, List, [], ◌∷◌, codes, rules, subst, sym}
use Rattle.ipx_tool.specs.Words.{AsksFor, Finds}
use Rattle.ipx_tool.proofs.TypedWords.{found_between, found_first, found_last}
use Rattle.ipx_tool.proofs.words.three_words_task.Goals as goal

pub returns-then-eq : goal.returns-then-eq
returns-then-eq c =
    let json : c.args.first.now ≡ codes "--json" = search rules in
    subst (λ (w : List ℕ). Finds (AsksFor (c.args.command.now ∷ w ∷ c.args.second.now ∷ c.args.third.now ∷ [])) c.type_task.result) (sym json)
    (found_first c.args.command.now c.args.second.now c.args.third.now c.type_task.result c.type_task.ensures)

pub returns-then-eq-2 : goal.returns-then-eq-2
returns-then-eq-2 c =
    let json : c.args.second.now ≡ codes "--json" = search rules in
    let r = c.type_task-then-eq-2.result in
    subst (λ (w : List ℕ). Finds (AsksFor (c.args.command.now ∷ c.args.first.now ∷ w ∷ c.args.third.now ∷ [])) r) (sym json)
    (found_between c.args.command.now c.args.first.now c.args.third.now r c.type_task-then-eq-2.ensures)

pub returns-then-eq-3 : goal.returns-then-eq-3
returns-then-eq-3 c =
    let json : c.args.third.now ≡ codes "--json" = search rules in
    let r = c.type_task-then-eq-3.result in
    subst (λ (w : List ℕ). Finds (AsksFor (c.args.command.now ∷ c.args.first.now ∷ c.args.second.now ∷ w ∷ [])) r) (sym json)
    (found_last c.args.command.now c.args.first.now c.args.second.now r c.type_task-then-eq-3.ensures)
