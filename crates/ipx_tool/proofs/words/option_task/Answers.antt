use Rattle.std.proofs.Common.{◌≡◌, ◌≢◌, ℕ, List, [], ◌∷◌, codes, rules, subst, sym}
use Rattle.ipx_tool.specs.Words.{AsksFor, Finds}
use Rattle.ipx_tool.proofs.OptionsAfter.{found_after, found_check, found_json}
use Rattle.ipx_tool.proofs.TypedWords.{NoOptions, found_typed}
use Rattle.ipx_tool.proofs.words.option_task.Goals as goal

pub returns-then-eq : goal.returns-then-eq
returns-then-eq c =
    let port : c.args.first.now ≡ codes "--port" = search rules in
    subst (λ (w : List ℕ). Finds (AsksFor (c.args.command.now ∷ w ∷ c.args.second.now ∷ [])) c.port_task.result) (sym port) c.port_task.ensures

pub returns-then-eq-2 : goal.returns-then-eq-2
returns-then-eq-2 c =
    let once : c.args.first.now ≡ codes "--once" = search rules in
    subst (λ (w : List ℕ). Finds (AsksFor (c.args.command.now ∷ w ∷ c.args.second.now ∷ [])) c.once_task.result) (sym once) c.once_task.ensures

pub returns-then-eq-3 : goal.returns-then-eq-3
returns-then-eq-3 c =
    let check : c.args.first.now ≡ codes "--check" = search rules in
    subst (λ (w : List ℕ). Finds (AsksFor (c.args.command.now ∷ w ∷ c.args.second.now ∷ [])) c.check_task.result) (sym check) c.check_task.ensures

pub returns-then-eq-4 : goal.returns-then-eq-4
returns-then-eq-4 c =
    let once : c.args.second.now ≡ codes "--once" = search rules in
    let r = c.once_task-then-eq-4.result in
    subst (λ (w : List ℕ). Finds (AsksFor (c.args.command.now ∷ c.args.first.now ∷ w ∷ [])) r) (sym once)
    (found_after c.args.command.now c.args.first.now r c.once_task-then-eq-4.ensures)

pub returns-then-eq-5 : goal.returns-then-eq-5
returns-then-eq-5 c =
    let check : c.args.second.now ≡ codes "--check" = search rules in
    let r = c.check_task-then-eq-5.result in
    subst (λ (w : List ℕ). Finds (AsksFor (c.args.command.now ∷ c.args.first.now ∷ w ∷ [])) r) (sym check)
    (found_check c.args.command.now c.args.first.now r c.check_task-then-eq-5.ensures)

pub returns-then-eq-6 : goal.returns-then-eq-6
returns-then-eq-6 c =
    let json : c.args.first.now ≡ codes "--json" = search rules in
    subst (λ (w : List ℕ). Finds (AsksFor (c.args.command.now ∷ w ∷ c.args.second.now ∷ [])) c.json_task.result) (sym json) c.json_task.ensures

pub returns-then-eq-7 : goal.returns-then-eq-7
returns-then-eq-7 c =
    let json : c.args.second.now ≡ codes "--json" = search rules in
    let r = c.json_task-then-eq-7.result in
    subst (λ (w : List ℕ). Finds (AsksFor (c.args.command.now ∷ c.args.first.now ∷ w ∷ [])) r) (sym json)
    (found_json c.args.command.now c.args.first.now r c.json_task-then-eq-7.ensures)

pub returns-then-eq-8 : goal.returns-then-eq-8
returns-then-eq-8 c =
    let frame : c.args.first.now ≡ codes "--frame" = search rules in
    subst (λ (w : List ℕ). Finds (AsksFor (c.args.command.now ∷ w ∷ c.args.second.now ∷ [])) c.frames_task.result) (sym frame) c.frames_task.ensures

pub returns : goal.returns
returns c =
    let first = c.args.first.now in
    let second = c.args.second.now in
    let port : first ≢ codes "--port" = search rules in
    let once : first ≢ codes "--once" = search rules in
    let check : first ≢ codes "--check" = search rules in
    let json : first ≢ codes "--json" = search rules in
    let frame : first ≢ codes "--frame" = search rules in
    let once_after : second ≢ codes "--once" = search rules in
    let check_after : second ≢ codes "--check" = search rules in
    let json_after : second ≢ codes "--json" = search rules in
    let none : NoOptions first second = record { port = port; once = once; check = check; json = json; frame = frame; once_after = once_after; check_after = check_after; json_after = json_after } in
    found_typed c.args.command.now first second c.type_task.result none c.type_task.ensures
