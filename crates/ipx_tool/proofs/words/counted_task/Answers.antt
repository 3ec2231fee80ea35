use Rattle.std.proofs.Common.{◌≡◌, ◌≢◌, ℕ, List, [], ◌∷◌, ap, codes, rules}
use Rattle.ipx_tool.specs.Words.{target_words}
use Rattle.ipx_tool.proofs.PingWords.{found_times, none_of_seven}
use Rattle.ipx_tool.proofs.words.counted_task.Goals as goal

pub returns-then-eq : goal.returns-then-eq
returns-then-eq c =
    let option : c.args.first.now ≡ codes "-c" = search rules in
    found_times c.args.command.now c.args.first.now c.args.second.now c.args.third.now c.args.fourth.now c.args.fifth.now c.args.sixth.now c.args.second.now ([]) (c.args.third.now ∷ c.args.fourth.now ∷ c.args.fifth.now ∷ c.args.sixth.now ∷ [])
    (c.args.third.now ∷ target_words c.target_of.result) c.times_task.result (λ i. option i ∷ c.args.second.now ∷ c.args.third.now ∷ c.args.fourth.now ∷ c.args.fifth.now ∷ c.args.sixth.now ∷ [])
    (ap (λ (ws : List (List ℕ)). c.args.third.now ∷ ws) c.target_of.ensures) tt c.times_task.ensures

pub returns-then-eq-2 : goal.returns-then-eq-2
returns-then-eq-2 c =
    let not_first : c.args.first.now ≢ codes "-c" = search rules in
    let option : c.args.second.now ≡ codes "-c" = search rules in
    found_times c.args.command.now c.args.first.now c.args.second.now c.args.third.now c.args.fourth.now c.args.fifth.now c.args.sixth.now c.args.third.now (c.args.first.now ∷ []) (c.args.fourth.now ∷ c.args.fifth.now ∷ c.args.sixth.now ∷ [])
    (c.args.first.now ∷ target_words c.target_of-then-eq-2.result) c.times_task-then-eq-2.result (λ i. c.args.first.now ∷ option i ∷ c.args.third.now ∷ c.args.fourth.now ∷ c.args.fifth.now ∷ c.args.sixth.now ∷ [])
    (ap (λ (ws : List (List ℕ)). c.args.first.now ∷ ws) c.target_of-then-eq-2.ensures) (not_first, tt) c.times_task-then-eq-2.ensures

pub returns-then-eq-3 : goal.returns-then-eq-3
returns-then-eq-3 c =
    let not_first : c.args.first.now ≢ codes "-c" = search rules in
    let not_second : c.args.second.now ≢ codes "-c" = search rules in
    let option : c.args.third.now ≡ codes "-c" = search rules in
    found_times c.args.command.now c.args.first.now c.args.second.now c.args.third.now c.args.fourth.now c.args.fifth.now c.args.sixth.now c.args.fourth.now (c.args.first.now ∷ c.args.second.now ∷ []) (c.args.fifth.now ∷ c.args.sixth.now ∷ [])
    (c.args.first.now ∷ target_words c.target_of-then-eq-3.result) c.times_task-then-eq-3.result (λ i. c.args.first.now ∷ c.args.second.now ∷ option i ∷ c.args.fourth.now ∷ c.args.fifth.now ∷ c.args.sixth.now ∷ [])
    (ap (λ (ws : List (List ℕ)). c.args.first.now ∷ ws) c.target_of-then-eq-3.ensures) (not_first, (not_second, tt)) c.times_task-then-eq-3.ensures

pub returns-then-eq-4 : goal.returns-then-eq-4
returns-then-eq-4 c =
    let not_first : c.args.first.now ≢ codes "-c" = search rules in
    let not_second : c.args.second.now ≢ codes "-c" = search rules in
    let not_third : c.args.third.now ≢ codes "-c" = search rules in
    let option : c.args.fourth.now ≡ codes "-c" = search rules in
    found_times c.args.command.now c.args.first.now c.args.second.now c.args.third.now c.args.fourth.now c.args.fifth.now c.args.sixth.now c.args.fifth.now (c.args.first.now ∷ c.args.second.now ∷ c.args.third.now ∷ []) (c.args.sixth.now ∷ [])
    (c.args.first.now ∷ target_words c.target_of-then-eq-4.result) c.times_task-then-eq-4.result (λ i. c.args.first.now ∷ c.args.second.now ∷ c.args.third.now ∷ option i ∷ c.args.fifth.now ∷ c.args.sixth.now ∷ [])
    (ap (λ (ws : List (List ℕ)). c.args.first.now ∷ ws) c.target_of-then-eq-4.ensures) (not_first, (not_second, (not_third, tt))) c.times_task-then-eq-4.ensures

pub returns-then-eq-5 : goal.returns-then-eq-5
returns-then-eq-5 c =
    let not_first : c.args.first.now ≢ codes "-c" = search rules in
    let not_second : c.args.second.now ≢ codes "-c" = search rules in
    let not_third : c.args.third.now ≢ codes "-c" = search rules in
    let not_fourth : c.args.fourth.now ≢ codes "-c" = search rules in
    let option : c.args.fifth.now ≡ codes "-c" = search rules in
    found_times c.args.command.now c.args.first.now c.args.second.now c.args.third.now c.args.fourth.now c.args.fifth.now c.args.sixth.now c.args.sixth.now (c.args.first.now ∷ c.args.second.now ∷ c.args.third.now ∷ c.args.fourth.now ∷ []) ([])
    (c.args.first.now ∷ target_words c.target_of-then-eq-5.result) c.times_task-then-eq-5.result (λ i. c.args.first.now ∷ c.args.second.now ∷ c.args.third.now ∷ c.args.fourth.now ∷ option i ∷ c.args.sixth.now ∷ [])
    (ap (λ (ws : List (List ℕ)). c.args.first.now ∷ ws) c.target_of-then-eq-5.ensures) (not_first, (not_second, (not_third, (not_fourth, tt)))) c.times_task-then-eq-5.ensures

pub returns : goal.returns
returns c =
    let not_first : c.args.first.now ≢ codes "-c" = search rules in
    let not_second : c.args.second.now ≢ codes "-c" = search rules in
    let not_third : c.args.third.now ≢ codes "-c" = search rules in
    let not_fourth : c.args.fourth.now ≢ codes "-c" = search rules in
    let not_fifth : c.args.fifth.now ≢ codes "-c" = search rules in
    none_of_seven c.args.command.now c.args.first.now c.args.second.now c.args.third.now c.args.fourth.now c.args.fifth.now c.args.sixth.now not_first not_second not_third not_fourth not_fifth
