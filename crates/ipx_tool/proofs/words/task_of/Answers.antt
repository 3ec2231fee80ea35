use Rattle.std.proofs.Common.{◌<◌, ◌≤◌, ℕ, List, [], ◌∷◌, length, string_bytes, ap, arith, ◌∙◌}
use Rattle.std.proofs.lemmas.Bool.{ltb-true, ltb-false}
use Rattle.ipx_tool.proofs.ListedWords.{after_two, after_three, after_four, after_five, after_six, after_eight, found_for, none_behind}
use Rattle.ipx_tool.proofs.words.task_of.Goals as goal
use Rattle.ipx_tool.proofs.words.task_of.Goals.{in_default-via-then-words-lt2, in_default-via-else-words-lt2+else-words-lt3+else-words-lt4+else-words-lt5+else-words-lt6+else-words-lt7+then-words-lt8, in_default-via-else-words-lt2+else-words-lt3+else-words-lt4+else-words-lt5+else-words-lt6+else-words-lt7+else-words-lt8+else-words-lt9}

pub returns-in-len2 : goal.returns-in-len2
returns-in-len2 c =
    found_for c.plain_task.result
    (ap (λ t. t ∷ []) c.as_str.ensures.value ∙ after_two string_bytes c.args.words.now _ c.in-len2.len_at_least c.in-len2.len_below c.command-item.is)
    c.plain_task.ensures

pub returns-in-len3 : goal.returns-in-len3
returns-in-len3 c =
    found_for c.one_word_task.result
    ((λ i. c.as_str-in-len3.ensures.value i ∷ c.as_str-in-len3-2.ensures.value i ∷ [])
    ∙ after_three string_bytes c.args.words.now _ _ c.in-len3.len_at_least c.in-len3.len_below c.command-item-then-words-lt4.is c.word-item.is)
    c.one_word_task.ensures

pub returns-in-len4 : goal.returns-in-len4
returns-in-len4 c =
    found_for c.option_task.result
    ((λ i. c.as_str-in-len4.ensures.value i ∷ c.as_str-in-len4-2.ensures.value i ∷ c.as_str-in-len4-3.ensures.value i ∷ [])
    ∙ after_four string_bytes c.args.words.now _ _ _ c.in-len4.len_at_least c.in-len4.len_below c.command-item-then-words-lt5.is c.option-item.is c.value-item.is)
    c.option_task.ensures

pub returns-in-len5 : goal.returns-in-len5
returns-in-len5 c =
    found_for c.three_words_task.result
    ((λ i. c.as_str-in-len5.ensures.value i ∷ c.as_str-in-len5-2.ensures.value i ∷ c.as_str-in-len5-3.ensures.value i ∷ c.as_str-in-len5-4.ensures.value i ∷ [])
    ∙ after_five string_bytes c.args.words.now _ _ _ _ c.in-len5.len_at_least c.in-len5.len_below c.command-item-then-words-lt6.is c.first-item.is c.second-item.is c.third-item.is)
    c.three_words_task.ensures

pub returns-in-len6 : goal.returns-in-len6
returns-in-len6 c =
    found_for c.dialing_task.result
    (ap (λ (ws : List (List ℕ)). c.as_str-in-len6-4.result.now ∷ c.as_str-in-len6-5.result.now ∷ ws) c.target_of-target.ensures
    ∙ (λ i. c.as_str-in-len6-4.ensures.value i ∷ c.as_str-in-len6-5.ensures.value i ∷ c.as_str-in-len6.ensures.value i
    ∷ c.as_str-in-len6-2.ensures.value i ∷ c.as_str-in-len6-3.ensures.value i ∷ [])
    ∙ after_six string_bytes c.args.words.now _ _ _ _ _ c.in-len6.len_at_least c.in-len6.len_below c.command-item-then-words-lt7.is
    c.file-item.is c.network-item.is c.node-item.is c.socket-item.is)
    c.dialing_task.ensures

pub returns-in-len8 : goal.returns-in-len8
returns-in-len8 c =
    found_for c.counted_task.result
    ((λ i. c.as_str-in-len8.ensures.value i ∷ c.as_str-in-len8-2.ensures.value i ∷ c.as_str-in-len8-3.ensures.value i ∷ c.as_str-in-len8-4.ensures.value i
    ∷ c.as_str-in-len8-5.ensures.value i ∷ c.as_str-in-len8-6.ensures.value i ∷ c.as_str-in-len8-7.ensures.value i ∷ [])
    ∙ after_eight string_bytes c.args.words.now _ _ _ _ _ _ _ c.in-len8.len_at_least c.in-len8.len_below c.command-item-then-words-lt9.is
    c.first-item-then-words-lt9.is c.second-item-then-words-lt9.is c.third-item-then-words-lt9.is c.fourth-item.is c.fifth-item.is c.sixth-item.is)
    c.counted_task.ensures

pub returns-in_default : goal.returns-in_default
returns-in_default c =
    let n = length c.args.words.now in
    elim c.in_default.branch [
      | in_default-via-then-words-lt2 w ↦
          let most : n < 2 = ltb-true n 2 w.if-words-lt2-1.true in
          none_behind string_bytes c.args.words.now (λ e. omega arith) (λ e. omega arith) (λ e. omega arith) (λ e. omega arith) (λ e. omega arith) (λ e. omega arith)
      | in_default-via-else-words-lt2+else-words-lt3+else-words-lt4+else-words-lt5+else-words-lt6+else-words-lt7+then-words-lt8 w ↦
          let least : 7 ≤ n = ltb-false n 7 w.if-words-lt7-1.false in
          let most : n < 8 = ltb-true n 8 w.if-words-lt8-1.true in
          none_behind string_bytes c.args.words.now (λ e. omega arith) (λ e. omega arith) (λ e. omega arith) (λ e. omega arith) (λ e. omega arith) (λ e. omega arith)
      | in_default-via-else-words-lt2+else-words-lt3+else-words-lt4+else-words-lt5+else-words-lt6+else-words-lt7+else-words-lt8+else-words-lt9 w ↦
          let least : 9 ≤ n = ltb-false n 9 w.if-words-lt9-1.false in
          none_behind string_bytes c.args.words.now (λ e. omega arith) (λ e. omega arith) (λ e. omega arith) (λ e. omega arith) (λ e. omega arith) (λ e. omega arith)
    ]
