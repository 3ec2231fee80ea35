use Rattle.std.proofs.Common.{◌≡◌, refl, sym, ◌∙◌, false, string_bytes}
use Rattle.ipx_config.specs.Keys.{is_key}
use Rattle.ipx_config.proofs.Found.{first_is_unknown, unknown_left}
use Rattle.ipx_config.proofs.fields.unknown_in.Goals as goal

pub returns-then-not-is_key : goal.returns-then-not-is_key
returns-then-not-is_key c =
    let keys = c.args.keys.now in
    let none : is_key keys (string_bytes c.in-Some.name.now) ≡ false =
    rw (← c.as_str.ensures.value) (sym c.is_key.ensures ∙ c.if-not-is_key.true) in
    let first = first_is_unknown keys c.loop-name.name-iterator _ c.in-Some.name.now c.in-Some.ensures.steps none in
    let all = c.into_iter-name-iterator.ensures.into_iter_gives ∙ c.keys-name-items.ensures.rest in
    sym (unknown_left keys c.args.table.now.entries _ _ all c.loop-name.invariant.2
    ∙ rw c.as_str-then-not-is_key.ensures.value first)

pub returns : goal.returns
returns c =
    let all = c.into_iter-name-iterator.ensures.into_iter_gives ∙ c.keys-name-items.ensures.rest in
    sym (unknown_left c.args.keys.now c.args.table.now.entries _ _ all c.loop-name.invariant.2
    ∙ rw c.in-None.ensures.steps.0 refl)
