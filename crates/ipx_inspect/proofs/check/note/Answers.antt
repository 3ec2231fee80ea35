use Rattle.std.proofs.Common.{◌+◌, ◌++◌, List, arith, refl, sym, ap, ◌∙◌, string_bytes, ℕ, append-nil}
use Rattle.ipx_inspect.specs.declared.check.CheckCounts as code
use Rattle.ipx_inspect.specs.Check.{NoVector, Passed, Failed}
use Rattle.ipx_inspect.proofs.Tallies.{IsTotals-push}
use Rattle.ipx_inspect.proofs.check.note.Goals as goal

pub returns-in-NoVector : goal.returns-in-NoVector
returns-in-NoVector c =
    let t = c.args.totals.now in
    let new : code.CheckCounts = record { text = t.text; lines = t.lines + 1; vectors = t.vectors; failed = t.failed } in
    λ vs was. rw c.in-NoVector.is (IsTotals-push vs NoVector t new was (sym (append-nil (string_bytes t.text))) refl (omega arith) (omega arith))

pub returns-in-Passed : goal.returns-in-Passed
returns-in-Passed c =
    let t = c.args.totals.now in
    let new : code.CheckCounts = record { text = t.text; lines = t.lines + 1; vectors = t.vectors + 1; failed = t.failed } in
    λ vs was. rw c.in-Passed.is (IsTotals-push vs Passed t new was (sym (append-nil (string_bytes t.text))) refl refl (omega arith))

pub returns-in-Failed : goal.returns-in-Failed
returns-in-Failed c =
    let t = c.args.totals.now in
    let new : code.CheckCounts = record { text = c.push_str.new.self; lines = t.lines + 1; vectors = t.vectors + 1; failed = t.failed + 1 } in
    let text = c.in_ok-push_str-in-Failed.ensures.bytes ∙ ap (λ (u : List ℕ). string_bytes t.text ++ u) (c.deref.ensures ∙ c.in_ok-line-in-Failed.ensures) in
    λ vs was. rw c.in-Failed.is (IsTotals-push vs Failed t new was text refl refl refl)
