use Rattle.std.proofs.Common.{◌≡◌, ℕ, sym, subst, List}
use Rattle.std.specs.Prelude.{All, IfOk}
use Rattle.spx_link.specs.declared.unit.Unit.{Unit}
use Rattle.spx_messages.specs.Cut.{IsCut}
use Rattle.spx_messages.proofs.Pieces.{cut_is, cut_streams, if_ok}
use Rattle.spx_messages.proofs.cutting.cut.Goals as goal

pub returns-clause-units : goal.returns-clause-units
returns-clause-units c =
    subst (λ (bs : List ℕ). IfOk c.cut_bytes.result (λ v. IsCut (record { stream = c.args.message.now.stream; body = bs }) v.items)) c.deref.ensures.value
    (if_ok c.cut_bytes.result (λ v is. cut_is (record { stream = c.args.message.now.stream; body = c.deref.result.now }) v.items is) c.cut_bytes.ensures.ok)

pub returns-clause-streams : goal.returns-clause-streams
returns-clause-streams c =
    if_ok c.cut_bytes.result
    (λ v is. let P : List Unit → Type 0 = λ us. All (λ (u : Unit). u.stream ≡ c.args.message.now.stream) us in subst P (sym is) (cut_streams (record { stream = c.args.message.now.stream; body = c.deref.result.now })))
    c.cut_bytes.ensures.ok
