use Rattle.std.proofs.Common.{◌≡◌, [], ◌∷◌, ◌++◌, drop, inr, arith, refl}
use Rattle.std.proofs.lemmas.List.{append-nil, append_assoc, drop_all}
use Rattle.std.proofs.lemmas.Result.{err_from_is_err_and}
use Rattle.ipx_config.proofs.Each.{item_left}
use Rattle.ipx_config.proofs.Faults.{or_memory}
use Rattle.ipx_config.proofs.StaticEntries.{again_fault, entry_fault, later_entry_fault, one_more_entry}
use Rattle.ipx_config.proofs.static_lists.entries_of.Goals as goal

pub returns-in_err-entry-clause-fault : goal.returns-in_err-entry-clause-fault
returns-in_err-entry-clause-fault c =
    let next = item_left c.args.values.now c.loop-value.value-index c.value-item.result c.value-item.is c.loop-value-test.true in
    let p = err_from_is_err_and c.from_residual.result c.from_residual.ensures.1 in
    rw (p.1, p.2)
    (or_memory c.in_err-entry.field-0.0
    (λ fault. c.loop-value.invariant.1 c.in_err-entry.field-0.0
    (entry_fault c.args.kind c.args.ports.now c.loop-value.entries.items _ (grind (arith)) _ _ _ next c.in_err-entry.field-0.0 fault))
    c.in_err-entry.ensures.fault)

pub returns-in_err-refuse_again-clause-fault : goal.returns-in_err-refuse_again-clause-fault
returns-in_err-refuse_again-clause-fault c =
    let next = item_left c.args.values.now c.loop-value.value-index c.value-item.result c.value-item.is c.loop-value-test.true in
    let p = err_from_is_err_and c.from_residual-in_err-refuse_again.result c.from_residual-in_err-refuse_again.ensures.1 in
    rw (p.1, p.2)
    (inr (c.loop-value.invariant.1 c.in_err-refuse_again.field-0.0
    (again_fault c.args.kind c.args.ports.now c.loop-value.entries.items c.deref.result.now c.deref.ensures.value _ _ _ next c.in_ok-entry.entry c.in_ok-entry.ensures.entry c.in_err-refuse_again.field-0.0 c.in_err-refuse_again.ensures.again)))

pub loop-value-preserved : goal.loop-value-preserved
loop-value-preserved c =
    let next = item_left c.args.values.now c.loop-value.value-index c.value-item.result c.value-item.is c.loop-value-test.true in
    let entry = c.in_ok-entry.entry in
    let before = c.loop-value.entries.items in
    let more : c.push.new.self.items ≡ before ++ entry ∷ [] = c.in_ok-push.ensures.items in (
      (λ rest are.
          rw (more, append_assoc before (entry ∷ []) rest)
          (c.loop-value.invariant.0 (entry ∷ rest)
          (one_more_entry c.args.kind c.args.ports.now before c.deref.result.now c.push.new.self.items c.deref.ensures.value entry more _ _ _ next c.in_ok-entry.ensures.entry c.in_ok-refuse_again.ensures.alone rest are))),
      λ f fault.
          c.loop-value.invariant.1 f
          (later_entry_fault c.args.kind c.args.ports.now before c.deref.result.now c.push.new.self.items c.deref.ensures.value entry more _ _ _ next c.in_ok-entry.ensures.entry c.in_ok-refuse_again.ensures.alone f fault),
    )

pub returns-clause-entries : goal.returns-clause-entries
returns-clause-entries c =
    let over : drop c.loop-value.value-index c.args.values.now ≡ [] = drop_all c.loop-value.value-index c.args.values.now c.loop-value-test.false in
    let whole = c.loop-value.invariant.0 [] (rw over refl) in
    rw (append-nil c.loop-value.entries.items) at whole
