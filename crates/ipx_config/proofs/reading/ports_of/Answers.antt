use Rattle.std.proofs.Common.{◌≡◌, ◌∙◌, ℕ, ◌+◌, [], ◌∷◌, ◌++◌, drop, inr, ap, refl}
use Rattle.std.proofs.lemmas.List.{append-nil, append_assoc, drop_all}
use Rattle.std.proofs.lemmas.Result.{err_from_is_err_and}
use Rattle.ipx_config.proofs.Each.{item_left}
use Rattle.ipx_config.proofs.Faults.{item_fault, later_fault, one_more_port, or_memory, repeated_fault}
use Rattle.ipx_config.proofs.reading.ports_of.Goals as goal

pub returns-in_err-port-clause-fault : goal.returns-in_err-port-clause-fault
returns-in_err-port-clause-fault c =
    let next = item_left c.args.values.now c.loop-value.value-index c.value-item.result c.value-item.is c.loop-value-test.true in
    let p = err_from_is_err_and c.from_residual.result c.from_residual.ensures.1 in
    let counted : c.len-number.result ≡ c.loop-value.value-index = c.len-number.ensures ∙ c.loop-value.invariant.0 in
    rw (p.1, p.2)
    (or_memory c.in_err-port.field-0.0
    (λ fault. c.loop-value.invariant.2 c.in_err-port.field-0.0
    (item_fault c.loop-value.ports.items c.loop-value.value-index c.len-number.result counted _ _ _ next c.in_err-port.field-0.0 fault))
    c.in_err-port.ensures.fault)

pub returns-in_err-refuse_repeated-clause-fault : goal.returns-in_err-refuse_repeated-clause-fault
returns-in_err-refuse_repeated-clause-fault c =
    let next = item_left c.args.values.now c.loop-value.value-index c.value-item.result c.value-item.is c.loop-value-test.true in
    let p = err_from_is_err_and c.from_residual-in_err-refuse_repeated.result c.from_residual-in_err-refuse_repeated.ensures.1 in
    let counted : c.len-number.result ≡ c.loop-value.value-index = c.len-number.ensures ∙ c.loop-value.invariant.0 in
    rw (p.1, p.2)
    (inr (c.loop-value.invariant.2 c.in_err-refuse_repeated.field-0.0
    (repeated_fault c.loop-value.ports.items c.deref.result.now c.deref.ensures.value c.loop-value.value-index c.len-number.result counted _ _ _ next c.in_ok-port.port c.in_ok-port.ensures.port c.in_err-refuse_repeated.field-0.0 c.in_err-refuse_repeated.ensures.repeated)))

pub loop-value-preserved : goal.loop-value-preserved
loop-value-preserved c =
    let next = item_left c.args.values.now c.loop-value.value-index c.value-item.result c.value-item.is c.loop-value-test.true in
    let port = c.in_ok-port.port in
    let before = c.loop-value.ports.items in
    let more : c.push.new.self.items ≡ before ++ port ∷ [] = c.in_ok-push.ensures.items in (
      c.in_ok-push.ensures.len ∙ ap (λ (n : ℕ). n + 1) c.loop-value.invariant.0,
      (λ rest are.
          rw (more, append_assoc before (port ∷ []) rest)
          (c.loop-value.invariant.1 (port ∷ rest)
          (one_more_port before c.deref.result.now c.push.new.self.items c.deref.ensures.value port more _ _ _ next c.in_ok-port.ensures.port c.in_ok-refuse_repeated.ensures.alone rest are))),
      λ f fault.
          c.loop-value.invariant.2 f
          (later_fault before c.deref.result.now c.push.new.self.items c.deref.ensures.value port more c.loop-value.value-index _ _ _ next c.in_ok-port.ensures.port c.in_ok-refuse_repeated.ensures.alone f fault),
    )

pub returns-clause-ports : goal.returns-clause-ports
returns-clause-ports c =
    let over : drop c.loop-value.value-index c.args.values.now ≡ [] = drop_all c.loop-value.value-index c.args.values.now c.loop-value-test.false in
    let whole = c.loop-value.invariant.1 [] (rw over refl) in
    rw (append-nil c.loop-value.ports.items) at whole
