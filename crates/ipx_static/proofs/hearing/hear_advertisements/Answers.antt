use Rattle.std.proofs.Common.{◌≡◌, ◌+◌, ◌-◌, ◌∙◌, ◌∷◌, ℕ, List, ap, arith, drop, subst, sym}
use Rattle.std.proofs.lemmas.List.{drop_more}
use Rattle.std.proofs.lemmas.Result.{err_from_is_err_and}
use Rattle.ipx_router.specs.declared.outcome.Reply.{Reply}
use Rattle.ipx_router.specs.Ports.{IsPortNumber}
use Rattle.ipx_static.proofs.HearingWords.{heard_more, missed_here, missed_later, word_there}
use Rattle.ipx_static.proofs.hearing.hear_advertisements.Goals as goal

pub overflow_sub-word : goal.overflow_sub-word
overflow_sub-word g c =
    let n = g.C.Core.port_count c.args.core.now in
    let w = c.word-item.result in
    let there : IsPortNumber n w.port = subst (λ (w : Reply). IsPortNumber n w.port) (sym c.word-item.is) (word_there n c.args.advertisements.now c.loop-word.word-index w c.loop-word-test.true c.requires) in
    there.0

pub hear-requires : goal.hear-requires
hear-requires g c =
    let n = g.C.Core.port_count c.args.core.now in
    let w = c.word-item.result in
    let there : IsPortNumber n w.port = subst (λ (w : Reply). IsPortNumber n w.port) (sym c.word-item.is) (word_there n c.args.advertisements.now c.loop-word.word-index w c.loop-word-test.true c.requires) in
    let same : g.C.Core.port_count c.loop-word.core ≡ n = c.loop-word.invariant.ports in
    omega (arith, same, there.0, there.1)

pub returns-in_err-hear-clause-refused : goal.returns-in_err-hear-clause-refused
returns-in_err-hear-clause-refused g c =
    let p = err_from_is_err_and c.from_residual.result c.from_residual.ensures.1 in
    let ws = c.args.advertisements.now in
    let i = c.loop-word.word-index in
    let w = c.word-item.result in
    let at = drop_more ws i w c.loop-word-test.true ∙ ap (λ (w : Reply). w ∷ drop (i + 1) ws) (sym c.word-item.is) in
    let missed = subst (λ (bytes : List ℕ). g.C.Core.hear_out_of_memory c.loop-word.core (w.port - 1) bytes c.args.now c.hear.new.self) c.deref.ensures.value c.in_err-hear.ensures.refused in
    rw p.1 (missed_here g.C.Core.hears g.C.Core.hear_out_of_memory c.args.now ws i w at c.args.core.now c.loop-word.core c.hear.new.self missed c.loop-word.invariant.missed)

pub loop-word-preserved : goal.loop-word-preserved
loop-word-preserved g c =
    let ws = c.args.advertisements.now in
    let i = c.loop-word.word-index in
    let w = c.word-item.result in
    let at = drop_more ws i w c.loop-word-test.true ∙ ap (λ (w : Reply). w ∷ drop (i + 1) ws) (sym c.word-item.is) in
    let heard = subst (λ (bytes : List ℕ). g.C.Core.hears c.loop-word.core (w.port - 1) bytes c.args.now c.hear.new.self) c.deref.ensures.value c.in_ok-hear.ensures.heard in
    record {
      heard = heard_more g.C.Core.hears g.C.Core.hear_out_of_memory c.args.now ws i w at c.args.core.now c.loop-word.core c.hear.new.self heard c.loop-word.invariant.heard;
      missed = missed_later g.C.Core.hears g.C.Core.hear_out_of_memory c.args.now ws i w at c.args.core.now c.loop-word.core c.hear.new.self heard c.loop-word.invariant.missed;
      ports = c.in_ok-hear.ensures.ports ∙ c.loop-word.invariant.ports;
    }
