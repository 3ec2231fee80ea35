use Rattle.std.proofs.Common.{◌≡◌, ◌∙◌, Option, Some, None, length, refl, slice_get, subst, sym}
use Rattle.std.specs.Prelude.{IfNone}
use Rattle.std.proofs.lemmas.Option.{slice_get_past, slice_get_read}
use Rattle.ipx_router.specs.declared.port.Port.{Port}
use Rattle.ipx_rate_limits.specs.DirectedBroadcasts.{IsDirectedAt}
use Rattle.ipx_rate_limits.proofs.directed_broadcast.directed_broadcast_in.Goals as goal

along : {A P Q : Type 0} (o : Option A) → (P → Q) → IfNone o P → IfNone o Q
along None f h = f h
along (Some x) f h = h

pub returns-in-Some-clause-none : goal.returns-in-Some-clause-none
returns-in-Some-clause-none c =
    let ports = c.args.ports.now in
    let here = c.in-Some.at.now in
    let there : slice_get ports c.args.port ≡ Some here = slice_get_read ports (length ports) c.args.port here refl c.in-Some.ensures.lookup.3.0 c.in-Some.ensures.lookup.1 in
    along c.directed_at.result
    (λ none who q.
    let same : Some q.0 ≡ Some here = sym q.1 ∙ there in
    let one : q.0 ≡ here = cc in
    none who (subst (λ (at : Port). IsDirectedAt ports c.args.limits.now at c.args.bytes.now who) one q.2))
    c.directed_at.ensures.none

pub returns-in-None-clause-none : goal.returns-in-None-clause-none
returns-in-None-clause-none c = λ who q.
    let none : slice_get c.args.ports.now c.args.port ≡ None = slice_get_past c.args.ports.now c.args.port c.in-None.ensures.lookup.3 in
    cc (sym none ∙ q.1)
