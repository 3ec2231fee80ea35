use Rattle.std.proofs.Common.{◌≡◌, ◌∙◌, ◌==◌, List, [], ◌∷◌, ◌++◌, true, false, ap, arith, refl, sym}
use Rattle.std.proofs.lemmas.Grind.{common_steps}
use Rattle.std.proofs.lemmas.List.Folds.{list_any-append}
use Rattle.ipx_wire.specs.Assigned.{all_networks}
use Rattle.ipx_control.specs.declared.rip.packet.RipEntry.{RipEntry}
use Rattle.ipx_router.specs.Replying.{asks_all}
use Rattle.ipx_rate_limits.proofs.querier.names_all.Goals as goal

-- one more entry with one network, or with all networks
one_named : (ys : List RipEntry) (e : RipEntry) → asks_all ys ≡ false → (e.network.0 == all_networks) ≡ false → asks_all (ys ++ e ∷ []) ≡ false
one_named ys e before other =
    list_any-append (λ (x : RipEntry). x.network.0 == all_networks) ys (e ∷ []) ∙ rw (before, other) refl

all_named : (ys later : List RipEntry) (e : RipEntry) → asks_all ys ≡ false → (e.network.0 == all_networks) ≡ true → asks_all (ys ++ e ∷ later) ≡ true
all_named ys later e before every =
    list_any-append (λ (x : RipEntry). x.network.0 == all_networks) ys (e ∷ later) ∙ rw (before, every) refl

pub returns-then-eq : goal.returns-then-eq
returns-then-eq c =
    let ys = c.loop-entry.yielded in
    let e = c.in-Some.entry in
    let later = c.next.new.self in
    let all : ys ++ (e ∷ later) ≡ c.args.asked = grind (arith, common_steps) in
    sym (ap asks_all (sym all) ∙ all_named ys later e c.loop-entry.invariant.named (sym c.eq.ensures ∙ c.if-eq.true))

pub loop-entry-preserved : goal.loop-entry-preserved
loop-entry-preserved c = record {
  all = grind (arith, common_steps);
  named = one_named c.loop-entry.yielded c.in-Some.entry c.loop-entry.invariant.named (sym c.eq.ensures ∙ c.if-eq.false);
}
