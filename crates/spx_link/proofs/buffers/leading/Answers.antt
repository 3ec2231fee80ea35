use Rattle.std.proofs.Common.{◌≡◌, ◌+◌, ap, sym, ◌∙◌, length, drop, None, slice_get, true, false, arith}
use Rattle.std.proofs.lemmas.Bool.Decides.{nat_tests}
use Rattle.std.specs.Option.{option_copied}
use Rattle.spx_link.specs.Buffers.{unit_there}
use Rattle.spx_link.specs.LinkView.{is_end}
use Rattle.spx_link.specs.Receive.{leading, any_end}
use Rattle.spx_link.proofs.Laying.{none_there, goes_on, stops, ended_goes, ended_stops}
use Rattle.spx_link.proofs.buffers.leading.Goals as goal

pub returns-in_default-clause-count : goal.returns-in_default-clause-count
returns-in_default-clause-count c =
    let none : unit_there (slice_get c.args.ring.now.items c.loop-place.place) ≡ None = sym c.unit_at.ensures ∙ ap option_copied c.in_default.is in
    let empty = ap (λ us. length us) (none_there c.args.ring.now.items c.loop-place.place none) in
    omega (arith, c.loop-place.invariant.count)

pub returns-in_default-clause-ended : goal.returns-in_default-clause-ended
returns-in_default-clause-ended c =
    let none : unit_there (slice_get c.args.ring.now.items c.loop-place.place) ≡ None = sym c.unit_at.ensures ∙ ap option_copied c.in_default.is in
    sym (ap any_end (none_there c.args.ring.now.items c.loop-place.place none)) ∙ c.loop-place.invariant.ended

pub returns-then-unit-clause-count : goal.returns-then-unit-clause-count
returns-then-unit-clause-count c =
    let ends : is_end c.in-Some.unit.now ≡ true = grind (arith, nat_tests) in
    let one = ap (λ us. length us) (stops c.args.ring.now.items c.loop-place.place c.in-Some.unit.now (sym c.in-Some.ensures) ends) in
    omega (arith, c.loop-place.invariant.count)

pub returns-then-unit-clause-ended : goal.returns-then-unit-clause-ended
returns-then-unit-clause-ended c =
    let ends : is_end c.in-Some.unit.now ≡ true = grind (arith, nat_tests) in
    sym (ended_stops c.in-Some.unit.now ends) ∙ sym (ap any_end (stops c.args.ring.now.items c.loop-place.place c.in-Some.unit.now (sym c.in-Some.ensures) ends)) ∙ c.loop-place.invariant.ended

pub loop-place-preserved : goal.loop-place-preserved
loop-place-preserved c =
    let goes : is_end c.in-Some.unit.now ≡ false = grind (arith, nat_tests) in
    let more = goes_on c.args.ring.now.items c.loop-place.place c.in-Some.unit.now (sym c.in-Some.ensures) goes in
    let many = ap (λ us. length us) more in
    record {
      count = omega (arith, c.loop-place.invariant.count);
      ended = sym (ended_goes c.in-Some.unit.now (leading (drop (c.loop-place.place + 1) c.args.ring.now.items)) goes) ∙ sym (ap any_end more) ∙ c.loop-place.invariant.ended;
      steps = omega (arith, c.loop-place.invariant.steps);
    }
