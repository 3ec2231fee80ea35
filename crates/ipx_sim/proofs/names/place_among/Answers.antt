use Rattle.std.proofs.Common.{ℕ, List, [], map, string_bytes, sym, arith}
use Rattle.std.specs.Str.{bytes_eq}
use Rattle.std.proofs.lemmas.List.{length-map}
use Rattle.ipx_sim.specs.ScriptPlaces.{place_among}
use Rattle.ipx_sim.proofs.Positions.{first_at, first_none, not_yet}
use Rattle.ipx_sim.proofs.names.place_among.Goals as goal

pub returns-then-is_named : goal.returns-then-is_named
unfolding place_among
returns-then-is_named c =
    first_at (λ (known : List ℕ). bytes_eq known c.args.name.now) string_bytes c.args.names.now c.loop-number.number c.index-names-number.result [] c.loop-number-test.true c.index-names-number.is c.loop-number.invariant (sym c.if-is_named.ensures)

pub loop-number-preserved : goal.loop-number-preserved
loop-number-preserved c =
    not_yet (λ (known : List ℕ). bytes_eq known c.args.name.now) string_bytes c.args.names.now c.loop-number.number c.index-names-number.result [] c.loop-number-test.true c.index-names-number.is c.loop-number.invariant (sym c.if-is_named.ensures)

pub returns : goal.returns
unfolding place_among
returns c =
    first_none (λ (known : List ℕ). bytes_eq known c.args.name.now) (map string_bytes c.args.names.now) [] (λ k less. c.loop-number.invariant k (omega (arith, less, c.loop-number-test.false, length-map c.args.names.now string_bytes)))
