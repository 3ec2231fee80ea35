use Rattle.std.proofs.Common.{◌≡◌, ◌≢◌, ◌≤◌, length, take, arith, rules}
use Rattle.std.proofs.lemmas.Grind.{common_steps}
use Rattle.std.specs.Prelude.{IsOk}
use Rattle.ipx_host.specs.Books.{Enters}
use Rattle.ipx_host.specs.Feeding.{HandsIn}
use Rattle.ipx_host.proofs.Reading.{by_ok, on_some}
use Rattle.ipx_host.proofs.Rounded.{on_ok}
use Rattle.ipx_host.proofs.input.Intake.take_read.Goals as goal

pub returns-clause-came : goal.returns-clause-came
returns-clause-came c =
    let old = c.args.self.now in
    let n = c.in-Ok.count in
    let piece = take n old.room.items in
    let e = c.args.endpoint.now in
    let e' = c.hand_in-handed.new.endpoint in
    let l = old.acked_bytes in
    let l' = c.add.new.self in
    let few : n ≤ length old.room.items = first_of (search rules, grind (arith, common_steps)) in
    let len : length piece ≡ n = first_of (search rules, grind (arith, common_steps)) in
    let some : n ≢ 0 = first_of (search rules, grind (arith, common_steps)) in
    let whole : HandsIn e e' c.args.id piece = first_of (search rules, grind (arith, common_steps)) in
    let ok : IsOk c.add.result = first_of (search rules, grind (arith, common_steps)) in
    let entered : Enters l l' n = record {
      base = c.add.ensures.base;
      ahead = first_of (search rules, grind (arith, common_steps));
      given = first_of (search rules, grind (arith, common_steps));
      says = first_of (search rules, grind (arith, common_steps));
      first = by_ok _ c.add.result ok c.add.ensures.first;
    } in
    on_ok _ c.args.read n c.in-Ok.is (on_some e e' c.args.id l l' piece n len some whole entered)
