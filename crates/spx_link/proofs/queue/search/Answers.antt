use Rattle.std.proofs.Common.{◌≡◌, ℕ, ◌+◌, ◌<◌, min, sym, subst, ◌∙◌, length, take, false, arith}
use Rattle.std.proofs.lemmas.Bool.Decides.{nat_tests}
use Rattle.spx_link.specs.LinkView.{due}
use Rattle.spx_link.specs.Queues.{IsSince}
use Rattle.std.proofs.lemmas.Option.{get_or_from_slice_get}
use Rattle.spx_link.specs.Sequences.{with_stamp}
use Rattle.spx_link.proofs.Searching.{since_step}
use Rattle.spx_link.proofs.queue.search.Goals as goal

pub loop-place-preserved : goal.loop-place-preserved
loop-place-preserved c =
    let q = with_stamp c.get-at.result.0.now c.get-at.result.1 in
    let units = c.args.units.now in
    let less : c.loop-place.place < length units = omega (arith, c.requires.within) in
    let early : due q.at c.args.now ≡ false = sym c.due.ensures ∙ c.if-due.false in
    let before : c.args.now < q.at + 500 = grind (arith, nat_tests) in
    let least : c.min-since.result ≡ min c.loop-place.since q.at = c.min-since.ensures in
    let P : ℕ → Type 0 = λ n. IsSince n (take (c.loop-place.place + 1) units) in
    record {
      first = subst P (sym least) (since_step units c.loop-place.place c.loop-place.since q less (sym (get_or_from_slice_get units c.loop-place.place q q c.get-at.ensures)) c.loop-place.invariant.first);
      early = omega (arith, c.loop-place.invariant.early);
    }
