use Rattle.std.proofs.Common.{◌<◌, length, sym, ◌∙◌, arith, option_copied}
use Rattle.ipx_tables.proofs.Walks.{low_better, low_next, same_key, walk_old, walk_stops, walk_young}
use Rattle.ipx_tables.proofs.walk.next_best.Goals.{then-counts, else-counts}
use Rattle.ipx_tables.proofs.walk.next_best.Goals as goal

pub returns-then-is_past-clause-found : goal.returns-then-is_past-clause-found
returns-then-is_past-clause-found g c =
    let os = c.args.offer_store.now in
    let within : c.loop-at.at < length os = omega (arith, c.loop-at-test.true, c.len-end.ensures.len) in
    rw c.copied.ensures (walk_stops g.met.K.Ord.total g.met.M.Metric.strict c.args.now os c.len-end.ensures.rising c.loop-at.at c.get-offer.result.now within c.get-offer.ensures (option_copied c.loop-at.held) c.is_past.result _ c.if-is_past.true c.is_past.ensures c.loop-at.invariant.low c.loop-at.invariant.left)

pub loop-at-preserved : goal.loop-at-preserved
loop-at-preserved g c =
    let os = c.args.offer_store.now in
    let T = g.met.K.Ord.total in
    let S = g.met.M.Metric.strict in
    let x = c.get-offer.result.now in
    let read = c.get-offer.ensures in
    let up = c.len-end.ensures.rising in
    let within : c.loop-at.at < length os = omega (arith, c.loop-at-test.true, c.len-end.ensures.len) in
    let same = same_key g.K.Ord.cmp (option_copied c.loop-at.held) x.key c.is_past.result c.if-is_past.false c.is_past.ensures in
    elim c.if-counts.branch [
      | then-counts w ↦ rw (w.held-is, w.better_one.ensures) (record {
        left = walk_young T S c.args.now os up c.loop-at.at x within read (option_copied c.loop-at.held) (sym c.counts.ensures ∙ w.if-counts.true) same ∙ c.loop-at.invariant.left;
        low = low_better T S c.args.now os up c.loop-at.at x within read (option_copied c.loop-at.held) c.loop-at.invariant.low;
      })
      | else-counts w ↦ rw w.held-is (record {
        left = walk_old T S c.args.now os up c.loop-at.at x within read (option_copied c.loop-at.held) (sym c.counts.ensures ∙ w.if-counts.false) ∙ c.loop-at.invariant.left;
        low = low_next T S c.args.now os up c.loop-at.at x within read (option_copied c.loop-at.held) c.loop-at.invariant.low;
      })
    ]
