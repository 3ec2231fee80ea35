use Rattle.std.proofs.Common.{◌≡◌, ◌+◌, ◌<◌, ◌≤◌, ◌^◌, false, ap, ◌∙◌, sym, arith, get_or, length, take, drop, count_by, length-drop, option_copied}
use Rattle.std.specs.Ordering.{is_eq}
use Rattle.std.proofs.lemmas.Grind.{common_steps}
use Rattle.std.proofs.lemmas.List.{get_or_default, get_or-drop}
use Rattle.std.proofs.lemmas.List.Sums.{count_by-le-length}
use Rattle.ipx_tables.specs.declared.offer.Offer.{Offer}
use Rattle.ipx_tables.specs.OfferScan.{is_candidate, offer_beats}
use Rattle.ipx_tables.proofs.Halving.{best_skips, best_stays, count_back, count_front, past_keys, no_candidate, less_not_equal}
use Rattle.ipx_tables.proofs.finding.best_in.Goals as goal

pub loop-at-init : goal.loop-at-init
loop-at-init g c =
    let f = c.first_of-at.ensures in
    record {
      within = f.within;
      above = f.above;
      best = best_skips (is_candidate g.K.Ord.cmp c.args.key c.args.now) (offer_beats g.M.Metric.before) _ _ _ (λ j d lt within. no_candidate g.K.Ord.cmp c.args.key c.args.now (get_or c.args.offer_store.now j d) (less_not_equal _ (f.below j d lt)));
      cost = λ digits long. omega (arith, f.cost digits long);
      all_read =
          let none = count_back (λ (o : Offer g.row.K.Denot g.row.M.Denot). is_eq (g.K.Ord.cmp o.key c.args.key)) c.args.offer_store.now c.first_of-at.result (λ j d lt within. less_not_equal _ (f.below j d lt)) in
          omega (arith, none);
    }

pub read-offer-requires-clause-few : goal.read-offer-requires-clause-few
read-offer-requires-clause-few g c =
    let few : length c.args.offer_store.now < 2 ^ 63 = omega (arith, c.len-end.ensures.len, c.len-end.ensures.few) in
    let cost = c.loop-at.invariant.cost 63 few in
    let p = λ (o : Offer g.row.K.Denot g.row.M.Denot). is_eq (g.K.Ord.cmp o.key c.args.key) in
    let short : count_by p (take c.loop-at.at c.args.offer_store.now) ≤ length (take c.loop-at.at c.args.offer_store.now) = count_by-le-length p _ in
    let front : length (take c.loop-at.at c.args.offer_store.now) ≤ length c.args.offer_store.now = grind (arith, common_steps) in
    omega (arith, cost, short, front, few)

pub returns-then-not-is_eq-clause-best : goal.returns-then-not-is_eq-clause-best
returns-then-not-is_eq-clause-best g c =
    let i = c.loop-at.invariant in
    let os = c.args.offer_store.now in
    let within : c.loop-at.at < length os = omega (arith, c.loop-at-test.true, c.len-end.ensures.len) in
    let test : is_eq (g.K.Ord.cmp c.read-offer.result.now.key c.args.key) ≡ false = ap is_eq (sym c.cmp.ensures) ∙ sym c.is_eq.ensures ∙ c.if-not-is_eq.true in
    let other : (o : Offer g.row.K.Denot g.row.M.Denot) → is_eq (g.K.Ord.cmp (get_or os c.loop-at.at o).key c.args.key) ≡ false = λ o.
    ap (λ (v : Offer g.row.K.Denot g.row.M.Denot). is_eq (g.K.Ord.cmp v.key c.args.key)) (get_or_default os c.loop-at.at o c.read-offer.result.now within ∙ sym c.read-offer.ensures.offer) ∙ test in
    let stays = best_stays (is_candidate g.K.Ord.cmp c.args.key c.args.now) (offer_beats g.M.Metric.before) (drop c.loop-at.at os) (option_copied c.loop-at.best) (λ j d short.
    rw (get_or-drop c.loop-at.at os j d) (no_candidate g.K.Ord.cmp c.args.key c.args.now (get_or os (c.loop-at.at + j) d) (past_keys g.met.K.Ord.total os c.len-end.ensures.rising c.args.key c.loop-at.at (c.loop-at.at + j) d (omega arith) (omega (arith, simp length-drop at short)) (i.above c.loop-at.at d (omega arith) within) (other d)))) in
    c.copied.ensures ∙ sym stays ∙ i.best

pub returns-then-not-is_eq-clause-all_read : goal.returns-then-not-is_eq-clause-all_read
returns-then-not-is_eq-clause-all_read g c =
    let i = c.loop-at.invariant in
    let os = c.args.offer_store.now in
    let within : c.loop-at.at < length os = omega (arith, c.loop-at-test.true, c.len-end.ensures.len) in
    let test : is_eq (g.K.Ord.cmp c.read-offer.result.now.key c.args.key) ≡ false = ap is_eq (sym c.cmp.ensures) ∙ sym c.is_eq.ensures ∙ c.if-not-is_eq.true in
    let other : (o : Offer g.row.K.Denot g.row.M.Denot) → is_eq (g.K.Ord.cmp (get_or os c.loop-at.at o).key c.args.key) ≡ false = λ o.
    ap (λ (v : Offer g.row.K.Denot g.row.M.Denot). is_eq (g.K.Ord.cmp v.key c.args.key)) (get_or_default os c.loop-at.at o c.read-offer.result.now within ∙ sym c.read-offer.ensures.offer) ∙ test in
    let front = count_front (λ (o : Offer g.row.K.Denot g.row.M.Denot). is_eq (g.K.Ord.cmp o.key c.args.key)) os c.loop-at.at (λ j d short.
    rw (get_or-drop c.loop-at.at os j d) (past_keys g.met.K.Ord.total os c.len-end.ensures.rising c.args.key c.loop-at.at (c.loop-at.at + j) d (omega arith) (omega (arith, simp length-drop at short)) (i.above c.loop-at.at d (omega arith) within) (other d))) in
    omega (arith, front, i.all_read, c.read-offer.ensures.steps)
