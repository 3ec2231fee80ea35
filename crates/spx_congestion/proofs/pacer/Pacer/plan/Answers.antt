use Rattle.std.proofs.Common.{◌≡◌, ◌∙◌, ◌+◌, ◌-◌, ◌*◌, ℕ, ap, arith, max, min, rules}
use Rattle.std.proofs.lemmas.Grind.{common_steps}
use Rattle.std.specs.Prelude.{if◌then◌else◌, nat_lt}
use Rattle.spx_congestion.specs.Measured.{trip_of}
use Rattle.spx_congestion.specs.Pacing.{PacerView, grown_credit, rate_of}
use Rattle.spx_congestion.proofs.Progress.{spares}
use Rattle.spx_congestion.proofs.Tended.{tended_credit, tended_tick}
use Rattle.spx_congestion.proofs.pacer.Pacer.plan.Goals as goal

pub returns-clause-tends : goal.returns-clause-tends
returns-clause-tends c =
    let old = c.args.self.now in
    let now = c.args.now in
    let rate = c.rate-rate.result in
    let held = c.self.inside.credit in
    let counted = c.count.new.self in
    let tick : held.tick ≡ old.tick =
    (let seen = ap (λ (p : PacerView). p.tick) c.self.view_is in
    let due = ap (λ (p : PacerView). p.tick) c.tend.ensures.value in
    let kept = tended_tick counted now in
    let same = ap (λ (p : PacerView). p.tick) c.count.ensures.value in cc) in
    let credit : held.amount ≡ old.credit =
    (let seen = ap (λ (p : PacerView). p.credit) c.self.view_is in
    let due = ap (λ (p : PacerView). p.credit) c.tend.ensures.value in
    let kept = tended_credit counted now in
    let same = ap (λ (p : PacerView). p.credit) c.count.ensures.value in cc) in
    let grown : ℕ → ℕ → ℕ = λ t n. if nat_lt t now then min (n + rate * (now - t)) (max (rate * 4) 2560) else n in
    let window = c.self.inside.window in
    let starting = nat_lt window.size window.threshold in
    let rate_is : rate ≡ rate_of starting window.size (trip_of c.self.inside.trip).smoothed =
    c.rate-rate.ensures.value ∙ ap (λ t. rate_of starting window.size t) c.smoothed.ensures in
    record {
      due = first_of (search rules, grind (arith, common_steps));
      grows = record {
        starting = starting;
        credit = c.grow.ensures.amount ∙ ap (λ t. grown t held.amount) tick ∙ ap (λ n. grown old.tick n) credit
            ∙ ap (λ (r : ℕ). grown_credit r old now) rate_is;
        tick = c.grow.ensures.tick ∙ ap (λ t. max t now) tick;
      };
      wide = first_of (search rules, grind (arith, common_steps));
      timed = first_of (search rules, grind (arith, common_steps));
    }

pub returns-clause-moves : goal.returns-clause-moves
returns-clause-moves c none empty =
    let open_window = spares c.args.self.now _ c.args.numbers.out c.args.now (returns-clause-tends c) none in
    c.choose.ensures.held (omega (arith, empty)) open_window.0 (omega (arith, open_window.1))
