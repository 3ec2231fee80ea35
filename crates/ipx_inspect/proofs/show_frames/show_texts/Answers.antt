use Rattle.std.proofs.Common.{◌≡◌, ℕ, ◌+◌, ◌++◌, map, max, take, ap, sym, ◌∙◌, subst}
use Rattle.std.proofs.KnownBytes.{Appends-trans}
use Rattle.ipx_inspect.specs.ShownFrame.{ShowsTexts}
use Rattle.ipx_inspect.proofs.Shown.{on_err}
use Rattle.ipx_inspect.proofs.Texts.{lent_left, lent_more}
use Rattle.ipx_inspect.proofs.show_frames.show_texts.Goals as goal

pub returns-in_err-one-clause-left : goal.returns-in_err-one-clause-left
returns-in_err-one-clause-left g c =
    let inv = c.loop-text.invariant in
    let n = c.loop-text.text-index in
    let m = g.W.Write.contents c.loop-text.writer in
    let b = g.W.Write.contents c.show_line.new.writer in
    let left = lent_left (λ t. t.now) c.args.own c.args.texts.now n c.loop-text.place _ m b inv.place c.loop-text-test.true c.in_err-one.ensures.left in
    on_err c.from_residual.result _ (n, inv.wrote.0, c.loop-text.status, inv.wrote.1, m, inv.wrote.2, left)

pub loop-text-preserved : goal.loop-text-preserved
loop-text-preserved g c =
    let inv = c.loop-text.invariant in
    let n = c.loop-text.text-index in
    let a = g.W.Write.contents c.args.writer.now in
    let m = g.W.Write.contents c.loop-text.writer in
    let b = g.W.Write.contents c.show_line.new.writer in
    let one = c.in_ok-one.ensures.written in
    let lines = inv.wrote.0 ++ one.0.lines in
    let shows = lent_more (λ t. t.now) c.args.own c.args.texts.now n c.loop-text.place _ inv.wrote.0 c.loop-text.status one.0 inv.place c.loop-text-test.true one.1 inv.wrote.1 in
    let status : max c.loop-text.status one.0.status ≡ c.max-status.result = ap (max c.loop-text.status) (sym one.2) ∙ sym c.max-status.ensures in
    record {
      place = ap (λ (k : ℕ). k + 1) inv.place;
      wrote = (
        lines,
        subst (ShowsTexts c.args.own (take (n + 1) (map (λ t. t.now) c.args.texts.now)) lines) status shows,
        Appends-trans a m b inv.wrote.0 one.0.lines inv.wrote.2 one.3,
      );
    }
