use Rattle.std.proofs.Common.{arith, refl, rules}
use Rattle.ipx_host.specs.HostOutput.{left_of}
use Rattle.ipx_host.specs.Passing.{PassesSome}
use Rattle.ipx_host.proofs.Holding.{on_err, some_all, some_more, some_start, still_more}
use Rattle.ipx_host.proofs.taking.take_each.Goals as goal

pub loop-turn-init : goal.loop-turn-init
loop-turn-init g c = record {
  passes = some_start c.args.endpoint.now (left_of c.args.output.now) (g.W.Write.contents c.args.writer.now) c.args.sessions.now;
  still = λ none id. refl;
}

pub loop-turn-preserved : goal.loop-turn-preserved
loop-turn-preserved g c =
    let held = g.W.Write.contents in
    record {
      passes = some_more c.args.endpoint.now c.loop-turn.endpoint c.take_from_first.new.endpoint (left_of c.args.output.now) (left_of c.loop-turn.output) (left_of c.take_from_first.new.output) (held c.args.writer.now) (held c.loop-turn.writer) (held c.take_from_first.new.writer) c.args.sessions.now c.loop-turn.sessions c.take_from_first.new.sessions c.loop-turn._turn c.loop-turn.invariant.passes (omega (arith, c.loop-turn-test.true)) c.take_from_first.ensures.passes;
      still = still_more c.loop-turn.took c.in_ok-took.field-0 c.args.endpoint.now c.loop-turn.endpoint c.take_from_first.new.endpoint c.loop-turn.invariant.still (λ none. c.take_from_first.ensures.still (first_of (search rules, cc)));
    }

pub returns-in_err-took-clause-some : goal.returns-in_err-took-clause-some
returns-in_err-took-clause-some g c =
    let held = g.W.Write.contents in
    let p = some_more c.args.endpoint.now c.loop-turn.endpoint c.take_from_first.new.endpoint (left_of c.args.output.now) (left_of c.loop-turn.output) (left_of c.take_from_first.new.output) (held c.args.writer.now) (held c.loop-turn.writer) (held c.take_from_first.new.writer) c.args.sessions.now c.loop-turn.sessions c.take_from_first.new.sessions c.loop-turn._turn c.loop-turn.invariant.passes (omega (arith, c.loop-turn-test.true)) c.take_from_first.ensures.passes in
    on_err c.from_residual.result (PassesSome c.args.endpoint.now c.take_from_first.new.endpoint (left_of c.args.output.now) (left_of c.take_from_first.new.output) (held c.args.writer.now) (held c.take_from_first.new.writer) c.args.sessions.now c.take_from_first.new.sessions) p.0

pub returns-after-loop-turn-clause-all : goal.returns-after-loop-turn-clause-all
returns-after-loop-turn-clause-all g c =
    let held = g.W.Write.contents in
    some_all c.args.endpoint.now c.loop-turn.endpoint (left_of c.args.output.now) (left_of c.loop-turn.output) (held c.args.writer.now) (held c.loop-turn.writer) c.args.sessions.now c.loop-turn.sessions c.loop-turn._turn c.loop-turn.invariant.passes (omega (arith, c.loop-turn-test.false))
