use Rattle.std.proofs.Common.{refl}
use Rattle.std.proofs.lemmas.Result.{err_from_is_err_and}
use Rattle.ipx_host.specs.HostOutput.{left_of}
use Rattle.ipx_host.proofs.Holding.{keeps_written}
use Rattle.ipx_host.proofs.Hosted.{moved_all, moved_none, moved_some}
use Rattle.ipx_host.proofs.serving.Sessions.pass.Goals as goal

pub invariant_of-self : goal.invariant_of-self
invariant_of-self g c =
    let held = g.W.Write.contents in
    let old = c.args.self.now in
    record {
      room = old.room;
      one = keeps_written old.once old.held.items (left_of old.output) (left_of c.write.new.self) (held c.args.writer.now) (held c.write.new.writer) c.write.ensures.writes old.one;
    }

pub returns-in_err-wrote-clause-some : goal.returns-in_err-wrote-clause-some
returns-in_err-wrote-clause-some g c =
    let held = g.W.Write.contents in
    let old = c.args.self.now in
    let p = err_from_is_err_and c.from_residual.result c.from_residual.ensures.1 in
    rw (p.1) (moved_none c.args.core.now old.held.items (left_of old.output) (left_of c.write.new.self) (held c.args.writer.now) (held c.write.new.writer) c.write.ensures.writes)

pub returns-in_err-took-clause-some : goal.returns-in_err-took-clause-some
returns-in_err-took-clause-some g c =
    let held = g.W.Write.contents in
    let old = c.args.self.now in
    let new = c.take_all.new.self in
    let p = err_from_is_err_and c.from_residual-in_err-took.result c.from_residual-in_err-took.ensures.1 in
    rw (p.1) (moved_some c.args.core.now (record c.args.core.now { endpoint = c.take_all.new.endpoint }) old.held.items new.held.items (left_of old.output) (left_of c.write.new.self) (left_of new.output) (held c.args.writer.now) (held c.write.new.writer) (held c.take_all.new.writer) c.write.ensures.writes c.in_err-took.ensures.some refl)

pub returns-clause-all : goal.returns-clause-all
returns-clause-all g c =
    let held = g.W.Write.contents in
    let old = c.args.self.now in
    let new = c.take_all.new.self in
    moved_all c.args.core.now (record c.args.core.now { endpoint = c.take_all.new.endpoint }) old.held.items new.held.items (left_of old.output) (left_of c.write.new.self) (left_of new.output) (held c.args.writer.now) (held c.write.new.writer) (held c.take_all.new.writer) c.write.ensures.writes c.in_ok-took.ensures.all refl
