use Rattle.std.proofs.Common.{◌+◌, ap, arith, length, length-drop, take}
use Rattle.ipx_inspect.proofs.Written.{appends_kept, front_written, whole_rest, writes_on}
use Rattle.ipx_inspect.proofs.output.write_bytes.Goals as goal
use Rattle.ipx_inspect.proofs.output.write_bytes.Goals.{in-Ok, in-Err+else-ne}

pub returns-in-Ok-eq0-clause-left : goal.returns-in-Ok-eq0-clause-left
returns-in-Ok-eq0-clause-left g c =
    let a = g.W.Write.contents c.args.writer.now in
    let b = g.W.Write.contents c.loop.writer in
    let d = g.W.Write.contents c.write.new.self in
    let bytes = c.args.bytes.now in
    front_written a d bytes (c.loop.done + c.in-Ok-eq0.field-0) (writes_on a b d bytes c.loop.done c.in-Ok-eq0.field-0 c.loop.invariant.written c.in-Ok-eq0.ensures.bytes)

pub returns-then-ne-clause-left : goal.returns-then-ne-clause-left
returns-then-ne-clause-left g c =
    let a = g.W.Write.contents c.args.writer.now in
    let b = g.W.Write.contents c.loop.writer in
    let d = g.W.Write.contents c.write.new.self in
    let bytes = c.args.bytes.now in
    front_written a d bytes c.loop.done (appends_kept a b d (take c.loop.done bytes) c.loop.invariant.written c.in-Err.ensures.bytes)

pub loop-preserved : goal.loop-preserved
loop-preserved g c =
    let a = g.W.Write.contents c.args.writer.now in
    let b = g.W.Write.contents c.loop.writer in
    let d = g.W.Write.contents c.write.new.self in
    let bytes = c.args.bytes.now in
    elim c.match-write.branch [
      | in-Ok w ↦
          let bound = w.in-Ok.ensures.bound in
          rw w.done-is
          record {
            within = omega (arith, length-drop c.loop.done bytes, ap length (whole_rest c.loop.done bytes), bound, c.loop.invariant.within);
            written = writes_on a b d bytes c.loop.done w.in-Ok.count c.loop.invariant.written w.in-Ok.ensures.bytes;
          }
      | in-Err+else-ne w ↦
          rw w.done-is
          record {
            within = c.loop.invariant.within;
            written = appends_kept a b d (take c.loop.done bytes) c.loop.invariant.written w.in-Err.ensures.bytes;
          }
    ]

pub returns-clause-left : goal.returns-clause-left
returns-clause-left g c =
    front_written (g.W.Write.contents c.args.writer.now) (g.W.Write.contents c.loop.writer) c.args.bytes.now c.loop.done c.loop.invariant.written
