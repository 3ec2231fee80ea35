use Rattle.std.proofs.Common.{◌∷◌, [], refl, drop}
use Rattle.spx_messages.specs.Message.{message_view}
use Rattle.spx_theory.specs.Handed.{out_by, handed_in, handed_out, IsBeginning}
use Rattle.ipx_net.specs.LogEntries.{entry_notes}
use Rattle.ipx_net.proofs.Walking.{here, none_left, another, one_more, refuse, all_held}
use Rattle.ipx_net.proofs.handed.is_beginning.Goals as goal
use Rattle.ipx_net.proofs.handed.is_beginning.Goals.{in-Some+in-Some-next_in+else-not-is_same, in_default}

pub returns-in-None : goal.returns-in-None
returns-in-None c =
    let log = c.args.log.now in
    let front = here (out_by c.args.end) log c.loop-entry.entry-index c.entry-item.result (message_view c.in-Some.message.now ∷ []) c.loop-entry-test.true c.entry-item.is c.in-Some.ensures in
    refuse (IsBeginning (handed_out c.args.end (entry_notes log)) (handed_in c.args.peer (entry_notes log)))
    (none_left (IsBeginning (handed_out c.args.end (entry_notes log)) (handed_in c.args.peer (entry_notes log)))
    (handed_out c.args.end (entry_notes (drop c.loop-entry.entry-index log))) (handed_in c.args.peer (entry_notes (drop c.loop-entry.next log))) _ _ c.loop-entry.invariant.rest front (rw c.in-None.is at c.next_in.ensures))

pub returns-then-not-is_same : goal.returns-then-not-is_same
returns-then-not-is_same c =
    let log = c.args.log.now in
    let front = here (out_by c.args.end) log c.loop-entry.entry-index c.entry-item.result (message_view c.in-Some.message.now ∷ []) c.loop-entry-test.true c.entry-item.is c.in-Some.ensures in
    let back = (rw c.in-Some-next_in.is at c.next_in.ensures).1 in
    refuse (IsBeginning (handed_out c.args.end (entry_notes log)) (handed_in c.args.peer (entry_notes log)))
    (another (IsBeginning (handed_out c.args.end (entry_notes log)) (handed_in c.args.peer (entry_notes log)))
    (handed_out c.args.end (entry_notes (drop c.loop-entry.entry-index log))) (handed_in c.args.peer (entry_notes (drop c.loop-entry.next log))) _ _ _ _ c.loop-entry.invariant.rest front back
    (λ alike. let t = c.is_same.ensures.1 alike in let f = c.if-not-is_same.true in cc))

pub loop-entry-preserved : goal.loop-entry-preserved
loop-entry-preserved c =
    let log = c.args.log.now in
    elim c.match-handed_out_by.branch [
      | in-Some+in-Some-next_in+else-not-is_same w ↦
          let front = here (out_by c.args.end) log c.loop-entry.entry-index c.entry-item.result (message_view w.in-Some.message.now ∷ []) c.loop-entry-test.true c.entry-item.is w.in-Some.ensures in
          let back = rw w.in-Some-next_in.is at w.next_in.ensures in
          rw w.next-is record {
            within = back.0;
            rest = one_more (IsBeginning (handed_out c.args.end (entry_notes log)) (handed_in c.args.peer (entry_notes log)))
                (handed_out c.args.end (entry_notes (drop c.loop-entry.entry-index log))) (handed_in c.args.peer (entry_notes (drop c.loop-entry.next log))) _ _ _ _ c.loop-entry.invariant.rest front back.1 (w.is_same.ensures.0 (rw w.if-not-is_same.false refl));
          }
      | in_default w ↦
          let front = here (out_by c.args.end) log c.loop-entry.entry-index c.entry-item.result [] c.loop-entry-test.true c.entry-item.is w.in_default.ensures in
          rw w.next-is record { within = c.loop-entry.invariant.within; rest = rw (← front) c.loop-entry.invariant.rest }
    ]

pub returns : goal.returns
returns c =
    let log = c.args.log.now in
    all_held (IsBeginning (handed_out c.args.end (entry_notes log)) (handed_in c.args.peer (entry_notes log))) log c.loop-entry.entry-index (out_by c.args.end)
    (handed_in c.args.peer (entry_notes (drop c.loop-entry.next log))) c.loop-entry-test.false c.loop-entry.invariant.rest
