use Rattle.std.proofs.Common.{◌≡◌, ◌≢◌, ◌∙◌, [], true, false, inl, inr, refl, arith, rules}
use Rattle.std.specs.Prelude.{IsTrue}
use Rattle.std.proofs.lemmas.Option.{IfSome_then}
use Rattle.spx_messages.specs.EndpointView.{held_at}
use Rattle.ipx_host.specs.SessionActions.{is_unheard}
use Rattle.ipx_host.specs.HostOutput.{left_of}
use Rattle.ipx_host.specs.declared.sessions.Phase.TheVariants as Standings
use Rattle.ipx_host.proofs.Passed.{from_passes, one_ends, one_idle, one_unheard, so_far_start, so_far_taken, so_far_written}
use Rattle.ipx_host.proofs.taking.take_some.Goals as goal
use Rattle.ipx_host.proofs.taking.take_some.Goals.{then-ended-via-then-ended, then-ended-via-else-ended+then-not-is_empty, then-ended-via-else-ended+else-not-is_empty+then-not-take_next}

pub loop-take-init : goal.loop-take-init
loop-take-init g c =
    let heard : is_unheard c.args.session.now.phase ≡ false = first_of (search rules, cc) in
    record {
      so_far = so_far_start c.args.endpoint.now (left_of c.args.output.now) (g.W.Write.contents c.args.writer.now) c.args.session.now heard;
      still = λ none id. refl;
      id = refl;
    }

pub returns-in_err-write-clause-one : goal.returns-in_err-write-clause-one
returns-in_err-write-clause-one g c =
    let held = g.W.Write.contents in
    one_ends c.args.endpoint.now c.loop-take.endpoint (left_of c.args.output.now) (left_of c.write.new.self) (held c.args.writer.now) (held c.write.new.writer) c.args.session.now c.loop-take.session c.loop-take._take
    (so_far_written c.args.endpoint.now c.loop-take.endpoint (left_of c.args.output.now) (left_of c.loop-take.output) (left_of c.write.new.self) (held c.args.writer.now) (held c.loop-take.writer) (held c.write.new.writer) c.args.session.now c.loop-take.session c.loop-take._take c.loop-take.invariant.so_far c.write.ensures.writes)
    (inr (inl c.in_err-write.ensures.failed))

pub returns-in_err-write-clause-passes : goal.returns-in_err-write-clause-passes
returns-in_err-write-clause-passes g c =
    let held = g.W.Write.contents in
    from_passes (held_at c.args.endpoint.now c.args.session.now.id) (held_at c.loop-take.endpoint c.args.session.now.id) (left_of c.args.output.now) (left_of c.write.new.self) (held c.args.writer.now) (held c.write.new.writer) c.args.session.now c.loop-take.session
    (so_far_written c.args.endpoint.now c.loop-take.endpoint (left_of c.args.output.now) (left_of c.loop-take.output) (left_of c.write.new.self) (held c.args.writer.now) (held c.loop-take.writer) (held c.write.new.writer) c.args.session.now c.loop-take.session c.loop-take._take c.loop-take.invariant.so_far c.write.ensures.writes).from

pub loop-take-preserved : goal.loop-take-preserved
loop-take-preserved g c =
    let held = g.W.Write.contents in
    let first = c.args.endpoint.now in
    let waiting = left_of c.args.output.now in
    let a = held c.args.writer.now in
    let b = held c.write.new.writer in
    let empty : IsTrue c.is_empty.result = first_of (search rules, cc) in
    let took : IsTrue c.take_next.result = first_of (search rules, cc) in
    let not : c.loop-take.session.phase ≢ Standings.Ended = λ e. let t : c.eq-ended.result ≡ true = search rules in absurd (cc) in
    let written = so_far_written first c.loop-take.endpoint waiting (left_of c.loop-take.output) (left_of c.write.new.self) a (held c.loop-take.writer) b c.args.session.now c.loop-take.session c.loop-take._take c.loop-take.invariant.so_far c.write.ensures.writes in
    let takes = IfSome_then (held_at c.loop-take.endpoint c.loop-take.session.id) c.take_next.ensures.takes (λ h p. p took) in
    record {
      so_far = so_far_taken first c.loop-take.endpoint c.take_next.new.endpoint c.write.new.self c.take_next.new.output waiting a b c.args.session.now c.loop-take.session c.take_next.new.session c.loop-take._take (c.is_empty.ensures.0 empty) not c.loop-take.invariant.id written
          (λ none. let no = c.take_next.ensures.unknown none in absurd (cc)) takes c.take_next.ensures.others;
      still = λ none. absurd (cc);
      id = c.take_next.ensures.id ∙ c.loop-take.invariant.id;
    }

pub returns-then-ended-clause-one : goal.returns-then-ended-clause-one
returns-then-ended-clause-one g c =
    let held = g.W.Write.contents in
    let first = c.args.endpoint.now in
    let waiting = left_of c.args.output.now in
    let a = held c.args.writer.now in
    let b = held c.write.new.writer in
    let there = c.loop-take.endpoint in
    let now = left_of c.write.new.self in
    let written = so_far_written first there waiting (left_of c.loop-take.output) now a (held c.loop-take.writer) b c.args.session.now c.loop-take.session c.loop-take._take c.loop-take.invariant.so_far c.write.ensures.writes in
    elim c.then-ended.branch [
      | then-ended-via-then-ended w ↦
          let is : c.loop-take.session.phase ≡ Standings.Ended = first_of (search rules, cc) in
          rw (w.endpoint-is, w.output-is, w.session-is) (one_ends first there waiting now a b c.args.session.now c.loop-take.session c.loop-take._take written (inl is))
      | then-ended-via-else-ended+then-not-is_empty w ↦
          let some : now ≢ [] = λ e. let t = w.is_empty.ensures.1 e in absurd (cc) in
          rw (w.endpoint-is, w.output-is, w.session-is) (one_ends first there waiting now a b c.args.session.now c.loop-take.session c.loop-take._take written (inr (inl some)))
      | then-ended-via-else-ended+else-not-is_empty+then-not-take_next w ↦
          let none : w.take_next.result ≡ false = first_of (search rules, cc) in
          rw (w.endpoint-is, w.output-is, w.session-is)
          (one_idle first there w.take_next.new.endpoint c.write.new.self w.take_next.new.output waiting a b c.args.session.now c.loop-take.session w.take_next.new.session c.loop-take._take c.loop-take.invariant.id written (w.take_next.ensures.nothing none) w.take_next.ensures.others (w.take_next.ensures.no_more none))
    ]

pub returns-then-ended-clause-passes : goal.returns-then-ended-clause-passes
returns-then-ended-clause-passes g c =
    let held = g.W.Write.contents in
    let first = c.args.endpoint.now in
    let waiting = left_of c.args.output.now in
    let a = held c.args.writer.now in
    let b = held c.write.new.writer in
    let o = held_at first c.args.session.now.id in
    let written = so_far_written first c.loop-take.endpoint waiting (left_of c.loop-take.output) (left_of c.write.new.self) a (held c.loop-take.writer) b c.args.session.now c.loop-take.session c.loop-take._take c.loop-take.invariant.so_far c.write.ensures.writes in
    elim c.then-ended.branch [
      | then-ended-via-then-ended w ↦ rw (w.endpoint-is, w.output-is) (from_passes o (held_at c.loop-take.endpoint c.args.session.now.id) waiting (left_of c.write.new.self) a b c.args.session.now c.loop-take.session written.from)
      | then-ended-via-else-ended+then-not-is_empty w ↦ rw (w.endpoint-is, w.output-is) (from_passes o (held_at c.loop-take.endpoint c.args.session.now.id) waiting (left_of c.write.new.self) a b c.args.session.now c.loop-take.session written.from)
      | then-ended-via-else-ended+else-not-is_empty+then-not-take_next w ↦
          let none : w.take_next.result ≡ false = first_of (search rules, cc) in
          rw (w.endpoint-is, w.output-is)
          (from_passes o (held_at w.take_next.new.endpoint c.args.session.now.id) waiting (left_of w.take_next.new.output) a b c.args.session.now w.take_next.new.session
          (one_idle first c.loop-take.endpoint w.take_next.new.endpoint c.write.new.self w.take_next.new.output waiting a b c.args.session.now c.loop-take.session w.take_next.new.session c.loop-take._take c.loop-take.invariant.id written (w.take_next.ensures.nothing none) w.take_next.ensures.others (w.take_next.ensures.no_more none)).from)
    ]

pub returns-after-loop-take-clause-one : goal.returns-after-loop-take-clause-one
returns-after-loop-take-clause-one g c =
    let held = g.W.Write.contents in
    one_ends c.args.endpoint.now c.loop-take.endpoint (left_of c.args.output.now) (left_of c.loop-take.output) (held c.args.writer.now) (held c.loop-take.writer) c.args.session.now c.loop-take.session c.loop-take._take c.loop-take.invariant.so_far
    (inr (inr (inl (omega (arith, c.loop-take-test.false)))))

pub returns-after-loop-take-clause-passes : goal.returns-after-loop-take-clause-passes
returns-after-loop-take-clause-passes g c =
    let held = g.W.Write.contents in
    from_passes (held_at c.args.endpoint.now c.args.session.now.id) (held_at c.loop-take.endpoint c.args.session.now.id) (left_of c.args.output.now) (left_of c.loop-take.output) (held c.args.writer.now) (held c.loop-take.writer) c.args.session.now c.loop-take.session c.loop-take.invariant.so_far.from

pub returns-then-not-is_heard-clause-one : goal.returns-then-not-is_heard-clause-one
returns-then-not-is_heard-clause-one g c =
    let unheard : is_unheard c.args.session.now.phase ≡ true = first_of (search rules, cc) in
    one_unheard c.args.endpoint.now (left_of c.args.output.now) (g.W.Write.contents c.args.writer.now) c.args.session.now unheard
