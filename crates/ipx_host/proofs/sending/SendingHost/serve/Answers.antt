use Rattle.std.proofs.Common.{◌∙◌, ℕ, zero, List, [], Option, Err, inl, refl, sym, subst, ap}
use Rattle.std.specs.List.{concat}
use Rattle.std.specs.Io.KnownBytes.{Consumes, IsAtEnd}
use Rattle.ipx_carrier.specs.Turns.{peers_of}
use Rattle.ipx_host.specs.Midway.{around_of, sending_at}
use Rattle.ipx_host.specs.SendRounds.{place}
use Rattle.ipx_host.specs.SendSteps.{noted}
use Rattle.ipx_host.specs.Transfer.{IsWholeAt}
use Rattle.ipx_sockets.proofs.Waits.{err_is, not_err, not_failed, run_ends, waits_on}
use Rattle.ipx_host.proofs.Polled.{as_wait, given_up_waited}
use Rattle.ipx_host.proofs.Rounded.{ends_so, last_round, rounds_bytes, rounds_end, rounds_short, rounds_step, same_step}
use Rattle.ipx_host.proofs.sending.SendingHost.serve.Goals as goal

pub loop-init : goal.loop-init
loop-init g c = record { id = refl; peers = refl; waits = (zero, refl); fed = ([], refl, refl) }

pub loop-preserved : goal.loop-preserved
loop-preserved g c =
    let old = c.args.self.now in
    let now = c.loop.self in
    let new = c.step_or_wait.new.self in
    let fed = c.loop.invariant.fed in
    let start = sending_at old (g.I.Read.remaining c.args.reader.now) in
    let before = sending_at now (g.I.Read.remaining c.loop.reader) in
    let after = sending_at new (g.I.Read.remaining c.step_or_wait.new.reader) in
    let among = ap (λ l. peers_of l.items) c.loop.invariant.peers in
    let step = same_step _ before after _ _ _ _ old.id now.id _ c.loop.invariant.id among c.in_default.ensures.steps in
    record {
      id = c.step_or_wait.ensures.id ∙ c.loop.invariant.id;
      peers = c.step_or_wait.ensures.peers ∙ c.loop.invariant.peers;
      waits = waits_on c.loop.invariant.waits.0 old.station.poller now.station.poller new.station.poller c.loop.invariant.waits.1
          (as_wait new.shows new.left new.station.core now.station.poller new.station.poller c.step_or_wait.ensures.waits)
          (λ fails. not_err _ _ (c.in_default.ensures.unwaited.1 fails));
      fed = rounds_step start fed.0 before after _ _ old.id c.loop.counter _ fed.1 fed.2 step;
    }

pub returns-in-Err-clause-fed : goal.returns-in-Err-clause-fed
returns-in-Err-clause-fed g c = λ done.
    let old = c.args.self.now in
    let now = c.loop.self in
    let new = c.step_or_wait.new.self in
    let fed = c.loop.invariant.fed in
    let known = g.I.Read.remaining c.args.reader.now in
    let start = place (around_of old.station) old.station.core (noted old.joined old.left) old.input.read old.input.closed old.input.acked_bytes known in
    let before = sending_at now (g.I.Read.remaining c.loop.reader) in
    let after = sending_at new (g.I.Read.remaining c.step_or_wait.new.reader) in
    let among = ap (λ l. peers_of l.items) c.loop.invariant.peers in
    let step = same_step _ before after _ _ _ _ old.id now.id _ c.loop.invariant.id among c.in-Err.ensures.steps in
    let last = last_round before after _ _ old.id c.in-Err.verdict _ done step in
    let is = ap (λ v. Err v) done in
    let ended = c.in-Err.ensures.ended is in
    record {
      bodies = fed.0;
      runs = (before, fed.2, last);
      short = rounds_short start fed.0 before _ _ _ fed.2;
      fed = subst (λ (k : Option (List ℕ)). Consumes known k (concat fed.0)) (sym last.known) (rounds_bytes start fed.0 before _ _ _ fed.2);
      read = ended.1;
      closed = ended.0;
      whole = subst (λ (i : ℕ). IsWholeAt new.station.core.endpoint i) (c.step_or_wait.ensures.id ∙ c.loop.invariant.id) (c.in-Err.ensures.done is);
    }

pub returns-in-Err-clause-all : goal.returns-in-Err-clause-all
returns-in-Err-clause-all g c = λ done was.
    let old = c.args.self.now in
    let now = c.loop.self in
    let new = c.step_or_wait.new.self in
    let fed = c.loop.invariant.fed in
    let start = sending_at old (g.I.Read.remaining c.args.reader.now) in
    let before = sending_at now (g.I.Read.remaining c.loop.reader) in
    let after = sending_at new (g.I.Read.remaining c.step_or_wait.new.reader) in
    let among = ap (λ l. peers_of l.items) c.loop.invariant.peers in
    let step = same_step _ before after _ _ _ _ old.id now.id _ c.loop.invariant.id among c.in-Err.ensures.steps in
    let last = last_round before after _ _ old.id c.in-Err.verdict _ done step in
    let all = (c.in-Err.ensures.ended (ap (λ v. Err v) done)).1 in
    subst (λ (k : Option (List ℕ)). IsAtEnd k) (sym last.known) (rounds_end start fed.0 before _ _ _ fed.2 was (sym last.read ∙ all))

pub returns-in-Err-clause-ends : goal.returns-in-Err-clause-ends
returns-in-Err-clause-ends g c =
    let old = c.args.self.now in
    let now = c.loop.self in
    let new = c.step_or_wait.new.self in
    let fed = c.loop.invariant.fed in
    let start = sending_at old (g.I.Read.remaining c.args.reader.now) in
    let before = sending_at now (g.I.Read.remaining c.loop.reader) in
    let after = sending_at new (g.I.Read.remaining c.step_or_wait.new.reader) in
    let among = ap (λ l. peers_of l.items) c.loop.invariant.peers in
    let step = same_step _ before after _ _ _ _ old.id now.id _ c.loop.invariant.id among c.in-Err.ensures.steps in
    inl (record { bodies = fed.0; last = before; rounds = fed.2; step = ends_so before after c.in-Err.verdict _ _ old.id _ step })

pub returns-in-Err-clause-unwaited : goal.returns-in-Err-clause-unwaited
returns-in-Err-clause-unwaited g c =
    let old = c.args.self.now.station.poller in
    let now = c.loop.self.station.poller in
    let new = c.step_or_wait.new.self in
    let i = c.loop.invariant.waits in
    run_ends c.in-Err.verdict _ i.0 old now new.station.poller i.1
    (as_wait new.shows new.left new.station.core now new.station.poller c.step_or_wait.ensures.waits) (λ is. c.in-Err.ensures.unwaited.0 (ap Err is)) (λ fails. err_is _ _ (Err _) refl (c.in-Err.ensures.unwaited.1 fails))

pub returns-in-Err-clause-waits : goal.returns-in-Err-clause-waits
returns-in-Err-clause-waits g c = λ other.
    let old = c.args.self.now.station.poller in
    let now = c.loop.self.station.poller in
    let new = c.step_or_wait.new.self in
    let i = c.loop.invariant.waits in
    waits_on i.0 old now new.station.poller i.1
    (as_wait new.shows new.left new.station.core now new.station.poller c.step_or_wait.ensures.waits)
    (λ fails. other (err_is _ _ (Err _) refl (c.in-Err.ensures.unwaited.1 fails)))

pub returns-clause-unwaited : goal.returns-clause-unwaited
returns-clause-unwaited g c =
    let i = c.loop.invariant.waits in
    not_failed _ _ i.0 c.args.self.now.station.poller c.loop.self.station.poller given_up_waited i.1

pub returns-clause-waits : goal.returns-clause-waits
returns-clause-waits g c = λ other. c.loop.invariant.waits
