use Rattle.std.proofs.Common.{◌≡◌, ◌==◌, List, Some, None, Result, Ok, Err, sym, subst, position}
use Rattle.std.specs.Prelude.{OnErr}
use Rattle.spx_messages.specs.declared.listening.Listener.{Listener}
use Rattle.spx_messages.specs.EndpointView.{buffers_in}
use Rattle.spx_messages.proofs.Listeners.{buffers_written, buffers_written_separate, buffers_pushed, buffers_pushed_separate, not_listening}
use Rattle.spx_messages.proofs.listening.add_listener.Goals as goal

pub returns-in-Some-clause-this : goal.returns-in-Some-clause-this
returns-in-Some-clause-this c =
    let y : Listener = record { socket = c.args.socket; buffers = c.args.buffers } in
    let at : position (λ (l : Listener). l.socket.0 == c.args.socket.0) c.args.listening.now.items ≡ Some c.in-Some.place = cc in
    buffers_written c.args.listening.now.items c.in-Some.place y at

pub returns-in-Some-clause-others : goal.returns-in-Some-clause-others
returns-in-Some-clause-others c s apart =
    let y : Listener = record { socket = c.args.socket; buffers = c.args.buffers } in
    let at : position (λ (l : Listener). l.socket.0 == c.args.socket.0) c.args.listening.now.items ≡ Some c.in-Some.place = cc in
    buffers_written_separate c.args.listening.now.items c.in-Some.place s c.index_mut.result.now y at c.index_mut.ensures.value apart

pub returns-in_ok-push-in-None-clause-this : goal.returns-in_ok-push-in-None-clause-this
returns-in_ok-push-in-None-clause-this c =
    let y : Listener = record { socket = c.args.socket; buffers = c.args.buffers } in
    let P : List Listener → Type 0 = λ ls. buffers_in ls c.args.socket.0 ≡ Some c.args.buffers in
    let free : position (λ (l : Listener). l.socket.0 == c.args.socket.0) c.args.listening.now.items ≡ None = cc in
    subst P (sym c.in_ok-push-in-None.ensures.items) (buffers_pushed c.args.listening.now.items y free)

pub returns-in_ok-push-in-None-clause-others : goal.returns-in_ok-push-in-None-clause-others
returns-in_ok-push-in-None-clause-others c s apart =
    let y : Listener = record { socket = c.args.socket; buffers = c.args.buffers } in
    let P : List Listener → Type 0 = λ ls. buffers_in ls s ≡ buffers_in c.args.listening.now.items s in
    subst P (sym c.in_ok-push-in-None.ensures.items) (buffers_pushed_separate c.args.listening.now.items s y apart)

on_err : {T E : Type 0} (r : Result T E) (P : Type 0) → P → OnErr r P
on_err (Ok x) P p = tt
on_err (Err e) P p = p

pub returns-in_err-push-in-None-clause-memory : goal.returns-in_err-push-in-None-clause-memory
returns-in_err-push-in-None-clause-memory c =
    let free : position (λ (l : Listener). l.socket.0 == c.args.socket.0) c.args.listening.now.items ≡ None = cc in
    on_err c.from_residual.result (buffers_in c.args.listening.now.items c.args.socket.0 ≡ None) (not_listening c.args.listening.now.items c.args.socket.0 free)
