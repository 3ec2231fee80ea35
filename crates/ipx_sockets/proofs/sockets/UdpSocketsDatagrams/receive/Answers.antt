use Rattle.std.proofs.Common.{◌∙◌, Ok, ap, refl, sym, true≢false}
use Rattle.ipx_sockets.proofs.AskedSockets.{asks_there, of_datagram, of_failing, of_nothing}
use Rattle.ipx_sockets.proofs.sockets.UdpSocketsDatagrams.receive.Goals as goal

pub returns-in-Ok-Some-clause-receives : goal.returns-in-Ok-Some-clause-receives
returns-in-Ok-Some-clause-receives c =
    let old = c.args.self.now in
    let n = c.in-Ok-Some in
    let got = c.receive_in_tries.result in
    let room = c.receive_in_tries.new.room in
    let by = of_datagram c.args.port old.marks old.sender room got n.count n.from (n.is ∙ ap Ok n.field-0-is) in (
      (λ no. absurd (true≢false (sym (sym c.is_marked.ensures ∙ c.if-not-is_marked.false) ∙ no))),
      (λ marked. (
        got,
        room,
        c.receive_in_tries.ensures.room,
        asks_there old.sockets.items c.args.port c.index_mut.result.now c.receive_in_tries.new.self got room old.faults c.receive_in_tries.new.faults c.index_mut.ensures.value c.receive_in_tries.ensures.tries,
        by.0,
        by.1,
        c.ip_of_sender-self.ensures ∙ by.2,
      )),
      refl,
    )

pub returns-in-Ok-None-clause-receives : goal.returns-in-Ok-None-clause-receives
returns-in-Ok-None-clause-receives c =
    let old = c.args.self.now in
    let n = c.in-Ok-None in
    let got = c.receive_in_tries.result in
    let room = c.receive_in_tries.new.room in
    let by = of_nothing c.args.port old.marks old.sender room got (n.is ∙ ap Ok n.field-0-is) in (
      (λ no. absurd (true≢false (sym (sym c.is_marked.ensures ∙ c.if-not-is_marked.false) ∙ no))),
      (λ marked. (
        got,
        room,
        c.receive_in_tries.ensures.room,
        asks_there old.sockets.items c.args.port c.index_mut.result.now c.receive_in_tries.new.self got room old.faults c.receive_in_tries.new.faults c.index_mut.ensures.value c.receive_in_tries.ensures.tries,
        c.clear_ready.ensures.cleared ∙ by.0,
        by.1,
        by.2,
      )),
      refl,
    )

pub returns-in-Err-clause-receives : goal.returns-in-Err-clause-receives
returns-in-Err-clause-receives c =
    let old = c.args.self.now in
    let got = c.receive_in_tries.result in
    let room = c.receive_in_tries.new.room in
    let by = of_failing c.args.port old.marks old.sender room got c.in-Err.field-0 c.in-Err.is in (
      (λ no. absurd (true≢false (sym (sym c.is_marked.ensures ∙ c.if-not-is_marked.false) ∙ no))),
      (λ marked. (
        got,
        room,
        c.receive_in_tries.ensures.room,
        asks_there old.sockets.items c.args.port c.index_mut.result.now c.receive_in_tries.new.self got room old.faults c.receive_in_tries.new.faults c.index_mut.ensures.value c.receive_in_tries.ensures.tries,
        by.0,
        by.1,
        by.2,
      )),
      refl,
    )
