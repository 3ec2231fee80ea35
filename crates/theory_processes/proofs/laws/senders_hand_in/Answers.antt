use Rattle.theory_processes.proofs.Sender.{dialled_has}
use Rattle.theory_processes.proofs.laws.senders_hand_in.Goals as goal

pub returns : goal.returns
returns c = λ start site calls k id messages course sender.
    let x = dialled_has calls k id messages start site course sender in
    record { place = x.0; sender = x.1.connection; there = x.1.there; host = x.1.host; id_is = x.1.id_is; given = x.1.given }
