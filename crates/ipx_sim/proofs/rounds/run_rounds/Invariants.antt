use Rattle.ipx_sim.specs.Delivering.{Stage, delivered_view}
use Rattle.ipx_sim.specs.Going.{RunRound}
use Rattle.ipx_sim.proofs.Deeds.{Going}
use Rattle.ipx_sim.proofs.rounds.run_rounds.Given as goal

abbrev pub invariant-loop : goal.invariant-loop
invariant-loop l =
    let before : Stage = record { net = l.fn.net; delivered = delivered_view l.fn.delivered } in
    let now : Stage = record { net = l.net; delivered = delivered_view l.delivered } in
    Going (RunRound l.map.members.items l.map.spots.items l.takes) before now l.counter l.any
