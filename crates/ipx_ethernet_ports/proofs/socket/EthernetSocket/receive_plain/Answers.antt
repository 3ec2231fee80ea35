use Rattle.std.proofs.Common.{◌≡◌, ◌≤◌, ◌∙◌, Ok, Some, ap, length, rules, subst}
use Rattle.ipx_carrier.specs.Traces.{Got, TriesToReceive}
use Rattle.ipx_ethernet_ports.specs.EthernetAddresses.{drops_after, end_from}
use Rattle.ipx_ethernet_ports.specs.declared.remotes.Remotes.{Remotes}
use Rattle.ipx_ethernet_ports.specs.declared.tunnel_drops.TunnelDrops.{TunnelDrops}
use Rattle.ipx_ethernet_ports.proofs.Arrivals.{drops_plain, into_room, made_plain, remotes_plain}
use Rattle.ipx_ethernet_ports.proofs.socket.EthernetSocket.receive_plain.Goals as goal

pub returns-in-Some-clause-asks : goal.returns-in-Some-clause-asks
returns-in-Some-clause-asks c =
    let w = c.args.self.now in
    let s = c.in-Ok-Some in
    let room = c.receive_in_tries.new.room in
    let after = c.receive_in_tries.new.self in
    let got : c.receive_in_tries.result ≡ Ok (Some (s.size, s.from)) = search rules in
    let le : s.size ≤ length c.receive_in_tries.new.room = search rules in
    let there : end_from c.args.self.now.tunnel s.from c.args.self.now.remotes ≡ Some c.in-Some.end = search rules in (
      Ok (Some (s.size, s.from)),
      room,
      after,
      into_room w.tunnel room c.requires,
      subst (λ (g : Got). TriesToReceive g room w.socket after c.args.faults.now c.receive_in_tries.new.faults) got c.receive_in_tries.ensures.tries,
      ap (λ (d : TunnelDrops). record w { socket = after; drops = d; remotes = c.learn.new.self })
          (drops_plain w.tunnel w.remotes s.from s.size c.in-Some.end room w.drops c.requires there)
          ∙ ap (λ (r : Remotes). record w { socket = after; drops = drops_after w.tunnel w.remotes (Ok (Some (s.size, s.from))) room w.drops; remotes = r })
          (c.learn.ensures.learned ∙ remotes_plain w.tunnel w.remotes s.from s.size c.in-Some.end room c.requires there),
      made_plain w.tunnel w.remotes s.from s.size c.in-Some.end room c.requires le there,
    )
