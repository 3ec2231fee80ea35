use Rattle.std.proofs.Common.{length, refl}
use Rattle.std.proofs.lemmas.Option.{slice_get_read}
use Rattle.ipx_ethernet_ports.proofs.Ends.{pass_nothing}
use Rattle.ipx_ethernet_ports.proofs.ethernet_ports.EthernetPorts.send_frame.Goals as goal

pub returns-in-Err-clause-sent : goal.returns-in-Err-clause-sent
returns-in-Err-clause-sent g c =
    let switches = c.args.self.now.switches.items in
    let switch = c.index_mut-switch.result.now in (
      switch,
      c.frame_into.new.self,
      slice_get_read switches (length switches) c.args.port switch refl c.requires.switch c.index_mut-switch.ensures.value,
      (c.in-Err.field-0, c.in-Err.ensures.fault, pass_nothing _ _ refl, refl, c.in-Err.ensures.counted),
      refl,
      refl,
    )
