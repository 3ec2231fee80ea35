use Rattle.std.proofs.Common.{◌∙◌, sym}
use Rattle.ipx_net_hosts.proofs.Known.{end_found}
use Rattle.ipx_net_hosts.proofs.host_state.end_of.Goals as goal

pub returns : goal.returns
returns c = c.number_of.ensures ∙ sym (end_found c.args.here.now c.args.id)
