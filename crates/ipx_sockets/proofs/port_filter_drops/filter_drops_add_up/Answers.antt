use Rattle.ipx_sockets.proofs.KeptSums.{refused_add_up, unknown_senders_add_up}
use Rattle.ipx_sockets.proofs.port_filter_drops.filter_drops_add_up.Goals as goal

pub returns-clause-unknown_senders : goal.returns-clause-unknown_senders
returns-clause-unknown_senders c = unknown_senders_add_up

pub returns-clause-refused : goal.returns-clause-refused
returns-clause-refused c = refused_add_up
