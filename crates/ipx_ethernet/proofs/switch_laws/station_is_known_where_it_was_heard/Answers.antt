use Rattle.ipx_ethernet.proofs.Goes.{sender_before, sender_known, sender_old}
use Rattle.ipx_ethernet.proofs.switch_laws.station_is_known_where_it_was_heard.Goals as goal

pub returns-clause-known : goal.returns-clause-known
returns-clause-known c = sender_known

pub returns-clause-old : goal.returns-clause-old
returns-clause-old c = sender_old

pub returns-clause-before : goal.returns-clause-before
returns-clause-before c = sender_before
