use Rattle.ipx_ethernet.proofs.Goes.{others_again, others_in_full, others_with_room}
use Rattle.ipx_ethernet.proofs.switch_laws.other_stations_are_known_still.Goals as goal

pub returns-clause-room : goal.returns-clause-room
returns-clause-room c = others_with_room

pub returns-clause-full : goal.returns-clause-full
returns-clause-full c = others_in_full

pub returns-clause-again : goal.returns-clause-again
returns-clause-again c = others_again
