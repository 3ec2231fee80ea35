use Rattle.ipx_router.proofs.answering.answer_packet.Goals as goal

pub forward-requires-clause-ports : goal.forward-requires-clause-ports
forward-requires-clause-ports c = c.requires.sound.count

pub forward-requires-clause-sources : goal.forward-requires-clause-sources
forward-requires-clause-sources c = c.requires.sound.routes_from
