use Rattle.std.proofs.Common.{length, refl}
use Rattle.ipx_wire.specs.Ipx.{packet_view}
use Rattle.ipx_router.specs.Knowledge.{routes_in, services_in}
use Rattle.ipx_router.proofs.Fits.{rip_there_ok, sap_there_ok}
use Rattle.ipx_router.proofs.KeptTables.{sound_kept}
use Rattle.ipx_router.proofs.answering.answer_control.Goals as goal

pub answer_rip-requires-clause-ports : goal.answer_rip-requires-clause-ports
answer_rip-requires-clause-ports c = c.requires.sound.count

pub answer_rip-requires-clause-table : goal.answer_rip-requires-clause-table
answer_rip-requires-clause-table c = c.requires.sound.tables.routes

pub answer_sap-requires : goal.answer_sap-requires
answer_sap-requires c = c.requires.sound.tables.services

pub returns-in-Rip-clause-there : goal.returns-in-Rip-clause-there
returns-in-Rip-clause-there c =
    rip_there_ok (length c.args.ports.now) c.args.ports.now (routes_in c.args.routes.now) c.args.at c.requires.port (packet_view c.args.packet) c.answer_rip.new.routes c.answer_rip.result c.answer_rip.ensures.answer

pub returns-in-Sap-clause-there : goal.returns-in-Sap-clause-there
returns-in-Sap-clause-there c =
    sap_there_ok (length c.args.ports.now) (services_in c.args.services.now) c.args.at c.requires.port (packet_view c.args.packet) c.answer_sap.new.services c.answer_sap.result c.answer_sap.ensures.answer

pub returns-in-Rip-clause-sound : goal.returns-in-Rip-clause-sound
returns-in-Rip-clause-sound c =
    sound_kept c.args.ports.now (c.args.routes.now, c.args.services.now) (c.answer_rip.new.routes, c.args.services.now) c.requires.sound c.answer_rip.ensures.valid c.requires.sound.tables.services c.answer_rip.ensures.capacity refl
    (c.answer_rip.ensures.sources (length c.args.ports.now) c.requires.port c.requires.sound.routes_from) c.requires.sound.services_from

pub returns-in-Sap-clause-sound : goal.returns-in-Sap-clause-sound
returns-in-Sap-clause-sound c =
    sound_kept c.args.ports.now (c.args.routes.now, c.args.services.now) (c.args.routes.now, c.answer_sap.new.services) c.requires.sound c.requires.sound.tables.routes c.answer_sap.ensures.valid refl c.answer_sap.ensures.capacity
    c.requires.sound.routes_from (c.answer_sap.ensures.sources (length c.args.ports.now) c.requires.port c.requires.sound.services_from)
