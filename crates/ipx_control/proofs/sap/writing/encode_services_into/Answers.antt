use Rattle.ipx_control.proofs.SapPackets.{response_written}
use Rattle.ipx_control.proofs.sap.writing.encode_services_into.Goals as goal

pub returns-clause-written : goal.returns-clause-written
returns-clause-written c =
    response_written c.field_laws.ensures c.args.nearest c.args.services.now c.args.out.now c.put_response.new.out _ (record { each = c.put_response.ensures.range; limit = c.requires.limit }) c.put_response.ensures.written
