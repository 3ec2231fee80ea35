use Rattle.std.proofs.Common.{get_or, []}
use Rattle.ipx_control.specs.Sap.{IsServiceEntryInRange, service_bytes}
use Rattle.ipx_control.specs.declared.sap.packet.ServiceEntry.{ServiceEntry}
use Rattle.ipx_control.proofs.EntryLists.{All-take_more, written_more}
use Rattle.ipx_control.proofs.SapPackets.{length-service}
use Rattle.ipx_control.proofs.sap.writing.put_services.Goals as goal

no_service : ServiceEntry
no_service = record { kind = 0; name = []; at = record { network = record { 0 = 0 }; node = record { 0 = [] }; socket = record { 0 = 0 } }; hops = 0 }

pub loop-place-preserved : goal.loop-place-preserved
unfolding no_service
loop-place-preserved c =
    let es = c.args.services.now in
    let i = c.loop-place.place in
    record {
      written = written_more service_bytes 64 es i no_service c.args.out.now c.loop-place.out c.put_service.new.out c.loop-place-test.true (length-service (get_or es i no_service) c.put_service.ensures.range) c.loop-place.invariant.written c.put_service.ensures.written;
      range = All-take_more IsServiceEntryInRange es i no_service c.loop-place-test.true c.loop-place.invariant.range c.put_service.ensures.range;
    }
