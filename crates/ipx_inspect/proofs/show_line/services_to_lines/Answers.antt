use Rattle.std.proofs.Common.{◌∙◌, []}
use Rattle.ipx_control.specs.declared.sap.packet.ServiceEntry.{ServiceEntry}
use Rattle.ipx_inspect.specs.ShowLine.{service_line}
use Rattle.ipx_inspect.proofs.Places.{texts_more}
use Rattle.ipx_inspect.proofs.show_line.services_to_lines.Goals as goal

no_service : ServiceEntry
no_service = record { kind = 0; name = []; at = record { network = record { 0 = 0 }; node = record { 0 = [] }; socket = record { 0 = 0 } }; hops = 0 }

pub loop-entry-preserved : goal.loop-entry-preserved
unfolding no_service
loop-entry-preserved c =
    c.in_ok-push_str.ensures.bytes ∙ texts_more service_line c.args.services.now c.loop-entry.entry-index no_service _ _ c.loop-entry-test.true c.loop-entry.invariant (c.deref.ensures ∙ c.in_ok-line.ensures)
