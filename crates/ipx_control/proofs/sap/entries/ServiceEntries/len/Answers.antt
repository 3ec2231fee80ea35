use Rattle.std.proofs.Common.{◌/◌, ◌∙◌, List, length, sym, ap}
use Rattle.ipx_control.specs.declared.sap.packet.ServiceEntry.{ServiceEntry}
use Rattle.ipx_control.specs.Lent.{service_in}
use Rattle.ipx_control.proofs.EntryLists.{length-first}
use Rattle.ipx_control.proofs.sap.entries.ServiceEntries.len.Goals as goal

pub returns : goal.returns
returns c =
    let bytes = c.self.inside.bytes.now in
    sym (length-first service_in 64 (length bytes / 64) bytes) ∙ ap (λ (services : List ServiceEntry). length services) c.self.view_is
