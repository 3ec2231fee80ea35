use Rattle.std.proofs.Common.{◌/◌, ◌∙◌, List, length, sym, ap}
use Rattle.ipx_control.specs.declared.rip.packet.RipEntry.{RipEntry}
use Rattle.ipx_control.specs.Lent.{rip_entry_in}
use Rattle.ipx_control.proofs.EntryLists.{length-first}
use Rattle.ipx_control.proofs.rip.entries.RipEntries.len.Goals as goal

pub returns : goal.returns
returns c =
    let bytes = c.self.inside.bytes.now in
    sym (length-first rip_entry_in 8 (length bytes / 8) bytes) ∙ ap (λ (entries : List RipEntry). length entries) c.self.view_is
