use Rattle.std.proofs.Common.{◌≡◌, ◌++◌, List, refl}
use Rattle.spx_theory.specs.Scan.{seen_all}
use Rattle.ipx_net.specs.LogEntries.{entry_notes}
use Rattle.ipx_net.specs.Sights.{scan_of}
use Rattle.ipx_net.specs.declared.entry.Entry.{Entry}
use Rattle.ipx_net.proofs.Sightings.{goes_on}
use Rattle.ipx_net.proofs.indexed_log.IndexedLog.append.Goals as goal

pub invariant_of-self-2 : goal.invariant_of-self-2
invariant_of-self-2 c =
    let old : List Entry = c.self.inside.entries.items in
    let added : List Entry = c.args.entries.items in
    let all : c.add_all.new.items.items ≡ old ++ added = rw (c.add_all.ensures, c.reserve-2.ensures.items) refl in
    let after : scan_of c.read_all.new.self ≡ seen_all (scan_of c.self.inside.scanned) (entry_notes added) = rw (c.read_all.ensures, c.reserve-3.ensures.same, c.deref-2.ensures.value) refl in
    goes_on old added c.add_all.new.items.items (scan_of c.self.inside.scanned) (scan_of c.read_all.new.self) c.self.invariant all after
