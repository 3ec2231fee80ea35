use Rattle.std.proofs.Common.{refl}
use Rattle.ipx_control.specs.Rip.{IsRipEntryInRange, rip_entry_bytes}
use Rattle.ipx_control.specs.declared.rip.packet.RipEntry.{RipEntry}
use Rattle.ipx_control.proofs.EntryLists.{All-take_more, written_more}
use Rattle.ipx_control.proofs.rip.writing.put_rip_entries.Goals as goal

no_entry : RipEntry
no_entry = record { network = record { 0 = 0 }; hops = 0; ticks = 0 }

pub loop-place-preserved : goal.loop-place-preserved
unfolding no_entry
loop-place-preserved c =
    let es = c.args.entries.now in
    let i = c.loop-place.place in
    record {
      written = written_more rip_entry_bytes 8 es i no_entry c.args.out.now c.loop-place.out c.put_rip_entry.new.out c.loop-place-test.true refl c.loop-place.invariant.written c.put_rip_entry.ensures.written;
      range = All-take_more IsRipEntryInRange es i no_entry c.loop-place-test.true c.loop-place.invariant.range c.put_rip_entry.ensures.range;
    }
