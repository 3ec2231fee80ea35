use Rattle.std.proofs.Common.{◌≡◌, ◌∙◌, List, ap, subst, sym, take}
use Rattle.spx_theory.specs.Note.{Note}
use Rattle.ipx_net.specs.Ends.{TellsLog}
use Rattle.ipx_net.specs.LogEntries.{entry_notes}
use Rattle.ipx_net.specs.NetView.{NetView}
use Rattle.ipx_net.specs.declared.endinfo.EndInfo.{EndInfo}
use Rattle.ipx_net.specs.declared.entry.Entry.{Entry}
use Rattle.ipx_net.proofs.CourseTells.{counted_of}
use Rattle.ipx_net.proofs.TellingPeers.{notes_take}
use Rattle.ipx_net.proofs.net_state.NetState.tell.Goals as goal

pub read_from-requires-clause-counted : goal.read_from-requires-clause-counted
read_from-requires-clause-counted c =
    let es : List Entry = c.log.result.now in
    let told : List EndInfo = c.args.told.now.infos.items in
    let eq : entry_notes es ≡ c.args.self.now.now.world.log = c.log.ensures ∙ ap (λ (v : NetView). v.now.world.log) c.self.view_is in
    let before : TellsLog (entry_notes (take c.args.from es)) told =
    subst (λ (ns : List Note). TellsLog ns told) (ap (take c.args.from) (sym eq) ∙ sym (notes_take c.args.from es)) c.requires.before in
    counted_of (entry_notes (take c.args.from es)) told before
