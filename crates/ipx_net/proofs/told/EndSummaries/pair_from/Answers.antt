use Rattle.std.proofs.Common.{◌≡◌, ◌∙◌, List, ap, length, subst, sym, take}
use Rattle.spx_theory.specs.EndsSummarized.{peer_of}
use Rattle.spx_theory.specs.Note.{Note}
use Rattle.spx_theory.specs.Scan.{scan}
use Rattle.ipx_net.specs.LogEntries.{entry_note}
use Rattle.ipx_net.specs.Theorems.{AreNumbered}
use Rattle.ipx_net.specs.EndSummaryChanges.{joins, paired_by}
use Rattle.ipx_net.specs.declared.entry.Entry.{Entry}
use Rattle.ipx_net.proofs.TellingPeers.{notes_take, paired_all, paired_next, paired_start}
use Rattle.ipx_net.proofs.told.EndSummaries.pair_from.Goals as goal

pub loop-at-init : goal.loop-at-init
loop-at-init c =
    let es : List Entry = c.log-log.result.now in
    paired_start c.peer_is_found.ensures es c.args.from c.args.self.now.infos.items
    (λ e. c.requires.before e ∙ ap (λ (ns : List Note). peer_of (take c.args.from ns) e) (sym c.log-log.ensures) ∙ ap (λ (ns : List Note). peer_of ns e) (sym (notes_take c.args.from es)))

pub loop-at-preserved : goal.loop-at-preserved
loop-at-preserved c =
    let es : List Entry = c.log-log.result.now in
    let step = subst (λ (ns : List Note). c.pair_by.new.self.infos.items ≡ paired_by (joins (entry_note c.index-log-at.result)) ns c.loop-at.self.infos.items) (sym c.log-log.ensures) c.pair_by.ensures in
    let made = subst (λ (ns : List Note). length c.args.self.now.infos.items ≡ length (scan ns).roles) (sym c.log-log.ensures) c.requires.made in
    paired_next c.peer_is_found.ensures es c.args.self.now.infos.items c.loop-at.at c.index-log-at.result c.loop-at.self.infos.items c.pair_by.new.self.infos.items
    c.loop-at-test.true c.index-log-at.is (subst AreNumbered (sym c.log-log.ensures) c.requires.numbered) made step c.loop-at.invariant

pub returns-clause-peers : goal.returns-clause-peers
returns-clause-peers c = λ e.
    paired_all c.log-log.result.now c.args.self.now.infos.items c.loop-at.at c.loop-at.self.infos.items c.loop-at-test.false c.loop-at.invariant e
    ∙ ap (λ (ns : List Note). peer_of ns e) c.log-log.ensures
