use Rattle.std.proofs.Common.{◌≡◌, ap, sym, ◌∙◌}
use Rattle.std.specs.Prelude.{IsTrue}
use Rattle.spx_theory.specs.Scan.{scan}
use Rattle.ipx_net.specs.IndexedLogView.{IndexedLogView}
use Rattle.ipx_net.specs.Sights.{scan_of}
use Rattle.ipx_net.proofs.Peering.{fresh_by}
use Rattle.ipx_net.proofs.indexed_log.IndexedLog.fresh.Goals as goal

pub returns : goal.returns
returns c =
    let same : scan c.args.self.now.log ≡ scan_of c.self.inside.scanned = sym (ap (λ (b : IndexedLogView). scan b.log) c.self.view_is) ∙ c.self.invariant in
    fresh_by (IsTrue c.are_recent.result) c.args.self.now.log c.self.inside.scanned same c.are_recent.ensures
