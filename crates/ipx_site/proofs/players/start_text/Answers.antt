use Rattle.std.proofs.Common.{ℕ, List, subst}
use Rattle.std.specs.Prelude.{IfOk}
use Rattle.ipx_config.specs.Site.{IsSiteTextFault}
use Rattle.ipx_site.specs.RoutingRuns.{StartsByText}
use Rattle.ipx_site.proofs.RanRounds.{start_refused}
use Rattle.ipx_site.proofs.TextRuns.{fault_is_one_or_two, starts_by_text}
use Rattle.ipx_site.proofs.players.start_text.Goals as goal

pub returns-clause-starts : goal.returns-clause-starts
returns-clause-starts g c =
    let e = c.start_loaded.ensures in
    let bytes = c.as_bytes.result.now in
    subst (λ (text : List ℕ). IfOk c.start_loaded.result (λ s. StartsByText text s)) c.as_bytes.ensures.value
    (starts_by_text bytes c.site_in-loaded.result c.start_loaded.result c.site_in-loaded.ensures.site e.unread e.starts)

pub returns-clause-refused : goal.returns-clause-refused
returns-clause-refused g c =
    let e = c.start_loaded.ensures in
    let bytes = c.as_bytes.result.now in
    start_refused c.site_in-loaded.result c.start_loaded.result
    (fault_is_one_or_two (IsSiteTextFault bytes) bytes c.site_in-loaded.result c.site_in-loaded.ensures.fault) e.unread e.refused
