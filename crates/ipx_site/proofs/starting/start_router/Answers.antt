use Rattle.ipx_site.proofs.RanRounds.{start_refused, starts_by_file}
use Rattle.ipx_site.proofs.starting.start_router.Goals as goal

pub returns-clause-starts : goal.returns-clause-starts
returns-clause-starts g c =
    let e = c.start_loaded.ensures in
    starts_by_file c.load_site-loaded.result c.start_loaded.result c.load_site-loaded.ensures.site e.unread e.starts

pub returns-clause-refused : goal.returns-clause-refused
returns-clause-refused g c =
    let e = c.start_loaded.ensures in
    start_refused c.load_site-loaded.result c.start_loaded.result c.load_site-loaded.ensures.fault e.unread e.refused
