use Rattle.std.proofs.Common.{arith, refl}
use Rattle.std.proofs.lemmas.Result.{err_from_is_err_and}
use Rattle.ipx_query_cmd.proofs.pinging_host.PingingHost.turn.Goals as goal

pub returns-then-sent-clause-pings : goal.returns-then-sent-clause-pings
returns-then-sent-clause-pings g c =
    let r = c.in_ok-active.ensures.turn in (
      record { turn = r.0; news = c.news_of-news.result },
      refl,
      record {
        turns = r.1;
        drives = r.3;
        after = r.2.0;
        before = omega (arith, r.2.1);
        tenths = c.tenths.result;
        news = c.news_of-news.ensures;
      },
      r.4,
    )

pub returns-else-sent-clause-pings : goal.returns-else-sent-clause-pings
returns-else-sent-clause-pings g c =
    let r = c.in_ok-active.ensures.turn in (
      record { turn = r.0; news = c.news_of-news.result },
      refl,
      record {
        turns = r.1;
        drives = r.3;
        after = r.2.0;
        before = omega (arith, r.2.1);
        tenths = c.tenths.result;
        news = c.news_of-news.ensures;
      },
      r.4,
    )

pub returns-in_err-active-clause-fault : goal.returns-in_err-active-clause-fault
returns-in_err-active-clause-fault g c =
    let p = err_from_is_err_and c.from_residual.result c.from_residual.ensures.1 in
    rw (p.1, p.2) c.in_err-active.ensures.fault
