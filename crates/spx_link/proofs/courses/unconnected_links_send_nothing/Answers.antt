use Rattle.spx_link.proofs.Coming.{separate_asks, separate_joins, separate_refuses, separate_stays}
use Rattle.spx_link.proofs.courses.unconnected_links_send_nothing.Goals as goal

pub returns : goal.returns
returns c =
    record {
      asks = λ l now e. separate_asks l now e;
      stays = λ l now e. separate_stays l now e;
      joins = λ l h body e read. separate_joins l h body e read;
      refuses = λ l e none. separate_refuses l e none;
    }
