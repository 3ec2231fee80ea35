use Rattle.toml.specs.View.{view}
use Rattle.ipx_config.proofs.WireEnds.{end_reads}
use Rattle.ipx_config.proofs.ethernet_values.end_of.Goals as goal

pub returns-in-None : goal.returns-in-None
returns-in-None c =
    end_reads c.args.usual (view c.args.value.now) c.in-None.ensures c.usual_place_of.result c.usual_place_of.ensures
