use Rattle.std.proofs.Common.{ℕ, List, sym, subst}
use Rattle.toml.specs.View.{view}
use Rattle.ipx_config.specs.EthernetValues.{ReadsStation, WritesStation}
use Rattle.ipx_config.proofs.WrittenStations.{text_reads}
use Rattle.ipx_config.proofs.ethernet_values.station_of.Goals as goal

pub returns : goal.returns
returns c =
    text_reads WritesStation (view c.args.value.now) c.in_ok-as_str.field-0.now (sym c.in_ok-as_str.ensures) c.station_written.result
    (subst (λ (it : List ℕ). ReadsStation it c.station_written.result) c.as_bytes.ensures.value c.station_written.ensures)
