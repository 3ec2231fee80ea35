use Rattle.std.proofs.Common.{sym, ◌∙◌}
use Rattle.ipx_config.proofs.WrittenStations.{no_station}
use Rattle.ipx_config.proofs.ethernet_values.station_written.Goals as goal

pub returns-else-is_station : goal.returns-else-is_station
returns-else-is_station c =
    no_station c.args.text.now c.in_ok-digits_of.field-0 c.in_ok-node.node c.in_ok-digits_of.ensures (sym c.in_ok-node.ensures) (sym c.is_station.ensures ∙ c.if-is_station.false)
