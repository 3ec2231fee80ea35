use Rattle.ipx_inspect.specs.Decoded.{decoded_view}
use Rattle.ipx_inspect.proofs.show.lines_for_bytes.Goals as goal

pub returns : goal.returns
returns c = (decoded_view c.in_ok-reading.reading, c.in_ok-reading.ensures, c.in_ok-lines.ensures, c.reading_to_status-status.ensures)
