-- What a run counts of its turns, and its report.
use Rattle.std.specs.Prelude.{ℕ, ◌+◌, List, length, count_by, is_some, is_none}
use Rattle.ipx_carrier.specs.declared.report.Report.{Report}
use Rattle.ipx_carrier.specs.Device.{Reception}
use Rattle.ipx_carrier.specs.Turns.{Given, Turn, Ways, packets_of, received_of, sent_of}

-- how many of these receptions are datagrams
abbrev pub heard_in : List Reception → ℕ
heard_in = count_by (λ r. is_some r.bytes)

-- the packets that are not sent, because their node has no address
abbrev pub unmapped_in : {A : Type 0} → Ways A → List Given → ℕ
unmapped_in transmissions = count_by (λ p. is_none (transmissions p))

-- the report of turns
abbrev pub report_of : {A : Type 0} → Ways A → List Turn → Report
report_of transmissions turns = record {
  turns = length turns;
  heard = heard_in (received_of turns);
  sent = length (sent_of transmissions (packets_of turns));
  unmapped = unmapped_in transmissions (packets_of turns);
}

-- the sum of two reports
abbrev pub plus : Report → Report → Report
plus a b = record {
  turns = a.turns + b.turns;
  heard = a.heard + b.heard;
  sent = a.sent + b.sent;
  unmapped = a.unmapped + b.unmapped;
}
