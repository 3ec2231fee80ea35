-- The output of `hop` for its input.
use Rattle.std.specs.Prelude.{◌≡◌, ℕ, List, [], ◌∷◌, None, MatchOption}
use Rattle.ipx_router.specs.declared.port.Port.{Port}
use Rattle.ipx_router.specs.RouterView.{RouterView}
use Rattle.ipx_router.specs.OutcomeView.{OutcomeView}
use Rattle.ipx_router.specs.Answer.{Receives}
use Rattle.ipx_inspect.specs.Text.{packet_of_text}
use Rattle.ipx_inspect.specs.Line.{lines_of, status_of, bad_line}

abbrev pub first_port : Port
first_port = record {
  network = record { 0 = 0x11 };
  node = record { 0 = 0 ∷ 0 ∷ 0x7f ∷ 0 ∷ 0 ∷ 1 ∷ [] };
  cost = 1;
}

abbrev pub second_port : Port
second_port = record {
  network = record { 0 = 0x22 };
  node = record { 0 = 0 ∷ 0 ∷ 0x7f ∷ 0 ∷ 0 ∷ 2 ∷ [] };
  cost = 1;
}

-- the router that the packet comes to: port 1 on network 11, port 2 on network 22
abbrev pub hop_routing : RouterView
hop_routing = record {
  ports = first_port ∷ second_port ∷ [];
  routes = record { capacity = 1024; offers = [] };
  services = record { capacity = 4096; offers = [] };
  advertised_at = None;
}

-- that router's answer to bytes that it receives on port 1
abbrev pub HopOutcome : List ℕ → OutcomeView → Type 0
HopOutcome bytes a = (after : RouterView) × Receives hop_routing 1 bytes 0 a after

-- the lines and the status for bytes: those of the router's answer
abbrev pub HopAnswers : List ℕ → List ℕ → ℕ → Type 0
HopAnswers bytes lines status =
    (a : OutcomeView) × HopOutcome bytes a × (lines ≡ lines_of a) × (status ≡ status_of a)

-- the lines and the status for a text: for the bytes that it spells, or those of a bad line
abbrev pub HopWrites : List ℕ → List ℕ → ℕ → Type 0
HopWrites text line status =
    MatchOption (packet_of_text text)
    ((line ≡ bad_line) × (status ≡ 2))
    (λ bytes. HopAnswers bytes line status)
