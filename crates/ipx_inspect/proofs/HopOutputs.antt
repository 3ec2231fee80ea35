-- From one answer of the router to one output and one status of `hop`.
use Rattle.std.proofs.Common.{◌≡◌, ℕ, List, Option, Some, None, sym, ap, ◌∙◌}
use Rattle.std.specs.Prelude.{MatchOption}
use Rattle.ipx_router.specs.RouterView.{RouterView}
use Rattle.ipx_router.specs.OutcomeView.{OutcomeView}
use Rattle.ipx_router.specs.Answer.{Receives}
use Rattle.ipx_inspect.specs.Text.{packet_of_text}
use Rattle.ipx_inspect.specs.Line.{bad_line, lines_of, status_of}
use Rattle.ipx_inspect.specs.Hop.{HopAnswers, HopWrites, hop_routing}

-- a router has one answer
abbrev pub OneOutcome : Type 0
OneOutcome = (old new other : RouterView) (port : ℕ) (bytes : List ℕ) (now : ℕ) (a b : OutcomeView) → Receives old port bytes now a new → Receives old port bytes now b other → a ≡ b

hop_answers_one : OneOutcome → (bytes a b : List ℕ) (s t : ℕ) → HopAnswers bytes a s → HopAnswers bytes b t → (a ≡ b) × (s ≡ t)
hop_answers_one one bytes a b s t x y =
    let same = one hop_routing x.1.0 y.1.0 1 bytes 0 x.0 y.0 x.1.1 y.1.1 in
    (x.2 ∙ ap lines_of same ∙ sym y.2, x.3 ∙ ap status_of same ∙ sym y.3)

HopText : Option (List ℕ) → List ℕ → ℕ → Type 0
HopText bytes line status = MatchOption bytes ((line ≡ bad_line) × (status ≡ 2)) (λ b. HopAnswers b line status)

hop_text_one : OneOutcome → (bytes : Option (List ℕ)) (a b : List ℕ) (s t : ℕ) → HopText bytes a s → HopText bytes b t → (a ≡ b) × (s ≡ t)
unfolding HopText
hop_text_one one None a b s t x y = (x.0 ∙ sym y.0, x.1 ∙ sym y.1)
hop_text_one one (Some bytes) a b s t x y = hop_answers_one one bytes a b s t x y

pub hop_writes_one : OneOutcome → (text a b : List ℕ) (s t : ℕ) → HopWrites text a s → HopWrites text b t → (a ≡ b) × (s ≡ t)
unfolding HopText
hop_writes_one one text a b s t x y = hop_text_one one (packet_of_text text) a b s t x y
