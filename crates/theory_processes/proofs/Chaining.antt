-- A batch of turns over ports, as calls on the core of `ipx route`.
use Rattle.std.proofs.Common.{◌≡◌, ◌≢◌, ◌≤◌, ℕ, List, [], ◌∷◌, ◌++◌, length, Option, None, Some, refl, sym, ◌∙◌, ap, subst, arith}
use Rattle.std.proofs.lemmas.Grind.{flat_map-append}
use Rattle.std.proofs.lemmas.List.{append-nil, append_assoc}
use Rattle.ipx_carrier.specs.Device.{Reception}
use Rattle.ipx_carrier.specs.Driving.{ChainBy, EndsBy, TurnTaken}
use Rattle.ipx_carrier.specs.Readiness.{Readiness}
use Rattle.ipx_carrier.specs.Turns.{Given, Turn, Ways, packets_of, received_of}
use Rattle.ipx_carrier.specs.declared.fault.RunFault.{RunFault}
use Rattle.ipx_carrier.specs.declared.fault.RunFault.TheVariants.{OutOfMemory}
use Rattle.ipx_site.specs.SiteCore.{SiteCore, SiteGives, SiteHears, SiteHearOutOfMemory, SiteNextOutOfMemory}
use Rattle.theory_processes.specs.Loops.{answer_in}
use Rattle.theory_processes.specs.PortTurns.{EndBroken, PortsTakeTurns, TakeWhole, buffer_size}
use Rattle.theory_processes.specs.SiteCalls.{numbered}
use Rattle.theory_processes.proofs.RouterTurning.{Calls, Ins, a_turn, after, answers, faults, nothing, turn_more}

module _ {K S A : Type 0} (tells : K → ℕ → K → Type 0) (receives : S → ℕ → ℕ → Option (List ℕ) → S → Type 0) (sends : S → Given → S → Type 0) (fails_to_receive : S → ℕ → ℕ → S → Type 0) (fails_to_send : S → Given → S → Type 0)
    (filtered : S → ℕ) (marked : S → Readiness) (ports : ℕ) (ways : Ways A) where
  record Whole (d e : S) (x y : SiteCore) : Type 0 where
    pub turns : List Turn
    pub calls : Calls x y (answers (received_of turns)) (packets_of turns)
    pub take : TakeWhole receives sends turns d e

  whole : (turns : List TurnTaken) (d e : S) (k l : K) (x y : SiteCore) → ChainBy SiteHears SiteGives tells receives sends filtered marked ports buffer_size ways turns d e k l x y → Whole d e x y
  whole [] d e k l x y c = record { turns = []; calls = nothing x y c.2; take = c.0 }
  whole (t ∷ ts) d e k l x y c =
      let rest : Whole c.0 e c.2 y = whole ts c.0 e c.1 l c.2 y c.7 in
      record {
        turns = c.6.0 ∷ rest.turns;
        calls = turn_more c.6.0 rest.turns x c.2 y (a_turn ports c.6.0 x c.2 c.6.1) rest.calls;
        take = (c.6.5, c.0, c.6.6, c.6.7, rest.take);
      }

  record Broken (fault : Option RunFault) (d e : S) (x y : SiteCore) : Type 0 where
    pub turns : List Turn
    pub received : Ins
    pub lost : Ins
    pub are : answers (received_of turns) ≡ received ++ lost
    pub none : turns ≡ [] → lost ≡ []
    pub few : length lost ≤ 1
    pub memory : lost ≢ [] → fault ≡ Some OutOfMemory
    pub calls : Calls x y received (packets_of turns)
    pub end : EndBroken receives sends fails_to_receive fails_to_send turns fault d e

  broken : (fault : Option RunFault) (d e : S) (k l : K) (x y : SiteCore)
      → EndsBy SiteHears SiteHearOutOfMemory SiteGives SiteNextOutOfMemory tells receives sends fails_to_receive fails_to_send filtered marked ports buffer_size ways fault d e k l x y → Broken fault d e x y
  broken None d e k l x y b = record { turns = []; received = []; lost = []; are = refl; none = λ same. refl; few = omega arith; memory = λ some. absurd (some refl); calls = nothing x y b.2; end = (refl, b.0) }
  broken (Some f) d e k l x y b =
      let t : Turn = b.1.0 in
      let part = faults ports ways t b.1.1 f x y b.1.2 in
      record {
        turns = t ∷ [];
        received = part.0;
        lost = part.1;
        are = ap answers (append-nil t.answers) ∙ part.2;
        none = λ same. absurd (cc same);
        few = part.3;
        memory = λ some. ap Some (part.4 some);
        calls = subst (λ ps. Calls x y part.0 ps) (sym (append-nil t.packets)) part.5;
        end = (refl, f, refl, b.1.5, b.1.6, b.1.7);
      }

  -- whole turns, and what follows them
  pub record Batched (fault : Option RunFault) (d e : S) (x y : SiteCore) : Type 0 where
    pub first : List Turn
    pub last : List Turn
    pub received : Ins
    pub lost : Ins
    pub are : answers (received_of (first ++ last)) ≡ received ++ lost
    pub none : last ≡ [] → lost ≡ []
    pub few : length lost ≤ 1
    pub memory : lost ≢ [] → fault ≡ Some OutOfMemory
    pub calls : Calls x y received (packets_of (first ++ last))
    pub take : PortsTakeTurns receives sends fails_to_receive fails_to_send first last fault d e

  pub batched : (turns : List TurnTaken) (fault : Option RunFault) (d m e : S) (k i l : K) (x z y : SiteCore)
      → ChainBy SiteHears SiteGives tells receives sends filtered marked ports buffer_size ways turns d m k i x z
      → EndsBy SiteHears SiteHearOutOfMemory SiteGives SiteNextOutOfMemory tells receives sends fails_to_receive fails_to_send filtered marked ports buffer_size ways fault m e i l z y → Batched fault d e x y
  batched turns fault d m e k i l x z y c b =
      let w : Whole d m x z = whole turns d m k i x z c in
      let r : Broken fault m e z y = broken fault m e i l z y b in
      let before : Ins = answers (received_of w.turns) in
      record {
        first = w.turns;
        last = r.turns;
        received = before ++ r.received;
        lost = r.lost;
        none = r.none;
        few = r.few;
        memory = r.memory;
        are = ap answers (flat_map-append (λ (t : Turn). t.answers) w.turns r.turns) ∙ flat_map-append (λ (q : Reception). answer_in (numbered q.port) q.bytes) (received_of w.turns) (received_of r.turns)
            ∙ ap (λ xs. before ++ xs) r.are ∙ sym (append_assoc before r.received r.lost);
        calls = subst (λ ps. Calls x y (before ++ r.received) ps) (sym (flat_map-append (λ (t : Turn). t.packets) w.turns r.turns)) (after x z y before r.received (packets_of w.turns) (packets_of r.turns) w.calls r.calls);
        take = (m, w.take, r.end);
      }
