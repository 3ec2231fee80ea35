-- For two links, a pacer and any times there are rounds with plans.
use Rattle.std.proofs.Common.{ℕ, zero, suc, ◌≤◌, ◌≡◌, ◌++◌, List, [], ◌∷◌, Option, None, Some, refl, arith}
use Rattle.spx_link.specs.declared.unit.Unit.{Unit}
use Rattle.spx_link.specs.LinkView.{LinkView}
use Rattle.spx_link.specs.Poll.{OutgoingView, poll_link}
use Rattle.spx_link.specs.Receive.{receive_link}
use Rattle.spx_congestion.specs.Pacing.{PacerView}
use Rattle.spx_theory.proofs.Alone.{Taken, taken}
use Rattle.spx_theory.proofs.Ending.{left, polls_fewer}
use Rattle.theory_processes.specs.PacedExist.{IsUsable, PacedRoundsExist}
use Rattle.theory_processes.specs.PacedRounds.{PacedReads, PacedRound, silent, hears, over, after}
use Rattle.theory_processes.proofs.Existing.{Conveyed, conveyed}
use Rattle.theory_processes.proofs.PacerListening.{Listened, listened}

-- ---- everything that the peer gives

record Answered (b a : LinkView) (p : PacerView) (now : ℕ) : Type 0 where
  gave : LinkView
  second : LinkView
  pacer : PacerView
  usable : IsUsable pacer
  all : PacedReads b a p now gave second pacer

answered_at : (n : ℕ) (b a b1 : LinkView) (p : PacerView) (now : ℕ) (o : Option OutgoingView) → IsUsable p → poll_link b now ≡ (o, b1) → left b now ≤ n → Answered b a p now
answered_at n b a b1 p now None u is few = record { gave = b1; second = a; pacer = p; usable = u; all = silent is }
answered_at zero b a b1 p now (Some o) u is few = absurd (omega (arith, few, polls_fewer b now o b1 is))
answered_at (suc n) b a b1 p now (Some o) u is few =
    let r = receive_link a o.header o.body in
    let l : Listened r.0 p a r.1 now = listened r.0 p a r.1 now u in
    let rest : Answered b1 r.1 l.pacer now = answered_at n b1 r.1 (poll_link b1 now).1 l.pacer now (poll_link b1 now).0 l.usable refl (omega (arith, few, polls_fewer b now o b1 is)) in
    record { gave = rest.gave; second = rest.second; pacer = rest.pacer; usable = rest.usable; all = hears o r.0 is refl l.told rest.all }

answered : (b a : LinkView) (p : PacerView) (now : ℕ) → IsUsable p → Answered b a p now
answered b a p now u = answered_at (left b now) b a (poll_link b now).1 p now (poll_link b now).0 u refl (omega arith)

-- ---- rounds

record Rounded (a : LinkView) (p : PacerView) (b : LinkView) (now : ℕ) : Type 0 where
  first : LinkView
  pacer : PacerView
  second : LinkView
  units_b : List Unit
  units_a : List Unit
  usable : IsUsable pacer
  round : PacedRound a p b now first pacer second units_b units_a

round_is : (a : LinkView) (p : PacerView) (b : LinkView) (now : ℕ) → IsUsable p → Rounded a p b now
round_is a p b now u =
    let one : Conveyed a p b now = conveyed a p b now u in
    let two : Taken one.heard = taken one.heard in
    let three : Answered two.after one.told one.planned now = answered two.after one.told one.planned now one.usable in
    let four : Taken three.second = taken three.second in
    record {
      first = four.after;
      pacer = three.pacer;
      second = three.gave;
      units_b = two.units;
      units_a = four.units;
      usable = three.usable;
      round = record {
        told = one.told;
        planned = one.planned;
        heard = one.heard;
        answered = two.after;
        there = one.all;
        taken = two.all;
        second = three.second;
        back = three.all;
        taken_back = four.all;
      };
    }

pub rounds_exist : (a b : LinkView) (p : PacerView) (moments : List ℕ) → IsUsable p → PacedRoundsExist a p b moments
rounds_exist a b p [] u = record { first = a; pacer = p; second = b; units_b = []; units_a = []; turns = over }
rounds_exist a b p (now ∷ moments) u =
    let one : Rounded a p b now = round_is a p b now u in
    let rest : PacedRoundsExist one.first one.pacer one.second moments = rounds_exist one.first one.second one.pacer moments one.usable in
    record { first = rest.first; pacer = rest.pacer; second = rest.second; units_b = one.units_b ++ rest.units_b; units_a = one.units_a ++ rest.units_a; turns = after one.round rest.turns }
