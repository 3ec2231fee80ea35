-- A machine that steps reach from two new ends still does after more steps, and can be seen from its other
-- end.
use Rattle.std.proofs.Common.{ℕ, ◌+◌, ◌<◌, ◌≤◌, List, [], ◌∷◌, ◌++◌, Some, None, length, refl, ap, subst, arith, suc}
use Rattle.std.specs.Prelude.{Contains}
use Rattle.spx_link.specs.declared.unit.Unit.{Unit}
use Rattle.spx_link.specs.Machine.{End, IsRun, IsStep, Machine, Packet, Step, got, mailed, sent_next, start}
use Rattle.spx_link.specs.Machine.Act.{Gains, Gets, Sends, SendsAgain, SendsNoUnit, Takes}
use Rattle.spx_link.specs.Machine.Step.{One, Two}

-- steps lead from two new ends to these
pub record Runs (x y : End) : Type 0 where
  pub one : ℕ
  pub two : ℕ
  pub steps : List Step
  pub run : IsRun steps (start one two) (record { one = x; two = y })

pub run_on : (steps : List Step) (m n last : Machine) (s : Step) → IsRun steps m n → IsStep s n last → IsRun (steps ++ s ∷ []) m last
run_on [] m n last s run is = (last, subst (λ k. IsStep s k last) run is, refl)
run_on (t ∷ steps) m n last s run is = (run.0, run.1, run_on steps run.0 n last s run.2 is)

pub runs_on : (x y x' y' : End) (s : Step) → IsStep s (record { one = x; two = y }) (record { one = x'; two = y' }) → Runs x y → Runs x' y'
runs_on x y x' y' s is r =
    record {
      one = r.one;
      two = r.two;
      steps = r.steps ++ s ∷ [];
      run = run_on r.steps (start r.one r.two) (record { one = x; two = y }) (record { one = x'; two = y' }) s r.run is;
    }

-- the same steps, seen from the other end
abbrev pub other_step : Step → Step
other_step (One act) = Two act
other_step (Two act) = One act

abbrev pub other_steps : List Step → List Step
other_steps [] = []
other_steps (s ∷ steps) = other_step s ∷ other_steps steps

abbrev pub over : Machine → Machine
over m = record { one = m.two; two = m.one }

step_over : (s : Step) (m n : Machine) → IsStep s m n → IsStep (other_step s) (over m) (over n)
step_over (One act) m n is = is
step_over (Two act) m n is = is

run_over : (steps : List Step) (m n : Machine) → IsRun steps m n → IsRun (other_steps steps) (over m) (over n)
run_over [] m n run = ap over run
run_over (s ∷ steps) m n run = (over run.0, step_over s m run.0 run.1, run_over steps run.0 n run.2)

pub runs_over : (x y : End) → Runs x y → Runs y x
runs_over x y r = record { one = r.two; two = r.one; steps = other_steps r.steps; run = run_over r.steps (start r.one r.two) (record { one = x; two = y }) r.run }

-- ---- the bag

pub in_front : {A : Type 0} (x : A) (xs : List A) → Contains (x ∷ xs) x
in_front x xs = (0, omega arith, refl)

pub after_one : {A : Type 0} (y x : A) (xs : List A) → Contains xs x → Contains (y ∷ xs) x
after_one y x xs there = (suc there.0, omega (arith, there.1), there.2)

module _ (c d : End) (r : Runs c d) where
  pub mailed_runs : Runs (mailed None c d) d
  mailed_runs = runs_on c d (mailed None c d) d (One SendsNoUnit) (refl, refl) r

  pub sent_again_runs : (n : ℕ) → c.base ≤ n → n < c.sent → Runs (mailed (Some n) c d) d
  sent_again_runs n low high = runs_on c d (mailed (Some n) c d) d (One (SendsAgain n)) ((low, high, refl), refl) r

  pub sent_next_runs : c.sent < c.limit → c.sent < length c.units → Runs (sent_next c d) d
  sent_next_runs room unit = runs_on c d (sent_next c d) d (One Sends) ((room, unit, refl), refl) r

  pub got_runs : (p : Packet) → Contains d.bag p → Runs (got p c) d
  got_runs p there = runs_on c d (got p c) d (One (Gets p)) ((there, refl), refl) r

  pub taken_runs : c.taken < c.read → Runs (record c { taken = c.taken + 1 }) d
  taken_runs more = runs_on c d (record c { taken = c.taken + 1 }) d (One Takes) ((more, refl), refl) r

  pub gained_runs : (more : List Unit) → Runs (record c { units = c.units ++ more }) d
  gained_runs more = runs_on c d (record c { units = c.units ++ more }) d (One (Gains more)) (refl, refl) r
