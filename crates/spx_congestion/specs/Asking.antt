-- Which units a repair sends again after an acknowledgement (defined by this project).
use Rattle.std.specs.Prelude.{ℕ, ◌*◌, ◌≡◌, ◌<◌, ◌≤◌, ◌⊎◌, ◌==◌, ◌&&◌, ◌||◌, if◌then◌else◌, Bool, max, min, nat_le, nat_lt, false, true}
use Rattle.std.specs.Int.{div_ceil}
use Rattle.spx_congestion.specs.declared.loss_recovery.LossRecovery.{LossRecovery}

-- the units from `from` up to `to` are to be sent again. Those up to `fixed` were sent again by this repair, or are to
-- be. The first outstanding one was sent again at `fixed_at`
pub record Asked : Type 0 where
  pub from : ℕ
  pub to : ℕ
  pub fixed : ℕ
  pub fixed_at : ℕ

abbrev pub asked_by : LossRecovery → Asked
asked_by r = record { from = r.from; to = r.to; fixed = r.fixed; fixed_at = r.fixed_at }

-- whether nothing that is outstanding from `base` on is to be sent again
abbrev pub is_idle : ℕ → ℕ → ℕ → Bool
is_idle base from to = nat_le to (max from base)

-- the first outstanding unit that this repair has not sent again, and is not to
abbrev pub first_new : ℕ → Asked → ℕ
first_new base old = max old.fixed base

-- the outstanding units up to `stop` are to be sent again, each once. What is still to be sent again stays so, and
-- the new ones follow. If nothing is, they alone are. The first outstanding unit counts as sent again now if it is
-- among the new ones, or if nothing was to be sent again
pub record AsksUpTo (base stop now : ℕ) (old new : Asked) : Type 0 where
  pub from : new.from ≡ (if is_idle base old.from old.to then first_new base old else old.from)
  pub more : first_new base old < stop → (new.to ≡ stop) × (new.fixed ≡ stop)
  pub none : stop ≤ first_new base old
      → (new.to ≡ (if is_idle base old.from old.to then first_new base old else old.to)) × (new.fixed ≡ old.fixed)
  pub anew : new.fixed_at ≡ (if is_idle base old.from old.to || (nat_lt base stop && (first_new base old == base))
      then now else old.fixed_at)

-- if more than six units are missing of those that a repair is to last for: a sixth of these, or more, up to twice
-- as many as are missing
pub record RunsAhead (wanted missing run : ℕ) : Type 0 where
  pub many : 6 < missing
  pub least : div_ceil wanted 6 ≤ run
  pub most : run ≤ max (div_ceil wanted 6) (missing * 2)

-- how many of the outstanding units may be sent again after an acknowledgement. After a timeout they are twice as
-- many as before, up to 64. If duplicates reported what is missing, they are as many as before, or one, or more if
-- many are missing
abbrev pub RunsOn : Bool → ℕ → ℕ → ℕ → ℕ → Type 0
RunsOn true wanted missing old run = (run ≡ old) ⊎ (run ≡ 1) ⊎ RunsAhead wanted missing run
RunsOn false wanted missing old run = run ≡ min (old * 2) 64
