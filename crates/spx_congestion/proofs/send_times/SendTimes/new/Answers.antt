use Rattle.std.proofs.Common.{◌≡◌, ℕ, List, Option, None, Some, refl, replicate}
use Rattle.spx_congestion.specs.SendTimes.{no_times}
use Rattle.spx_congestion.proofs.send_times.SendTimes.new.Goals as goal

none_at_first : (times : List (Option ℕ)) → times ≡ replicate 8192 None → times ≡ no_times
unfolding no_times
none_at_first times is = is

none_alone : (P : Option ℕ → Type 0) → ((x : ℕ) → P (Some x) → ⊥) → (y : Option ℕ) → P y → y ≡ None
none_alone P other None same = refl
none_alone P other (Some x) same = absurd (other x same)

pub returns : goal.returns
returns c = none_at_first c.in_ok-ring.ring.items (c.in_ok-ring.ensures.items_if_clones_equal (none_alone _ (λ x same. same)))
