-- How many tokens are taken of a bucket between two times.
use Rattle.std.proofs.Common.{◌≡◌, ◌≤◌, ◌<◌, ℕ, zero, suc, ◌+◌, ◌-◌, ◌*◌, ◌/◌, true, max, arith}
use Rattle.std.proofs.lemmas.Bool.Decides.{nat_tests}
use Rattle.token_bucket.specs.TokenBucket.{has_tokens}

pub has : (burst count back now : ℕ) → has_tokens burst count back now ≡ true → max back now + 1000 * count ≤ now + 1000 * burst
has burst count back now h = grind (arith, nat_tests)

-- a bucket is full again at `back`, and no token was taken before `f`. All times are by its clock, from `ra` to
-- `rb`. So many tokens are taken now, and m more later
pub one_more : (back f ra rb now burst count n m : ℕ) → f ≤ now → ra ≤ now → now ≤ rb → max back now + 1000 * count ≤ now + 1000 * burst → n ≡ m + count
    → (0 < m → max (max (max back now + 1000 * count) now) ra + 1000 * m ≤ rb + 1000 * burst) → max (max back f) ra + 1000 * n ≤ rb + 1000 * burst
one_more back f ra rb now burst count n zero h1 h2 h3 h4 e then = omega arith
one_more back f ra rb now burst count n (suc m) h1 h2 h3 h4 e then =
    let ih = then (omega arith) in omega arith

-- none is taken now, and no missing token is back sooner
pub none_more : (back later f ra rb now n burst : ℕ) → f ≤ now → back ≤ max later now → max (max later now) ra + 1000 * n ≤ rb + 1000 * burst → max (max back f) ra + 1000 * n ≤ rb + 1000 * burst
none_more back later f ra rb now n burst h1 h2 h3 = omega arith

-- so they are no more than the burst and what comes back
pub at_most : (back f ra rb between burst n : ℕ) → max (max back f) ra + 1000 * n ≤ rb + 1000 * burst → between ≡ rb - ra → n ≤ burst + between / 1000
at_most back f ra rb between burst n h e = omega arith
