-- Token buckets: a burst, and a rate per second. Defined by this project.
use Rattle.std.specs.Prelude.{ℕ, ◌+◌, ◌-◌, ◌*◌, ◌/◌, Bool, max, nat_le}
use Rattle.token_bucket.specs.declared.bucket.RateLimit.{RateLimit}
use Rattle.token_bucket.specs.declared.bucket.TokenBucket.{TokenBucket}

-- when a bucket is full again after so many tokens were taken, given when it was to be full before: in
-- milliseconds
abbrev pub back_after : ℕ → ℕ → ℕ → ℕ
back_after count back now = max back now + 1000 * count

-- a bucket of `burst` tokens that is full again at `back`, in milliseconds, has so many now. A missing token
-- comes back every 1,000 ms
abbrev pub has_tokens : ℕ → ℕ → ℕ → ℕ → Bool
has_tokens burst count back now = nat_le (back_after count back now) (now + 1000 * burst)

-- if more tokens come back in a second, the bucket's clock runs that many times as fast
abbrev pub bucket_clock : RateLimit → ℕ → ℕ
bucket_clock limit now = limit.per_second * now

abbrev pub full_bucket : RateLimit → TokenBucket
full_bucket limit = record { limit = limit; back = 0 }

-- a bucket has so many tokens at this time
abbrev pub bucket_has : TokenBucket → ℕ → ℕ → Bool
bucket_has b count now = has_tokens b.limit.burst count b.back (bucket_clock b.limit now)

-- so many tokens were taken at this time
abbrev pub bucket_taken : TokenBucket → ℕ → ℕ → TokenBucket
bucket_taken b count now = record b { back = back_after count b.back (bucket_clock b.limit now) }

-- the most that a limit lets pass from one time to another, in milliseconds
abbrev pub most_in : RateLimit → ℕ → ℕ → ℕ
most_in limit a b = limit.burst + limit.per_second * (b - a) / 1000
