use Rattle.std.proofs.Common.{◌*◌, arith}
use Rattle.token_bucket.proofs.Rates.{has}
use Rattle.token_bucket.proofs.bucket.TokenBucket.take_tokens.Goals as goal

pub full_again_at-self-requires-clause-there : goal.full_again_at-self-requires-clause-there
full_again_at-self-requires-clause-there c =
    let b = c.args.self.now in
    let le = has b.limit.burst c.args.count b.back (b.limit.per_second * c.args.now) c.requires in
    omega (arith, le, c.clock.ensures.clock, c.burst-burst.ensures.value)
