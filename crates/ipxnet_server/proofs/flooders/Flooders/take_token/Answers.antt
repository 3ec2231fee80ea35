use Rattle.std.proofs.Common.{◌≡◌, ◌<◌, ℕ, List, arith, true, ltb-true, subst, sym}
use Rattle.std.specs.Prelude.{count_by, nat_lt}
use Rattle.std.proofs.lemmas.Bool.{and_parts}
use Rattle.std.specs.declared.net.socket_addr.SocketAddrV4.{SocketAddrV4}
use Rattle.ipxnet_server.specs.declared.flooders.Flooder.{Flooder}
use Rattle.token_bucket.specs.TokenBucket.{bucket_clock, has_tokens}
use Rattle.token_bucket.proofs.Rates.{has}
use Rattle.ipxnet_server.specs.Flooders.{flood_limit, flooder_back, is_other_flooder, max_flooders, may_flood}
use Rattle.ipxnet_server.proofs.flooders.Flooders.take_token.Goals as goal

parts : (place : SocketAddrV4) (now : ℕ) (flooders : List Flooder) → may_flood place now flooders ≡ true
    → (has_tokens 256 1 (flooder_back place flooders) (bucket_clock flood_limit now) ≡ true)
    × (nat_lt (count_by (is_other_flooder place (bucket_clock flood_limit now)) flooders) max_flooders ≡ true)
parts place now flooders may =
    and_parts (has_tokens 256 1 (flooder_back place flooders) (bucket_clock flood_limit now))
    (nat_lt (count_by (is_other_flooder place (bucket_clock flood_limit now)) flooders) max_flooders) may

pub full_again_at-back-requires-clause-there : goal.full_again_at-back-requires-clause-there
full_again_at-back-requires-clause-there c =
    let clock = bucket_clock flood_limit c.args.now in
    let le = has 256 1 (flooder_back c.args.place c.args.self.now) clock (parts c.args.place c.args.now c.args.self.now c.requires).0 in
    omega (arith, le, c.back_of.ensures, c.clock-clock.ensures.clock)

pub remember-requires : goal.remember-requires
remember-requires c =
    let P : ℕ → Type 0 = λ k. count_by (is_other_flooder c.args.place k) c.args.self.now < max_flooders in
    let few : P (bucket_clock flood_limit c.args.now) = ltb-true _ max_flooders (parts c.args.place c.args.now c.args.self.now c.requires).1 in
    subst P (sym c.clock-clock.ensures.clock) few
