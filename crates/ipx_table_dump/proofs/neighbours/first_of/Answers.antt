use Rattle.std.proofs.Common.{◌≡◌, ◌-◌, ◌<◌, ◌++◌, ◌∷◌, List, arith, length, take, subst, sym}
use Rattle.ipx_tables.specs.declared.source.Source.{Source}
use Rattle.ipx_table_dump.specs.declared.advertisers.Advertiser.{Advertiser}
use Rattle.ipx_table_dump.proofs.FirstOf.{one_more}
use Rattle.ipx_table_dump.proofs.neighbours.first_of.Goals as goal

pub loop-source-preserved-in-Continue-1 : goal.loop-source-preserved-in-Continue-1
loop-source-preserved-in-Continue-1 c =
    let first = c.loop-source.first.items in
    let x : Source × Advertiser = (c.in-Some.source.now, c.in-Some.teller.now) in
    let rest = c.next.new.self in
    let all = take 256 c.args.advertisers.now.entries in
    let few : length first < 256 = omega (arith, c.len.ensures) in
    let before : first ++ take (256 - length first) (x ∷ rest) ≡ all =
    subst (λ (left : List (Source × Advertiser)). first ++ take (256 - length first) left ≡ all) c.in-Some.ensures.steps c.loop-source.invariant in
    subst (λ (vs : List (Source × Advertiser)). vs ++ take (256 - length vs) rest ≡ all) (sym c.in_ok-push.ensures.items) (one_more first x rest all few before)
