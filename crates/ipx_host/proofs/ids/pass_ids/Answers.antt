use Rattle.std.proofs.Common.{◌≡◌, arith, rules}
use Rattle.std.proofs.lemmas.Grind.{common_steps}
use Rattle.spx_link.specs.Links.{count_of}
use Rattle.ipx_host.proofs.Dialed.{same_on}
use Rattle.ipx_host.proofs.Fed.{next_id}
use Rattle.ipx_host.proofs.ids.pass_ids.Goals as goal

pub loop-preserved : goal.loop-preserved
loop-preserved c =
    record {
      held = first_of (search rules, grind (arith, common_steps));
      count = first_of (search rules, grind (arith, common_steps));
      last = λ none few.
          let now = c.loop.endpoint.links in
          let at = c.loop.invariant.last none few in
          let empty : count_of now ≡ 0 = omega (arith, c.loop.invariant.count, none) in
          let next = next_id now c.in_ok-id.id c.in_ok-id.ensures.id empty (omega (arith, at, few)) in
          omega (arith, at, next, c.in_ok-id.ensures.adds.last, c.in_ok-release.ensures.ok.last);
      host = same_on _ _ _ c.loop.invariant.host (same_on _ _ _ c.in_ok-id.ensures.adds.self c.in_ok-release.ensures.ok.self);
    }
