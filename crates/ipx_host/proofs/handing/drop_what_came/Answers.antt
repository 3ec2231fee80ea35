use Rattle.std.proofs.Common.{◌≡◌, ◌<◌, ◌∙◌, ◌+◌, true, false, arith, refl, rules}
use Rattle.std.proofs.lemmas.Grind.{common_steps}
use Rattle.spx_messages.specs.EndpointView.{held_at}
use Rattle.ipx_host.proofs.Dialed.{same_on, same_self}
use Rattle.ipx_host.proofs.Dropped.{no_more, one_more, so_far}
use Rattle.ipx_host.proofs.Fed.{keeps_on, keeps_same}
use Rattle.ipx_host.proofs.handing.drop_what_came.Goals as goal

pub loop-init : goal.loop-init
loop-init c = record { so = so_far (held_at c.args.endpoint.now c.args.id); queue = keeps_same (held_at c.args.endpoint.now c.args.id); others = λ q other. refl; last = refl; count = refl; self = same_self c.args.endpoint.now }

pub loop-preserved : goal.loop-preserved
loop-preserved c =
    let o = held_at c.args.endpoint.now c.args.id in
    let a = held_at c.loop.endpoint c.args.id in
    let b = held_at c.drop_first.new.endpoint c.args.id in
    let yes : c.drop_first.result ≡ true = first_of (search rules, grind (arith, common_steps)) in
    record {
      so = one_more c.loop.counter (c.loop.counter + 1) o a b c.drop_first.result refl yes c.loop.invariant.so c.drop_first.ensures.drops c.drop_first.ensures.none;
      queue = keeps_on o a b c.loop.invariant.queue c.drop_first.ensures.queue;
      others = λ q other. c.drop_first.ensures.others q other ∙ c.loop.invariant.others q other;
      last = c.drop_first.ensures.last ∙ c.loop.invariant.last;
      count = c.drop_first.ensures.count ∙ c.loop.invariant.count;
      self = same_on c.args.endpoint.now c.loop.endpoint c.drop_first.new.endpoint c.loop.invariant.self c.drop_first.ensures.host;
    }

pub returns-then-not-drop_first : goal.returns-then-not-drop_first
returns-then-not-drop_first c =
    let o = held_at c.args.endpoint.now c.args.id in
    let a = held_at c.loop.endpoint c.args.id in
    let b = held_at c.drop_first.new.endpoint c.args.id in
    let no : c.drop_first.result ≡ false = first_of (search rules, grind (arith, common_steps)) in
    let few : c.loop.counter < 65535 = first_of (search rules, omega arith, grind (arith, common_steps)) in
    record {
      drops = no_more c.loop.counter o a b c.drop_first.result few no c.loop.invariant.so c.drop_first.ensures.stops c.drop_first.ensures.queue;
      queue = keeps_on o a b c.loop.invariant.queue c.drop_first.ensures.queue;
      others = λ q other. c.drop_first.ensures.others q other ∙ c.loop.invariant.others q other;
      last = c.drop_first.ensures.last ∙ c.loop.invariant.last;
      count = c.drop_first.ensures.count ∙ c.loop.invariant.count;
      self = same_on c.args.endpoint.now c.loop.endpoint c.drop_first.new.endpoint c.loop.invariant.self c.drop_first.ensures.host;
    }
