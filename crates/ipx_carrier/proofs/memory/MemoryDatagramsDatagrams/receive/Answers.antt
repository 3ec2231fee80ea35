use Rattle.std.proofs.Common.{Some, ap, map, refl, rules}
use Rattle.ipx_carrier.proofs.Waiting.{leaves_port, waits_still}
use Rattle.ipx_carrier.proofs.memory.MemoryDatagramsDatagrams.receive.Goals as goal

pub returns-in_default-clause-waiting : goal.returns-in_default-clause-waiting
returns-in_default-clause-waiting c =
    ap Some (waits_still c.args.self.now.waiting.items (λ q. map (λ v. v.items) q.items) c.args.port c.index_mut-waiting.result.now c.take_waiting.new.waiting c.index_mut-waiting.ensures.value (ap (map (λ v. v.items)) c.in_default.ensures.refused.1))

pub returns-in_default-clause-fails_to_receive : goal.returns-in_default-clause-fails_to_receive
returns-in_default-clause-fails_to_receive c = (
  search rules,
  waits_still c.args.self.now.waiting.items (λ q. map (λ v. v.items) q.items) c.args.port c.index_mut-waiting.result.now c.take_waiting.new.waiting c.index_mut-waiting.ensures.value (ap (map (λ v. v.items)) c.in_default.ensures.refused.1),
  search rules,
  (search rules, search rules),
)

pub returns-clause-leaves : goal.returns-clause-leaves
returns-clause-leaves c =
    leaves_port c.args.self.now.waiting.items (λ q. map (λ v. v.items) q.items) c.args.port c.index_mut-waiting.result.now c.take_waiting.new.waiting _ _ c.requires.there c.index_mut-waiting.ensures.value c.in-Ok.ensures.first c.in-Ok.ensures.left

pub returns-clause-receives : goal.returns-clause-receives
returns-clause-receives c = (
  (search rules, refl, (search rules, search rules)),
  leaves_port c.args.self.now.waiting.items (λ q. map (λ v. v.items) q.items) c.args.port c.index_mut-waiting.result.now c.take_waiting.new.waiting _ _ c.requires.there c.index_mut-waiting.ensures.value c.in-Ok.ensures.first c.in-Ok.ensures.left,
)
