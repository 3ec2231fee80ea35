use Rattle.std.proofs.Common.{◌≡◌, filter, length, arith, rules, ap, ◌∙◌}
use Rattle.std.proofs.lemmas.Fn.{filter_same}
use Rattle.std.proofs.lemmas.List.Sums.{length-filter}
use Rattle.ipxnet_server.specs.Flooders.{is_other_flooder}
use Rattle.ipxnet_server.proofs.flooders.Flooders.remember.Goals as goal

pub push_reserved-requires : goal.push_reserved-requires
push_reserved-requires c =
    let out = is_other_flooder c.args.place c.args.clock in
    let stay : c.retain.new.self.items ≡ filter out c.self.inside.known.items = filter_same _ out _ (λ x b f' k. search rules) _ _ c.retain.ensures.filtered in
    let few : length c.retain.new.self.items ≡ length (filter out c.args.self.now) = ap length stay ∙ ap (λ xs. length (filter out xs)) c.self.view_is in
    omega (arith, few, length-filter out c.args.self.now, c.requires, c.retain.ensures.capacity, c.self.invariant, c.retain.new.self.ok)

pub returns : goal.returns
returns c =
    let out = is_other_flooder c.args.place c.args.clock in
    let stay : c.retain.new.self.items ≡ filter out c.self.inside.known.items = filter_same _ out _ (λ x b f' k. search rules) _ _ c.retain.ensures.filtered in
    let stayed : c.retain.new.self.items ≡ filter out c.args.self.now = stay ∙ ap (λ xs. filter out xs) c.self.view_is in
    cc
