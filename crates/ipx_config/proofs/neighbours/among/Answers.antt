use Rattle.std.proofs.Common.{Vec, ℕ, List, Option, ◌∙◌, ap, sym, subst}
use Rattle.std.specs.Global.{Global}
use Rattle.std.specs.List.{list_all}
use Rattle.toml.specs.View.{view}
use Rattle.ipx_config.specs.Neighbours.{AreNeighbours, ReadsList}
use Rattle.ipx_config.specs.Values.{is_peer}
use Rattle.ipx_config.proofs.Circles.{not_among}
use Rattle.ipx_config.proofs.neighbours.among.Goals as goal

pub returns-in_default : goal.returns-in_default
returns-in_default c = λ ips are.
    let none = subst (λ (o : Option (Vec (List ℕ) Global)). ReadsList AreNeighbours (view c.args.value.now) o) c.in_default.is c.in_ok-ips.ensures in
    none ips are.0

pub returns-then-are_among : goal.returns-then-are_among
returns-then-are_among c = (
  subst (λ (o : Option (Vec (List ℕ) Global)). ReadsList AreNeighbours (view c.args.value.now) o) c.in-Some.is c.in_ok-ips.ensures,
  ap (λ l. list_all (is_peer c.args.peers.now) l) (sym c.deref.ensures.value) ∙ sym c.are_among.ensures ∙ c.if-are_among.true,
)

pub returns-else-are_among : goal.returns-else-are_among
returns-else-are_among c =
    not_among c.args.peers.now (view c.args.value.now) c.in-Some.ips.items
    (subst (λ (o : Option (Vec (List ℕ) Global)). ReadsList AreNeighbours (view c.args.value.now) o) c.in-Some.is c.in_ok-ips.ensures)
    (ap (λ l. list_all (is_peer c.args.peers.now) l) (sym c.deref.ensures.value) ∙ sym c.are_among.ensures ∙ c.if-are_among.false)
