use Rattle.std.proofs.Common.{◌≡◌, ◌∙◌, List, ℕ, true, false, subst, sym}
use Rattle.std.specs.List.{list_all}
use Rattle.toml.specs.View.{view}
use Rattle.ipx_config.specs.Values.{is_peer}
use Rattle.ipx_config.proofs.Addresses.{not_routers}
use Rattle.ipx_config.proofs.values.routers_of.Goals as goal

pub returns-in_default : goal.returns-in_default
returns-in_default c = λ a are.
    let reads = c.in_ok-ips.ensures in
    let none = rw c.in_default.is at reads in none a are.0

pub returns-then-are_among : goal.returns-then-are_among
returns-then-are_among c =
    let reads = c.in_ok-ips.ensures in
    let are = rw c.in-Some.is at reads in
    (are, subst (λ (it : List (List ℕ)). list_all (is_peer c.args.peers.now) it ≡ true) c.deref.ensures.value (sym c.are_among.ensures ∙ c.if-are_among.true))

pub returns-else-are_among : goal.returns-else-are_among
returns-else-are_among c =
    let reads = c.in_ok-ips.ensures in
    let are = rw c.in-Some.is at reads in
    not_routers c.args.peers.now (view c.args.value.now) c.in-Some.ips are
    (subst (λ (it : List (List ℕ)). list_all (is_peer c.args.peers.now) it ≡ false) c.deref.ensures.value (sym c.are_among.ensures ∙ c.if-are_among.false))
