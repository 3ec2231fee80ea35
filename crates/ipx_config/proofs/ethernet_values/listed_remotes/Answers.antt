use Rattle.std.proofs.Common.{◌≡◌, ◌∙◌, List, true, false, subst, sym}
use Rattle.std.specs.declared.net.socket_addr.SocketAddrV4.{SocketAddrV4}
use Rattle.toml.specs.View.{view}
use Rattle.ipx_config.specs.EthernetValues.{can_be_remotes}
use Rattle.ipx_config.proofs.WireEnds.{not_remotes}
use Rattle.ipx_config.proofs.ethernet_values.listed_remotes.Goals as goal

pub returns-in_default : goal.returns-in_default
returns-in_default c = λ a are.
    let reads = rw c.usual_udp_port.ensures at c.in_ok-ends.ensures in
    let none = rw c.in_default.is at reads in none a are.0

pub returns-then-can_be_remotes : goal.returns-then-can_be_remotes
returns-then-can_be_remotes c =
    let reads = rw c.usual_udp_port.ensures at c.in_ok-ends.ensures in
    let are = rw c.in-Some.is at reads in
    (are, subst (λ (it : List SocketAddrV4). can_be_remotes c.args.tunnel c.args.own it ≡ true) c.deref.ensures.value (sym c.can_be_remotes.ensures ∙ c.if-can_be_remotes.true))

pub returns-else-can_be_remotes : goal.returns-else-can_be_remotes
returns-else-can_be_remotes c =
    let reads = rw c.usual_udp_port.ensures at c.in_ok-ends.ensures in
    let are = rw c.in-Some.is at reads in
    not_remotes c.args.tunnel c.args.own (view c.args.value.now) c.in-Some.ends are
    (subst (λ (it : List SocketAddrV4). can_be_remotes c.args.tunnel c.args.own it ≡ false) c.deref.ensures.value (sym c.can_be_remotes.ensures ∙ c.if-can_be_remotes.false))
