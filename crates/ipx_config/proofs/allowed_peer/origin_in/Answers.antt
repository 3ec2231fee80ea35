use Rattle.std.proofs.Common.{◌≡◌, ◌∙◌, ◌-◌, ℕ, Option, Some, None, List, length, take, drop, arith, subst, sym}
use Rattle.std.proofs.lemmas.List.{length-drop, take_all}
use Rattle.ipx_wire.specs.AddressText.{spelled_node}
use Rattle.ipx_wire.specs.declared.address.Node.{Node}
use Rattle.ipx_config.proofs.Naming.{no_network, no_node, places}
use Rattle.ipx_config.proofs.allowed_peer.origin_in.Goals as goal

pub returns-in_err-network : goal.returns-in_err-network
returns-in_err-network c =
    rw c.from_residual.ensures (no_network c.args.text.now (omega (arith, c.if-text-eq-NETWORK_DIGITS.true)) c.in_err-network.ensures)

pub returns-in_err-network-2 : goal.returns-in_err-network-2
returns-in_err-network-2 c =
    rw c.from_residual-in_err-network-2.ensures
    (no_node c.args.text.now (λ e. omega (arith, c.if-text-eq-NETWORK_DIGITS.false, e)) (λ n node w. c.in_err-network-2.ensures n (places c.args.text.now n node w).2))

pub returns-in_err-node : goal.returns-in_err-node
returns-in_err-node c =
    let text = c.args.text.now in
    let rest : take (length text - 9) (drop 9 text) ≡ drop 9 text = take_all (length text - 9) (drop 9 text) (omega (arith, length-drop 9 text)) in
    rw c.from_residual-in_err-node.ensures
    (no_node text (λ e. omega (arith, c.if-text-eq-NETWORK_DIGITS.false, e))
    (λ n node w.
    let other : ◌≡◌ {A = Option Node} None (Some node) = c.in_err-node.ensures ∙ subst (λ (l : List ℕ). spelled_node l ≡ Some node) (sym rest) (places text n node w).3 in
    absurd (cc)))
