-- What routers do meets the relation of steps of a network.
use Rattle.std.proofs.Common.{ℕ, zero, suc, ◌≡◌, ◌-◌, All, List, [], ◌∷◌, Some, sym, subst, arith}
use Rattle.std.specs.Prelude.{slice_get}
use Rattle.std.proofs.lemmas.List.Elements.{All-head, All-tail}
use Rattle.std.proofs.lemmas.Option.{get_or_from_slice_get, slice_get_within}
use Rattle.ipx_wire.specs.declared.address.Node.{Node}
use Rattle.ipx_router.specs.declared.port.Port.{Port}
use Rattle.ipx_router.specs.Forwarded.{ForwardsOneHopOn}
use Rattle.ipx_router.specs.NewRouter.{IsOwnNetwork}
use Rattle.ipx_router.specs.OutcomeView.{Forward}
use Rattle.ipx_router.specs.RouterPackets.{AreOwn, IsOwn, SendingView}
use Rattle.ipx_router.specs.Ports.{IsPort}
use Rattle.ipx_router.specs.RouterView.{RouterView}
use Rattle.spx_theory.specs.PacketsOnWay.{IsOneOn}
use Rattle.spx_theory.specs.Scan.{Each}
use Rattle.spx_theory.specs.Routers.{IsOwnLetter}
use Rattle.ipx_net.specs.RouterMembers.{letter_of, letters_of, network_of, port_at}

-- a packet that a router made itself is of no connection
pub own_letters : (router : ℕ) (ports : List Port) (sent : List SendingView) → AreOwn sent → Each IsOwnLetter (letters_of router ports sent)
own_letters router ports [] own k l = λ at. absurd (cc at)
own_letters router ports (s ∷ sent) own zero l = λ at.
    let same : letter_of router ports s ≡ l = cc at in
    subst IsOwnLetter same (let first : IsOwn s = All-head IsOwn s sent own in record { packet = first.packet; is = first.is; kind = first.no_spx })
own_letters router ports (s ∷ sent) own (suc k) l = λ at. own_letters router ports sent (All-tail IsOwn s sent own) k l at

port_is : (ports : List Port) (number : ℕ) (p : Port) → IsPort ports number p → port_at ports number ≡ Some p
port_is ports zero p is = absurd (omega (arith, is.0))
port_is ports (suc k) p is = let same : suc k - 1 ≡ k = omega arith in subst (λ j. slice_get ports j ≡ Some p) same is.1

get_all : {A : Type 0} (P : A → Type 0) (xs : List A) (k : ℕ) (x : A) → All P xs → slice_get xs k ≡ Some x → P x
get_all P xs k x all at = subst P (get_or_from_slice_get xs k x x at) (all k x (slice_get_within xs k x at))

-- what a router forwards is the packet with one hop more
pub carried_on : (r : RouterView) (number : ℕ) (bytes : List ℕ) (port : ℕ) (next : Node) (out : List ℕ) → All IsOwnNetwork r.ports
    → ForwardsOneHopOn r number bytes (Forward port next out) → IsOneOn (network_of (port_at r.ports number)) bytes out
carried_on r number bytes port next out networks (arrived, is_port, came, each) =
    let begins = came.1 in
    let on = each came.0 begins in
    let own : IsOwnNetwork arrived = get_all IsOwnNetwork r.ports _ arrived networks is_port.1 in
    subst (λ o. IsOneOn (network_of o) bytes out) (sym (port_is r.ports number arrived is_port))
    (record { packet = came.0; tail = begins.0; is = begins.1; hops = on.0; becomes = on.1.packet; network_is = own.0 })
