use Rattle.std.proofs.Common.{◌≡◌, Option, Some, None, ap, ◌∙◌}
use Rattle.std.specs.declared.net.socket_addr.SocketAddrV4.{SocketAddrV4}
use Rattle.ipx_wire.specs.AddressText.{spelled_network}
use Rattle.ipx_wire.specs.declared.address.Network.{Network}
use Rattle.ipx_table_dump.specs.declared.client_places.ClientPlace.{ClientPlace}
use Rattle.ipx_table_dump.specs.ClientsText.{ClientSpelled}
use Rattle.ipx_table_dump.proofs.ClientLines.{network_back}
use Rattle.ipx_table_dump.proofs.client_words.client_in.Goals as goal

none_of : {P : Type 0} (n : Network) (o : Option Network) → o ≡ None → o ≡ Some n → P
none_of n o e f = absurd (let no : ⊥ = cc in no)

joined : (c : ClientPlace) (n : Network) (p : SocketAddrV4) (o : Option Network) (q : Option SocketAddrV4) → o ≡ Some n → o ≡ Some c.network → q ≡ Some p → q ≡ Some c.place → Some (record { network = n; place = p }) ≡ Some c
joined c n p o q is told at said =
    let a : n ≡ c.network = cc in
    let b : p ≡ c.place = cc in
    ap (λ (m : Network). Some (record { network = m; place = p })) a ∙ ap (λ (r : SocketAddrV4). Some (record { network = c.network; place = r })) b

pub returns-in_err-network : goal.returns-in_err-network
returns-in_err-network c d fits same =
    let word = ap (λ (s : ClientSpelled). spelled_network s.network) same in
    none_of d.network c.from_hex.result c.in_err-network.was (c.from_hex.ensures ∙ word ∙ network_back d.network fits.0)

pub returns : goal.returns
returns c d fits same =
    let word = ap (λ (s : ClientSpelled). spelled_network s.network) same in
    joined d c.in_ok-network.network c.in_ok-place.place c.from_hex.result c.place_in.result c.in_ok-network.was (c.from_hex.ensures ∙ word ∙ network_back d.network fits.0) c.in_ok-place.was
    (c.place_in.ensures d.place fits.1 (ap (λ (s : ClientSpelled). s.place) same))
