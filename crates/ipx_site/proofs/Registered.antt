-- who may register, with one peer more, and with one port more
use Rattle.std.proofs.Common.{◌≡◌, ◌∙◌, ℕ, suc, ◌+◌, ◌<◌, List, [], ◌∷◌, ◌++◌, length, map, take, get_or, Option, refl, sym, ap}
use Rattle.std.proofs.lemmas.List.{append-nil, append_assoc, flat_map_more, map-append, take_more}
use Rattle.ip_prefixes.specs.Prefixes.{one_address}
use Rattle.ip_prefixes.specs.declared.prefix.Prefix.{Prefix as IpPrefix}
use Rattle.ipx_config.specs.declared.ipxnet_port.IpxnetPortConfig.{IpxnetPortConfig}
use Rattle.ipx_config.specs.declared.ipxnet_port.Peer.{Peer}
use Rattle.ipx_config.specs.declared.site.PortConfig.{PortConfig}
use Rattle.ipx_config.specs.declared.site.PortConfig.TheVariants.{Rfc1234, Ipxnet}
use Rattle.ipx_config.specs.declared.site.PortConfig.TheVariants as configs
use Rattle.ipx_config.specs.PortLists.{ipxnet_in, ipxnet_ports}
use Rattle.ipx_site.specs.Registering.{AddsAddresses, AreOfPeer, AreOfPeers, MayRegister, MayRegisterAt}

pub of_one_more : (peers : List Peer) (peer : Peer) (ps own : List IpPrefix) → AreOfPeers peers ps → AreOfPeer peer own
    → AreOfPeers (peers ++ peer ∷ []) (ps ++ own)
of_one_more [] peer ps own none is = (own, [], ap (λ it. it ++ own) none ∙ sym (append-nil own), is, refl)
of_one_more (p ∷ peers) peer ps own (first, rest, are, one, more) is =
    (first, rest ++ own, ap (λ it. it ++ own) are ∙ append_assoc first rest own, one, of_one_more peers peer rest own more is)

pub at_one_more : (ps : List IpxnetPortConfig) (p : IpxnetPortConfig) (lists : List (Option (List IpPrefix))) (one : Option (List IpPrefix))
    → MayRegisterAt ps lists → MayRegister p one → MayRegisterAt (ps ++ p ∷ []) (lists ++ one ∷ [])
at_one_more [] p lists one none may = (one, [], ap (λ it. it ++ one ∷ []) none, may, refl)
at_one_more (q ∷ ps) p lists one (first, rest, are, is, more) may =
    (first, rest ++ one ∷ [], ap (λ it. it ++ one ∷ []) are, is, at_one_more ps p rest one more may)

pub as_many_lists : (ps : List IpxnetPortConfig) (lists : List (Option (List IpPrefix))) → MayRegisterAt ps lists → length lists ≡ length ps
as_many_lists [] lists none = ap length none
as_many_lists (p ∷ ps) lists (first, rest, are, is, more) = ap length are ∙ ap suc (as_many_lists ps rest more)

-- the ipxnet ports among one port more
pub ports_more : (ports : List PortConfig) (i : ℕ) (d : PortConfig) → i < length ports
    → ipxnet_ports (take (i + 1) ports) ≡ ipxnet_ports (take i ports) ++ ipxnet_in (get_or ports i d)
ports_more ports i d there =
    ap ipxnet_ports (take_more ports i d there) ∙ sym (flat_map_more ipxnet_in [] (take i ports) (get_or ports i d))

pub no_ipxnet : (p : PortConfig) → ((it : IpxnetPortConfig) → p ≡ Ipxnet it → ⊥) → ipxnet_in p ≡ []
no_ipxnet (Rfc1234 p) not = refl
no_ipxnet (configs.Ethernet p) not = refl
no_ipxnet (Ipxnet p) not = absurd (not p refl)

-- one address more follows
pub adds_one : (old now new : List IpPrefix) (ip : List ℕ) → AddsAddresses old now → new ≡ now ++ one_address ip ∷ [] → AddsAddresses old new
adds_one old now new ip (ips, is) e = (
  ips ++ ip ∷ [],
  e ∙ ap (λ it. it ++ one_address ip ∷ []) is ∙ append_assoc old (map one_address ips) (one_address ip ∷ [])
      ∙ ap (λ it. old ++ it) (sym (map-append one_address ips (ip ∷ []))),
)
