-- The ports of one kind among those seen so far, and one more after them.
use Rattle.std.proofs.Common.{◌≡◌, ◌∙◌, ◌+◌, ◌<◌, ◌≤◌, ℕ, List, [], ◌∷◌, ◌++◌, append-nil, append_assoc, ap, arith, get_or, length, length-append, map, refl, subst, suc, sym, take}
use Rattle.std.proofs.lemmas.List.{flat_map_more, map-append, take_more}
use Rattle.std.proofs.lemmas.List.Concat.{flat_map-append}
use Rattle.std.proofs.lemmas.List.Elements.{All-cons, All-nil}
use Rattle.std.specs.Prelude.{All}
use Rattle.std.specs.List.{flat_map}
use Rattle.ipx_site.specs.declared.router_ports.PortIndex.{PortIndex}
use Rattle.ipx_site.specs.declared.router_ports.PortIndex.TheVariants.{Datagrams, Ethernet, IpxnetServer}
use Rattle.ipx_config.specs.declared.site.EthernetPortConfig.{EthernetPortConfig}
use Rattle.ipx_config.specs.declared.ipxnet_port.IpxnetPortConfig.{IpxnetPortConfig}
use Rattle.ipx_config.specs.declared.site.PortConfig.{PortConfig}
use Rattle.ipx_config.specs.declared.site.PortConfig.TheVariants.{Rfc1234, Ipxnet}
use Rattle.ipx_config.specs.declared.site.PortConfig.TheVariants as configs
use Rattle.ipx_config.specs.declared.site.Rfc1234PortConfig.{Rfc1234PortConfig}
use Rattle.ipx_site.specs.RouterPorts.{fits}
use Rattle.ipx_config.specs.PortLists.{datagram_ports, datagrams_in, ipxnet_in, ipxnet_ports, ethernet_ports, ethernet_ports_in}
use Rattle.ipx_site.specs.KindPorts.{port_index_after, port_indices_after, port_indices_of}

module _ {S C : Type 0} (kind : PortConfig → List S) (f : S → C) (ports : List PortConfig) (i : ℕ) (port : PortConfig)
    (there : i < length ports) (is : port ≡ get_or ports i port) where
  seen_more : flat_map kind (take (i + 1) ports) ≡ flat_map kind (take i ports) ++ kind port
  seen_more =
      ap (flat_map kind) (take_more ports i port there) ∙ sym (flat_map_more kind [] (take i ports) (get_or ports i port))
      ∙ ap (λ p. flat_map kind (take i ports) ++ kind p) (sym is)

  -- a port of the kind follows those before
  pub one_of_kind : (before after : List C) (x : S) → kind port ≡ x ∷ [] → before ≡ map f (flat_map kind (take i ports))
      → after ≡ before ++ f x ∷ [] → after ≡ map f (flat_map kind (take (i + 1) ports))
  one_of_kind before after x of was now =
      now ∙ ap (λ cs. cs ++ f x ∷ []) was ∙ sym (map-append f (flat_map kind (take i ports)) (x ∷ []))
      ∙ ap (λ xs. map f (flat_map kind (take i ports) ++ xs)) (sym of) ∙ ap (map f) (sym seen_more)

  -- a port of another kind is not among them
  pub none_of_kind : (before : List C) → kind port ≡ [] → before ≡ map f (flat_map kind (take i ports))
      → before ≡ map f (flat_map kind (take (i + 1) ports))
  none_of_kind before of was =
      was ∙ ap (map f) (sym (append-nil (flat_map kind (take i ports))) ∙ ap (λ xs. flat_map kind (take i ports) ++ xs) (sym of) ∙ sym seen_more)

-- the index of one more port
port_indices_more : (earlier xs : List PortConfig) (x : PortConfig) → port_indices_after earlier (xs ++ x ∷ []) ≡ port_indices_after earlier xs ++ port_index_after (earlier ++ xs) x ∷ []
port_indices_more earlier [] x = ap (λ e. port_index_after e x ∷ []) (sym (append-nil earlier))
port_indices_more earlier (y ∷ ys) x =
    ap (λ ss. port_index_after earlier y ∷ ss) (port_indices_more (earlier ++ y ∷ []) ys x ∙ ap (λ e. port_indices_after (earlier ++ y ∷ []) ys ++ port_index_after e x ∷ []) (append_assoc earlier (y ∷ []) ys))

pub one_more_port_index : (ports : List PortConfig) (i : ℕ) (port : PortConfig) (before after : List PortIndex) (s : PortIndex) → i < length ports → port ≡ get_or ports i port
    → before ≡ port_indices_of (take i ports) → after ≡ before ++ s ∷ [] → s ≡ port_index_after (take i ports) port → after ≡ port_indices_of (take (i + 1) ports)
one_more_port_index ports i port before after s there is was now at =
    now ∙ ap (λ ss. ss ++ s ∷ []) was ∙ ap (λ s. port_indices_of (take i ports) ++ s ∷ []) at ∙ sym (port_indices_more [] (take i ports) port)
    ∙ ap (λ p. port_indices_of (take i ports ++ p ∷ [])) is ∙ ap port_indices_of (sym (take_more ports i port there))

-- the indices of the ports seen so far, and how many there are of each kind
abbrev pub AreSeen : List PortConfig → ℕ → List PortIndex → ℕ → ℕ → ℕ → Type 0
AreSeen ports i port_indices datagrams ethernet servers = (port_indices ≡ port_indices_of (take i ports)) × (datagrams ≡ length (datagram_ports (take i ports)))
    × (ethernet ≡ length (ethernet_ports (take i ports))) × (servers ≡ length (ipxnet_ports (take i ports)))
    × (datagrams ≤ i) × (ethernet ≤ i) × (servers ≤ i)

module _ (ports : List PortConfig) (i : ℕ) (port : PortConfig) (there : i < length ports) (is : port ≡ get_or ports i port)
    (before after : List PortIndex) (d d' w w' l l' : ℕ) (seen : AreSeen ports i before d w l) where
  counted_more : {S : Type 0} (kind : PortConfig → List S) → length (flat_map kind (take (i + 1) ports)) ≡ length (flat_map kind (take i ports)) + length (kind port)
  counted_more kind = ap length (seen_more kind (λ x. x) ports i port there is) ∙ length-append (flat_map kind (take i ports)) (kind port)

  -- one more of a kind, and none of the others
  more_of : {S : Type 0} (kind : PortConfig → List S) (n n' : ℕ) → n ≡ length (flat_map kind (take i ports)) → length (kind port) ≡ 1 → n' ≡ n + 1 → n' ≡ length (flat_map kind (take (i + 1) ports))
  more_of kind n n' was one more = omega (arith, more, was, counted_more kind, one)

  same_of : {S : Type 0} (kind : PortConfig → List S) (n n' : ℕ) → n ≡ length (flat_map kind (take i ports)) → length (kind port) ≡ 0 → n' ≡ n → n' ≡ length (flat_map kind (take (i + 1) ports))
  same_of kind n n' was none same = omega (arith, same, was, counted_more kind, none)

  pub seen_datagrams : (p : Rfc1234PortConfig) → port ≡ Rfc1234 p → after ≡ before ++ Datagrams d ∷ [] → d' ≡ d + 1 → w' ≡ w → l' ≡ l → AreSeen ports (i + 1) after d' w' l'
  seen_datagrams p at now more same still = (
    one_more_port_index ports i port before after (Datagrams d) there is seen.0 now (ap Datagrams seen.1 ∙ sym (ap (port_index_after (take i ports)) at)),
    more_of datagrams_in d d' seen.1 (ap (λ (q : PortConfig). length (datagrams_in q)) at) more,
    same_of ethernet_ports_in w w' seen.2 (ap (λ (q : PortConfig). length (ethernet_ports_in q)) at) same,
    same_of ipxnet_in l l' seen.3 (ap (λ (q : PortConfig). length (ipxnet_in q)) at) still,
    omega (arith, more, seen.4),
    omega (arith, same, seen.5),
    omega (arith, still, seen.6),
  )

  pub seen_ethernet : (p : EthernetPortConfig) → port ≡ configs.Ethernet p → after ≡ before ++ Ethernet w ∷ [] → d' ≡ d → w' ≡ w + 1 → l' ≡ l → AreSeen ports (i + 1) after d' w' l'
  seen_ethernet p at now same more still = (
    one_more_port_index ports i port before after (Ethernet w) there is seen.0 now (ap Ethernet seen.2 ∙ sym (ap (port_index_after (take i ports)) at)),
    same_of datagrams_in d d' seen.1 (ap (λ (q : PortConfig). length (datagrams_in q)) at) same,
    more_of ethernet_ports_in w w' seen.2 (ap (λ (q : PortConfig). length (ethernet_ports_in q)) at) more,
    same_of ipxnet_in l l' seen.3 (ap (λ (q : PortConfig). length (ipxnet_in q)) at) still,
    omega (arith, same, seen.4),
    omega (arith, more, seen.5),
    omega (arith, still, seen.6),
  )

  pub seen_server : (p : IpxnetPortConfig) → port ≡ Ipxnet p → after ≡ before ++ IpxnetServer l ∷ [] → d' ≡ d → w' ≡ w → l' ≡ l + 1 → AreSeen ports (i + 1) after d' w' l'
  seen_server p at now same still more = (
    one_more_port_index ports i port before after (IpxnetServer l) there is seen.0 now (ap IpxnetServer seen.3 ∙ sym (ap (port_index_after (take i ports)) at)),
    same_of datagrams_in d d' seen.1 (ap (λ (q : PortConfig). length (datagrams_in q)) at) same,
    same_of ethernet_ports_in w w' seen.2 (ap (λ (q : PortConfig). length (ethernet_ports_in q)) at) still,
    more_of ipxnet_in l l' seen.3 (ap (λ (q : PortConfig). length (ipxnet_in q)) at) more,
    omega (arith, same, seen.4),
    omega (arith, still, seen.5),
    omega (arith, more, seen.6),
  )

-- a port's index is valid among the ports of its kind
abbrev pub FitAmong : List PortConfig → PortIndex → Type 0
FitAmong ports port_index = fits (length (datagram_ports ports)) (length (ethernet_ports ports)) (length (ipxnet_ports ports)) port_index

-- the index of each port seen so far is valid among all ports
fits_there : (earlier : List PortConfig) (x : PortConfig) (xs : List PortConfig) → FitAmong (earlier ++ x ∷ xs) (port_index_after earlier x)
fits_there earlier (Rfc1234 p) xs =
    omega (arith, ap length (flat_map-append datagrams_in earlier (Rfc1234 p ∷ xs)), length-append (datagram_ports earlier) (datagram_ports (Rfc1234 p ∷ xs)))
fits_there earlier (configs.Ethernet p) xs =
    omega (arith, ap length (flat_map-append ethernet_ports_in earlier (configs.Ethernet p ∷ xs)), length-append (ethernet_ports earlier) (ethernet_ports (configs.Ethernet p ∷ xs)))
fits_there earlier (Ipxnet p) xs =
    omega (arith, ap length (flat_map-append ipxnet_in earlier (Ipxnet p ∷ xs)), length-append (ipxnet_ports earlier) (ipxnet_ports (Ipxnet p ∷ xs)))

fit_after : (earlier xs : List PortConfig) → All (FitAmong (earlier ++ xs)) (port_indices_after earlier xs)
fit_after earlier [] = All-nil (FitAmong (earlier ++ []))
fit_after earlier (x ∷ xs) =
    let all : List PortConfig = earlier ++ x ∷ xs in
    let rest : All (FitAmong all) (port_indices_after (earlier ++ x ∷ []) xs) =
    subst (λ (ps : List PortConfig). All (FitAmong ps) (port_indices_after (earlier ++ x ∷ []) xs)) (append_assoc earlier (x ∷ []) xs) (fit_after (earlier ++ x ∷ []) xs) in
    All-cons (FitAmong all) (port_index_after earlier x) (port_indices_after (earlier ++ x ∷ []) xs) (fits_there earlier x xs) rest

pub all_fit : (ports : List PortConfig) (port_indices : List PortIndex) (n m k : ℕ) → port_indices ≡ port_indices_of ports → n ≡ length (datagram_ports ports) → m ≡ length (ethernet_ports ports) → k ≡ length (ipxnet_ports ports) → All (fits n m k) port_indices
all_fit ports port_indices n m k is e f h = rw (is, e, f, h) (fit_after [] ports)

-- each has one
pub as_many_port_indices : (earlier xs : List PortConfig) → length (port_indices_after earlier xs) ≡ length xs
as_many_port_indices earlier [] = refl
as_many_port_indices earlier (x ∷ xs) = ap suc (as_many_port_indices (earlier ++ x ∷ []) xs)
