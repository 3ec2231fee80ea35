-- Asking a port at its index asks the port, and the ports of a file have distinct indices.
use Rattle.std.proofs.Common.{get_or, Result, Ok, Err, ◌≡◌, ◌∙◌, ◌+◌, ◌<◌, ◌≤◌, ◌==◌, ℕ, zero, suc, Bool, true, false, cond, List, [], ◌∷◌, ◌++◌, Option, Some, None, unwrap_or, is_some, ap, arith, eq-eqb, eqb-true, ne_eqb, length, length-append, refl, slice_get, subst, sym, true≢false}
use Rattle.std.proofs.lemmas.List.Sums.{sum_by-cons}
use Rattle.std.proofs.lemmas.Option.{slice_get_read}
use Rattle.std.proofs.lemmas.List.Concat.{flat_map-append}
use Rattle.std.specs.Prelude.{IfOk, IfSome, OnErr, count_by}
use Rattle.ipx_carrier.specs.Readiness.{AsksPortWithMark, MarksStay, Readiness}
use Rattle.ipx_site.specs.declared.router_ports.PortIndex.{PortIndex}
use Rattle.ipx_site.specs.declared.router_ports.PortIndex.TheVariants.{Datagrams, Ethernet, IpxnetServer}
use Rattle.ipx_config.specs.declared.site.PortConfig.{PortConfig}
use Rattle.ipx_config.specs.declared.site.PortConfig.TheVariants.{Rfc1234, Ipxnet}
use Rattle.ipx_config.specs.declared.site.PortConfig.TheVariants as configs
use Rattle.ipx_config.specs.PortLists.{datagram_ports, datagrams_in, ethernet_ports, ethernet_ports_in, ipxnet_in, ipxnet_ports}
use Rattle.ipx_site.specs.KindPorts.{port_index_after, port_indices_after, port_indices_of}
use Rattle.ipx_site.specs.RouterMarks.{AreIndicesDistinct, is_same_index, mark_at_index, mark_of_kind, marked_by_kind}
use Rattle.ipx_site.specs.RouterPorts.{count_at, port_index_place}

same_self : (i : PortIndex) → is_same_index i i ≡ true
same_self (Datagrams k) = eq-eqb k k refl
same_self (Ethernet k) = eq-eqb k k refl
same_self (IpxnetServer k) = eq-eqb k k refl

module _ (f : PortIndex → Bool) where
  one_more : (x : PortIndex) (xs : List PortIndex) → f x ≡ true → count_by f (x ∷ xs) ≡ 1 + count_by f xs
  one_more x xs is = sum_by-cons (λ y. cond (f y) 1 0) x xs ∙ ap (λ b. cond b 1 0 + count_by f xs) is

  no_more : (x : PortIndex) (xs : List PortIndex) → f x ≡ false → count_by f (x ∷ xs) ≡ count_by f xs
  no_more x xs isnt = let none = ap (λ b. cond {A = ℕ} b 1 0) isnt in omega (arith, none, sum_by-cons (λ y. cond (f y) 1 0) x xs)

  no_fewer : (x : PortIndex) (xs : List PortIndex) → count_by f xs ≤ count_by f (x ∷ xs)
  no_fewer x xs = omega (arith, sum_by-cons (λ y. cond (f y) 1 0) x xs)

  found_one : (xs : List PortIndex) (q : ℕ) (j : PortIndex) → slice_get xs q ≡ Some j → f j ≡ true → 1 ≤ count_by f xs
  found_one [] q j at is = absurd (true≢false (ap is_some (sym at)))
  found_one (x ∷ xs) zero j at is = let e : x ≡ j = ap (λ (o : Option PortIndex). unwrap_or o x) at in omega (arith, one_more x xs (ap f e ∙ is))
  found_one (x ∷ xs) (suc q) j at is = let before = found_one xs q j at is in let more = no_fewer x xs in omega (arith, before, more)

  -- two ports with such an index
  found_two : (xs : List PortIndex) (p q : ℕ) (i j : PortIndex) → slice_get xs p ≡ Some i → slice_get xs q ≡ Some j → f i ≡ true → f j ≡ true
      → (q ≡ p → ⊥) → 2 ≤ count_by f xs
  found_two [] p q i j at there is too other = absurd (true≢false (ap is_some (sym at)))
  found_two (x ∷ xs) zero zero i j at there is too other = absurd (other refl)
  found_two (x ∷ xs) zero (suc q) i j at there is too other =
      let e : x ≡ i = ap (λ (o : Option PortIndex). unwrap_or o x) at in
      let rest = found_one xs q j there too in omega (arith, rest, one_more x xs (ap f e ∙ is))
  found_two (x ∷ xs) (suc p) zero i j at there is too other =
      let e : x ≡ j = ap (λ (o : Option PortIndex). unwrap_or o x) there in
      let rest = found_one xs p i at is in omega (arith, rest, one_more x xs (ap f e ∙ too))
  found_two (x ∷ xs) (suc p) (suc q) i j at there is too other =
      let rest = found_two xs p q i j at there is too (λ e. other (ap suc e)) in let more = no_fewer x xs in omega (arith, rest, more)

-- by whether a port alone has its index
same_either : (b x y : Bool) → (b ≡ true → x ≡ y) → cond b x true ≡ cond b y true
same_either false x y h = refl
same_either true x y h = h refl

true_either : (b x y : Bool) → (x ≡ true → y ≡ true) → cond b x true ≡ true → cond b y true ≡ true
true_either false x y h e = refl
true_either true x y h e = h e

is_either : (b x : Bool) → x ≡ true → cond b x true ≡ true
is_either false x e = refl
is_either true x e = e

module _ (m n : PortIndex → Bool) (xs : List PortIndex) (p : ℕ) (i : PortIndex) (came : Bool) (at : slice_get xs p ≡ Some i)
    (frame : (j : PortIndex) → (j ≡ i → ⊥) → n j ≡ m j) (asked : n i ≡ true → m i ≡ true) (kept : came ≡ true → n i ≡ true) where
  other_port : (q : ℕ) → (q ≡ p → ⊥) → (o : Option PortIndex) → slice_get xs q ≡ o → mark_at_index n xs o ≡ mark_at_index m xs o
  other_port q other None there = refl
  other_port q other (Some j) there = same_either (count_by (is_same_index j) xs == 1) (n j) (m j) (λ is. frame j (λ same.
      let two = found_two (is_same_index j) xs p q i j at there (subst (λ k. is_same_index j k ≡ true) same (same_self j)) (same_self j) other in
      let one = eqb-true (count_by (is_same_index j) xs) 1 is in omega (arith, two, one)))

  pub asks_index : AsksPortWithMark p came (λ q. mark_at_index m xs (slice_get xs q)) (λ q. mark_at_index n xs (slice_get xs q))
  asks_index = (
    (λ q other. other_port q other (slice_get xs q) refl),
    (λ h. subst (λ o. mark_at_index m xs o ≡ true) (sym at) (true_either (count_by (is_same_index i) xs == 1) (n i) (m i) asked (subst (λ o. mark_at_index n xs o ≡ true) at h))),
    λ is. subst (λ o. mark_at_index n xs o ≡ true) (sym at) (is_either (count_by (is_same_index i) xs == 1) (n i) (kept is)),
  )

module _ (d w l e : Readiness) (k : ℕ) where
  frame_datagrams : ((n : ℕ) → (n ≡ k → ⊥) → e n ≡ d n) → (j : PortIndex) → (j ≡ Datagrams k → ⊥) → mark_of_kind e w l j ≡ mark_of_kind d w l j
  frame_datagrams h (Datagrams n) other = h n (λ same. other (ap Datagrams same))
  frame_datagrams h j other = refl

  frame_ethernet : ((n : ℕ) → (n ≡ k → ⊥) → e n ≡ w n) → (j : PortIndex) → (j ≡ Ethernet k → ⊥) → mark_of_kind d e l j ≡ mark_of_kind d w l j
  frame_ethernet h (Ethernet n) other = h n (λ same. other (ap Ethernet same))
  frame_ethernet h j other = refl

  frame_servers : ((n : ℕ) → (n ≡ k → ⊥) → e n ≡ l n) → (j : PortIndex) → (j ≡ IpxnetServer k → ⊥) → mark_of_kind d w e j ≡ mark_of_kind d w l j
  frame_servers h (IpxnetServer n) other = h n (λ same. other (ap IpxnetServer same))
  frame_servers h j other = refl

  module _ (xs : List PortIndex) (p : ℕ) (came : Bool) where
    pub asks_datagrams : slice_get xs p ≡ Some (Datagrams k) → AsksPortWithMark k came d e
        → AsksPortWithMark p came (marked_by_kind d w l xs) (marked_by_kind e w l xs)
    asks_datagrams at asks = asks_index (mark_of_kind d w l) (mark_of_kind e w l) xs p (Datagrams k) came at (frame_datagrams asks.0) asks.1 asks.2

    pub asks_ethernet : slice_get xs p ≡ Some (Ethernet k) → AsksPortWithMark k came w e
        → AsksPortWithMark p came (marked_by_kind d w l xs) (marked_by_kind d e l xs)
    asks_ethernet at asks = asks_index (mark_of_kind d w l) (mark_of_kind d e l) xs p (Ethernet k) came at (frame_ethernet asks.0) asks.1 asks.2

    pub asks_servers : slice_get xs p ≡ Some (IpxnetServer k) → AsksPortWithMark k came l e
        → AsksPortWithMark p came (marked_by_kind d w l xs) (marked_by_kind d w e xs)
    asks_servers at asks = asks_index (mark_of_kind d w l) (mark_of_kind d w e) xs p (IpxnetServer k) came at (frame_servers asks.0) asks.1 asks.2

-- what is there at a port
pub index_there : (xs : List PortIndex) (p : ℕ) (i j : PortIndex) → p < length xs → i ≡ get_or xs p i → i ≡ j → slice_get xs p ≡ Some j
index_there xs p i j there is same = slice_get_read xs (length xs) p i refl there is ∙ ap Some same

module _ {E : Type 0} (d w l e : Readiness) (k : ℕ) (xs : List PortIndex) (p : ℕ) where
  pub hears_datagrams : (r : Result (Option ℕ) E) → slice_get xs p ≡ Some (Datagrams k) → IfOk r (λ c. AsksPortWithMark k (is_some c) d e)
      → IfOk r (λ c. AsksPortWithMark p (is_some c) (marked_by_kind d w l xs) (marked_by_kind e w l xs))
  hears_datagrams (Ok c) at h = asks_datagrams d w l e k xs p (is_some c) at h
  hears_datagrams (Err x) at h = tt

  pub hears_ethernet : (r : Result (Option ℕ) E) → slice_get xs p ≡ Some (Ethernet k) → IfOk r (λ c. AsksPortWithMark k (is_some c) w e)
      → IfOk r (λ c. AsksPortWithMark p (is_some c) (marked_by_kind d w l xs) (marked_by_kind d e l xs))
  hears_ethernet (Ok c) at h = asks_ethernet d w l e k xs p (is_some c) at h
  hears_ethernet (Err x) at h = tt

  pub hears_servers : (r : Result (Option ℕ) E) → slice_get xs p ≡ Some (IpxnetServer k) → IfOk r (λ c. AsksPortWithMark k (is_some c) l e)
      → IfOk r (λ c. AsksPortWithMark p (is_some c) (marked_by_kind d w l xs) (marked_by_kind d w e xs))
  hears_servers (Ok c) at h = asks_servers d w l e k xs p (is_some c) at h
  hears_servers (Err x) at h = tt

-- if the marks of each kind stay, those of the ports do
module _ (d w l d' w' l' : Readiness) (xs : List PortIndex) (ds : MarksStay d d') (ws : MarksStay w w') (ls : MarksStay l l') where
  stays_of : (i : PortIndex) → mark_of_kind d' w' l' i ≡ mark_of_kind d w l i
  stays_of (Datagrams k) = ds k
  stays_of (Ethernet k) = ws k
  stays_of (IpxnetServer k) = ls k

  stays_at : (o : Option PortIndex) → mark_at_index (mark_of_kind d' w' l') xs o ≡ mark_at_index (mark_of_kind d w l) xs o
  stays_at None = refl
  stays_at (Some i) = ap (λ b. cond (count_by (is_same_index i) xs == 1) b true) (stays_of i)

  pub all_stay : MarksStay (marked_by_kind d w l xs) (marked_by_kind d' w' l' xs)
  all_stay port = stays_at (slice_get xs port)

-- how many ports of the kind of an index come first
abbrev counted_for : List PortConfig → PortIndex → ℕ
counted_for earlier i = count_at (length (datagram_ports earlier)) (length (ethernet_ports earlier)) (length (ipxnet_ports earlier)) i

-- one more port of a kind, and no fewer of others
no_fewer_ports : (earlier : List PortConfig) (x : PortConfig) (i : PortIndex) → counted_for earlier i ≤ counted_for (earlier ++ x ∷ []) i
no_fewer_ports earlier x (Datagrams k) = omega (arith, ap length (flat_map-append datagrams_in earlier (x ∷ [])), length-append (datagram_ports earlier) (datagram_ports (x ∷ [])))
no_fewer_ports earlier x (Ethernet k) = omega (arith, ap length (flat_map-append ethernet_ports_in earlier (x ∷ [])), length-append (ethernet_ports earlier) (ethernet_ports (x ∷ [])))
no_fewer_ports earlier x (IpxnetServer k) = omega (arith, ap length (flat_map-append ipxnet_in earlier (x ∷ [])), length-append (ipxnet_ports earlier) (ipxnet_ports (x ∷ [])))

own_counted : (earlier : List PortConfig) (x : PortConfig) → port_index_place (port_index_after earlier x) < counted_for (earlier ++ x ∷ []) (port_index_after earlier x)
own_counted earlier (Rfc1234 p) = omega (arith, ap length (flat_map-append datagrams_in earlier (Rfc1234 p ∷ [])), length-append (datagram_ports earlier) (datagram_ports (Rfc1234 p ∷ [])))
own_counted earlier (configs.Ethernet p) = omega (arith, ap length (flat_map-append ethernet_ports_in earlier (configs.Ethernet p ∷ [])), length-append (ethernet_ports earlier) (ethernet_ports (configs.Ethernet p ∷ [])))
own_counted earlier (Ipxnet p) = omega (arith, ap length (flat_map-append ipxnet_in earlier (Ipxnet p ∷ [])), length-append (ipxnet_ports earlier) (ipxnet_ports (Ipxnet p ∷ [])))

-- the index of the next port is not one of those below
differs : (earlier : List PortConfig) (x : PortConfig) (i : PortIndex) → port_index_place i < counted_for earlier i → is_same_index i (port_index_after earlier x) ≡ false
differs earlier (Rfc1234 p) (Datagrams k) below = ne_eqb k (length (datagram_ports earlier)) (λ e. omega (arith, e, below))
differs earlier (configs.Ethernet p) (Ethernet k) below = ne_eqb k (length (ethernet_ports earlier)) (λ e. omega (arith, e, below))
differs earlier (Ipxnet p) (IpxnetServer k) below = ne_eqb k (length (ipxnet_ports earlier)) (λ e. omega (arith, e, below))
differs earlier p i below = refl

none_later : (earlier ports : List PortConfig) (i : PortIndex) → port_index_place i < counted_for earlier i → count_by (is_same_index i) (port_indices_after earlier ports) ≡ 0
none_later earlier [] i below = refl
none_later earlier (x ∷ ports) i below =
    let more = no_fewer_ports earlier x i in
    no_more (is_same_index i) (port_index_after earlier x) (port_indices_after (earlier ++ x ∷ []) ports) (differs earlier x i below)
    ∙ none_later (earlier ++ x ∷ []) ports i (omega (arith, more, below))

-- the indices of later ports are not below
own_place : (earlier : List PortConfig) (x : PortConfig) → counted_for earlier (port_index_after earlier x) ≤ port_index_place (port_index_after earlier x)
own_place earlier (Rfc1234 p) = omega arith
own_place earlier (configs.Ethernet p) = omega arith
own_place earlier (Ipxnet p) = omega arith

not_below : (earlier ports : List PortConfig) (n : ℕ) (i : PortIndex) → slice_get (port_indices_after earlier ports) n ≡ Some i → counted_for earlier i ≤ port_index_place i
not_below earlier [] n i at = absurd (true≢false (ap is_some (sym at)))
not_below earlier (x ∷ ports) zero i at =
    let e : port_index_after earlier x ≡ i = ap (λ (o : Option PortIndex). unwrap_or o (port_index_after earlier x)) at in
    subst (λ (j : PortIndex). counted_for earlier j ≤ port_index_place j) e (own_place earlier x)
not_below earlier (x ∷ ports) (suc n) i at =
    let rest = not_below (earlier ++ x ∷ []) ports n i at in let more = no_fewer_ports earlier x i in omega (arith, rest, more)

-- an index that is another's is that
same_is : (i j : PortIndex) → is_same_index i j ≡ true → i ≡ j
same_is (Datagrams k) (Datagrams n) is = ap Datagrams (eqb-true k n is)
same_is (Ethernet k) (Ethernet n) is = ap Ethernet (eqb-true k n is)
same_is (IpxnetServer k) (IpxnetServer n) is = ap IpxnetServer (eqb-true k n is)
same_is i j is = absurd (true≢false (sym is))

is_another : (earlier : List PortConfig) (x : PortConfig) (i : PortIndex) (b : Bool) → is_same_index i (port_index_after earlier x) ≡ b
    → counted_for (earlier ++ x ∷ []) i ≤ port_index_place i → b ≡ false
is_another earlier x i false e above = refl
is_another earlier x i true e above =
    let below = own_counted earlier x in
    let there = subst (λ (j : PortIndex). counted_for (earlier ++ x ∷ []) j ≤ port_index_place j) (same_is i (port_index_after earlier x) e) above in
    absurd (omega (arith, below, there))

found_alone : (earlier ports : List PortConfig) (n : ℕ) (i : PortIndex) → slice_get (port_indices_after earlier ports) n ≡ Some i → count_by (is_same_index i) (port_indices_after earlier ports) ≡ 1
found_alone earlier [] n i at = absurd (true≢false (ap is_some (sym at)))
found_alone earlier (x ∷ ports) zero i at =
    let own : PortIndex = port_index_after earlier x in
    let rest : List PortIndex = port_indices_after (earlier ++ x ∷ []) ports in
    let e : own ≡ i = ap (λ (o : Option PortIndex). unwrap_or o own) at in
    subst (λ (j : PortIndex). count_by (is_same_index j) (own ∷ rest) ≡ 1) e
    (one_more (is_same_index own) own rest (same_self own) ∙ ap (λ n. 1 + n) (none_later (earlier ++ x ∷ []) ports own (own_counted earlier x)))
found_alone earlier (x ∷ ports) (suc n) i at =
    let own : PortIndex = port_index_after earlier x in
    no_more (is_same_index i) own (port_indices_after (earlier ++ x ∷ []) ports)
    (is_another earlier x i (is_same_index i own) refl (not_below (earlier ++ x ∷ []) ports n i at))
    ∙ found_alone (earlier ++ x ∷ []) ports n i at

distinct_at : (ports : List PortConfig) (port : ℕ) (o : Option PortIndex) → slice_get (port_indices_of ports) port ≡ o
    → IfSome o (λ index. count_by (is_same_index index) (port_indices_of ports) ≡ 1)
distinct_at ports port None e = tt
distinct_at ports port (Some index) e = found_alone [] ports port index e

pub distinct : (ports : List PortConfig) → AreIndicesDistinct (port_indices_of ports)
distinct ports port = distinct_at ports port (slice_get (port_indices_of ports) port) refl
