-- which lists of IP addresses a value means: one at most
use Rattle.std.proofs.Common.{Vec, ◌≡◌, ◌≤◌, ◌<◌, Result, Ok, Err, ℕ, true, false, List, length, Option, Some, None, sym, ◌∙◌, subst, arith}
use Rattle.std.proofs.lemmas.Option.{same_Some}
use Rattle.std.specs.Global.{Global}
use Rattle.std.specs.List.{list_all}
use Rattle.std.specs.Prelude.{IfOk}
use Rattle.toml.specs.Data.{Data, Items, as_array}
use Rattle.toml.specs.View.{items_view}
use Rattle.toml.specs.declared.value.Value.{Value}
use Rattle.ipx_config.specs.Neighbours.{AreAmong, AreNeighbours, ReadsList}
use Rattle.ipx_config.specs.Values.{is_peer, AreEach, IsIpAddress, ReadsAddresses}
use Rattle.ipx_config.proofs.Addresses.{addresses_once}
use Rattle.ipx_config.proofs.Each.{as_many}

neighbours_once : (d : Data) (a b : List (List ℕ)) → AreNeighbours d a → AreNeighbours d b → a ≡ b
neighbours_once d a b (ds, is, one, few) (es, is', other, few') =
    let same : ds ≡ es = same_Some ds es (sym is ∙ is') in
    addresses_once es a b (subst (λ (it : Items). AreEach IsIpAddress it a) same one) other

-- a list of addresses has at most 256
pub too_many : (d : Data) (values : List Value) → as_array d ≡ Some (items_view values) → 256 < length values
    → (ips : List (List ℕ)) → AreNeighbours d ips → ⊥
too_many d values is many ips are =
    let same : are.0 ≡ items_view values = same_Some are.0 (items_view values) (sym are.1 ∙ is) in
    let all = as_many IsIpAddress values ips (subst (λ (ds : Items). AreEach IsIpAddress ds ips) same are.2) in
    absurd (omega (arith, all, many, are.3))

pub listed : {E : Type 0} (d : Data) (values : List Value) → as_array d ≡ Some (items_view values) → length values ≤ 256
    → (r : Result (Option (Vec (List ℕ) Global)) E) → IfOk r (ReadsAddresses (items_view values)) → IfOk r (ReadsList AreNeighbours d)
listed d values is few (Err e) reads = tt
listed d values is few (Ok None) reads = λ ips are.
    let same : are.0 ≡ items_view values = same_Some are.0 (items_view values) (sym are.1 ∙ is) in
    reads ips (subst (λ (ds : Items). AreEach IsIpAddress ds ips) same are.2)
listed d values is few (Ok (Some v)) reads =
    (items_view values, is, reads, omega (arith, as_many IsIpAddress values v.items reads, few))

-- one that is not among the peers has no other reading that is
pub not_among : (peers : List (List ℕ)) (d : Data) (ips : List (List ℕ)) → AreNeighbours d ips
    → list_all (is_peer peers) ips ≡ false → (others : List (List ℕ)) → AreAmong peers d others → ⊥
not_among peers d ips are none others (are', all) =
    let same : others ≡ ips = neighbours_once d others ips are' are in
    let at : list_all (is_peer peers) ips ≡ true = subst (λ (it : List (List ℕ)). list_all (is_peer peers) it ≡ true) same all in
    absurd (cc)
