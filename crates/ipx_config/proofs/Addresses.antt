-- which IP addresses a value lists: one list at most
use Rattle.std.proofs.Common.{Vec, ◌≡◌, ℕ, true, false, List, ◌∷◌, sym, ap, ◌∙◌, subst}
use Rattle.std.proofs.lemmas.Option.{same_Some}
use Rattle.std.proofs.NetLemmas.Theorems.{IsIpv4Text_unique}
use Rattle.std.specs.Global.{Global}
use Rattle.std.specs.List.{list_all}
use Rattle.std.specs.Net.Grammar.{IsDotted}
use Rattle.toml.specs.Data.{Data, Items, no_items, item}
use Rattle.ipx_config.specs.Values.{is_peer, AreEach, AreAddressesOf, AreRouterPeers, IsIpAddress}

dotted_once : (text a b : List ℕ) → IsDotted text a → IsDotted text b → a ≡ b
dotted_once text a b one other =
    ap (λ it. it.octets) (IsIpv4Text_unique text (record { octets = a }) (record { octets = b }) one other)

address_once : (d : Data) (a b : List ℕ) → IsIpAddress d a → IsIpAddress d b → a ≡ b
address_once d a b (s, is_s, one, set) (t, is_t, other, set') =
    let same : s ≡ t = same_Some s t (sym is_s ∙ is_t) in
    dotted_once t a b (subst (λ (l : List ℕ). IsDotted l a) same one) other

pub addresses_once : (ds : Items) (a b : List (List ℕ)) → AreEach IsIpAddress ds a → AreEach IsIpAddress ds b → a ≡ b
addresses_once no_items a b one other = one ∙ sym other
addresses_once (item d ds) a b (x, xs, is, means, more) (y, ys, is', means', more') =
    is ∙ ap (λ it. it ∷ xs) (address_once d x y means means') ∙ ap (λ it. y ∷ it) (addresses_once ds xs ys more more') ∙ sym is'

peers_once : (d : Data) (a b : Vec (List ℕ) Global) → AreAddressesOf d a → AreAddressesOf d b → a.items ≡ b.items
peers_once d a b (ds, is, one) (es, is', other) =
    let same : ds ≡ es = same_Some ds es (sym is ∙ is') in
    addresses_once es a.items b.items (subst (λ (it : Items). AreEach IsIpAddress it a.items) same one) other

-- a list in which one is no peer has no other reading in which each is
pub not_routers : (peers : List (List ℕ)) (d : Data) (ips : Vec (List ℕ) Global) → AreAddressesOf d ips
    → list_all (is_peer peers) ips.items ≡ false → (others : Vec (List ℕ) Global) → AreRouterPeers peers d others → ⊥
not_routers peers d ips are none others (are', all) =
    let same : others.items ≡ ips.items = peers_once d others ips are' are in
    let at : list_all (is_peer peers) ips.items ≡ true = subst (λ (it : List (List ℕ)). list_all (is_peer peers) it ≡ true) same all in
    absurd (cc)
