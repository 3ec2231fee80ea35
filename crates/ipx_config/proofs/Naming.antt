-- which texts give a network, or a node of one
use Rattle.std.proofs.Common.{Vec, ◌≡◌, ◌≤◌, Result, Ok, Err, ℕ, ◌+◌, ◌<◌, List, ◌∷◌, ◌++◌, length, take, drop, Option, Some, None, get_or, sym, ap, ◌∙◌, subst, arith}
use Rattle.std.proofs.lemmas.List.{length-append}
use Rattle.std.proofs.Math.Seq.{take-append_seam, drop-append-add, get_or-append_seam}
use Rattle.std.proofs.lemmas.Option.{same_Some}
use Rattle.std.specs.Prelude.{IfOk, MatchOption}
use Rattle.std.specs.Global.{Global}
use Rattle.toml.specs.Data.{Data, Items, as_array}
use Rattle.toml.specs.View.{items_view}
use Rattle.toml.specs.declared.value.Value.{Value}
use Rattle.ipx_wire.specs.AddressText.{spelled_network, spelled_node}
use Rattle.ipx_wire.specs.declared.address.Network.{Network}
use Rattle.ipx_wire.specs.declared.address.Node.{Node}
use Rattle.ipx_config.specs.Fields.{Reads}
use Rattle.ipx_config.specs.AllowedPeers.{AreOrigins, IsOrigin, ReadsOrigins, WritesOrigin}
use Rattle.ipx_config.specs.Values.{AreEach, WritesNetwork}
use Rattle.ipx_config.specs.declared.allowed_peer.AllowedPeer.{AllowedPeer}
use Rattle.ipx_config.proofs.Each.{as_many}

-- a network is spelled by eight digits
pub eight : (text : List ℕ) (network : Network) → spelled_network text ≡ Some network → length text ≡ 8
eight text network spelled = grind (arith)

-- a network, a space, and a node
abbrev pub WritesBoth : List ℕ → Network → Node → Type 0
WritesBoth text network node = (front digits : List ℕ) × (text ≡ front ++ 32 ∷ digits)
    × WritesNetwork front network × (spelled_node digits ≡ Some node)

abbrev pub WritesAs : List ℕ → Network → Option Node → Type 0
WritesAs text network node = MatchOption node (WritesNetwork text network) (WritesBoth text network)

-- the places of both in the text
pub places : (text : List ℕ) (network : Network) (node : Node) → WritesBoth text network node
    → (8 < length text) × (get_or text 8 0 ≡ 32) × WritesNetwork (take 8 text) network × (spelled_node (drop 9 text) ≡ Some node)
places text network node (front, digits, is, written, last) =
    let size : length front ≡ 8 = eight front network written.0 in
    let all : length text ≡ length front + length (32 ∷ digits) = ap length is ∙ length-append front (32 ∷ digits) in
    let seam : get_or text 8 0 ≡ 32 =
    subst (λ (n : ℕ). get_or text n 0 ≡ 32) size (ap (λ (l : List ℕ). get_or l (length front) 0) is ∙ get_or-append_seam front 32 digits 0) in
    let first : take 8 text ≡ front =
    subst (λ (n : ℕ). take n text ≡ front) size (ap (take (length front)) is ∙ take-append_seam front (32 ∷ digits)) in
    let next : length front + 1 ≡ 9 = omega (arith, size) in
    let rest : drop 9 text ≡ digits =
    subst (λ (n : ℕ). drop n text ≡ digits) next (ap (drop (length front + 1)) is ∙ drop-append-add front (32 ∷ digits) 1) in (
      omega (arith, all, size),
      seam,
      subst (λ (l : List ℕ). WritesNetwork l network) (sym first) written,
      subst (λ (l : List ℕ). spelled_node l ≡ Some node) (sym rest) last,
    )

alone : (text : List ℕ) (network : Network) (node : Option Node) → length text ≡ 8 → (WritesNetwork text network → ⊥) → WritesAs text network node → ⊥
alone text network None short none w = none w
alone text network (Some node) short none w = let at = places text network node w in absurd (omega (arith, short, at.0))

-- eight characters that give no network give nothing
pub no_network : (text : List ℕ) → length text ≡ 8 → ((n : Network) → WritesNetwork text n → ⊥) → (o : AllowedPeer) → WritesOrigin text o → ⊥
no_network text short none o w = alone text o.network o.node short (none o.network) w

both : (text : List ℕ) (network : Network) (node : Option Node) → (length text ≡ 8 → ⊥) → ((n : Node) → WritesBoth text network n → ⊥) → WritesAs text network node → ⊥
both text network None long none w = long (eight text network w.0)
both text network (Some node) long none w = none node w

-- a text that is no network alone gives nothing, if it is no network with a node either
pub no_node : (text : List ℕ) → (length text ≡ 8 → ⊥) → ((network : Network) (n : Node) → WritesBoth text network n → ⊥) → (o : AllowedPeer) → WritesOrigin text o → ⊥
no_node text long none o w = both text o.network o.node long (none o.network) w

-- a list has at most 256 entries
pub too_many : (d : Data) (values : List Value) → as_array d ≡ Some (items_view values) → 256 < length values
    → (os : Vec AllowedPeer Global) → AreOrigins d os → ⊥
too_many d values is many os are =
    let same : are.0 ≡ items_view values = same_Some are.0 (items_view values) (sym are.1 ∙ is) in
    let all = as_many IsOrigin values os.items (subst (λ (ds : Items). AreEach IsOrigin ds os.items) same are.2) in
    absurd (omega (arith, all, many, are.3))

pub listed : {E : Type 0} (d : Data) (values : List Value) → as_array d ≡ Some (items_view values) → length values ≤ 256
    → (r : Result (Option (Vec AllowedPeer Global)) E) → IfOk r (ReadsOrigins (items_view values)) → IfOk r (Reads AreOrigins d)
listed d values is few (Err e) reads = tt
listed d values is few (Ok None) reads = λ os are.
    let same : are.0 ≡ items_view values = same_Some are.0 (items_view values) (sym are.1 ∙ is) in
    reads os.items (subst (λ (ds : Items). AreEach IsOrigin ds os.items) same are.2)
listed d values is few (Ok (Some v)) reads =
    (items_view values, is, reads, omega (arith, as_many IsOrigin values v.items reads, few))
