-- Which peers may ask a host for a connection, as its file says. Defined by this project.
use Rattle.std.specs.Prelude.{Vec, ◌≡◌, ◌≤◌, ℕ, List, ◌∷◌, ◌++◌, Bool, true, ◌&&◌, ◌==◌, length, Option, Some, None, MatchOption, if◌then◌else◌}
use Rattle.std.specs.Global.{Global}
use Rattle.std.specs.List.{list_any}
use Rattle.toml.specs.Data.{Data, Items, as_str, as_array}
use Rattle.ipx_wire.specs.AddressText.{spelled_node}
use Rattle.ipx_wire.specs.Assigned.{local_network}
use Rattle.ipx_wire.specs.declared.address.Address.{Address}
use Rattle.ipx_wire.specs.declared.address.Network.{Network}
use Rattle.ipx_wire.specs.declared.address.Node.{Node}
use Rattle.ipx_router.specs.Classify.{is_node}
use Rattle.ipx_config.specs.Values.{AreEach, WritesNetwork}
use Rattle.ipx_config.specs.declared.allowed_peer.AllowedPeer.{AllowedPeer}

-- a text gives a network, or a network, a space, and a node of it in twelve hex digits
abbrev pub WritesOrigin : List ℕ → AllowedPeer → Type 0
WritesOrigin text o = MatchOption o.node (WritesNetwork text o.network)
    (λ node. (network digits : List ℕ) × (text ≡ network ++ 32 ∷ digits)
    × WritesNetwork network o.network × (spelled_node digits ≡ Some node))

-- a string that is such a text
abbrev pub IsOrigin : Data → AllowedPeer → Type 0
IsOrigin d o = (text : List ℕ) × (as_str d ≡ Some text) × WritesOrigin text o

-- an array of them, at most 256
abbrev pub AreOrigins : Data → Vec AllowedPeer Global → Type 0
AreOrigins d os = (ds : Items) × (as_array d ≡ Some ds) × AreEach IsOrigin ds os.items
    × (length os.items ≤ 256)

-- the network of an address, as seen by a host on network `own`: 0 means `own`
abbrev pub home_network : Network → Address → ℕ
home_network own a = if a.network.0 == local_network then own.0 else a.network.0

-- a node is the named one; if none is named, every node is
abbrev pub is_named : Option Node → Node → Bool
is_named None node = true
is_named (Some n) node = is_node node n

-- an address is allowed by an entry, as seen by a host on network `own`
abbrev pub is_of : Network → Address → AllowedPeer → Bool
is_of own a o = home_network own a == o.network.0 && is_named o.node a.node

-- an address may ask a host for a connection: it is allowed by an entry, or there is no list
abbrev pub may_ask : Option (List AllowedPeer) → Network → Address → Bool
may_ask None own a = true
may_ask (Some os) own a = list_any (is_of own a) os

-- the entries that a file lists, without the memory where they are stored
abbrev pub named_in : Option (Vec AllowedPeer Global) → Option (List AllowedPeer)
named_in None = None
named_in (Some os) = Some os.items

-- ---- relations for private functions

-- the entry that a text gives, or that it gives none
abbrev pub ReadsOrigin : List ℕ → Option AllowedPeer → Type 0
ReadsOrigin text found = MatchOption found ((o : AllowedPeer) → WritesOrigin text o → ⊥) (WritesOrigin text)

abbrev pub ReadsOrigins : Items → Option (Vec AllowedPeer Global) → Type 0
ReadsOrigins ds found = MatchOption found ((os : List AllowedPeer) → AreEach IsOrigin ds os → ⊥)
    (λ v. AreEach IsOrigin ds v.items)
