-- The peers of an ipxnet port: IP addresses, prefixes of such, and names of hosts. Defined by this project.
use Rattle.std.specs.Prelude.{String, Vec, string_bytes, ◌≡◌, ◌==◌, ◌⊎◌, ◌||◌, ◌&&◌, ℕ, Bool, true, List, length, nat_le, Option, Some, MatchOption}
use Rattle.std.specs.Global.{Global}
use Rattle.std.specs.List.{list_all, list_any}
use Rattle.toml.specs.Data.{Data, Items, as_str, as_array}
use Rattle.ip_prefixes.specs.Prefixes.{WritesPrefix, one_address}
use Rattle.ip_prefixes.specs.declared.prefix.Prefix.{Prefix as IpPrefix}
use Rattle.ipx_config.specs.declared.ipxnet_port.Peer.{Peer}
use Rattle.ipx_config.specs.declared.ipxnet_port.Peer.TheVariants.{Host, Prefix}
use Rattle.ipx_config.specs.Values.{AreEach, IsIpAddress}

-- a string that is a prefix, or an IP address, which is the prefix of all its bits
abbrev pub IsPrefix : Data → IpPrefix → Type 0
IsPrefix d p = ((ip : List ℕ) × IsIpAddress d ip × (p ≡ one_address ip))
    ⊎ ((text : List ℕ) × (as_str d ≡ Some text) × WritesPrefix text p)

-- a letter
abbrev pub is_letter : ℕ → Bool
is_letter b = (nat_le 65 b && nat_le b 90) || (nat_le 97 b && nat_le b 122)

-- a letter, a digit, a hyphen or a dot
abbrev pub is_name_byte : ℕ → Bool
is_name_byte b = is_letter b || (nat_le 48 b && nat_le b 57) || (b == 45) || (b == 46)

-- a text may be the name of a host: at most 253 such bytes, and a letter among them
abbrev pub is_host_name : List ℕ → Bool
is_host_name text = nat_le (length text) 253 && (list_all is_name_byte text && list_any is_letter text)

-- a string that may be such a name
abbrev pub IsHostName : Data → String Global → Type 0
IsHostName d name = (as_str d ≡ Some (string_bytes name)) × (is_host_name (string_bytes name) ≡ true)

-- a prefix or a name. No text is both: a prefix has a slash, and an IP address has no letter
abbrev pub IsPeer : Data → Peer → Type 0
IsPeer d peer = ((p : IpPrefix) × (peer ≡ Prefix p) × IsPrefix d p)
    ⊎ ((name : String Global) × (peer ≡ Host name) × IsHostName d name)

-- a string gives a peer, without the copy of a name: it is a prefix, or may be the name of a host
abbrev pub IsPeerText : Data → Type 0
IsPeerText d = ((p : IpPrefix) × IsPrefix d p)
    ⊎ ((name : List ℕ) × (as_str d ≡ Some name) × (is_host_name name ≡ true))

-- an array of them
abbrev pub ArePeersOf : Data → Vec Peer Global → Type 0
ArePeersOf d peers = (ds : Items) × (as_array d ≡ Some ds) × AreEach IsPeer ds peers.items

-- ---- relations for private functions

abbrev pub ReadsPeers : Items → Option (Vec Peer Global) → Type 0
ReadsPeers ds found = MatchOption found ((ps : List Peer) → AreEach IsPeer ds ps → ⊥)
    (λ v. AreEach IsPeer ds v.items)
