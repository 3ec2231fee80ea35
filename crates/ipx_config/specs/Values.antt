-- What the value of a key gives: the number of a network, an address, and so on.
use Rattle.std.specs.Prelude.{String, Vec, string_bytes, ◌≡◌, ◌≢◌, ⊤, ℕ, suc, ◌==◌, ◌≤◌, pos, Bool, true, not, ◌&&◌, ◌⊎◌, List, [], ◌∷◌, ◌++◌, length, Option, Some, codes, MatchOption, nat_eq}
use Rattle.std.specs.Global.{Global}
use Rattle.std.specs.List.{list_all, list_any}
use Rattle.std.specs.Net.Grammar.{IsDotted}
use Rattle.toml.specs.Data.{Data, Items, no_items, item, as_str, as_integer, as_array}
use Rattle.ipx_wire.specs.declared.address.Network.{Network}
use Rattle.ipx_wire.specs.declared.address.Socket.{Socket}
use Rattle.ipx_wire.specs.AddressText.{spelled_network, spelled_socket}
use Rattle.ipx_wire.specs.Assigned.{all_networks, local_network}
use Rattle.ipx_config.specs.declared.site.Accept.{Accept}
use Rattle.ipx_config.specs.declared.site.Accept.TheVariants.{Any, Peers}
use Rattle.ipx_config.specs.declared.site.Directed.{Directed}
use Rattle.ipx_config.specs.declared.site.Directed.TheVariants.{Never, Few, Always}
use Rattle.ipx_config.specs.declared.site.Kind.{Kind}
use Rattle.ipx_config.specs.declared.site.Kind.TheVariants.{Rfc1234, Ethernet, Ipxnet}
use Rattle.std.specs.Cmp.Lexicographic.{pointwise}

-- eight hex digits give a network other than 0, which is the local network, and FFFFFFFF, which is all
-- networks
abbrev pub WritesNetwork : List ℕ → Network → Type 0
WritesNetwork text n = (spelled_network text ≡ Some n) × (n.0 ≢ local_network) × (n.0 ≢ all_networks)

-- a string that is such a text
abbrev pub IsNetwork : Data → Network → Type 0
IsNetwork d n = (text : List ℕ) × (as_str d ≡ Some text) × WritesNetwork text n

-- a string of four hex digits: a socket other than 0
abbrev pub IsSocket : Data → Socket → Type 0
IsSocket d s = (text : List ℕ) × (as_str d ≡ Some text) × (spelled_socket text ≡ Some s) × (s.0 ≢ 0)

-- a string that is an IP address: four decimal numbers below 256, with dots between them. 0.0.0.0 is
-- excluded: it names no machine
abbrev pub IsIpAddress : Data → List ℕ → Type 0
IsIpAddress d ip = (text : List ℕ) × (as_str d ≡ Some text) × IsDotted text ip
    × (text ≢ codes "0.0.0.0")

-- such a string, or the word any, which is each address of this machine
abbrev pub IsAnyOrAddress : Data → List ℕ → Type 0
IsAnyOrAddress d ip = ((as_str d ≡ Some (codes "any")) × (ip ≡ 0 ∷ 0 ∷ 0 ∷ 0 ∷ [])) ⊎ IsIpAddress d ip

-- an integer from 1 to `most`
abbrev pub IsCount : ℕ → Data → ℕ → Type 0
IsCount most d n = (as_integer d ≡ Some (pos n)) × (1 ≤ n) × (n ≤ most)

-- a text can name a file: it is not empty, and no byte of it is 0
abbrev pub can_name_file : List ℕ → Bool
can_name_file text = not (length text == 0) && not (list_any (λ b. b == 0) text)

-- a string that can name a file
abbrev pub IsFileName : Data → String Global → Type 0
IsFileName d name = (as_str d ≡ Some (string_bytes name)) × (can_name_file (string_bytes name) ≡ true)

-- the name of the temporary file to which a file of this name is written first
abbrev pub temporary_name : List ℕ → List ℕ
temporary_name name = name ++ codes ".new"

-- files of these names do not overwrite each other: they differ, and neither is the temporary file of the
-- other
abbrev pub AreDistinctFiles : List ℕ → List ℕ → Type 0
AreDistinctFiles one two = (one ≢ two) × (one ≢ temporary_name two) × (two ≢ temporary_name one)

-- writing a file, if it has a name, does not overwrite a file of this other name
abbrev pub Spares : Option (String Global) → List ℕ → Type 0
Spares name other = MatchOption name ⊤ (λ it. AreDistinctFiles (string_bytes it) other)

-- a string that can name a file, and does not overwrite the file of this other name, if there is one
abbrev pub IsOtherFileName : Option (String Global) → Data → String Global → Type 0
IsOtherFileName other d name = IsFileName d name × Spares other (string_bytes name)

-- the same of two other files
abbrev pub IsThirdFileName : Option (String Global) → Option (String Global) → Data → String Global → Type 0
IsThirdFileName first second d name = IsOtherFileName first d name × Spares second (string_bytes name)

abbrev pub accept_text : Accept → List ℕ
accept_text Peers = codes "peers"
accept_text Any = codes "any"

-- the string "peers" or the string "any"
abbrev pub IsAccept : Data → Accept → Type 0
IsAccept d a = as_str d ≡ Some (accept_text a)

abbrev pub directed_word : Directed → List ℕ
directed_word Never = codes "none"
directed_word Few = codes "few"
directed_word Always = codes "all"

-- the string "none", the string "few" or the string "all"
abbrev pub IsDirected : Data → Directed → Type 0
IsDirected d it = as_str d ≡ Some (directed_word it)

abbrev pub kind_text : Kind → List ℕ
kind_text Rfc1234 = codes "rfc1234"
kind_text Ethernet = codes "ethernet"
kind_text Ipxnet = codes "ipxnet"

-- the string "rfc1234", the string "ethernet" or the string "ipxnet"
abbrev pub IsKind : Data → Kind → Type 0
IsKind d k = as_str d ≡ Some (kind_text k)

-- how many there are
abbrev pub item_count : Items → ℕ
item_count no_items = 0
item_count (item d ds) = suc (item_count ds)

-- item by item, what each of them gives
abbrev pub AreEach : {A : Type 0} → (Data → A → Type 0) → Items → List A → Type 0
AreEach Means no_items all = all ≡ []
AreEach {A} Means (item d ds) all = (first : A) × (rest : List A) × (all ≡ first ∷ rest)
    × Means d first × AreEach Means ds rest

-- these IP addresses
abbrev pub AreAddresses : Items → List (List ℕ) → Type 0
AreAddresses ds ips = AreEach IsIpAddress ds ips

-- an array of strings that are IP addresses
abbrev pub AreAddressesOf : Data → Vec (List ℕ) Global → Type 0
AreAddressesOf d ips = (ds : Items) × (as_array d ≡ Some ds) × AreAddresses ds ips.items

-- an IP address is one of these
abbrev pub is_peer : List (List ℕ) → List ℕ → Bool
is_peer peers ip = list_any (λ peer. pointwise nat_eq peer ip) peers

-- such an array, and each address is one of these peers
abbrev pub AreRouterPeers : List (List ℕ) → Data → Vec (List ℕ) Global → Type 0
AreRouterPeers peers d ips = AreAddressesOf d ips × (list_all (is_peer peers) ips.items ≡ true)

-- ---- relations for private functions

-- the network that a text gives, or that it gives none
abbrev pub ReadsNetwork : List ℕ → Option Network → Type 0
ReadsNetwork text found = MatchOption found ((n : Network) → WritesNetwork text n → ⊥) (WritesNetwork text)

abbrev pub ReadsAddresses : Items → Option (Vec (List ℕ) Global) → Type 0
ReadsAddresses ds found = MatchOption found ((ips : List (List ℕ)) → AreAddresses ds ips → ⊥)
    (λ v. AreAddresses ds v.items)
