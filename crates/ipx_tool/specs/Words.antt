-- Which words ask for which command.
use Rattle.std.specs.Prelude.{◌≡◌, ◌≤◌, ℕ, Bool, false, true, ◌⊎◌, List, [], ◌∷◌, ◌++◌, Option, Some, MatchOption, codes, nat_eq}
use Rattle.std.specs.List.{starts_with}
use Rattle.std.specs.Str.Parse.{IsNumeral, digits_value, without_leading_plus}
use Rattle.ipx_wire.specs.AddressText.{spelled_node}
use Rattle.ipx_carrier.specs.Mapping.{usual_port}
use Rattle.ipx_config.specs.declared.target.Target.{Target}
use Rattle.ipx_tool.specs.declared.words.Task.{Task}
use Rattle.ipx_tool.specs.declared.words.Task.TheVariants.{Hop, Show, ShowFrames, Check, Sim, Udp, Ipxnet, Route, Farewell, CheckSite, Listen, CheckHost, Send, Networks, Services, ServicesOf, Ping, PingTimes}

-- a word that is no option: it does not begin with `-`
abbrev pub IsPlain : List ℕ → Type 0
IsPlain word = starts_with nat_eq word (codes "-") ≡ false

-- a text gives a number from 1 to 65,535: decimal digits, optionally after a `+`
abbrev pub WritesNumber : List ℕ → ℕ → Type 0
WritesNumber text number = IsNumeral 10 (without_leading_plus text)
    × (digits_value 10 (without_leading_plus text) ≡ number) × (1 ≤ number) × (number ≤ 65535)

abbrev pub ArePlain : List (List ℕ) → Type 0
ArePlain [] = Unit {0}
ArePlain (word ∷ words) = IsPlain word × ArePlain words

-- the three words of a target
abbrev pub target_words : Target → List (List ℕ)
target_words to = to.network.now ∷ to.node.now ∷ to.socket.now ∷ []

-- among other words are an option and its value, next to each other
abbrev pub IsOptionAmong : List ℕ → List ℕ → List (List ℕ) → List (List ℕ) → Type 0
IsOptionAmong option value others words = (front : List (List ℕ)) × (back : List (List ℕ))
    × (others ≡ front ++ back) × (words ≡ front ++ option ∷ value ∷ back)

-- a command, a file and a type, with `--json` before, between or after these two, or without it
abbrev pub AreTypeWords : List (List ℕ) → List ℕ → List ℕ → List ℕ → Bool → Type 0
AreTypeWords words command file kind false = words ≡ command ∷ file ∷ kind ∷ []
AreTypeWords words command file kind true = (words ≡ command ∷ codes "--json" ∷ file ∷ kind ∷ [])
    ⊎ ((words ≡ command ∷ file ∷ codes "--json" ∷ kind ∷ [])
    ⊎ (words ≡ command ∷ file ∷ kind ∷ codes "--json" ∷ []))

-- a command alone, which means the default port, or with `--port` and this port after it, in two words or
-- joined by `=`
abbrev pub ArePortWords : List (List ℕ) → List ℕ → ℕ → Type 0
ArePortWords words command port = ((words ≡ command ∷ []) × (port ≡ usual_port))
    ⊎ ((text : List ℕ) × WritesNumber text port
    × ((words ≡ command ∷ codes "--port" ∷ text ∷ []) ⊎ (words ≡ command ∷ (codes "--port=" ++ text) ∷ [])))

-- the words after the program's own name ask for this command. `udp` and `ipxnet` may have a port. `show` may
-- have `--frame` and a node, in two words or joined by `=`. `listen` may have `--once` before or after its file.
-- With `--check` there, `route` and `listen` only check the file. `networks` and `services` may have `--json`
-- anywhere after them, and `ping` may have `-c` and the number of requests. A packet, a file, a type and the three
-- words of a target are no options
abbrev pub AsksFor : List (List ℕ) → Task → Type 0
AsksFor words Hop = words ≡ codes "hop" ∷ []
AsksFor words (Show packet) = (words ≡ codes "show" ∷ packet.now ∷ []) × IsPlain packet.now
AsksFor words (ShowFrames node) = (text : List ℕ) × (spelled_node text ≡ Some node)
    × ((words ≡ codes "show" ∷ codes "--frame" ∷ text ∷ []) ⊎ (words ≡ codes "show" ∷ (codes "--frame=" ++ text) ∷ []))
AsksFor words Check = words ≡ codes "check" ∷ []
AsksFor words Sim = words ≡ codes "sim" ∷ []
AsksFor words (Udp port) = ArePortWords words (codes "udp") port
AsksFor words (Ipxnet port) = ArePortWords words (codes "ipxnet") port
AsksFor words (Route file) = (words ≡ codes "route" ∷ file.now ∷ []) × IsPlain file.now
AsksFor words (Farewell file) = (words ≡ codes "farewell" ∷ file.now ∷ []) × IsPlain file.now
AsksFor words (CheckSite file) = ((words ≡ codes "route" ∷ codes "--check" ∷ file.now ∷ [])
    ⊎ (words ≡ codes "route" ∷ file.now ∷ codes "--check" ∷ [])) × IsPlain file.now
AsksFor words (Listen file false) = (words ≡ codes "listen" ∷ file.now ∷ []) × IsPlain file.now
AsksFor words (Listen file true) = ((words ≡ codes "listen" ∷ codes "--once" ∷ file.now ∷ [])
    ⊎ (words ≡ codes "listen" ∷ file.now ∷ codes "--once" ∷ [])) × IsPlain file.now
AsksFor words (CheckHost file) = ((words ≡ codes "listen" ∷ codes "--check" ∷ file.now ∷ [])
    ⊎ (words ≡ codes "listen" ∷ file.now ∷ codes "--check" ∷ [])) × IsPlain file.now
AsksFor words (Send file target) =
    (words ≡ codes "send" ∷ file.now ∷ target.network.now ∷ target.node.now ∷ target.socket.now ∷ [])
    × IsPlain file.now × IsPlain target.network.now × IsPlain target.node.now × IsPlain target.socket.now
AsksFor words (Networks file false) = (words ≡ codes "networks" ∷ file.now ∷ []) × IsPlain file.now
AsksFor words (Networks file true) = ((words ≡ codes "networks" ∷ codes "--json" ∷ file.now ∷ [])
    ⊎ (words ≡ codes "networks" ∷ file.now ∷ codes "--json" ∷ [])) × IsPlain file.now
AsksFor words (Services file false) = (words ≡ codes "services" ∷ file.now ∷ []) × IsPlain file.now
AsksFor words (Services file true) = ((words ≡ codes "services" ∷ codes "--json" ∷ file.now ∷ [])
    ⊎ (words ≡ codes "services" ∷ file.now ∷ codes "--json" ∷ [])) × IsPlain file.now
AsksFor words (ServicesOf file kind json) = AreTypeWords words (codes "services") file.now kind.now json
    × IsPlain file.now × IsPlain kind.now
AsksFor words (Ping file target) = (words ≡ codes "ping" ∷ file.now ∷ target_words target)
    × IsPlain file.now × ArePlain (target_words target)
AsksFor words (PingTimes file target count) = (a : List ℕ) × (b : List ℕ) × (c : List ℕ)
    × (d : List ℕ) × (e : List ℕ) × (f : List ℕ)
    × (words ≡ codes "ping" ∷ a ∷ b ∷ c ∷ d ∷ e ∷ f ∷ []) × (text : List ℕ) × WritesNumber text count
    × IsOptionAmong (codes "-c") text (file.now ∷ target_words target) (a ∷ b ∷ c ∷ d ∷ e ∷ f ∷ [])
    × ArePlain (file.now ∷ target_words target)

-- what is found satisfies it; if nothing is found, nothing satisfies it
abbrev pub Finds : {A : Type 0} → (A → Type 0) → Option A → Type 0
Finds {A} IsSo found = MatchOption found ((a : A) → IsSo a → ⊥) IsSo

-- ---- two commands that words may ask for

-- the same command with the same words, wherever these are stored in memory
abbrev pub IsSame : Task → Task → Type 0
IsSame Hop Hop = Unit {0}
IsSame (Show packet) (Show other) = packet.now ≡ other.now
IsSame (ShowFrames node) (ShowFrames other) = node ≡ other
IsSame Check Check = Unit {0}
IsSame Sim Sim = Unit {0}
IsSame (Udp port) (Udp other) = port ≡ other
IsSame (Ipxnet port) (Ipxnet other) = port ≡ other
IsSame (Route file) (Route other) = file.now ≡ other.now
IsSame (Farewell file) (Farewell other) = file.now ≡ other.now
IsSame (CheckSite file) (CheckSite other) = file.now ≡ other.now
IsSame (Listen file once) (Listen other again) = (file.now ≡ other.now) × (once ≡ again)
IsSame (CheckHost file) (CheckHost other) = file.now ≡ other.now
IsSame (Send file target) (Send other another) = (file.now ≡ other.now)
    × (target.network.now ≡ another.network.now) × (target.node.now ≡ another.node.now)
    × (target.socket.now ≡ another.socket.now)
IsSame (Networks file json) (Networks other too) = (file.now ≡ other.now) × (json ≡ too)
IsSame (Services file json) (Services other too) = (file.now ≡ other.now) × (json ≡ too)
IsSame (ServicesOf file kind json) (ServicesOf other another too) = (file.now ≡ other.now)
    × (kind.now ≡ another.now) × (json ≡ too)
IsSame (Ping file target) (Ping other another) = (file.now ≡ other.now)
    × (target_words target ≡ target_words another)
IsSame (PingTimes file target count) (PingTimes other another again) = (file.now ≡ other.now)
    × (target_words target ≡ target_words another) × (count ≡ again)
IsSame task other = ⊥

-- words ask for at most one command
abbrev pub AskForOne : Type 0
AskForOne = (words : List (List ℕ)) (task other : Task) → AsksFor words task → AsksFor words other → IsSame task other

-- ---- a host that asks for the services of a type

-- a command, a file and a type ask for it
abbrev pub IsOfType : List ℕ → List ℕ → List ℕ → Bool → Task → Type 0
IsOfType command file kind json (ServicesOf other another too) = (command ≡ codes "services")
    × (other.now ≡ file) × (another.now ≡ kind) × (too ≡ json) × IsPlain file × IsPlain kind
IsOfType command file kind json task = ⊥

-- ---- a host that pings, with the number of requests that a text gives

-- a command, a file with a target, and that text ask for it
abbrev pub IsPingTimes : List ℕ → List (List ℕ) → List ℕ → Task → Type 0
IsPingTimes command others text (PingTimes file target count) = (command ≡ codes "ping")
    × (file.now ∷ target_words target ≡ others) × WritesNumber text count × ArePlain others
IsPingTimes command others text task = ⊥
