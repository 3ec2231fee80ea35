-- Words ask for one command at most.
use Rattle.std.proofs.Common.{◌≡◌, ℕ, ◌+◌, ◌*◌, true, false, inl, inr, List, [], ◌∷◌, ◌++◌, drop, get_or, Some, codes, arith, ap, sym, refl, ◌∙◌}
use Rattle.std.specs.Str.Parse.{digits_value, without_leading_plus}
use Rattle.ipx_wire.specs.AddressText.{spelled_node}
use Rattle.ipx_wire.specs.declared.address.Node.{Node}
use Rattle.ipx_tool.specs.declared.words.Task.{Task}
use Rattle.ipx_tool.specs.declared.words.Task.TheVariants.{Hop, Show, ShowFrames, Check, Sim, Udp, Ipxnet, Route, Farewell, CheckSite, Listen, CheckHost, Send, Networks, Services, ServicesOf, Ping, PingTimes}
use Rattle.ipx_tool.specs.Words.{ArePortWords, AskForOne, AsksFor, WritesNumber, IsSame, target_words}
use Rattle.ipx_tool.proofs.WordsSeparate.{first, not_plain, once_or_check, second, third}
use Rattle.ipx_tool.proofs.PingWords.{same_others}

abbrev name : Task → List ℕ
name Hop = codes "hop"
name (Show packet) = codes "show"
name (ShowFrames node) = codes "show"
name Check = codes "check"
name Sim = codes "sim"
name (Udp port) = codes "udp"
name (Ipxnet port) = codes "ipxnet"
name (Route file) = codes "route"
name (Farewell file) = codes "farewell"
name (CheckSite file) = codes "route"
name (Listen file once) = codes "listen"
name (CheckHost file) = codes "listen"
name (Send file target) = codes "send"
name (Networks file json) = codes "networks"
name (Services file json) = codes "services"
name (ServicesOf file kind json) = codes "services"
name (Ping file target) = codes "ping"
name (PingTimes file target count) = codes "ping"

-- the first three letters distinguish the names
abbrev mark : List ℕ → ℕ
mark word = (get_or word 0 0 * 256 + get_or word 1 0) * 256 + get_or word 2 0

named : (words : List (List ℕ)) (task : Task) → AsksFor words task → get_or words 0 [] ≡ name task
named words Hop asks = ap (λ ws. get_or ws 0 []) asks
named words (Show packet) (e, plain) = ap (λ ws. get_or ws 0 []) e
named words (ShowFrames node) (text, is, inl e) = ap (λ ws. get_or ws 0 []) e
named words (ShowFrames node) (text, is, inr e) = ap (λ ws. get_or ws 0 []) e
named words Check asks = ap (λ ws. get_or ws 0 []) asks
named words Sim asks = ap (λ ws. get_or ws 0 []) asks
named words (Udp port) (inl (e, is)) = ap (λ ws. get_or ws 0 []) e
named words (Udp port) (inr (text, is, inl e)) = ap (λ ws. get_or ws 0 []) e
named words (Udp port) (inr (text, is, inr e)) = ap (λ ws. get_or ws 0 []) e
named words (Ipxnet port) (inl (e, is)) = ap (λ ws. get_or ws 0 []) e
named words (Ipxnet port) (inr (text, is, inl e)) = ap (λ ws. get_or ws 0 []) e
named words (Ipxnet port) (inr (text, is, inr e)) = ap (λ ws. get_or ws 0 []) e
named words (Route file) (e, plain) = ap (λ ws. get_or ws 0 []) e
named words (Farewell file) (e, plain) = ap (λ ws. get_or ws 0 []) e
named words (Listen file false) (e, plain) = ap (λ ws. get_or ws 0 []) e
named words (Listen file true) (inl e, plain) = ap (λ ws. get_or ws 0 []) e
named words (Listen file true) (inr e, plain) = ap (λ ws. get_or ws 0 []) e
named words (CheckSite file) (inl e, plain) = ap (λ ws. get_or ws 0 []) e
named words (CheckSite file) (inr e, plain) = ap (λ ws. get_or ws 0 []) e
named words (CheckHost file) (inl e, plain) = ap (λ ws. get_or ws 0 []) e
named words (CheckHost file) (inr e, plain) = ap (λ ws. get_or ws 0 []) e
named words (Send file target) asks = ap (λ ws. get_or ws 0 []) asks.0
named words (Networks file false) (e, plain) = first e
named words (Networks file true) (inl e, plain) = first e
named words (Networks file true) (inr e, plain) = first e
named words (Services file false) (e, plain) = first e
named words (Services file true) (inl e, plain) = first e
named words (Services file true) (inr e, plain) = first e
named words (ServicesOf file kind false) (e, plain, also) = first e
named words (ServicesOf file kind true) (inl e, plain, also) = first e
named words (ServicesOf file kind true) (inr (inl e), plain, also) = first e
named words (ServicesOf file kind true) (inr (inr e), plain, also) = first e
named words (Ping file target) (e, plain, also) = first e
named words (PingTimes file target count) (u, v, w, x, y, z, e, said, is, among, also) = first e

one_value : (text next : List ℕ) (port other : ℕ) → text ≡ next → WritesNumber text port → WritesNumber next other → port ≡ other
one_value text next port other same is too =
    sym is.1 ∙ ap (λ t. digits_value 10 (without_leading_plus t)) same ∙ too.1

one_port : (words : List (List ℕ)) (command : List ℕ) (port other : ℕ) → ArePortWords words command port → ArePortWords words command other → port ≡ other
one_port words command port other (inl (e, is)) (inl (f, too)) = is ∙ sym too
one_port words command port other (inl (e, is)) (inr (next, too, inl f)) = absurd (cc)
one_port words command port other (inl (e, is)) (inr (next, too, inr f)) = absurd (cc)
one_port words command port other (inr (text, is, inl e)) (inl (f, too)) = absurd (cc)
one_port words command port other (inr (text, is, inr e)) (inl (f, too)) = absurd (cc)
one_port words command port other (inr (text, is, inl e)) (inr (next, too, inl f)) = one_value text next port other (cc) is too
one_port words command port other (inr (text, is, inl e)) (inr (next, too, inr f)) = absurd (cc)
one_port words command port other (inr (text, is, inr e)) (inr (next, too, inl f)) = absurd (cc)
one_port words command port other (inr (text, is, inr e)) (inr (next, too, inr f)) = one_value text next port other (cc) is too

same_node : (text next : List ℕ) (node other : Node) → text ≡ next → spelled_node text ≡ Some node → spelled_node next ≡ Some other → node ≡ other
same_node text next node other same is too =
    let both : Some node ≡ Some other = sym is ∙ ap spelled_node same ∙ too in cc

one_node : (words : List (List ℕ)) (node other : Node) → AsksFor words (ShowFrames node) → AsksFor words (ShowFrames other) → node ≡ other
one_node words node other (text, is, inl e) (next, too, inl f) = same_node text next node other (cc) is too
one_node words node other (text, is, inl e) (next, too, inr f) = absurd (cc)
one_node words node other (text, is, inr e) (next, too, inl f) = absurd (cc)
one_node words node other (text, is, inr e) (next, too, inr f) = same_node text next node other (cc) is too

one_of_a_name : (words : List (List ℕ)) (task other : Task) → name task ≡ name other → AsksFor words task → AsksFor words other → IsSame task other
one_of_a_name words Hop Hop same asks too = tt
one_of_a_name words (Show packet) (Show other) same (e, plain) (f, also) = cc
one_of_a_name words (Show packet) (ShowFrames node) same (e, plain) (text, is, inl f) = absurd (cc)
one_of_a_name words (Show packet) (ShowFrames node) same (e, plain) (text, is, inr f) =
    let option : packet.now ≡ codes "--frame=" ++ text = cc in absurd (not_plain packet.now _ option plain)
one_of_a_name words (ShowFrames node) (Show packet) same (text, is, inl f) (e, plain) = absurd (cc)
one_of_a_name words (ShowFrames node) (Show packet) same (text, is, inr f) (e, plain) =
    let option : packet.now ≡ codes "--frame=" ++ text = cc in absurd (not_plain packet.now _ option plain)
one_of_a_name words (ShowFrames node) (ShowFrames other) same asks too = one_node words node other asks too
one_of_a_name words Check Check same asks too = tt
one_of_a_name words Sim Sim same asks too = tt
one_of_a_name words (Udp port) (Udp other) same asks too = one_port words (codes "udp") port other asks too
one_of_a_name words (Ipxnet port) (Ipxnet other) same asks too = one_port words (codes "ipxnet") port other asks too
one_of_a_name words (Route file) (Route other) same (e, plain) (f, also) = cc
one_of_a_name words (Farewell file) (Farewell other) same (e, plain) (f, also) = cc
one_of_a_name words (Listen file false) (Listen other false) same (e, plain) (f, also) = (cc, refl)
one_of_a_name words (Listen file false) (Listen other true) same (e, plain) (inl f, also) = absurd (cc)
one_of_a_name words (Listen file false) (Listen other true) same (e, plain) (inr f, also) = absurd (cc)
one_of_a_name words (Listen file true) (Listen other false) same (inl e, plain) (f, also) = absurd (cc)
one_of_a_name words (Listen file true) (Listen other false) same (inr e, plain) (f, also) = absurd (cc)
one_of_a_name words (Listen file true) (Listen other true) same (inl e, plain) (inl f, also) = (cc, refl)
one_of_a_name words (Listen file true) (Listen other true) same (inl e, plain) (inr f, also) =
    let option : other.now ≡ codes "--once" = cc in absurd (not_plain other.now _ option also)
one_of_a_name words (Listen file true) (Listen other true) same (inr e, plain) (inl f, also) =
    let option : file.now ≡ codes "--once" = cc in absurd (not_plain file.now _ option plain)
one_of_a_name words (Listen file true) (Listen other true) same (inr e, plain) (inr f, also) = (cc, refl)
one_of_a_name words (CheckSite file) (CheckSite other) same (inl e, plain) (inl f, also) = cc
one_of_a_name words (CheckSite file) (CheckSite other) same (inl e, plain) (inr f, also) =
    let option : other.now ≡ codes "--check" = cc in absurd (not_plain other.now _ option also)
one_of_a_name words (CheckSite file) (CheckSite other) same (inr e, plain) (inl f, also) =
    let option : file.now ≡ codes "--check" = cc in absurd (not_plain file.now _ option plain)
one_of_a_name words (CheckSite file) (CheckSite other) same (inr e, plain) (inr f, also) = cc
one_of_a_name words (CheckHost file) (CheckHost other) same (inl e, plain) (inl f, also) = cc
one_of_a_name words (CheckHost file) (CheckHost other) same (inl e, plain) (inr f, also) =
    let option : other.now ≡ codes "--check" = cc in absurd (not_plain other.now _ option also)
one_of_a_name words (CheckHost file) (CheckHost other) same (inr e, plain) (inl f, also) =
    let option : file.now ≡ codes "--check" = cc in absurd (not_plain file.now _ option plain)
one_of_a_name words (CheckHost file) (CheckHost other) same (inr e, plain) (inr f, also) = cc
one_of_a_name words (Route file) (CheckSite other) same (e, plain) (inl f, also) = absurd (cc)
one_of_a_name words (Route file) (CheckSite other) same (e, plain) (inr f, also) = absurd (cc)
one_of_a_name words (Listen file false) (CheckHost other) same (e, plain) (inl f, also) = absurd (cc)
one_of_a_name words (Listen file false) (CheckHost other) same (e, plain) (inr f, also) = absurd (cc)
one_of_a_name words (CheckSite file) (Route other) same (inl e, plain) (f, also) = absurd (cc)
one_of_a_name words (CheckSite file) (Route other) same (inr e, plain) (f, also) = absurd (cc)
one_of_a_name words (CheckHost file) (Listen other false) same (inl e, plain) (f, also) = absurd (cc)
one_of_a_name words (CheckHost file) (Listen other false) same (inr e, plain) (f, also) = absurd (cc)
one_of_a_name words (Listen file true) (CheckHost other) same (inl e, plain) (inl f, also) = absurd (once_or_check (second (sym e ∙ f)))
one_of_a_name words (Listen file true) (CheckHost other) same (inl e, plain) (inr f, also) =
    let option : other.now ≡ codes "--once" = cc in absurd (not_plain other.now _ option also)
one_of_a_name words (Listen file true) (CheckHost other) same (inr e, plain) (inl f, also) =
    let option : file.now ≡ codes "--check" = cc in absurd (not_plain file.now _ option plain)
one_of_a_name words (Listen file true) (CheckHost other) same (inr e, plain) (inr f, also) = absurd (once_or_check (third (sym e ∙ f)))
one_of_a_name words (CheckHost file) (Listen other true) same (inl e, plain) (inl f, also) = absurd (once_or_check (second (sym f ∙ e)))
one_of_a_name words (CheckHost file) (Listen other true) same (inl e, plain) (inr f, also) =
    let option : other.now ≡ codes "--check" = cc in absurd (not_plain other.now _ option also)
one_of_a_name words (CheckHost file) (Listen other true) same (inr e, plain) (inl f, also) =
    let option : file.now ≡ codes "--once" = cc in absurd (not_plain file.now _ option plain)
one_of_a_name words (CheckHost file) (Listen other true) same (inr e, plain) (inr f, also) = absurd (once_or_check (third (sym f ∙ e)))
one_of_a_name words (Send file target) (Send other another) same asks too =
    let e = asks.0 in
    let f = too.0 in (cc, cc, cc, cc)
one_of_a_name words (Networks file false) (Networks other false) same (e, plain) (f, also) = (cc, refl)
one_of_a_name words (Networks file false) (Networks other true) same (e, plain) (inl f, also) = absurd (cc)
one_of_a_name words (Networks file false) (Networks other true) same (e, plain) (inr f, also) = absurd (cc)
one_of_a_name words (Networks file true) (Networks other false) same (inl e, plain) (f, also) = absurd (cc)
one_of_a_name words (Networks file true) (Networks other false) same (inr e, plain) (f, also) = absurd (cc)
one_of_a_name words (Networks file true) (Networks other true) same (inl e, plain) (inl f, also) = (cc, refl)
one_of_a_name words (Networks file true) (Networks other true) same (inl e, plain) (inr f, also) =
    let option : other.now ≡ codes "--json" = cc in absurd (not_plain other.now _ option also)
one_of_a_name words (Networks file true) (Networks other true) same (inr e, plain) (inl f, also) =
    let option : file.now ≡ codes "--json" = cc in absurd (not_plain file.now _ option plain)
one_of_a_name words (Networks file true) (Networks other true) same (inr e, plain) (inr f, also) = (cc, refl)
one_of_a_name words (Services file false) (Services other false) same (e, plain) (f, also) = (cc, refl)
one_of_a_name words (Services file false) (Services other true) same (e, plain) (inl f, also) = absurd (cc)
one_of_a_name words (Services file false) (Services other true) same (e, plain) (inr f, also) = absurd (cc)
one_of_a_name words (Services file true) (Services other false) same (inl e, plain) (f, also) = absurd (cc)
one_of_a_name words (Services file true) (Services other false) same (inr e, plain) (f, also) = absurd (cc)
one_of_a_name words (Services file true) (Services other true) same (inl e, plain) (inl f, also) = (cc, refl)
one_of_a_name words (Services file true) (Services other true) same (inl e, plain) (inr f, also) =
    let option : other.now ≡ codes "--json" = cc in absurd (not_plain other.now _ option also)
one_of_a_name words (Services file true) (Services other true) same (inr e, plain) (inl f, also) =
    let option : file.now ≡ codes "--json" = cc in absurd (not_plain file.now _ option plain)
one_of_a_name words (Services file true) (Services other true) same (inr e, plain) (inr f, also) = (cc, refl)
one_of_a_name words (Services file false) (ServicesOf other kind false) same (e, plain) (f, also, more) = absurd (cc)
one_of_a_name words (Services file false) (ServicesOf other kind true) same (e, plain) (inl f, also, more) = absurd (cc)
one_of_a_name words (Services file false) (ServicesOf other kind true) same (e, plain) (inr (inl f), also, more) = absurd (cc)
one_of_a_name words (Services file false) (ServicesOf other kind true) same (e, plain) (inr (inr f), also, more) = absurd (cc)
one_of_a_name words (Services file true) (ServicesOf other kind false) same (inl e, plain) (f, also, more) =
    let option : other.now ≡ codes "--json" = cc in absurd (not_plain other.now _ option also)
one_of_a_name words (Services file true) (ServicesOf other kind false) same (inr e, plain) (f, also, more) =
    let option : kind.now ≡ codes "--json" = cc in absurd (not_plain kind.now _ option more)
one_of_a_name words (Services file true) (ServicesOf other kind true) same (inl e, plain) (inl f, also, more) = absurd (cc)
one_of_a_name words (Services file true) (ServicesOf other kind true) same (inl e, plain) (inr (inl f), also, more) = absurd (cc)
one_of_a_name words (Services file true) (ServicesOf other kind true) same (inl e, plain) (inr (inr f), also, more) = absurd (cc)
one_of_a_name words (Services file true) (ServicesOf other kind true) same (inr e, plain) (inl f, also, more) = absurd (cc)
one_of_a_name words (Services file true) (ServicesOf other kind true) same (inr e, plain) (inr (inl f), also, more) = absurd (cc)
one_of_a_name words (Services file true) (ServicesOf other kind true) same (inr e, plain) (inr (inr f), also, more) = absurd (cc)
one_of_a_name words (ServicesOf other kind false) (Services file false) same (f, also, more) (e, plain) = absurd (cc)
one_of_a_name words (ServicesOf other kind true) (Services file false) same (inl f, also, more) (e, plain) = absurd (cc)
one_of_a_name words (ServicesOf other kind true) (Services file false) same (inr (inl f), also, more) (e, plain) = absurd (cc)
one_of_a_name words (ServicesOf other kind true) (Services file false) same (inr (inr f), also, more) (e, plain) = absurd (cc)
one_of_a_name words (ServicesOf other kind false) (Services file true) same (f, also, more) (inl e, plain) =
    let option : other.now ≡ codes "--json" = cc in absurd (not_plain other.now _ option also)
one_of_a_name words (ServicesOf other kind false) (Services file true) same (f, also, more) (inr e, plain) =
    let option : kind.now ≡ codes "--json" = cc in absurd (not_plain kind.now _ option more)
one_of_a_name words (ServicesOf other kind true) (Services file true) same (inl f, also, more) (inl e, plain) = absurd (cc)
one_of_a_name words (ServicesOf other kind true) (Services file true) same (inr (inl f), also, more) (inl e, plain) = absurd (cc)
one_of_a_name words (ServicesOf other kind true) (Services file true) same (inr (inr f), also, more) (inl e, plain) = absurd (cc)
one_of_a_name words (ServicesOf other kind true) (Services file true) same (inl f, also, more) (inr e, plain) = absurd (cc)
one_of_a_name words (ServicesOf other kind true) (Services file true) same (inr (inl f), also, more) (inr e, plain) = absurd (cc)
one_of_a_name words (ServicesOf other kind true) (Services file true) same (inr (inr f), also, more) (inr e, plain) = absurd (cc)
one_of_a_name words (ServicesOf file kind false) (ServicesOf other another false) same (e, plain, more) (f, also, too) = (cc, cc, refl)
one_of_a_name words (ServicesOf file kind false) (ServicesOf other another true) same (e, plain, more) (inl f, also, too) = absurd (cc)
one_of_a_name words (ServicesOf file kind true) (ServicesOf other another false) same (inl e, plain, more) (f, also, too) = absurd (cc)
one_of_a_name words (ServicesOf file kind false) (ServicesOf other another true) same (e, plain, more) (inr (inl f), also, too) = absurd (cc)
one_of_a_name words (ServicesOf file kind true) (ServicesOf other another false) same (inr (inl e), plain, more) (f, also, too) = absurd (cc)
one_of_a_name words (ServicesOf file kind false) (ServicesOf other another true) same (e, plain, more) (inr (inr f), also, too) = absurd (cc)
one_of_a_name words (ServicesOf file kind true) (ServicesOf other another false) same (inr (inr e), plain, more) (f, also, too) = absurd (cc)
one_of_a_name words (ServicesOf file kind true) (ServicesOf other another true) same (inl e, plain, more) (inl f, also, too) = (cc, cc, refl)
one_of_a_name words (ServicesOf file kind true) (ServicesOf other another true) same (inl e, plain, more) (inr (inl f), also, too) =
    let option : other.now ≡ codes "--json" = cc in absurd (not_plain other.now _ option also)
one_of_a_name words (ServicesOf file kind true) (ServicesOf other another true) same (inl e, plain, more) (inr (inr f), also, too) =
    let option : other.now ≡ codes "--json" = cc in absurd (not_plain other.now _ option also)
one_of_a_name words (ServicesOf file kind true) (ServicesOf other another true) same (inr (inl e), plain, more) (inl f, also, too) =
    let option : other.now ≡ codes "--json" = cc in absurd (not_plain other.now _ option also)
one_of_a_name words (ServicesOf file kind true) (ServicesOf other another true) same (inr (inl e), plain, more) (inr (inl f), also, too) = (cc, cc, refl)
one_of_a_name words (ServicesOf file kind true) (ServicesOf other another true) same (inr (inl e), plain, more) (inr (inr f), also, too) =
    let option : another.now ≡ codes "--json" = cc in absurd (not_plain another.now _ option too)
one_of_a_name words (ServicesOf file kind true) (ServicesOf other another true) same (inr (inr e), plain, more) (inl f, also, too) =
    let option : another.now ≡ codes "--json" = cc in absurd (not_plain another.now _ option too)
one_of_a_name words (ServicesOf file kind true) (ServicesOf other another true) same (inr (inr e), plain, more) (inr (inl f), also, too) =
    let option : another.now ≡ codes "--json" = cc in absurd (not_plain another.now _ option too)
one_of_a_name words (ServicesOf file kind true) (ServicesOf other another true) same (inr (inr e), plain, more) (inr (inr f), also, too) = (cc, cc, refl)
one_of_a_name words (Ping file target) (Ping other another) same (e, plain, also) (f, too, more) =
    let both = sym e ∙ f in (second both, ap (drop 2) both)
one_of_a_name words (Ping file target) (PingTimes other another count) same (e, plain, also) (u, v, w, x, y, z, f, said, is, among, more) = absurd (cc)
one_of_a_name words (PingTimes other another count) (Ping file target) same (u, v, w, x, y, z, f, said, is, among, more) (e, plain, also) = absurd (cc)
one_of_a_name words (PingTimes file target count) (PingTimes other another again) same (u, v, w, x, y, z, e, said, is, among, plain) (g, h, j, k, l, m, f, told, too, amid, also) =
    let both = same_others said told (file.now ∷ target_words target) (other.now ∷ target_words another) (u ∷ v ∷ w ∷ x ∷ y ∷ z ∷ []) (g ∷ h ∷ j ∷ k ∷ l ∷ m ∷ []) among amid plain also (ap (drop 1) (sym e ∙ f)) in
    (first both.0, ap (drop 1) both.0, one_value said told count again both.1 is too)
one_of_a_name words _ _ same asks too = absurd (omega (arith, ap mark same))

pub ask_for_one : AskForOne
ask_for_one words task other asks too = one_of_a_name words task other (sym (named words task asks) ∙ named words other too) asks too
