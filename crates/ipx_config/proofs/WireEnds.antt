-- which remotes of an Ethernet port a value lists
use Rattle.std.proofs.Common.{Vec, ◌≡◌, ◌≤◌, Result, Ok, Err, ℕ, List, [], ◌∷◌, ◌++◌, length, Option, Some, None, true, false, ap, inl, inr, refl, sym, ◌∙◌, subst, arith, append-nil, lit≤, lit<}
use Rattle.std.proofs.lemmas.Option.{same_Some}
use Rattle.std.proofs.NetLemmas.Ipv4.{read_ipv4_complete, read_ipv4_none}
use Rattle.std.proofs.NetLemmas.Numbers.{NoDigit}
use Rattle.std.proofs.NetLemmas.Options.{same_parts}
use Rattle.std.proofs.NetLemmas.Theorems.{IsIpv4Text_unique, IsSocketV4Text_unique}
use Rattle.std.specs.Global.{Global}
use Rattle.std.specs.Net.Addr.{ipv4_octets}
use Rattle.std.specs.Net.Grammar.{IsDotted, IsSocketV4Text}
use Rattle.std.specs.Net.Reader.{read_ipv4}
use Rattle.std.specs.Net.Socket.{v4_ip}
use Rattle.std.specs.Prelude.{IfOk, MatchOption, codes, slice_index_or, ⊤}
use Rattle.std.specs.declared.net.ipv4_addr.Ipv4Addr.{Ipv4Addr}
use Rattle.std.specs.declared.net.socket_addr.SocketAddrV4.{SocketAddrV4}
use Rattle.toml.specs.Data.{Data, Items, no_items, item, as_array, as_str}
use Rattle.toml.specs.View.{items_view, view}
use Rattle.toml.specs.declared.value.Value.{Value}
use Rattle.ipx_carrier.specs.Traces.{v4_at}
use Rattle.ipx_tunnels.specs.declared.tunnel.Tunnel.{Tunnel}
use Rattle.ipx_config.specs.declared.site.RemotesConfig.{RemotesConfig}
use Rattle.ipx_config.specs.declared.site.RemotesConfig.TheVariants.{Listed, Learned}
use Rattle.ipx_config.specs.Fields.{Reads}
use Rattle.ipx_config.specs.Values.{AreEach, IsIpAddress}
use Rattle.ipx_config.specs.EthernetValues.{AreEthernetEnds, AreListedRemotes, AreRemotesOf, IsAny, IsEthernetEnd, IsPlace, IsUsualPlace, ReadsEthernetEnds, WritesPlace, can_be_remotes, can_learn, is_somewhere, usual_udp_port}
use Rattle.ipx_config.proofs.Each.{as_many}

-- an array of none, or of more than 256, lists no ends
pub not_so_many : (usual : Option ℕ) (d : Data) (values : List Value) → as_array d ≡ Some (items_view values)
    → (1 ≤ length values → length values ≤ 256 → ⊥) → (ends : Vec SocketAddrV4 Global) → AreEthernetEnds usual d ends → ⊥
not_so_many usual d values is none ends are =
    let same : are.0 ≡ items_view values = same_Some are.0 (items_view values) (sym are.1 ∙ is) in
    let all = as_many (IsEthernetEnd usual) values ends.items (subst (λ (ds : Items). AreEach (IsEthernetEnd usual) ds ends.items) same are.2) in
    none (omega (arith, all, are.3)) (omega (arith, all, are.4))

-- any other lists what each of its values means
pub listed_ends : {E : Type 0} (usual : Option ℕ) (d : Data) (values : List Value) → as_array d ≡ Some (items_view values)
    → 1 ≤ length values → length values ≤ 256 → (r : Result (Option (Vec SocketAddrV4 Global)) E)
    → IfOk r (ReadsEthernetEnds usual (items_view values)) → IfOk r (Reads (AreEthernetEnds usual) d)
listed_ends usual d values is some few (Err e) reads = tt
listed_ends usual d values is some few (Ok None) reads = λ ends are.
    let same : are.0 ≡ items_view values = same_Some are.0 (items_view values) (sym are.1 ∙ is) in
    reads ends.items (subst (λ (ds : Items). AreEach (IsEthernetEnd usual) ds ends.items) same are.2)
listed_ends usual d values is some few (Ok (Some v)) reads =
    let all = as_many (IsEthernetEnd usual) values v.items reads in
    (items_view values, is, reads, omega (arith, all, some), omega (arith, all, few))

-- a text gives one place: if no remote can be there, it gives no remote
pub nowhere : (text : List ℕ) (place : SocketAddrV4) → IsSocketV4Text text place → is_somewhere place ≡ false
    → (p : SocketAddrV4) → WritesPlace text p → ⊥
nowhere text place is none p (writes, some) =
    let same : place ≡ p = IsSocketV4Text_unique text place p is writes in
    let no : is_somewhere p ≡ false = subst (λ (it : SocketAddrV4). is_somewhere it ≡ false) same none in
    absurd (cc)

-- what is no place reads as an IP address does
pub end_reads : (usual : Option ℕ) (d : Data) → ((p : SocketAddrV4) → IsPlace d p → ⊥) → (r : Option SocketAddrV4)
    → Reads (IsUsualPlace usual) d r → Reads (IsEthernetEnd usual) d r
end_reads usual d none None reads = λ p h. elim h [ inl w ↦ none p w | inr w ↦ reads p w ]
end_reads usual d none (Some p) reads = inr reads

-- no text is both an IP address and one with a UDP port
not_both : (text octets : List ℕ) (p : SocketAddrV4) → IsDotted text octets → IsSocketV4Text text p → ⊥
not_both text octets p dotted (ip, port, split, is_ip, is_port) =
    let whole = read_ipv4_complete text octets [] dotted (lit≤ tt) in
    let stop : NoDigit 10 port = rw is_port.1 (lit≤ tt) in
    let front = read_ipv4_complete ip (ipv4_octets (v4_ip p)) port is_ip stop in
    let texts : text ++ [] ≡ ip ++ port = append-nil text ∙ split in
    let same = same_parts octets (ipv4_octets (v4_ip p)) [] port (sym whole ∙ ap read_ipv4 texts ∙ front) in
    let empty : [] ≡ codes ":" ++ is_port.0 = same.1 ∙ is_port.1 in
    absurd (cc)

-- a value is one IP address at most
ip_once : (d : Data) (a b : List ℕ) → IsIpAddress d a → IsIpAddress d b → a ≡ b
ip_once d a b (s, is_s, one, set) (t, is_t, other, set') =
    let same : s ≡ t = same_Some s t (sym is_s ∙ is_t) in
    let first : IsDotted t a = subst (λ (l : List ℕ). IsDotted l a) same one in
    ap (λ (it : Ipv4Addr). ipv4_octets it) (IsIpv4Text_unique t (record { octets = a }) (record { octets = b }) first other)

place_once : (d : Data) (a b : SocketAddrV4) → IsPlace d a → IsPlace d b → a ≡ b
place_once d a b (s, is_s, one) (t, is_t, other) =
    let same : s ≡ t = same_Some s t (sym is_s ∙ is_t) in
    IsSocketV4Text_unique t a b (subst (λ (l : List ℕ). IsSocketV4Text l a) same one.0) other.0

place_or_ip : (d : Data) (p : SocketAddrV4) (ip : List ℕ) → IsPlace d p → IsIpAddress d ip → ⊥
place_or_ip d p ip (s, is_s, one) (t, is_t, dotted, set) =
    let same : s ≡ t = same_Some s t (sym is_s ∙ is_t) in
    not_both t ip p dotted (subst (λ (l : List ℕ). IsSocketV4Text l p) same one.0)

-- a value lists one list of places at most
end_once : (usual : Option ℕ) (d : Data) (a b : SocketAddrV4) → IsEthernetEnd usual d a → IsEthernetEnd usual d b → a ≡ b
end_once usual d a b (inl one) (inl other) = place_once d a b one other
end_once usual d a b (inl one) (inr other) = absurd (place_or_ip d a other.1 one other.3)
end_once usual d a b (inr one) (inl other) = absurd (place_or_ip d b one.1 other one.3)
end_once usual d a b (inr (n, ip, is, one, at)) (inr (m, ip', is', other, at')) =
    let ports : n ≡ m = same_Some n m (sym is ∙ is') in
    let ips : ip ≡ ip' = ip_once d ip ip' one other in
    at ∙ ap (λ (it : List ℕ). v4_at it n) ips ∙ ap (λ (it : ℕ). v4_at ip' it) ports ∙ sym at'

each_end_once : (usual : Option ℕ) (ds : Items) (a b : List SocketAddrV4) → AreEach (IsEthernetEnd usual) ds a
    → AreEach (IsEthernetEnd usual) ds b → a ≡ b
each_end_once usual no_items a b one other = one ∙ sym other
each_end_once usual (item d ds) a b (x, xs, is, means, more) (y, ys, is', means', more') =
    is ∙ ap (λ it. it ∷ xs) (end_once usual d x y means means') ∙ ap (λ it. y ∷ it) (each_end_once usual ds xs ys more more') ∙ sym is'

ends_once : (usual : Option ℕ) (d : Data) (a b : Vec SocketAddrV4 Global) → AreEthernetEnds usual d a → AreEthernetEnds usual d b
    → a.items ≡ b.items
ends_once usual d a b (ds, is, one, some, few) (es, is', other, some', few') =
    let same : ds ≡ es = same_Some ds es (sym is ∙ is') in
    each_end_once usual es a.items b.items (subst (λ (it : Items). AreEach (IsEthernetEnd usual) it a.items) same one) other

-- if they are not the remotes of a port, the value has no other reading in which they are
pub not_remotes : (tunnel : Tunnel) (own : SocketAddrV4) (d : Data) (ends : Vec SocketAddrV4 Global)
    → AreEthernetEnds (usual_udp_port tunnel) d ends → can_be_remotes tunnel own ends.items ≡ false
    → (others : Vec SocketAddrV4 Global) → AreListedRemotes tunnel own d others → ⊥
not_remotes tunnel own d ends are none others (are', all) =
    let same : others.items ≡ ends.items = ends_once (usual_udp_port tunnel) d others ends are' are in
    let at = subst (λ (it : List SocketAddrV4). can_be_remotes tunnel own it ≡ true) same all in
    absurd (cc)

-- ---- the word any

-- its first byte is a hex digit, and the next one neither a digit nor a dot
any_unread : read_ipv4 (codes "any") ≡ None
any_unread = read_ipv4_none (97 ∷ []) (110 ∷ 121 ∷ []) (lit< tt, tt) (lit≤ tt) (omega arith)

-- it is no IP address
any_is_no_ip : (text octets : List ℕ) → text ≡ codes "any" → IsDotted text octets → ⊥
any_is_no_ip text octets is dotted =
    let whole : read_ipv4 (text ++ []) ≡ Some (octets, []) = read_ipv4_complete text octets [] dotted (lit≤ tt) in
    let texts : text ++ [] ≡ codes "any" = append-nil text ∙ is in
    let none : None ≡ Some (octets, []) = sym any_unread ∙ ap read_ipv4 (sym texts) ∙ whole in
    subst (λ (o : Option (List ℕ × List ℕ)). MatchOption o ⊤ (λ _. ⊥)) none tt

-- and no place
any_is_no_place : (text : List ℕ) (p : SocketAddrV4) → text ≡ codes "any" → IsSocketV4Text text p → ⊥
any_is_no_place text p is (ip, port, split, is_ip, is_port) =
    let stop : NoDigit 10 port = rw is_port.1 (lit≤ tt) in
    let front : read_ipv4 (ip ++ port) ≡ Some (ipv4_octets (v4_ip p), port) = read_ipv4_complete ip (ipv4_octets (v4_ip p)) port is_ip stop in
    let texts : codes "any" ≡ ip ++ port = sym is ∙ split in
    let none : None ≡ Some (ipv4_octets (v4_ip p), port) = sym any_unread ∙ ap read_ipv4 texts ∙ front in
    subst (λ (o : Option (List ℕ × List ℕ)). MatchOption o ⊤ (λ _. ⊥)) none tt

any_is_no_end : (usual : Option ℕ) (v : Data) (p : SocketAddrV4) → as_str v ≡ Some (codes "any") → IsEthernetEnd usual v p → ⊥
any_is_no_end usual v p any (inl (text, is, writes)) =
    any_is_no_place text p (same_Some text (codes "any") (sym is ∙ any)) writes.0
any_is_no_end usual v p any (inr (n, ip, is, (text, is_text, dotted, set), at)) =
    any_is_no_ip text ip (same_Some text (codes "any") (sym is_text ∙ any)) dotted

-- so an array of it alone lists no places
pub any_lists_none : (usual : Option ℕ) (d : Data) → IsAny d → (ends : Vec SocketAddrV4 Global) → AreEthernetEnds usual d ends → ⊥
any_lists_none usual d (v, only, any) ends (ds, is, each, some, few) =
    let same : ds ≡ item v no_items = same_Some ds (item v no_items) (sym is ∙ only) in
    let one = subst (λ (it : Items). AreEach (IsEthernetEnd usual) it ends.items) same each in
    any_is_no_end usual v one.0 any one.3

-- which values are such an array
pub is_one_word : (d : Data) (values : List Value) (word : Value) → as_array d ≡ Some (items_view values) → length values ≡ 1 → word ≡ slice_index_or values 0 word
    → as_str (view word) ≡ Some (codes "any") → IsAny d
is_one_word d [] word is one at any = absurd (omega (arith, one))
is_one_word d (x ∷ []) word is one at any = (view x, is, ap (λ (w : Value). as_str (view w)) (sym at) ∙ any)
is_one_word d (x ∷ y ∷ more) word is one at any = absurd (omega (arith, one))

pub is_other_word : (d : Data) (values : List Value) (word : Value) → as_array d ≡ Some (items_view values) → length values ≡ 1 → word ≡ slice_index_or values 0 word
    → (as_str (view word) ≡ Some (codes "any") → ⊥) → IsAny d → ⊥
is_other_word d [] word is one at other (v, only, any) = absurd (omega (arith, one))
is_other_word d (x ∷ []) word is one at other (v, only, any) =
    let same : item (view x) no_items ≡ item v no_items = same_Some _ _ (sym is ∙ only) in
    let word_is : view x ≡ v = cc in
    other (ap (λ (w : Value). as_str (view w)) at ∙ ap as_str word_is ∙ any)
is_other_word d (x ∷ y ∷ more) word is one at other (v, only, any) = absurd (omega (arith, one))

pub is_not_one : (d : Data) (values : List Value) → as_array d ≡ Some (items_view values) → (length values ≡ 1 → ⊥) → IsAny d → ⊥
is_not_one d [] is many (v, only, any) =
    let same : no_items ≡ item v no_items = same_Some _ _ (sym is ∙ only) in absurd (cc)
is_not_one d (x ∷ []) is many (v, only, any) = many refl
is_not_one d (x ∷ y ∷ more) is many (v, only, any) =
    let same : item (view x) (item (view y) (items_view more)) ≡ item v no_items = same_Some _ _ (sym is ∙ only) in
    absurd (cc)

-- the remotes that a value names
pub none_learn : (tunnel : Tunnel) (own : SocketAddrV4) (d : Data) → IsAny d → can_learn tunnel ≡ false → (r : RemotesConfig) → AreRemotesOf tunnel own d r → ⊥
none_learn tunnel own d any unable (Listed ends) are = any_lists_none (usual_udp_port tunnel) d any ends are.0
none_learn tunnel own d any unable Learned are = absurd (cc)

pub none_listed : (tunnel : Tunnel) (own : SocketAddrV4) (d : Data) → (IsAny d → ⊥) → ((ends : Vec SocketAddrV4 Global) → AreListedRemotes tunnel own d ends → ⊥)
    → (r : RemotesConfig) → AreRemotesOf tunnel own d r → ⊥
none_listed tunnel own d other none (Listed ends) are = none ends are
none_listed tunnel own d other none Learned are = other are.0
