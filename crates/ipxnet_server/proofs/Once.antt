-- Each client is known once.
use Rattle.std.proofs.Common.{◌≡◌, ◌≢◌, ◌≤◌, ◌<◌, ◌+◌, ◌-◌, ℕ, List, [], ◌∷◌, ◌++◌, Bool, true, false, Option, Some, None, length, take, drop, filter, find, not, cond, arith, refl, sym, ap, subst, eq-eqb, ◌∙◌, get_or, suc, zero}
use Rattle.std.specs.Prelude.{All, AllPairs, is_some, nat_le, if◌then◌else◌}
use Rattle.std.specs.Net.Addr.{ipv4_octets}
use Rattle.std.specs.Net.Socket.{v4_ip, v4_port}
use Rattle.std.specs.Str.{bytes_eq}
use Rattle.std.proofs.lemmas.Bool.{leb-false, leb-true}
use Rattle.std.proofs.lemmas.List.{drop-append-le, length-append, length-drop}
use Rattle.std.proofs.lemmas.List.Elements.{All-cons, All-drop, All-filter, All-head, All-push, All-tail, filter-append, filter_passes}
use Rattle.std.proofs.lemmas.List.Filters.{length-filter_both}
use Rattle.std.proofs.lemmas.List.Kept.{AllPairs-filter}
use Rattle.std.proofs.lemmas.List.Quantifiers.{all_pairs_push}
use Rattle.std.proofs.lemmas.Slice.Eq.{bytes_eq-Decides}
use Rattle.ipx_wire.specs.declared.address.Node.{Node}
use Rattle.ipxnet_server.specs.declared.clients.Client.{Client}
use Rattle.std.specs.declared.net.socket_addr.SocketAddrV4.{SocketAddrV4}
use Rattle.ipxnet_server.specs.declared.port.ServerPort.{ServerPort}
use Rattle.ipxnet_server.specs.ServerClients.{AreFewOfEachIp, AreTwoClients, EachClientOnce, HasPlaceNode, are_one_place, client_at, client_of_node, client_that_goes, clients_but, clients_heard, clients_left, clients_moved, clients_of_ip, clients_with, forgotten_after, has_client_node, is_client_at, is_client_of_ip, max_address_clients, new_client, node_of_place, was_heard_within}
use Rattle.ipxnet_server.specs.ServerInside.{AreClients}

-- ---- lists

pub heads : {X : Type 0} (R : X → X → Type 0) (x : X) (xs : List X) → AllPairs R (x ∷ xs) → All (R x) xs
heads R x xs pairs k d lt = pairs 0 (suc k) d (omega arith) (omega (arith, lt))

pub tails : {X : Type 0} (R : X → X → Type 0) (x : X) (xs : List X) → AllPairs R (x ∷ xs) → AllPairs R xs
tails R x xs pairs i j d lt len = pairs (suc i) (suc j) d (omega (arith, lt)) (omega (arith, len))

behind : {X : Type 0} (R : X → X → Type 0) (n : ℕ) (xs : List X) → AllPairs R xs → AllPairs R (drop n xs)
behind R zero xs pairs = pairs
behind R (suc n) [] pairs = pairs
behind R (suc n) (x ∷ xs) pairs = behind R n xs (tails R x xs pairs)

pub fewer : {X : Type 0} (p : X → Bool) (xs : List X) → length (filter p xs) ≤ length xs
fewer p xs = omega (arith, length-filter_both p (λ x. not (p x)) (λ x. refl) xs)

-- of those that pass one test, no more pass another too
more_by : {X : Type 0} (b : Bool) (x : X) (ks ms : List X) → length ks ≤ length ms → length (cond b (x ∷ ks) ks) ≤ length (cond b (x ∷ ms) ms)
more_by true x ks ms le = omega (arith, le)
more_by false x ks ms le = omega (arith, le)

one_more : {X : Type 0} (b : Bool) (x : X) (ks ms : List X) → length ks ≤ length ms → length ks ≤ length (cond b (x ∷ ms) ms)
one_more true x ks ms le = omega (arith, le)
one_more false x ks ms le = omega (arith, le)

fewer_by : {X : Type 0} (p : X → Bool) (x : X) (b : Bool) (kept xs : List X) → length (filter p kept) ≤ length (filter p xs) → length (filter p (cond b (x ∷ kept) kept)) ≤ length (filter p (x ∷ xs))
fewer_by p x true kept xs le = more_by (p x) x (filter p kept) (filter p xs) le
fewer_by p x false kept xs le = one_more (p x) x (filter p kept) (filter p xs) le

pub fewer_both : {X : Type 0} (p q : X → Bool) (xs : List X) → length (filter p (filter q xs)) ≤ length (filter p xs)
fewer_both p q [] = omega arith
fewer_both p q (x ∷ xs) = fewer_by p x (q x) (filter q xs) xs (fewer_both p q xs)

pub fewer_behind : {X : Type 0} (p : X → Bool) (n : ℕ) (xs : List X) → length (filter p (drop n xs)) ≤ length (filter p xs)
fewer_behind p zero xs = omega arith
fewer_behind p (suc n) [] = omega arith
fewer_behind p (suc n) (x ∷ xs) = one_more (p x) x (filter p (drop n xs)) (filter p xs) (fewer_behind p n xs)

pub after_all : {X : Type 0} (xs : List X) (x : X) → take (length xs) xs ++ x ∷ drop (length xs) xs ≡ xs ++ x ∷ []
after_all [] x = refl
after_all (y ∷ xs) x = ap (λ l. y ∷ l) (after_all xs x)

-- ---- clients

pub once_left : (now most room : ℕ) (known : List Client) → AreClients most known room → AreClients most (clients_left now known) room
once_left now most room known are = record {
  some = are.some;
  few = are.few;
  within = omega (arith, are.within, fewer (was_heard_within forgotten_after now) known);
  once = AllPairs-filter AreTwoClients (was_heard_within forgotten_after now) known are.once;
  each = λ place. omega (arith, are.each place, fewer_both (is_client_of_ip place) (was_heard_within forgotten_after now) known);
  all = are.all;
}

pub same_place : (p : SocketAddrV4) → are_one_place p p ≡ true
same_place p = rw ((bytes_eq-Decides (ipv4_octets (v4_ip p)) (ipv4_octets (v4_ip p))).1 refl) (eq-eqb (v4_port p) (v4_port p) refl)

same_node : (a b : Node) → a ≡ b → bytes_eq a.0 b.0 ≡ true
same_node a b is = (bytes_eq-Decides a.0 b.0).1 (ap (λ (n : Node). n.0) is)

is_not : (b : Bool) → not b ≡ true → b ≡ false
is_not true e = cc
is_not false e = refl

absurd_below : {P : Type 0} {k : ℕ} → k < 0 → P
absurd_below {P} {k} lt = absurd (omega (arith, lt))

pub absurd_none : {X : Type 0} {P : Type 0} (c : X) → None ≡ Some c → P
absurd_none c e = cc

not_here : (place : SocketAddrV4) (k c : Client) → is_client_at place k ≡ false → is_client_at place c ≡ true → k.place ≢ c.place
not_here place k c isnt here same = cc (ap (λ (p : SocketAddrV4). are_one_place p place) same)

pub some_is : {X : Type 0} (x c : X) → Some x ≡ Some c → x ≡ c
some_is x c e = cc

-- what holds for all holds for the one that is found
has_by : {X : Type 0} (P : X → Type 0) (x c : X) (b : Bool) (o : Option X) → P x → (o ≡ Some c → P c) → cond b (Some x) o ≡ Some c → P c
has_by P x c true o px rest found = subst P (some_is x c found) px
has_by P x c false o px rest found = rest found

pub found_has : {X : Type 0} (P : X → Type 0) (p : X → Bool) (xs : List X) (c : X) → All P xs → find p xs ≡ Some c → P c
found_has P p [] c all found = absurd_none c found
found_has P p (x ∷ xs) c all found = has_by P x c (p x) (find p xs) (All-head P x xs all) (found_has P p xs c (All-tail P x xs all)) found

passes_by : {X : Type 0} (p : X → Bool) (x c : X) (b : Bool) (o : Option X) → p x ≡ b → (o ≡ Some c → p c ≡ true) → cond b (Some x) o ≡ Some c → p c ≡ true
passes_by {X = X} p x c true o is rest found = subst (λ (y : X). p y ≡ true) (some_is x c found) is
passes_by {X = X} p x c false o is rest found = rest found

pub found_passes : {X : Type 0} (p : X → Bool) (xs : List X) (c : X) → find p xs ≡ Some c → p c ≡ true
found_passes p [] c found = cc
found_passes p (x ∷ xs) c found = passes_by p x c (p x) (find p xs) refl (found_passes p xs c) found

fails_by : {X : Type 0} (p : X → Bool) (x : X) (xs : List X) (b : Bool) → p x ≡ b → (find p xs ≡ None → All (λ y. p y ≡ false) xs) → cond b (Some x) (find p xs) ≡ None → All (λ y. p y ≡ false) (x ∷ xs)
fails_by p x xs true is rest none = cc
fails_by p x xs false is rest none = All-cons (λ y. p y ≡ false) x xs is (rest none)

none_passes : {X : Type 0} (p : X → Bool) (xs : List X) → find p xs ≡ None → All (λ y. p y ≡ false) xs
none_passes p [] none = λ k d lt. absurd_below lt
none_passes p (x ∷ xs) none = fails_by p x xs (p x) refl (none_passes p xs) none

-- clients at another address have another node
abbrev Differs : SocketAddrV4 → Client → Client → Type 0
Differs place c k = is_client_at place k ≡ false → k.node ≢ c.node

itself : (place : SocketAddrV4) (x c : Client) → is_client_at place x ≡ true → Differs place c x
itself place x c here isnt same = cc

others_of : (place : SocketAddrV4) (x c : Client) (xs : List Client) → x ≡ c → All (AreTwoClients x) xs → All (Differs place c) xs
others_of place x c xs is apart k d lt isnt same = (apart k d lt).nodes (ap (λ (y : Client). y.node) is ∙ sym same)

one_before : (place : SocketAddrV4) (x c : Client) → AreTwoClients x c → Differs place c x
one_before place x c two isnt same = two.nodes same

differs_by : (place : SocketAddrV4) (x c : Client) (xs : List Client) (b : Bool) → is_client_at place x ≡ b → All (AreTwoClients x) xs
    → (find (is_client_at place) xs ≡ Some c → All (Differs place c) xs) → cond b (Some x) (find (is_client_at place) xs) ≡ Some c → All (Differs place c) (x ∷ xs)
differs_by place x c xs true is apart rest found =
    All-cons (Differs place c) x xs (itself place x c is) (others_of place x c xs (some_is x c found) apart)
differs_by place x c xs false is apart rest found =
    All-cons (Differs place c) x xs (one_before place x c (found_has (AreTwoClients x) (is_client_at place) xs c apart found)) (rest found)

others_differ : (place : SocketAddrV4) (c : Client) (xs : List Client) → EachClientOnce xs → find (is_client_at place) xs ≡ Some c → All (Differs place c) xs
others_differ place c [] once found = cc
others_differ place c (x ∷ xs) once found =
    differs_by place x c xs (is_client_at place x) refl (heads AreTwoClients x xs once) (others_differ place c xs (tails AreTwoClients x xs once)) found

-- clients at another address are not the one that is heard
abbrev AreOthers : SocketAddrV4 → Client → Client → Type 0
AreOthers place c k = is_client_at place k ≡ false → AreTwoClients k c

at_another : (place : SocketAddrV4) (k : Client) → is_client_at place k ≡ false → k.place ≢ place
at_another place k isnt same = cc (ap (λ (p : SocketAddrV4). are_one_place p place) same ∙ same_place place)

of_another : (node : Node) (k : Client) → has_client_node node k ≡ false → k.node ≢ node
of_another node k isnt same = cc (same_node k.node node same)

abbrev heard_now : ℕ → Client → Client
heard_now now c = record c { heard = now }

others_known : (place : SocketAddrV4) (now : ℕ) (known : List Client) (c : Client) → EachClientOnce known → client_at place known ≡ Some c → All (AreOthers place (heard_now now c)) known
others_known place now known c once is k d lt isnt =
    record {
      places = λ same. not_here place (get_or known k d) c isnt (found_passes (is_client_at place) known c is) same;
      nodes = others_differ place c known once is k d lt isnt;
    }

others_new : (node : Node) (place : SocketAddrV4) (now : ℕ) (known : List Client) → client_at place known ≡ None → client_of_node node known ≡ None → All (λ k. AreTwoClients k (new_client node place now)) known
others_new node place now known no_client free k d lt =
    record {
      places = at_another place (get_or known k d) (none_passes (is_client_at place) known no_client k d lt);
      nodes = of_another node (get_or known k d) (none_passes (has_client_node node) known free k d lt);
    }

kept_others : (place : SocketAddrV4) (c : Client) (known : List Client) → All (AreOthers place c) known
    → (k : ℕ) (d : Client) → k < length (filter (λ x. not (is_client_at place x)) known) → AreTwoClients (get_or (filter (λ x. not (is_client_at place x)) known) k d) c
kept_others place c known others k d lt =
    All-filter (λ x. not (is_client_at place x)) (AreOthers place c) known others k d lt
    (is_not (is_client_at place (get_or (filter (λ x. not (is_client_at place x)) known) k d)) (filter_passes (λ x. not (is_client_at place x)) known k d lt))

-- ---- each of them has the node of its address

but_all : (P : Client → Type 0) (o : Option Client) (known : List Client) → All P known → All P (clients_but o known)
but_all P None known all = all
but_all P (Some c) known all = All-filter (λ k. not (is_client_at c.place k)) P known all

pub nodes_left : (port : ServerPort) (now : ℕ) (known : List Client) → All (HasPlaceNode port) known → All (HasPlaceNode port) (clients_left now known)
nodes_left port now known nodes = All-filter (was_heard_within forgotten_after now) (HasPlaceNode port) known nodes

nodes_moved : (port : ServerPort) (place : SocketAddrV4) (now : ℕ) (known : List Client) (o : Option Client) → client_at place known ≡ o → All (HasPlaceNode port) known → All (HasPlaceNode port) (clients_moved place now known o)
nodes_moved port place now known None is nodes = nodes
nodes_moved port place now known (Some c) is nodes =
    let test = λ (x : Client). not (is_client_at place x) in
    All-push (HasPlaceNode port) (filter test known) (heard_now now c) (All-filter test (HasPlaceNode port) known nodes) (found_has (HasPlaceNode port) (is_client_at place) known c nodes is)

pub nodes_heard : (port : ServerPort) (place : SocketAddrV4) (now : ℕ) (known : List Client) → All (HasPlaceNode port) known → All (HasPlaceNode port) (clients_heard place now known)
nodes_heard port place now known nodes = nodes_moved port place now known (client_at place known) refl nodes

pub nodes_with : (port : ServerPort) (most now : ℕ) (place : SocketAddrV4) (known : List Client) → All (HasPlaceNode port) known → All (HasPlaceNode port) (clients_with most (node_of_place port place) place now known)
nodes_with port most now place known nodes =
    let kept : List Client = clients_but (client_that_goes place known) known in
    let n = length kept + 1 - most in
    All-push (HasPlaceNode port) (drop n kept) (new_client (node_of_place port place) place now)
    (All-drop (HasPlaceNode port) n kept (but_all (HasPlaceNode port) (client_that_goes place known) known nodes)) refl

-- ---- the one that is heard

shorter_by : (from : SocketAddrV4) (x c : Client) (b : Bool) (kept rest : List Client) → is_client_at from x ≡ b → length kept ≤ length rest → (find (is_client_at from) rest ≡ Some c → length kept + 1 ≤ length rest) → cond b (Some x) (find (is_client_at from) rest) ≡ Some c
    → length (cond (not b) (x ∷ kept) kept) + 1 ≤ length (x ∷ rest)
shorter_by from x c true kept rest is few less found = omega (arith, few)
shorter_by from x c false kept rest is few less found = omega (arith, less found)

pub shorter : (from : SocketAddrV4) (c : Client) (xs : List Client) → client_at from xs ≡ Some c → length (filter (λ k. not (is_client_at from k)) xs) + 1 ≤ length xs
shorter from c [] found = cc
shorter from c (x ∷ xs) found =
    shorter_by from x c (is_client_at from x) (filter (λ k. not (is_client_at from k)) xs) xs refl (fewer (λ k. not (is_client_at from k)) xs) (shorter from c xs) found

known_shorter : (from : SocketAddrV4) (xs : List Client) (o : Option Client) → client_at from xs ≡ o → is_some o ≡ true → length (filter (λ k. not (is_client_at from k)) xs) + 1 ≤ length xs
known_shorter from xs None is there = cc
known_shorter from xs (Some c) is there = shorter from c xs is

pub shorter_known : (from : SocketAddrV4) (xs kept : List Client) → kept ≡ filter (λ k. not (is_client_at from k)) xs → is_some (client_at from xs) ≡ true → length kept < length xs
shorter_known from xs kept is there =
    omega (arith, ap length is, known_shorter from xs (client_at from xs) refl there)

last_by : (x d : Client) (ks ms : List Client) (a b : Bool) → b ≡ a → length ks ≤ length ms → length ks + length (cond b (d ∷ []) []) ≤ length (cond a (x ∷ ms) ms)
last_by x d ks ms true true e le = omega (arith, le)
last_by x d ks ms false false e le = omega (arith, le)
last_by x d ks ms true false e le = cc
last_by x d ks ms false true e le = cc

first_by : (x : Client) (ks ms : List Client) (a : Bool) (n : ℕ) → length ks + n ≤ length ms → length (cond a (x ∷ ks) ks) + n ≤ length (cond a (x ∷ ms) ms)
first_by x ks ms true n le = omega (arith, le)
first_by x ks ms false n le = omega (arith, le)

moved_by : (p test : Client → Bool) (x c d : Client) (kept xs : List Client) (b : Bool) → p d ≡ p c → length (filter p kept) ≤ length (filter p xs)
    → (find test xs ≡ Some c → length (filter p kept) + length (filter p (d ∷ [])) ≤ length (filter p xs)) → cond b (Some x) (find test xs) ≡ Some c
    → length (filter p (cond (not b) (x ∷ kept) kept)) + length (filter p (d ∷ [])) ≤ length (filter p (x ∷ xs))
moved_by p test x c d kept xs true same few rest found = last_by x d (filter p kept) (filter p xs) (p x) (p d) (same ∙ ap p (sym (some_is x c found))) few
moved_by p test x c d kept xs false same few rest found = first_by x (filter p kept) (filter p xs) (p x) (length (filter p (d ∷ []))) (rest found)

moved_fewer : (p : Client → Bool) (place : SocketAddrV4) (c d : Client) (xs : List Client) → p d ≡ p c → client_at place xs ≡ Some c
    → length (filter p (filter (λ k. not (is_client_at place k)) xs)) + length (filter p (d ∷ [])) ≤ length (filter p xs)
moved_fewer p place c d [] same found = cc
moved_fewer p place c d (x ∷ xs) same found =
    let test = λ (k : Client). not (is_client_at place k) in
    moved_by p (is_client_at place) x c d (filter test xs) xs (is_client_at place x) same (fewer_both p test xs) (moved_fewer p place c d xs same) found

pub counted : {X : Type 0} (p : X → Bool) (ks : List X) (d : X) → length (filter p (ks ++ d ∷ [])) ≡ length (filter p ks) + length (filter p (d ∷ []))
counted p ks d = ap length (filter-append p ks (d ∷ [])) ∙ length-append (filter p ks) (filter p (d ∷ []))

once_moved : (most room now : ℕ) (place : SocketAddrV4) (known : List Client) (o : Option Client) → client_at place known ≡ o → AreClients most known room → AreClients most (clients_moved place now known o) room
once_moved most room now place known None is are = are
once_moved most room now place known (Some c) is are =
    let test = λ (x : Client). not (is_client_at place x) in
    let kept : List Client = filter test known in
    let d : Client = heard_now now c in
    record {
      some = are.some;
      few = are.few;
      within = omega (arith, are.within, shorter place c known is, length-append kept (d ∷ []));
      once = all_pairs_push AreTwoClients kept d (AllPairs-filter AreTwoClients test known are.once) (kept_others place d known (others_known place now known c are.once is));
      each = λ q. omega (arith, are.each q, counted (is_client_of_ip q) kept d, moved_fewer (is_client_of_ip q) place c d known refl is);
      all = are.all;
    }

pub once_heard : (most room now : ℕ) (place : SocketAddrV4) (known : List Client) → AreClients most known room → AreClients most (clients_heard place now known) room
once_heard most room now place known are = once_moved most room now place known (client_at place known) refl are

-- ---- a new one

gone_by : (p : Client → Bool) (x : Client) (test : Client → Bool) (xs : List Client) (b : Bool) → p x ≡ false → length (filter p (filter test xs)) + 1 ≤ length (filter p xs) → length (filter p (cond b (x ∷ filter test xs) (filter test xs))) + 1 ≤ length (filter p xs)
gone_by p x test xs true isnt le =
    omega (arith, le, ap (λ (b : Bool). length (cond b (x ∷ filter p (filter test xs)) (filter p (filter test xs)))) isnt)
gone_by p x test xs false isnt le = omega (arith, le)

gone_if : (p : Client → Bool) (x c : Client) (xs : List Client) (b : Bool) → p x ≡ b → (find p xs ≡ Some c → length (filter p (filter (λ k. not (is_client_at c.place k)) xs)) + 1 ≤ length (filter p xs)) → cond b (Some x) (find p xs) ≡ Some c
    → length (filter p (filter (λ k. not (is_client_at c.place k)) (x ∷ xs))) + 1 ≤ length (cond b (x ∷ filter p xs) (filter p xs))
gone_if p x c xs true is rest found =
    let test = λ (k : Client). not (is_client_at c.place k) in
    let here : is_client_at c.place x ≡ true = ap (λ (k : Client). is_client_at k.place x) (sym (some_is x c found)) ∙ same_place x.place in
    let same : length (filter p (filter test (x ∷ xs))) ≡ length (filter p (filter test xs)) = ap (λ (b : Bool). length (filter p (cond (not b) (x ∷ filter test xs) (filter test xs)))) here in
    omega (arith, same, fewer_both p test xs)
gone_if p x c xs false is rest found = gone_by p x (λ k. not (is_client_at c.place k)) xs (not (is_client_at c.place x)) is (rest found)

gone_fewer : (p : Client → Bool) (c : Client) (xs : List Client) → find p xs ≡ Some c → length (filter p (filter (λ k. not (is_client_at c.place k)) xs)) + 1 ≤ length (filter p xs)
gone_fewer p c [] found = cc
gone_fewer p c (x ∷ xs) found = gone_if p x c xs (p x) refl (gone_fewer p c xs) found

none_by : {X : Type 0} (p : X → Bool) (x : X) (xs : List X) (b : Bool) → (find p xs ≡ None → length (filter p xs) ≡ 0) → cond b (Some x) (find p xs) ≡ None → length (cond b (x ∷ filter p xs) (filter p xs)) ≡ 0
none_by p x xs true rest none = cc
none_by p x xs false rest none = rest none

pub none_counted : {X : Type 0} (p : X → Bool) (xs : List X) → find p xs ≡ None → length (filter p xs) ≡ 0
none_counted p [] none = refl
none_counted p (x ∷ xs) none = none_by p x xs (p x) (none_counted p xs) none

found_goes : (place : SocketAddrV4) (known : List Client) (o : Option Client) → find (is_client_of_ip place) known ≡ o → max_address_clients ≤ length (clients_of_ip place known) → length (clients_of_ip place known) ≤ max_address_clients
    → length (clients_of_ip place (clients_but o known)) + 1 ≤ max_address_clients
found_goes place known None is many few = absurd (omega (arith, many, none_counted (is_client_of_ip place) known is))
found_goes place known (Some c) is many few = omega (arith, few, gone_fewer (is_client_of_ip place) c known is)

goes_by : (place : SocketAddrV4) (known : List Client) (b : Bool) → nat_le max_address_clients (length (clients_of_ip place known)) ≡ b → length (clients_of_ip place known) ≤ max_address_clients
    → length (clients_of_ip place (clients_but (if b then find (is_client_of_ip place) known else None) known)) + 1 ≤ max_address_clients
goes_by place known true is few = found_goes place known (find (is_client_of_ip place) known) refl (leb-true max_address_clients (length (clients_of_ip place known)) is) few
goes_by place known false is few = omega (arith, leb-false max_address_clients (length (clients_of_ip place known)) is)

room_made : (place : SocketAddrV4) (known : List Client) → AreFewOfEachIp known → length (clients_of_ip place (clients_but (client_that_goes place known) known)) + 1 ≤ max_address_clients
room_made place known each =
    goes_by place known (nat_le max_address_clients (length (clients_of_ip place known))) refl (each place)

but_fewer : (p : Client → Bool) (o : Option Client) (known : List Client) → length (filter p (clients_but o known)) ≤ length (filter p known)
but_fewer p None known = omega arith
but_fewer p (Some c) known = fewer_both p (λ k. not (is_client_at c.place k)) known

but_short : (o : Option Client) (known : List Client) → length (clients_but o known) ≤ length known
but_short None known = omega arith
but_short (Some c) known = fewer (λ k. not (is_client_at c.place k)) known

but_pairs : (o : Option Client) (known : List Client) → EachClientOnce known → EachClientOnce (clients_but o known)
but_pairs None known once = once
but_pairs (Some c) known once = AllPairs-filter AreTwoClients (λ k. not (is_client_at c.place k)) known once

-- an address has one more, if the new one has it
each_by : (place q : SocketAddrV4) (d : Client) (kept known : List Client) (b : Bool) → bytes_eq (ipv4_octets (v4_ip place)) (ipv4_octets (v4_ip q)) ≡ b → length (clients_of_ip place kept) + 1 ≤ max_address_clients → length (clients_of_ip q kept) ≤ max_address_clients
    → length (clients_of_ip q kept) + length (cond b (d ∷ []) []) ≤ max_address_clients
each_by place q d kept known true is few all =
    let same : ipv4_octets (v4_ip place) ≡ ipv4_octets (v4_ip q) = (bytes_eq-Decides (ipv4_octets (v4_ip place)) (ipv4_octets (v4_ip q))).0 is in
    let one : length (clients_of_ip place kept) ≡ length (clients_of_ip q kept) = ap (λ (ip : List ℕ). length (filter (λ (k : Client). bytes_eq (ipv4_octets (v4_ip k.place)) ip) kept)) same in
    omega (arith, one, few)
each_by place q d kept known false is few all = omega (arith, all)

pub once_with : (most room now : ℕ) (node : Node) (place : SocketAddrV4) (known : List Client) → AreClients most known room
    → client_at place known ≡ None → client_of_node node known ≡ None → AreClients most (clients_with most node place now known) room
once_with most room now node place known are no_client free =
    let goes : Option Client = client_that_goes place known in
    let kept : List Client = clients_but goes known in
    let d : Client = new_client node place now in
    let n = length kept + 1 - most in
    let some : 1 ≤ most = are.some in
    let within : length known ≤ most = are.within in
    let few : length kept ≤ length known = but_short goes known in
    let apart : All (λ k. AreTwoClients k d) kept = but_all (λ k. AreTwoClients k d) goes known (others_new node place now known no_client free) in
    let pairs : EachClientOnce (kept ++ d ∷ []) = all_pairs_push AreTwoClients kept d (but_pairs goes known are.once) apart in
    let joined : drop n (kept ++ d ∷ []) ≡ drop n kept ++ d ∷ [] = drop-append-le n kept (d ∷ []) (omega (arith, some, within, few)) in
    record {
      some = are.some;
      few = are.few;
      within = omega (arith, some, within, few, length-append (drop n kept) (d ∷ []), length-drop n kept);
      once = subst EachClientOnce joined (behind AreTwoClients n (kept ++ d ∷ []) pairs);
      each = λ q.
          let p = is_client_of_ip q in
          let all : length (clients_of_ip q kept) ≤ max_address_clients = omega (arith, are.each q, but_fewer p goes known) in
          let more = each_by place q d kept known (bytes_eq (ipv4_octets (v4_ip place)) (ipv4_octets (v4_ip q))) refl (room_made place known are.each) all in
          omega (arith, counted p (drop n kept) d, fewer_behind p n kept, more);
      all = are.all;
    }
