-- Who was heard lately stays a client.
use Rattle.std.proofs.Common.{◌≡◌, ◌≤◌, ◌+◌, ◌-◌, ℕ, zero, suc, List, [], ◌∷◌, ◌++◌, Bool, true, false, Option, Some, None, length, drop, filter, find, not, cond, arith, refl, sym, ap, get_or, ◌∙◌, ltb-true}
use Rattle.std.specs.Prelude.{All, is_some, ◌&&◌, nat_le, nat_lt, if◌then◌else◌}
use Rattle.std.specs.declared.net.socket_addr.SocketAddrV4.{SocketAddrV4}
use Rattle.std.proofs.lemmas.Bool.{false_from_ne_true, le-leb, lt-ltb}
use Rattle.std.proofs.lemmas.List.Elements.{All-cons}
use Rattle.std.proofs.lemmas.List.Folds.{find-append}
use Rattle.ipx_wire.specs.declared.address.Node.{Node}
use Rattle.ipxnet_server.specs.declared.clients.Client.{Client}
use Rattle.ipxnet_server.specs.ServerClients.{AreTwoClients, EachClientOnce, are_one_place, client_at, clients_but, clients_left, clients_of_ip, clients_with, forgotten_after, is_address_full, is_client_at, is_client_of_ip, is_first_heard, is_server_full, max_address_clients, new_client, node_of_place, replaced_after, was_heard_lately, was_heard_within}
use Rattle.ipxnet_server.specs.ServerHears.{ServerView}
use Rattle.ipxnet_server.specs.ServerInside.{Known, MayKnow, Same}
use Rattle.ipxnet_server.proofs.Once.{fewer, found_has, heads, same_place, some_is, tails}
use Rattle.ipxnet_server.proofs.Still.{elsewhere, first_is, one_place, stay}

-- ---- what a filter keeps is found behind it too

left_by : (test keep : Client → Bool) (x c : Client) (rest xs : List Client) (b d : Bool) → test x ≡ b → keep x ≡ d → keep c ≡ true → (find test xs ≡ Some c → find test rest ≡ Some c) → cond b (Some x) (find test xs) ≡ Some c
    → find test (cond d (x ∷ rest) rest) ≡ Some c
left_by test keep x c rest xs true true is kept good same found = rw is found
left_by test keep x c rest xs true false is kept good same found = cc (ap keep (some_is x c found))
left_by test keep x c rest xs false true is kept good same found = rw is (same found)
left_by test keep x c rest xs false false is kept good same found = same found

found_left : (test keep : Client → Bool) (xs : List Client) (c : Client) → find test xs ≡ Some c → keep c ≡ true → find test (filter keep xs) ≡ Some c
found_left test keep [] c found good = cc
found_left test keep (x ∷ xs) c found good =
    left_by test keep x c (filter keep xs) xs (test x) (keep x) refl refl good (λ e. found_left test keep xs c e good) found

lately_left : (time : ℕ) → nat_lt time replaced_after ≡ true → nat_lt time forgotten_after ≡ true
lately_left time e = lt-ltb time forgotten_after (omega (arith, ltb-true time replaced_after e))

pub recent_left : (now : ℕ) (place : SocketAddrV4) (xs : List Client) (c : Client) → client_at place xs ≡ Some c → was_heard_within replaced_after now c ≡ true → client_at place (clients_left now xs) ≡ Some c
recent_left now place xs c found late =
    found_left (is_client_at place) (was_heard_within forgotten_after now) xs c found (lately_left (now - c.heard) late)

-- ---- nobody else has the address of a client

other_by : (place : SocketAddrV4) (x c : Client) (xs : List Client) (b : Bool) → is_client_at place x ≡ b → All (AreTwoClients x) xs
    → (find (is_client_at place) xs ≡ Some c → All (λ k. is_client_at place k ≡ true → k ≡ c) xs) → cond b (Some x) (find (is_client_at place) xs) ≡ Some c → All (λ k. is_client_at place k ≡ true → k ≡ c) (x ∷ xs)
other_by place x c xs true is apart rest found =
    All-cons (λ k. is_client_at place k ≡ true → k ≡ c) x xs (λ e. some_is x c found)
    (λ k d lt here. absurd ((apart k d lt).places (one_place x.place place is ∙ sym (one_place (get_or xs k d).place place here))))
other_by place x c xs false is apart rest found =
    All-cons (λ k. is_client_at place k ≡ true → k ≡ c) x xs (λ e. cc) (rest found)

only_one : (place : SocketAddrV4) (xs : List Client) (c : Client) → EachClientOnce xs → client_at place xs ≡ Some c → All (λ k. is_client_at place k ≡ true → k ≡ c) xs
only_one place [] c once found = cc
only_one place (x ∷ xs) c once found =
    other_by place x c xs (is_client_at place x) refl (heads AreTwoClients x xs once) (only_one place xs c (tails AreTwoClients x xs once)) found

-- ---- who goes for another of its IP address was not heard lately

not_it : (now : ℕ) (place : SocketAddrV4) (c g : Client) → was_heard_within replaced_after now c ≡ true → was_heard_within replaced_after now g ≡ false → (is_client_at place g ≡ true → g ≡ c) → is_client_at place g ≡ false
not_it now place c g late old one =
    false_from_ne_true (is_client_at place g) (λ is. cc (late, old, ap (was_heard_within replaced_after now) (one is)))

gone_if : (p : Client → Bool) (x c : Client) (xs : List Client) (b d : Bool) → is_client_at c.place x ≡ d → (find p xs ≡ Some c → length (filter (λ k. not (is_client_at c.place k)) xs) + 1 ≤ length xs) → cond b (Some x) (find p xs) ≡ Some c
    → length (cond (not d) (x ∷ filter (λ k. not (is_client_at c.place k)) xs) (filter (λ k. not (is_client_at c.place k)) xs)) + 1 ≤ length (x ∷ xs)
gone_if p x c xs b true is rest found = omega (arith, fewer (λ k. not (is_client_at c.place k)) xs)
gone_if p x c xs true false is rest found =
    cc (is, ap (λ (k : Client). is_client_at k.place x) (sym (some_is x c found)), same_place x.place)
gone_if p x c xs false false is rest found = omega (arith, rest found)

gone_short : (p : Client → Bool) (c : Client) (xs : List Client) → find p xs ≡ Some c → length (filter (λ k. not (is_client_at c.place k)) xs) + 1 ≤ length xs
gone_short p c [] found = cc
gone_short p c (x ∷ xs) found = gone_if p x c xs (p x) (is_client_at c.place x) refl (gone_short p c xs) found

-- ---- nor was the first, if there are too many

second : (now : ℕ) (place : SocketAddrV4) (x c : Client) (xs : List Client) (b : Bool) → was_heard_within replaced_after now x ≡ false → was_heard_within replaced_after now c ≡ true → cond b (Some x) (find (is_client_at place) xs) ≡ Some c → find (is_client_at place) xs ≡ Some c
second now place x c xs true old late found = cc (old, late, ap (was_heard_within replaced_after now) (some_is x c found))
second now place x c xs false old late found = found

without_first : (now : ℕ) (place : SocketAddrV4) (c : Client) (xs : List Client) (n : ℕ) → n ≤ 1 → (n ≡ 1 → is_first_heard now xs ≡ false) → client_at place xs ≡ Some c → was_heard_within replaced_after now c ≡ true → is_some (client_at place (drop n xs)) ≡ true
without_first now place c xs zero few old found late = ap is_some found
without_first now place c [] (suc zero) few old found late = cc
without_first now place c (x ∷ xs) (suc zero) few old found late =
    ap is_some (second now place x c xs (is_client_at place x) (old refl) late found)
without_first now place c xs (suc (suc n)) few old found late = absurd (omega (arith, few))

first_old : (b f : Bool) → (b && f) ≡ false → b ≡ true → f ≡ false
first_old true f e is = e
first_old false f e is = cc

module _ (most now : ℕ) (node : Node) (from place : SocketAddrV4) (xs : List Client) (c : Client) (few : length xs ≤ most) (once : EachClientOnce xs) (found : client_at place xs ≡ Some c) (late : was_heard_within replaced_after now c ≡ true) (full : is_server_full most now xs ≡ false) where
  abbrev Stays : Option Client → Type 0
  Stays o = is_some (client_at place (drop (length (clients_but o xs) + 1 - most) (clients_but o xs) ++ new_client node from now ∷ [])) ≡ true

  before : (ks : List Client) → is_some (client_at place ks) ≡ true → is_some (client_at place (ks ++ new_client node from now ∷ [])) ≡ true
  before ks there =
      ap is_some (find-append (is_client_at place) ks (new_client node from now ∷ [])) ∙ first_is (find (is_client_at place) ks) (find (is_client_at place) (new_client node from now ∷ [])) there

  none_goes : Stays None
  none_goes =
      let n = length xs + 1 - most in
      before (drop n xs) (without_first now place c xs n (omega (arith, few))
      (λ is. first_old (nat_le most (length xs)) (is_first_heard now xs) full (le-leb most (length xs) (omega (arith, is)))) found late)

  one_goes : (p : Client → Bool) (g : Client) → find p xs ≡ Some g → was_heard_within replaced_after now g ≡ false → Stays (Some g)
  one_goes p g is old =
      let ks : List Client = filter (λ k. not (is_client_at g.place k)) xs in
      let one : is_client_at place g ≡ true → g ≡ c = found_has (λ k. is_client_at place k ≡ true → k ≡ c) p xs g (only_one place xs c once found) is in
      let isnt : are_one_place place g.place ≡ false = elsewhere place g.place (not_it now place c g late old one) in
      let there : is_some (client_at place ks) ≡ true = ap is_some (stay g.place place xs isnt ∙ found) in
      let zero : length ks + 1 - most ≡ 0 = omega (arith, few, gone_short p g xs is) in
      ap (λ (n : ℕ). is_some (client_at place (drop n ks ++ new_client node from now ∷ []))) zero ∙ before ks there

  found_goes : (p : Client → Bool) (o : Option Client) → find p xs ≡ o → was_heard_lately now o ≡ false → Stays o
  found_goes p None is old = none_goes
  found_goes p (Some g) is old = one_goes p g is old

  goes_by : (b : Bool) → was_heard_lately now (if b then find (is_client_of_ip from) xs else None) ≡ false → Stays (if b then find (is_client_of_ip from) xs else None)
  goes_by true old = found_goes (is_client_of_ip from) (find (is_client_of_ip from) xs) refl old
  goes_by false old = none_goes

  stays_with : is_address_full now from xs ≡ false → is_some (client_at place (clients_with most node from now xs)) ≡ true
  stays_with old = goes_by (nat_le max_address_clients (length (clients_of_ip from xs))) old

-- who was heard lately is a client as a datagram is judged, whoever becomes one
pub met_remains : (from place : SocketAddrV4) (now : ℕ) (l m : ServerView) (c : Client) → MayKnow from now l m → length l.clients ≤ l.max_clients → EachClientOnce l.clients → client_at place l.clients ≡ Some c → was_heard_within replaced_after now c ≡ true
    → is_some (client_at place m.clients) ≡ true
met_remains from place now l m c (Same e) few once found late =
    ap (λ (v : ServerView). is_some (client_at place v.clients)) e ∙ ap is_some found
met_remains from place now l m c (Known apart none address full e) few once found late =
    ap (λ (v : ServerView). is_some (client_at place v.clients)) e ∙ stays_with l.max_clients now (node_of_place l.port from) from place l.clients c few once found late full address
