-- Packets of a core, sent one after another.
use Rattle.std.proofs.Common.{◌≡◌, ◌≤◌, ◌<◌, ℕ, zero, suc, ◌+◌, false, true, List, [], ◌∷◌, ◌++◌, length, map, Option, Some, None, Result, Ok, Err, refl, sym, ap, ◌∙◌, subst, append_assoc, append-nil, arith, cond, length-append, take, get_or, inl, inr, lit≤, lit<, add-zero, is_none, unwrap_or}
use Rattle.std.specs.Prelude.{OnErr, option_map, slice_get}
use Rattle.std.proofs.lemmas.Grind.{flat_map-append}
use Rattle.ipx_router.specs.RouterPackets.{broadcast}
use Rattle.ipx_router.specs.Classify.{is_node}
use Rattle.std.proofs.lemmas.List.{take_more, map-append}
use Rattle.ipx_carrier.specs.declared.fault.RunFault.{RunFault}
use Rattle.ipx_carrier.specs.declared.fault.RunFault.TheVariants.{Device, OutOfMemory}
use Rattle.ipx_carrier.specs.declared.report.SendCounts.{SendCounts}
use Rattle.ipx_carrier.specs.Device.{Datagram, Passes, Traffic, TrafficOf}
use Rattle.ipx_carrier.specs.Turns.{FailsAfter, FailsInLast, Given, GivesEach, IsFrontOf, Peers, Ways, by_ip, copies_of, datagram_to, sent_of}
use Rattle.ipx_carrier.specs.SendingView.{with_one_packet}
use Rattle.ipx_carrier.specs.Counts.{unmapped_in}
use Rattle.ipx_carrier.specs.DriverTurns.{SendsEach, SendsSomeOf}
use Rattle.ipx_carrier.specs.Mapping.{ip_at}
use Rattle.ipx_carrier.specs.Parts.{SendsAll, SendsCounted, SendsNext, SendsSome, totals_of}
use Rattle.ipx_carrier.specs.PortDrivers.{SendsFrontOf, copies_count}
use Rattle.ipx_carrier.proofs.DriverStates.{sends_one_more, sends_until}
use Rattle.ipx_carrier.proofs.Passing.{count-append, passes_nothing, passes_sent}

-- of the copies for all packets, the first ones are those of the first packet
pub front_of_map : {A B : Type 0} (f : A → B) (xs : List A) (n : ℕ) → n < length xs → IsFrontOf (map f (take n xs)) (map f xs)
front_of_map f [] n lt = absurd (omega arith)
front_of_map f (x ∷ xs) zero lt = (f x, map f xs, refl)
front_of_map f (x ∷ xs) (suc n) lt =
    let h = front_of_map f xs n (omega arith) in
    (h.0, h.1, ap (λ ys. f x ∷ ys) h.2)

pub sent_more : {A : Type 0} (f : A → Datagram) (xs : List A) (n : ℕ) (d : A) (s t u : Option Traffic) → n < length xs → Passes s t [] (map f (take n xs)) → Passes t u [] (f (get_or xs n d) ∷ []) → Passes s u [] (map f (take (n + 1) xs))
sent_more f xs n d s t u lt h k =
    let e : map f (take (n + 1) xs) ≡ map f (take n xs) ++ f (get_or xs n d) ∷ [] =
    ap (map f) (take_more xs n d lt) ∙ map-append f (take n xs) (get_or xs n d ∷ []) in
    subst (λ (ds : List Datagram). Passes s u [] ds) (sym e) (passes_sent s t u (map f (take n xs)) (f (get_or xs n d) ∷ []) h k)

pub first_sent : {A : Type 0} (f : A → Datagram) (xs : List A) (n : ℕ) (s t u : Option Traffic) → n < length xs → Passes s t [] (map f (take n xs)) → u ≡ t → SendsFrontOf (map f xs) s u
first_sent f xs n s t u lt h e =
    (map f (take n xs), front_of_map f xs n lt, subst (λ u. Passes s u [] (map f (take n xs))) (sym e) h)

-- a packet for one node that could not be sent
pub one_unsent : {T E : Type 0} (r : Result T E) (peers : Peers) (p : Given) (to : List ℕ) (s t : Option Traffic) → is_node p.node broadcast ≡ false → ip_at p.node ≡ Some to → t ≡ s → OnErr r (SendsFrontOf (copies_of (by_ip peers) p) s t)
one_unsent (Ok x) peers p to s t single found e = tt
one_unsent (Err f) peers p to s t single found e =
    rw (single, found) ([], (datagram_to p to, [], refl), passes_nothing s t e)

-- how that left the device
pub one_fails : {T E S Q : Type 0} (sends fails_to_send : S → Datagram → S → Type 0) (r : Result T E) (peers : Peers) (p : Given) (to : List ℕ) (x z : S) → Q → is_node p.node broadcast ≡ false → ip_at p.node ≡ Some to → fails_to_send x (datagram_to p to) z → OnErr r (Q × SendsSomeOf sends fails_to_send (copies_of (by_ip peers) p) x z)
one_fails sends fails_to_send (Ok v) peers p to x z q single found h = tt
one_fails sends fails_to_send (Err e) peers p to x z q single found h =
    (q, rw (single, found) ([], ([], datagram_to p to, refl, x, refl, h)))

-- the same of a broadcast
pub broadcast_fails : {T E S Q : Type 0} (sends fails_to_send : S → Datagram → S → Type 0) (r : Result T E) (peers : Peers) (p : Given) (here : List (List ℕ)) (x z : S) → Q → is_node p.node broadcast ≡ true → here ≡ unwrap_or (slice_get peers p.port) [] → SendsSomeOf sends fails_to_send (map (datagram_to p) here) x z → OnErr r (Q × SendsSomeOf sends fails_to_send (copies_of (by_ip peers) p) x z)
broadcast_fails sends fails_to_send (Ok v) peers p here x z q all same h = tt
broadcast_fails sends fails_to_send (Err e) peers p here x z q all same h =
    (q, rw all (subst (λ (to : List (List ℕ)). SendsSomeOf sends fails_to_send (map (datagram_to p) to) x z) same h))

-- a packet whose datagrams were sent in part
pub one_sent_in_part : {C S A : Type 0} (gives : C → ℕ → Option Given → C → Type 0) (next_out_of_memory : C → ℕ → C → Type 0) (sends fails_to_send : S → Given → S → Type 0) (now : ℕ) (transmissions : Ways A) (p : Given) (s t : Option (TrafficOf A)) (x y : S) (a b : C) → gives a now (Some p) b → SendsFrontOf (copies_of transmissions p) s t → fails_to_send x p y → SendsSome gives next_out_of_memory sends fails_to_send 1 now transmissions s t Device x y a b
one_sent_in_part gives next_out_of_memory sends fails_to_send now transmissions p s t x y a b h k w =
    (p ∷ [], k.0, ((b, h, refl), lit≤ tt, ([], p, k.0, refl, k.1, refl)), k.2, ([], p, refl, x, refl, w))

-- a packet for which the core runs out of memory
pub none_sent : {C S A : Type 0} (gives : C → ℕ → Option Given → C → Type 0) (next_out_of_memory : C → ℕ → C → Type 0) (sends fails_to_send : S → Given → S → Type 0) (now : ℕ) (transmissions : Ways A) (s t : Option (TrafficOf A)) (x y : S) (a b : C) → next_out_of_memory a now b → t ≡ s → y ≡ x → SendsSome gives next_out_of_memory sends fails_to_send 1 now transmissions s t OutOfMemory x y a b
none_sent gives next_out_of_memory sends fails_to_send now transmissions s t x y a b h e same =
    ([], [], (a, refl, lit< tt, refl, h), passes_nothing s t e, same)

pub gives_on : {C : Type 0} (gives : C → ℕ → Option Given → C → Type 0) (now : ℕ) (ps qs : List Given) (a b c : C) → GivesEach gives now ps a b → GivesEach gives now qs b c → GivesEach gives now (ps ++ qs) a c
gives_on gives now [] qs a b c h k = subst (λ a. GivesEach gives now qs a c) h k
gives_on gives now (p ∷ ps) qs a b c h k = (h.0, h.1, gives_on gives now ps qs h.0 b c h.2 k)

-- the same if other packets were sent before
fails_later : {A : Type 0} (transmissions : Ways A) (ps qs : List Given) (sent : List A) → FailsInLast transmissions qs sent → FailsInLast transmissions (ps ++ qs) (sent_of transmissions ps ++ sent)
fails_later {A} transmissions ps qs sent h =
    let before : List Given = h.0 in
    let front : List A = h.2 in
    let all : sent_of transmissions (ps ++ before) ≡ sent_of transmissions ps ++ sent_of transmissions before = flat_map-append (copies_of transmissions) ps before in (
      ps ++ before,
      h.1,
      front,
      ap (λ qs. ps ++ qs) h.3 ∙ sym (append_assoc ps before (h.1 ∷ [])),
      h.4,
      ap (λ ds. sent_of transmissions ps ++ ds) h.5 ∙ sym (append_assoc (sent_of transmissions ps) (sent_of transmissions before) front) ∙ ap (λ ds. ds ++ front) (sym all),
    )

abbrev record_of : ℕ → ℕ → SendCounts
record_of sent unmapped = record { sent = sent; unmapped = unmapped }

count_cases : {A : Type 0} (o : Option (List A)) (s u : ℕ) → record_of (s + length (unwrap_or o [])) (u + cond (is_none o) 1 0) ≡ with_one_packet (record_of s u) (option_map length o)
count_cases None s u = ap (λ s. record_of s (u + 1)) (add-zero s)
count_cases (Some xs) s u = ap (λ u. record_of (s + length xs) u) (add-zero u)

sent_of_more : {A : Type 0} (transmissions : Ways A) (ps : List Given) (p : Given) → sent_of transmissions (ps ++ p ∷ []) ≡ sent_of transmissions ps ++ copies_of transmissions p
sent_of_more transmissions ps p =
    flat_map-append (copies_of transmissions) ps (p ∷ []) ∙ ap (λ ds. sent_of transmissions ps ++ ds) (append-nil (copies_of transmissions p))

totals_more : {A : Type 0} (transmissions : Ways A) (ps : List Given) (p : Given) → totals_of transmissions (ps ++ p ∷ []) ≡ with_one_packet (totals_of transmissions ps) (copies_count transmissions p)
totals_more transmissions ps p =
    let sent : length (sent_of transmissions (ps ++ p ∷ [])) ≡ length (sent_of transmissions ps) + length (copies_of transmissions p) =
    ap length (sent_of_more transmissions ps p) ∙ length-append (sent_of transmissions ps) (copies_of transmissions p) in
    let unmapped : unmapped_in transmissions (ps ++ p ∷ []) ≡ unmapped_in transmissions ps + cond (is_none (transmissions p)) 1 0 =
    omega (arith, count-append (λ (q : Given). is_none (transmissions q)) ps (p ∷ [])) in
    ap (λ n. record_of n (unmapped_in transmissions (ps ++ p ∷ []))) sent ∙ ap (λ n. record_of (length (sent_of transmissions ps) + length (copies_of transmissions p)) n) unmapped
    ∙ count_cases (transmissions p) (length (sent_of transmissions ps)) (unmapped_in transmissions ps)

-- a core that gives packets, each of which is sent
module _ {C S A : Type 0} (gives : C → ℕ → Option Given → C → Type 0) (sends : S → Given → S → Type 0) (now : ℕ) (transmissions : Ways A) where
  pub sends_none : (s : Option (TrafficOf A)) (x : S) (a : C) (t : SendCounts) → t ≡ record_of 0 0 → SendsCounted gives sends 0 now transmissions s s x x a a t
  sends_none s x a t e = ([], refl, refl, passes_nothing s s refl, e, refl)

  pub sends_more : (n : ℕ) (s t u : Option (TrafficOf A)) (x y z : S) (a b c : C) (totals next : SendCounts) (o : Option ℕ) → SendsCounted gives sends n now transmissions s t x y a b totals → SendsNext gives sends now transmissions t u y z b c (Some o) → next ≡ with_one_packet totals o → SendsCounted gives sends (n + 1) now transmissions s u x z a c next
  sends_more n s t u x y z a b c totals next o h k e =
      let ps = h.0 in
      let p = k.0 in
      let sent : Passes s u [] (sent_of transmissions ps ++ copies_of transmissions p) = passes_sent s t u (sent_of transmissions ps) (copies_of transmissions p) h.3 k.2 in (
        ps ++ p ∷ [],
        omega (arith, length-append ps (p ∷ []), h.1),
        gives_on gives now ps (p ∷ []) a b c h.2 (c, k.1, refl),
        subst (λ (ds : List A). Passes s u [] ds) (sym (sent_of_more transmissions ps p)) sent,
        e ∙ ap (λ t. with_one_packet t o) h.4 ∙ ap (λ o. with_one_packet (totals_of transmissions ps) o) k.3 ∙ sym (totals_more transmissions ps p),
        sends_one_more sends ps p x y z h.5 k.4,
      )

  -- the same if the transmissions are written in another way
  pub sends_more_there : (n : ℕ) (there : Ways A) (s t u : Option (TrafficOf A)) (x y z : S) (a b c : C) (totals next : SendCounts) (o : Option ℕ) → there ≡ transmissions → SendsCounted gives sends n now transmissions s t x y a b totals → SendsNext gives sends now there t u y z b c (Some o) → next ≡ with_one_packet totals o → SendsCounted gives sends (n + 1) now transmissions s u x z a c next
  sends_more_there n there s t u x y z a b c totals next o is h k e =
      sends_more n s t u x y z a b c totals next o h (subst (λ w. SendsNext gives sends now w t u y z b c (Some o)) is k) e

  pub sends_quiet : (n : ℕ) (s t u : Option (TrafficOf A)) (x y z : S) (a b c : C) (totals : SendCounts) → SendsCounted gives sends n now transmissions s t x y a b totals → n < 64 → SendsNext gives sends now transmissions t u y z b c None → SendsAll gives sends now transmissions s u x z a c totals
  sends_quiet n s t u x y z a b c totals h lt k =
      let count : length h.0 ≡ n = h.1 in (
        h.0,
        inr (b, h.2, omega arith, k.0),
        subst (λ u. Passes s u [] (sent_of transmissions h.0)) (sym k.1) h.3,
        h.4,
        subst (λ z. SendsEach sends h.0 x z) (sym k.2) h.5,
      )

  pub sends_quiet_there : (n : ℕ) (there : Ways A) (s t u : Option (TrafficOf A)) (x y z : S) (a b c : C) (totals : SendCounts) → there ≡ transmissions → SendsCounted gives sends n now transmissions s t x y a b totals → n < 64 → SendsNext gives sends now there t u y z b c None → SendsAll gives sends now transmissions s u x z a c totals
  sends_quiet_there n there s t u x y z a b c totals is h lt k =
      sends_quiet n s t u x y z a b c totals h lt (subst (λ w. SendsNext gives sends now w t u y z b c None) is k)

  pub sends_full : (n : ℕ) (s t : Option (TrafficOf A)) (x y : S) (a b : C) (totals : SendCounts) → SendsCounted gives sends n now transmissions s t x y a b totals → n ≡ 64 → SendsAll gives sends now transmissions s t x y a b totals
  sends_full n s t x y a b totals h e = (h.0, inl (h.2, h.1 ∙ e), h.3, h.4, h.5)

fails_on : {C A : Type 0} (gives : C → ℕ → Option Given → C → Type 0) (next_out_of_memory : C → ℕ → C → Type 0) (n most now : ℕ) (transmissions : Ways A) (ps qs : List Given) (sent : List A) (f : RunFault) (a b c : C) → length ps ≡ n → n < most → GivesEach gives now ps a b → FailsAfter gives next_out_of_memory 1 now transmissions qs sent f b c → FailsAfter gives next_out_of_memory most now transmissions (ps ++ qs) (sent_of transmissions ps ++ sent) f a c
fails_on gives next_out_of_memory n most now transmissions ps qs sent Device a b c first lt h k =
    let last : length qs ≤ 1 = k.1 in
    (gives_on gives now ps qs a b c h k.0, omega (arith, length-append ps qs), fails_later transmissions ps qs sent k.2)
fails_on gives next_out_of_memory n most now transmissions ps qs sent OutOfMemory a b c first lt h k =
    let all : sent_of transmissions (ps ++ qs) ≡ sent_of transmissions ps ++ sent_of transmissions qs = flat_map-append (copies_of transmissions) ps qs in
    let none : length qs < 1 = k.2 in
    (k.0, gives_on gives now ps qs a b k.0 h k.1, omega (arith, length-append ps qs), ap (λ ds. sent_of transmissions ps ++ ds) k.3 ∙ sym all, k.4)

-- packets that were sent, and then a fault
module _ {C S A : Type 0} (gives : C → ℕ → Option Given → C → Type 0) (next_out_of_memory : C → ℕ → C → Type 0) (sends fails_to_send : S → Given → S → Type 0) (now : ℕ) (transmissions : Ways A) where
  pub sends_in_part : (n most : ℕ) (s t u : Option (TrafficOf A)) (x y z : S) (a b c : C) (totals : SendCounts) (f : RunFault) → SendsCounted gives sends n now transmissions s t x y a b totals → n < most → SendsSome gives next_out_of_memory sends fails_to_send 1 now transmissions t u f y z b c → SendsSome gives next_out_of_memory sends fails_to_send most now transmissions s u f x z a c
  sends_in_part n most s t u x y z a b c totals f h lt k = (
    h.0 ++ k.0,
    sent_of transmissions h.0 ++ k.1,
    fails_on gives next_out_of_memory n most now transmissions h.0 k.0 k.1 f a b c h.1 lt h.2 k.2,
    passes_sent s t u (sent_of transmissions h.0) k.1 h.3 k.3,
    sends_until sends fails_to_send h.0 k.0 f x y z h.5 k.4,
  )

  pub sends_in_part_there : (n most : ℕ) (there : Ways A) (s t u : Option (TrafficOf A)) (x y z : S) (a b c : C) (totals : SendCounts) (f : RunFault) → there ≡ transmissions → SendsCounted gives sends n now transmissions s t x y a b totals → n < most → SendsSome gives next_out_of_memory sends fails_to_send 1 now there t u f y z b c → SendsSome gives next_out_of_memory sends fails_to_send most now transmissions s u f x z a c
  sends_in_part_there n most there s t u x y z a b c totals f is h lt k =
      sends_in_part n most s t u x y z a b c totals f h lt (subst (λ w. SendsSome gives next_out_of_memory sends fails_to_send 1 now w t u f y z b c) is k)
