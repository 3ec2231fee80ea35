-- Datagrams that are handed to sockets, one after another.
use Rattle.std.proofs.Common.{◌≡◌, ◌<◌, ◌+◌, ℕ, zero, suc, Bool, true, false, not, cond, List, [], ◌∷◌, ◌++◌, Option, Some, None, Result, Ok, Err, length, filter, map, get_or, take, refl, sym, ap, ◌∙◌, subst, append_assoc, append-nil, arith}
use Rattle.std.specs.Prelude.{OnErr, OnOk, count_by}
use Rattle.std.proofs.lemmas.List.{map-append, take_more}
use Rattle.std.proofs.lemmas.List.Elements.{filter-append}
use Rattle.std.proofs.lemmas.List.Sums.{sum_by-append}
use Rattle.ipxnet_server.specs.declared.clients.Client.{Client}
use Rattle.std.specs.declared.net.socket_addr.SocketAddrV4.{SocketAddrV4}
use Rattle.ipxnet_server.specs.declared.recipients.Recipients.{Recipients}
use Rattle.ipxnet_server.specs.ServerHears.{ServerView, takers_join, takers_reach}
use Rattle.ipx_carrier.specs.Counting.{raised}
use Rattle.ipx_carrier.specs.DriverTurns.{SendsEach}
use Rattle.ipx_carrier.proofs.DriverStates.{sends_one_more}
use Rattle.ipx_ipxnet_ports.specs.OnServers.{relayed_on}
use Rattle.ipx_ipxnet_ports.specs.PlaceTraffic.{HandedDatagram, HandsOver, PlaceDatagram, PlaceTraffic, PlacesPass, failures_with, place_datagram, raised_by}

-- ---- what passes, one after another

abbrev more : PlaceTraffic → List PlaceDatagram → List PlaceDatagram → PlaceTraffic
more t came went = record { came = t.came ++ came; went = t.went ++ went }

more_twice : (t : PlaceTraffic) (cs cs' ws ws' : List PlaceDatagram) → more (more t cs ws) cs' ws' ≡ more t (cs ++ cs') (ws ++ ws')
more_twice t cs cs' ws ws' = simp append_assoc

nothing_more : (t : PlaceTraffic) → more t [] [] ≡ t
nothing_more t = simp append-nil

pub pass_nothing : (a b : Option PlaceTraffic) → b ≡ a → PlacesPass a b [] []
pass_nothing None b e = tt
pass_nothing (Some t) b e = e ∙ ap Some (sym (nothing_more t))

pass_on : (a b c : Option PlaceTraffic) (cs cs' ws ws' : List PlaceDatagram) → PlacesPass a b cs ws → PlacesPass b c cs' ws' → PlacesPass a c (cs ++ cs') (ws ++ ws')
pass_on None b c cs cs' ws ws' h k = tt
pass_on (Some t) b c cs cs' ws ws' h k =
    let k' : c ≡ Some (more (more t cs ws) cs' ws') = subst (λ (b : Option PlaceTraffic). PlacesPass b c cs' ws') h k in
    k' ∙ ap Some (more_twice t cs cs' ws ws')

raised_on : (k m f : ℕ) → raised_by k (raised_by m f) ≡ raised_by (m + k) f
raised_on zero m f = let same : m ≡ m + 0 = omega arith in ap (λ (x : ℕ). raised_by x f) same
raised_on (suc k) m f =
    let same : suc (m + k) ≡ m + suc k = omega arith in
    ap raised (raised_on k m f) ∙ ap (λ (x : ℕ). raised_by x f) same

-- ---- what is handed over, one after another

abbrev datagrams_of : List HandedDatagram → List PlaceDatagram
datagrams_of hs = map (λ h. h.datagram) hs

abbrev taken_of : List HandedDatagram → List HandedDatagram
taken_of hs = filter (λ h. h.taken) hs

abbrev lost_of : List HandedDatagram → ℕ
lost_of hs = count_by (λ h. not h.taken) hs

pub hands_none : (s t : Option PlaceTraffic) (f g : ℕ) → t ≡ s → g ≡ f → HandsOver [] [] s t f g
hands_none s t f g e k = record { handed = []; all = refl; went = pass_nothing s t e; failures = k }

-- one, which was taken or not
abbrev handed_as : PlaceDatagram → Bool → HandedDatagram
handed_as d taken = record { datagram = d; taken = taken }

pub hands_one : {T E : Type 0} (sent : Result T E) (d : PlaceDatagram) (s t : Option PlaceTraffic) (f g : ℕ) → OnOk sent (PlacesPass s t [] (d ∷ [])) → OnErr sent (t ≡ s) → g ≡ failures_with sent f → HandsOver (d ∷ []) [] s t f g
hands_one (Ok x) d s t f g went none counted =
    record { handed = handed_as d true ∷ []; all = refl; went = went; failures = counted }
hands_one (Err e) d s t f g went none counted =
    record { handed = handed_as d false ∷ []; all = refl; went = pass_nothing s t none; failures = counted }

pub hands_both : (ds es : List PlaceDatagram) (s t u : Option PlaceTraffic) (f g i : ℕ) → HandsOver ds [] s t f g → HandsOver es [] t u g i → HandsOver (ds ++ es) [] s u f i
hands_both ds es s t u f g i h k =
    let hs : List HandedDatagram = h.handed in
    let ks : List HandedDatagram = k.handed in
    let all : datagrams_of (hs ++ ks) ≡ ds ++ es =
    map-append (λ (d : HandedDatagram). d.datagram) hs ks ∙ ap (λ (xs : List PlaceDatagram). xs ++ datagrams_of ks) h.all ∙ ap (λ (xs : List PlaceDatagram). ds ++ xs) k.all in
    let taken : datagrams_of (taken_of (hs ++ ks)) ≡ datagrams_of (taken_of hs) ++ datagrams_of (taken_of ks) =
    ap datagrams_of (filter-append (λ (d : HandedDatagram). d.taken) hs ks) ∙ map-append (λ (d : HandedDatagram). d.datagram) (taken_of hs) (taken_of ks) in
    let lost : lost_of (hs ++ ks) ≡ lost_of hs + lost_of ks =
    sum_by-append (λ (d : HandedDatagram). cond (not d.taken) 1 0) hs ks in
    let both : PlacesPass s u [] (datagrams_of (taken_of hs) ++ datagrams_of (taken_of ks)) =
    pass_on s t u [] [] (datagrams_of (taken_of hs)) (datagrams_of (taken_of ks)) h.went k.went in
    record {
      handed = hs ++ ks;
      all = all;
      went = subst (λ (ws : List PlaceDatagram). PlacesPass s u [] ws) (sym taken) both;
      failures = k.failures ∙ ap (raised_by (lost_of ks)) h.failures ∙ raised_on (lost_of ks) (lost_of hs) f ∙ ap (λ (n : ℕ). raised_by n f) (sym lost);
    }

-- the same if something came before
pub hands_after : (ds came : List PlaceDatagram) (s t u : Option PlaceTraffic) (f g : ℕ) → PlacesPass s t came [] → HandsOver ds [] t u f g → HandsOver ds came s u f g
hands_after ds came s t u f g first h =
    let went : List PlaceDatagram = datagrams_of (taken_of h.handed) in
    let both : PlacesPass s u (came ++ []) went = pass_on s t u came [] [] went first h.went in
    record {
      handed = h.handed;
      all = h.all;
      went = subst (λ (cs : List PlaceDatagram). PlacesPass s u cs went) (append-nil came) both;
      failures = h.failures;
    }

-- ---- clients, one after another

abbrev pub reached_among : ServerView → Recipients → List Client → List Client
reached_among l takers cs = filter (λ c. takers_reach l takers c.place) cs

-- the same bytes for each of these
abbrev sent_to : {X : Type 0} → (X → SocketAddrV4) → ℕ → List ℕ → List X → List PlaceDatagram
sent_to place port bytes xs = map (λ x. place_datagram port bytes (place x)) xs

module _ {X : Type 0} (place : X → SocketAddrV4) (p : X → Bool) (cs : List X) (n : ℕ) (d : X) (lt : n < length cs) where
  among_more : (b : Bool) → p (get_or cs n d) ≡ b → filter p (take (n + 1) cs) ≡ filter p (take n cs) ++ cond b (get_or cs n d ∷ []) []
  among_more b is =
      ap (filter p) (take_more cs n d lt) ∙ filter-append p (take n cs) (get_or cs n d ∷ [])
      ∙ ap (λ (t : Bool). filter p (take n cs) ++ cond t (get_or cs n d ∷ []) []) is

  pub reaches_past : (port : ℕ) (bytes : List ℕ) (s t : Option PlaceTraffic) (f g : ℕ) → p (get_or cs n d) ≡ false
      → HandsOver (sent_to place port bytes (filter p (take n cs))) [] s t f g → HandsOver (sent_to place port bytes (filter p (take (n + 1) cs))) [] s t f g
  reaches_past port bytes s t f g is h =
      let same : filter p (take (n + 1) cs) ≡ filter p (take n cs) = among_more false is ∙ append-nil _ in
      subst (λ (xs : List X). HandsOver (sent_to place port bytes xs) [] s t f g) (sym same) h

  pub reaches_one : {T E : Type 0} (sent : Result T E) (port : ℕ) (bytes : List ℕ) (s t u : Option PlaceTraffic) (f g i : ℕ) → p (get_or cs n d) ≡ true
      → HandsOver (sent_to place port bytes (filter p (take n cs))) [] s t f g
      → OnOk sent (PlacesPass t u [] (place_datagram port bytes (place (get_or cs n d)) ∷ [])) → OnErr sent (u ≡ t) → i ≡ failures_with sent g
      → HandsOver (sent_to place port bytes (filter p (take (n + 1) cs))) [] s u f i
  reaches_one sent port bytes s t u f g i is h went none counted =
      let before : List X = filter p (take n cs) in
      let one : PlaceDatagram = place_datagram port bytes (place (get_or cs n d)) in
      let same : sent_to place port bytes (filter p (take (n + 1) cs)) ≡ sent_to place port bytes before ++ one ∷ [] =
      ap (sent_to place port bytes) (among_more true is) ∙ map-append (λ (x : X). place_datagram port bytes (place x)) before (get_or cs n d ∷ []) in
      subst (λ (ds : List PlaceDatagram). HandsOver ds [] s u f i) (sym same) (hands_both (sent_to place port bytes before) (one ∷ []) s t u f g i h (hands_one sent one t u g i went none counted))

  -- the same of the sockets to which they are handed
  module _ {S : Type 0} (sends : S → PlaceDatagram → S → Type 0) (port : ℕ) (bytes : List ℕ) where
    pub sends_past : (a b : S) → p (get_or cs n d) ≡ false → SendsEach sends (sent_to place port bytes (filter p (take n cs))) a b
        → SendsEach sends (sent_to place port bytes (filter p (take (n + 1) cs))) a b
    sends_past a b is h =
        let same : filter p (take (n + 1) cs) ≡ filter p (take n cs) = among_more false is ∙ append-nil _ in
        subst (λ (xs : List X). SendsEach sends (sent_to place port bytes xs) a b) (sym same) h

    pub sends_one : (a b c : S) → p (get_or cs n d) ≡ true → SendsEach sends (sent_to place port bytes (filter p (take n cs))) a b
        → sends b (place_datagram port bytes (place (get_or cs n d))) c → SendsEach sends (sent_to place port bytes (filter p (take (n + 1) cs))) a c
    sends_one a b c is h k =
        let before : List X = filter p (take n cs) in
        let one : PlaceDatagram = place_datagram port bytes (place (get_or cs n d)) in
        let same : sent_to place port bytes (filter p (take (n + 1) cs)) ≡ sent_to place port bytes before ++ one ∷ [] =
        ap (sent_to place port bytes) (among_more true is) ∙ map-append (λ (x : X). place_datagram port bytes (place x)) before (get_or cs n d ∷ []) in
        subst (λ (ds : List PlaceDatagram). SendsEach sends ds a c) (sym same) (sends_one_more sends (sent_to place port bytes before) one a b c h k)

-- ---- joined routers, one after another

abbrev pub joined_among : ServerView → Recipients → List SocketAddrV4 → List SocketAddrV4
joined_among l takers rs = filter (λ r. takers_join l takers r) rs

joined_more : (l : ServerView) (takers : Recipients) (rs : List SocketAddrV4) (n : ℕ) (d : SocketAddrV4) (b : Bool) → n < length rs → takers_join l takers (get_or rs n d) ≡ b → joined_among l takers (take (n + 1) rs) ≡ joined_among l takers (take n rs) ++ cond b (get_or rs n d ∷ []) []
joined_more l takers rs n d b lt is =
    ap (joined_among l takers) (take_more rs n d lt) ∙ filter-append (λ (r : SocketAddrV4). takers_join l takers r) (take n rs) (get_or rs n d ∷ [])
    ∙ ap (λ (t : Bool). joined_among l takers (take n rs) ++ cond t (get_or rs n d ∷ []) []) is

pub joins_past : (l : ServerView) (takers : Recipients) (rs : List SocketAddrV4) (n : ℕ) (d : SocketAddrV4) (port : ℕ) (bytes : List ℕ) (s t : Option PlaceTraffic) (f g : ℕ) → n < length rs → takers_join l takers (get_or rs n d) ≡ false
    → HandsOver (relayed_on port bytes (joined_among l takers (take n rs))) [] s t f g → HandsOver (relayed_on port bytes (joined_among l takers (take (n + 1) rs))) [] s t f g
joins_past l takers rs n d port bytes s t f g lt is h =
    let same : joined_among l takers (take (n + 1) rs) ≡ joined_among l takers (take n rs) = joined_more l takers rs n d false lt is ∙ append-nil _ in
    subst (λ (xs : List SocketAddrV4). HandsOver (relayed_on port bytes xs) [] s t f g) (sym same) h

pub joins_one : {T E : Type 0} (sent : Result T E) (l : ServerView) (takers : Recipients) (rs : List SocketAddrV4) (n : ℕ) (d : SocketAddrV4) (port : ℕ) (bytes : List ℕ) (s t u : Option PlaceTraffic) (f g i : ℕ) → n < length rs → takers_join l takers (get_or rs n d) ≡ true
    → HandsOver (relayed_on port bytes (joined_among l takers (take n rs))) [] s t f g
    → OnOk sent (PlacesPass t u [] (place_datagram port bytes (get_or rs n d) ∷ [])) → OnErr sent (u ≡ t) → i ≡ failures_with sent g
    → HandsOver (relayed_on port bytes (joined_among l takers (take (n + 1) rs))) [] s u f i
joins_one sent l takers rs n d port bytes s t u f g i lt is h went none counted =
    let before : List SocketAddrV4 = joined_among l takers (take n rs) in
    let one : PlaceDatagram = place_datagram port bytes (get_or rs n d) in
    let same : relayed_on port bytes (joined_among l takers (take (n + 1) rs)) ≡ relayed_on port bytes before ++ one ∷ [] =
    ap (relayed_on port bytes) (joined_more l takers rs n d true lt is) ∙ map-append (λ (r : SocketAddrV4). place_datagram port bytes r) before (get_or rs n d ∷ []) in
    subst (λ (ds : List PlaceDatagram). HandsOver ds [] s u f i) (sym same) (hands_both (relayed_on port bytes before) (one ∷ []) s t u f g i h (hands_one sent one t u g i went none counted))
