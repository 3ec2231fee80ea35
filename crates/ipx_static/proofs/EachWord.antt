-- What each advertisement in turn leaves of a fact about one entry. Those that agree with the fact keep it,
-- and the one that holds the entry makes it true.
use Rattle.std.proofs.Common.{◌≡◌, ◌+◌, ◌-◌, ℕ, zero, suc, false, List, [], ◌∷◌, ◌++◌, Contains, take, drop, refl, sym, ap, ◌∙◌, subst, inl, inr, ◌⊎◌, arith}
use Rattle.std.specs.List.{All}
use Rattle.std.proofs.lemmas.List.Elements.{All-head, All-tail}
use Rattle.ipx_wire.specs.Assigned.{rip_socket, sap_socket}
use Rattle.ipx_control.specs.declared.rip.packet.RipEntry.{RipEntry}
use Rattle.ipx_control.specs.declared.sap.packet.ServiceEntry.{ServiceEntry}
use Rattle.ipx_control.specs.Rip as rip
use Rattle.ipx_control.specs.Sap as sap
use Rattle.ipx_tables.specs.declared.source.Source.{Source}
use Rattle.ipx_router.specs.declared.port.Port.{Port}
use Rattle.ipx_router.specs.Answer.{Receives}
use Rattle.ipx_router.specs.OutcomeView.{OutcomeView}
use Rattle.ipx_router.specs.RouterPackets.{AreCutOf, IsRipPacket, IsSapPacket, SendingView}
use Rattle.ipx_router.specs.RouterView.{RouterView}
use Rattle.ipx_static.specs.declared.neighbour.StaticNeighbour.{StaticNeighbour}
use Rattle.ipx_static.specs.StaticAdvertisements.{AreAdvertisementsOf, AreStaticAdvertisements, heard_on}
use Rattle.ipx_static.specs.StaticOffers.{IsAnotherNode, static_source}
use Rattle.ipx_static.proofs.OneKey.{back_list, front_list, later, split_list}

-- a router receives packets at a given time, one after another, and answers each so. The port is as a core
-- has it
abbrev pub ReceivesEach : (OutcomeView → Type 0) → ℕ → List SendingView → RouterView → RouterView → Type 0
ReceivesEach IsSo now [] old new = new ≡ old
ReceivesEach IsSo now (w ∷ ws) old new = (a : OutcomeView) × (mid : RouterView)
    × Receives old (w.port - 1 + 1) w.bytes now a mid × IsSo a × ReceivesEach IsSo now ws mid new

in_two : (IsSo : OutcomeView → Type 0) (now : ℕ) (xs ys : List SendingView) (old new : RouterView) → ReceivesEach IsSo now (xs ++ ys) old new
    → (mid : RouterView) × ReceivesEach IsSo now xs old mid × ReceivesEach IsSo now ys mid new
in_two IsSo now [] ys old new h = (old, refl, h)
in_two IsSo now (w ∷ xs) ys old new h =
    let rest = in_two IsSo now xs ys h.1 new h.4 in
    (rest.0, (h.0, h.1, h.2, h.3, rest.1), rest.2)

ports_stay : (IsSo : OutcomeView → Type 0) (now : ℕ) (ws : List SendingView) (old new : RouterView) → ReceivesEach IsSo now ws old new → new.ports ≡ old.ports
ports_stay IsSo now [] old new is = ap (λ (r : RouterView). r.ports) is
ports_stay IsSo now (w ∷ ws) old new h = ports_stay IsSo now ws h.1 new h.4 ∙ h.2.rest.ports

-- how the entries of a list are taken from another: all of them, or none
pub record Parts {E F : Type 0} (f : List F → List E) : Type 0 where
  pub none : (x : E) → Contains (f []) x → ⊥
  pub split : (n : ℕ) (xs : List F) (x : E) → Contains (f xs) x → Contains (f (take n xs)) x ⊎ Contains (f (drop n xs)) x
  pub front : (n : ℕ) (xs : List F) (x : E) → Contains (f (take n xs)) x → Contains (f xs) x
  pub back : (n : ℕ) (xs : List F) (x : E) → Contains (f (drop n xs)) x → Contains (f xs) x

pub all_of : {E : Type 0} → Parts {E = E} {F = E} (λ xs. xs)
all_of = record { none = λ x m. omega (arith, m.1); split = split_list; front = front_list; back = back_list }

pub none_of : {E F : Type 0} → Parts {E = E} {F = F} (λ xs. [])
none_of = record { none = λ x m. omega (arith, m.1); split = λ n xs x m. inl m; front = λ n xs x m. m; back = λ n xs x m. m }

-- an entry that neighbour n advertises, what holds before its advertisement, and what holds from then on
module _ {E : Type 0} (e : E) (n : StaticNeighbour) (ports : List Port) (now : ℕ) (IsSo : OutcomeView → Type 0) (Before Has : RouterView → Type 0) (Agrees : Source → List E → Type 0)
    (Learns : Source → List E → RouterView → RouterView → Type 0)
    (keep_before : (s : Source) (xs : List E) (old new : RouterView) → Learns s xs old new → Agrees s xs → Before old → Before new)
    (keep : (s : Source) (xs : List E) (old new : RouterView) → Learns s xs old new → Agrees s xs → Has old → Has new)
    (fewer : (s : Source) (xs ys : List E) → ((x : E) → Contains ys x → Contains xs x) → Agrees s xs → Agrees s ys) where
  -- what a packet of a part does
  abbrev Effect : {F : Type 0} → (List F → List E) → (List F → SendingView → Type 0) → Source → Type 0
  Effect {F} f IsPacketOf source = (old new : RouterView) (part : List F) (w : SendingView) (a : OutcomeView) → old.ports ≡ ports → IsPacketOf part w
      → IsSo a → Receives old (w.port - 1 + 1) w.bytes now a new → Learns source (f part) old new

  -- what a packet of a part of these entries does, if it holds the entry
  abbrev Makes : {F : Type 0} → (List F → List E) → (List F → SendingView → Type 0) → Source → List F → Type 0
  Makes {F} f IsPacketOf source whole = (old new : RouterView) (part : List F) (w : SendingView) (a : OutcomeView) → old.ports ≡ ports → IsPacketOf part w
      → IsSo a → Receives old (w.port - 1 + 1) w.bytes now a new → ((x : F) → Contains part x → Contains whole x) → Agrees source (f part) → Contains (f part) e → Before old → Has new

  -- a fact that advertisements keep
  abbrev Keeps : (RouterView → Type 0) → Type 0
  Keeps P = (s : Source) (xs : List E) (old new : RouterView) → Learns s xs old new → Agrees s xs → P old → P new

  module _ {F : Type 0} (f : List F → List E) (parts : Parts f) (most : ℕ) (IsPacketOf : List F → SendingView → Type 0) (source : Source) (effect : Effect f IsPacketOf source) where
    cut_keeps : (P : RouterView → Type 0) → Keeps P → (ws : List SendingView) (entries : List F) (old new : RouterView) → old.ports ≡ ports → AreCutOf most IsPacketOf entries ws → ReceivesEach IsSo now ws old new
        → Agrees source (f entries) → P old → P new
    cut_keeps P keeps [] entries old new same cut is agree has = subst P (sym is) has
    cut_keeps P keeps (w ∷ ws) entries old new same cut h agree has =
        let front = fewer source (f entries) (f (take most entries)) (λ x m. parts.front most entries x m) agree in
        let back = fewer source (f entries) (f (drop most entries)) (λ x m. parts.back most entries x m) agree in
        cut_keeps P keeps ws (drop most entries) h.1 new (h.2.rest.ports ∙ same) cut.2 h.4 back
        (keeps source (f (take most entries)) old h.1 (effect old h.1 (take most entries) w h.0 same cut.1 h.3 h.2) front has)

    cut_makes : (whole : List F) → Makes f IsPacketOf source whole → (ws : List SendingView) (entries : List F) (old new : RouterView) → old.ports ≡ ports → AreCutOf most IsPacketOf entries ws → ReceivesEach IsSo now ws old new
        → ((x : F) → Contains entries x → Contains whole x) → Agrees source (f entries) → Contains (f entries) e → Before old → Has new
    cut_makes whole makes [] entries old new same cut is within agree among before = absurd (parts.none e (subst (λ (xs : List F). Contains (f xs) e) cut among))
    cut_makes whole makes (w ∷ ws) entries old new same cut h within agree among before =
        let front = fewer source (f entries) (f (take most entries)) (λ x m. parts.front most entries x m) agree in
        let back = fewer source (f entries) (f (drop most entries)) (λ x m. parts.back most entries x m) agree in
        elim (parts.split most entries e among) [
          | inl first ↦
              cut_keeps Has keep ws (drop most entries) h.1 new (h.2.rest.ports ∙ same) cut.2 h.4 back
              (makes old h.1 (take most entries) w h.0 same cut.1 h.3 h.2 (λ x m. within x (front_list most entries x m)) front first before)
          | inr rest ↦
              cut_makes whole makes ws (drop most entries) h.1 new (h.2.rest.ports ∙ same) cut.2 h.4 (λ x m. within x (back_list most entries x m)) back rest
              (keep_before source (f (take most entries)) old h.1 (effect old h.1 (take most entries) w h.0 same cut.1 h.3 h.2) front before)
        ]

  abbrev IsRip : StaticNeighbour → List RipEntry → SendingView → Type 0
  IsRip m part = IsRipPacket (heard_on m.port m.node rip_socket) (rip.Response part)

  abbrev IsSap : StaticNeighbour → List ServiceEntry → SendingView → Type 0
  IsSap m part = IsSapPacket (heard_on m.port m.node sap_socket) (sap.Response false part)

  module _ (f : List RipEntry → List E) (of_routes : Parts f) (g : List ServiceEntry → List E) (of_services : Parts g)
      (rip_effect : (m : StaticNeighbour) → IsAnotherNode ports m → Effect f (IsRip m) (static_source m))
      (sap_effect : (m : StaticNeighbour) → IsAnotherNode ports m → Effect g (IsSap m) (static_source m))
      (rip_makes : IsAnotherNode ports n → Makes f (IsRip n) (static_source n) n.routes.items)
      (sap_makes : IsAnotherNode ports n → Makes g (IsSap n) (static_source n) n.services.items) where
    -- all that a neighbour advertises agrees with the entry
    abbrev pub AllAgrees : StaticNeighbour → Type 0
    AllAgrees m = Agrees (static_source m) (f m.routes.items) × Agrees (static_source m) (g m.services.items)

    abbrev pub Among : Type 0
    Among = Contains (f n.routes.items) e ⊎ Contains (g n.services.items) e

    words_keep : (P : RouterView → Type 0) → Keeps P → (m : StaticNeighbour) → IsAnotherNode ports m → (ws : List SendingView) (old new : RouterView) → old.ports ≡ ports → AreAdvertisementsOf m ws → ReceivesEach IsSo now ws old new
        → AllAgrees m → P old → P new
    words_keep P keeps m other ws old new same are h agree has =
        let two = in_two IsSo now are.0 are.1 old new (subst (λ (xs : List SendingView). ReceivesEach IsSo now xs old new) are.2 h) in
        cut_keeps g of_services 7 (IsSap m) (static_source m) (sap_effect m other) P keeps are.1 m.services.items two.0 new (ports_stay IsSo now are.0 old two.0 two.1 ∙ same) are.4 two.2 agree.1
        (cut_keeps f of_routes 50 (IsRip m) (static_source m) (rip_effect m other) P keeps are.0 m.routes.items old two.0 same are.3 two.1 agree.0 has)

    words_make : IsAnotherNode ports n → (ws : List SendingView) (old new : RouterView) → old.ports ≡ ports → AreAdvertisementsOf n ws → ReceivesEach IsSo now ws old new
        → AllAgrees n → Among → Before old → Has new
    words_make other ws old new same are h agree among before =
        let two = in_two IsSo now are.0 are.1 old new (subst (λ (xs : List SendingView). ReceivesEach IsSo now xs old new) are.2 h) in
        let still = ports_stay IsSo now are.0 old two.0 two.1 ∙ same in
        elim among [
          | inl route ↦
              cut_keeps g of_services 7 (IsSap n) (static_source n) (sap_effect n other) Has keep are.1 n.services.items two.0 new still are.4 two.2 agree.1
              (cut_makes f of_routes 50 (IsRip n) (static_source n) (rip_effect n other) n.routes.items (rip_makes other) are.0 n.routes.items old two.0 same are.3 two.1 (λ x m. m) agree.0 route before)
          | inr service ↦
              cut_makes g of_services 7 (IsSap n) (static_source n) (sap_effect n other) n.services.items (sap_makes other) are.1 n.services.items two.0 new still are.4 two.2 (λ x m. m) agree.1 service
              (cut_keeps f of_routes 50 (IsRip n) (static_source n) (rip_effect n other) Before keep_before are.0 n.routes.items old two.0 same are.3 two.1 agree.0 before)
        ]

    all_keep : (ns : List StaticNeighbour) → All (IsAnotherNode ports) ns → (ws : List SendingView) (old new : RouterView) → old.ports ≡ ports → AreStaticAdvertisements ns ws → ReceivesEach IsSo now ws old new
        → ((m : StaticNeighbour) → Contains ns m → AllAgrees m) → Has old → Has new
    all_keep [] others ws old new same none h agree has =
        subst Has (sym (subst (λ (xs : List SendingView). ReceivesEach IsSo now xs old new) none h)) has
    all_keep (m ∷ ns) others ws old new same are h agree has =
        let two = in_two IsSo now are.0 are.1 old new (subst (λ (xs : List SendingView). ReceivesEach IsSo now xs old new) are.2 h) in
        all_keep ns (All-tail (IsAnotherNode ports) m ns others) are.1 two.0 new (ports_stay IsSo now are.0 old two.0 two.1 ∙ same) are.4 two.2 (λ k there. agree k (later m k ns there))
        (words_keep Has keep m (All-head (IsAnotherNode ports) m ns others) are.0 old two.0 same are.3 two.1 (agree m (0, omega arith, refl)) has)

    pub all_make : (ns : List StaticNeighbour) → All (IsAnotherNode ports) ns → (ws : List SendingView) (old new : RouterView) → old.ports ≡ ports → AreStaticAdvertisements ns ws → ReceivesEach IsSo now ws old new
        → ((m : StaticNeighbour) → Contains ns m → AllAgrees m) → Contains ns n → Among → Before old → Has new
    all_make [] others ws old new same are h agree there among before = absurd (omega (arith, there.1))
    all_make (m ∷ ns) others ws old new same are h agree (zero, within, at) among before =
        let two = in_two IsSo now are.0 are.1 old new (subst (λ (xs : List SendingView). ReceivesEach IsSo now xs old new) are.2 h) in
        all_keep ns (All-tail (IsAnotherNode ports) m ns others) are.1 two.0 new (ports_stay IsSo now are.0 old two.0 two.1 ∙ same) are.4 two.2 (λ k there. agree k (later m k ns there))
        (words_make (subst (IsAnotherNode ports) at (All-head (IsAnotherNode ports) m ns others)) are.0 old two.0 same (subst (λ (k : StaticNeighbour). AreAdvertisementsOf k are.0) at are.3) two.1 (agree n (0, omega arith, at)) among before)
    all_make (m ∷ ns) others ws old new same are h agree (suc k, within, at) among before =
        let two = in_two IsSo now are.0 are.1 old new (subst (λ (xs : List SendingView). ReceivesEach IsSo now xs old new) are.2 h) in
        all_make ns (All-tail (IsAnotherNode ports) m ns others) are.1 two.0 new (ports_stay IsSo now are.0 old two.0 two.1 ∙ same) are.4 two.2 (λ j there. agree j (later m j ns there))
        (k, omega (arith, within), at) among
        (words_keep Before keep_before m (All-head (IsAnotherNode ports) m ns others) are.0 old two.0 same are.3 two.1 (agree m (0, omega arith, refl)) before)
