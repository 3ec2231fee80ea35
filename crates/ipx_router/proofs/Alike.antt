-- Packet bodies that several ports advertise unchanged.
use Rattle.std.proofs.Common.{◌≡◌, ℕ, ◌<◌, ◌≤◌, ◌+◌, Bool, true, false, cond, not, List, [], ◌∷◌, ◌++◌, length, take, drop, get_or, map, refl, sym, ap, subst, append-nil}
use mathlib.Core.Bool.{true≢false}
use Rattle.std.specs.Global.{Global}
use Rattle.std.specs.Prelude.{Vec, ◌==◌, ◌||◌}
use Rattle.std.specs.List.{filter, list_any}
use Rattle.std.proofs.lemmas.List.{append_assoc, drop_all, drop_more}
use Rattle.ipx_control.specs.declared.sap.packet.ServiceEntry.{ServiceEntry}
use Rattle.ipx_control.specs.Sap.{IsSap}
use Rattle.ipx_control.specs.Sap as sap
use Rattle.ipx_tables.specs.declared.service.ServiceKey.{ServiceKey}
use Rattle.ipx_tables.specs.declared.service.ServiceMetric.{ServiceMetric}
use Rattle.ipx_tables.specs.declared.source.Source.{Source}
use Rattle.ipx_router.specs.declared.outcome.Reply.{Reply}
use Rattle.ipx_router.specs.declared.packets.Recipient.{Recipient}
use Rattle.ipx_router.specs.RouterPackets.{AreServicePackets, IsSapPacket, sending_of}
use Rattle.ipx_router.specs.Adding.{AddsBodies, AreBodiesOf, IsLeftToAdd, IsLeftToCut}
use Rattle.ipx_router.specs.Placing.{advertised_of_other_ports}
use Rattle.ipx_router.specs.AdvertisedEntries.{advertised_service}
use Rattle.ipx_router.proofs.Cuts.{cut_done, cut_more}

-- one more body
pub bodies_more : (services rest : List ServiceEntry) (bodies : List (Vec ℕ Global)) → IsLeftToCut services rest bodies → (b : Vec ℕ Global) → 0 < length rest
    → IsSap (sap.Response false (take 7 rest)) b.items [] → length b.items ≤ 450 → IsLeftToCut services (drop 7 rest) (bodies ++ b ∷ [])
bodies_more services rest bodies left b some says short later are =
    subst (AreBodiesOf services) (sym (append_assoc bodies (b ∷ []) later)) (left (b ∷ later) (some, says, short, are))

-- and no more bodies
pub bodies_done : (services rest : List ServiceEntry) (bodies : List (Vec ℕ Global)) → IsLeftToCut services rest bodies → rest ≡ [] → AreBodiesOf services bodies
bodies_done services rest bodies left none = subst (AreBodiesOf services) (append-nil bodies) (left [] none)

-- if no item passes a test, a filter for those that fail it keeps all
pub all_kept : {A : Type 0} (test : A → Bool) (items : List A) → list_any test items ≡ false → filter (λ item. not (test item)) items ≡ items
all_kept test [] none = refl
all_kept {A} test (item ∷ items) none = by (test item) none (all_kept test items)
  where
    by : (b : Bool) → (b || list_any test items) ≡ false → (list_any test items ≡ false → filter (λ (x : A). not (test x)) items ≡ items)
        → cond (not b) (item ∷ filter (λ (x : A). not (test x)) items) (filter (λ (x : A). not (test x)) items) ≡ item ∷ items
    by true n rest = absurd (true≢false n)
    by false n rest = ap (λ (l : List A). item ∷ l) (rest n)

-- if no service came by a port, all are advertised there
pub told_all_alike : (number : ℕ) (heard : List (ServiceKey × Source × ServiceMetric)) → list_any (λ item. item.1.port == number) heard ≡ false → map advertised_service heard ≡ advertised_of_other_ports number heard
told_all_alike number heard none = ap (map advertised_service) (sym (all_kept (λ (item : ServiceKey × Source × ServiceMetric). item.1.port == number) heard none))

module _ (to : Recipient) (bodies : List (Vec ℕ Global)) (old : List Reply) where
  -- packets of the bodies from this index on are still to be added
  abbrev pub AreLeft : ℕ → List Reply → Type 0
  AreLeft i new = (services : List ServiceEntry) → AreBodiesOf services bodies → (rest : List ServiceEntry) × AreBodiesOf rest (drop i bodies)
      × IsLeftToAdd (AreServicePackets to false) services rest old new

  pub left_none : AreLeft 0 old
  left_none services are = (services, are, λ later cut. (later, refl, cut))

  module _ (i : ℕ) (new : List Reply) (left : AreLeft i new) (b : Vec ℕ Global) (here : b ≡ get_or bodies i b) (lt : i < length bodies) where
    next : (services : List ServiceEntry) → AreBodiesOf services (drop i bodies) → AreBodiesOf services (b ∷ drop (i + 1) bodies)
    next services are = subst (λ (v : Vec ℕ Global). AreBodiesOf services (v ∷ drop (i + 1) bodies)) (sym here) (subst (AreBodiesOf services) (drop_more bodies i b lt) are)

    -- every body fits in a packet
    pub left_short : (services : List ServiceEntry) × AreBodiesOf services bodies → length b.items ≤ 450
    left_short w = let h = left w.0 w.1 in (next h.0 h.1).2

    -- one more packet
    pub left_more : (r : Reply) → ((services : List ServiceEntry) → IsSap (sap.Response false services) b.items [] → IsSapPacket to (sap.Response false services) (sending_of r))
        → AreLeft (i + 1) (new ++ r ∷ [])
    left_more r is services are =
        let h = left services are in
        let now = next h.0 h.1 in
        (drop 7 h.0, now.3, cut_more 7 (λ part. IsSapPacket to (sap.Response false part)) services h.0 old new h.2 r now.0 (is (take 7 h.0) now.1))

  -- and no more packets
  pub left_over : (i : ℕ) (new : List Reply) → AreLeft i new → length bodies ≤ i → AddsBodies to bodies old new
  left_over i new left over services are =
      let h = left services are in
      let none : h.0 ≡ [] = subst (AreBodiesOf h.0) (drop_all i bodies over) h.1 in
      cut_done 7 (λ part. IsSapPacket to (sap.Response false part)) services h.0 old new h.2 none
