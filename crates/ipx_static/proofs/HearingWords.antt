-- A core that receives advertisements, one after another.
use Rattle.std.proofs.Common.{◌≡◌, ℕ, zero, suc, ◌+◌, ◌-◌, ◌<◌, List, [], ◌∷◌, length, drop, refl, sym, ap, subst, arith}
use Rattle.std.proofs.lemmas.List.Elements.{All-head, All-tail}
use Rattle.std.specs.Prelude.{get_or}
use Rattle.ipx_router.specs.declared.outcome.Reply.{Reply}
use Rattle.ipx_router.specs.Ports.{AreOnPorts, IsPortNumber}
use Rattle.ipx_router.specs.RouterPackets.{SendingView, sending_of, sendings}
use Rattle.ipx_static.specs.WithStatics.{HearsAdvertisements, AdvertisementOutOfMemory}

-- the port of an advertisement exists
pub word_there : (count : ℕ) (ws : List Reply) (i : ℕ) (d : Reply) → i < length ws → AreOnPorts count (sendings ws) → IsPortNumber count (get_or ws i d).port
word_there count [] i d within there = absurd (omega (arith, within))
word_there count (w ∷ ws) zero d within there = All-head (λ (s : SendingView). IsPortNumber count s.port) (sending_of w) (sendings ws) there
word_there count (w ∷ ws) (suc i) d within there = word_there count ws i d (omega (arith, within)) (All-tail (λ (s : SendingView). IsPortNumber count s.port) (sending_of w) (sendings ws) there)

module _ {C : Type 0} (hears hear_out_of_memory : C → ℕ → List ℕ → ℕ → C → Type 0) (now : ℕ) (ws : List Reply) (i : ℕ) (w : Reply) (at : drop i ws ≡ w ∷ drop (i + 1) ws) (first core mid : C) where
  -- one advertisement more is received
  pub heard_more : hears core (w.port - 1) w.bytes.items now mid
      → ((new : C) → HearsAdvertisements hears now (sendings (drop i ws)) core new → HearsAdvertisements hears now (sendings ws) first new)
      → (new : C) → HearsAdvertisements hears now (sendings (drop (i + 1) ws)) mid new → HearsAdvertisements hears now (sendings ws) first new
  heard_more heard left new rest =
      left new (subst (λ (xs : List Reply). HearsAdvertisements hears now (sendings xs) core new) (sym at) (mid, heard, rest))

  -- and memory runs out for a later one
  pub missed_later : hears core (w.port - 1) w.bytes.items now mid
      → ((new : C) → AdvertisementOutOfMemory hears hear_out_of_memory now (sendings (drop i ws)) core new → AdvertisementOutOfMemory hears hear_out_of_memory now (sendings ws) first new)
      → (new : C) → AdvertisementOutOfMemory hears hear_out_of_memory now (sendings (drop (i + 1) ws)) mid new → AdvertisementOutOfMemory hears hear_out_of_memory now (sendings ws) first new
  missed_later heard left new rest =
      let here : AdvertisementOutOfMemory hears hear_out_of_memory now (sending_of w ∷ sendings (drop (i + 1) ws)) core new =
      (sending_of w ∷ rest.0, rest.1, rest.2, rest.3, ap (λ (t : List SendingView). sending_of w ∷ t) rest.4, (mid, heard, rest.5), rest.6) in
      left new (subst (λ (xs : List Reply). AdvertisementOutOfMemory hears hear_out_of_memory now (sendings xs) core new) (sym at) here)

  -- or for this one
  pub missed_here : hear_out_of_memory core (w.port - 1) w.bytes.items now mid
      → ((new : C) → AdvertisementOutOfMemory hears hear_out_of_memory now (sendings (drop i ws)) core new → AdvertisementOutOfMemory hears hear_out_of_memory now (sendings ws) first new)
      → AdvertisementOutOfMemory hears hear_out_of_memory now (sendings ws) first mid
  missed_here missed left =
      let here : AdvertisementOutOfMemory hears hear_out_of_memory now (sending_of w ∷ sendings (drop (i + 1) ws)) core mid =
      ([], sendings (drop (i + 1) ws), sending_of w, core, refl, refl, missed) in
      left mid (subst (λ (xs : List Reply). AdvertisementOutOfMemory hears hear_out_of_memory now (sendings xs) core mid) (sym at) here)
