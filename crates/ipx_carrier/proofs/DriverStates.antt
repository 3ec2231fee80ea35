-- The states of a driver whose ports are asked, and which sends packets, one after another.
use Rattle.std.proofs.Common.{◌≡◌, ◌<◌, ℕ, zero, suc, ◌+◌, List, [], ◌∷◌, ◌++◌, length, map, Option, refl, sym, ap, ◌∙◌, subst, append_assoc, arith, take, get_or}
use Rattle.std.proofs.lemmas.List.{take_more, map-append}
use Rattle.ipx_carrier.specs.declared.fault.RunFault.{RunFault}
use Rattle.ipx_carrier.specs.declared.fault.RunFault.TheVariants.{Device, OutOfMemory}
use Rattle.ipx_carrier.specs.Device.{Reception}
use Rattle.ipx_carrier.specs.DriverTurns.{AsksEach, SendsEach, SendsFront, SendsSomeOf, SendsUntil}

module _ {S : Type 0} (receives : S → ℕ → ℕ → Option (List ℕ) → S → Type 0) (size : ℕ) where
  pub asks_on : (rs ss : List Reception) (x y z : S) → AsksEach receives size rs x y → AsksEach receives size ss y z → AsksEach receives size (rs ++ ss) x z
  asks_on [] ss x y z h k = subst (λ x. AsksEach receives size ss x z) h k
  asks_on (r ∷ rs) ss x y z h k = (h.0, h.1, asks_on rs ss h.0 y z h.2 k)

  pub asks_one_more : (rs : List Reception) (port : ℕ) (bytes : Option (List ℕ)) (x y z : S) → AsksEach receives size rs x y → receives y port size bytes z
      → AsksEach receives size (rs ++ record { port = port; bytes = bytes } ∷ []) x z
  asks_one_more rs port bytes x y z h k = asks_on rs (record { port = port; bytes = bytes } ∷ []) x y z h (z, k, refl)

module _ {S P : Type 0} (sends : S → P → S → Type 0) where
  pub sends_on : (ps qs : List P) (x y z : S) → SendsEach sends ps x y → SendsEach sends qs y z → SendsEach sends (ps ++ qs) x z
  sends_on [] qs x y z h k = subst (λ x. SendsEach sends qs x z) h k
  sends_on (p ∷ ps) qs x y z h k = (h.0, h.1, sends_on ps qs h.0 y z h.2 k)

  pub sends_one_more : (ps : List P) (p : P) (x y z : S) → SendsEach sends ps x y → sends y p z → SendsEach sends (ps ++ p ∷ []) x z
  sends_one_more ps p x y z h k = sends_on ps (p ∷ []) x y z h (z, k, refl)

  -- as more items of a list are sent, each by its packet
  pub sends_item_more : {T : Type 0} (f : T → P) (xs : List T) (n : ℕ) (d : T) (x y z : S) → n < length xs → SendsEach sends (map f (take n xs)) x y → sends y (f (get_or xs n d)) z
      → SendsEach sends (map f (take (n + 1) xs)) x z
  sends_item_more f xs n d x y z lt h k =
      let e : map f (take (n + 1) xs) ≡ map f (take n xs) ++ f (get_or xs n d) ∷ [] =
      ap (map f) (take_more xs n d lt) ∙ map-append f (take n xs) (get_or xs n d ∷ []) in
      subst (λ (ps : List P). SendsEach sends ps x z) (sym e) (sends_one_more (map f (take n xs)) (f (get_or xs n d)) x y z h k)

  module _ (fails_to_send : S → P → S → Type 0) where
    front_on : (ps qs rest : List P) (x y z : S) → SendsEach sends ps x y → SendsFront sends fails_to_send qs rest y z → SendsFront sends fails_to_send (ps ++ qs) rest x z
    front_on ps qs rest x y z h k =
        (ps ++ k.0, k.1, ap (λ (rs : List P). ps ++ rs) k.2 ∙ sym (append_assoc ps k.0 (k.1 ∷ rest)), k.3, sends_on ps k.0 x y k.3 h k.4, k.5)

    -- more packets until a fault
    pub sends_until : (ps qs : List P) (f : RunFault) (x y z : S) → SendsEach sends ps x y → SendsUntil sends fails_to_send qs f y z → SendsUntil sends fails_to_send (ps ++ qs) f x z
    sends_until ps qs Device x y z h k = front_on ps qs [] x y z h k
    sends_until ps qs OutOfMemory x y z h k = sends_on ps qs x y z h k

    -- of more items of a list, the next one failed
    pub sends_items_until : {T : Type 0} (f : T → P) (xs : List T) (n : ℕ) (d : T) (x y z : S) → n < length xs → SendsEach sends (map f (take n xs)) x y → fails_to_send y (f (get_or xs n d)) z
        → SendsSomeOf sends fails_to_send (map f xs) x z
    sends_items_until f [] n d x y z lt h k = absurd (omega (arith, lt))
    sends_items_until f (t ∷ ts) zero d x y z lt h k = (map f ts, ([], f t, refl, y, h, k))
    sends_items_until f (t ∷ ts) (suc n) d x y z lt h k =
        let by = sends_items_until f ts n d h.0 y z (omega (arith, lt)) h.2 k in
        (by.0, (f t ∷ by.1.0, by.1.1, ap (λ (ps : List P). f t ∷ ps) by.1.2, by.1.3, (h.0, h.1, by.1.4), by.1.5))
