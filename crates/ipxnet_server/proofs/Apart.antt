-- The pings of those that are noted again come one after another.
use Rattle.std.proofs.Common.{◌≡◌, ◌≤◌, ◌<◌, ◌+◌, ℕ, zero, suc, List, [], ◌∷◌, ◌++◌, Bool, true, false, length, get_or, not, arith, refl, ap, ◌∙◌, ltb-true}
use Rattle.std.specs.Prelude.{◌&&◌, nat_lt, if◌then◌else◌}
use Rattle.std.specs.declared.net.socket_addr.SocketAddrV4.{SocketAddrV4}
use Rattle.std.proofs.lemmas.Bool.{and_parts}
use Rattle.std.proofs.lemmas.List.{length-append}
use Rattle.ipxnet_server.specs.declared.ask_times.NoteCause.TheVariants.{Restart}
use Rattle.ipxnet_server.specs.declared.noted.Noted.{Noted}
use Rattle.ipxnet_server.specs.AskTimes.{first_ask_of, second_ask_of}
use Rattle.ipxnet_server.specs.NotedPlaces.{has_note_room, is_noted, max_address_noted, max_noted, noted_again, notes_of_ip, places_noted_again}
use Rattle.ipxnet_server.specs.Restarts.{RestartAsksAreApart, all_noted_again}

-- these were noted at this time, and each says how many were noted before it, of which the first says this
abbrev AreNumbered : ℕ → ℕ → List Noted → Type 0
AreNumbered now n [] = Unit {0}
AreNumbered now n (x ∷ xs) = (x.cause ≡ Restart n) × (x.since ≡ now) × AreNumbered now (suc n) xs

numbered_last : (now n k : ℕ) (place : SocketAddrV4) (xs : List Noted) → k ≡ n + length xs → AreNumbered now n xs → AreNumbered now n (xs ++ record { place = place; since = now; cause = Restart k } ∷ [])
numbered_last now n k place [] is are = (ap Restart (let e : k ≡ n = omega (arith, is) in e), refl, tt)
numbered_last now n k place (x ∷ xs) is are = (are.0, are.1, numbered_last now (suc n) k place xs (omega (arith, is)) are.2)

cause_at : (now n : ℕ) (xs : List Noted) (k : ℕ) (d : Noted) → k < length xs → AreNumbered now n xs → (get_or xs k d).cause ≡ Restart (n + k)
cause_at now n [] k d lt are = absurd (omega (arith, lt))
cause_at now n (x ∷ xs) zero d lt are = are.0 ∙ ap Restart (let e : n ≡ n + 0 = omega arith in e)
cause_at now n (x ∷ xs) (suc k) d lt are = cause_at now (suc n) xs k d (omega (arith, lt)) are.2 ∙ ap Restart (let e : suc n + k ≡ n + suc k = omega arith in e)

since_at : (now n : ℕ) (xs : List Noted) (k : ℕ) (d : Noted) → k < length xs → AreNumbered now n xs → (get_or xs k d).since ≡ now
since_at now n [] k d lt are = absurd (omega (arith, lt))
since_at now n (x ∷ xs) zero d lt are = are.1
since_at now n (x ∷ xs) (suc k) d lt are = since_at now (suc n) xs k d (omega (arith, lt)) are.2

-- ---- noted one after another

abbrev IsSound : ℕ → List Noted → Type 0
IsSound now xs = (length xs ≤ max_noted) × AreNumbered now 0 xs

sound_if : (b : Bool) (now : ℕ) (place : SocketAddrV4) (xs : List Noted) → (b ≡ true → length xs < max_noted) → IsSound now xs → IsSound now (if b then noted_again place now xs else xs)
sound_if true now place xs room sound = (
  omega (arith, room refl, length-append xs (record { place = place; since = now; cause = Restart (length xs) } ∷ [])),
  numbered_last now 0 (length xs) place xs (omega arith) sound.1,
)
sound_if false now place xs room sound = sound

has_room : (place : SocketAddrV4) (xs : List Noted) → (not (is_noted place xs) && has_note_room place xs) ≡ true → length xs < max_noted
has_room place xs e =
    let both = and_parts (not (is_noted place xs)) (has_note_room place xs) e in
    let room = and_parts (nat_lt (length xs) max_noted) (nat_lt (length (notes_of_ip place xs)) max_address_noted) both.1 in
    ltb-true (length xs) max_noted room.0

all_sound : (now : ℕ) (places : List SocketAddrV4) (xs : List Noted) → IsSound now xs → IsSound now (all_noted_again now places xs)
all_sound now [] xs sound = sound
all_sound now (place ∷ places) xs sound =
    all_sound now places (places_noted_again place now xs) (sound_if (not (is_noted place xs) && has_note_room place xs) now place xs (has_room place xs) sound)

pub apart : RestartAsksAreApart
apart now places i j d lt within =
    let xs : List Noted = all_noted_again now places [] in
    let sound : IsSound now xs = all_sound now places [] (omega arith, tt) in
    let a = get_or xs i d in
    let b = get_or xs j d in
    let first : a.cause ≡ Restart i = cause_at now 0 xs i d (omega (arith, lt, within)) sound.1 ∙ ap Restart (let e : 0 + i ≡ i = omega arith in e) in
    let second : b.cause ≡ Restart j = cause_at now 0 xs j d within sound.1 ∙ ap Restart (let e : 0 + j ≡ j = omega arith in e) in
    let at : a.since ≡ now = since_at now 0 xs i d (omega (arith, lt, within)) sound.1 in
    let there : b.since ≡ now = since_at now 0 xs j d within sound.1 in
    record {
      first = omega (arith, ap first_ask_of first, ap first_ask_of second, at, there, lt, within, sound.0);
      second = omega (arith, ap second_ask_of first, ap second_ask_of second, at, there, lt, within, sound.0);
    }
