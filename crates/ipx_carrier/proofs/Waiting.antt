-- The datagrams that wait at the ports of a device in memory.
use Rattle.std.proofs.Common.{◌≡◌, ◌<◌, ℕ, List, [], ◌∷◌, ◌++◌, Option, Some, length, map, take, drop, ap, ◌∙◌, refl, get_or}
use Rattle.std.specs.Prelude.{option_map, slice_get, slice_set}
use Rattle.std.proofs.lemmas.List.{map-set}
use Rattle.std.proofs.lemmas.Option.{slice_get-map, slice_get_read}
use Rattle.std.proofs.Math.Seq.{map-set_same}
use Rattle.ipx_carrier.specs.Memory.{WaitsLast}
use Rattle.ipx_carrier.specs.Waits.{LeavesPort}

-- a port's list grows by one
pub waits_last : {Q : Type 0} (qs : List Q) (f : Q → List (List ℕ)) (port : ℕ) (q q' : Q) (bytes : List ℕ) → port < length qs → q ≡ get_or qs port q → f q' ≡ f q ++ bytes ∷ [] → WaitsLast (map f qs) port bytes (map f (slice_set qs port q'))
waits_last qs f port q q' bytes lt e k =
    (f q, slice_get-map f qs port ∙ ap (option_map f) (slice_get_read qs (length qs) port q refl lt e), map-set f qs port q' ∙ ap (slice_set (map f qs) port) k)

-- a port's list did not change
pub waits_still : {Q : Type 0} (qs : List Q) (f : Q → List (List ℕ)) (port : ℕ) (q q' : Q) → q ≡ get_or qs port q → f q' ≡ f q → map f (slice_set qs port q') ≡ map f qs
waits_still qs f port q q' e k = map-set_same f qs port q' q (k ∙ ap f e)

-- a port's list loses its first datagram, which was returned
pub leaves_port : {Q : Type 0} (qs : List Q) (f : Q → List (List ℕ)) (port : ℕ) (q q' : Q) (room : ℕ) (answer : Option (List ℕ)) → port < length qs → q ≡ get_or qs port q → answer ≡ option_map (take room) (slice_get (f q) 0) → f q' ≡ drop 1 (f q) → LeavesPort room port (Some (map f qs)) answer (Some (map f (slice_set qs port q')))
leaves_port qs f port q q' room answer lt e a k =
    (f q, slice_get-map f qs port ∙ ap (option_map f) (slice_get_read qs (length qs) port q refl lt e), a, ap Some (map-set f qs port q' ∙ ap (slice_set (map f qs) port) k))
