-- Which descriptors a poller watches, one after another.
use Rattle.std.proofs.Common.{◌≡◌, ◌∙◌, ◌<◌, ◌≤◌, ◌+◌, ◌-◌, ◌^◌, ◌++◌, ◌∷◌, ℕ, suc, ℤ, List, [], Some, ap, arith, map, sym, take}
use Rattle.std.proofs.Math.Nat.{min-eq_left}
use Rattle.std.proofs.Math.Seq.{take-suc}
use Rattle.std.proofs.lemmas.List.{append_assoc, map_push}
use Rattle.std.proofs.lemmas.Option.{get_or_from_slice_get, slice_get_within}
use Rattle.std.specs.Prelude.{slice_get}
use Rattle.ipx_carrier.specs.Counting.{counted}
use Rattle.ipx_sockets.specs.PollEvents.{PollEvent, Watched}

-- none yet
pub none_watched : (watched : ℕ) → watched < 2 ^ 64 → watched ≡ counted (watched + 0)
none_watched n small =
    let same : n + 0 ≡ n = omega arith in
    let within : n ≤ 2 ^ 64 - 1 = omega (arith, small) in
    sym (ap counted same ∙ min-eq_left within)

-- one more
pub watched_more : (fds : List ℤ) (i : ℕ) (fd : ℤ) (old mid new : List PollEvent) → mid ≡ old ++ map Watched (take i fds) → slice_get fds i ≡ Some fd
    → new ≡ mid ++ Watched fd ∷ [] → new ≡ old ++ map Watched (take (i + 1) fds)
watched_more fds i fd old mid new before there more =
    let next : suc i ≡ i + 1 = omega arith in
    let taken : take (i + 1) fds ≡ take i fds ++ fd ∷ [] =
    ap (λ (k : ℕ). take k fds) (sym next) ∙ take-suc fds i fd (slice_get_within fds i fd there) ∙ ap (λ (x : ℤ). take i fds ++ x ∷ []) (get_or_from_slice_get fds i fd fd there) in
    let seen : map Watched (take (i + 1) fds) ≡ map Watched (take i fds) ++ Watched fd ∷ [] = ap (map Watched) taken ∙ map_push Watched (take i fds) fd in
    more ∙ ap (λ (it : List PollEvent). it ++ Watched fd ∷ []) before ∙ append_assoc old (map Watched (take i fds)) (Watched fd ∷ []) ∙ ap (λ (it : List PollEvent). old ++ it) (sym seen)
