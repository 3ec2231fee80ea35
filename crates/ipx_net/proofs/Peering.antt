-- How the peer of an end is found.
use Rattle.std.proofs.Common.{◌≡◌, ◌<◌, ◌↔◌, ℕ, List, [], ◌∷◌, length, Option, Some, None, get_or, map, sym, ◌∙◌, ap, subst, arith, zero, suc, false, not, nat_eq, eqb-true}
use Rattle.std.specs.Prelude.{All, option_map}
use Rattle.std.specs.Option.{option_eq}
use Rattle.std.proofs.lemmas.Option.{slice_get-get_or, slice_get-map}
use Rattle.std.proofs.lemmas.Bool.{not-false}
use Rattle.std.proofs.lemmas.List.{length-map}
use Rattle.spx_theory.specs.Note.{Note}
use Rattle.spx_theory.specs.Scan.{Each, Scan, scan}
use Rattle.spx_theory.specs.Peers.{ArePeers, IsFresh, IsRecent}
use Rattle.spx_theory.specs.Handed.{handed_in, handed_out, IsBeginning}
use Rattle.spx_theory.specs.EndsSummarized.{PeerIsFound, peer_in, peer_of}
use Rattle.ipx_net.specs.Begins.{BeginsAsRead}
use Rattle.ipx_net.specs.Sights.{reading_view, scan_of}
use Rattle.ipx_net.specs.declared.log_index.LogIndex.{LogIndex}

-- for an end with this peer
pub with_peer : (log : List Note) (end peer : ℕ) → ((s : Scan) (c d : ℕ) → PeerIsFound s c d) → end < length (scan log).roles → peer_of log end ≡ Some peer
    → BeginsAsRead log end ↔ IsBeginning (handed_out end log) (handed_in peer log)
with_peer log end peer found made is =
    let are : ArePeers log end peer = (found (scan log) end peer).only is in (
      λ b. b.begins peer are,
      λ w. record {
        made = made;
        begins = λ d peers. let same : Some peer ≡ Some d = sym is ∙ (found (scan log) end d).there peers in
            let one : peer ≡ d = cc in subst (λ (n : ℕ). IsBeginning (handed_out end log) (handed_in n log)) one w;
        alone = λ none. absurd (none peer are);
      },
    )

-- for an end without a peer
pub without_peer : (log : List Note) (end : ℕ) → ((s : Scan) (c d : ℕ) → PeerIsFound s c d) → end < length (scan log).roles → peer_of log end ≡ None
    → BeginsAsRead log end ↔ (handed_out end log ≡ [])
without_peer log end found made is =
    let none : (d : ℕ) → ArePeers log end d → ⊥ = λ d peers. let same : None ≡ Some d = sym is ∙ (found (scan log) end d).there peers in cc in
    (λ b. b.alone none, λ e. record { made = made; begins = λ d peers. absurd (none d peers); alone = λ _. e })

-- of each element of a list of views
pub each_all : {A B : Type 0} (P : B → Type 0) (f : A → B) (xs : List A) → All (λ x. P (f x)) xs ↔ Each P (map f xs)
each_all P f xs = (to_each P f xs, from_each P f xs)
  where
    to_each : {A B : Type 0} (P : B → Type 0) (f : A → B) (xs : List A) → All (λ x. P (f x)) xs → Each P (map f xs)
    to_each P f [] all k x is = cc
    to_each P f (y ∷ ys) all zero x is = let here : P (f y) = all 0 y (omega arith) in let same : f y ≡ x = cc in subst P same here
    to_each P f (y ∷ ys) all (suc k) x is = to_each P f ys (λ j d h. all (suc j) d (omega arith)) k x is

    from_each : {A B : Type 0} (P : B → Type 0) (f : A → B) (xs : List A) → Each P (map f xs) → All (λ x. P (f x)) xs
    from_each P f xs each k d h = each k (f (get_or xs k d)) (slice_get-map f xs k ∙ ap (option_map f) (slice_get-get_or xs k d h))

-- the found peer is this end
pub is_this : (o : Option ℕ) (m : ℕ) → not (option_eq nat_eq o (Some m)) ≡ false → o ≡ Some m
is_this None m e = cc
is_this (Some k) m e = ap Some (eqb-true k m (not-false (nat_eq k m) e))

-- whether readings are recent, by the index
pub fresh_by : (P : Type 0) (log : List Note) (kept : LogIndex) → scan log ≡ scan_of kept → (P ↔ All (λ r. IsRecent (scan_of kept) (reading_view r)) kept.readings.items) → P ↔ IsFresh log
fresh_by P log kept same answer =
    let each = each_all (IsRecent (scan_of kept)) reading_view kept.readings.items in
    let there : Each (IsRecent (scan_of kept)) (scan_of kept).readings → IsFresh log = λ h. subst (λ (s : Scan). Each (IsRecent s) s.readings) (sym same) h in
    let back : IsFresh log → Each (IsRecent (scan_of kept)) (scan_of kept).readings = λ h. subst (λ (s : Scan). Each (IsRecent s) s.readings) same h in
    (λ p. there (each.0 (answer.0 p)), λ h. answer.1 (each.1 (back h)))

-- whether what an end with a peer handed out is a prefix, by the index
pub begins_with : (P : Type 0) (log : List Note) (kept : LogIndex) (end peer : ℕ) → ((s : Scan) (c d : ℕ) → PeerIsFound s c d) → scan log ≡ scan_of kept → end < length kept.roles.items
    → peer_in (scan_of kept) end ≡ Some peer → (P ↔ IsBeginning (handed_out end log) (handed_in peer log)) → P ↔ BeginsAsRead log end
begins_with P log kept end peer found same within is answer =
    let there : end < length (scan_of kept).roles = rw length-map within in
    let made : end < length (scan log).roles = subst (λ (s : Scan). end < length s.roles) (sym same) there in
    let peered : peer_of log end ≡ Some peer = ap (λ (s : Scan). peer_in s end) same ∙ is in
    let both = with_peer log end peer found made peered in
    (λ p. both.1 (answer.0 p), λ b. answer.1 (both.0 b))
