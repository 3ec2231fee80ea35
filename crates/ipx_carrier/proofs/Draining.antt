-- What waits at the ports of a device that is asked repeatedly.
use Rattle.std.proofs.Common.{◌≡◌, ℕ, List, [], ◌∷◌, ◌++◌, map, filter, take, drop, Option, Some, None, refl, sym, ap, ◌∙◌, subst, inl, inr, cond, Bool, true, false}
use Rattle.std.specs.Prelude.{suc, zero, replicate, slice_get, slice_set, option_map, ◌==◌}
use Rattle.std.proofs.lemmas.Bool.{eqb-true, eqb-false}
use Rattle.std.proofs.lemmas.List.{length-set}
use Rattle.ipx_carrier.specs.Device.{Passes, Reception, TrafficOf}
use Rattle.ipx_carrier.specs.Waits.{DrainsDevice, DrainsPort, DrainsPorts, LeavesPort, WaitingDatagrams}
use Rattle.ipx_carrier.specs.Parts.{LeavePorts, TakesFromDevice}
use Rattle.ipx_carrier.proofs.Passing.{passes_nothing, passes_on}

leave_on : (room : ℕ) (a b c : Option WaitingDatagrams) (rs rs' : List Reception) → LeavePorts room a rs b → LeavePorts room b rs' c → LeavePorts room a (rs ++ rs') c
leave_on room a b c [] rs' h k = subst (λ (a : Option WaitingDatagrams). LeavePorts room a rs' c) h k
leave_on room a b c (r ∷ rs) rs' h k = (h.0, h.1, leave_on room h.0 b c rs rs' h.2 k)

pub takes_nothing : {A : Type 0} (room : ℕ) (s t : Option (TrafficOf A)) (a b : Option WaitingDatagrams) → t ≡ s → b ≡ a → TakesFromDevice room s t a b
takes_nothing room s t a b e k = ([], [], passes_nothing s t e, k)

pub takes_one : {A : Type 0} (room port : ℕ) (s t : Option (TrafficOf A)) (a b : Option WaitingDatagrams) (answer : Option (List ℕ)) → Passes s t (record { port = port; bytes = answer } ∷ []) [] → LeavesPort room port a answer b → TakesFromDevice room s t a b
takes_one room port s t a b answer h k = (record { port = port; bytes = answer } ∷ [], [], h, (b, k, refl))

pub takes_on : {A : Type 0} (room : ℕ) (s t u : Option (TrafficOf A)) (a b c : Option WaitingDatagrams) → TakesFromDevice room s t a b → TakesFromDevice room t u b c → TakesFromDevice room s u a c
takes_on room s t u a b c h k =
    (h.0 ++ k.0, h.1 ++ k.1, passes_on s t u h.0 k.0 h.1 k.1 h.2 k.2, leave_on room a b c h.0 k.0 h.3 k.3)

-- the same if the length of the buffer is written in another way
pub takes_more : {A : Type 0} (here room : ℕ) (s t u : Option (TrafficOf A)) (a b c : Option WaitingDatagrams) → here ≡ room → TakesFromDevice room s t a b → TakesFromDevice here t u b c → TakesFromDevice room s u a c
takes_more here room s t u a b c e h k = takes_on room s t u a b c h (subst (λ n. TakesFromDevice n t u b c) e k)

pub takes_sent : {A : Type 0} (room : ℕ) (s t u : Option (TrafficOf A)) (a b c : Option WaitingDatagrams) (ds : List A) → TakesFromDevice room s t a b → Passes t u [] ds → c ≡ b → TakesFromDevice room s u a c
takes_sent room s t u a b c ds h k e = takes_on room s t u a b c h ([], ds, k, e)

get_set_same : {A : Type 0} (xs : List A) (i : ℕ) (x y : A) → slice_get xs i ≡ Some x → slice_get (slice_set xs i y) i ≡ Some y
get_set_same (z ∷ xs) zero x y e = refl
get_set_same (z ∷ xs) (suc i) x y e = get_set_same xs i x y e
get_set_same [] i x y e = cc

-- if none waits, none waited before and none is left
none_left : (room : ℕ) (first left : List (List ℕ)) (nothing : ℕ) (answers : List (Option (List ℕ))) (answer : Option (List ℕ)) → answer ≡ None → [] ≡ first ++ left → answers ≡ map (λ d. Some (take room d)) first ++ replicate nothing None → DrainsPort room [] (answer ∷ answers) left
none_left room [] left nothing answers answer e w a = ([], suc nothing, w, ap (λ o. o ∷ answers) e ∙ ap (λ os. None ∷ os) a, inr (sym w))
none_left room (d ∷ first) left nothing answers answer e w a = cc

drains_first : (room : ℕ) (here : List (List ℕ)) (answer : Option (List ℕ)) (answers : List (Option (List ℕ))) (left : List (List ℕ)) → answer ≡ option_map (take room) (slice_get here 0) → DrainsPort room (drop 1 here) answers left → DrainsPort room here (answer ∷ answers) left
drains_first room [] answer answers left e h = none_left room h.0 left h.1 answers answer e h.2 h.3
drains_first room (d ∷ here) answer answers left e h =
    (d ∷ h.0, h.1, ap (λ ds. d ∷ ds) h.2, ap (λ o. o ∷ answers) e ∙ ap (λ os. Some (take room d) ∷ os) h.3, h.4)

get_set_other : {A : Type 0} (xs : List A) (i j : ℕ) (y : A) → (i ≡ j → ⊥) → slice_get (slice_set xs i y) j ≡ slice_get xs j
get_set_other [] i j y far = refl
get_set_other (x ∷ xs) zero zero y far = absurd (far refl)
get_set_other (x ∷ xs) zero (suc j) y far = refl
get_set_other (x ∷ xs) (suc i) zero y far = refl
get_set_other (x ∷ xs) (suc i) (suc j) y far = get_set_other xs i j y (λ e. far (ap (λ n. suc n) e))

abbrev DrainsAt : ℕ → ℕ → WaitingDatagrams → List (List ℕ) → List Reception → Type 0
DrainsAt room port waiting here received = (left : List (List ℕ)) × (slice_get waiting port ≡ Some left)
    × DrainsPort room here (map (λ r. r.bytes) received) left

-- one more answer before the others, of this port or of another one
one_first : (room : ℕ) (r : Reception) (rs : List Reception) (waited waiting : WaitingDatagrams) (there : List (List ℕ)) → slice_get waited r.port ≡ Some there → r.bytes ≡ option_map (take room) (slice_get there 0) → ((p : ℕ) (here : List (List ℕ)) → slice_get (slice_set waited r.port (drop 1 there)) p ≡ Some here → DrainsAt room p waiting here (filter (λ q. q.port == p) rs)) → (p : ℕ) (here : List (List ℕ)) → slice_get waited p ≡ Some here → (b : Bool) → (r.port == p) ≡ b → DrainsAt room p waiting here (cond b (r ∷ filter (λ q. q.port == p) rs) (filter (λ q. q.port == p) rs))
one_first room r rs waited waiting there e a each p here g true is =
    let at : r.port ≡ p = eqb-true r.port p is in
    let same : there ≡ here = cc in
    let k = each p (drop 1 here) (subst (λ n. slice_get (slice_set waited n (drop 1 there)) p ≡ Some (drop 1 here)) (sym at) (subst (λ ds. slice_get (slice_set waited p (drop 1 ds)) p ≡ Some (drop 1 here)) (sym same) (get_set_same waited p here (drop 1 here) g))) in
    (k.0, k.1, drains_first room here r.bytes (map (λ r. r.bytes) (filter (λ q. q.port == p) rs)) k.0 (a ∙ ap (λ ds. option_map (take room) (slice_get ds 0)) same) k.2)
one_first room r rs waited waiting there e a each p here g false is =
    each p here (get_set_other waited r.port p (drop 1 there) (eqb-false r.port p is) ∙ g)

drains_ports : (room : ℕ) (rs : List Reception) (waited : WaitingDatagrams) (new : Option WaitingDatagrams) → LeavePorts room (Some waited) rs new → (waiting : WaitingDatagrams) × (new ≡ Some waiting) × DrainsPorts room waited rs waiting
drains_ports room [] waited new h = (waited, h, (refl, λ p here e. (here, e, ([], 0, refl, refl, inl refl))))
drains_ports room (r ∷ rs) waited new h =
    let there = h.1.0 in
    let next : WaitingDatagrams = slice_set waited r.port (drop 1 there) in
    let k = drains_ports room rs next new (subst (λ (m : Option WaitingDatagrams). LeavePorts room m rs new) h.1.3 h.2) in
    (k.0, k.1, (k.2.0 ∙ length-set waited r.port (drop 1 there), λ p here e. one_first room r rs waited k.0 there h.1.1 h.1.2 k.2.1 p here e (r.port == p) refl))

pub drains : {A : Type 0} (room : ℕ) (s t : Option (TrafficOf A)) (a b : Option WaitingDatagrams) → TakesFromDevice room s t a b → DrainsDevice room s t a b
drains room s t None b h = (h.0, h.1, h.2, tt)
drains room s t (Some waited) b h = (h.0, h.1, h.2, drains_ports room h.0 waited b h.3)
