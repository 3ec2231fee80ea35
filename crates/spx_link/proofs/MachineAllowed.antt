-- What an end may send was allowed by a packet that it got.
use Rattle.std.proofs.Common.{ℕ, ◌+◌, ◌<◌, ◌≡◌, ◌⊎◌, inl, inr, ◌-◌, max, List, [], ◌∷◌, ◌++◌, Option, Some, None, arith, refl, ap, sym, subst}
use Rattle.std.specs.Prelude.{Contains}
use Rattle.std.proofs.lemmas.Bool.{cases_lt, cond_both}
use Rattle.std.proofs.lemmas.List.Elements.{Contains-append_right}
use Rattle.spx_link.proofs.MachineGrowth.{run_grows}
use Rattle.spx_link.specs.Machine.{Packet, End, Machine, Act, Step, Moves, IsStep, IsRun, Grows, mailed, sent_next, learned, put_mark, is_awaited, risen, read_unit, got, start}
use Rattle.spx_link.specs.Machine.Act.{Sends, SendsAgain, SendsNoUnit, Gets, Takes, Gains}
use Rattle.spx_link.specs.Machine.Step.{One, Two}

-- the position was allowed by a packet of the peer's that these steps get
abbrev pub Allowed : (Act → Step) → List Step → List Packet → ℕ → Type 0
Allowed side steps bag n = (p : Packet) × Contains steps (side (Gets p)) × Contains bag p × (n < p.allows)

-- or by the packet that this act gets
abbrev AllowedBy : Act → End → ℕ → Type 0
AllowedBy act d n = (p : Packet) × (act ≡ Gets p) × Contains d.bag p × (n < p.allows)

-- a packet stays in a bag
drops_in : (newer old new : List Packet) (p : Packet) → new ≡ newer ++ old → Contains old p → Contains new p
drops_in newer old new p e h = subst (λ (bag : List Packet). Contains bag p) (sym e) (Contains-append_right newer old p h)

later_allowed : (side : Act → Step) (s : Step) (steps : List Step) (bag : List Packet) (n : ℕ) → Allowed side steps bag n → Allowed side (s ∷ steps) bag n
later_allowed side s steps bag n h = (h.0, Contains-append_right (s ∷ []) steps (side (Gets h.0)) h.1, h.2, h.3)

first_allowed : (side : Act → Step) (act : Act) (steps : List Step) (d last : End) (n : ℕ) → Grows d last → AllowedBy act d n → Allowed side (side act ∷ steps) last.bag n
first_allowed side act steps d last n grown h =
    let here : Contains (side act ∷ steps) (side act) = (0, omega arith, refl) in
    (h.0, subst (λ (a : Act). Contains (side act ∷ steps) (side a)) h.1 here, drops_in grown.bag.0 d.bag last.bag h.0 grown.bag.1 h.2, h.3)

read_unit-limit : (position : Option ℕ) (c : End) → (read_unit position c).limit ≡ c.limit
read_unit-limit None c = refl
read_unit-limit (Some n) c =
    cond_both (is_awaited c n) (risen (put_mark (n - c.read) c.kept) c) c (λ x. x.limit ≡ c.limit) (λ yes. refl) (λ no. refl)

got_allowed : (p : Packet) (c d : End) (n : ℕ) → Contains d.bag p → n < (got p c).limit → (n < c.limit) ⊎ AllowedBy (Gets p) d n
got_allowed p c d n there h =
    let less : n < max c.limit p.allows = subst (λ (x : ℕ). n < x) (read_unit-limit p.position (learned p c)) h in
    elim (cases_lt n c.limit) [ inl lt ↦ inl lt | inr le ↦ inr (p, refl, there, omega arith) ]

same_limit : (act : Act) (c d x c' : End) (n : ℕ) → c' ≡ x → x.limit ≡ c.limit → n < c'.limit → (n < c.limit) ⊎ AllowedBy act d n
same_limit act c d x c' n e l h = inl (omega (arith, l, ap (λ (y : End). y.limit) e))

moves_allowed : (act : Act) (c d c' : End) (n : ℕ) → Moves act c d c' → n < c'.limit → (n < c.limit) ⊎ AllowedBy act d n
moves_allowed Sends c d c' n m h = same_limit Sends c d (sent_next c d) c' n m.2 refl h
moves_allowed (SendsAgain k) c d c' n m h = same_limit (SendsAgain k) c d (mailed (Some k) c d) c' n m.2 refl h
moves_allowed SendsNoUnit c d c' n m h = same_limit SendsNoUnit c d (mailed None c d) c' n m refl h
moves_allowed (Gets p) c d c' n m h = got_allowed p c d n m.0 (subst (λ (x : End). n < x.limit) m.1 h)
moves_allowed Takes c d c' n m h = same_limit Takes c d (record c { taken = c.taken + 1 }) c' n m.1 refl h
moves_allowed (Gains more) c d c' n m h = same_limit (Gains more) c d (record c { units = c.units ++ more }) c' n m refl h

-- ---- the first end

step_one : (s : Step) (steps : List Step) (m next last : Machine) (n : ℕ) → IsStep s m next → Grows m.two last.two → (n < next.one.limit) ⊎ Allowed One steps last.two.bag n → (n < m.one.limit) ⊎ Allowed One (s ∷ steps) last.two.bag n
step_one s steps m next last n is grown (inr found) = inr (later_allowed One s steps last.two.bag n found)
step_one (One act) steps m next last n is grown (inl lt) =
    elim (moves_allowed act m.one m.two next.one n is.0 lt) [ inl before ↦ inl before | inr found ↦ inr (first_allowed One act steps m.two last.two n grown found) ]
step_one (Two act) steps m next last n is grown (inl lt) = inl (subst (λ (x : End). n < x.limit) is.1 lt)

run_one : (steps : List Step) (m last : Machine) (n : ℕ) → IsRun steps m last → n < last.one.limit → (n < m.one.limit) ⊎ Allowed One steps last.two.bag n
run_one [] m last n is h = inl (subst (λ (x : Machine). n < x.one.limit) is h)
run_one (s ∷ steps) m last n is h = step_one s steps m is.0 last n is.1 (run_grows (s ∷ steps) m last is).1 (run_one steps is.0 last n is.2 h)

pub one_allowed : (steps : List Step) (a b : ℕ) (m : Machine) (n : ℕ) → IsRun steps (start a b) m → n < m.one.limit → Allowed One steps m.two.bag n
one_allowed steps a b m n is h = elim (run_one steps (start a b) m n is h) [ inl lt ↦ absurd (omega arith) | inr found ↦ found ]

-- ---- the second end

step_two : (s : Step) (steps : List Step) (m next last : Machine) (n : ℕ) → IsStep s m next → Grows m.one last.one → (n < next.two.limit) ⊎ Allowed Two steps last.one.bag n → (n < m.two.limit) ⊎ Allowed Two (s ∷ steps) last.one.bag n
step_two s steps m next last n is grown (inr found) = inr (later_allowed Two s steps last.one.bag n found)
step_two (One act) steps m next last n is grown (inl lt) = inl (subst (λ (x : End). n < x.limit) is.1 lt)
step_two (Two act) steps m next last n is grown (inl lt) =
    elim (moves_allowed act m.two m.one next.two n is.0 lt) [ inl before ↦ inl before | inr found ↦ inr (first_allowed Two act steps m.one last.one n grown found) ]

run_two : (steps : List Step) (m last : Machine) (n : ℕ) → IsRun steps m last → n < last.two.limit → (n < m.two.limit) ⊎ Allowed Two steps last.one.bag n
run_two [] m last n is h = inl (subst (λ (x : Machine). n < x.two.limit) is h)
run_two (s ∷ steps) m last n is h = step_two s steps m is.0 last n is.1 (run_grows (s ∷ steps) m last is).0 (run_two steps is.0 last n is.2 h)

pub two_allowed : (steps : List Step) (a b : ℕ) (m : Machine) (n : ℕ) → IsRun steps (start a b) m → n < m.two.limit → Allowed Two steps m.one.bag n
two_allowed steps a b m n is h = elim (run_two steps (start a b) m n is h) [ inl lt ↦ absurd (omega arith) | inr found ↦ found ]
