-- Which stations are known, once one was heard.
use Rattle.std.proofs.Common.{◌≡◌, ◌≤◌, ◌<◌, ◌+◌, ◌-◌, ℕ, List, [], ◌∷◌, Bool, true, false, Option, Some, None, length, take, drop, filter, find, not, cond, arith, refl, sym, ap, subst, suc, zero, ◌∙◌, take-append-drop}
use Rattle.std.specs.Option.{option_or}
use Rattle.std.specs.Str.{bytes_eq}
use Rattle.std.proofs.lemmas.Bool.{le-leb, le-ltb, lt-leb, lt-ltb}
use Rattle.std.proofs.lemmas.List.Filters.{length-filter_both}
use Rattle.std.proofs.lemmas.List.Folds.{find-append}
use Rattle.std.proofs.lemmas.Slice.Eq.{bytes_eq-Decides}
use Rattle.ipx_wire.specs.declared.address.Node.{Node}
use Rattle.ipx_ethernet.specs.declared.mac_table.Station.{Station}
use Rattle.ipx_ethernet.specs.SwitchEnds.{end_of_station, end_while_young, is_at, max_stations, ageing_time, stations_with}
use Rattle.ipx_ethernet.proofs.Room.{last_with}

left_by : (node : Node) (x : Station) (b : Bool) (rest : List Station) → is_at node x ≡ b → find (is_at node) rest ≡ None → find (is_at node) (cond (not b) (x ∷ rest) rest) ≡ None
left_by node x true rest is none = none
left_by node x false rest is none = rw is none

-- a station that was removed is none of those that stay
none_left : (node : Node) (xs : List Station) → find (is_at node) (filter (λ k. not (is_at node k)) xs) ≡ None
none_left node [] = refl
none_left node (x ∷ xs) = left_by node x (is_at node x) (filter (λ k. not (is_at node k)) xs) refl (none_left node xs)

second_none : (a b : Option Station) → option_or a b ≡ None → b ≡ None
second_none None b e = e
second_none (Some x) b e = cc

none_behind : (test : Station → Bool) (n : ℕ) (xs : List Station) → find test xs ≡ None → find test (drop n xs) ≡ None
none_behind test n xs none =
    second_none (find test (take n xs)) (find test (drop n xs)) (sym (find-append test (take n xs) (drop n xs)) ∙ ap (find test) (take-append-drop n xs) ∙ none)

alone : (s : Station) → find (is_at s.node) (s ∷ []) ≡ Some s
alone s = rw ((bytes_eq-Decides s.node.0 s.node.0).1 refl) refl

-- a station that was heard is found
found : (s : Station) (known : List Station) → find (is_at s.node) (stations_with s known) ≡ Some s
found s known =
    let test = is_at s.node in
    let kept : List Station = filter (λ k. not (is_at s.node k)) known in
    let n = length kept + 1 - max_stations in
    let none : find test (drop n kept) ≡ None = none_behind test n kept (none_left s.node known) in
    ap (find test) (sym (last_with kept s)) ∙ find-append test (drop n kept) (s ∷ []) ∙ ap (λ (o : Option Station). option_or o (find test (s ∷ []))) none ∙ alone s

young : (s : Station) (now : ℕ) → s.moment ≤ now → now < s.moment + ageing_time → end_while_young now (Some s) ≡ Some s.end
young s now le lt = rw (le-leb s.moment now le, lt-ltb (now - s.moment) ageing_time (omega (arith, le, lt))) refl

old : (s : Station) (now : ℕ) → s.moment + ageing_time ≤ now → end_while_young now (Some s) ≡ None
old s now le = rw (le-leb s.moment now (omega (arith, le)), le-ltb (now - s.moment) ageing_time (omega (arith, le))) refl

early : (s : Station) (now : ℕ) → now < s.moment → end_while_young now (Some s) ≡ None
early s now lt = rw (lt-leb s.moment now lt) refl

pub known_there : (s : Station) (known : List Station) (now : ℕ) → s.moment ≤ now → now < s.moment + ageing_time → end_of_station s.node now (stations_with s known) ≡ Some s.end
known_there s known now le lt = ap (end_while_young now) (found s known) ∙ young s now le lt

pub known_no_more : (s : Station) (known : List Station) (now : ℕ) → s.moment + ageing_time ≤ now → end_of_station s.node now (stations_with s known) ≡ None
known_no_more s known now le = ap (end_while_young now) (found s known) ∙ old s now le

pub known_not_yet : (s : Station) (known : List Station) (now : ℕ) → now < s.moment → end_of_station s.node now (stations_with s known) ≡ None
known_not_yet s known now lt = ap (end_while_young now) (found s known) ∙ early s now lt

-- ---- the other stations

another : (node other : Node) (x : Station) → bytes_eq node.0 other.0 ≡ false → is_at node x ≡ true → is_at other x ≡ false
another node other x apart is = ap (λ (a : List ℕ). bytes_eq a other.0) ((bytes_eq-Decides x.node.0 node.0).0 is) ∙ apart

stays_by : (node other : Node) (x : Station) (b : Bool) (rest xs : List Station) → bytes_eq node.0 other.0 ≡ false → is_at node x ≡ b → find (is_at other) rest ≡ find (is_at other) xs
    → find (is_at other) (cond (not b) (x ∷ rest) rest) ≡ find (is_at other) (x ∷ xs)
stays_by node other x true rest xs apart is same = rw (another node other x apart is) same
stays_by node other x false rest xs apart is same = ap (λ (o : Option Station). cond (is_at other x) (Some x) o) same

others_left : (node other : Node) (xs : List Station) → bytes_eq node.0 other.0 ≡ false → find (is_at other) (filter (λ k. not (is_at node k)) xs) ≡ find (is_at other) xs
others_left node other [] apart = refl
others_left node other (x ∷ xs) apart =
    stays_by node other x (is_at node x) (filter (λ k. not (is_at node k)) xs) xs apart refl (others_left node other xs apart)

or_none : (a : Option Station) → option_or a None ≡ a
or_none None = refl
or_none (Some x) = refl

not_alone : (s : Station) (other : Node) → bytes_eq s.node.0 other.0 ≡ false → find (is_at other) (s ∷ []) ≡ None
not_alone s other apart = rw apart refl

-- if another station is found as before among those that stay, it is known as before
kept_still : (s : Station) (known : List Station) (other : Node) (now : ℕ) → bytes_eq s.node.0 other.0 ≡ false
    → find (is_at other) (drop (length (filter (λ k. not (is_at s.node k)) known) + 1 - max_stations) (filter (λ k. not (is_at s.node k)) known)) ≡ find (is_at other) (filter (λ k. not (is_at s.node k)) known)
    → end_of_station other now (stations_with s known) ≡ end_of_station other now known
kept_still s known other now apart same =
    let test = is_at other in
    let kept : List Station = filter (λ k. not (is_at s.node k)) known in
    let rest : List Station = drop (length kept + 1 - max_stations) kept in
    ap (end_while_young now) (ap (find test) (sym (last_with kept s)) ∙ find-append test rest (s ∷ []) ∙ ap (option_or (find test rest)) (not_alone s other apart) ∙ or_none (find test rest) ∙ same ∙ others_left s.node other known apart)

fewer : (s : Station) (known : List Station) → length (filter (λ k. not (is_at s.node k)) known) ≤ length known
fewer s known = omega (arith, length-filter_both (is_at s.node) (λ k. not (is_at s.node k)) (λ x. refl) known)

-- if there is room, none is removed
none_goes : (test : Station → Bool) (kept : List Station) → length kept < max_stations → find test (drop (length kept + 1 - max_stations) kept) ≡ find test kept
none_goes test kept few =
    let zero : length kept + 1 - max_stations ≡ 0 = omega (arith, few) in
    ap (λ (i : ℕ). find test (drop i kept)) zero

pub known_still : (s : Station) (known : List Station) (other : Node) (now : ℕ) → bytes_eq s.node.0 other.0 ≡ false → length known < max_stations
    → end_of_station other now (stations_with s known) ≡ end_of_station other now known
known_still s known other now apart few =
    let kept : List Station = filter (λ k. not (is_at s.node k)) known in
    kept_still s known other now apart (none_goes (is_at other) kept (omega (arith, few, fewer s known)))

-- in a full table only the first one is removed
one_goes : (test : Station → Bool) (first : Station) (rest : List Station) (n : ℕ) → n ≤ 1 → test first ≡ false → find test (drop n (first ∷ rest)) ≡ find test (first ∷ rest)
one_goes test first rest zero le unlike = refl
one_goes test first rest (suc n) le unlike =
    let none : n ≡ 0 = omega (arith, le) in
    ap (λ (i : ℕ). find test (drop i rest)) none ∙ sym (ap (λ (b : Bool). cond b (Some first) (find test rest)) unlike)

first_goes : (test : Station → Bool) (first : Station) (kept : List Station) (b : Bool) → length kept + 1 ≤ max_stations → test first ≡ false
    → find test (drop (length (cond b (first ∷ kept) kept) + 1 - max_stations) (cond b (first ∷ kept) kept)) ≡ find test (cond b (first ∷ kept) kept)
first_goes test first kept true few unlike = one_goes test first kept (length (first ∷ kept) + 1 - max_stations) (omega (arith, few)) unlike
first_goes test first kept false few unlike = none_goes test kept (omega (arith, few))

full_still : (s first : Station) (rest : List Station) (other : Node) (now : ℕ) → bytes_eq s.node.0 other.0 ≡ false → length (first ∷ rest) ≤ max_stations → bytes_eq first.node.0 other.0 ≡ false
    → end_of_station other now (stations_with s (first ∷ rest)) ≡ end_of_station other now (first ∷ rest)
full_still s first rest other now apart few unlike =
    let kept : List Station = filter (λ k. not (is_at s.node k)) rest in
    let room : length kept + 1 ≤ max_stations = omega (arith, few, fewer s rest) in
    kept_still s (first ∷ rest) other now apart (first_goes (is_at other) first kept (not (is_at s.node first)) room unlike)

pub known_in_full : (s first : Station) (known rest : List Station) (other : Node) (now : ℕ) → known ≡ first ∷ rest → bytes_eq s.node.0 other.0 ≡ false → length known ≤ max_stations → bytes_eq first.node.0 other.0 ≡ false
    → end_of_station other now (stations_with s known) ≡ end_of_station other now known
known_in_full s first known rest other now is apart few unlike =
    let P : List Station → Type 0 = λ l. length l ≤ max_stations → end_of_station other now (stations_with s l) ≡ end_of_station other now l in
    subst P (sym is) (λ little. full_still s first rest other now apart little unlike) few

-- if the station that was heard was known already, fewer are removed
shorter_by : (node : Node) (x s : Station) (b : Bool) (kept rest : List Station) → is_at node x ≡ b → length kept ≤ length rest → (find (is_at node) rest ≡ Some s → length kept + 1 ≤ length rest) → cond b (Some x) (find (is_at node) rest) ≡ Some s
    → length (cond (not b) (x ∷ kept) kept) + 1 ≤ length (x ∷ rest)
shorter_by node x s true kept rest is few less found = omega (arith, few)
shorter_by node x s false kept rest is few less found = omega (arith, less found)

shorter : (s before : Station) (known : List Station) → find (is_at s.node) known ≡ Some before → length (filter (λ k. not (is_at s.node k)) known) + 1 ≤ length known
shorter s before [] found = cc
shorter s before (x ∷ xs) found = shorter_by s.node x before (is_at s.node x) (filter (λ k. not (is_at s.node k)) xs) xs refl (fewer s xs) (shorter s before xs) found

pub known_again : (s before : Station) (known : List Station) (other : Node) (now : ℕ) → find (is_at s.node) known ≡ Some before → bytes_eq s.node.0 other.0 ≡ false → length known ≤ max_stations
    → end_of_station other now (stations_with s known) ≡ end_of_station other now known
known_again s before known other now found apart few =
    let kept : List Station = filter (λ k. not (is_at s.node k)) known in
    kept_still s known other now apart (none_goes (is_at other) kept (omega (arith, few, shorter s before known found)))
