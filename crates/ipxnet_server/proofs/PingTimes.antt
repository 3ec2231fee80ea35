-- When clients are pinged.
use Rattle.std.proofs.Common.{◌≡◌, ◌≤◌, ◌<◌, ◌+◌, ◌-◌, ◌*◌, ◌^◌, ℕ, zero, suc, List, [], ◌∷◌, ◌++◌, Bool, true, false, Option, Some, None, length, take, get_or, arith, refl, sym, ap, ◌∙◌, ltb-true}
use Rattle.std.specs.Prelude.{◌||◌, nat_le, nat_lt, if◌then◌else◌}
use Rattle.std.specs.List.{list_any}
use Rattle.std.proofs.lemmas.Bool.{false_from_ne_true, leb-false, leb-true, le-leb, lt-ltb, or_left, or_right}
use Rattle.std.proofs.lemmas.List.{take_more}
use Rattle.std.proofs.lemmas.List.Folds.{list_any-append}
use Rattle.ipxnet_server.specs.declared.clients.Client.{Client}
use Rattle.ipxnet_server.specs.declared.pings.PingTurn.{PingTurn}
use Rattle.ipxnet_server.specs.declared.noted.Noted.{Noted}
use Rattle.ipxnet_server.specs.declared.ask_times.NoteCause.{NoteCause}
use Rattle.ipxnet_server.specs.declared.ask_times.NoteCause.TheVariants.{Registration, Restart}
use Rattle.ipxnet_server.specs.AskTimes.{first_ask, first_ask_of, second_ask_of}
use Rattle.ipxnet_server.specs.Pings.{AreInOrder, AsksAreLate, AsksAreTwo, IsNextPing, OnlySilentArePinged, PingsAreSeldom, asks_by, asks_in, earlier, is_asked, is_one_asked, is_one_pinged, is_pinged, ping_period, pings_by, turns_that_ask, turns_that_ping}

-- ---- tests

same_test : (a b : Bool) → (a ≡ true → b ≡ true) → (b ≡ true → a ≡ true) → a ≡ b
same_test true b f g = sym (f refl)
same_test false true f g = g refl
same_test false false f g = refl

or_none : (b : Bool) → (b || false) ≡ b
or_none true = refl
or_none false = refl

one_of : {P : Type 0} (a b : Bool) → (a ≡ true → P) → (b ≡ true → P) → (a || b) ≡ true → P
one_of true b f g e = f refl
one_of false b f g e = g e

more : (a b : ℕ) → nat_le a b ≡ false → b ≤ a
more a b e = omega (arith, leb-false a b e)

abbrev turn : ℕ → ℕ → PingTurn
turn before now = record { before = before; now = now }

-- ---- one client

pub next_time : (before time now : ℕ) (c : Client) → time ≡ c.heard + (pings_by before c + 1) * ping_period → is_pinged (record { before = before; now = now }) c ≡ nat_le time now
next_time before time now c is =
    same_test (nat_lt (pings_by before c) (pings_by now c)) (nat_le time now)
    (λ e. le-leb time now (omega (arith, is, ltb-true (pings_by before c) (pings_by now c) e)))
    (λ e. lt-ltb (pings_by before c) (pings_by now c) (omega (arith, is, leb-true time now e)))

pub no_time : (before now : ℕ) (c : Client) → now < c.heard + (pings_by before c + 1) * ping_period → is_pinged (record { before = before; now = now }) c ≡ false
no_time before now c late =
    false_from_ne_true (nat_lt (pings_by before c) (pings_by now c))
    (λ e. absurd (omega (arith, late, ltb-true (pings_by before c) (pings_by now c) e)))

-- ---- the earlier of two times

past_by : (a b now : ℕ) (less : Bool) → nat_le a b ≡ less → (nat_le a now || nat_le b now) ≡ nat_le (if less then a else b) now
past_by a b now true is =
    same_test (nat_le a now || nat_le b now) (nat_le a now)
    (one_of (nat_le a now) (nat_le b now) (λ e. e) (λ e. le-leb a now (omega (arith, leb-true a b is, leb-true b now e))))
    (λ e. or_left (nat_le a now) (nat_le b now) e)
past_by a b now false is =
    same_test (nat_le a now || nat_le b now) (nat_le b now)
    (one_of (nat_le a now) (nat_le b now) (λ e. le-leb b now (omega (arith, more a b is, leb-true a now e))) (λ e. e))
    (λ e. or_right (nat_le a now) (nat_le b now) e)

-- it is that time or later, if there is one
abbrev pub is_past : Option ℕ → ℕ → Bool
is_past None now = false
is_past (Some time) now = nat_le time now

pub by_past : (pings : ℕ → Bool) (next : Option ℕ) → IsNextPing pings next → (now : ℕ) → now < 2 ^ 64 → pings now ≡ is_past next now
by_past pings None h now lt = h now lt
by_past pings (Some time) h now lt = h now lt

pub of_past : (pings : ℕ → Bool) (next : Option ℕ) → ((now : ℕ) → now < 2 ^ 64 → pings now ≡ is_past next now) → IsNextPing pings next
of_past pings None h = h
of_past pings (Some time) h = h

pub past_earlier : (a b : Option ℕ) (now : ℕ) → (is_past a now || is_past b now) ≡ is_past (earlier a b) now
past_earlier None b now = refl
past_earlier (Some a) None now = or_none (nat_le a now)
past_earlier (Some a) (Some b) now = past_by a b now (nat_le a b) refl

-- ---- clients, one after another

pub next_of_none : (before : ℕ) → IsNextPing (is_one_pinged before []) None
next_of_none before now lt = refl

pub next_of_more : (before i : ℕ) (d : Client) (cs : List Client) (a b : Option ℕ) → i < length cs → IsNextPing (is_one_pinged before (take i cs)) a
    → IsNextPing (λ now. is_pinged (record { before = before; now = now }) (get_or cs i d)) b → IsNextPing (is_one_pinged before (take (i + 1) cs)) (earlier a b)
next_of_more before i d cs a b less first one = of_past (is_one_pinged before (take (i + 1) cs)) (earlier a b) (λ now lt.
    let p = is_pinged (turn before now) in
    ap (list_any p) (take_more cs i d less) ∙ list_any-append p (take i cs) (get_or cs i d ∷ [])
    ∙ ap (λ (t : Bool). list_any p (take i cs) || t) (or_none (p (get_or cs i d)))
    ∙ ap (λ (t : Bool). t || p (get_or cs i d)) (by_past (is_one_pinged before (take i cs)) a first now lt)
    ∙ ap (λ (t : Bool). is_past a now || t) (by_past (λ now. is_pinged (record { before = before; now = now }) (get_or cs i d)) b one now lt) ∙ past_earlier a b now)

-- ---- the laws

pub silent_pinged : OnlySilentArePinged
silent_pinged t c e = omega (arith, ltb-true (pings_by t.before c) (pings_by t.now c) e)

later : (before time : ℕ) (c : Client) → before ≤ time → pings_by before c ≤ pings_by time c
later before time c le = omega (arith, le)

one_more : (b : Bool) (x y : ℕ) → nat_lt x y ≡ b → x ≤ y → (if b then 1 else 0) + x ≤ y
one_more true x y is le = omega (arith, ltb-true x y is)
one_more false x y is le = omega (arith, le)

InOrder : ℕ → List ℕ → ℕ → Type 0
InOrder before [] now = before ≤ now
InOrder before (time ∷ times) now = (before ≤ time) × InOrder time times now

in_order : (before : ℕ) (times : List ℕ) (now : ℕ) → AreInOrder (before ∷ times ++ now ∷ []) → InOrder before times now
unfolding InOrder
in_order before [] now h = h zero (suc zero) before (omega arith) (omega arith)
in_order before (time ∷ times) now h = (
  h zero (suc zero) before (omega arith) (omega arith),
  in_order time times now (λ i j d lt within. h (suc i) (suc j) d (omega arith) (omega arith)),
)

few : (c : Client) (before now : ℕ) (times : List ℕ) → InOrder before times now → turns_that_ping before times c + pings_by before c ≤ pings_by now c
unfolding InOrder
few c before now [] order = omega (arith, later before now c order)
few c before now (time ∷ times) order =
    let x = pings_by before c in
    let y = pings_by time c in
    let rest = few c time now times order.1 in
    let first = one_more (nat_lt x y) x y refl (later before time c order.0) in
    omega (arith, first, rest)

pub few_pings : PingsAreSeldom
few_pings c before now times order = few c before now times (in_order before times now order)

-- ---- who is noted and shows nothing

-- the two pings of a note come one after the other, and before 5.5 s more have passed
pub in_turn : (cause : NoteCause) → first_ask_of cause ≤ second_ask_of cause
in_turn Registration = omega arith
in_turn (Restart before) = omega arith

pub comes_soon : (cause : NoteCause) → first_ask_of cause ≤ first_ask
comes_soon Registration = omega arith
comes_soon (Restart before) = omega arith

pub follows_soon : (cause : NoteCause) → second_ask_of cause ≤ first_ask_of cause + first_ask
follows_soon Registration = omega arith
follows_soon (Restart before) = omega arith

pub next_ask_of_none : (before : ℕ) → IsNextPing (is_one_asked before []) None
next_ask_of_none before now lt = refl

pub next_ask_of_more : (before i : ℕ) (d : Noted) (ns : List Noted) (a b : Option ℕ) → i < length ns → IsNextPing (is_one_asked before (take i ns)) a
    → IsNextPing (λ now. is_asked (record { before = before; now = now }) (get_or ns i d)) b → IsNextPing (is_one_asked before (take (i + 1) ns)) (earlier a b)
next_ask_of_more before i d ns a b less first one = of_past (is_one_asked before (take (i + 1) ns)) (earlier a b) (λ now lt.
    let p = is_asked (turn before now) in
    ap (list_any p) (take_more ns i d less) ∙ list_any-append p (take i ns) (get_or ns i d ∷ [])
    ∙ ap (λ (t : Bool). list_any p (take i ns) || t) (or_none (p (get_or ns i d)))
    ∙ ap (λ (t : Bool). t || p (get_or ns i d)) (by_past (is_one_asked before (take i ns)) a first now lt)
    ∙ ap (λ (t : Bool). is_past a now || t) (by_past (λ now. is_asked (record { before = before; now = now }) (get_or ns i d)) b one now lt) ∙ past_earlier a b now)

pub next_of_both : (pings asks : ℕ → Bool) (a b : Option ℕ) → IsNextPing pings a → IsNextPing asks b → IsNextPing (λ now. pings now || asks now) (earlier a b)
next_of_both pings asks a b first second = of_past (λ now. pings now || asks now) (earlier a b) (λ now lt.
    ap (λ (t : Bool). t || asks now) (by_past pings a first now lt) ∙ ap (λ (t : Bool). is_past a now || t) (by_past asks b second now lt) ∙ past_earlier a b now)

if_le : (b d : Bool) → (b ≡ true → d ≡ true) → (if b then 1 else 0) ≤ (if d then 1 else 0)
if_le true true f = omega arith
if_le true false f = cc (f refl)
if_le false true f = omega arith
if_le false false f = omega arith

if_one : (b : Bool) → (if b then 1 else 0) ≤ 1
if_one true = omega arith
if_one false = omega arith

later_still : (time before after : ℕ) → before ≤ after → nat_le time before ≡ true → nat_le time after ≡ true
later_still time before after le e = le-leb time after (omega (arith, le, leb-true time before e))

pub asked_later : (first second before after : ℕ) → before ≤ after → asks_in first second before ≤ asks_in first second after
asked_later first second before after le =
    omega (arith, if_le (nat_le first before) (nat_le first after) (later_still first before after le), if_le (nat_le second before) (nat_le second after) (later_still second before after le))

pub two_at_most : (first second time : ℕ) → asks_in first second time ≤ 2
two_at_most first second time = omega (arith, if_one (nat_le first time), if_one (nat_le second time))

few_asks : (n : Noted) (before now : ℕ) (times : List ℕ) → InOrder before times now → turns_that_ask before times n + asks_by before n ≤ asks_by now n
unfolding InOrder
few_asks n before now [] order = omega (arith, asked_later (first_ask_of n.cause) (second_ask_of n.cause) (before - n.since) (now - n.since) (omega (arith, order)))
few_asks n before now (time ∷ times) order =
    let x = asks_by before n in
    let y = asks_by time n in
    let rest = few_asks n time now times order.1 in
    let first = one_more (nat_lt x y) x y refl (asked_later (first_ask_of n.cause) (second_ask_of n.cause) (before - n.since) (time - n.since) (omega (arith, order.0))) in
    omega (arith, first, rest)

pub two_asks : AsksAreTwo
two_asks n before now times order =
    omega (arith, few_asks n before now times (in_order before times now order), two_at_most (first_ask_of n.cause) (second_ask_of n.cause) (now - n.since))

none_yet : (a b : Bool) (x : ℕ) → (b ≡ true → a ≡ true) → x < (if a then 1 else 0) + (if b then 1 else 0) → a ≡ true
none_yet true b x f lt = refl
none_yet false true x f lt = f refl
none_yet false false x f lt = absurd (omega (arith, lt))

pub late_asks : AsksAreLate
late_asks t n e =
    let first = first_ask_of n.cause in
    let second = second_ask_of n.cause in
    let time = t.now - n.since in
    leb-true first time (none_yet (nat_le first time) (nat_le second time) (asks_by t.before n)
    (λ s. le-leb first time (omega (arith, leb-true second time s, in_turn n.cause))) (ltb-true (asks_by t.before n) (asks_in first second time) e))
