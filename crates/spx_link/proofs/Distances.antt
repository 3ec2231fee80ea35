-- Distances between the marks of positions.
use Rattle.std.proofs.Common.{ℕ, ◌≡◌, ◌≢◌, ◌↔◌, ◌+◌, ◌-◌, ◌<◌, ◌≤◌, ◌&&◌, nat_le, nat_lt, max, if◌then◌else◌, arith}
use Rattle.std.proofs.lemmas.Bool.Decides.{nat_tests}
use Rattle.spx_link.specs.SequenceMarks.{acknowledged, mark, distance, outstanding_after, room_after}

-- ---- marks

pub mark_carried : (n k : ℕ) → mark (mark n + k) ≡ mark (n + k)
mark_carried n k = omega arith

pub marks_separate : (a b : ℕ) → a < b → b < a + 65536 → mark a ≢ mark b
marks_separate a b l h e = omega arith

pub distance_ahead : (a b k : ℕ) → a ≡ b + k → k < 65536 → distance (mark a) (mark b) ≡ k
distance_ahead a b k e h = omega arith

pub distance_after : (a b k : ℕ) → a + k ≡ b → 0 < k → k ≤ 65536 → distance (mark a) (mark b) + k ≡ 65536
distance_after a b k e h l = omega arith

pub distance_base : (base out sent : ℕ) → base + out ≡ sent → out ≤ 65536 → distance (mark sent) out ≡ mark base
distance_base base out sent e h = omega arith

-- ---- acknowledge numbers

pub acknowledgement_current : (base out sent ack : ℕ) → base + out ≡ sent → out < 65536 → base ≤ ack → ack ≤ sent → base + distance (mark ack) (distance (mark sent) out) ≡ ack
acknowledgement_current base out sent ack e w a b =
    let from : distance (mark sent) out ≡ mark base = distance_base base out sent e (omega arith) in
    rw (from, distance_ahead ack base (ack - base) (omega arith) (omega arith)) (omega arith)

pub acknowledgement_back : (bound sent ack before : ℕ) → before ≤ ack + bound → sent < before + 32768 → sent ≤ ack + bound + 32767
acknowledgement_back bound sent ack before a b = omega arith

pub acknowledgement_stale : (bound base out sent ack before : ℕ) → bound ≤ 32768 → base + out ≡ sent → ack < base → before ≤ ack + bound → sent < before + 32768 → out < distance (mark ack) (distance (mark sent) out)
acknowledgement_stale bound base out sent ack before r e a b c =
    let from : distance (mark sent) out ≡ mark base = distance_base base out sent e (omega arith) in
    let far : distance (mark ack) (mark base) + (base - ack) ≡ 65536 = distance_after ack base (base - ack) (omega arith) (omega arith) (omega arith) in
    rw from (omega arith)

read_between : (base out sent ack beyond : ℕ) → base + out ≡ sent → ack ≤ sent → (base ≤ ack → base + beyond ≡ ack) → (ack < base → out < beyond) → max base ack + (out - (if nat_le beyond out then beyond else 0)) ≡ sent
read_between base out sent ack beyond e a current stale = grind (arith, nat_tests)

pub acknowledgement_read : (bound base out sent ack before : ℕ) → bound ≤ 32768 → base + out ≡ sent → out ≤ bound → ack ≤ sent → before ≤ ack + bound → sent < before + 32768 → max base ack + outstanding_after (mark sent) out (mark ack) ≡ sent
acknowledgement_read bound base out sent ack before r e o a b c =
    read_between base out sent ack (distance (mark ack) (distance (mark sent) out)) e a
    (λ le. acknowledgement_current base out sent ack e (omega arith) le a)
    (λ lt. acknowledgement_stale bound base out sent ack before r e lt b c)

taken_between : (base out sent ack beyond : ℕ) → base + out ≡ sent → ack ≤ sent → (base ≤ ack → base + beyond ≡ ack) → (ack < base → out < beyond) → base + (if nat_le beyond out then beyond else 0) ≡ max base ack
taken_between base out sent ack beyond e a current stale = grind (arith, nat_tests)

pub acknowledgement_taken : (bound base out sent ack before : ℕ) → bound ≤ 32768 → base + out ≡ sent → out ≤ bound → ack ≤ sent → before ≤ ack + bound → sent < before + 32768 → base + acknowledged (mark sent) out (mark ack) ≡ max base ack
acknowledgement_taken bound base out sent ack before r e o a b c =
    taken_between base out sent ack (distance (mark ack) (distance (mark sent) out)) e a
    (λ le. acknowledgement_current base out sent ack e (omega arith) le a)
    (λ lt. acknowledgement_stale bound base out sent ack before r e lt b c)

-- ---- allocations

pub allocation_carried : (read free allows : ℕ) → read + free ≡ allows → mark (mark read + free + 65535) ≡ mark (allows + 65535)
allocation_carried read free allows e = omega arith

allocation_is : (sent allows : ℕ) → distance (mark (allows + 65535) + 1) (mark sent) ≡ distance (mark allows) (mark sent)
allocation_is sent allows = omega arith

pub allocation_current : (sent allows : ℕ) → sent ≤ allows → allows < sent + 65536 → sent + distance (mark (allows + 65535) + 1) (mark sent) ≡ allows
allocation_current sent allows a b =
    rw (allocation_is sent allows, distance_ahead allows sent (allows - sent) (omega arith) (omega arith)) (omega arith)

pub allocation_stale : (sent allows before : ℕ) → before ≤ allows → allows < sent → sent < before + 32768 → 32769 ≤ distance (mark (allows + 65535) + 1) (mark sent)
allocation_stale sent allows before a b c =
    let far : distance (mark allows) (mark sent) + (sent - allows) ≡ 65536 = distance_after allows sent (sent - allows) (omega arith) (omega arith) (omega arith) in
    rw (allocation_is sent allows) (omega arith)

allow_between : (sent room limit allows beyond : ℕ) → sent + room ≡ limit → allows ≤ sent + 16383 → (sent ≤ allows → sent + beyond ≡ allows) → (allows < sent → 32769 ≤ beyond) → sent + (if nat_lt room beyond && nat_le beyond 16383 then beyond else room) ≡ max limit allows
allow_between sent room limit allows beyond e a current stale = grind (arith, nat_tests)

pub allocation_read : (bound sent room limit allows before : ℕ) → bound ≤ 16383 → sent + room ≡ limit → allows ≤ sent + bound → before ≤ allows → sent < before + 32768 → sent + room_after (mark sent) room (mark (allows + 65535)) ≡ max limit allows
allocation_read bound sent room limit allows before r e a b c =
    allow_between sent room limit allows (distance (mark (allows + 65535) + 1) (mark sent)) e (omega arith)
    (λ le. allocation_current sent allows le (omega arith))
    (λ lt. allocation_stale sent allows before b lt c)

-- ---- sequence numbers

pub sequence_current : (read n : ℕ) → read ≤ n → n < read + 65536 → read + distance (mark n) (mark read) ≡ n
sequence_current read n a b = rw (distance_ahead n read (n - read) (omega arith) (omega arith)) (omega arith)

stale_between : (back bound beyond : ℕ) → (back ≤ 65536 → beyond + back ≡ 65536) → back ≤ bound + 32767 → 65536 ≤ beyond + bound + 32767
stale_between back bound beyond behind h = grind arith

pub sequence_stale : (bound read n sent before : ℕ) → n < read → read ≤ sent → before ≤ n + bound → sent < before + 32768 → 65536 ≤ distance (mark n) (mark read) + bound + 32767
sequence_stale bound read n sent before a b c d = stale_between (read - n) bound (distance (mark n) (mark read)) (λ h. distance_after n read (read - n) (omega arith) (omega arith) h) (omega arith)

pub sequence_first : (read n sent : ℕ) → n < read → read ≤ sent → sent < n + 1 + 32768 → 32768 ≤ distance (mark n) (mark read)
sequence_first read n sent a b c =
    let far : distance (mark n) (mark read) + (read - n) ≡ 65536 = distance_after n read (read - n) (omega arith) (omega arith) (omega arith) in
    omega arith

next_between : (read n beyond : ℕ) → (read ≤ n → read + beyond ≡ n) → (n < read → 1 ≤ beyond) → (beyond ≡ 0) ↔ (n ≡ read)
next_between read n beyond current stale = (λ e. grind arith, λ e. grind arith)

pub sequence_next : (bound read n sent before : ℕ) → bound ≤ 32768 → read ≤ sent → n < read + 65536 → before ≤ n + bound → sent < before + 32768 → (distance (mark n) (mark read) ≡ 0) ↔ (n ≡ read)
sequence_next bound read n sent before r a b c d =
    next_between read n (distance (mark n) (mark read))
    (λ le. sequence_current read n le b)
    (λ lt. omega (arith, sequence_stale bound read n sent before lt a c d))

window_between : (free read n beyond : ℕ) → (read ≤ n → read + beyond ≡ n) → (n < read → free ≤ beyond) → (beyond < free) ↔ ((read ≤ n) × (n < read + free))
window_between free read n beyond current stale = (λ lt. (grind arith, grind arith), λ both. omega (arith, current both.0))

pub sequence_window : (bound free read n sent before : ℕ) → bound ≤ 16384 → free ≤ bound → read ≤ sent → n < read + 65536 → before ≤ n + bound → sent < before + 32768 → (distance (mark n) (mark read) < free) ↔ ((read ≤ n) × (n < read + free))
sequence_window bound free read n sent before r f a b c d =
    window_between free read n (distance (mark n) (mark read))
    (λ le. sequence_current read n le b)
    (λ lt. omega (arith, sequence_stale bound read n sent before lt a c d))

-- ---- at the bound of 8,192

pub after_base : (base out sent ack before : ℕ) → base + out ≡ sent → ack < base → before ≤ ack + 8192 → sent < before + 32768 → 24577 ≤ distance (mark ack) (distance (mark sent) out)
after_base base out sent ack before e a b c =
    let from : distance (mark sent) out ≡ mark base = distance_base base out sent e (omega arith) in
    let far : distance (mark ack) (mark base) + (base - ack) ≡ 65536 = distance_after ack base (base - ack) (omega arith) (omega arith) (omega arith) in
    rw from (omega arith)

parts_between : (sent allows beyond : ℕ) → allows ≤ sent + 8192 → (sent ≤ allows → sent + beyond ≡ allows) → (allows < sent → 32769 ≤ beyond) → (allows < sent → 32769 ≤ beyond) × (sent ≤ allows → beyond ≤ 8192) × ((beyond ≤ 16383) ↔ (sent ≤ allows))
parts_between sent allows beyond a current stale = (stale, λ le. omega (arith, current le), (λ b. grind arith, λ le. omega (arith, current le)))

pub allocation_parts : (sent allows before : ℕ) → allows ≤ sent + 8192 → before ≤ allows → sent < before + 32768 → let beyond : ℕ = distance (mark (allows + 65535) + 1) (mark sent) in (allows < sent → 32769 ≤ beyond) × (sent ≤ allows → beyond ≤ 8192) × ((beyond ≤ 16383) ↔ (sent ≤ allows))
allocation_parts sent allows before a b c =
    parts_between sent allows (distance (mark (allows + 65535) + 1) (mark sent)) a
    (λ le. allocation_current sent allows le (omega arith))
    (λ lt. allocation_stale sent allows before b lt c)

pub after_read : (read n sent before : ℕ) → n < read → read ≤ sent → before ≤ n + 8192 → sent < before + 32768 → 24577 ≤ distance (mark n) (mark read)
after_read read n sent before a b c d = omega (arith, sequence_stale 8192 read n sent before a b c d)

pub free_at_bound : (free read n sent before : ℕ) → free ≤ 8192 → read ≤ sent → n < read + 65536 → before ≤ n + 8192 → sent < before + 32768 → (distance (mark n) (mark read) < free) ↔ ((read ≤ n) × (n < read + free))
free_at_bound free read n sent before f a b c d = sequence_window 8192 free read n sent before (omega arith) f a b c d
