-- Values of the definitions, worked by hand, and a run with a unit that is sent, read, acknowledged and taken.
use Rattle.std.proofs.Common.{ℕ, ◌+◌, ◌≡◌, [], ◌∷◌, true, false, List, Some, None, arith, refl}
use Rattle.spx_link.specs.declared.unit.Unit.{Unit}
use Rattle.spx_link.specs.SequenceMarks.{mark, distance, outstanding_after, room_after}
use Rattle.spx_link.specs.Machine.{Packet, End, Machine, Step, IsRun, start, new_end, mailed, sent_next, got}
use Rattle.spx_link.specs.Machine.Act.{Sends, SendsNoUnit, Gets, Takes, Gains}
use Rattle.spx_link.specs.Machine.Step.{One, Two}

-- an end whose next number is 10, with 3 outstanding and room for 2: acknowledge numbers 8 and 6
acknowledge_8 : outstanding_after 10 3 8 ≡ 2
acknowledge_8 = refl

acknowledge_6 : outstanding_after 10 3 6 ≡ 3
acknowledge_6 = refl

-- allocations 13, 10 and 4
allocation_13 : room_after 10 2 13 ≡ 4
allocation_13 = refl

allocation_10 : room_after 10 2 10 ≡ 2
allocation_10 = refl

allocation_4 : room_after 10 2 4 ≡ 2
allocation_4 = refl

allocation_4_lies : distance (4 + 1) 10 ≡ 65531
allocation_4_lies = refl

-- across the wrap: 65,538 sent, 5 outstanding, the first two of them acknowledged
acknowledge_wrapped : outstanding_after (mark 65538) 5 (mark 65535) ≡ 3
acknowledge_wrapped = refl

-- after 65,536 units the first one looks like the next one, so freshness is needed
first_again : distance (mark 0) (mark 65536) ≡ 0
first_again = refl

-- the farthest back that a fresh packet's unit can lie, for 8,192 buffers
stale_8192 : distance (mark 0) (mark (8192 + 32767)) ≡ 24577
stale_8192 = refl

-- an allocation as far back as a fresh packet's can lie
allocation_far : distance (mark (7 + 65535) + 1) (mark (7 + 32767)) ≡ 32769
allocation_far = refl

-- ---- a run: the second end allows one unit, the first sends it, the second reads, acknowledges and takes it

reply : Packet
reply = record { position = None; read = 0; allows = 1; sender_sent = 0; receiver_sent = 0 }

first_unit : Packet
first_unit = record { position = Some 0; read = 0; allows = 1; sender_sent = 1; receiver_sent = 0 }

acknowledgement : Packet
acknowledgement = record { position = None; read = 1; allows = 1; sender_sent = 0; receiver_sent = 1 }

steps : Unit → List Step
steps u =
    Two SendsNoUnit ∷ One (Gets reply) ∷ One (Gains (u ∷ [])) ∷ One Sends ∷ Two (Gets first_unit) ∷ Two SendsNoUnit ∷ One (Gets acknowledgement) ∷ Two Takes ∷ []

after : Unit → Machine
after u =
    record {
      one = record { base = 1; sent = 1; limit = 1; read = 0; taken = 0; buffers = 1; kept = []; units = u ∷ []; bag = first_unit ∷ [] };
      two = record { base = 0; sent = 0; limit = 1; read = 1; taken = 1; buffers = 1; kept = []; units = []; bag = acknowledgement ∷ reply ∷ [] };
    }

sample_run : (u : Unit) → IsRun (steps u) (start 1 1) (after u)
unfolding reply first_unit acknowledgement steps after
sample_run u =
    let one0 : End = new_end 1 in
    let two1 : End = mailed None (new_end 1) one0 in
    let one2 : End = got reply one0 in
    let one3 : End = record one2 { units = u ∷ [] } in
    let one4 : End = sent_next one3 two1 in
    let two5 : End = got first_unit two1 in
    let two6 : End = mailed None two5 one4 in
    let one7 : End = got acknowledgement one4 in
    let two8 : End = record two6 { taken = 1 } in (
      record { one = one0; two = two1 },
      (refl, refl),
      (
        record { one = one2; two = two1 },
        (((0, omega arith, refl), refl), refl),
        (
          record { one = one3; two = two1 },
          (refl, refl),
          (
            record { one = one4; two = two1 },
            ((omega arith, omega arith, refl), refl),
            (
              record { one = one4; two = two5 },
              (((0, omega arith, refl), refl), refl),
              (
                record { one = one4; two = two6 },
                (refl, refl),
                (
                  record { one = one7; two = two6 },
                  (((0, omega arith, refl), refl), refl),
                  (record { one = one7; two = two8 }, ((omega arith, refl), refl), refl),
                ),
              ),
            ),
          ),
        ),
      ),
    )

-- ---- positions kept ahead: with 4 buffers 2 and 1 wait for 0, which is then the third that is read; each counts once

unit_at : ℕ → Packet
unit_at n = record { position = Some n; read = 0; allows = 0; sender_sent = 4; receiver_sent = 0 }

-- got in this order
got_all : List ℕ → End → End
got_all [] c = c
got_all (n ∷ ns) c = got_all ns (got (unit_at n) c)

ahead_waits : (got_all (2 ∷ 1 ∷ []) (new_end 4)).kept ≡ false ∷ true ∷ true ∷ []
unfolding unit_at got_all
ahead_waits = refl

ahead_is_not_read : (got_all (2 ∷ 1 ∷ 2 ∷ []) (new_end 4)).read ≡ 0
unfolding unit_at got_all
ahead_is_not_read = refl

gap_closes : (got_all (2 ∷ 1 ∷ 2 ∷ 0 ∷ 0 ∷ []) (new_end 4)).read ≡ 3
unfolding unit_at got_all
gap_closes = refl

nothing_waits : (got_all (2 ∷ 1 ∷ 2 ∷ 0 ∷ 0 ∷ []) (new_end 4)).kept ≡ []
unfolding unit_at got_all
nothing_waits = refl

-- position 4 has no buffer until one is taken
no_buffer : (got_all (4 ∷ 0 ∷ 1 ∷ 2 ∷ 3 ∷ []) (new_end 4)).read ≡ 4
unfolding unit_at got_all
no_buffer = refl
