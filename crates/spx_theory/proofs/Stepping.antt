-- The steps of the machine, one effect after another.
use Rattle.std.proofs.Common.{ℕ, ◌+◌, ◌<◌, ◌≤◌, ◌≡◌, List, ◌++◌, Some, None, length, arith, refl}
use Rattle.spx_link.specs.declared.unit.Unit.{Unit}
use Rattle.spx_link.specs.Machine.{Packet, End, WasSent, AreSound, mailed, sent_next}
use Rattle.spx_link.specs.Machine.Act.{Sends, SendsAgain, SendsNoUnit, Takes, Gains}
use Rattle.spx_link.specs.Machine.Step.{One}
use Rattle.spx_theory.specs.Below.{LawsBelow}

pub swapped : (c d : End) → AreSound c d → AreSound d c
swapped c d s =
    record {
      there = s.back;
      back = s.there;
      within = s.peer_within;
      peer_within = s.within;
      bag = s.peer_bag;
      peer_bag = s.bag;
    }

-- the numbers of two ends that a packet of the first carries have only grown
pub record Later (c d c' d' : End) : Type 0 where
  pub read : c.read ≤ c'.read
  pub taken : c.taken ≤ c'.taken
  pub buffers : c.buffers ≡ c'.buffers
  pub peer_buffers : d.buffers ≡ d'.buffers
  pub sent : c.sent ≤ c'.sent
  pub peer_sent : d.sent ≤ d'.sent

-- so what it said when it was sent still holds
pub was_later : (c d c' d' : End) → Later c d c' d' → (p : Packet) → WasSent c d p → WasSent c' d' p
was_later c d c' d' l p was = record {
  read = omega arith;
  allows = omega arith;
  sender_sent = omega arith;
  receiver_sent = omega arith;
  reads_sent = was.reads_sent;
  allows_sent = was.allows_sent;
  spread = omega arith;
  position = was.position;
  outstanding = λ n e. omega (arith, was.outstanding n e, l.peer_buffers);
}

module _ (laws : LawsBelow) (c d : End) (s : AreSound c d) where
  pub mailed_sound : AreSound (mailed None c d) d
  mailed_sound = laws.step (One SendsNoUnit) (record { one = c; two = d }) (record { one = mailed None c d; two = d }) (refl, refl) s

  pub sent_again_sound : (n : ℕ) → c.base ≤ n → n < c.sent → AreSound (mailed (Some n) c d) d
  sent_again_sound n low high =
      laws.step (One (SendsAgain n)) (record { one = c; two = d }) (record { one = mailed (Some n) c d; two = d }) ((low, high, refl), refl) s

  pub sent_next_sound : c.sent < c.limit → c.sent < length c.units → AreSound (sent_next c d) d
  sent_next_sound room unit =
      laws.step (One Sends) (record { one = c; two = d }) (record { one = sent_next c d; two = d }) ((room, unit, refl), refl) s

  pub taken_sound : c.taken < c.read → AreSound (record c { taken = c.taken + 1 }) d
  taken_sound more =
      laws.step (One Takes) (record { one = c; two = d }) (record { one = record c { taken = c.taken + 1 }; two = d }) ((more, refl), refl) s

  pub gained_sound : (more : List Unit) → AreSound (record c { units = c.units ++ more }) d
  gained_sound more =
      laws.step (One (Gains more)) (record { one = c; two = d }) (record { one = record c { units = c.units ++ more }; two = d }) (refl, refl) s
