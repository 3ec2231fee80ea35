-- The numbers of an end only grow.
use Rattle.std.proofs.Common.{ℕ, ◌+◌, ◌≤◌, ◌≡◌, ◌-◌, Bool, List, [], ◌∷◌, ◌++◌, Option, Some, None, arith, refl, sym, ap, ◌∙◌, subst, append_assoc}
use Rattle.std.proofs.lemmas.Bool.{cond_both}
use Rattle.std.proofs.lemmas.List.{append-nil}
use Rattle.spx_link.specs.declared.unit.Unit.{Unit}
use Rattle.spx_link.specs.Machine.{Packet, End, Machine, Act, Step, Moves, IsStep, IsRun, Grows, packet_now, mailed, one_more_sent, sent_next, learned, put_mark, is_awaited, risen, read_unit, got}
use Rattle.spx_link.specs.Machine.Act.{Sends, SendsAgain, SendsNoUnit, Gets, Takes, Gains}
use Rattle.spx_link.specs.Machine.Step.{One, Two}

-- numbers that grew, while neither the units nor the bag changed
numbers_grow : (c c' : End) → c.base ≤ c'.base → c.sent ≤ c'.sent → c.limit ≤ c'.limit → c.read ≤ c'.read → c.taken ≤ c'.taken → c'.buffers ≡ c.buffers → c'.units ≡ c.units → c'.bag ≡ c.bag → Grows c c'
numbers_grow c c' base sent limit read taken buffers units bag =
    record {
      base = base;
      sent = sent;
      limit = limit;
      read = read;
      taken = taken;
      buffers = buffers;
      units = ([], units ∙ sym (append-nil c.units));
      bag = ([], bag);
    }

pub unchanged : (c : End) → Grows c c
unchanged c = numbers_grow c c (omega arith) (omega arith) (omega arith) (omega arith) (omega arith) refl refl refl

pub grows_on : (c d e : End) → Grows c d → Grows d e → Grows c e
grows_on c d e x y =
    let units : e.units ≡ c.units ++ (x.units.0 ++ y.units.0) =
    y.units.1 ∙ ap (λ (t : List Unit). t ++ y.units.0) x.units.1 ∙ append_assoc c.units x.units.0 y.units.0 in
    let bag : e.bag ≡ (y.bag.0 ++ x.bag.0) ++ c.bag =
    y.bag.1 ∙ ap (λ (t : List Packet). y.bag.0 ++ t) x.bag.1 ∙ sym (append_assoc y.bag.0 x.bag.0 c.bag) in
    record {
      base = omega arith;
      sent = omega arith;
      limit = omega arith;
      read = omega arith;
      taken = omega arith;
      buffers = y.buffers ∙ x.buffers;
      units = (x.units.0 ++ y.units.0, units);
      bag = (y.bag.0 ++ x.bag.0, bag);
    }

mailed_grows : (position : Option ℕ) (c d : End) → Grows c (mailed position c d)
mailed_grows position c d =
    let p : Packet = packet_now position c d in
    record {
      base = omega arith;
      sent = omega arith;
      limit = omega arith;
      read = omega arith;
      taken = omega arith;
      buffers = refl;
      units = ([], sym (append-nil c.units));
      bag = (p ∷ [], refl);
    }

one_more_grows : (c : End) → Grows c (one_more_sent c)
one_more_grows c = numbers_grow c (one_more_sent c) (omega arith) (omega arith) (omega arith) (omega arith) (omega arith) refl refl refl

sent_next_grows : (c d : End) → Grows c (sent_next c d)
sent_next_grows c d =
    grows_on c (one_more_sent c) (sent_next c d) (one_more_grows c) (mailed_grows (Some c.sent) (one_more_sent c) d)

learned_grows : (p : Packet) (c : End) → Grows c (learned p c)
learned_grows p c = numbers_grow c (learned p c) (omega arith) (omega arith) (omega arith) (omega arith) (omega arith) refl refl refl

risen_grows : (kept : List Bool) (c : End) → Grows c (risen kept c)
risen_grows kept c = numbers_grow c (risen kept c) (omega arith) (omega arith) (omega arith) (omega arith) (omega arith) refl refl refl

read_unit_grows : (position : Option ℕ) (c : End) → Grows c (read_unit position c)
read_unit_grows None c = unchanged c
read_unit_grows (Some n) c =
    let kept : List Bool = put_mark (n - c.read) c.kept in
    cond_both (is_awaited c n) (risen kept c) c (Grows c) (λ yes. risen_grows kept c) (λ no. unchanged c)

got_grows : (p : Packet) (c : End) → Grows c (got p c)
got_grows p c = grows_on c (learned p c) (got p c) (learned_grows p c) (read_unit_grows p.position (learned p c))

taken_grows : (c : End) → Grows c (record c { taken = c.taken + 1 })
taken_grows c = numbers_grow c (record c { taken = c.taken + 1 }) (omega arith) (omega arith) (omega arith) (omega arith) (omega arith) refl refl refl

gained_grows : (c : End) (more : List Unit) → Grows c (record c { units = c.units ++ more })
gained_grows c more =
    record {
      base = omega arith;
      sent = omega arith;
      limit = omega arith;
      read = omega arith;
      taken = omega arith;
      buffers = refl;
      units = (more, refl);
      bag = ([], refl);
    }

to_end : (c x c' : End) → c' ≡ x → Grows c x → Grows c c'
to_end c x c' e g = subst (Grows c) (sym e) g

moves_grows : (act : Act) (c d c' : End) → Moves act c d c' → Grows c c'
moves_grows Sends c d c' m = to_end c (sent_next c d) c' m.2 (sent_next_grows c d)
moves_grows (SendsAgain n) c d c' m = to_end c (mailed (Some n) c d) c' m.2 (mailed_grows (Some n) c d)
moves_grows SendsNoUnit c d c' m = to_end c (mailed None c d) c' m (mailed_grows None c d)
moves_grows (Gets p) c d c' m = to_end c (got p c) c' m.1 (got_grows p c)
moves_grows Takes c d c' m = to_end c (record c { taken = c.taken + 1 }) c' m.1 (taken_grows c)
moves_grows (Gains more) c d c' m = to_end c (record c { units = c.units ++ more }) c' m (gained_grows c more)

step_grows : (s : Step) (m n : Machine) → IsStep s m n → Grows m.one n.one × Grows m.two n.two
step_grows (One act) m n is = (moves_grows act m.one m.two n.one is.0, to_end m.two m.two n.two is.1 (unchanged m.two))
step_grows (Two act) m n is = (to_end m.one m.one n.one is.1 (unchanged m.one), moves_grows act m.two m.one n.two is.0)

pub run_grows : (steps : List Step) (m n : Machine) → IsRun steps m n → Grows m.one n.one × Grows m.two n.two
run_grows [] m n is = (to_end m.one m.one n.one (ap (λ (x : Machine). x.one) is) (unchanged m.one), to_end m.two m.two n.two (ap (λ (x : Machine). x.two) is) (unchanged m.two))
run_grows (step ∷ steps) m n is =
    let first = step_grows step m is.0 is.1 in
    let rest = run_grows steps is.0 n is.2 in
    (grows_on m.one is.0.one n.one first.0 rest.0, grows_on m.two is.0.two n.two first.1 rest.1)
