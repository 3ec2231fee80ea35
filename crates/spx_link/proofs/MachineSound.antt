-- The numbers of the two ends stay in line through every step.
use Rattle.std.proofs.Common.{ℕ, ◌+◌, ◌<◌, ◌≤◌, ◌≡◌, ◌-◌, max, drop, Bool, zero, suc, true, false, length-drop, leb-true, List, [], ◌∷◌, ◌++◌, Option, Some, None, length, All, arith, refl, sym, subst, length-append}
use Rattle.std.proofs.lemmas.Bool.{cond_both, and_parts}
use Rattle.std.proofs.lemmas.List.Elements.{All-cons, All-weaker, All-nil, All-contains}
use Rattle.spx_link.specs.declared.unit.Unit.{Unit}
use Rattle.spx_link.specs.Machine.{Packet, End, Machine, Act, Step, Moves, IsStep, IsRun, WasSent, AreSound, packet_now, mailed, sent_next, learned, put_mark, lead, is_awaited, risen, read_unit, got, new_end, start}
use Rattle.spx_link.specs.Machine.Act.{Sends, SendsAgain, SendsNoUnit, Gets, Takes, Gains}
use Rattle.spx_link.specs.Machine.Step.{One, Two}

pub length-put_mark : (k : ℕ) (xs : List Bool) → length (put_mark k xs) ≡ max (k + 1) (length xs)
length-put_mark zero [] = refl
length-put_mark zero (x ∷ xs) = omega arith
length-put_mark (suc k) [] = omega (arith, length-put_mark k [])
length-put_mark (suc k) (x ∷ xs) = omega (arith, length-put_mark k xs)

pub lead-le : (xs : List Bool) → lead xs ≤ length xs
lead-le [] = omega arith
lead-le (false ∷ xs) = omega arith
lead-le (true ∷ xs) = omega (arith, lead-le xs)

pub swapped : (c d : End) → AreSound c d → AreSound d c
swapped c d s =
    record {
      there = s.back;
      back = s.there;
      within = s.peer_within;
      peer_within = s.within;
      bag = s.peer_bag;
      peer_bag = s.bag;
    }

-- the numbers of two ends that a packet of the first speaks of only grew
pub record Later (c d c' d' : End) : Type 0 where
  pub read : c.read ≤ c'.read
  pub taken : c.taken ≤ c'.taken
  pub buffers : c.buffers ≡ c'.buffers
  pub peer_buffers : d.buffers ≡ d'.buffers
  pub sent : c.sent ≤ c'.sent
  pub peer_sent : d.sent ≤ d'.sent

pub was_later : (c d c' d' : End) → Later c d c' d' → (p : Packet) → WasSent c d p → WasSent c' d' p
was_later c d c' d' l p was = record {
  read = omega arith;
  allows = omega arith;
  sender_sent = omega arith;
  receiver_sent = omega arith;
  reads_sent = was.reads_sent;
  allows_sent = was.allows_sent;
  spread = omega arith;
  position = was.position;
  outstanding = λ n e. omega (arith, was.outstanding n e, l.peer_buffers);
}

pub bag_later : (c d c' d' : End) → Later c d c' d' → (bag : List Packet) → All (WasSent c d) bag → All (WasSent c' d') bag
bag_later c d c' d' l bag all = All-weaker (WasSent c d) (WasSent c' d') (was_later c d c' d' l) bag all

-- ---- the effects

-- a packet is added
pub mailed_sound : (c d : End) (position : Option ℕ) → AreSound c d → ((n : ℕ) → position ≡ Some n → n < c.sent) → ((n : ℕ) → position ≡ Some n → c.sent ≤ n + d.buffers) → AreSound (mailed position c d) d
mailed_sound c d position s below near =
    let c' : End = mailed position c d in
    let p : Packet = packet_now position c d in
    let l : Later c d c' d = omega arith in
    let l' : Later d c d c' = omega arith in
    record {
      there = omega (arith, s.there, s.back, s.within, s.peer_within);
      back = omega (arith, s.there, s.back, s.within, s.peer_within);
      within = omega (arith, s.there, s.back, s.within, s.peer_within);
      peer_within = omega (arith, s.there, s.back, s.within, s.peer_within);
      bag = All-cons (WasSent c' d) p c.bag
          (record {
            read = omega arith;
            allows = omega arith;
            sender_sent = omega arith;
            receiver_sent = omega arith;
            reads_sent = s.back.read;
            allows_sent = omega (arith, s.back.sent, s.back.limit);
            spread = omega (arith, s.within.taken);
            position = below;
            outstanding = near;
          })
          (bag_later c d c' d l c.bag s.bag);
      peer_bag = bag_later d c d c' l' d.bag s.peer_bag;
    }

pub one_more_sound : (c d : End) → AreSound c d → c.sent < c.limit → c.sent < length c.units → AreSound (record c { sent = c.sent + 1 }) d
one_more_sound c d s room unit =
    let c' : End = record c { sent = c.sent + 1 } in
    let l : Later c d c' d = omega arith in
    let l' : Later d c d c' = omega arith in
    record {
      there = omega (arith, s.there, s.back, s.within, s.peer_within);
      back = omega (arith, s.there, s.back, s.within, s.peer_within);
      within = omega (arith, s.there, s.back, s.within, s.peer_within);
      peer_within = omega (arith, s.there, s.back, s.within, s.peer_within);
      bag = bag_later c d c' d l c.bag s.bag;
      peer_bag = bag_later d c d c' l' d.bag s.peer_bag;
    }

pub sent_next_sound : (c d : End) → AreSound c d → c.sent < c.limit → c.sent < length c.units → AreSound (sent_next c d) d
sent_next_sound c d s room unit =
    mailed_sound (record c { sent = c.sent + 1 }) d (Some c.sent) (one_more_sound c d s room unit)
    (λ n e. let same : n ≡ c.sent = cc in omega arith)
    (λ n e. let same : n ≡ c.sent = cc in omega (arith, s.within.limit, s.there.base, s.there.read))

pub learned_sound : (c d : End) (p : Packet) → AreSound c d → WasSent d c p → AreSound (learned p c) d
learned_sound c d p s was =
    let c' : End = learned p c in
    let l : Later c d c' d = omega arith in
    let l' : Later d c d c' = omega arith in
    record {
      there = omega (arith, s.there, s.back, s.within, s.peer_within, was);
      back = omega (arith, s.there, s.back, s.within, s.peer_within, was);
      within = omega (arith, s.there, s.back, s.within, s.peer_within, was);
      peer_within = omega (arith, s.there, s.back, s.within, s.peer_within, was);
      bag = bag_later c d c' d l c.bag s.bag;
      peer_bag = bag_later d c d c' l' d.bag s.peer_bag;
    }

-- positions are kept, up to a gap they are read
pub risen_sound : (c d : End) (kept : List Bool) → AreSound c d → c.read + length kept ≤ d.sent → AreSound (risen kept c) d
risen_sound c d kept s fits =
    let c' : End = risen kept c in
    let below : lead kept ≤ length kept = lead-le kept in
    let rest : length (drop (lead kept) kept) ≡ length kept - lead kept = length-drop (lead kept) kept in
    let l : Later c d c' d = omega arith in
    let l' : Later d c d c' = omega arith in
    record {
      there = omega (arith, s.there, s.back, s.within, s.peer_within);
      back = omega (arith, s.there, s.back, s.within, s.peer_within);
      within = omega (arith, s.there, s.back, s.within, s.peer_within);
      peer_within = omega (arith, s.there, s.back, s.within, s.peer_within);
      bag = bag_later c d c' d l c.bag s.bag;
      peer_bag = bag_later d c d c' l' d.bag s.peer_bag;
    }

pub read_unit_sound : (c d : End) (position : Option ℕ) → AreSound c d → ((n : ℕ) → position ≡ Some n → n < d.sent) → AreSound (read_unit position c) d
read_unit_sound c d None s below = s
read_unit_sound c d (Some n) s below =
    cond_both (is_awaited c n) (risen (put_mark (n - c.read) c.kept) c) c (λ x. AreSound x d)
    (λ yes.
    let above : c.read ≤ n = leb-true _ _ (and_parts _ _ yes).0 in
    let long : length (put_mark (n - c.read) c.kept) ≡ max (n - c.read + 1) (length c.kept) = length-put_mark (n - c.read) c.kept in
    risen_sound c d (put_mark (n - c.read) c.kept) s (omega (arith, below n refl, s.within.kept)))
    (λ no. s)

pub got_sound : (c d : End) (p : Packet) → AreSound c d → WasSent d c p → AreSound (got p c) d
got_sound c d p s was =
    read_unit_sound (learned p c) d p.position (learned_sound c d p s was) (λ n e. omega (arith, was.position n e, was.sender_sent))

pub taken_sound : (c d : End) → AreSound c d → c.taken < c.read → AreSound (record c { taken = c.taken + 1 }) d
taken_sound c d s more =
    let c' : End = record c { taken = c.taken + 1 } in
    let l : Later c d c' d = omega arith in
    let l' : Later d c d c' = omega arith in
    record {
      there = omega (arith, s.there, s.back, s.within, s.peer_within);
      back = omega (arith, s.there, s.back, s.within, s.peer_within);
      within = omega (arith, s.there, s.back, s.within, s.peer_within);
      peer_within = omega (arith, s.there, s.back, s.within, s.peer_within);
      bag = bag_later c d c' d l c.bag s.bag;
      peer_bag = bag_later d c d c' l' d.bag s.peer_bag;
    }

pub gained_sound : (c d : End) (more : List Unit) → AreSound c d → AreSound (record c { units = c.units ++ more }) d
gained_sound c d more s =
    let c' : End = record c { units = c.units ++ more } in
    let l : Later c d c' d = omega arith in
    let l' : Later d c d c' = omega arith in
    record {
      there = omega (arith, s.there, s.back, s.within, s.peer_within, length-append c.units more);
      back = omega (arith, s.there, s.back, s.within, s.peer_within, length-append c.units more);
      within = omega (arith, s.there, s.back, s.within, s.peer_within, length-append c.units more);
      peer_within = omega (arith, s.there, s.back, s.within, s.peer_within, length-append c.units more);
      bag = bag_later c d c' d l c.bag s.bag;
      peer_bag = bag_later d c d c' l' d.bag s.peer_bag;
    }

-- ---- steps and runs

pub to_end : (c c' d : End) → c' ≡ c → AreSound c d → AreSound c' d
to_end c c' d e s = subst (λ (x : End). AreSound x d) (sym e) s

pub moves_sound : (act : Act) (c d c' : End) → Moves act c d c' → AreSound c d → AreSound c' d
moves_sound Sends c d c' m s = to_end (sent_next c d) c' d m.2 (sent_next_sound c d s m.0 m.1)
moves_sound (SendsAgain n) c d c' m s =
    to_end (mailed (Some n) c d) c' d m.2
    (mailed_sound c d (Some n) s (λ k e. let same : k ≡ n = cc in omega (arith, m.1)) (λ k e. let same : k ≡ n = cc in omega (arith, m.0, s.there.sent, s.within.limit)))
moves_sound SendsNoUnit c d c' m s = to_end (mailed None c d) c' d m (mailed_sound c d None s (λ k e. absurd cc) (λ k e. absurd cc))
moves_sound (Gets p) c d c' m s = to_end (got p c) c' d m.1 (got_sound c d p s (All-contains (WasSent d c) d.bag p s.peer_bag m.0))
moves_sound Takes c d c' m s = to_end (record c { taken = c.taken + 1 }) c' d m.1 (taken_sound c d s m.0)
moves_sound (Gains more) c d c' m s = to_end (record c { units = c.units ++ more }) c' d m (gained_sound c d more s)

pub step_sound : (s : Step) (m n : Machine) → IsStep s m n → AreSound m.one m.two → AreSound n.one n.two
step_sound (One act) m n is s =
    let moved : AreSound n.one m.two = moves_sound act m.one m.two n.one is.0 s in
    subst (λ (x : End). AreSound n.one x) (sym is.1) moved
step_sound (Two act) m n is s =
    let moved : AreSound n.two m.one = moves_sound act m.two m.one n.two is.0 (swapped m.one m.two s) in
    subst (λ (x : End). AreSound x n.two) (sym is.1) (swapped n.two m.one moved)

pub run_sound : (steps : List Step) (m n : Machine) → IsRun steps m n → AreSound m.one m.two → AreSound n.one n.two
run_sound [] m n is s = subst (λ (x : Machine). AreSound x.one x.two) (sym is) s
run_sound (step ∷ steps) m n is s = run_sound steps is.0 n is.2 (step_sound step m is.0 is.1 s)

pub start_sound : (a b : ℕ) → AreSound (new_end a) (new_end b)
start_sound a b =
    record {
      there = omega arith;
      back = omega arith;
      within = omega arith;
      peer_within = omega arith;
      bag = All-nil (WasSent (new_end a) (new_end b));
      peer_bag = All-nil (WasSent (new_end b) (new_end a));
    }

pub reached : (steps : List Step) (a b : ℕ) (m : Machine) → IsRun steps (start a b) m → AreSound m.one m.two
reached steps a b m run = run_sound steps (start a b) m run (start_sound a b)
