-- The marks of a driver's ports over several askings and a turn.
use Rattle.std.proofs.Common.{◌≡◌, ◌<◌, ◌⊎◌, ℕ, ◌+◌, Bool, true, false, List, [], ◌∷◌, ◌++◌, length, map, filter, Option, Some, None, is_some, refl, sym, ap, ◌∙◌, subst, cond, inl, inr, arith, append_assoc, append-nil, length-append}
use Rattle.std.specs.Prelude.{◌==◌, slice_set, suc, zero}
use Rattle.std.proofs.lemmas.Bool.{eqb-true, eqb-false}
use Rattle.std.proofs.lemmas.List.{map-append}
use Rattle.std.proofs.lemmas.List.Elements.{filter-append}
use Rattle.ipx_carrier.specs.declared.fault.RunFault.{RunFault}
use Rattle.ipx_carrier.specs.declared.fault.RunFault.TheVariants.{Device, OutOfMemory}
use Rattle.ipx_carrier.specs.declared.report.SendCounts.{SendCounts}
use Rattle.ipx_carrier.specs.Counts.{heard_in}
use Rattle.ipx_carrier.specs.Device.{Reception, TrafficOf}
use Rattle.ipx_carrier.specs.DriverTurns.{AsksEach, EndsAsking, SendsUntil}
use Rattle.ipx_carrier.specs.MarkedTurns.{AsksMarkedPorts, AsksSomeMarkedPorts, BreaksMarkedTurn, EndsTurn, TakesMarkedTurn}
use Rattle.ipx_carrier.specs.Parts.{AsksPort, PollFails, SendsAll, SendsSome}
use Rattle.ipx_carrier.specs.Readiness.{AsksPortWithMark, EndsInNone, FailsWithMark, MarksFollow, MarksStay, Readiness}
use Rattle.ipx_carrier.specs.ReadySet.{is_port_marked}
use Rattle.ipx_carrier.specs.Turns.{FailsAtPort, Given, Turn, Ways}
use Rattle.ipx_carrier.specs.Waits.{answers_of_port}
use Rattle.ipx_carrier.proofs.Asking.{heard_more, hears_more}
use Rattle.ipx_carrier.proofs.Courses.{report_one, turn_report}
use Rattle.ipx_carrier.proofs.DriverStates.{asks_on, asks_one_more}

is_on : Bool → Type 0
is_on true = Unit {0}
is_on false = ⊥

not_both : {A : Type 0} (b : Bool) → b ≡ true → b ≡ false → A
unfolding is_on
not_both b e k = absurd (subst is_on (sym e ∙ k) tt)

answers-append : (port : ℕ) (rs ss : List Reception) → answers_of_port port (rs ++ ss) ≡ answers_of_port port rs ++ answers_of_port port ss
answers-append port rs ss =
    ap (map (λ (r : Reception). r.bytes)) (filter-append (λ (r : Reception). r.port == port) rs ss)
    ∙ map-append (λ (r : Reception). r.bytes) (filter (λ (r : Reception). r.port == port) rs) (filter (λ (r : Reception). r.port == port) ss)

bytes_of : (asked : ℕ) (bytes : Option (List ℕ)) (b : Bool) → map (λ (r : Reception). r.bytes) (cond b (record { port = asked; bytes = bytes } ∷ []) []) ≡ cond b (bytes ∷ []) []
bytes_of asked bytes true = refl
bytes_of asked bytes false = refl

one_answer : (port asked : ℕ) (bytes : Option (List ℕ)) (b : Bool) → (asked == port) ≡ b
    → answers_of_port port (record { port = asked; bytes = bytes } ∷ []) ≡ cond b (bytes ∷ []) []
one_answer port asked bytes b e =
    ap (λ b. map (λ (r : Reception). r.bytes) (cond b (record { port = asked; bytes = bytes } ∷ []) [])) e ∙ bytes_of asked bytes b

pub follow_nothing : (a b : Readiness) → MarksStay a b → MarksFollow [] a b
follow_nothing a b stay = λ port. (λ e. sym (stay port) ∙ e, λ e. inr (refl, sym (stay port) ∙ e))

-- more answers
then_unmarked : (port : ℕ) (rs ss : List Reception) (was : Type 0) → answers_of_port port ss ≡ []
    → EndsInNone (answers_of_port port rs) ⊎ ((answers_of_port port rs ≡ []) × was)
    → EndsInNone (answers_of_port port (rs ++ ss)) ⊎ ((answers_of_port port (rs ++ ss) ≡ []) × was)
then_unmarked port rs ss was none (inl w) =
    inl (w.0, answers-append port rs ss ∙ ap (λ xs. answers_of_port port rs ++ xs) none ∙ append-nil (answers_of_port port rs) ∙ w.1)
then_unmarked port rs ss was none (inr w) =
    inr (answers-append port rs ss ∙ ap (λ xs. answers_of_port port rs ++ xs) none ∙ append-nil (answers_of_port port rs) ∙ w.0, w.1)

unmarked_on : (port : ℕ) (rs ss : List Reception) (a b : Readiness) → MarksFollow rs a b
    → EndsInNone (answers_of_port port ss) ⊎ ((answers_of_port port ss ≡ []) × (b port ≡ false))
    → EndsInNone (answers_of_port port (rs ++ ss)) ⊎ ((answers_of_port port (rs ++ ss) ≡ []) × (a port ≡ false))
unmarked_on port rs ss a b h (inl w) =
    inl (
      answers_of_port port rs ++ w.0,
      answers-append port rs ss ∙ ap (λ xs. answers_of_port port rs ++ xs) w.1 ∙ sym (append_assoc (answers_of_port port rs) w.0 (None ∷ [])),
    )
unmarked_on port rs ss a b h (inr w) = then_unmarked port rs ss (a port ≡ false) w.0 ((h port).1 w.1)

pub follow_on : (rs ss : List Reception) (a b c : Readiness) → MarksFollow rs a b → MarksFollow ss b c → MarksFollow (rs ++ ss) a c
follow_on rs ss a b c h k = λ port. (λ e. (h port).0 ((k port).0 e), λ e. unmarked_on port rs ss a b h ((k port).1 e))

pub follow_stays : (rs : List Reception) (a b c : Readiness) → MarksFollow rs a b → MarksStay b c → MarksFollow rs a c
follow_stays rs a b c h stay = λ port. (λ e. (h port).0 (sym (stay port) ∙ e), λ e. (h port).1 (sym (stay port) ∙ e))

-- one answer
none_came : (bytes : Option (List ℕ)) (marked : Bool) → (is_some bytes ≡ true → marked ≡ true) → marked ≡ false → EndsInNone (bytes ∷ [])
none_came None marked came e = ([], refl)
none_came (Some x) marked came e = not_both marked (came refl) e

one_at : (port asked : ℕ) (bytes : Option (List ℕ)) (a b : Readiness) → AsksPortWithMark asked (is_some bytes) a b
    → (same : Bool) → (asked == port) ≡ same → (b port ≡ true → a port ≡ true)
    × (b port ≡ false → EndsInNone (answers_of_port port (record { port = asked; bytes = bytes } ∷ []))
    ⊎ ((answers_of_port port (record { port = asked; bytes = bytes } ∷ []) ≡ []) × (a port ≡ false)))
one_at port asked bytes a b h true e =
    let at : asked ≡ port = eqb-true asked port e in
    let answers = one_answer port asked bytes true e in (
      subst (λ p. b p ≡ true → a p ≡ true) at h.1,
      λ k.
          let none = none_came bytes (b port) (subst (λ p. is_some bytes ≡ true → b p ≡ true) at h.2) k in
          inl (none.0, answers ∙ none.1),
    )
one_at port asked bytes a b h false e =
    let same : b port ≡ a port = h.0 port (λ k. eqb-false asked port e (sym k)) in
    (λ k. sym same ∙ k, λ k. inr (one_answer port asked bytes false e, sym same ∙ k))

pub follow_one : (asked : ℕ) (bytes : Option (List ℕ)) (a b : Readiness) → AsksPortWithMark asked (is_some bytes) a b
    → MarksFollow (record { port = asked; bytes = bytes } ∷ []) a b
follow_one asked bytes a b h = λ port. one_at port asked bytes a b h (asked == port) refl

-- marks that stay, at a port that gave something
pub stay_marked : (asked : ℕ) (a b : Readiness) → MarksStay a b → a asked ≡ true → AsksPortWithMark asked true a b
stay_marked asked a b stay e = (λ port far. stay port, λ k. e, λ k. stay asked ∙ e)

module _ {C S : Type 0} (hears : C → ℕ → List ℕ → ℕ → C → Type 0)
    (receives : S → ℕ → ℕ → Option (List ℕ) → S → Type 0) (marked : S → Readiness) (now size : ℕ) where
  pub asks_none : (x : S) (c : C) → AsksMarkedPorts hears receives marked now size 0 x x c c 0
  asks_none x c = ([], refl, refl, refl, follow_nothing (marked x) (marked x) (λ port. refl), refl)

  pub asks_more : {A : Type 0} (wide port : ℕ) (t u : Option (TrafficOf A)) (x y z : S) (a b c : C) (count more : ℕ) (heard : Bool)
      → wide ≡ size → AsksMarkedPorts hears receives marked now size port x y a b count → AsksPort hears receives now wide port t u y z b c heard → AsksPortWithMark port heard (marked y) (marked z)
      → more ≡ count + cond heard 1 0 → AsksMarkedPorts hears receives marked now size (port + 1) x z a c more
  asks_more wide port t u x y z a b c count more heard f h k w e =
      let rs = h.0 in
      let r : List Reception = record { port = port; bytes = k.0 } ∷ [] in
      let is : heard ≡ is_some k.0 = k.3 in
      let long : length rs ≡ port = h.1 in
      let counted : count ≡ heard_in rs = h.3 in (
        rs ++ r,
        omega (arith, length-append rs r),
        hears_more hears now 0 rs a b c k.0 port h.2 (omega arith) k.2,
        e ∙ ap (λ b. count + cond b 1 0) is ∙ ap (λ n. n + cond (is_some k.0) 1 0) counted ∙ sym (heard_more rs port k.0),
        follow_on rs r (marked x) (marked y) (marked z) h.4
            (follow_one port k.0 (marked y) (marked z) (subst (λ (b : Bool). AsksPortWithMark port b (marked y) (marked z)) is w)),
        asks_one_more receives size rs port k.0 x y z h.5 (subst (λ n. receives y port n k.0 z) f k.4),
      )

module _ {C S : Type 0} (hears hear_out_of_memory : C → ℕ → List ℕ → ℕ → C → Type 0)
    (receives : S → ℕ → ℕ → Option (List ℕ) → S → Type 0) (fails_to_receive : S → ℕ → ℕ → S → Type 0)
    (marked : S → Readiness) (now size : ℕ) where
  follow_fault : (port : ℕ) (last : List Reception) (f : RunFault) (m n : Readiness) (b c : C)
      → FailsAtPort hear_out_of_memory now port last f b c → FailsWithMark port f m n → MarksFollow last m n
  follow_fault port last Device m n b c k w = subst (λ (rs : List Reception). MarksFollow rs m n) (sym k.0) (follow_nothing m n w.0)
  follow_fault port last OutOfMemory m n b c k w =
      subst (λ (rs : List Reception). MarksFollow rs m n) (sym k.1) (follow_one port (Some k.0) m n (stay_marked port m n w.0 (w.1 refl)))

  pub asks_some : {A : Type 0} (wide port ports : ℕ) (t u : Option (TrafficOf A)) (x y z : S) (a b c : C) (count : ℕ) (f : RunFault)
      → wide ≡ size → AsksMarkedPorts hears receives marked now size port x y a b count → PollFails hear_out_of_memory receives fails_to_receive now wide port t u f y z b c → FailsWithMark port f (marked y) (marked z)
      → port < ports → AsksSomeMarkedPorts hears hear_out_of_memory receives fails_to_receive marked now size ports f x z a c
  asks_some wide port ports t u x y z a b c count f same h k w e =
      let long : length h.0 ≡ port = h.1 in
      let asked : AsksEach receives size k.0 y k.3 = subst (λ n. AsksEach receives n k.0 y k.3) same k.4 in
      let ends : EndsAsking fails_to_receive port size f k.3 z = subst (λ n. EndsAsking fails_to_receive port n f k.3 z) same k.5 in (
        h.0,
        k.0,
        b,
        omega arith,
        h.2,
        subst (λ n. FailsAtPort hear_out_of_memory now n k.0 f b c) (sym long) k.2,
        follow_on h.0 k.0 (marked x) (marked y) (marked z) h.4 (follow_fault port k.0 f (marked y) (marked z) b c k.2 w),
        k.3,
        asks_on receives size h.0 k.0 x y k.3 h.5 asked,
        subst (λ n. EndsAsking fails_to_receive n size f k.3 z) (sym long) ends,
      )

module _ {C K S : Type 0} (hears : C → ℕ → List ℕ → ℕ → C → Type 0)
    (gives : C → ℕ → Option Given → C → Type 0) (tells : K → ℕ → K → Type 0)
    (receives : S → ℕ → ℕ → Option (List ℕ) → S → Type 0) (sends : S → Given → S → Type 0)
    (marked : S → Readiness) (ports size : ℕ) {A : Type 0} (transmissions : Ways A) where
  pub turn_follows : (now : ℕ) (there : Ways A) (t u : Option (TrafficOf A)) (x y z : S) (r s : K) (a b c : C) (heard : ℕ) (totals : SendCounts)
      → tells r now s → there ≡ transmissions → AsksMarkedPorts hears receives marked now size ports x y a b heard → SendsAll gives sends now there t u y z b c totals
      → MarksStay (marked y) (marked z)
      → TakesMarkedTurn hears gives tells receives sends marked ports size transmissions x z r s a c (turn_report heard totals)
  turn_follows now there t u x y z r s a b c heard totals told is h k' stay =
      let k = subst (λ w. SendsAll gives sends now w t u y z b c totals) is k' in
      let turn : Turn = record { moment = now; answers = h.0; packets = k.0 } in
      (turn, (h.1, b, h.2, k.1), told, report_one transmissions now heard totals h.0 k.0 h.3 k.3, follow_stays h.0 (marked x) (marked y) (marked z) h.4 stay, y, h.5, k.4)

module _ {C K S : Type 0} (hears hear_out_of_memory : C → ℕ → List ℕ → ℕ → C → Type 0)
    (gives : C → ℕ → Option Given → C → Type 0) (next_out_of_memory : C → ℕ → C → Type 0)
    (tells : K → ℕ → K → Type 0) (receives : S → ℕ → ℕ → Option (List ℕ) → S → Type 0)
    (sends : S → Given → S → Type 0) (fails_to_receive : S → ℕ → ℕ → S → Type 0)
    (fails_to_send : S → Given → S → Type 0) (marked : S → Readiness) (ports size : ℕ) {A : Type 0}
    (transmissions : Ways A) where
  -- a fault among the ports: nothing was sent
  nothing_sent : (now : ℕ) (f : RunFault) (heard last : List Reception) (asked z : S) (b c : C) → FailsAtPort hear_out_of_memory now (length heard) last f b c
      → EndsAsking fails_to_receive (length heard) size f asked z
      → EndsTurn sends fails_to_receive fails_to_send size (record { moment = now; answers = heard ++ last; packets = [] }) f asked z
  nothing_sent now Device heard last asked z b c k w =
      let all : length (heard ++ last) ≡ length heard = ap length (ap (λ (rs : List Reception). heard ++ rs) k.0 ∙ append-nil heard) in
      inr (refl, subst (λ n. fails_to_receive asked n size z) (sym all) w)
  nothing_sent now OutOfMemory heard last asked z b c k w = w

  pub fault_hearing : (now : ℕ) (f : RunFault) (x z : S) (r s : K) (a b : C) → tells r now s → AsksSomeMarkedPorts hears hear_out_of_memory receives fails_to_receive marked now size ports f x z a b
      → BreaksMarkedTurn hears hear_out_of_memory gives next_out_of_memory tells receives sends fails_to_receive fails_to_send marked ports size transmissions f x z r s a b
  fault_hearing now f x z r s a b told h =
      let turn : Turn = record { moment = now; answers = h.0 ++ h.1; packets = [] } in
      (turn, [], inl (h.0, h.1, h.2, refl, h.3, h.4, h.5, refl, refl), told, h.6, h.7, h.8, nothing_sent now f h.0 h.1 h.7 z h.2 b h.5 h.9)

  -- a fault after them: packets were sent
  some_sent : (f : RunFault) (t : Turn) (asked z : S) → SendsUntil sends fails_to_send t.packets f asked z → EndsTurn sends fails_to_receive fails_to_send size t f asked z
  some_sent Device t asked z h = inl h
  some_sent OutOfMemory t asked z h = h

  pub fault_sending : (now : ℕ) (there : Ways A) (t u : Option (TrafficOf A)) (x y z : S) (r s : K) (f : RunFault) (a b c : C) (heard : ℕ)
      → tells r now s → there ≡ transmissions → AsksMarkedPorts hears receives marked now size ports x y a b heard → SendsSome gives next_out_of_memory sends fails_to_send 64 now there t u f y z b c
      → MarksStay (marked y) (marked z) → BreaksMarkedTurn hears hear_out_of_memory gives next_out_of_memory tells receives sends fails_to_receive fails_to_send marked ports size transmissions f x z r s a c
  fault_sending now there t u x y z r s f a b c heard told is h k' stay =
      let k = subst (λ w. SendsSome gives next_out_of_memory sends fails_to_send 64 now w t u f y z b c) is k' in
      let turn : Turn = record { moment = now; answers = h.0; packets = k.0 } in
      (turn, k.1, inr (h.1, b, h.2, k.2), told, follow_stays h.0 (marked x) (marked y) (marked z) h.4 stay, y, h.5, some_sent f turn y z k.4)

-- one mark of a list is cleared
cleared_at : (marks : List Bool) (port : ℕ) → is_port_marked (slice_set marks port false) port ≡ false
cleared_at [] port = refl
cleared_at (x ∷ xs) zero = refl
cleared_at (x ∷ xs) (suc port) = cleared_at xs port

cleared_apart : (marks : List Bool) (asked port : ℕ) → (port ≡ asked → ⊥) → is_port_marked (slice_set marks asked false) port ≡ is_port_marked marks port
cleared_apart [] asked port far = refl
cleared_apart (x ∷ xs) zero zero far = absurd (far refl)
cleared_apart (x ∷ xs) zero (suc port) far = refl
cleared_apart (x ∷ xs) (suc asked) zero far = refl
cleared_apart (x ∷ xs) (suc asked) (suc port) far = cleared_apart xs asked port (λ e. far (ap (λ n. suc n) e))

pub cleared_asks : (old new : List Bool) (asked : ℕ) → new ≡ slice_set old asked false → AsksPortWithMark asked false (is_port_marked old) (is_port_marked new)
cleared_asks old new asked is =
    subst (λ (marks : List Bool). AsksPortWithMark asked false (is_port_marked old) (is_port_marked marks)) (sym is)
    (cleared_apart old asked, λ e. not_both (is_port_marked (slice_set old asked false) asked) e (cleared_at old asked), λ e. not_both false e refl)
