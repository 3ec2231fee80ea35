-- Turns of the core of `ipx route` over ports are calls of it.
use Rattle.std.proofs.Common.{◌≡◌, ◌≢◌, ◌≤◌, ◌+◌, ℕ, List, [], ◌∷◌, ◌++◌, length, Option, None, Some, refl, sym, ◌∙◌, inl, inr, ap, subst, arith}
use Rattle.std.specs.Prelude.{flat_map}
use Rattle.std.proofs.lemmas.Grind.{flat_map-append}
use Rattle.std.proofs.lemmas.List.{append-nil}
use Rattle.ipx_carrier.specs.Device.{Reception}
use Rattle.ipx_carrier.specs.Turns.{FailsAfter, FailsAtPort, FailsMidTurn, Given, GivesAll, GivesEach, HearsAnswer, HearsEach, IsTurn, Turn, Turns, Ways, packets_of, received_of}
use Rattle.ipx_carrier.specs.declared.fault.RunFault.{RunFault}
use Rattle.ipx_carrier.specs.declared.fault.RunFault.TheVariants.{Device, OutOfMemory}
use Rattle.ipx_site.specs.SiteCore.{SiteCore, SiteGives, SiteHears, SiteHearOutOfMemory, SiteNextOutOfMemory}
use Rattle.theory_processes.specs.HostCalls.{ByACore}
use Rattle.theory_processes.specs.Loops.{AreCallsOf, answer_in, answers_in, if_given, router_gave, router_heard}
use Rattle.theory_processes.specs.RouterCalls.{HearsOn, HearOutOfMemoryOn, NextOutOfMemoryAt, Passes, RouterCall}
use Rattle.theory_processes.specs.SiteCalls.{DoesSiteCall, SiteRuns, numbered}

abbrev pub Ins : Type 0
Ins = List (ℕ × List ℕ)

-- calls that received and gave these
abbrev pub Calls : SiteCore → SiteCore → Ins → List Given → Type 0
Calls old new received packets = AreCallsOf DoesSiteCall router_heard router_gave received packets old new

pub runs_more : (a b : List RouterCall) (x y z : SiteCore) → SiteRuns a x y → SiteRuns b y z → SiteRuns (a ++ b) x z
runs_more [] b x y z first later = subst (λ e. SiteRuns b e z) first later
runs_more (c ∷ a) b x y z first later = (first.0, first.1, runs_more a b first.0 y z first.2 later)

pub nothing : (old new : SiteCore) → new ≡ old → Calls old new [] []
nothing old new same = ([], same, refl, refl)

pub one : (call : RouterCall) (old new : SiteCore) (ins : Ins) (outs : List Given) → DoesSiteCall call old new → router_heard call ≡ ins → router_gave call ≡ outs → Calls old new ins outs
one call old new ins outs does heard gave = (call ∷ [], (new, does, refl), append-nil (router_heard call) ∙ heard, append-nil (router_gave call) ∙ gave)

pub after : (x y z : SiteCore) (h k : Ins) (g i : List Given) → Calls x y h g → Calls y z k i → Calls x z (h ++ k) (g ++ i)
after x y z h k g i first later = (
  first.0 ++ later.0,
  runs_more first.0 later.0 x y z first.1 later.1,
  flat_map-append router_heard first.0 later.0 ∙ ap (λ a. a ++ flat_map router_heard later.0) first.2 ∙ ap (λ b. h ++ b) later.2,
  flat_map-append router_gave first.0 later.0 ∙ ap (λ a. a ++ flat_map router_gave later.0) first.3 ∙ ap (λ b. g ++ b) later.3,
)

-- ---- whole turns

abbrev pub answers : List Reception → Ins
answers rs = answers_in numbered rs

one_heard : (now port : ℕ) (bytes : Option (List ℕ)) (old new : SiteCore) → HearsAnswer SiteHears now port bytes old new → Calls old new (answer_in (numbered port) bytes) []
one_heard now port None old new h = nothing old new h
one_heard now port (Some bytes) old new h = one (HearsOn ByACore port bytes now) old new ((port, bytes) ∷ []) [] h refl refl

all_heard : (now port : ℕ) (rs : List Reception) (old new : SiteCore) → HearsEach SiteHears now port rs old new → Calls old new (answers rs) []
all_heard now port [] old new h = nothing old new h
all_heard now port (r ∷ rs) old new h =
    subst (λ p. Calls old new (answer_in (numbered p) r.bytes ++ answers rs) []) (sym h.1)
    (after old h.0 new (answer_in (numbered port) r.bytes) (answers rs) [] [] (one_heard now port r.bytes old h.0 h.2) (all_heard now (port + 1) rs h.0 new h.3))

gave_one : (now : ℕ) (given : Option Given) (old new : SiteCore) → SiteGives old now given new → Calls old new [] (if_given given)
gave_one now given old new g = one (Passes now given) old new [] (if_given given) g refl refl

all_given : (now : ℕ) (ps : List Given) (old new : SiteCore) → GivesEach SiteGives now ps old new → Calls old new [] ps
all_given now [] old new g = nothing old new g
all_given now (p ∷ ps) old new g = after old g.0 new [] [] (p ∷ []) ps (gave_one now (Some p) old g.0 g.1) (all_given now ps g.0 new g.2)

given_out : (now : ℕ) (ps : List Given) (old new : SiteCore) → GivesAll SiteGives now ps old new → Calls old new [] ps
given_out now ps old new g = elim g [
  | inl full ↦ all_given now ps old new full.0
  | inr rest ↦ subst (λ xs. Calls old new [] xs) (append-nil ps) (after old rest.0 new [] [] ps [] (all_given now ps old rest.0 rest.1) (gave_one now None rest.0 new rest.3))
]

pub a_turn : (ports : ℕ) (t : Turn) (old new : SiteCore) → IsTurn SiteHears SiteGives ports t old new → Calls old new (answers t.answers) t.packets
a_turn ports t old new is =
    subst (λ rs. Calls old new rs t.packets) (append-nil (answers t.answers))
    (after old is.1 new (answers t.answers) [] [] t.packets (all_heard t.moment 0 t.answers old is.1 is.2) (given_out t.moment t.packets is.1 new is.3))

-- a turn, and then others
pub turn_more : (turn : Turn) (course : List Turn) (x y z : SiteCore) → Calls x y (answers turn.answers) turn.packets → Calls y z (answers (received_of course)) (packets_of course)
    → Calls x z (answers (received_of (turn ∷ course))) (packets_of (turn ∷ course))
turn_more turn course x y z first later =
    subst (λ rs. Calls x z rs (packets_of (turn ∷ course))) (sym (flat_map-append (λ (r : Reception). answer_in (numbered r.port) r.bytes) turn.answers (received_of course)))
    (after x y z (answers turn.answers) (answers (received_of course)) turn.packets (packets_of course) first later)

pub turns : (ports : ℕ) (course : List Turn) (old new : SiteCore) → Turns SiteHears SiteGives ports course old new → Calls old new (answers (received_of course)) (packets_of course)
turns ports [] old new t = nothing old new t
turns ports (turn ∷ course) old new t = turn_more turn course old t.0 new (a_turn ports turn old t.0 t.1) (turns ports course t.0 new t.2)

-- ---- a turn that a fault ended

-- what was received is what the ports gave before the fault
abbrev pub ReceivedBefore : RunFault → Turn → SiteCore → SiteCore → Type 0
ReceivedBefore fault t old new = (received lost : Ins) × (answers t.answers ≡ received ++ lost) × (length lost ≤ 1) × (lost ≢ [] → fault ≡ OutOfMemory) × Calls old new received t.packets

-- a port at which the device failed gave nothing
of_memory : (now port : ℕ) (last : List Reception) (fault : RunFault) (old new : SiteCore) → FailsAtPort SiteHearOutOfMemory now port last fault old new → answers last ≢ [] → fault ≡ OutOfMemory
of_memory now port last Device old new f some = absurd (some (ap answers f.0))
of_memory now port last OutOfMemory old new f some = refl

-- at the last port the device failed, or memory ran out for one datagram
few : (now port : ℕ) (last : List Reception) (fault : RunFault) (old new : SiteCore) → FailsAtPort SiteHearOutOfMemory now port last fault old new → length (answers last) ≤ 1
few now port last Device old new f = subst (λ rs. length (answers rs) ≤ 1) (sym f.0) (omega arith)
few now port last OutOfMemory old new f = subst (λ rs. length (answers rs) ≤ 1) (sym f.1) (omega arith)

failed : (now port : ℕ) (last : List Reception) (fault : RunFault) (old new : SiteCore) → FailsAtPort SiteHearOutOfMemory now port last fault old new → Calls old new [] []
failed now port last Device old new f = nothing old new f.1
failed now port last OutOfMemory old new f = one (HearOutOfMemoryOn port f.0 now) old new [] [] f.2 refl refl

failed_after : {A : Type 0} (now : ℕ) (ways : Ways A) (ps : List Given) (sent : List A) (fault : RunFault) (old new : SiteCore)
    → FailsAfter SiteGives SiteNextOutOfMemory 64 now ways ps sent fault old new → Calls old new [] ps
failed_after now ways ps sent Device old new f = all_given now ps old new f.0
failed_after now ways ps sent OutOfMemory old new f =
    subst (λ xs. Calls old new [] xs) (append-nil ps) (after old f.0 new [] [] ps [] (all_given now ps old f.0 f.1) (one (NextOutOfMemoryAt now) f.0 new [] [] f.4 refl refl))

pub faults : {A : Type 0} (ports : ℕ) (ways : Ways A) (t : Turn) (sent : List A) (fault : RunFault) (old new : SiteCore)
    → FailsMidTurn SiteHears SiteHearOutOfMemory SiteGives SiteNextOutOfMemory ports ways t sent fault old new → ReceivedBefore fault t old new
faults ports ways t sent fault old new b = elim b [
  | inl hearing ↦ (
    answers hearing.0,
    answers hearing.1,
    ap answers hearing.3 ∙ flat_map-append (λ (r : Reception). answer_in (numbered r.port) r.bytes) hearing.0 hearing.1,
    few t.moment (length hearing.0) hearing.1 fault hearing.2 new hearing.6,
    of_memory t.moment (length hearing.0) hearing.1 fault hearing.2 new hearing.6,
    subst (λ rs. Calls old new rs t.packets) (append-nil (answers hearing.0))
        (subst (λ ps. Calls old new (answers hearing.0 ++ []) ps) (sym hearing.7)
        (after old hearing.2 new (answers hearing.0) [] [] [] (all_heard t.moment 0 hearing.0 old hearing.2 hearing.5) (failed t.moment (length hearing.0) hearing.1 fault hearing.2 new hearing.6))),
  )
  | inr sending ↦ (
    answers t.answers,
    [],
    sym (append-nil (answers t.answers)),
    omega arith,
    λ some. absurd (some refl),
    subst (λ rs. Calls old new rs t.packets) (append-nil (answers t.answers))
        (after old sending.1 new (answers t.answers) [] [] t.packets (all_heard t.moment 0 t.answers old sending.1 sending.2) (failed_after t.moment ways t.packets sent fault sending.1 new sending.3)),
  )
]
