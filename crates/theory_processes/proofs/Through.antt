-- Calls that pass through a port, one list after another.
use Rattle.std.proofs.Common.{◌≡◌, ◌⊎◌, List, [], ◌∷◌, ◌++◌, map, refl, sym, ◌∙◌, inl, inr, ap, subst}
use Rattle.std.specs.Prelude.{flat_map}
use Rattle.std.proofs.lemmas.Grind.{flat_map-append}
use Rattle.std.proofs.lemmas.List.{append-nil, append_assoc}
use Rattle.spx_messages.specs.EndpointView.{EndpointView}
use Rattle.ipx_carrier.specs.Turns.{Turn}
use Rattle.ipx_host.specs.declared.paced_host_core.PacedHostCore.{PacedHostCore}
use Rattle.ipx_host.specs.Passing.{Take}
use Rattle.ipx_host.specs.Turning.{Around, DrivesTurn}
use Rattle.ipx_sockets.specs.PortTurns.{HostPort}
use Rattle.theory_processes.specs.HostCalls.{Fails, HostCall}
use Rattle.theory_processes.specs.Loops.{HostRuns, host_gave, host_heard}
use Rattle.theory_processes.specs.BetweenTurns.{take_call}
use Rattle.theory_processes.specs.PortCalls.{AreOfTurn, LoseRequest, PassThrough, brought_in}
use Rattle.theory_processes.specs.TurnCalls.{ReadsAllowed, SameRules, paced_id}
use Rattle.theory_processes.proofs.HostTurning.{Turned, barred_after, reads_before, runs_more}

-- ---- calls that read and gave nothing

abbrev pub AreSilent : List HostCall → Type 0
AreSilent calls = (flat_map host_heard calls ≡ []) × (flat_map host_gave calls ≡ [])

-- what two lists of calls read or gave, of which one read and gave nothing
nothing_first : {B : Type 0} (f : HostCall → List B) (a b : List HostCall) → flat_map f a ≡ [] → flat_map f (a ++ b) ≡ flat_map f b
nothing_first f a b none = flat_map-append f a b ∙ ap (λ l. l ++ flat_map f b) none

pub silent_more : (a b : List HostCall) → AreSilent a → AreSilent b → AreSilent (a ++ b)
silent_more a b first later = (nothing_first host_heard a b first.0 ∙ later.0, nothing_first host_gave a b first.1 ∙ later.1)

pub silent_takes : (takes : List Take) → AreSilent (map take_call takes ++ Fails ∷ [])
silent_takes [] = (refl, refl)
silent_takes (t ∷ takes) = silent_takes takes

-- ---- the calls of one turn

abbrev OfTurn : PacedHostCore → Turn → List HostCall → EndpointView → Type 0
OfTurn core t calls start = AreOfTurn core t calls ⊎ LoseRequest core t calls start

silent_before : (core : PacedHostCore) (t : Turn) (a b : List HostCall) (x y : EndpointView) → HostRuns a x y → AreSilent a → OfTurn core t b y → OfTurn core t (a ++ b) x
silent_before core t a b x y runs silent o = (let heard = nothing_first host_heard a b silent.0 in let gave = nothing_first host_gave a b silent.1 in elim o [
  | inl whole ↦ inl (record { reads = subst (ReadsAllowed core (brought_in t)) (sym heard) whole.reads; gave = gave ∙ whole.gave })
  | inr part ↦ inr (record {
    bytes = part.bytes;
    from = part.from;
    brought = part.brought;
    asks = part.asks;
    allowed = part.allowed;
    before = a ++ part.before;
    later = part.later;
    refused = ap (λ l. a ++ l) part.refused ∙ sym (append_assoc a part.before (Fails ∷ part.later));
    there = part.there;
    runs = runs_more a part.before x y part.there runs part.runs;
    acceptable = part.acceptable;
    heard = heard ∙ part.heard;
    gave = gave ∙ part.gave;
    sent = part.sent;
  })
])

-- a turn by the rules that were in force before
by_rules : (old new : PacedHostCore) → SameRules old new → (t : Turn) (calls : List HostCall) (start : EndpointView) → OfTurn new t calls start → OfTurn old t calls start
by_rules old new r t calls start o = elim o [
  | inl whole ↦ inl (record { reads = reads_before old new r (brought_in t) (flat_map host_heard calls) whole.reads; gave = whole.gave })
  | inr part ↦ inr (record {
    bytes = part.bytes;
    from = part.from;
    brought = part.brought;
    asks = part.asks;
    allowed = λ barred. part.allowed (barred_after old new r part.bytes barred);
    before = part.before;
    later = part.later;
    refused = part.refused;
    there = part.there;
    runs = part.runs;
    acceptable = part.acceptable;
    heard = part.heard;
    gave = part.gave;
    sent = part.sent;
  })
]

-- ---- one list after another

silent_then : (core : PacedHostCore) (ts : List Turn) (a b : List HostCall) (x y z : EndpointView) (p q : HostPort) → HostRuns a x y → AreSilent a → PassThrough core ts b y z p q → PassThrough core ts (a ++ b) x z p q
silent_then core [] a b x y z p q runs silent through =
    let more = silent_more a b silent (through.2, through.3) in (through.0, runs_more a b x y z runs through.1, more.0, more.1)
silent_then core (t ∷ ts) a b x y z p q runs silent through = (
  through.0,
  through.1,
  a ++ through.2,
  through.3,
  ap (λ l. a ++ l) through.4 ∙ sym (append_assoc a through.2 through.3),
  runs_more a through.2 x y through.1 runs through.5,
  through.6,
  silent_before core t a through.2 x y runs silent through.7,
  through.8,
)

pub through_more : (core : PacedHostCore) (ts us : List Turn) (a b : List HostCall) (x y z : EndpointView) (p q r : HostPort) → PassThrough core ts a x y p q → PassThrough core us b y z q r
    → PassThrough core (ts ++ us) (a ++ b) x z p r
through_more core [] us a b x y z p q r first later = silent_then core us a b x y z p r first.1 (first.2, first.3) (subst (λ o. PassThrough core us b y z o r) first.0 later)
through_more core (t ∷ ts) us a b x y z p q r first later = (
  first.0,
  first.1,
  first.2,
  first.3 ++ b,
  ap (λ l. l ++ b) first.4 ∙ append_assoc first.2 first.3 b,
  first.5,
  first.6,
  first.7,
  through_more core ts us first.3 b first.1 y z first.0 q r first.8 later,
)

-- a turn of a host, by the rules that it began with
pub turn_through : {R : Type 0} (rules old new : PacedHostCore) (around around' : Around R) → SameRules rules old → (t : Turned DrivesTurn around around' old new)
    → PassThrough rules (t.turn ∷ []) t.calls old.endpoint new.endpoint around.port around'.port
turn_through rules old new around around' r t =
    (around'.port, new.endpoint, t.calls, [], sym (append-nil t.calls), t.runs, t.driven.1, by_rules rules old r t.turn t.calls old.endpoint t.passed, (refl, refl, refl, refl))

-- rules that stay, one step after another
pub rules_after : (x y z : PacedHostCore) → SameRules x y → SameRules y z → SameRules x z
rules_after x y z a b = record { network = b.network ∙ a.network; from = b.from ∙ a.from; paced = b.paced ∙ a.paced }

-- a core that something was done to between turns has the same rules
pub kept : (old new : PacedHostCore) → new ≡ record old { endpoint = new.endpoint } → SameRules old new
kept old new is = record { network = ap (λ (c : PacedHostCore). c.network) is; from = ap (λ (c : PacedHostCore). c.from) is; paced = ap (λ (c : PacedHostCore). paced_id c.paced) is }
