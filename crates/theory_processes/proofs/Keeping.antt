-- Calls of a host that listens nowhere and dials nothing more: an id that holds nothing never holds something
-- again. So an id that holds something at the end was never released.
use Rattle.std.proofs.Common.{◌≡◌, ◌≢◌, ℕ, List, [], ◌∷◌, Option, None, Some, sym, ◌∙◌, inl, inr, ap, arith}
use Rattle.std.specs.Prelude.{All}
use Rattle.std.proofs.lemmas.Bool.{cases_eq, cases_lt}
use Rattle.std.proofs.lemmas.List.Elements.{All-head, All-tail}
use Rattle.ipx_wire.specs.declared.address.Node.{Node}
use Rattle.ipx_wire.specs.declared.address.Socket.{Socket}
use Rattle.spx_messages.specs.Arrives.{Answers, Unheard}
use Rattle.spx_messages.specs.Changes.{ChangesEnd, SameBut, SameSelf}
use Rattle.spx_messages.specs.EndpointView.{EndpointView, Held, buffers_at, held_at}
use Rattle.spx_messages.specs.Polls.{PollGives}
use Rattle.spx_messages.specs.declared.arrived.Arrived.{Arrived}
use Rattle.spx_messages.specs.declared.arrived.Arrived.TheVariants as Arriveds
use Rattle.theory_processes.specs.HostCalls.{AsksAgain, Becomes, Begins, Closes, Dials, DoesHostCall, Fails, Gives, HandsIn, Hears, HostCall, Paces, Releases, Takes}
use Rattle.theory_processes.specs.Loops.{HostRuns}
use Rattle.theory_processes.specs.Senders.{AllKeepId, BeginsNone, KeepsId}

-- a call that neither asks for a connection nor lets a socket listen
abbrev pub MakesNone : HostCall → Type 0
MakesNone (Hears source bytes now answer) = Unit {0}
MakesNone (Gives now given) = Unit {0}
MakesNone (Dials socket to buffers now id) = ⊥
MakesNone (HandsIn id m) = Unit {0}
MakesNone (Closes id) = Unit {0}
MakesNone (Takes id answer) = Unit {0}
MakesNone (Paces id window manual) = Unit {0}
MakesNone (AsksAgain id place) = Unit {0}
MakesNone (Releases id) = Unit {0}
MakesNone (Begins socket buffers) = ⊥
MakesNone Fails = Unit {0}

-- no socket listens
abbrev pub IsDeaf : EndpointView → Type 0
IsDeaf e = (s : Socket) → buffers_at e s ≡ None

-- what holds nothing still does, and still no socket listens
pub record Keeps (old new : EndpointView) : Type 0 where
  pub deaf : IsDeaf new
  pub gone : (q : ℕ) → held_at old q ≡ None → held_at new q ≡ None

still_deaf : (old new : EndpointView) → SameSelf old new → IsDeaf old → IsDeaf new
still_deaf old new self deaf s = self.buffers s ∙ deaf s

not_both : (o : Option Held) (h : Held) → o ≡ Some h → o ≡ None → ⊥
not_both o h some none = cc (sym some ∙ none)

changes : (old new : EndpointView) (id : ℕ) (h after : Held) → held_at old id ≡ Some h → ChangesEnd old new id after → IsDeaf old → Keeps old new
changes old new id h after holds c deaf = record {
  deaf = still_deaf old new c.self deaf;
  gone = λ q none. elim (cases_eq q id) [
    | inl same ↦ absurd (not_both (held_at old id) h holds (ap (held_at old) (sym same) ∙ none))
    | inr apart ↦ c.others q apart ∙ none
  ];
}

same : (old new : EndpointView) → SameBut old new → IsDeaf old → Keeps old new
same old new s deaf = record { deaf = still_deaf old new s.self deaf; gone = λ q none. s.held q ∙ none }

becomes : (old new : EndpointView) (id : ℕ) {f : _} → Becomes old id f new → IsDeaf old → Keeps old new
becomes old new id b deaf = changes old new id b.held _ b.holds b.changes deaf

-- ---- a datagram: none makes a connection, as no socket listens

-- what an answer says, and that it made none
abbrev Hears-well : EndpointView → EndpointView → Arrived → Type 0
Hears-well old new answer = Keeps old new × ((id : ℕ) → BeginsNone id answer)

unheard : (old new : EndpointView) → Unheard old new → IsDeaf old → Keeps old new
unheard old new u deaf = same old new u.same deaf

hears : (old new : EndpointView) (bytes : List ℕ) (now : ℕ) (answer : Arrived) → Answers old bytes now answer new → IsDeaf old → Hears-well old new answer
hears old new bytes now (Arriveds.Bad f) a deaf = (unheard old new a.1 deaf, λ id. tt)
hears old new bytes now Arriveds.NotOurs a deaf = (unheard old new a.1 deaf, λ id. tt)
hears old new bytes now (Arriveds.BadSpx f) a deaf = (unheard old new a.1 deaf, λ id. tt)
hears old new bytes now Arriveds.NoListener a deaf = (unheard old new a.1 deaf, λ id. tt)
hears old new bytes now Arriveds.NoRoom a deaf = (unheard old new a.1 deaf, λ id. tt)
hears old new bytes now Arriveds.Stranger a deaf = (unheard old new a.1 deaf, λ id. tt)
hears old new bytes now (Arriveds.Accepted id) a deaf = absurd (cc (sym a.listens ∙ deaf a.packet.header.to.socket))
hears old new bytes now (Arriveds.Link id r) a deaf = elim a [
  | inl again ↦ (changes old new id again.0.held _ again.0.at again.0.changes deaf, λ j. tt)
  | inr read ↦ (changes old new id read.held _ read.at read.changes deaf, λ j. tt)
]

-- ---- a poll

polls : (old new : EndpointView) (now : ℕ) (o : Option (Node × ℕ)) (room written : List ℕ) → PollGives old now o room written new → (q : ℕ) → held_at old q ≡ None → held_at new q ≡ None
polls old new now None room written g q none = (g.each q).none none
polls old new now (Some r) room written g q none = elim (cases_lt q g.id) [
  | inl below ↦ (g.below q below).none none
  | inr past ↦ elim (cases_eq q g.id) [
    | inl here ↦ absurd (not_both (held_at old g.id) g.held g.at (ap (held_at old) (sym here) ∙ none))
    | inr apart ↦ g.above q (omega (arith, past, apart)) ∙ none
  ]
]

-- ---- each call

pub call_keeps : (c : HostCall) (old new : EndpointView) → DoesHostCall c old new → MakesNone c → IsDeaf old → Keeps old new
call_keeps (Hears source bytes now answer) old new d none deaf = (hears old new bytes now answer d.answers deaf).0
call_keeps (Gives now given) old new d none deaf = record { deaf = still_deaf old new d.3.self deaf; gone = polls old new now d.0 d.1 d.2 d.3.gives }
call_keeps (Dials socket to buffers now id) old new d none deaf = absurd none
call_keeps (HandsIn id m) old new d none deaf = becomes old new id d.queues.becomes deaf
call_keeps (Closes id) old new d none deaf = becomes old new id d.becomes deaf
call_keeps (Takes id answer) old new d none deaf = changes old new id d.held _ d.holds d.changes deaf
call_keeps (Paces id window manual) old new d none deaf = becomes old new id d deaf
call_keeps (AsksAgain id place) old new d none deaf = becomes old new id d deaf
call_keeps (Releases id) old new d none deaf = record {
  deaf = still_deaf old new d.releases.self deaf;
  gone = λ q is. elim (cases_eq q id) [
    | inl here ↦ ap (held_at new) here ∙ d.releases.gone
    | inr apart ↦ d.releases.others q apart ∙ is
  ];
}
call_keeps (Begins socket buffers) old new d none deaf = absurd none
call_keeps Fails old new d none deaf = same old new d deaf

-- ---- lists of calls

abbrev pub AllMakeNone : List HostCall → Type 0
AllMakeNone calls = All MakesNone calls

gone_for_good : (calls : List HostCall) (old new : EndpointView) → HostRuns calls old new → AllMakeNone calls → IsDeaf old → (q : ℕ) → held_at old q ≡ None → held_at new q ≡ None
gone_for_good [] old new r none deaf q is = ap (λ e. held_at e q) r ∙ is
gone_for_good (c ∷ calls) old new r none deaf q is =
    let k : Keeps old r.0 = call_keeps c old r.0 r.1 (All-head MakesNone c calls none) deaf in
    gone_for_good calls r.0 new r.2 (All-tail MakesNone c calls none) k.deaf q (k.gone q is)

call_keeps_id : (id : ℕ) (c : HostCall) (old new : EndpointView) → DoesHostCall c old new → MakesNone c → IsDeaf old → held_at new id ≢ None → KeepsId id c
call_keeps_id id (Hears source bytes now answer) old new d none deaf there = (hears old new bytes now answer d.answers deaf).1 id
call_keeps_id id (Gives now given) old new d none deaf there = tt
call_keeps_id id (Dials socket to buffers now j) old new d none deaf there = absurd none
call_keeps_id id (HandsIn j m) old new d none deaf there = tt
call_keeps_id id (Closes j) old new d none deaf there = tt
call_keeps_id id (Takes j answer) old new d none deaf there = tt
call_keeps_id id (Paces j window manual) old new d none deaf there = tt
call_keeps_id id (AsksAgain j place) old new d none deaf there = tt
call_keeps_id id (Releases j) old new d none deaf there = λ is. there (ap (held_at new) (sym is) ∙ d.releases.gone)
call_keeps_id id (Begins socket buffers) old new d none deaf there = absurd none
call_keeps_id id Fails old new d none deaf there = tt

-- an id that holds something at the end is kept by each call
pub keeps_id : (id : ℕ) (calls : List HostCall) (old new : EndpointView) → HostRuns calls old new → AllMakeNone calls → IsDeaf old → held_at new id ≢ None → AllKeepId id calls
keeps_id id [] old new r none deaf there = tt
keeps_id id (c ∷ calls) old new r none deaf there =
    let first : MakesNone c = All-head MakesNone c calls none in
    let rest : AllMakeNone calls = All-tail MakesNone c calls none in
    let k : Keeps old r.0 = call_keeps c old r.0 r.1 first deaf in (
      call_keeps_id id c old r.0 r.1 first deaf (λ gone. there (gone_for_good calls r.0 new r.2 rest k.deaf id gone)),
      keeps_id id calls r.0 new r.2 rest k.deaf there,
    )
