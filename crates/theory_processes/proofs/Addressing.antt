-- The link of an id goes to the same address after each call, if the call makes no connection.
use Rattle.std.proofs.Common.{◌≡◌, ◌≢◌, ℕ, List, [], ◌∷◌, Option, None, Some, refl, sym, ◌∙◌, inl, inr, ap, arith}
use Rattle.std.proofs.lemmas.Bool.{cases_eq, cases_lt}
use Rattle.std.proofs.lemmas.List.Elements.{All-head, All-tail}
use Rattle.ipx_wire.specs.declared.address.Address.{Address}
use Rattle.ipx_wire.specs.declared.address.Node.{Node}
use Rattle.ipx_wire.specs.declared.spx.packet.SpxHeader.{SpxHeader}
use Rattle.spx_link.specs.LinkView.{LinkView}
use Rattle.spx_link.specs.Receive.{receive_link}
use Rattle.spx_link.specs.declared.received.Received.{Received}
use Rattle.spx_link.specs.declared.received.Received.TheVariants as Receiveds
use Rattle.spx_messages.specs.Arrives.{Answers}
use Rattle.spx_messages.specs.Changes.{ChangesEnd, SameBut}
use Rattle.spx_messages.specs.EndpointView.{EndpointView, Held, held_at}
use Rattle.spx_messages.specs.Polls.{PollGives, RestsAt, polled_held}
use Rattle.spx_messages.specs.Taking.{take_end}
use Rattle.spx_messages.specs.declared.arrived.Arrived.{Arrived}
use Rattle.spx_messages.specs.declared.arrived.Arrived.TheVariants as Arriveds
use Rattle.spx_theory.specs.Names.{NameLaws, Names, ReadNames}
use Rattle.theory_processes.specs.HostCalls.{AsksAgain, Begins, Closes, Dials, DoesHostCall, Fails, Gives, HandsIn, Hears, HostCall, Paces, Releases, Takes}
use Rattle.theory_processes.specs.Loops.{HostRuns}
use Rattle.theory_processes.proofs.Keeping.{AllMakeNone, IsDeaf, Keeps, MakesNone, call_keeps}
use Rattle.theory_processes.proofs.Taking.{remote_of_take}

-- what an id holds, if anything, goes to this address
abbrev pub GoesTo : EndpointView → ℕ → Address → Type 0
GoesTo e id to = (h : Held) → held_at e id ≡ Some h → h.link.remote ≡ to

pub same_held : (o : Option Held) (h k : Held) → o ≡ Some h → o ≡ Some k → h ≡ k
same_held o h k a b = cc

changes : (old new : EndpointView) (i id : ℕ) (to : Address) (h after : Held) → held_at old i ≡ Some h → ChangesEnd old new i after → after.link.remote ≡ h.link.remote → GoesTo old id to → GoesTo new id to
changes old new i id to h after holds c remote goes k is = elim (cases_eq id i) [
  | inl same ↦
      ap (λ (x : Held). x.link.remote) (same_held (held_at new i) k after (ap (held_at new) (sym same) ∙ is) c.held) ∙ remote
      ∙ goes h (ap (held_at old) same ∙ holds)
  | inr apart ↦ goes k (sym (c.others id apart) ∙ is)
]

same : (old new : EndpointView) (id : ℕ) (to : Address) → SameBut old new → GoesTo old id to → GoesTo new id to
same old new id to s goes k is = goes k (sym (s.held id) ∙ is)

module _ (laws : NameLaws) where
  -- ---- a datagram

  -- a link that reads and does not join keeps all names
  stays : (l : LinkView) (h : SpxHeader) (r : Received) (x : Received × LinkView) → ReadNames l h x → x.0 ≡ r → r ≢ Receiveds.Stranger → r ≢ Receiveds.Joined → x.1.remote ≡ l.remote
  stays l h r x n is read apart = ap (λ (m : Names). m.remote) (n.reads (λ e. apart (sym is ∙ e)) (λ e. read (sym is ∙ e))).1

  reads_remote : (l : LinkView) (h : SpxHeader) (r : Received) (x : Received × LinkView) → ReadNames l h x → x.0 ≡ r → r ≢ Receiveds.Stranger → x.1.remote ≡ l.remote
  reads_remote l h Receiveds.Joined x n is read = ap (λ (m : Names). m.remote) (n.joins is).1
  reads_remote l h Receiveds.Kept x n is read = stays l h Receiveds.Kept x n is read (λ e. cc)
  reads_remote l h Receiveds.Repeat x n is read = stays l h Receiveds.Repeat x n is read (λ e. cc)
  reads_remote l h Receiveds.Ahead x n is read = stays l h Receiveds.Ahead x n is read (λ e. cc)
  reads_remote l h Receiveds.OverAllocation x n is read = stays l h Receiveds.OverAllocation x n is read (λ e. cc)
  reads_remote l h Receiveds.System x n is read = stays l h Receiveds.System x n is read (λ e. cc)
  reads_remote l h Receiveds.PeerEnded x n is read = stays l h Receiveds.PeerEnded x n is read (λ e. cc)
  reads_remote l h Receiveds.Confirmed x n is read = stays l h Receiveds.Confirmed x n is read (λ e. cc)
  reads_remote l h Receiveds.Stranger x n is read = absurd (read refl)

  hears : (old new : EndpointView) (bytes : List ℕ) (now : ℕ) (answer : Arrived) (id : ℕ) (to : Address) → Answers old bytes now answer new → IsDeaf old → GoesTo old id to → GoesTo new id to
  hears old new bytes now (Arriveds.Bad f) id to a deaf goes = same old new id to a.1.same goes
  hears old new bytes now Arriveds.NotOurs id to a deaf goes = same old new id to a.1.same goes
  hears old new bytes now (Arriveds.BadSpx f) id to a deaf goes = same old new id to a.1.same goes
  hears old new bytes now Arriveds.NoListener id to a deaf goes = same old new id to a.1.same goes
  hears old new bytes now Arriveds.NoRoom id to a deaf goes = same old new id to a.1.same goes
  hears old new bytes now Arriveds.Stranger id to a deaf goes = same old new id to a.1.same goes
  hears old new bytes now (Arriveds.Accepted i) id to a deaf goes = absurd (cc (sym a.listens ∙ deaf a.packet.header.to.socket))
  hears old new bytes now (Arriveds.Link i r) id to a deaf goes = elim a [
    | inl again ↦ changes old new i id to again.0.held _ again.0.at again.0.changes refl goes
    | inr read ↦
        changes old new i id to read.held _ read.at read.changes
        (reads_remote read.held.link read.header r (receive_link read.held.link read.header read.body) (laws.reads read.held.link read.header read.body) read.answer read.read) goes
  ]

  -- ---- a poll

  polled : (old new : EndpointView) (now id : ℕ) (to : Address) → RestsAt old new now id → GoesTo old id to → GoesTo new id to
  polled old new now id to r goes = by (held_at old id) refl
    where
      by : (o : Option Held) → held_at old id ≡ o → GoesTo new id to
      by None none k is = absurd (cc (sym (r.none none) ∙ is))
      by (Some h) some k is =
          ap (λ (x : Held). x.link.remote) (same_held (held_at new id) k (polled_held h now) is (r.asked h some).1)
          ∙ ap (λ (m : Names). m.remote) (laws.polls h.link now).keeps ∙ goes h some

  polls : (old new : EndpointView) (now : ℕ) (o : Option (Node × ℕ)) (room written : List ℕ) (id : ℕ) (to : Address) → PollGives old now o room written new → GoesTo old id to → GoesTo new id to
  polls old new now None room written id to g goes = polled old new now id to (g.each id) goes
  polls old new now (Some r) room written id to g goes = elim (cases_lt id g.id) [
    | inl below ↦ polled old new now id to (g.below id below) goes
    | inr past ↦ elim (cases_eq id g.id) [
      | inl here ↦ λ k is.
          ap (λ (x : Held). x.link.remote) (same_held (held_at new id) k (polled_held g.held now) is (ap (held_at new) here ∙ g.becomes))
          ∙ ap (λ (m : Names). m.remote) (laws.polls g.held.link now).keeps ∙ goes g.held (ap (held_at old) here ∙ g.at)
      | inr apart ↦ λ k is. goes k (sym (g.above id (omega (arith, past, apart))) ∙ is)
    ]
  ]

  -- ---- each call

  call_goes : (c : HostCall) (old new : EndpointView) (id : ℕ) (to : Address) → DoesHostCall c old new → MakesNone c → IsDeaf old → GoesTo old id to → GoesTo new id to
  call_goes (Hears source bytes now answer) old new id to d none deaf goes = hears old new bytes now answer id to d.answers deaf goes
  call_goes (Gives now given) old new id to d none deaf goes = polls old new now d.0 d.1 d.2 id to d.3.gives goes
  call_goes (Dials socket at buffers now i) old new id to d none deaf goes = absurd none
  call_goes (HandsIn i m) old new id to d none deaf goes = changes old new i id to d.queues.becomes.held _ d.queues.becomes.holds d.queues.becomes.changes refl goes
  call_goes (Closes i) old new id to d none deaf goes = changes old new i id to d.becomes.held _ d.becomes.holds d.becomes.changes refl goes
  call_goes (Takes i answer) old new id to d none deaf goes = changes old new i id to d.held (take_end d.held).1 d.holds d.changes (remote_of_take d.held) goes
  call_goes (Paces i window manual) old new id to d none deaf goes = changes old new i id to d.held _ d.holds d.changes refl goes
  call_goes (AsksAgain i place) old new id to d none deaf goes = changes old new i id to d.held _ d.holds d.changes refl goes
  call_goes (Releases i) old new id to d none deaf goes = λ k is. elim (cases_eq id i) [
    | inl here ↦ absurd (cc (sym (ap (held_at new) here ∙ d.releases.gone) ∙ is))
    | inr apart ↦ goes k (sym (d.releases.others id apart) ∙ is)
  ]
  call_goes (Begins socket buffers) old new id to d none deaf goes = absurd none
  call_goes Fails old new id to d none deaf goes = same old new id to d goes

  pub goes_on : (calls : List HostCall) (old new : EndpointView) (id : ℕ) (to : Address) → HostRuns calls old new → AllMakeNone calls → IsDeaf old → GoesTo old id to → GoesTo new id to
  goes_on [] old new id to r none deaf goes = λ k is. goes k (sym (ap (λ e. held_at e id) r) ∙ is)
  goes_on (c ∷ calls) old new id to r none deaf goes =
      let first : MakesNone c = All-head MakesNone c calls none in
      let k : Keeps old r.0 = call_keeps c old r.0 r.1 first deaf in
      goes_on calls r.0 new id to r.2 (All-tail MakesNone c calls none) k.deaf (call_goes c old r.0 id to r.1 first deaf goes)
