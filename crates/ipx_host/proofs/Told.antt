-- When the pacer of a connection is told nothing.
use Rattle.std.proofs.Common.{◌≡◌, ◌∙◌, ℕ, List, Option, None, Some, Result, Ok, Err, IfSome, refl, sym, ap, subst}
use Rattle.std.specs.Prelude.{unwrap_or}
use Rattle.ipx_wire.specs.Ipx.{BeginsWith, PacketView}
use Rattle.ipx_wire.specs.Spx.{IsSpx}
use Rattle.ipx_wire.specs.declared.spx.packet.SpxHeader.{SpxHeader}
use Rattle.spx_link.specs.LinkView.{numbers_of}
use Rattle.spx_link.specs.declared.numbers.Numbers.{Numbers}
use Rattle.spx_link.specs.declared.outgoing.Sent.{Sent}
use Rattle.spx_link.specs.declared.received.Received.{Received}
use Rattle.spx_link.specs.declared.received.Received.TheVariants.{Stranger}
use Rattle.spx_messages.specs.EndpointView.{EndpointView, Held}
use Rattle.spx_messages.specs.declared.arrived.Arrived.{Arrived}
use Rattle.spx_messages.specs.declared.arrived.Arrived.TheVariants.{Link}
use Rattle.spx_messages.specs.declared.fault.EndFault.{EndFault}
use Rattle.spx_congestion.specs.Giving.{gave_of}
use Rattle.spx_congestion.specs.Pacing.{PacerView, credit_after, given_by, with_outstanding}
use Rattle.spx_congestion.specs.declared.sent_kind.SentKind.{SentKind}
use Rattle.ipx_host.specs.Paced.{IsToldOf, LinkReads, NotesGiven, NotesHeard, PlansLink}

-- if no numbers of a link are given, it is not there
pub absent : (there : Option Held) (told : Result Numbers EndFault) (fault : EndFault)
    → IfSome there (λ h. told ≡ Ok (numbers_of h.link)) → told ≡ Err fault → there ≡ None
absent None told fault known is = refl
absent (Some h) told fault known is = absurd (cc)

-- what is not there is not planned for
pub plans_none : (id now : ℕ) (pacer : PacerView) (there : Option Held) (e : EndpointView) → there ≡ None → PlansLink id now pacer pacer there e e
plans_none id now pacer there e is = subst (λ h. PlansLink id now pacer pacer h e e) (sym is) (refl, refl)

-- nothing was given
pub given_none : (id : ℕ) (said : Option (ℕ × Sent)) (bytes : List ℕ) (there : Option Held) (now : ℕ) (pacer : PacerView) → said ≡ None → NotesGiven id said bytes there now pacer pacer
given_none id said bytes there now pacer is = subst (λ s. NotesGiven id s bytes there now pacer pacer) (sym is) refl

-- the link is not there any more
given_without : (id : ℕ) (said : Option (ℕ × Sent)) (bytes : List ℕ) (now : ℕ) (pacer : PacerView) → NotesGiven id said bytes None now pacer pacer
given_without id None bytes now pacer = refl
given_without id (Some given) bytes now pacer = refl

pub given_gone : (id : ℕ) (said : Option (ℕ × Sent)) (bytes : List ℕ) (there : Option Held) (now : ℕ) (pacer : PacerView) → there ≡ None → NotesGiven id said bytes there now pacer pacer
given_gone id said bytes there now pacer is = subst (λ h. NotesGiven id said bytes h now pacer pacer) (sym is) (given_without id said bytes now pacer)

-- another link gave it
given_beside : (id other : ℕ) (what : Sent) (bytes : List ℕ) (there : Option Held) (now : ℕ) (pacer : PacerView) → (other ≡ id → ⊥)
    → NotesGiven id (Some (other, what)) bytes there now pacer pacer
given_beside id other what bytes None now pacer not = refl
given_beside id other what bytes (Some h) now pacer not = (λ is. absurd (not is), λ _. refl)

pub given_other : (id other : ℕ) (what : Sent) (said : Option (ℕ × Sent)) (bytes : List ℕ) (there : Option Held) (now : ℕ) (pacer : PacerView) → said ≡ Some (other, what)
    → (other ≡ id → ⊥) → NotesGiven id said bytes there now pacer pacer
given_other id other what said bytes there now pacer is not =
    subst (λ s. NotesGiven id s bytes there now pacer pacer) (sym is) (given_beside id other what bytes there now pacer not)

-- its own link gave it, and is there
pub given_here : (id other : ℕ) (what : Sent) (said : Option (ℕ × Sent)) (bytes : List ℕ) (there : Option Held) (now : ℕ)
    (pacer pacer' : PacerView) (told : Result Numbers EndFault) (fault : EndFault) (n : Numbers) (found : Option ℕ) (stream : ℕ) (kind : SentKind)
    → said ≡ Some (other, what) → other ≡ id → (there ≡ None → told ≡ Err fault)
    → IfSome there (λ h. told ≡ Ok (numbers_of h.link)) → told ≡ Ok n
    → ((p : PacketView) (h : SpxHeader) (body : List ℕ) → BeginsWith bytes p → IsSpx h body p.body → found ≡ Some h.stream)
    → stream ≡ unwrap_or found 0 → kind ≡ gave_of what stream → pacer' ≡ given_by (with_outstanding pacer n.out now) kind now
    → pacer'.out ≡ n.out → pacer'.credit ≡ credit_after pacer.credit kind → NotesGiven id said bytes there now pacer pacer'
given_here id other what said bytes None now pacer pacer' told fault n found stream kind is same gone known has reads from of value counts credit =
    let no : told ≡ Err fault = gone refl in absurd (cc)
given_here id other what said bytes (Some h) now pacer pacer' told fault n found stream kind is same gone known has reads from of value counts credit =
    let they : n ≡ numbers_of h.link = (cc) in
    let out : n.out ≡ h.link.out = ap (λ (k : Numbers). k.out) they in
    subst (λ s. NotesGiven id s bytes (Some h) now pacer pacer') (sym is) (
      λ _. record {
        stream = stream;
        reads = λ p k body begins spx. from ∙ ap (λ (f : Option ℕ). unwrap_or f 0) (reads p k body begins spx);
        value = subst (λ o. pacer' ≡ given_by (with_outstanding pacer o now) (gave_of what stream) now) out
            (subst (λ k. pacer' ≡ given_by (with_outstanding pacer n.out now) k now) of value);
        counts = counts ∙ out;
        credit = subst (λ k. pacer'.credit ≡ credit_after pacer.credit k) of credit;
      },
      λ not. absurd (not same),
    )

-- it was for no link, for another one, or from an unknown sender
pub read_none : (id : ℕ) (arrived : Arrived) → ((x : ℕ) (r : Received) → arrived ≡ Link x r → ⊥) → LinkReads id arrived → ⊥
read_none id arrived none (received, is, known) = none id received is

pub read_other : (id other : ℕ) (r : Received) (arrived : Arrived) → arrived ≡ Link other r → (other ≡ id → ⊥) → LinkReads id arrived → ⊥
read_other id other r arrived said not (received, is, known) = not (cc)

pub read_unknown_sender : (id other : ℕ) (r : Received) (arrived : Arrived) → arrived ≡ Link other r → r ≡ Stranger → LinkReads id arrived → ⊥
read_unknown_sender id other r arrived said unknown (received, is, known) = known (cc)

pub unread : (id : ℕ) (arrived : Arrived) (before : Option Numbers) (now : ℕ) (pacer : PacerView) (there : Option Held) → (LinkReads id arrived → ⊥)
    → NotesHeard id arrived before now pacer pacer there
unread id arrived before now pacer there not = record { counts = λ read. absurd (not read); hears = λ received is known. absurd (not (received, is, known)); stays = λ _. refl }

-- its link is not there any more
pub heard_gone : (id : ℕ) (arrived : Arrived) (before : Option Numbers) (now : ℕ) (pacer : PacerView) (there : Option Held) → there ≡ None → NotesHeard id arrived before now pacer pacer there
heard_gone id arrived before now pacer there is = record {
  counts = λ read. subst (λ h. IfSome h (λ k. pacer.out ≡ k.link.out)) (sym is) tt;
  hears = λ received said known. subst (λ h. IfSome h (λ k. IsToldOf received pacer (unwrap_or before (numbers_of k.link)) (numbers_of k.link) now pacer)) (sym is) tt;
  stays = λ _. refl;
}
