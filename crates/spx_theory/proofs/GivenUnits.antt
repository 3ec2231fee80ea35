-- An entry of a sent unit was made by an end that was polled and gave that unit, in a scene whose log ended
-- there.
use Rattle.std.proofs.Common.{◌≡◌, ℕ, List, [], ◌∷◌, ◌++◌, length, refl, sym, ◌∙◌, inl, inr, ap, subst, arith, length-append}
use Rattle.std.proofs.lemmas.List.{append-nil}
use Rattle.ipx_wire.specs.declared.address.Network.{Network}
use Rattle.spx_link.specs.declared.outgoing.Sent.{Sent}
use Rattle.spx_link.specs.declared.received.Received.{Received}
use Rattle.spx_link.specs.Receive.{receive_link}
use Rattle.spx_messages.specs.Message.{MessageView}
use Rattle.spx_theory.specs.Note.{Note, SendsUnit}
use Rattle.spx_theory.specs.Scene.{Scene}
use Rattle.spx_theory.specs.Deeds.{Deed, DoesDeed, DoesGive, Dials, Accepts, Reads, OwesReply, Paces, AsksAgain, Gives, Rests, Sends, Takes, Overruns, Closes, Releases, Carries, Tells, Injects, Reached, begun, happened}
use Rattle.spx_theory.specs.PacketsOnWay.{note_of, notes_of, out_notes}
use Rattle.spx_theory.proofs.Growing.{splits}
use Rattle.spx_link.specs.declared.outgoing.Sent.TheVariants as Sents
use Rattle.spx_link.specs.declared.received.Received.TheVariants as R
use Rattle.spx_theory.proofs.Fields.{log_of}

pub record GaveUnit (log before : List Note) (who : ℕ) : Type 0 where
  pub old : Scene
  pub new : Scene
  pub now : ℕ
  pub segment : Network
  pub bytes : List ℕ
  pub reached : Reached old
  pub does : DoesGive who now segment bytes old new
  pub what : does.given.what ≡ Sents.Unit
  pub log_is : before ≡ old.log
  pub later : List Note
  pub whole : log ≡ before ++ later

abbrev NoUnit : Note → Type 0
NoUnit (SendsUnit who parcel) = ⊥
NoUnit n = Unit {0}

abbrev NoUnits : List Note → Type 0
NoUnits [] = Unit {0}
NoUnits (n ∷ ns) = NoUnit n × NoUnits ns

none_there : (ns pre after : List Note) (who parcel : ℕ) → NoUnits ns → ns ≡ pre ++ SendsUnit who parcel ∷ after → ⊥
none_there [] pre after who parcel free is = absurd (omega (arith, ap length is, length-append pre (SendsUnit who parcel ∷ after)))
none_there (n ∷ ns) [] after who parcel free is = let same : n ≡ SendsUnit who parcel = cc is in subst NoUnit same free.0
none_there (n ∷ ns) (m ∷ pre) after who parcel free is = let rest : ns ≡ pre ++ SendsUnit who parcel ∷ after = cc is in none_there ns pre after who parcel free.1 rest

read_none : (r : Received) (who k : ℕ) → NoUnits (notes_of r who k)
read_none R.Joined who k = (tt, (tt, tt))
read_none R.Kept who k = (tt, tt)
read_none R.Repeat who k = (tt, tt)
read_none R.Ahead who k = (tt, tt)
read_none R.OverAllocation who k = (tt, tt)
read_none R.System who k = (tt, tt)
read_none R.PeerEnded who k = (tt, tt)
read_none R.Confirmed who k = (tt, tt)
read_none R.Stranger who k = tt

outs_none : (who : ℕ) (ms : List MessageView) → NoUnits (out_notes who ms)
outs_none who [] = tt
outs_none who (m ∷ ms) = (tt, outs_none who ms)

unit_given : (what : Sent) (who k who' parcel : ℕ) → note_of what who k ≡ SendsUnit who' parcel → (what ≡ Sents.Unit) × (who ≡ who')
unit_given Sents.Unit who k who' parcel is = (refl, cc is)
unit_given Sents.Request who k who' parcel is = absurd (cc is)
unit_given Sents.Reply who k who' parcel is = absurd (cc is)
unit_given Sents.Confirm who k who' parcel is = absurd (cc is)
unit_given Sents.Again who k who' parcel is = absurd (cc is)
unit_given Sents.Ack who k who' parcel is = absurd (cc is)
unit_given Sents.Probe who k who' parcel is = absurd (cc is)

one_note : (n x : Note) (pre after : List Note) → n ∷ [] ≡ pre ++ x ∷ after → (pre ≡ []) × (n ≡ x)
one_note n x [] after is = (refl, cc is)
one_note n x (m ∷ pre) after is = let rest : [] ≡ pre ++ x ∷ after = cc is in absurd (omega (arith, ap length rest, length-append pre (x ∷ after)))

-- the last deed, if it may be the one
abbrev IsLast : (s s' : Scene) → List Note → List Note → ℕ → ℕ → Type 0
IsLast s s' ns after who parcel =
    (pre : List Note) → ns ≡ pre ++ SendsUnit who parcel ∷ after → Reached s → GaveUnit s'.log (s.log ++ pre) who

nothing : (s s' : Scene) (ns after : List Note) (who parcel : ℕ) → NoUnits ns → IsLast s s' ns after who parcel
nothing s s' ns after who parcel free pre is reached = absurd (none_there ns pre after who parcel free is)

record Last (s s' : Scene) (after : List Note) (who parcel : ℕ) : Type 0 where
  pub ns : List Note
  pub log : s'.log ≡ s.log ++ ns
  pub is : IsLast s s' ns after who parcel

silent : (s s' : Scene) (after : List Note) (who parcel : ℕ) → s'.log ≡ s.log → Last s s' after who parcel
silent s s' after who parcel is = record { ns = []; log = is ∙ sym (append-nil s.log); is = nothing s s' [] after who parcel tt }

with_notes : (s s' : Scene) (ns after : List Note) (who parcel : ℕ) → s'.log ≡ s.log ++ ns → NoUnits ns → Last s s' after who parcel
with_notes s s' ns after who parcel is free = record { ns = ns; log = is; is = nothing s s' ns after who parcel free }

last : (s s' : Scene) (deed : Deed) (after : List Note) (who parcel : ℕ) → DoesDeed deed s s' → Last s s' after who parcel
last s s' (Dials host id socket to buffers now) after who parcel does = with_notes s s' _ after who parcel (ap log_of does.after) (tt, tt)
last s s' (Accepts host id socket k buffers now) after who parcel does = with_notes s s' _ after who parcel (ap log_of does.after) (tt, (tt, tt))
last s s' (Reads e k) after who parcel does = with_notes s s' _ after who parcel (ap log_of does.after) (read_none (receive_link does.link does.header does.body).0 e k)
last s s' (OwesReply e) after who parcel does = silent s s' after who parcel (ap log_of does.after)
last s s' (Paces e window manual) after who parcel does = silent s s' after who parcel (ap log_of does.after)
last s s' (AsksAgain e place) after who parcel does = silent s s' after who parcel (ap log_of does.after)
last s s' (Gives e now segment bytes) after who parcel does =
    let n : Note = note_of does.given.what e (length s.parcels) in
    let grows : s'.log ≡ s.log ++ n ∷ [] = ap log_of does.after in
    record {
      ns = n ∷ [];
      log = grows;
      is = λ pre is reached.
          let one = one_note n (SendsUnit who parcel) pre after is in
          let given = unit_given does.given.what e (length s.parcels) who parcel one.1 in
          let log : s.log ++ pre ≡ s.log = ap (λ xs. s.log ++ xs) one.0 ∙ append-nil s.log in
          subst (GaveUnit s'.log (s.log ++ pre)) given.1
          (record { old = s; new = s'; now = now; segment = segment; bytes = bytes; reached = reached; does = does; what = given.0; log_is = log; later = n ∷ []; whole = grows ∙ ap (λ xs. xs ++ n ∷ []) (sym log) });
    }
last s s' (Rests e now) after who parcel does = silent s s' after who parcel (ap log_of does.after)
last s s' (Sends e m) after who parcel does = with_notes s s' _ after who parcel (ap log_of does.after) (tt, tt)
last s s' (Takes e u) after who parcel does = with_notes s s' _ after who parcel (ap log_of does.after) (tt, outs_none e does.joins.messages)
last s s' (Overruns e u) after who parcel does = silent s s' after who parcel (ap log_of does.after)
last s s' (Closes e) after who parcel does = with_notes s s' _ after who parcel (ap log_of does.after) (tt, tt)
last s s' (Releases e) after who parcel does = with_notes s s' _ after who parcel (ap log_of does.after) (tt, tt)
last s s' (Carries from network segment bytes) after who parcel does = with_notes s s' _ after who parcel (ap log_of does.after) (tt, tt)
last s s' (Tells router segment bytes) after who parcel does = with_notes s s' _ after who parcel (ap log_of does.after) (tt, tt)
last s s' (Injects segment bytes) after who parcel does = with_notes s s' _ after who parcel (ap log_of does) (tt, tt)

pub cut : {s : Scene} → Reached s → (before after : List Note) (who parcel : ℕ) → s.log ≡ before ++ SendsUnit who parcel ∷ after → GaveUnit s.log before who
cut {s} (begun b) before after who parcel is = absurd (omega (arith, ap length is, ap length b.log, length-append before (SendsUnit who parcel ∷ after)))
cut {s} (happened old deed reached does) before after who parcel is =
    let l = last old s deed after who parcel does in
    elim (splits old.log l.ns before after (SendsUnit who parcel) (sym l.log ∙ is)) [
      | inl in' ↦
          let g = cut reached before in'.0 who parcel in'.1 in
          record {
            old = g.old;
            new = g.new;
            now = g.now;
            segment = g.segment;
            bytes = g.bytes;
            reached = g.reached;
            does = g.does;
            what = g.what;
            log_is = g.log_is;
            later = SendsUnit who parcel ∷ after;
            whole = is;
          }
      | inr out ↦ subst (λ xs. GaveUnit s.log xs who) (sym out.1) (l.is out.0 out.2 reached)
    ]
