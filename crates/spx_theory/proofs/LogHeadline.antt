-- The headline in terms of the entries of a log, from its index.
use Rattle.std.proofs.Common.{◌≡◌, ◌<◌, ℕ, List, ◌∷◌, length, sym, ◌∙◌, ap, subst, inl, inr}
use Rattle.spx_theory.specs.Allocation.{PeerlessReadsNothing, IsAllowed, WithinAllocation}
use Rattle.spx_theory.specs.Below.{LawsBelow}
use Rattle.spx_theory.specs.Deeds.{Reached}
use Rattle.spx_theory.specs.Handed.{IsBeginning, handed_in, handed_out}
use Rattle.spx_theory.specs.InStep.{PeersAreInStep}
use Rattle.spx_theory.specs.LogHeadline.{AllowsUnit, LogHeadline}
use Rattle.spx_theory.specs.LogPremises.{IsMadeBy, units_sent}
use Rattle.spx_theory.specs.Note.{Got, Note, SendsAgain, SendsSystem, SendsUnit}
use Rattle.spx_theory.specs.Numbered.{IsNumbered}
use Rattle.spx_theory.specs.Peers.{ArePeersIn, Premises}
use Rattle.spx_theory.specs.Scan.{Mark, Scan, role_of, scan, times, unread}
use Rattle.spx_theory.specs.Scene.{Scene}
use Rattle.spx_theory.specs.SentUnits.{sent_by}
use Rattle.spx_theory.proofs.Growing.{role_stays}
use Rattle.spx_theory.proofs.LogOrigins.{all_sourced, mark_later, numbered_in}
use Rattle.spx_theory.proofs.LogReadings.{sent_all, units_counted}
use Rattle.spx_theory.proofs.LogRoles.{are_once, end_made, numbered_front}
use Rattle.spx_theory.proofs.Numbering.{AllNumbered, are_numbered}
use Rattle.spx_theory.proofs.PremisesRead.{from_peers, to_peers, to_premises}
use Rattle.spx_theory.proofs.Tied.{mark_at}

counted_units : (who : ℕ) (log : List Note) → sent_by who log ≡ units_sent who log
counted_units who log = ap (times who) (sent_all unread log) ∙ units_counted who log

-- an end that made a packet exists
maker_there : (s : Scan) (n : Note) (who origin : ℕ) → IsNumbered s n → IsMadeBy n who origin → who < length s.roles
maker_there s n who origin is made =
    elim made [
      | inl unit ↦ (let i : IsNumbered s (SendsUnit who origin) = subst (IsNumbered s) unit is in i.0)
      | inr others ↦ elim others [
        | inl again ↦ (let i : IsNumbered s (SendsAgain who origin) = subst (IsNumbered s) again is in i.0)
        | inr system ↦ (let i : IsNumbered s (SendsSystem who origin) = subst (IsNumbered s) system is in i.0)
      ]
    ]

allows : (before : List Note) → AllNumbered unread before → (who n : ℕ) → IsAllowed before who n → AllowsUnit before who n
allows before all who n a =
    let mark : Mark = mark_at (scan before).marks a.parcel in
    let read = numbered_in before a.older a.newer (Got who a.parcel) all a.read in
    let there = (mark_later before a.older a.newer (Got who a.parcel) a.parcel a.read read.1).1 in
    let first = maker_there (scan a.past) a.making a.sender mark.origin (numbered_in before a.past a.later a.making all a.made) a.by in
    let last : a.sender < length (scan before).roles = subst (λ xs. a.sender < length (scan xs).roles) (sym a.made) (role_stays a.past (a.making ∷ a.later) a.sender first).within in
    record {
      parcel = a.parcel;
      origin = mark.origin;
      passed = mark.passed;
      sender = a.sender;
      buffers = (role_of (scan before) a.sender).buffers;
      making = a.making;
      older = a.older;
      newer = a.newer;
      past = a.past;
      later = a.later;
      read = a.read;
      comes = all_sourced before all a.parcel there;
      made = a.made;
      by = a.by;
      end = end_made before all a.sender last;
      allows = a.allows;
    }

hands_on : (s : Scene) → PeersAreInStep s → Premises s.log → (c d : ℕ) → ArePeersIn (scan s.log) c d → IsBeginning (handed_out c s.log) (handed_in d s.log)
hands_on s law premises c d peers =
    elim peers [
      | inl called ↦ (law premises c d called).0.prefix
      | inr was ↦ (law premises d c was).1.prefix
    ]

pub headline_of_log : (laws : LawsBelow) → ((s : Scene) → Reached s → PeersAreInStep s) → ((s : Scene) → Reached s → PeerlessReadsNothing s) → ((s : Scene) → Reached s → WithinAllocation s)
    → (s : Scene) → Reached s → LogHeadline s.log
headline_of_log laws steps alone within s reached =
    let all = (are_numbered laws reached).all in
    let once = are_once laws reached in
    record {
      hands_on = λ premises c d peers. hands_on s (steps s reached) (to_premises s.log all once premises) c d (to_peers s.log all once c d peers);
      alone_hands = λ premises who none.
          let x = alone s reached (to_premises s.log all once premises) who (λ d peers. none d (from_peers s.log all who d peers)) in
          (x.0, x.1);
      allowed = λ premises before after who parcel is.
          let front = numbered_front unread before (SendsUnit who parcel ∷ after) (subst (AllNumbered unread) is all) in
          subst (AllowsUnit before who) (counted_units who before)
          (allows before front who (sent_by who before) (within s reached (to_premises s.log all once premises) before after who parcel is));
    }
