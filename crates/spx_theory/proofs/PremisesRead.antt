-- The index of a log says what its entries say.
use Rattle.std.proofs.Common.{◌≡◌, ◌<◌, ℕ, List, ◌∷◌, ◌++◌, length, Some, refl, sym, ◌∙◌, ap, subst, arith, inl, inr, append_assoc}
use Rattle.std.specs.Prelude.{Bool, true, false, Contains, slice_get}
use Rattle.std.proofs.lemmas.List.Elements.{Contains-append_left}
use Rattle.spx_theory.specs.Below.{LawsBelow}
use Rattle.spx_theory.specs.Deeds.{Reached}
use Rattle.spx_theory.specs.EndsSummarized.{PeerIsFound}
use Rattle.spx_theory.specs.LogPremises.{ComesFrom, HavePeer, IsMadeBy, IsSentBy, LogPremises, ReadsNothingInjected, ReadsOwnPeer, ReadsRecent, units_sent}
use Rattle.spx_theory.specs.Note.{Note, Got, Injected}
use Rattle.spx_theory.specs.PremisesRead.{BetweenIsRead, IsMarked, OriginsAreRead, PeersAreRead, PremisesAreRead, packets_read}
use Rattle.spx_theory.specs.Peers.{ArePeersIn, FromOwnPeer, IsFresh, NothingInjected, Premises, end_of, units_between}
use Rattle.spx_theory.specs.Scan.{FromOutside, Mark, Reading, Scan, is_now, role_of, scan, unread}
use Rattle.spx_theory.specs.Scene.{Scene}
use Rattle.spx_theory.proofs.LogOrigins.{all_sourced, comes_marked, contains_at, end_holds, injected_holds, made_makes, mark_later, mark_maker, numbered_in, parts}
use Rattle.spx_theory.proofs.LogReadings.{IsReadAt, after_first, between_counts, comes_later, first_after, joined_split, reading_at, reading_from, reading_there, readings_counted}
use Rattle.spx_theory.proofs.LogRoles.{AllOnce, are_once, connected_joined, end_made, end_there, joined_connected, numbered_front}
use Rattle.spx_theory.proofs.Numbering.{AllNumbered, are_numbered}
use Rattle.spx_theory.proofs.Tied.{mark_at}

to_mark : (log : List Note) → AllNumbered unread log → (origin parcel passed : ℕ) → ComesFrom log origin parcel passed → IsMarked log origin parcel passed
to_mark log all origin parcel passed comes =
    let m = comes_marked log all origin comes in
    record { there = m.there; origin_is = ap (λ (x : Mark). x.origin) m.mark ∙ m.origin_is; passed_is = ap (λ (x : Mark). x.passed) m.mark }

from_mark : (log : List Note) → AllNumbered unread log → (origin parcel passed : ℕ) → IsMarked log origin parcel passed → ComesFrom log origin parcel passed
from_mark log all origin parcel passed is =
    subst (λ o. ComesFrom log o parcel passed) is.origin_is
    (subst (λ p. ComesFrom log (mark_at (scan log).marks parcel).origin parcel p) is.passed_is (all_sourced log all parcel is.there))

pub origins_are_read : (laws : LawsBelow) (s : Scene) → Reached s → OriginsAreRead s
origins_are_read laws s reached =
    let a = are_numbered laws reached in
    record {
      each = λ parcel within.
          let m : Mark = mark_at (scan s.log).marks parcel in
          (m.origin, m.passed, all_sourced s.log a.all parcel (omega (arith, within, a.count)));
      one = λ parcel o o' p p' first other.
          let x = to_mark s.log a.all o parcel p first in
          let y = to_mark s.log a.all o' parcel p' other in
          (sym x.origin_is ∙ y.origin_is, sym x.passed_is ∙ y.passed_is);
      read = λ origin parcel passed. (to_mark s.log a.all origin parcel passed, from_mark s.log a.all origin parcel passed);
    }

pub to_peers : (log : List Note) → AllNumbered unread log → AllOnce unread log → (c d : ℕ) → HavePeer log c d → ArePeersIn (scan log) c d
to_peers log all once c d peers =
    elim peers [
      | inl one ↦ inl (connected_joined log all once c d one)
      | inr two ↦ inr (connected_joined log all once d c two)
    ]

pub from_peers : (log : List Note) → AllNumbered unread log → (c d : ℕ) → ArePeersIn (scan log) c d → HavePeer log c d
from_peers log all c d peers =
    elim peers [
      | inl one ↦ inl (joined_connected log all c d one)
      | inr two ↦ inr (joined_connected log all d c two)
    ]

same_peer : (x y : ℕ) → Some x ≡ Some y → x ≡ y
same_peer x y is = cc is

pub peers_are_read : (laws : LawsBelow) → ((s : Scan) (c d : ℕ) → PeerIsFound s c d) → (s : Scene) → Reached s → PeersAreRead s
peers_are_read laws found s reached =
    let all = (are_numbered laws reached).all in
    let once = are_once laws reached in
    record {
      ends = λ who. (λ e. end_there s.log all who e.0 e.1, λ within. ((role_of (scan s.log) who).buffers, end_made s.log all who within));
      one = λ c d e first other.
          let at = (found (scan s.log) c d).there (to_peers s.log all once c d first) in
          let at' = (found (scan s.log) c e).there (to_peers s.log all once c e other) in
          same_peer d e (sym at ∙ at');
      read = λ c d. (connected_joined s.log all once c d, joined_connected s.log all c d);
    }

pub between_is_read : (laws : LawsBelow) (s : Scene) → Reached s → BetweenIsRead s
between_is_read laws s reached before between after making who parcel origin passed is makes comes =
    let front : List Note = before ++ making ∷ between in
    let count : packets_read front ≡ length (scan front).readings = omega (arith, readings_counted unread front) in (
      reading_at (scan front) who parcel,
      ap (slice_get (scan s.log).readings) count
          ∙ reading_there s.log front after who parcel (joined_split before between after making (Got who parcel) s.log is),
      refl,
      between_counts s.log (are_numbered laws reached).all before between after making who parcel origin passed is makes comes,
    )

-- ---- the premises

module _ (log : List Note) (all : AllNumbered unread log) (once : AllOnce unread log) where
  -- the mark of a packet that is read is that of the parcel at the end
  read_mark : (front after : List Note) (who parcel : ℕ) → log ≡ front ++ Got who parcel ∷ after → (mark_at (scan log).marks parcel ≡ mark_at (scan front).marks parcel) × (parcel < length (scan log).marks)
  read_mark front after who parcel is = mark_later log front after (Got who parcel) parcel is (numbered_in log front after (Got who parcel) all is).1

  front_of : (front after : List Note) (who parcel : ℕ) → log ≡ front ++ Got who parcel ∷ after → (n : Note) → Contains front n → Contains log n
  front_of front after who parcel is n has = subst (λ xs. Contains xs n) (sym is) (Contains-append_left front (Got who parcel ∷ after) n has)

  to_injected : ReadsNothingInjected log → NothingInjected log
  to_injected none k r at outside =
      let g : IsReadAt unread log r = reading_from log k r at in
      let m = read_mark g.before g.after g.who g.parcel g.is in
      let mark : Mark = mark_at (scan log).marks g.parcel in
      let comes = all_sourced log all g.parcel m.1 in
      let maker : mark.maker ≡ FromOutside = ap (λ (x : Mark). x.maker) m.0 ∙ ap (λ (x : Reading). x.maker) (sym g.reading) ∙ outside in
      none g.who g.parcel mark.origin mark.passed (contains_at log g.before g.after (Got g.who g.parcel) g.is) comes (injected_holds log all mark.origin g.parcel mark.passed comes maker)

  from_injected : NothingInjected log → ReadsNothingInjected log
  from_injected none who parcel origin passed got comes injected =
      let g = parts log (Got who parcel) got in
      let i = parts log (Injected origin) injected in
      let m = read_mark g.0 g.1 who parcel g.2 in
      none (length (scan g.0).readings) (reading_at (scan g.0) who parcel) (reading_there log g.0 g.1 who parcel g.2)
      (ap (λ (x : Mark). x.maker) (sym m.0) ∙ mark_maker log all i.0 i.1 (Injected origin) origin parcel passed comes i.2 refl)

  -- the end that made a packet that is read
  made_by_end : (front after : List Note) (who parcel origin passed peer : ℕ) → log ≡ front ++ Got who parcel ∷ after → ComesFrom log origin parcel passed
      → (making : Note) → Contains log making → IsMadeBy making peer origin → end_of (mark_at (scan front).marks parcel).maker ≡ Some peer
  made_by_end front after who parcel origin passed peer is comes making has made =
      let m = read_mark front after who parcel is in
      let p = parts log making has in
      let by = made_makes making peer origin made in
      ap (λ (x : Mark). end_of x.maker) (sym m.0) ∙ ap end_of (mark_maker log all p.0 p.1 making origin parcel passed comes p.2 by.0) ∙ by.1

  to_own : ReadsOwnPeer log → FromOwnPeer log
  to_own own k r at later' =
      let g : IsReadAt unread log r = reading_from log k r at in
      let first : is_now (scan g.before).newest g.who ≡ false = ap (λ (x : Reading). x.first) (sym g.reading) ∙ later' in
      let found = own g.before g.after g.who g.parcel g.is (λ just. absurd (cc (sym first ∙ first_after g.before g.who just))) in
      let sent : IsSentBy log found.0 g.parcel = found.2 in
      let who : g.who ≡ r.who = ap (λ (x : Reading). x.who) (sym g.reading) in (
        found.0,
        subst (λ e. ArePeersIn (scan log) e found.0) who (to_peers log all once g.who found.0 found.1),
        ap (λ (x : Reading). end_of x.maker) g.reading ∙ made_by_end g.before g.after g.who g.parcel sent.origin sent.passed found.0 g.is sent.comes sent.making sent.stands sent.made,
      )

  from_own : FromOwnPeer log → ReadsOwnPeer log
  from_own own before after who parcel is not_just =
      let first : (b : Bool) → is_now (scan before).newest who ≡ b → b ≡ false = (λ b now. by b now) in
      let found = own (length (scan before).readings) (reading_at (scan before) who parcel) (reading_there log before after who parcel is) (first (is_now (scan before).newest who) refl) in
      let m = read_mark before after who parcel is in
      let mark : Mark = mark_at (scan log).marks parcel in
      let comes = all_sourced log all parcel m.1 in
      let stands = end_holds log all mark.origin parcel mark.passed found.0 comes (ap (λ (x : Mark). end_of x.maker) m.0 ∙ found.2) in
      (found.0, from_peers log all who found.0 found.1, record { origin = mark.origin; passed = mark.passed; making = stands.0; comes = comes; stands = stands.1; made = stands.2 })
    where
      by : (b : Bool) → is_now (scan before).newest who ≡ b → b ≡ false
      by true now = absurd (not_just (after_first before who now))
      by false now = refl

  to_recent : ReadsRecent log → IsFresh log
  to_recent recent k r at d peers by =
      let g : IsReadAt unread log r = reading_from log k r at in
      let front : List Note = g.before in
      let all_front = numbered_front unread front (Got g.who g.parcel ∷ g.after) (subst (AllNumbered unread) g.is all) in
      let within = (numbered_in log front g.after (Got g.who g.parcel) all g.is).1 in
      let mark : Mark = mark_at (scan front).marks g.parcel in
      let comes : ComesFrom front mark.origin g.parcel mark.passed = all_sourced front all_front g.parcel within in
      let stands = end_holds front all_front mark.origin g.parcel mark.passed d comes (ap (λ (x : Reading). end_of x.maker) (sym g.reading) ∙ by) in
      let p = parts front stands.0 stands.1 in
      let comes' : ComesFrom log mark.origin g.parcel mark.passed = comes_later log front (front_of front g.after g.who g.parcel g.is) mark.origin comes in
      let is : log ≡ p.0 ++ stands.0 ∷ (p.1 ++ Got g.who g.parcel ∷ g.after) = g.is ∙ ap (λ xs. xs ++ Got g.who g.parcel ∷ g.after) p.2 ∙ append_assoc p.0 (stands.0 ∷ p.1) (Got g.who g.parcel ∷ g.after) in
      let who : r.who ≡ g.who = ap (λ (x : Reading). x.who) g.reading in
      let peers' : HavePeer log g.who d = from_peers log all g.who d (subst (λ e. ArePeersIn (scan log) e d) who peers) in
      let near = recent p.0 p.1 g.after stands.0 g.who d g.parcel mark.origin mark.passed is peers' stands.2 comes' in
      let reading : r ≡ reading_at (scan (p.0 ++ stands.0 ∷ p.1)) g.who g.parcel = g.reading ∙ ap (λ xs. reading_at (scan xs) g.who g.parcel) p.2 in
      let counts : (e : ℕ) → units_between e (scan log).sent r ≡ units_sent e p.1 = λ e.
      ap (units_between e (scan log).sent) reading ∙ between_counts log all p.0 p.1 g.after stands.0 g.who g.parcel mark.origin mark.passed is (made_makes stands.0 d mark.origin stands.2).0 comes' e in
      (subst (λ e. units_between e (scan log).sent r < 32768) (sym who) (omega (arith, counts g.who, near.0)), omega (arith, counts d, near.1))

  from_recent : IsFresh log → ReadsRecent log
  from_recent fresh before between after making who peer parcel origin passed is peers made comes =
      let front : List Note = before ++ making ∷ between in
      let got : log ≡ front ++ Got who parcel ∷ after = joined_split before between after making (Got who parcel) log is in
      let has = contains_at log before (between ++ Got who parcel ∷ after) making is in
      let near = fresh (length (scan front).readings) (reading_at (scan front) who parcel) (reading_there log front after who parcel got) peer
      (to_peers log all once who peer peers) (made_by_end front after who parcel origin passed peer got comes making has made) in
      let counts = between_counts log all before between after making who parcel origin passed is (made_makes making peer origin made).0 comes in
      (omega (arith, counts who, near.0), omega (arith, counts peer, near.1))

  pub to_premises : LogPremises log → Premises log
  to_premises p = record { nothing_injected = to_injected p.nothing_injected; from_own_peer = to_own p.own_peer; fresh = to_recent p.recent }

  from_premises : Premises log → LogPremises log
  from_premises p = record { nothing_injected = from_injected p.nothing_injected; own_peer = from_own p.from_own_peer; recent = from_recent p.fresh }

pub premises_are_read : (laws : LawsBelow) (s : Scene) → Reached s → PremisesAreRead s
premises_are_read laws s reached =
    let all = (are_numbered laws reached).all in
    let once = are_once laws reached in
    record {
      injected = (to_injected s.log all once, from_injected s.log all once);
      own = (to_own s.log all once, from_own s.log all once);
      recent = (to_recent s.log all once, from_recent s.log all once);
      all = (to_premises s.log all once, from_premises s.log all once);
    }
