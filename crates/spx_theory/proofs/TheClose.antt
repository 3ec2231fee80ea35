-- The close: a confirmed end was read to its end, and one that took its peer's end took everything.
use Rattle.std.proofs.Common.{ℕ, zero, suc, ◌+◌, ◌<◌, ◌≡◌, ◌⊎◌, Bool, List, [], ◌∷◌, ◌++◌, length, take, drop, Some, refl, sym, ap, ◌∙◌, subst, inl, inr, arith, length-append, length-drop}
use Rattle.std.specs.Prelude.{slice_get, slice_index_or}
use Rattle.std.proofs.Math.Seq.{take-length}
use Rattle.std.proofs.lemmas.List.{append-nil, length-map}
use Rattle.std.proofs.lemmas.Option.{slice_get_within}
use Rattle.spx_link.specs.declared.unit.Unit.{Unit}
use Rattle.spx_link.specs.Limits.{end_stream}
use Rattle.spx_link.specs.LinkView.{LinkView}
use Rattle.spx_link.specs.Units.{unit_of, queued_units}
use Rattle.spx_link.specs.Machine.{End, AreSound}
use Rattle.spx_theory.proofs.Stepping.{swapped}
use Rattle.spx_messages.specs.Joining.{joined, join_all}
use Rattle.spx_theory.specs.Note.{Note, TakesUnit}
use Rattle.spx_theory.specs.Scan.{Scan, Reading, scan, role_of}
use Rattle.spx_theory.specs.Peers.{AreJoined, ArePeersIn, Premises, FromOwnPeer}
use Rattle.spx_theory.specs.Handed.{handed_in, handed_out, units_of, taken_of}
use Rattle.spx_theory.specs.PairLog.{Pair, new_half}
use Rattle.spx_theory.specs.Tracks.{Formed, Follows}
use Rattle.spx_theory.specs.Scene.{Scene, PresentEnd, IsPresent}
use Rattle.spx_theory.specs.Deeds.{Reached}
use Rattle.spx_theory.specs.InStep.{pair_in, PeersFollow}
use Rattle.spx_theory.specs.Close.{HoldsAll, IsEndInMachine, ConfirmedIsRead, AcknowledgedIsRead, EndTakenIsWhole}
use Rattle.spx_theory.proofs.Lists.{get_before}
use Rattle.spx_theory.proofs.Speaking.{eqb_same}
use Rattle.spx_theory.proofs.Gathering.{both_counted}
use Rattle.spx_theory.proofs.PairPremises.{to_pair}
use Rattle.spx_theory.proofs.Telling.{AreOk, Said}
use Rattle.spx_theory.proofs.Ranges.{in_range}
use Rattle.spx_theory.proofs.Along.{held_along, joined_differ}
use Rattle.spx_theory.specs.Confirmed.{HasAllAcknowledged}
use Rattle.spx_theory.proofs.WholeUnits.{whole_joined, joined_on, taken_there}
use Rattle.spx_theory.proofs.Heard.{HasRead, heard_along}
use Rattle.spx_theory.specs.Below.{LawsBelow}

-- an end c with its end x of the machine, and its peer d with y
pub record Beside (s : Scene) (c d : ℕ) (x y : End) : Type 0 where
  pub link : (e : PresentEnd) (l : LinkView) → IsPresent s c e l → Follows l x y
  pub line : AreSound x y
  pub formed : (closed : Bool) × Formed x.units closed
  pub units : x.units ≡ units_of c s.log
  pub taken : length (taken_of c s.log) ≡ x.taken
  pub said : Said c d s

pub record Peering (s : Scene) (c d : ℕ) (x y : End) : Type 0 where
  pub ok : AreOk s.log
  pub one : Beside s c d x y
  pub two : Beside s d c y x

turned_peering : (s : Scene) (c d : ℕ) (x y : End) → Peering s c d x y → Peering s d c y x
turned_peering s c d x y p = record { ok = p.ok; one = p.two; two = p.one }

joined_peering : (laws : LawsBelow) (s : Scene) → Reached s → Premises s.log → (c d : ℕ) → AreJoined (scan s.log) c d
    → Peering s c d (pair_in s c d).one.end (pair_in s c d).two.end
joined_peering laws s reached premises c d j =
    let a : ℕ = (role_of (scan s.log) c).buffers in
    let b : ℕ = (role_of (scan s.log) d).buffers in
    let all = held_along laws c d a b (joined_differ (scan s.log) c d j) (in_range reached c) (in_range reached d) reached (to_pair s.log c d premises j) in
    let w = all.0.whole in
    let p : Pair = pair_in s c d in
    let both = both_counted s.parcels c d (record { one = new_half a; two = new_half b }) s.log in
    record {
      ok = all.1.ok;
      one = record {
        link = λ e l stands. w.one.link e l stands.there stands.link;
        line = w.sound;
        formed = w.one.formed;
        units = both.0.units;
        taken = omega (arith, both.0.taken);
        said = all.1.one;
      };
      two = record {
        link = λ e l stands. w.two.link e l stands.there stands.link;
        line = (swapped p.one.end p.two.end w.sound);
        formed = w.two.formed;
        units = both.1.units;
        taken = omega (arith, both.1.taken);
        said = all.1.two;
      };
    }

pub peers_follow : (laws : LawsBelow) (s : Scene) → Reached s → PeersFollow s
peers_follow laws s reached premises c d j =
    let p = joined_peering laws s reached premises c d j in
    record { first = p.one.link; second = p.two.link; line = p.one.line; units = p.one.units; units_back = p.two.units; taken = p.one.taken; taken_back = p.two.taken }

-- the ends of the machine of an end and its peer, whichever dialled
pub record Met (s : Scene) (c d : ℕ) : Type 0 where
  pub one : End
  pub two : End
  pub is : IsEndInMachine s d c two
  pub peering : Peering s c d one two

met : (laws : LawsBelow) (s : Scene) → Reached s → Premises s.log → (c d : ℕ) → ArePeersIn (scan s.log) c d → Met s c d
met laws s reached premises c d (inl j) =
    record { one = (pair_in s c d).one.end; two = (pair_in s c d).two.end; is = inl (j, refl); peering = joined_peering laws s reached premises c d j }
met laws s reached premises c d (inr j) =
    record {
      one = (pair_in s d c).two.end;
      two = (pair_in s d c).one.end;
      is = inr (j, refl);
      peering = turned_peering s d c (pair_in s d c).one.end (pair_in s d c).two.end (joined_peering laws s reached premises d c j);
    }

-- an end that read more than the packet that made or joined it has a peer
pub record HasPeer (s : Scene) (c : ℕ) : Type 0 where
  pub other : ℕ
  pub peers : ArePeersIn (scan s.log) c other

reader_peer : (s : Scene) → FromOwnPeer s.log → (c : ℕ) → HasRead (scan s.log).readings c → HasPeer s c
reader_peer s own c h =
    let found = own h.place h.reading h.there h.later in
    record { other = found.0; peers = subst (λ k. ArePeersIn (scan s.log) k found.0) h.own found.1 }

-- ---- if everything is read, what is taken and held is everything
holds_all : (s : Scene) (c d : ℕ) (x y : End) → Peering s c d x y → y.read ≡ length x.units → HoldsAll s c d
holds_all s c d x y p all e l stands =
    let f = p.two.link e l stands in
    let us : List Unit = units_of c s.log in
    let ts : List Unit = taken_of d s.log in
    let said = p.two.said in
    let held : l.held ≡ drop (length ts) us =
    f.tracks.held ∙ (ap (λ n. drop y.taken (take n x.units)) all ∙ (ap (drop y.taken) (take-length x.units) ∙ (ap (λ n. drop n x.units) (sym p.two.taken) ∙ ap (drop (length ts)) p.one.units))) in
    let parts : ts ++ l.held ≡ us = ap (λ vs. ts ++ vs) held ∙ behind_first ts said.begins.0 us said.begins.1 in
    let messages = joined_on ts l.held e.rest ((said.rest e stands.there).0 (λ gone. absurd (cc (sym gone ∙ stands.link)))) in
    sym (whole_joined c s.log p.ok) ∙ (ap (λ vs. (joined vs).messages) (sym parts) ∙ (messages ∙ ap (λ ms. ms ++ (join_all (record { messages = []; rest = e.rest }) l.held).messages) (sym said.handed)))
  where
    past_front : (xs zs : List Unit) → drop (length xs) (xs ++ zs) ≡ zs
    past_front [] zs = refl
    past_front (v ∷ xs) zs = past_front xs zs

    behind_first : (xs zs vs : List Unit) → xs ++ zs ≡ vs → xs ++ drop (length xs) vs ≡ vs
    behind_first xs zs vs is = ap (λ ws. xs ++ drop (length xs) ws) (sym is) ∙ (ap (λ ws. xs ++ ws) (past_front xs zs) ∙ is)

-- the queue is empty: everything was acknowledged, so everything was read
all_read : (l : LinkView) (x y : End) → Follows l x y → AreSound x y → HasAllAcknowledged l → y.read ≡ length x.units
all_read l x y f line done =
    let none : length (queued_units l) ≡ 0 = length-map l.queue unit_of ∙ done.1 in
    let left : length (drop x.base x.units) ≡ 0 = ap length (sym f.tracks.queue) ∙ none in
    omega (arith, left, length-drop x.base x.units, line.there.base, line.there.read, line.within.sent)

-- if an end is queued and its queue is empty, a peer read it to its end
pub acknowledged_end_is_read : (laws : LawsBelow) (s : Scene) → Reached s → AcknowledgedIsRead s
acknowledged_end_is_read laws s reached premises c e l stands queued empty =
    let ok = (heard_along laws reached).links c e l stands in
    let done : HasAllAcknowledged l = (queued, ap length empty) in
    let read : HasRead (scan s.log).readings c = elim ok.read [ inl h ↦ h | inr none ↦ absurd (none.1 done.0 done.1) ] in
    let peer : HasPeer s c = reader_peer s premises.from_own_peer c read in
    let m : Met s c peer.other = met laws s reached premises c peer.other peer.peers in
    let p : Peering s c peer.other m.one m.two = m.peering in
    let all : m.two.read ≡ length m.one.units = all_read l m.one m.two (p.one.link e l stands) p.one.line done in (
      peer.other,
      m.two,
      m.is,
      record { peers = peer.peers; asked = ok.asked done.0; all = all ∙ ap length p.one.units; holds = holds_all s c peer.other m.one m.two p all },
    )

pub confirmed_is_read : (laws : LawsBelow) (s : Scene) → Reached s → ConfirmedIsRead s
confirmed_is_read laws s reached premises c e l stands confirmed =
    let done : HasAllAcknowledged l = ((heard_along laws reached).links c e l stands).right confirmed in
    acknowledged_end_is_read laws s reached premises c e l stands done.0 (none_left l.queue done.1)
  where
    none_left : {A : Type 0} (xs : List A) → length xs ≡ 0 → xs ≡ []
    none_left [] none = refl
    none_left (x ∷ xs) none = absurd (cc none)

-- ---- a unit of stream FE was taken
found : (log : List Note) (n : Note) (k : ℕ) → k < length log → slice_index_or log k n ≡ n → slice_get log k ≡ Some n
found [] n k within is = absurd (omega (arith, within))
found (m ∷ ms) n zero within is = ap Some is
found (m ∷ ms) n (suc k) within is = found ms n k (omega (arith, within)) is

none_behind : (xs zs : List Unit) (j : ℕ) → length (xs ++ zs) ≡ j + 1 → j < length xs → zs ≡ []
none_behind xs [] j all within = refl
none_behind xs (z ∷ zs) j all within = absurd (omega (arith, length-append xs (z ∷ zs), all, within))

-- an end that took the end of its peer took everything, and all messages are complete
takes_whole : (s : Scene) (d c : ℕ) (x y : End) → Peering s d c x y → (j : ℕ) (u : Unit) → slice_get (taken_of d s.log) j ≡ Some u → u.stream ≡ end_stream → handed_out d s.log ≡ handed_in c s.log
takes_whole s d c x y p j u there is =
    let ts : List Unit = taken_of d s.log in
    let us : List Unit = units_of c s.log in
    let said = p.one.said in
    let front : slice_get us j ≡ Some u = ap (λ vs. slice_get vs j) (sym said.begins.1) ∙ get_before ts said.begins.0 u j there in
    let at : slice_get y.units j ≡ Some u = ap (λ vs. slice_get vs j) p.two.units ∙ front in
    let last : length y.units ≡ j + 1 = (p.two.formed.1.end j u at is).1 in
    let all : length (ts ++ said.begins.0) ≡ j + 1 = ap length said.begins.1 ∙ (ap length (sym p.two.units) ∙ last) in
    let none : said.begins.0 ≡ [] = none_behind ts said.begins.0 j all (slice_get_within ts j u there) in
    let whole : ts ≡ us = sym (append-nil ts) ∙ (ap (λ vs. ts ++ vs) (sym none) ∙ said.begins.1) in
    said.handed ∙ (ap (λ vs. (joined vs).messages) whole ∙ whole_joined c s.log p.ok)

other_way : (t : Scan) (c d : ℕ) → ArePeersIn t c d → ArePeersIn t d c
other_way t c d (inl j) = inr j
other_way t c d (inr j) = inl j

taker_read : (readings : List Reading) (d j : ℕ) (u : Unit) (us : List Unit) → slice_get us j ≡ Some u → HasRead readings d ⊎ (us ≡ []) → HasRead readings d
taker_read readings d j u us at (inl h) = h
taker_read readings d j u us at (inr none) = absurd (cc (none, at))

pub end_taken_is_whole : (laws : LawsBelow) (s : Scene) → Reached s → EndTakenIsWhole s
end_taken_is_whole laws s reached premises d u has is =
    let t = taken_there d u s.log has.0 (eqb_same d) (found s.log (TakesUnit d u) has.0 has.1 has.2) in
    let read : HasRead (scan s.log).readings d = taker_read (scan s.log).readings d t.0 u (taken_of d s.log) t.1 ((heard_along laws reached).took d) in
    let peer : HasPeer s d = reader_peer s premises.from_own_peer d read in
    let m : Met s d peer.other = met laws s reached premises d peer.other peer.peers in
    (peer.other, other_way (scan s.log) d peer.other peer.peers, takes_whole s d peer.other m.one m.two m.peering t.0 u t.1 is)
