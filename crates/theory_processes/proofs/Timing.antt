-- Courses by one clock: what is read was made at most a second before, and so few units were sent since.
use Rattle.std.proofs.Common.{◌≡◌, ◌<◌, ◌≤◌, ◌+◌, ◌==◌, ◌⊎◌, ℕ, zero, suc, Bool, true, false, List, [], ◌∷◌, ◌++◌, length, drop, take, Option, None, Some, refl, sym, ◌∙◌, inl, inr, ap, subst, arith, length-append}
use Rattle.std.specs.Prelude.{if◌then◌else◌, slice_get, slice_index_or}
use Rattle.std.proofs.lemmas.Bool.{le-leb}
use Rattle.std.proofs.lemmas.Bool.Decides.{Decides-eqb}
use Rattle.std.proofs.lemmas.List.{append-nil, append_assoc, take-append-le}
use Rattle.spx_link.specs.declared.outgoing.Sent.{Sent}
use Rattle.spx_link.specs.declared.outgoing.Sent.TheVariants as Sents
use Rattle.spx_theory.specs.Handed.{gathered}
use Rattle.spx_theory.specs.Note.{Note, Opened, Accepted, Joined, HandsIn, HandsOut, TakesUnit, AsksEnd, Got, Released, SendsUnit, SendsAgain, SendsSystem, Told, Carried, Injected}
use Rattle.spx_theory.specs.PacketsOnWay.{note_of}
use Rattle.spx_theory.specs.Scan.{ByRouter, ByUnit, BySystem, FromOutside, Maker, Mark, Reading, Scan, is_now, mark_of, marked, nowhere, one_further, seen, seen_all, times}
use Rattle.theory_processes.specs.Shows.{AreParcels, IsParcel, sent_in}
use Rattle.theory_processes.specs.Site.{Connection, Datagram}
use Rattle.theory_processes.specs.Timely.{NewUnit, is_unit_within, unit_said, units_within}
use Rattle.spx_theory.specs.Scene.{Scene}
use Rattle.theory_processes.proofs.Lists.{get_last}
use Rattle.theory_processes.proofs.Saying.{AreAll, IsConnectionAt, got_of, unit_of}

-- ---- the index of a log that grows

pub seen_more : (s : Scan) (xs ys : List Note) → seen_all s (xs ++ ys) ≡ seen_all (seen_all s xs) ys
seen_more s [] ys = refl
seen_more s (x ∷ xs) ys = seen_more (seen s x) xs ys

note_sent : (s : Scan) (n : Note) → (seen s n).sent ≡ s.sent ++ unit_of n
note_sent s (Opened who host buffers) = sym (append-nil s.sent)
note_sent s (Accepted who parcel buffers) = sym (append-nil s.sent)
note_sent s (Joined who parcel) = sym (append-nil s.sent)
note_sent s (HandsIn who m) = sym (append-nil s.sent)
note_sent s (HandsOut who m) = sym (append-nil s.sent)
note_sent s (TakesUnit who u) = sym (append-nil s.sent)
note_sent s (AsksEnd who) = sym (append-nil s.sent)
note_sent s (Got who parcel) = sym (append-nil s.sent)
note_sent s (Released who) = sym (append-nil s.sent)
note_sent s (SendsUnit who parcel) = refl
note_sent s (SendsAgain who parcel) = sym (append-nil s.sent)
note_sent s (SendsSystem who parcel) = sym (append-nil s.sent)
note_sent s (Told router parcel) = sym (append-nil s.sent)
note_sent s (Carried from parcel) = sym (append-nil s.sent)
note_sent s (Injected parcel) = sym (append-nil s.sent)

pub sent_grows : (ns : List Note) (s : Scan) → (seen_all s ns).sent ≡ s.sent ++ gathered unit_of ns
sent_grows [] s = sym (append-nil s.sent)
sent_grows (n ∷ ns) s =
    sent_grows ns (seen s n) ∙ ap (λ zs. zs ++ gathered unit_of ns) (note_sent s n) ∙ append_assoc s.sent (unit_of n) (gathered unit_of ns)

-- ---- marks

index_before : (xs ys : List Mark) (k : ℕ) → k < length xs → slice_index_or (xs ++ ys) k nowhere ≡ slice_index_or xs k nowhere
index_before [] ys k within = absurd (omega (arith, within))
index_before (x ∷ xs) ys zero within = refl
index_before (x ∷ xs) ys (suc k) within = index_before xs ys k (omega (arith, within))

index_here : (xs : List Mark) (m : Mark) → slice_index_or (xs ++ m ∷ []) (length xs) nowhere ≡ m
index_here [] m = refl
index_here (x ∷ xs) m = index_here xs m

-- a mark that stays
pub record IsKept (old new : Scan) (p : ℕ) : Type 0 where
  pub same : mark_of new p ≡ mark_of old p
  pub there : p < length new.marks

kept_same : (old new : Scan) (p : ℕ) → p < length old.marks → new.marks ≡ old.marks → IsKept old new p
kept_same old new p within same =
    let long : length new.marks ≡ length old.marks = ap length same in
    record { same = ap (λ ms. slice_index_or ms p nowhere) same; there = omega (arith, within, long) }

kept_more : (old new : Scan) (p : ℕ) (m : Mark) → p < length old.marks → new.marks ≡ old.marks ++ m ∷ [] → IsKept old new p
kept_more old new p m within more =
    let long : length new.marks ≡ length (old.marks ++ m ∷ []) = ap length more in
    record { same = ap (λ ms. slice_index_or ms p nowhere) more ∙ index_before old.marks (m ∷ []) p within; there = omega (arith, within, long, length-append old.marks (m ∷ [])) }

kept_marked : (s : Scan) (maker : Maker) (p : ℕ) → p < length s.marks → IsKept s (marked maker s) p
kept_marked s maker p within = kept_more s (marked maker s) p (record { origin = length s.marks; maker = maker; passed = 0; units = length s.sent }) within refl

note_kept : (s : Scan) (n : Note) (p : ℕ) → p < length s.marks → IsKept s (seen s n) p
note_kept s (Opened who host buffers) p within = kept_same s (seen s (Opened who host buffers)) p within refl
note_kept s (Accepted who parcel buffers) p within = kept_same s (seen s (Accepted who parcel buffers)) p within refl
note_kept s (Joined who parcel) p within = kept_same s (seen s (Joined who parcel)) p within refl
note_kept s (HandsIn who m) p within = kept_same s (seen s (HandsIn who m)) p within refl
note_kept s (HandsOut who m) p within = kept_same s (seen s (HandsOut who m)) p within refl
note_kept s (TakesUnit who u) p within = kept_same s (seen s (TakesUnit who u)) p within refl
note_kept s (AsksEnd who) p within = kept_same s (seen s (AsksEnd who)) p within refl
note_kept s (Got who parcel) p within = kept_same s (seen s (Got who parcel)) p within refl
note_kept s (Released who) p within = kept_same s (seen s (Released who)) p within refl
note_kept s (SendsUnit who parcel) p within =
    kept_more s (seen s (SendsUnit who parcel)) p (record { origin = length s.marks; maker = ByUnit who; passed = 0; units = length (s.sent ++ who ∷ []) }) within refl
note_kept s (SendsAgain who parcel) p within = kept_marked s (ByUnit who) p within
note_kept s (SendsSystem who parcel) p within = kept_marked s (BySystem who) p within
note_kept s (Told router parcel) p within = kept_marked s (ByRouter router) p within
note_kept s (Carried from parcel) p within = kept_more s (seen s (Carried from parcel)) p (one_further (mark_of s from)) within refl
note_kept s (Injected parcel) p within = kept_marked s FromOutside p within

pub all_kept : (ns : List Note) (s : Scan) (p : ℕ) → p < length s.marks → IsKept s (seen_all s ns) p
all_kept [] s p within = record { same = refl; there = within }
all_kept (n ∷ ns) s p within =
    let one = note_kept s n p within in
    let more = all_kept ns (seen s n) p one.there in
    record { same = more.same ∙ one.same; there = more.there }

-- the mark of a new parcel counts all units until then
pub record IsLast (s : Scan) (p : ℕ) : Type 0 where
  pub units : (mark_of s p).units ≡ length s.sent
  pub there : p < length s.marks

last_marked : (s : Scan) (maker : Maker) → IsLast (marked maker s) (length s.marks)
last_marked s maker =
    let m : Mark = record { origin = length s.marks; maker = maker; passed = 0; units = length s.sent } in
    record { units = ap (λ (k : Mark). k.units) (index_here s.marks m); there = omega (arith, length-append s.marks (m ∷ [])) }

pub last_given : (s : Scan) (what : Sent) (who p : ℕ) → IsLast (seen s (note_of what who p)) (length s.marks)
last_given s Sents.Request who p = last_marked s (BySystem who)
last_given s Sents.Reply who p = last_marked s (BySystem who)
last_given s Sents.Confirm who p = last_marked s (BySystem who)
last_given s Sents.Unit who p = last_marked (record s { sent = s.sent ++ who ∷ [] }) (ByUnit who)
last_given s Sents.Again who p = last_marked s (ByUnit who)
last_given s Sents.Ack who p = last_marked s (BySystem who)
last_given s Sents.Probe who p = last_marked s (BySystem who)

-- the mark of a forwarded parcel counts what that of the older one counts
pub carried_mark : (s : Scan) (from p : ℕ) → ((mark_of (seen s (Carried from p)) (length s.marks)).units ≡ (mark_of s from).units) × (length s.marks < length (seen s (Carried from p)).marks)
carried_mark s from p =
    (ap (λ (k : Mark). k.units) (index_here s.marks (one_further (mark_of s from))), omega (arith, length-append s.marks (one_further (mark_of s from) ∷ [])))

-- ---- readings

are_all_both : (p : ℕ) (xs ys : List ℕ) → AreAll p (xs ++ ys) → AreAll p xs × AreAll p ys
are_all_both p [] ys all = (tt, all)
are_all_both p (x ∷ xs) ys all = let more = are_all_both p xs ys all.1 in ((all.0, more.0), more.1)

pub none_both : (xs ys : List ℕ) → xs ++ ys ≡ [] → (xs ≡ []) × (ys ≡ [])
none_both [] ys none = (refl, none)
none_both (x ∷ xs) ys none = absurd (cc none)

-- a reading of this parcel now
pub record IsReadingOf (s : Scan) (p : ℕ) (r : Reading) : Type 0 where
  pub from : r.from ≡ (mark_of s p).units
  pub to : r.to ≡ length s.sent

one_read : (s : Scan) (n : Note) (p : ℕ) → AreAll p (got_of n) → (k : ℕ) (r : Reading) → slice_get (seen s n).readings k ≡ Some r → (slice_get s.readings k ≡ Some r) ⊎ IsReadingOf s p r
one_read s (Opened who host buffers) p all k r at = inl at
one_read s (Accepted who parcel buffers) p all k r at = inl at
one_read s (Joined who parcel) p all k r at = inl at
one_read s (HandsIn who m) p all k r at = inl at
one_read s (HandsOut who m) p all k r at = inl at
one_read s (TakesUnit who u) p all k r at = inl at
one_read s (AsksEnd who) p all k r at = inl at
one_read s (Got who parcel) p all k r at =
    elim (get_last s.readings (record { who = who; maker = (mark_of s parcel).maker; from = (mark_of s parcel).units; to = length s.sent; first = is_now s.newest who }) r k at) [
      | inl was ↦ inl was
      | inr new ↦ inr (record { from = ap (λ (z : Reading). z.from) (sym new.1) ∙ ap (λ q. (mark_of s q).units) all.0; to = ap (λ (z : Reading). z.to) (sym new.1) })
    ]
one_read s (Released who) p all k r at = inl at
one_read s (SendsUnit who parcel) p all k r at = inl at
one_read s (SendsAgain who parcel) p all k r at = inl at
one_read s (SendsSystem who parcel) p all k r at = inl at
one_read s (Told router parcel) p all k r at = inl at
one_read s (Carried from parcel) p all k r at = inl at
one_read s (Injected parcel) p all k r at = inl at

pub all_read : (ns : List Note) (s : Scan) (p : ℕ) → AreAll p (gathered got_of ns) → gathered unit_of ns ≡ [] → p < length s.marks → (k : ℕ) (r : Reading) → slice_get (seen_all s ns).readings k ≡ Some r
    → (slice_get s.readings k ≡ Some r) ⊎ IsReadingOf s p r
all_read [] s p all none within k r at = inl at
all_read (n ∷ ns) s p all none within k r at =
    let gots = are_all_both p (got_of n) (gathered got_of ns) all in
    let units = none_both (unit_of n) (gathered unit_of ns) none in
    let kept = note_kept s n p within in
    let same : (seen s n).sent ≡ s.sent = note_sent s n ∙ ap (λ us. s.sent ++ us) units.0 ∙ append-nil s.sent in
    elim (all_read ns (seen s n) p gots.1 units.1 kept.there k r at) [
      | inl was ↦ one_read s n p gots.0 k r was
      | inr new ↦ inr (record { from = new.from ∙ ap (λ (m : Mark). m.units) kept.same; to = new.to ∙ ap length same })
    ]

none_read_one : (s : Scan) (n : Note) → got_of n ≡ [] → (seen s n).readings ≡ s.readings
none_read_one s (Opened who host buffers) none = refl
none_read_one s (Accepted who parcel buffers) none = refl
none_read_one s (Joined who parcel) none = refl
none_read_one s (HandsIn who m) none = refl
none_read_one s (HandsOut who m) none = refl
none_read_one s (TakesUnit who u) none = refl
none_read_one s (AsksEnd who) none = refl
none_read_one s (Got who parcel) none = absurd (cc none)
none_read_one s (Released who) none = refl
none_read_one s (SendsUnit who parcel) none = refl
none_read_one s (SendsAgain who parcel) none = refl
none_read_one s (SendsSystem who parcel) none = refl
none_read_one s (Told router parcel) none = refl
none_read_one s (Carried from parcel) none = refl
none_read_one s (Injected parcel) none = refl

pub none_read : (ns : List Note) (s : Scan) → gathered got_of ns ≡ [] → (seen_all s ns).readings ≡ s.readings
none_read [] s none = refl
none_read (n ∷ ns) s none =
    let gots = none_both (got_of n) (gathered got_of ns) none in none_read ns (seen s n) gots.1 ∙ none_read_one s n gots.0

-- few units were sent between the making of a packet and its reading
pub record IsFine (sent : List ℕ) (r : Reading) : Type 0 where
  pub to : r.to ≤ length sent
  pub few : (e : ℕ) → times e (drop r.from (take r.to sent)) < 32768

pub fine_on : (sent more : List ℕ) (r : Reading) → IsFine sent r → IsFine (sent ++ more) r
fine_on sent more r f =
    record {
      to = (let to = f.to in omega (arith, to, length-append sent more));
      few = λ e. subst (λ us. times e (drop r.from us) < 32768) (sym (take-append-le r.to sent more f.to)) (f.few e);
    }

-- ---- parcels of what hosts sent

pub record IsSentParcel (s : Scene) (ks : List ℕ) (n : ℕ) (d : Datagram) : Type 0 where
  pub parcel : ℕ
  pub there : slice_get ks n ≡ Some parcel
  pub is : IsParcel s parcel d

pub sent_parcel : (s : Scene) (ks : List ℕ) (ds : List Datagram) → AreParcels s ks ds → (n : ℕ) (d : Datagram) → slice_get ds n ≡ Some d → IsSentParcel s ks n d
sent_parcel s [] ds are n d at = absurd (none_at ds are at)
  where
    none_at : (ds : List Datagram) → ds ≡ [] → slice_get ds n ≡ Some d → ⊥
    none_at ds none at = cc (subst (λ es. slice_get es n ≡ Some d) none at)
sent_parcel s (k ∷ ks) [] are n d at = absurd are
sent_parcel s (k ∷ ks) (e ∷ ds) are zero d at = record { parcel = k; there = refl; is = subst (IsParcel s k) (cc at) are.0 }
sent_parcel s (k ∷ ks) (e ∷ ds) are (suc n) d at =
    let it = sent_parcel s ks ds are.1 n d at in record { parcel = it.parcel; there = it.there; is = it.is }

-- ---- units, and the hosts of their ends

abbrev pub AreUnits : List Connection → List ℕ → List NewUnit → Type 0
AreUnits cs [] us = us ≡ []
AreUnits cs (w ∷ ws) [] = ⊥
AreUnits cs (w ∷ ws) (u ∷ us) = IsConnectionAt cs w u.host × AreUnits cs ws us

pub are_units_on : (cs cs' : List Connection) → ((who host : ℕ) → IsConnectionAt cs who host → IsConnectionAt cs' who host) → (ws : List ℕ) (us : List NewUnit) → AreUnits cs ws us → AreUnits cs' ws us
are_units_on cs cs' on [] us are = are
are_units_on cs cs' on (w ∷ ws) [] are = are
are_units_on cs cs' on (w ∷ ws) (u ∷ us) are = (on w u.host are.0, are_units_on cs cs' on ws us are.1)

pub are_units_more : (cs : List Connection) (ws : List ℕ) (us : List NewUnit) (w : ℕ) (u : NewUnit) → AreUnits cs ws us → IsConnectionAt cs w u.host → AreUnits cs (ws ++ w ∷ []) (us ++ u ∷ [])
are_units_more cs [] us w u are at = subst (λ vs. AreUnits cs (w ∷ []) (vs ++ u ∷ [])) (sym are) (at, refl)
are_units_more cs (x ∷ ws) [] w u are at = absurd are
are_units_more cs (x ∷ ws) (v ∷ us) w u are at = (are.0, are_units_more cs ws us w u are.1 at)

pub are_units_length : (cs : List Connection) (ws : List ℕ) (us : List NewUnit) → AreUnits cs ws us → length us ≡ length ws
are_units_length cs [] us are = ap length are
are_units_length cs (w ∷ ws) [] are = absurd are
are_units_length cs (w ∷ ws) (u ∷ us) are = ap suc (are_units_length cs ws us are.1)

abbrev host_in : Option Connection → ℕ
host_in None = 0
host_in (Some c) = c.host

within_true : (host from : ℕ) (u : NewUnit) → host ≡ u.host → from ≤ u.at → u.at ≤ from + 1000 → is_unit_within host from u ≡ true
within_true host from u same after before =
    rw ((Decides-eqb u.host host).1 (sym same)) (rw (le-leb from u.at after) (rw (le-leb u.at (from + 1000) before) refl))

-- the units of an end from a place on are units of its host since then
count_most : (cs : List Connection) (e since n : ℕ) (ws : List ℕ) (us : List NewUnit) → AreUnits cs ws us → ((j : ℕ) (u : NewUnit) → n ≤ j → slice_get us j ≡ Some u → since ≤ u.at)
    → ((j : ℕ) (u : NewUnit) → slice_get us j ≡ Some u → u.at ≤ since + 1000) → times e (drop n ws) ≤ units_within (host_in (slice_get cs e)) since us
count_most cs e since zero [] us are after before = omega arith
count_most cs e since (suc n) [] us are after before = omega arith
count_most cs e since n (w ∷ ws) [] are after before = absurd are
count_most cs e since (suc n) (w ∷ ws) (u ∷ us) are after before =
    let rest = count_most cs e since n ws us are.1 (λ j v from at. after (suc j) v (omega (arith, from)) at) (λ j v at. before (suc j) v at) in
    omega (arith, rest)
count_most cs e since zero (w ∷ ws) (u ∷ us) are after before =
    let rest = count_most cs e since zero ws us are.1 (λ j v from at. after (suc j) v (omega arith) at) (λ j v at. before (suc j) v at) in
    let h = host_in (slice_get cs e) in
    when (w == e) refl rest
  where
    when : (b : Bool) → (w == e) ≡ b → times e ws ≤ units_within (host_in (slice_get cs e)) since us
        → (if w == e then 1 else 0) + times e ws ≤ (if is_unit_within (host_in (slice_get cs e)) since u then 1 else 0) + units_within (host_in (slice_get cs e)) since us
    when true is rest =
        let same : w ≡ e = (Decides-eqb w e).0 is in
        let host : host_in (slice_get cs e) ≡ u.host = ap (λ k. host_in (slice_get cs k)) (sym same) ∙ ap host_in are.0.there ∙ are.0.host_is in
        let yes : is_unit_within (host_in (slice_get cs e)) since u ≡ true = within_true (host_in (slice_get cs e)) since u host (after zero u (omega arith) refl) (before zero u refl) in
        rw is (rw yes (omega (arith, rest)))
    when false is rest = rw is (omega (arith, rest))

-- so they are few if its units are
pub count_few : (cs : List Connection) (e since n : ℕ) (ws : List ℕ) (us : List NewUnit) → AreUnits cs ws us → ((j : ℕ) (u : NewUnit) → n ≤ j → slice_get us j ≡ Some u → since ≤ u.at)
    → ((j : ℕ) (u : NewUnit) → slice_get us j ≡ Some u → u.at ≤ since + 1000) → ((host from : ℕ) → units_within host from us < 32768) → times e (drop n ws) < 32768
count_few cs e since n ws us are after before spaced =
    let most = count_most cs e since n ws us are after before in
    let few = spaced (host_in (slice_get cs e)) since in
    omega (arith, most, few)

pub units_within_more : (host from : ℕ) (us vs : List NewUnit) → units_within host from us ≤ units_within host from (us ++ vs)
units_within_more host from [] vs = omega arith
units_within_more host from (u ∷ us) vs = let rest = units_within_more host from us vs in omega (arith, rest)

-- the new unit of a packet
pub record OneUnit (what : Sent) (host at who count id : ℕ) : Type 0 where
  pub units : List ℕ
  pub new : List NewUnit
  pub units_are : gathered unit_of (note_of what who count ∷ []) ≡ units
  pub new_are : unit_said host at (Some (id, what)) ≡ new
  pub both : ((units ≡ []) × (new ≡ [])) ⊎ ((units ≡ who ∷ []) × (new ≡ record { host = host; at = at } ∷ []))
  pub gots_are : gathered got_of (note_of what who count ∷ []) ≡ []
  pub sends_are : sent_in (note_of what who count ∷ []) ≡ count ∷ []

pub one_unit : (what : Sent) (host at who count id : ℕ) → OneUnit what host at who count id
one_unit Sents.Request host at who count id = record { units = []; new = []; units_are = refl; new_are = refl; both = inl (refl, refl); gots_are = refl; sends_are = refl }
one_unit Sents.Reply host at who count id = record { units = []; new = []; units_are = refl; new_are = refl; both = inl (refl, refl); gots_are = refl; sends_are = refl }
one_unit Sents.Confirm host at who count id = record { units = []; new = []; units_are = refl; new_are = refl; both = inl (refl, refl); gots_are = refl; sends_are = refl }
one_unit Sents.Unit host at who count id =
    record { units = who ∷ []; new = record { host = host; at = at } ∷ []; units_are = refl; new_are = refl; both = inr (refl, refl); gots_are = refl; sends_are = refl }
one_unit Sents.Again host at who count id = record { units = []; new = []; units_are = refl; new_are = refl; both = inl (refl, refl); gots_are = refl; sends_are = refl }
one_unit Sents.Ack host at who count id = record { units = []; new = []; units_are = refl; new_are = refl; both = inl (refl, refl); gots_are = refl; sends_are = refl }
one_unit Sents.Probe host at who count id = record { units = []; new = []; units_are = refl; new_are = refl; both = inl (refl, refl); gots_are = refl; sends_are = refl }
