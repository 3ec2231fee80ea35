-- The peers of ends, as the entries that make and join ends are read.
use Rattle.std.proofs.Common.{◌≡◌, ◌<◌, ◌≤◌, ◌+◌, ◌⊎◌, inl, inr, ℕ, zero, suc, List, [], ◌∷◌, ◌++◌, length, get_or, set, take, drop, Bool, true, false, cond, Option, Some, None, refl, sym, ◌∙◌, ap, arith, subst, length-set}
use Rattle.std.specs.Prelude.{slice_get}
use Rattle.std.proofs.lemmas.Bool.{cases_eq}
use Rattle.std.proofs.lemmas.List.{map-append, take-append-drop, take_all}
use Rattle.std.proofs.lemmas.Option.{get_or_from_slice_get, same_Some, slice_get_within}
use Rattle.spx_theory.specs.EndsSummarized.{PeerIsFound, peer_in, peer_of}
use Rattle.spx_theory.specs.Note.{Note, Opened, Accepted, Joined, HandsIn, HandsOut, TakesUnit, AsksEnd, Got, Released, SendsUnit, SendsAgain, SendsSystem, Told, Carried, Injected}
use Rattle.spx_theory.specs.Numbered.{IsNumbered}
use Rattle.spx_theory.specs.Peers.{AreJoined, ArePeersIn}
use Rattle.spx_theory.specs.Scan.{Maker, Role, Scan, asker, joined_by, mark_of, no_role, role_of, scan, seen, seen_all, unread}
use Rattle.ipx_net.specs.Ends.{told_of}
use Rattle.ipx_net.specs.LogEntries.{entry_note, entry_notes}
use Rattle.ipx_net.specs.Theorems.{AreNumbered}
use Rattle.ipx_net.specs.EndSummaryChanges.{OthersStay, StaysBut, change, joins, made_peers, paired_by, with_peer}
use Rattle.ipx_net.specs.declared.endinfo.EndInfo.{EndInfo}
use Rattle.ipx_net.specs.declared.entry.Entry.{Entry}
use Rattle.ipx_net.proofs.Sightings.{seen_all-append}
use Rattle.ipx_net.proofs.TellingCounts.{numbered_at, scan_on, taken_more}
use Rattle.ipx_net.proofs.TellingHolds.{change_own, change_where}

-- ---- elements of lists that grow or change

get_front : {A : Type 0} (xs ys : List A) (k : ℕ) (x : A) → slice_get xs k ≡ Some x → slice_get (xs ++ ys) k ≡ Some x
get_front [] ys k x is = absurd (cc is)
get_front (y ∷ xs) ys zero x is = is
get_front (y ∷ xs) ys (suc k) x is = get_front xs ys k x is

pub get_pushed : {A : Type 0} (xs : List A) (y : A) (k : ℕ) (x : A) → slice_get (xs ++ y ∷ []) k ≡ Some x → (slice_get xs k ≡ Some x) ⊎ ((k ≡ length xs) × (x ≡ y))
get_pushed [] y zero x is = inr (refl, sym (same_Some y x is))
get_pushed [] y (suc k) x is = absurd (cc is)
get_pushed (z ∷ xs) y zero x is = inl is
get_pushed (z ∷ xs) y (suc k) x is = elim (get_pushed xs y k x is) [ inl before ↦ inl before | inr last ↦ inr (ap suc last.0, last.1) ]

pub get_written : {A : Type 0} (xs : List A) (k : ℕ) (x y : A) → slice_get xs k ≡ Some x → slice_get (set xs k y) k ≡ Some y
get_written [] k x y is = absurd (cc is)
get_written (z ∷ xs) zero x y is = refl
get_written (z ∷ xs) (suc k) x y is = get_written xs k x y is

pub get_beside : {A : Type 0} (xs : List A) (j k : ℕ) (y : A) → (j ≡ k → ⊥) → slice_get (set xs j y) k ≡ slice_get xs k
get_beside [] j k y differ = refl
get_beside (z ∷ xs) zero zero y differ = absurd (differ refl)
get_beside (z ∷ xs) zero (suc k) y differ = refl
get_beside (z ∷ xs) (suc j) zero y differ = refl
get_beside (z ∷ xs) (suc j) (suc k) y differ = get_beside xs j k y (λ same. differ (ap suc same))

pub get_set_is : {A : Type 0} (xs : List A) (j : ℕ) (y x : A) → slice_get (set xs j y) j ≡ Some x → x ≡ y
get_set_is [] j y x is = absurd (cc is)
get_set_is (z ∷ xs) zero y x is = sym (same_Some y x is)
get_set_is (z ∷ xs) (suc j) y x is = get_set_is xs j y x is

-- ---- roles: an end that is not joined has no partner, and a joined one stays joined

abbrev pub AreLone : Scan → Type 0
AreLone s = (c : ℕ) (r : Role) → slice_get s.roles c ≡ Some r → r.joined ≡ false → r.partner ≡ None

joins_always : (m : Maker) (r : Role) → (joined_by m r).joined ≡ true
joins_always m r = by r.joined refl
  where
    by : (b : Bool) → r.joined ≡ b → (cond b r (record r { joined = true; partner = asker m })).joined ≡ true
    by true is = is
    by false is = refl

joined_still : (m : Maker) (r : Role) → r.joined ≡ true → joined_by m r ≡ r
joined_still m r is = ap (λ (b : Bool). cond b r (record r { joined = true; partner = asker m })) is

lone_on : (s : Scan) (n : Note) → AreLone s → AreLone (seen s n)
lone_on s (Opened who host buffers) lone = λ c r at un. elim (get_pushed s.roles _ c r at) [ inl before ↦ lone c r before un | inr last ↦ ap (λ (x : Role). x.partner) last.1 ]
lone_on s (Accepted who parcel buffers) lone = λ c r at un. elim (get_pushed s.roles _ c r at) [
  | inl before ↦ lone c r before un
  | inr last ↦ let no : true ≡ false = sym (ap (λ (x : Role). x.joined) last.1) ∙ un in cc
]
lone_on s (Joined who parcel) lone = λ c r at un.
    let new : Role = joined_by (mark_of s parcel).maker (role_of s who) in
    elim (cases_eq who c) [
      | inl same ↦
          let is : r ≡ new = get_set_is s.roles who new r (subst (λ (k : ℕ). slice_get (set s.roles who new) k ≡ Some r) (sym same) at) in
          let no : true ≡ false = sym (joins_always (mark_of s parcel).maker (role_of s who)) ∙ sym (ap (λ (x : Role). x.joined) is) ∙ un in cc
      | inr differ ↦ lone c r (sym (get_beside s.roles who c new differ) ∙ at) un
    ]
lone_on s (HandsIn who m) lone = lone
lone_on s (HandsOut who m) lone = lone
lone_on s (TakesUnit who u) lone = lone
lone_on s (AsksEnd who) lone = lone
lone_on s (Got who parcel) lone = lone
lone_on s (Released who) lone = lone
lone_on s (SendsUnit who parcel) lone = lone
lone_on s (SendsAgain who parcel) lone = lone
lone_on s (SendsSystem who parcel) lone = lone
lone_on s (Told router parcel) lone = lone
lone_on s (Carried from parcel) lone = lone
lone_on s (Injected parcel) lone = lone

lone_all : (s : Scan) (ns : List Note) → AreLone s → AreLone (seen_all s ns)
lone_all s [] lone = lone
lone_all s (n ∷ ns) lone = lone_all (seen s n) ns (lone_on s n lone)

pub lone_log : (log : List Note) → AreLone (scan log)
lone_log log = lone_all unread log (λ c r at un. absurd (cc at))

role_kept : (s : Scan) (n : Note) (c : ℕ) (r : Role) → slice_get s.roles c ≡ Some r → r.joined ≡ true → slice_get (seen s n).roles c ≡ Some r
role_kept s (Opened who host buffers) c r at is = get_front s.roles _ c r at
role_kept s (Accepted who parcel buffers) c r at is = get_front s.roles _ c r at
role_kept s (Joined who parcel) c r at is =
    let m : Maker = (mark_of s parcel).maker in
    elim (cases_eq who c) [
      | inl same ↦
          let there : slice_get s.roles who ≡ Some r = ap (slice_get s.roles) same ∙ at in
          let old : role_of s who ≡ r = get_or_from_slice_get s.roles who r no_role there in
          let new : joined_by m (role_of s who) ≡ r = ap (joined_by m) old ∙ joined_still m r is in
          ap (slice_get (set s.roles who (joined_by m (role_of s who)))) (sym same) ∙ get_written s.roles who r (joined_by m (role_of s who)) there ∙ ap Some new
      | inr differ ↦ get_beside s.roles who c (joined_by m (role_of s who)) differ ∙ at
    ]
role_kept s (HandsIn who m) c r at is = at
role_kept s (HandsOut who m) c r at is = at
role_kept s (TakesUnit who u) c r at is = at
role_kept s (AsksEnd who) c r at is = at
role_kept s (Got who parcel) c r at is = at
role_kept s (Released who) c r at is = at
role_kept s (SendsUnit who parcel) c r at is = at
role_kept s (SendsAgain who parcel) c r at is = at
role_kept s (SendsSystem who parcel) c r at is = at
role_kept s (Told router parcel) c r at is = at
role_kept s (Carried from parcel) c r at is = at
role_kept s (Injected parcel) c r at is = at

-- a role that the entry did not make or join was there before, or has no partner
role_was : (s : Scan) (n : Note) (c : ℕ) (r : Role) → IsNumbered s n → (joins n ≡ Some c → ⊥) → slice_get (seen s n).roles c ≡ Some r → (slice_get s.roles c ≡ Some r) ⊎ (r.partner ≡ None)
role_was s (Opened who host buffers) c r is not at = elim (get_pushed s.roles _ c r at) [ inl before ↦ inl before | inr last ↦ inr (ap (λ (x : Role). x.partner) last.1) ]
role_was s (Accepted who parcel buffers) c r is not at = elim (get_pushed s.roles _ c r at) [ inl before ↦ inl before | inr last ↦ absurd (not (ap Some (is.0 ∙ sym last.0))) ]
role_was s (Joined who parcel) c r is not at = inl (sym (get_beside s.roles who c _ (λ same. not (ap Some same))) ∙ at)
role_was s (HandsIn who m) c r is not at = inl at
role_was s (HandsOut who m) c r is not at = inl at
role_was s (TakesUnit who u) c r is not at = inl at
role_was s (AsksEnd who) c r is not at = inl at
role_was s (Got who parcel) c r is not at = inl at
role_was s (Released who) c r is not at = inl at
role_was s (SendsUnit who parcel) c r is not at = inl at
role_was s (SendsAgain who parcel) c r is not at = inl at
role_was s (SendsSystem who parcel) c r is not at = inl at
role_was s (Told router parcel) c r is not at = inl at
role_was s (Carried from parcel) c r is not at = inl at
role_was s (Injected parcel) c r is not at = inl at

-- ---- peers stay, and only the entry makes new ones

has_joined : (r : Role) (d : ℕ) → (r.joined ≡ false → r.partner ≡ None) → r.partner ≡ Some d → r.joined ≡ true
has_joined r d lone is = by r.joined refl
  where
    by : (b : Bool) → r.joined ≡ b → r.joined ≡ true
    by true e = e
    by false e = let no : None ≡ Some d = sym (lone e) ∙ is in cc

joined_kept : (s : Scan) (n : Note) (c d : ℕ) → AreLone s → AreJoined s c d → AreJoined (seen s n) c d
joined_kept s n c d lone j =
    record {
      caller = j.caller;
      callee = j.callee;
      caller_is = role_kept s n c j.caller j.caller_is (has_joined j.caller d (lone c j.caller j.caller_is) j.answered);
      callee_is = role_kept s n d j.callee j.callee_is (has_joined j.callee c (lone d j.callee j.callee_is) j.asked);
      called = j.called;
      accepted = j.accepted;
      answered = j.answered;
      asked = j.asked;
    }

peers_kept : (s : Scan) (ns : List Note) (c d : ℕ) → AreLone s → ArePeersIn s c d → ArePeersIn (seen_all s ns) c d
peers_kept s [] c d lone are = are
peers_kept s (n ∷ ns) c d lone are =
    peers_kept (seen s n) ns c d (lone_on s n lone) (elim are [ inl one ↦ inl (joined_kept s n c d lone one) | inr two ↦ inr (joined_kept s n d c lone two) ])

there_before : (s : Scan) (n : Note) (c d : ℕ) (r : Role) → IsNumbered s n → (joins n ≡ Some c → ⊥) → slice_get (seen s n).roles c ≡ Some r → r.partner ≡ Some d → slice_get s.roles c ≡ Some r
there_before s n c d r is not at partner = elim (role_was s n c r is not at) [
  | inl before ↦ before
  | inr none ↦ let no : None ≡ Some d = sym none ∙ partner in cc
]

joined_before : (s : Scan) (n : Note) (c d : ℕ) → IsNumbered s n → (joins n ≡ Some c → ⊥) → (joins n ≡ Some d → ⊥) → AreJoined (seen s n) c d → AreJoined s c d
joined_before s n c d is not_c not_d j =
    record {
      caller = j.caller;
      callee = j.callee;
      caller_is = there_before s n c d j.caller is not_c j.caller_is j.answered;
      callee_is = there_before s n d c j.callee is not_d j.callee_is j.asked;
      called = j.called;
      accepted = j.accepted;
      answered = j.answered;
      asked = j.asked;
    }

abbrev Found : Type 0
Found = (s : Scan) (c d : ℕ) → PeerIsFound s c d

was_peer : Found → (s : Scan) (n : Note) (c d : ℕ) → IsNumbered s n → (joins n ≡ Some c → ⊥) → (joins n ≡ Some d → ⊥) → peer_in (seen s n) c ≡ Some d → peer_in s c ≡ Some d
was_peer found s n c d is not_c not_d peer =
    (found s c d).there (elim ((found (seen s n) c d).only peer) [
      | inl one ↦ inl (joined_before s n c d is not_c not_d one)
      | inr two ↦ inr (joined_before s n d c is not_d not_c two)
    ])

swapped : Found → (s : Scan) (c d : ℕ) → peer_in s c ≡ Some d → peer_in s d ≡ Some c
swapped found s c d is = (found s d c).there (elim ((found s c d).only is) [ inl one ↦ inr one | inr two ↦ inl two ])

peer_there : Found → (s : Scan) (c d : ℕ) → peer_in s c ≡ Some d → c < length s.roles
peer_there found s c d is = elim ((found s c d).only is) [ inl one ↦ slice_get_within s.roles c one.caller one.caller_is | inr two ↦ slice_get_within s.roles c two.callee two.callee_is ]

-- a peer at some index of a log stays the peer
for_good : Found → (log : List Entry) (at c d : ℕ) → peer_of (entry_notes (take at log)) c ≡ Some d → peer_of (entry_notes log) c ≡ Some d
for_good found log at c d is =
    let front : List Note = entry_notes (take at log) in
    let back : List Note = entry_notes (drop at log) in
    let whole : scan (entry_notes log) ≡ seen_all (scan front) back =
    ap (λ (es : List Entry). scan (entry_notes es)) (sym (take-append-drop at log)) ∙ ap scan (map-append entry_note (take at log) (drop at log)) ∙ seen_all-append unread front back in
    let kept : ArePeersIn (seen_all (scan front) back) c d = peers_kept (scan front) back c d (lone_log front) ((found (scan front) c d).only is) in
    ap (λ (s : Scan). peer_in s c) whole ∙ (found (seen_all (scan front) back) c d).there kept

-- ---- a pair is set

paired_either : (F : ℕ → Option ℕ) (who : ℕ) (p : Option ℕ) (told : List EndInfo) → F who ≡ p → ((d : ℕ) → F who ≡ Some d → F d ≡ Some who) → (e : ℕ)
    → ((told_of (made_peers who p told) e).peer ≡ F e) ⊎ ((told_of (made_peers who p told) e).peer ≡ (told_of told e).peer)
paired_either F who None told is both e = elim (change_where (with_peer None) who told e) [
  | inl same ↦ inr (ap (λ (x : EndInfo). x.peer) same)
  | inr here ↦ inl (ap (λ (x : EndInfo). x.peer) here.1 ∙ sym is ∙ ap F here.0)
]
paired_either F who (Some d) told is both e =
    let one : List EndInfo = change (with_peer (Some d)) who told in
    elim (change_where (with_peer (Some who)) d one e) [
      | inl same ↦ elim (change_where (with_peer (Some d)) who told e) [
        | inl kept ↦ inr (ap (λ (x : EndInfo). x.peer) same ∙ ap (λ (x : EndInfo). x.peer) kept)
        | inr here ↦ inl (ap (λ (x : EndInfo). x.peer) same ∙ ap (λ (x : EndInfo). x.peer) here.1 ∙ sym is ∙ ap F here.0)
      ]
      | inr here ↦ inl (ap (λ (x : EndInfo). x.peer) here.1 ∙ sym (both d is) ∙ ap F here.0)
    ]

paired_own : (who : ℕ) (p : Option ℕ) (told : List EndInfo) → who < length told → (told_of (made_peers who p told) who).peer ≡ p
paired_own who None told h = ap (λ (x : EndInfo). x.peer) (change_own (with_peer None) who told h)
paired_own who (Some d) told h =
    let one : List EndInfo = change (with_peer (Some d)) who told in
    elim (change_where (with_peer (Some who)) d one who) [
      | inl same ↦ ap (λ (x : EndInfo). x.peer) same ∙ ap (λ (x : EndInfo). x.peer) (change_own (with_peer (Some d)) who told h)
      | inr here ↦ ap (λ (x : EndInfo). x.peer) here.1 ∙ ap Some (sym here.0)
    ]

paired_other : (who d : ℕ) (p : Option ℕ) (told : List EndInfo) → p ≡ Some d → d < length told → (told_of (made_peers who p told) d).peer ≡ Some who
paired_other who d None told is h = absurd (cc is)
paired_other who d (Some q) told is h =
    let same : q ≡ d = same_Some q d is in
    let one : List EndInfo = change (with_peer (Some q)) who told in
    let within : q < length one = omega (arith, length-set told who (with_peer (Some q) (told_of told who)), h, same) in
    let at : (told_of (change (with_peer (Some who)) q one) q).peer ≡ Some who = ap (λ (x : EndInfo). x.peer) (change_own (with_peer (Some who)) q one within) in
    ap (λ (k : ℕ). (told_of (change (with_peer (Some who)) q one) k).peer) (sym same) ∙ at

peer_alone : (p : Option ℕ) (w : ℕ) (told : List EndInfo) → OthersStay told (change (with_peer p) w told)
peer_alone p w told e = elim (change_where (with_peer p) w told e) [
  | inl same ↦ subst (StaysBut (told_of told e)) (sym same) (record { host = refl; state = refl; given = refl; out = refl; next = refl })
  | inr here ↦ subst (StaysBut (told_of told e)) (sym here.1) (record { host = refl; state = refl; given = refl; out = refl; next = refl })
]

alone_then : (a b c : List EndInfo) → OthersStay a b → OthersStay b c → OthersStay a c
alone_then a b c one two = λ e.
    let x = one e in let y = two e in
    record { host = y.host ∙ x.host; state = y.state ∙ x.state; given = y.given ∙ x.given; out = y.out ∙ x.out; next = y.next ∙ x.next }

paired_alone : (who : ℕ) (p : Option ℕ) (told : List EndInfo) → OthersStay told (made_peers who p told)
paired_alone who None told = peer_alone None who told
paired_alone who (Some d) told =
    let one : List EndInfo = change (with_peer (Some d)) who told in
    alone_then told one (change (with_peer (Some who)) d one) (peer_alone (Some d) who told) (peer_alone (Some who) d one)

paired_length : (who : ℕ) (p : Option ℕ) (told : List EndInfo) → length (made_peers who p told) ≡ length told
paired_length who None told = length-set told who (with_peer None (told_of told who))
paired_length who (Some d) told =
    let one : List EndInfo = change (with_peer (Some d)) who told in
    length-set one d (with_peer (Some who) (told_of one d)) ∙ length-set told who (with_peer (Some d) (told_of told who))

-- ---- along a log

pub record PairedTo (log : List Entry) (old : List EndInfo) (at : ℕ) (told : List EndInfo) : Type 0 where
  pub sound : (e c : ℕ) → (told_of told e).peer ≡ Some c → peer_of (entry_notes log) e ≡ Some c
  pub found : (e c : ℕ) → peer_of (entry_notes (take at log)) e ≡ Some c → (told_of told e).peer ≡ Some c
  pub alone : OthersStay old told
  pub count : length told ≡ length old

pub paired_start : Found → (log : List Entry) (from : ℕ) (old : List EndInfo) → ((e : ℕ) → (told_of old e).peer ≡ peer_of (entry_notes (take from log)) e) → PairedTo log old from old
paired_start found log from old before =
    record {
      sound = λ e c is. for_good found log from e c (sym (before e) ∙ is);
      found = λ e c is. before e ∙ is;
      alone = λ e. record { host = refl; state = refl; given = refl; out = refl; next = refl };
      count = refl;
    }

pub paired_next : Found → (log : List Entry) (old : List EndInfo) (at : ℕ) (entry : Entry) (told new : List EndInfo) → at < length log → entry ≡ get_or log at entry → AreNumbered (entry_notes log)
    → length old ≡ length (scan (entry_notes log)).roles → new ≡ paired_by (joins (entry_note entry)) (entry_notes log) told → PairedTo log old at told → PairedTo log old (at + 1) new
paired_next found log old at entry told new h is numbered made step p =
    subst (PairedTo log old (at + 1)) (sym step) (by (joins (entry_note entry)) refl)
  where
    front : List Note
    front = entry_notes (take at log)

    one_more : (e c : ℕ) → peer_of (entry_notes (take (at + 1) log)) e ≡ Some c → peer_in (seen (scan front) (entry_note entry)) e ≡ Some c
    one_more e c w = sym (ap (λ (s : Scan). peer_in s e) (ap scan (taken_more log at entry h is) ∙ scan_on front (entry_note entry))) ∙ w

    before : (e c : ℕ) → (joins (entry_note entry) ≡ Some e → ⊥) → (joins (entry_note entry) ≡ Some c → ⊥) → peer_of (entry_notes (take (at + 1) log)) e ≡ Some c → (told_of told e).peer ≡ Some c
    before e c not_e not_c w = p.found e c (was_peer found (scan front) (entry_note entry) e c (numbered_at log at entry h is numbered) not_e not_c (one_more e c w))

    by : (o : Option ℕ) → joins (entry_note entry) ≡ o → PairedTo log old (at + 1) (paired_by o (entry_notes log) told)
    by None none =
        record {
          sound = p.sound;
          found = λ e c w. before e c (λ j. let no : None ≡ Some e = sym none ∙ j in cc) (λ j. let no : None ≡ Some c = sym none ∙ j in cc) w;
          alone = p.alone;
          count = p.count;
        }
    by (Some who) some =
        let F : ℕ → Option ℕ = peer_of (entry_notes log) in
        let next : List EndInfo = made_peers who (F who) told in
        let either : (e : ℕ) → ((told_of next e).peer ≡ F e) ⊎ ((told_of next e).peer ≡ (told_of told e).peer) = paired_either F who (F who) told refl (λ d. swapped found (scan (entry_notes log)) who d) in
        let inside : (e c : ℕ) → F e ≡ Some c → e < length told = λ e c w. omega (arith, peer_there found (scan (entry_notes log)) e c w, p.count, made) in
        record {
          sound = λ e c w. elim (either e) [ inl good ↦ sym good ∙ w | inr same ↦ p.sound e c (sym same ∙ w) ];
          found = λ e c w.
              let final : F e ≡ Some c = for_good found log (at + 1) e c w in
              elim (cases_eq who e) [
                | inl same ↦
                    let own : F who ≡ Some c = ap F same ∙ final in
                    let told_own : (told_of next who).peer ≡ F who = paired_own who (F who) told (inside who c own) in
                    ap (λ (k : ℕ). (told_of next k).peer) (sym same) ∙ told_own ∙ own
                | inr differ ↦ elim (cases_eq who c) [
                  | inl same ↦
                      let back : F who ≡ Some e = swapped found (scan (entry_notes log)) e who (final ∙ ap Some (sym same)) in
                      paired_other who e (F who) told back (inside e c final) ∙ ap Some same
                  | inr other ↦ elim (either e) [
                    | inl good ↦ good ∙ final
                    | inr same ↦ same ∙ before e c (λ j. differ (same_Some who e (sym some ∙ j))) (λ j. other (same_Some who c (sym some ∙ j))) w
                  ]
                ]
              ];
          alone = alone_then old told next p.alone (paired_alone who (F who) told);
          count = paired_length who (F who) told ∙ p.count;
        }

same_option : (o p : Option ℕ) → ((c : ℕ) → o ≡ Some c → p ≡ Some c) → ((c : ℕ) → p ≡ Some c → o ≡ Some c) → o ≡ p
same_option None None to from = refl
same_option None (Some c) to from = from c refl
same_option (Some c) p to from = sym (to c refl)

pub paired_all : (log : List Entry) (old : List EndInfo) (at : ℕ) (told : List EndInfo) → length log ≤ at → PairedTo log old at told → (e : ℕ) → (told_of told e).peer ≡ peer_of (entry_notes log) e
paired_all log old at told past p e =
    same_option (told_of told e).peer (peer_of (entry_notes log) e) (λ c w. p.sound e c w)
    (λ c w. p.found e c (ap (λ (es : List Entry). peer_of (entry_notes es) e) (take_all at log past) ∙ w))

pub notes_take : (k : ℕ) (es : List Entry) → entry_notes (take k es) ≡ take k (entry_notes es)
notes_take zero es = refl
notes_take (suc k) [] = refl
notes_take (suc k) (e ∷ es) = ap (λ (ns : List Note). entry_note e ∷ ns) (notes_take k es)
