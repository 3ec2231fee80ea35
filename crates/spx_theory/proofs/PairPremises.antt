-- The premises of two ends hold for every earlier log, and follow from those of the whole log.
use Rattle.std.proofs.Common.{◌≡◌, ◌≤◌, ◌<◌, ℕ, true, false, List, [], ◌∷◌, ◌++◌, length, take, drop, set, Some, refl, sym, ◌∙◌, inl, inr, ap, subst, arith, length-append}
use Rattle.std.specs.Prelude.{slice_get}
use Rattle.std.proofs.lemmas.List.{append-nil, append_assoc, take-append-le}
use Rattle.std.proofs.lemmas.Bool.{cases_eq, cond-true, cond_both}
use Rattle.spx_theory.specs.Note.{Note, Opened, Accepted, Joined, HandsIn, HandsOut, TakesUnit, AsksEnd, Got, Released, SendsUnit, SendsAgain, SendsSystem, Told, Carried, Injected}
use Rattle.spx_theory.specs.Scan.{Each, times, Scan, Reading, Role, Maker, seen, seen_all, scan, unread, role_of, mark_of, joined_by, asker, no_role}
use Rattle.spx_theory.specs.Peers.{AreJoined, ArePeersIn, IsFromPeer, IsRecent, Premises, units_between}
use Rattle.spx_theory.proofs.OfTwo.{ReadsOf, PairPremises}
use Rattle.spx_theory.proofs.Lists.{get_last, get_before, get_set, read_there, same_element}
use Rattle.spx_theory.proofs.Folding.{seen_all-append}
use Rattle.spx_theory.proofs.Held.{set_other, set_here}

-- a role changes only by being joined
pub record RoleLater (old new : Role) : Type 0 where
  pub buffers : new.buffers ≡ old.buffers
  pub called : new.called ≡ old.called
  pub settled : old.joined ≡ true → new ≡ old

abbrev pub RolesLater : List Role → List Role → Type 0
RolesLater old new = (j : ℕ) (r : Role) → slice_get old j ≡ Some r → (r' : Role) × (slice_get new j ≡ Some r') × RoleLater r r'

-- an end that did not dial is joined
abbrev pub CalleesJoined : List Role → Type 0
CalleesJoined roles = Each (λ (r : Role). r.called ≡ false → r.joined ≡ true) roles

abbrev pub ReadingsWithin : Scan → Type 0
ReadingsWithin s = Each (λ (r : Reading). r.to ≤ length s.sent) s.readings

pub record Grew (s t : Scan) : Type 0 where
  pub sent : List ℕ
  pub readings : List Reading
  pub sent_is : t.sent ≡ s.sent ++ sent
  pub readings_is : t.readings ≡ s.readings ++ readings
  pub roles : RolesLater s.roles t.roles
  pub joined : CalleesJoined s.roles → CalleesJoined t.roles
  pub within : ReadingsWithin s → ReadingsWithin t

same_role : (r : Role) → RoleLater r r
same_role r = record { buffers = refl; called = refl; settled = λ e. refl }

same_roles : (rs : List Role) → RolesLater rs rs
same_roles rs j r at = (r, at, same_role r)

more_roles : (rs more : List Role) → RolesLater rs (rs ++ more)
more_roles rs more j r at = (r, get_before rs more r j at, same_role r)

-- nothing of this changes
still : (s t : Scan) → t.sent ≡ s.sent → t.readings ≡ s.readings → t.roles ≡ s.roles → Grew s t
still s t sent readings roles =
    record {
      sent = [];
      readings = [];
      sent_is = sent ∙ sym (append-nil s.sent);
      readings_is = readings ∙ sym (append-nil s.readings);
      roles = subst (RolesLater s.roles) (sym roles) (same_roles s.roles);
      joined = λ j. subst CalleesJoined (sym roles) j;
      within = λ w k r at. omega (arith, ap length sent, w k r (ap (λ rs. slice_get rs k) (sym readings) ∙ at));
    }

role_comes : (s t : Scan) (r : Role) → t.sent ≡ s.sent → t.readings ≡ s.readings → t.roles ≡ s.roles ++ r ∷ [] → (r.called ≡ false → r.joined ≡ true) → Grew s t
role_comes s t r sent readings roles good =
    record {
      sent = [];
      readings = [];
      sent_is = sent ∙ sym (append-nil s.sent);
      readings_is = readings ∙ sym (append-nil s.readings);
      roles = subst (RolesLater s.roles) (sym roles) (more_roles s.roles (r ∷ []));
      joined = λ j. subst CalleesJoined (sym roles) (λ k x at. elim (get_last s.roles r x k at) [ inl was ↦ j k x was | inr new ↦ subst (λ (y : Role). y.called ≡ false → y.joined ≡ true) new.1 good ]);
      within = λ w k x at. omega (arith, ap length sent, w k x (ap (λ rs. slice_get rs k) (sym readings) ∙ at));
    }

pub joins_later : (m : Maker) (r : Role) → RoleLater r (joined_by m r)
joins_later m r =
    record {
      buffers = cond_both r.joined r (record r { joined = true; partner = asker m }) (λ (x : Role). x.buffers ≡ r.buffers) (λ y. refl) (λ n. refl);
      called = cond_both r.joined r (record r { joined = true; partner = asker m }) (λ (x : Role). x.called ≡ r.called) (λ y. refl) (λ n. refl);
      settled = λ e. cond-true r.joined r (record r { joined = true; partner = asker m }) e;
    }

joins_now : (m : Maker) (r : Role) → (joined_by m r).joined ≡ true
joins_now m r = cond_both r.joined r (record r { joined = true; partner = asker m }) (λ (x : Role). x.joined ≡ true) (λ y. y) (λ n. refl)

role_joins : (s t : Scan) (who : ℕ) (m : Maker) → t.sent ≡ s.sent → t.readings ≡ s.readings → t.roles ≡ set s.roles who (joined_by m (role_of s who)) → Grew s t
role_joins s t who m sent readings roles =
    record {
      sent = [];
      readings = [];
      sent_is = sent ∙ sym (append-nil s.sent);
      readings_is = readings ∙ sym (append-nil s.readings);
      roles = subst (RolesLater s.roles) (sym roles)
          (λ j r at. elim (cases_eq who j) [
            | inl here ↦
                let role : role_of s who ≡ r = ap (role_of s) here ∙ read_there s.roles j r no_role at in (
                  joined_by m r,
                  subst (λ k. slice_get (set s.roles k (joined_by m (role_of s who))) j ≡ Some (joined_by m r)) (sym here)
                      (ap (λ x. slice_get (set s.roles j (joined_by m x)) j) role ∙ set_here s.roles j (joined_by m r) r at),
                  joins_later m r,
                )
            | inr other ↦ (r, set_other s.roles who j _ r other at, same_role r)
          ]);
      joined = λ j. subst CalleesJoined (sym roles)
          (λ k x at. elim (get_set s.roles who k (joined_by m (role_of s who)) x at) [
            | inl here ↦ λ no. ap (λ (y : Role). y.joined) (sym here.1) ∙ joins_now m (role_of s who)
            | inr other ↦ j k x other.1
          ]);
      within = λ w k x at. omega (arith, ap length sent, w k x (ap (λ rs. slice_get rs k) (sym readings) ∙ at));
    }

unit_comes : (s t : Scan) (who : ℕ) → t.sent ≡ s.sent ++ who ∷ [] → t.readings ≡ s.readings → t.roles ≡ s.roles → Grew s t
unit_comes s t who sent readings roles =
    record {
      sent = who ∷ [];
      readings = [];
      sent_is = sent;
      readings_is = readings ∙ sym (append-nil s.readings);
      roles = subst (RolesLater s.roles) (sym roles) (same_roles s.roles);
      joined = λ j. subst CalleesJoined (sym roles) j;
      within = λ w k r at. omega (arith, ap length sent, length-append s.sent (who ∷ []), w k r (ap (λ rs. slice_get rs k) (sym readings) ∙ at));
    }

reading_comes : (s t : Scan) (r : Reading) → r.to ≡ length s.sent → t.sent ≡ s.sent → t.readings ≡ s.readings ++ r ∷ [] → t.roles ≡ s.roles → Grew s t
reading_comes s t r to sent readings roles =
    record {
      sent = [];
      readings = r ∷ [];
      sent_is = sent ∙ sym (append-nil s.sent);
      readings_is = readings;
      roles = subst (RolesLater s.roles) (sym roles) (same_roles s.roles);
      joined = λ j. subst CalleesJoined (sym roles) j;
      within = λ w k x at. elim (get_last s.readings r x k (ap (λ rs. slice_get rs k) (sym readings) ∙ at)) [
        | inl was ↦ omega (arith, ap length sent, w k x was)
        | inr new ↦ omega (arith, ap length sent, to, ap (λ (y : Reading). y.to) new.1)
      ];
    }

pub one_grew : (s : Scan) (n : Note) → Grew s (seen s n)
one_grew s (Opened who host buffers) = role_comes s _ _ refl refl refl (λ no. absurd (cc no))
one_grew s (Accepted who parcel buffers) = role_comes s _ _ refl refl refl (λ no. refl)
one_grew s (Joined who parcel) = role_joins s _ who (mark_of s parcel).maker refl refl refl
one_grew s (HandsIn who m) = still s _ refl refl refl
one_grew s (HandsOut who m) = still s _ refl refl refl
one_grew s (TakesUnit who u) = still s _ refl refl refl
one_grew s (AsksEnd who) = still s _ refl refl refl
one_grew s (Got who parcel) = reading_comes s _ _ refl refl refl refl
one_grew s (Released who) = still s _ refl refl refl
one_grew s (SendsUnit who parcel) = unit_comes s _ who refl refl refl
one_grew s (SendsAgain who parcel) = still s _ refl refl refl
one_grew s (SendsSystem who parcel) = still s _ refl refl refl
one_grew s (Told router parcel) = still s _ refl refl refl
one_grew s (Carried from parcel) = still s _ refl refl refl
one_grew s (Injected parcel) = still s _ refl refl refl

pub grew_on : (s t u : Scan) → Grew s t → Grew t u → Grew s u
grew_on s t u x y =
    record {
      sent = x.sent ++ y.sent;
      readings = x.readings ++ y.readings;
      sent_is = y.sent_is ∙ ap (λ zs. zs ++ y.sent) x.sent_is ∙ append_assoc s.sent x.sent y.sent;
      readings_is = y.readings_is ∙ ap (λ zs. zs ++ y.readings) x.readings_is ∙ append_assoc s.readings x.readings y.readings;
      roles = λ j r at.
          let one = x.roles j r at in
          let two = y.roles j one.0 one.1 in (
            two.0,
            two.1,
            record {
              buffers = two.2.buffers ∙ one.2.buffers;
              called = two.2.called ∙ one.2.called;
              settled = λ e. two.2.settled (ap (λ (z : Role). z.joined) (one.2.settled e) ∙ e) ∙ one.2.settled e;
            },
          );
      joined = λ j. y.joined (x.joined j);
      within = λ w. y.within (x.within w);
    }

pub all_grew : (s : Scan) (ns : List Note) → Grew s (seen_all s ns)
all_grew s [] = still s s refl refl refl
all_grew s (n ∷ ns) = grew_on s (seen s n) (seen_all (seen s n) ns) (one_grew s n) (all_grew (seen s n) ns)

pub callees_joined : (log : List Note) → CalleesJoined (scan log).roles
callees_joined log = (all_grew unread log).joined (λ k r at. absurd (cc at))

pub readings_within : (log : List Note) → ReadingsWithin (scan log)
readings_within log = (all_grew unread log).within (λ k r at. absurd (cc at))

-- ---- the premises held before
reads_before : (c d : ℕ) (s t : Scan) → Grew s t → ReadingsWithin s → Each (ReadsOf c d t.sent) t.readings → Each (ReadsOf c d s.sent) s.readings
reads_before c d s t g within later k r at =
    let then' : ReadsOf c d t.sent r = later k r (ap (λ rs. slice_get rs k) g.readings_is ∙ get_before s.readings g.readings r k at) in
    let same : take r.to t.sent ≡ take r.to s.sent = ap (take r.to) g.sent_is ∙ take-append-le r.to s.sent g.sent (within k r at) in
    record {
      own = then'.own;
      fresh = λ who by. let near = then'.fresh who by in
          (subst (λ xs. times c (drop r.from xs) < 32768) same near.0, subst (λ xs. times d (drop r.from xs) < 32768) same near.1);
    }

pub closed : (c d a b : ℕ) (log more : List Note) → PairPremises c d a b (log ++ more) → PairPremises c d a b log
closed c d a b log more p =
    let is : scan (log ++ more) ≡ seen_all (scan log) more = seen_all-append unread log more in
    let g : Grew (scan log) (scan (log ++ more)) = subst (Grew (scan log)) (sym is) (all_grew (scan log) more) in
    record {
      roles = record {
        caller = λ r at.
            let later = g.roles c r at in
            let then' = p.roles.caller later.0 later.1 in
            (sym later.2.buffers ∙ then'.0, sym later.2.called ∙ then'.1, λ e. ap (λ (x : Role). x.partner) (sym (later.2.settled e)) ∙ then'.2 (ap (λ (x : Role). x.joined) (later.2.settled e) ∙ e));
        callee = λ r at.
            let later = g.roles d r at in
            let then' = p.roles.callee later.0 later.1 in
            let called : r.called ≡ false = sym later.2.called ∙ then'.1 in
            let joined : r.joined ≡ true = callees_joined log d r at called in
            (sym later.2.buffers ∙ then'.0, called, joined, ap (λ (x : Role). x.partner) (sym (later.2.settled joined)) ∙ then'.3);
      };
      one = reads_before c d (scan log) (scan (log ++ more)) g (readings_within log) p.one;
      two = reads_before d c (scan log) (scan (log ++ more)) g (readings_within log) p.two;
    }

pub callers_peer : (s : Scan) (c d e : ℕ) → AreJoined s c d → ArePeersIn s c e → e ≡ d
callers_peer s c d e j (inl k) =
    let same : j.caller ≡ k.caller = same_element s.roles c j.caller k.caller j.caller_is k.caller_is in
    let both : Some e ≡ Some d = sym k.answered ∙ ap (λ (r : Role). r.partner) (sym same) ∙ j.answered in cc both
callers_peer s c d e j (inr k) =
    let same : j.caller ≡ k.callee = same_element s.roles c j.caller k.callee j.caller_is k.callee_is in
    absurd (cc (sym j.called ∙ ap (λ (r : Role). r.called) same ∙ k.accepted))

pub callees_peer : (s : Scan) (c d e : ℕ) → AreJoined s c d → ArePeersIn s d e → e ≡ c
callees_peer s c d e j (inl k) =
    let same : j.callee ≡ k.caller = same_element s.roles d j.callee k.caller j.callee_is k.caller_is in
    absurd (cc (sym j.accepted ∙ ap (λ (r : Role). r.called) same ∙ k.called))
callees_peer s c d e j (inr k) =
    let same : j.callee ≡ k.callee = same_element s.roles d j.callee k.callee j.callee_is k.callee_is in
    let both : Some e ≡ Some c = sym k.asked ∙ ap (λ (r : Role). r.partner) (sym same) ∙ j.asked in cc both

pub reads_of : (s : Scan) (c d : ℕ) → ArePeersIn s c d → ((e : ℕ) → ArePeersIn s c e → e ≡ d) → (r : Reading) → IsFromPeer s r → IsRecent s r → ReadsOf c d s.sent r
reads_of s c d peers only r from late =
    record {
      own = λ who first.
          let found = from first in
          let is : found.0 ≡ d = only found.0 (subst (λ k. ArePeersIn s k found.0) who found.1) in
          found.2 ∙ ap Some is;
      fresh = λ who by. subst (λ k. (units_between k s.sent r < 32768) × (units_between d s.sent r < 32768)) who (late d (subst (λ k. ArePeersIn s k d) (sym who) peers) by);
    }

pub to_pair : (log : List Note) (c d : ℕ) → Premises log → AreJoined (scan log) c d → PairPremises c d (role_of (scan log) c).buffers (role_of (scan log) d).buffers log
to_pair log c d p j =
    let s : Scan = scan log in
    let rc : role_of s c ≡ j.caller = read_there s.roles c j.caller no_role j.caller_is in
    let rd : role_of s d ≡ j.callee = read_there s.roles d j.callee no_role j.callee_is in
    record {
      roles = record {
        caller = λ r at.
            let same : j.caller ≡ r = same_element s.roles c j.caller r j.caller_is at in
            (ap (λ (x : Role). x.buffers) (sym same ∙ sym rc), ap (λ (x : Role). x.called) (sym same) ∙ j.called, λ e. ap (λ (x : Role). x.partner) (sym same) ∙ j.answered);
        callee = λ r at.
            let same : j.callee ≡ r = same_element s.roles d j.callee r j.callee_is at in
            let called : r.called ≡ false = ap (λ (x : Role). x.called) (sym same) ∙ j.accepted in
            (ap (λ (x : Role). x.buffers) (sym same ∙ sym rd), called, callees_joined log d r at called, ap (λ (x : Role). x.partner) (sym same) ∙ j.asked);
      };
      one = λ k r at. reads_of s c d (inl j) (λ e. callers_peer s c d e j) r (p.from_own_peer k r at) (p.fresh k r at);
      two = λ k r at. reads_of s d c (inr j) (λ e. callees_peer s c d e j) r (p.from_own_peer k r at) (p.fresh k r at);
    }
