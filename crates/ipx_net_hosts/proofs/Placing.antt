-- Where ends are, and what a call on one host does to all of them.
use Rattle.std.proofs.Common.{◌≡◌, ◌≢◌, ◌<◌, ◌≤◌, ◌⊎◌, inl, inr, ℕ, zero, suc, List, [], ◌∷◌, ◌++◌, Bool, true, false, cond, not, length, map, set, get_or, refl, ap, sym, subst, ◌∙◌, Option, None, Some, Result, Ok, Err, OnErr, OnOk, IfSome, arith, append_assoc}
use Rattle.std.specs.Prelude.{slice_get}
use Rattle.std.proofs.lemmas.Option.{slice_get_read}
use Rattle.std.proofs.Math.Seq.{map-set_same}
use Rattle.std.proofs.lemmas.List.{append-nil}
use Rattle.ipx_wire.specs.declared.address.Address.{Address}
use Rattle.ipx_wire.specs.declared.address.Socket.{Socket}
use Rattle.spx_link.specs.Limits.{most_units}
use Rattle.spx_link.specs.LinkView.{LinkView}
use Rattle.spx_link.specs.Offer.{first_of}
use Rattle.spx_link.specs.declared.unit.Unit.{Unit}
use Rattle.spx_messages.specs.Arrives.{Arrives}
use Rattle.spx_messages.specs.declared.arrived.Arrived.{Arrived}
use Rattle.spx_messages.specs.declared.arrived.Arrived.TheVariants as Arriveds
use Rattle.spx_messages.specs.Changes.{ChangesEnd, ReleasesEnd}
use Rattle.spx_messages.specs.EndpointView.{Held, held_at}
use Rattle.spx_messages.specs.Taking.{TakenView, result_view, take_end}
use Rattle.spx_messages.specs.declared.fault.EndFault.{EndFault}
use Rattle.spx_messages.specs.declared.fault.EndFault.TheVariants as EndFaults
use Rattle.spx_messages.specs.declared.taken.Taken.{Taken}
use Rattle.spx_messages.specs.declared.message_fault.MessageFault.TheVariants as MessageFaults
use Rattle.spx_theory.specs.Note.{Opened, Released}
use Rattle.spx_theory.specs.EndCalls.{ChangesQuietly, DialsFrom, ReleasesOf}
use Rattle.spx_theory.specs.HostSteps.{TakesOf, ends_after, here_after, marked_over, unit_notes, whole_notes}
use Rattle.spx_theory.specs.World.{EndNow, HostState, IsPresentAt, end_at, held_in, held_of, home_at}
use Rattle.ipx_net_hosts.specs.Hosts.{DeliveredAt, FitTogether, HostsView, LeftBy, LeftAs, LeftAt, Noting, StillPresent, is_lost, is_present, is_present_now}
use Rattle.ipx_net_hosts.specs.Refusing.{end_held, held_by, want}
use Rattle.ipx_net_hosts.specs.HostStates.{ChangesAt, DialsAt, ReleasesAt, RefusalKeeps, StaysAt}
use Rattle.ipx_net_hosts.specs.declared.refusal.Refusal.{Refusal}
use Rattle.ipx_net_hosts.specs.declared.refusal.Refusal.TheVariants as Refusals

pub there_within : {A : Type 0} (xs : List A) (k : ℕ) (x : A) → slice_get xs k ≡ Some x → k < length xs
there_within [] k x e = absurd (cc e)
there_within (z ∷ zs) zero x e = omega arith
there_within (z ∷ zs) (suc k) x e = let below : k < length zs = there_within zs k x e in omega arith

-- what is there is what is read
pub there_read : {A : Type 0} (xs : List A) (k : ℕ) (x d : A) → slice_get xs k ≡ Some x → get_or xs k d ≡ x
there_read [] k x d e = absurd (cc e)
there_read (z ∷ zs) zero x d e = cc e
there_read (z ∷ zs) (suc k) x d e = there_read zs k x d e

abbrev pub made : List HostState → List EndNow → HostsView
made ss es = record { stations = ss; ends = es }

holds_still : (o : Option EndNow) → is_present_now o ≡ true → (e : EndNow) × (o ≡ Some e) × (e.released ≡ false)
holds_still None is = absurd (cc is)
holds_still (Some e) is = (e, refl, not_true e.released is)
  where
    not_true : (b : Bool) → not b ≡ true → b ≡ false
    not_true true is = absurd (cc is)
    not_true false is = refl

pub standing : (v : HostsView) (ss : List HostState) (es : List EndNow) (who : ℕ) (e : EndNow) → made ss es ≡ v → e ≡ get_or es who e → FitTogether v → is_present v who ≡ true → StillPresent v who e.host e.id
standing v ss es who e view read order is =
    let s : (x : EndNow) × (slice_get v.ends who ≡ Some x) × (x.released ≡ false) = holds_still (slice_get v.ends who) is in
    let at : slice_get es who ≡ Some s.0 = ap (λ (u : HostsView). slice_get u.ends who) view ∙ s.1 in
    let same : s.0 ≡ e = sym (there_read es who s.0 e at) ∙ sym read in
    let here : slice_get v.ends who ≡ Some e = s.1 ∙ ap Some same in
    let free : e.released ≡ false = ap (λ (x : EndNow). x.released) (sym same) ∙ s.2 in
    let w : IsPresentAt v.stations who e = (order [] [] 0).ends who e here free in
    record {
      end' = e;
      at = here;
      stands = free;
      host_is = refl;
      id_is = refl;
      station = w.station;
      there = w.there;
      known = w.known;
      held = w.held;
      live = w.live;
    }

pub host_within : (v : HostsView) (ss : List HostState) (es : List EndNow) (who host id : ℕ) → made ss es ≡ v → StillPresent v who host id → host < length ss
host_within v ss es who host id view s = there_within ss host s.station (ap (λ (u : HostsView). slice_get u.stations host) view ∙ s.there)

pub end_within : (v : HostsView) (ss : List HostState) (es : List EndNow) (who host id : ℕ) → made ss es ≡ v → StillPresent v who host id → who < length es
end_within v ss es who host id view s = there_within es who s.end' (ap (λ (u : HostsView). slice_get u.ends who) view ∙ s.at)

-- a host refused
left_at : (v : HostsView) (ss : List HostState) (es : List EndNow) (host : ℕ) (x y : HostState) (t : ℕ) → made ss es ≡ v → x ≡ get_or ss host x → host < length ss
    → StaysAt x y → LeftAt host v (made (set ss host y) es) t
left_at v ss es host x y t view read within same =
    subst (λ u. LeftAt host u (made (set ss host y) es) t) view (
    λ parcels log. record {
      before = x;
      there = slice_get_read ss (length ss) host x refl within read;
      after = y;
      same = same.same;
      said = same.said;
      heard = same.heard;
      here = same.here;
      hosts = refl;
      ends = refl;
      parcels = refl;
      log = refl;
      moment = refl;
    })

-- the host of an end refused
pub left : (v : HostsView) (ss : List HostState) (es : List EndNow) (who host id : ℕ) (x y : HostState) (t : ℕ) → made ss es ≡ v → x ≡ get_or ss host x → StillPresent v who host id
    → StaysAt x y → LeftAs who v (made (set ss host y) es) t
left v ss es who host id x y t view read s same =
    record {
      end' = s.end';
      at = s.at;
      left = subst (λ k. LeftAt k v (made (set ss host y) es) t) (sym s.host_is) (left_at v ss es host x y t view read (host_within v ss es who host id view s) same);
    }

pub left_err : {A E : Type 0} (r : Result A E) (v : HostsView) (ss : List HostState) (es : List EndNow) (who host id : ℕ) (x y : HostState) (t : ℕ) → made ss es ≡ v → x ≡ get_or ss host x → StillPresent v who host id
    → OnErr r (StaysAt x y) → OnErr r (LeftAs who v (made (set ss host y) es) t)
left_err (Ok a) v ss es who host id x y t view read s same = tt
left_err (Err f) v ss es who host id x y t view read s same = left v ss es who host id x y t view read s same

-- ---- dial

pub dialled : (v : HostsView) (ss : List HostState) (es es' : List EndNow) (host who : ℕ) (x y : HostState) (socket : Socket) (to : Address) (buffers t id : ℕ)
    → made ss es ≡ v → x ≡ get_or ss host x → host < length ss → (0 < buffers) × (buffers ≤ most_units) → who ≡ length es
    → DialsAt x who socket to buffers t id y → es' ≡ es ++ record { host = host; id = id; released = false; overlong = false } ∷ []
    → (i : ℕ) × Noting v (made (set ss host y) es') t (Opened (length v.ends) host buffers ∷ []) (λ w w'. DialsFrom w host socket to buffers i w')
dialled v ss es es' host who x y socket to buffers t id view read within range number d more =
    let P : HostsView → Type 0 = λ u. (i : ℕ) × Noting u (made (set ss host y) es') t (Opened (length u.ends) host buffers ∷ []) (λ w w'. DialsFrom w host socket to buffers i w') in
    subst P view (
      id,
      λ parcels log. record {
        range = range;
        before = x;
        there = slice_get_read ss (length ss) host x refl within read;
        after = y;
        room = d.room;
        free = d.free;
        adds = d.adds;
        here = d.here ∙ ap (λ n. x.here ++ (id, n) ∷ []) number;
        hosts = refl;
        ends = more;
        parcels = refl;
        log = refl;
        moment = refl;
      },
    )

-- ---- release

pub released : (v : HostsView) (ss : List HostState) (es : List EndNow) (who host id : ℕ) (x y : HostState) (e : EndNow) (t : ℕ) → made ss es ≡ v → x ≡ get_or ss host x → e ≡ get_or es who e
    → StillPresent v who host id → ReleasesAt x id y
    → Noting v (made (set ss host y) (set es who (record e { released = true }))) t (Released who ∷ []) (λ w w'. ReleasesOf w who w')
released v ss es who host id x y e t view read end_read s r =
    let P : HostsView → Type 0 = λ u. StillPresent u who host id → Noting u (made (set ss host y) (set es who (record e { released = true }))) t (Released who ∷ []) (λ w w'. ReleasesOf w who w') in
    subst P view core s
  where
    core : StillPresent (made ss es) who host id → Noting (made ss es) (made (set ss host y) (set es who (record e { released = true }))) t (Released who ∷ []) (λ w w'. ReleasesOf w who w')
    core s parcels log =
        let within : host < length ss = there_within ss host s.station s.there in
        let same : e ≡ s.end' = end_read ∙ there_read es who s.end' e s.at in
        record {
          end' = s.end';
          at = s.at;
          stands = s.stands;
          before = x;
          there = ap (slice_get ss) s.host_is ∙ slice_get_read ss (length ss) host x refl within read;
          after = y;
          releases = subst (λ i. ReleasesEnd x.endpoint y.endpoint i) (sym s.id_is) r.releases;
          forgotten = ap (end_at y.here) s.id_is ∙ r.forgotten;
          known = λ q apart. r.known q (λ same_id. apart (same_id ∙ sym s.id_is));
          hosts = ap (λ k. set ss k y) (sym s.host_is);
          ends = ap (λ (z : EndNow). set es who (record z { released = true })) same;
          parcels = refl;
          log = refl;
          moment = refl;
        }

-- ---- take

abbrev Answer : Type 0
Answer = Result TakenView EndFault

pub lost_marks : (a : Result TakenView EndFault) (e : EndNow) → is_lost a ≡ true → marked_over a e ≡ record e { overlong = true }
lost_marks (Ok t) e is = absurd (cc is)
lost_marks (Err f) e is = refl

only_want : (f : EndFault) → is_lost (Err f) ≡ false → f ≡ want
only_want (EndFaults.Message MessageFaults.OutOfMemory) is = refl
only_want (EndFaults.Message (MessageFaults.TooLong n)) is = absurd (cc is)
only_want (EndFaults.Message (MessageFaults.BadStream n)) is = absurd (cc is)
only_want (EndFaults.Message MessageFaults.Overlong) is = absurd (cc is)
only_want (EndFaults.Offer f) is = absurd (cc is)
only_want (EndFaults.Links f) is = absurd (cc is)
only_want EndFaults.NoSuchEnd is = absurd (cc is)

pub kept_marks : (a : Result TakenView EndFault) (e : EndNow) → is_lost a ≡ false → a ≢ Err want → marked_over a e ≡ e
kept_marks (Ok t) e is not_want = refl
kept_marks (Err f) e is not_want = absurd (not_want (ap Err (only_want f is)))

pub want_is_kept : (r : Result Taken EndFault) → r ≡ Err want → is_lost (result_view r) ≡ false
want_is_kept r is = ap (λ z. is_lost (result_view z)) is

same_fault : (r : Result TakenView EndFault) (a b : EndFault) → r ≡ Err a → r ≡ Err b → a ≡ b
same_fault r a b x y = cc

pub view_not_want : (r : Result Taken EndFault) → r ≢ Err want → result_view r ≢ Err want
view_not_want (Ok t) not_want e = cc e
view_not_want (Err f) not_want e = not_want (ap Err (same_fault (Err f) f want refl e))

at_held : (o : Option Held) (P : Held → Type 0) (h : Held) → IfSome o P → o ≡ Some h → P h
at_held o P h holds is = subst (λ z. IfSome z P) is holds

pub set_there : (es : List EndNow) (k : ℕ) (e x : EndNow) → slice_get es k ≡ Some e → x ≡ e → set es k x ≡ es
set_there [] k e x at same = refl
set_there (z ∷ zs) zero e x at same = ap (λ w. w ∷ zs) (same ∙ first z e at)
  where
    first : (a b : EndNow) → Some a ≡ Some b → b ≡ a
    first a b e = cc
set_there (z ∷ zs) (suc k) e x at same = ap (λ ws. z ∷ ws) (set_there zs k e x at same)

pub taken : (v : HostsView) (ss : List HostState) (es es' : List EndNow) (who host id : ℕ) (x y : HostState) (r : Result Taken EndFault) (u : Option Unit) (t : ℕ) → made ss es ≡ v → x ≡ get_or ss host x
    → StillPresent v who host id
    → IfSome (held_at x.endpoint id) (λ h. u ≡ first_of h.link.held)
    → IfSome (held_at x.endpoint id) (λ h. r ≢ Err want → (result_view r ≡ (take_end h).0) × ChangesAt x id (take_end h).1 y)
    → r ≢ Err want
    → ((e : EndNow) → slice_get es who ≡ Some e → es' ≡ set es who (marked_over (result_view r) e))
    → Noting v (made (set ss host y) es') t (unit_notes (result_view r) u who ++ whole_notes (result_view r) who) (λ w w'. TakesOf w who (result_view r) w')
taken v ss es es' who host id x y r u t view read s unit takes not_want ends =
    let P : HostsView → Type 0 = λ z. StillPresent z who host id → Noting z (made (set ss host y) es') t (unit_notes (result_view r) u who ++ whole_notes (result_view r) who) (λ w w'. TakesOf w who (result_view r) w') in
    subst P view core s
  where
    core : StillPresent (made ss es) who host id → Noting (made ss es) (made (set ss host y) es') t (unit_notes (result_view r) u who ++ whole_notes (result_view r) who) (λ w w'. TakesOf w who (result_view r) w')
    core s parcels log =
        let within : host < length ss = there_within ss host s.station s.there in
        let there : slice_get ss host ≡ Some x = slice_get_read ss (length ss) host x refl within read in
        let same : x ≡ s.station = read ∙ there_read ss host s.station x s.there in
        let holds : held_at x.endpoint id ≡ Some s.held = ap (λ (z : HostState). held_at z.endpoint id) same ∙ s.live in
        let came : (result_view r ≡ (take_end s.held).0) × ChangesAt x id (take_end s.held).1 y = at_held (held_at x.endpoint id) (λ h. r ≢ Err want → (result_view r ≡ (take_end h).0) × ChangesAt x id (take_end h).1 y) s.held takes holds not_want in
        let first : u ≡ first_of s.held.link.held = at_held (held_at x.endpoint id) (λ h. u ≡ first_of h.link.held) s.held unit holds in
        record {
          end' = s.end';
          at = s.at;
          stands = s.stands;
          before = x;
          there = ap (slice_get ss) s.host_is ∙ there;
          after = y;
          held = s.held;
          holds = ap (held_at x.endpoint) s.id_is ∙ holds;
          answers = came.0;
          changes = subst (λ i. ChangesEnd x.endpoint y.endpoint i (take_end s.held).1) (sym s.id_is) came.1.changes;
          here = came.1.here;
          hosts = ap (λ k. set ss k y) (sym s.host_is);
          ends = ends s.end' s.at;
          parcels = refl;
          log = sym (append_assoc log (unit_notes (result_view r) u who) (whole_notes (result_view r) who))
              ∙ ap (λ (o : Option Unit). log ++ unit_notes (result_view r) o who ++ whole_notes (result_view r) who) first;
          moment = refl;
        }

-- ---- a link is replaced by another, and nothing is noted

quietly : (v : HostsView) (ss : List HostState) (es : List EndNow) (who host id : ℕ) (x y : HostState) (t : ℕ) (f : LinkView → LinkView) → made ss es ≡ v → x ≡ get_or ss host x
    → StillPresent v who host id → IfSome (held_at x.endpoint id) (λ h. ChangesAt x id (record h { link = f h.link }) y)
    → Noting v (made (set ss host y) es) t [] (λ w w'. ChangesQuietly w who f w')
quietly v ss es who host id x y t f view read s changes =
    let P : HostsView → Type 0 = λ z. StillPresent z who host id → Noting z (made (set ss host y) es) t [] (λ w w'. ChangesQuietly w who f w') in
    subst P view core s
  where
    core : StillPresent (made ss es) who host id → Noting (made ss es) (made (set ss host y) es) t [] (λ w w'. ChangesQuietly w who f w')
    core s parcels log =
        let within : host < length ss = there_within ss host s.station s.there in
        let there : slice_get ss host ≡ Some x = slice_get_read ss (length ss) host x refl within read in
        let same : x ≡ s.station = read ∙ there_read ss host s.station x s.there in
        let holds : held_at x.endpoint id ≡ Some s.held = ap (λ (z : HostState). held_at z.endpoint id) same ∙ s.live in
        let after : Held = record (s.held) { link = f s.held.link } in
        let came : ChangesAt x id after y = at_held (held_at x.endpoint id) (λ h. ChangesAt x id (record h { link = f h.link }) y) s.held changes holds in
        record {
          end' = s.end';
          at = s.at;
          stands = s.stands;
          before = x;
          there = ap (slice_get ss) s.host_is ∙ there;
          after = y;
          held = s.held;
          holds = ap (held_at x.endpoint) s.id_is ∙ holds;
          changes = subst (λ i. ChangesEnd x.endpoint y.endpoint i after) (sym s.id_is) came.changes;
          here = came.here;
          hosts = ap (λ k. set ss k y) (sym s.host_is);
          ends = refl;
          parcels = refl;
          log = append-nil log;
          moment = refl;
        }

pub quietly_ok : {A E : Type 0} (r : Result A E) (v : HostsView) (ss : List HostState) (es : List EndNow) (who host id : ℕ) (x y : HostState) (t : ℕ) (f : LinkView → LinkView) → made ss es ≡ v
    → x ≡ get_or ss host x → StillPresent v who host id → IfSome (held_at x.endpoint id) (λ h. OnOk r (ChangesAt x id (record h { link = f h.link }) y))
    → OnOk r (Noting v (made (set ss host y) es) t [] (λ w w'. ChangesQuietly w who f w'))
quietly_ok (Ok a) v ss es who host id x y t f view read s changes = quietly v ss es who host id x y t f view read s changes
quietly_ok (Err e) v ss es who host id x y t f view read s changes = tt

-- ---- refusals

pub left_so : (f : Refusal) (v : HostsView) (ss : List HostState) (es : List EndNow) (host : ℕ) (x y : HostState) (t : ℕ) → made ss es ≡ v → x ≡ get_or ss host x → host < length ss
    → RefusalKeeps f x y → LeftBy f host v (made (set ss host y) es) t
left_so (Refusals.ByEnd f) v ss es host x y t view read within same = left_at v ss es host x y t view read within same
left_so Refusals.OutOfMemory v ss es host x y t view read within same = tt

pub host_there : (v : HostsView) (ss : List HostState) (es : List EndNow) (host : ℕ) → made ss es ≡ v → host < length v.stations → host < length ss
host_there v ss es host view there = subst (λ (u : HostsView). host < length u.stations) (sym view) there

pub marks_lost : (es : List EndNow) (who : ℕ) (e : EndNow) (a : Result TakenView EndFault) → e ≡ get_or es who e → is_lost a ≡ true → (x : EndNow) → slice_get es who ≡ Some x
    → set es who (record e { overlong = true }) ≡ set es who (marked_over a x)
marks_lost es who e a read is x at =
    let same : e ≡ x = read ∙ there_read es who x e at in
    ap (λ (z : EndNow). set es who (record z { overlong = true })) same ∙ ap (set es who) (sym (lost_marks a x is))

pub marks_kept : (es : List EndNow) (who : ℕ) (a : Result TakenView EndFault) → is_lost a ≡ false → a ≢ Err want → (x : EndNow) → slice_get es who ≡ Some x → es ≡ set es who (marked_over a x)
marks_kept es who a is not_want x at = sym (set_there es who x (marked_over a x) at (kept_marks a x is not_want))

pub stays_held : (v : HostsView) (ss : List HostState) (es : List EndNow) (who host id : ℕ) (x y : HostState) → made ss es ≡ v → x ≡ get_or ss host x → StillPresent v who host id
    → IfSome (held_at x.endpoint id) (λ _. StaysAt x y) → StaysAt x y
stays_held v ss es who host id x y view read s stays =
    let there : slice_get ss host ≡ Some s.station = ap (λ (u : HostsView). slice_get u.stations host) view ∙ s.there in
    let same : x ≡ s.station = read ∙ there_read ss host s.station x there in
    at_held (held_at x.endpoint id) (λ _. StaysAt x y) s.held stays (ap (λ (z : HostState). held_at z.endpoint id) same ∙ s.live)

-- what is held is held
pub unheld : (o : Option Held) (P : Type 0) → o ≡ None → IfSome o (λ _. P)
unheld None P is = tt
unheld (Some h) P is = absurd (cc is)

pub known_held : (v : HostsView) (ss : List HostState) (es : List EndNow) (who host id : ℕ) (x : HostState) (P : Type 0) → made ss es ≡ v → x ≡ get_or ss host x → StillPresent v who host id
    → IfSome (held_at x.endpoint id) (λ _. P) → P
known_held v ss es who host id x P view read s holds =
    let there : slice_get ss host ≡ Some s.station = ap (λ (u : HostsView). slice_get u.stations host) view ∙ s.there in
    let same : x ≡ s.station = read ∙ there_read ss host s.station x there in
    at_held (held_at x.endpoint id) (λ _. P) s.held holds (ap (λ (z : HostState). held_at z.endpoint id) same ∙ s.live)

-- what an end has is what its host holds under its id
pub held_there : (v : HostsView) (ss : List HostState) (es : List EndNow) (who host id : ℕ) (x : HostState) → made ss es ≡ v → x ≡ get_or ss host x → StillPresent v who host id
    → held_at x.endpoint id ≡ end_held v.stations v.ends who
held_there v ss es who host id x view read s =
    let there : slice_get ss host ≡ Some s.station = ap (λ (u : HostsView). slice_get u.stations host) view ∙ s.there in
    let same : x ≡ s.station = read ∙ there_read ss host s.station x there in
    let of_end : end_held v.stations v.ends who ≡ held_of v.stations s.end' = ap (held_by v.stations) s.at in
    let not_released : held_of v.stations s.end' ≡ held_in (slice_get v.stations s.end'.host) s.end'.id = ap (λ b. cond b None (held_in (slice_get v.stations s.end'.host) s.end'.id)) s.stands in
    let at_host : held_in (slice_get v.stations s.end'.host) s.end'.id ≡ held_in (Some s.station) id =
    ap (λ k. held_in (slice_get v.stations k) s.end'.id) s.host_is ∙ ap (λ k. held_in (slice_get v.stations host) k) s.id_is ∙ ap (λ (o : Option HostState). held_in o id) s.there in
    ap (λ (z : HostState). held_at z.endpoint id) same ∙ sym (of_end ∙ not_released ∙ at_host)

-- what is at a host is what was read of it
pub station_there : (v : HostsView) (ss : List HostState) (es : List EndNow) (host : ℕ) (x : HostState) → made ss es ≡ v → x ≡ get_or ss host x → host < length ss → Some x ≡ slice_get v.stations host
station_there v ss es host x view read within =
    sym (slice_get_read ss (length ss) host x refl within read) ∙ ap (λ (u : HostsView). slice_get u.stations host) view

-- ---- addresses

pub homes_set : (v : HostsView) (ss : List HostState) (es : List EndNow) (host : ℕ) (x y : HostState) → made ss es ≡ v → x ≡ get_or ss host x → home_at y ≡ home_at x → map home_at (set ss host y) ≡ map home_at v.stations
homes_set v ss es host x y view read home =
    map-set_same home_at ss host y x (home ∙ ap home_at read) ∙ ap (λ (u : HostsView). map home_at u.stations) view

-- ---- deliver

-- a datagram that makes no link makes no end
ends_kept : (a : Arrived) (host : ℕ) (es : List EndNow) → ((id : ℕ) → a ≢ Arriveds.Accepted id) → ends_after a host es ≡ es
ends_kept (Arriveds.Bad f) host es other = refl
ends_kept Arriveds.NotOurs host es other = refl
ends_kept (Arriveds.BadSpx f) host es other = refl
ends_kept Arriveds.NoListener host es other = refl
ends_kept Arriveds.NoRoom host es other = refl
ends_kept Arriveds.Stranger host es other = refl
ends_kept (Arriveds.Accepted id) host es other = absurd (other id refl)
ends_kept (Arriveds.Link id r) host es other = refl

pub delivered : (v : HostsView) (ss : List HostState) (es : List EndNow) (host count : ℕ) (x y : HostState) (bytes : List ℕ) (t : ℕ) (a : Arrived) → made ss es ≡ v → x ≡ get_or ss host x → host < length ss → count ≡ length es
    → ((id : ℕ) → a ≢ Arriveds.Accepted id) → Arrives x.endpoint bytes t a y.endpoint → y.here ≡ here_after a count x.here → DeliveredAt v host bytes t a (made (set ss host y) es)
delivered v ss es host count x y bytes t a view read within counted other arrives here =
    subst (λ u. DeliveredAt u host bytes t a (made (set ss host y) es)) view (record {
      before = x;
      there = slice_get_read ss (length ss) host x refl within read;
      after = y;
      arrives = arrives;
      here = here ∙ ap (λ n. here_after a n x.here) counted;
      stations = refl;
      ends = sym (ends_kept a host es other);
    })
