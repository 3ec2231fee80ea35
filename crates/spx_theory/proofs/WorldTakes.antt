-- A take from an end is at most one deed.
use Rattle.std.proofs.Common.{◌≡◌, ◌≢◌, ◌≤◌, ℕ, zero, suc, true, false, cond, List, [], ◌∷◌, ◌++◌, length, map, set, Option, Some, None, Ok, Err, refl, sym, ◌∙◌, inl, inr, ap, arith, append_assoc}
use Rattle.std.specs.Prelude.{Result, slice_get}
use Rattle.std.proofs.lemmas.List.{append-nil, map-set}
use Rattle.std.proofs.lemmas.Bool.{cases_Bool, cond-true, cond-false}
use Rattle.std.proofs.lemmas.Bool.Decides.{nat_tests, Decides-eqb, Decides-ltb}
use Rattle.spx_messages.specs.Message.{most_bytes}
use Rattle.spx_link.specs.declared.unit.Unit.{Unit}
use Rattle.spx_link.specs.Limits.{end_stream}
use Rattle.spx_link.specs.LinkView.{LinkView, is_end}
use Rattle.spx_link.specs.Offer.{take_link, take_held, first_of}
use Rattle.spx_messages.specs.Joining.{Joining, added, is_overlong}
use Rattle.spx_theory.specs.Note.{Note}
use Rattle.spx_theory.specs.Scene.{Scene, IsPresent, with_entries, put_end}
use Rattle.spx_theory.specs.Deeds.{Takes, Overruns}
use Rattle.spx_messages.specs.EndpointView.{Held, held_at}
use Rattle.spx_messages.specs.declared.fault.EndFault.{EndFault}
use Rattle.spx_messages.specs.Taking.{TakenView, Nothing, Part, Whole, PeerEnd, overlong, taken_held, overrun, joins_on, takes_data, takes_first, take_end}
use Rattle.spx_theory.specs.World.{World, HostState, EndNow, present_with, present_of, home_at, bytes_of, segment_of, scene_of, InOrder}
use Rattle.spx_theory.specs.HostSteps.{TakesOf, unit_notes, whole_notes, marked_over}
use Rattle.spx_theory.specs.DeedRuns.{Deeds}
use Rattle.spx_theory.proofs.Places.{get_set_here}
use Rattle.spx_theory.proofs.Doing.{no_deed, one_deed}
use Rattle.spx_theory.proofs.StillPresent.{held_holds, holds_there, ends_changed, made, scene_after}

pub set_twice : {A : Type 0} (xs : List A) (k : ℕ) (x y : A) → set (set xs k x) k y ≡ set xs k y
set_twice [] k x y = refl
set_twice (z ∷ zs) zero x y = refl
set_twice (z ∷ zs) (suc k) x y = ap (λ ws. z ∷ ws) (set_twice zs k x y)

set_there : {A : Type 0} (xs : List A) (k : ℕ) (x : A) → slice_get xs k ≡ Some x → set xs k x ≡ xs
set_there [] k x e = refl
set_there (z ∷ zs) zero x e = ap (λ w. w ∷ zs) (sym (first z x e))
  where
    first : {A : Type 0} (a b : A) → Some a ≡ Some b → a ≡ b
    first a b e = cc
set_there (z ∷ zs) (suc k) x e = ap (λ ws. z ∷ ws) (set_there zs k x e)

pub marked_host : (a : Result TakenView EndFault) (e : EndNow) → (marked_over a e).host ≡ e.host
marked_host (Ok t) e = refl
marked_host (Err f) e = refl

pub marked_id : (a : Result TakenView EndFault) (e : EndNow) → (marked_over a e).id ≡ e.id
marked_id (Ok t) e = refl
marked_id (Err f) e = refl

pub marked_holds : (a : Result TakenView EndFault) (e : EndNow) → (marked_over a e).released ≡ e.released
marked_holds (Ok t) e = refl
marked_holds (Err f) e = refl

first_taken : (l : LinkView) (us : List Unit) → (take_held l us).0 ≡ first_of us
first_taken l [] = refl
first_taken l (u ∷ us) = refl

abbrev notes_for : Result TakenView EndFault → Option Unit → ℕ → List Note
notes_for a u who = unit_notes a u who ++ whole_notes a who

module _ (old new : World) (who : ℕ) (answer : Result TakenView EndFault) (o : InOrder old) (t : TakesOf old who answer new) where
  abbrev scene_taken_as : Result TakenView EndFault → Held → List Note → Scene
  scene_taken_as a after ns = with_entries (put_end (scene_of old) who (present_with (marked_over a t.end') (Some after))) ns

  -- the scene, by the result of the take
  scene_taken : (a : Result TakenView EndFault) (after : Held) (u : Option Unit) → take_end t.held ≡ (a, after) → first_of t.held.link.held ≡ u → scene_of new ≡ scene_taken_as a after (notes_for a u who)
  scene_taken a after u is first =
      let e' : EndNow = marked_over a t.end' in
      let hosts' : List HostState = set old.hosts t.end'.host t.after in
      let same : answer ≡ a = t.answers ∙ ap (λ (p : Result TakenView EndFault × Held). p.0) is in
      let holds : held_at t.after.endpoint t.end'.id ≡ Some after = t.changes.held ∙ ap (λ (p : Result TakenView EndFault × Held). Some p.1) is in
      let there : slice_get hosts' e'.host ≡ Some t.after = ap (slice_get hosts') (marked_host a t.end') ∙ get_set_here old.hosts t.end'.host t.before t.after t.there in
      let stand : present_of hosts' e' ≡ present_with e' (Some after) =
      ap (present_with e') (held_holds hosts' e' t.after (marked_holds a t.end' ∙ t.stands) there ∙ ap (held_at t.after.endpoint) (marked_id a t.end') ∙ holds) in
      let ends : map (present_of hosts') new.ends ≡ set (map (present_of old.hosts) old.ends) who (present_with e' (Some after)) =
      ap (map (present_of hosts')) (t.ends ∙ ap (λ x. set old.ends who (marked_over x t.end')) same) ∙ map-set (present_of hosts') old.ends who e'
      ∙ ap (λ es. set es who (present_of hosts' e')) (ends_changed old o t.end'.host t.before t.after who t.end' after t.there t.at t.stands refl holds t.changes.others)
      ∙ set_twice (map (present_of old.hosts) old.ends) who (present_with t.end' (Some after)) (present_of hosts' e')
      ∙ ap (set (map (present_of old.hosts) old.ends) who) stand in
      let notes : unit_notes answer (first_of t.held.link.held) who ++ whole_notes answer who ≡ notes_for a u who =
      ap (λ x. notes_for x (first_of t.held.link.held) who) same ∙ ap (λ x. notes_for a x who) first in
      scene_after old new t.end'.host t.before t.after (set (map (present_of old.hosts) old.ends) who (present_with e' (Some after))) (notes_for a u who) t.there t.hosts t.changes.self
      ends t.parcels (t.log ∙ log_is answer (first_of t.held.link.held) ∙ ap (λ ns. old.log ++ ns) notes)
    where
      log_is : (x : Result TakenView EndFault) (v : Option Unit) → old.log ++ unit_notes x v who ++ whole_notes x who ≡ old.log ++ (unit_notes x v who ++ whole_notes x who)
      log_is x v = append_assoc old.log (unit_notes x v who) (whole_notes x who)

  stands : IsPresent (scene_of old) who (present_with t.end' (Some t.held)) t.held.link
  stands = record { there = holds_there old.hosts old.ends who t.end' t.before t.held t.at t.stands t.there t.holds; link = refl }

  gives : (u : Unit) → first_of t.held.link.held ≡ Some u → (take_link t.held.link).0 ≡ Some u
  gives u first = first_taken t.held.link t.held.link.held ∙ first

  -- nothing is held
  takes_none : first_of t.held.link.held ≡ None → Deeds (scene_of old) (scene_of new)
  takes_none first =
      no_deed (scene_of old) (scene_of new)
      (scene_taken (Ok Nothing) t.held None (ap (takes_first t.held) first) first
      ∙ ap (λ es. made (map home_at old.hosts) es (map bytes_of old.parcels) (map segment_of old.parcels) (old.log ++ [])) (set_there (map (present_of old.hosts) old.ends) who (present_with t.end' (Some t.held)) stands.there)
      ∙ ap (made (map home_at old.hosts) (map (present_of old.hosts) old.ends) (map bytes_of old.parcels) (map segment_of old.parcels)) (append-nil old.log))

  takes_end : (u : Unit) → first_of t.held.link.held ≡ Some u → is_end u ≡ true → Deeds (scene_of old) (scene_of new)
  takes_end u first is =
      let came : take_end t.held ≡ (Ok PeerEnd, taken_held t.held) = ap (takes_first t.held) first ∙ cond-true (is_end u) (Ok PeerEnd, taken_held t.held) (takes_data t.held u) is in
      let none : Joining = record { messages = []; rest = t.held.rest } in
      one_deed (Takes who u) (scene_of old) (scene_of new) (record {
        stand = present_with t.end' (Some t.held);
        link = t.held.link;
        stands = stands;
        gives = gives u first;
        joins = none;
        joined = sym (cond-true {A = Joining} (is_end u) none (cond {A = Joining} u.last (record { messages = added t.held.rest u ∷ []; rest = None }) (record { messages = []; rest = Some (added t.held.rest u) })) is);
        short = λ no. absurd (no ((Decides-eqb u.stream end_stream).0 is));
        after = scene_taken (Ok PeerEnd) (taken_held t.held) (Some u) came first;
      })

  not_the_end : (u : Unit) → is_end u ≡ false → u.stream ≢ end_stream
  not_the_end u is e = cc (sym is ∙ (Decides-eqb u.stream end_stream).1 e)

  overruns : (u : Unit) → first_of t.held.link.held ≡ Some u → is_end u ≡ false → is_overlong t.held.rest u ≡ true → Deeds (scene_of old) (scene_of new)
  overruns u first is long =
      let came : take_end t.held ≡ (Err overlong, overrun t.held) =
      ap (takes_first t.held) first ∙ cond-false (is_end u) (Ok PeerEnd, taken_held t.held) (takes_data t.held u) is ∙ cond-true (is_overlong t.held.rest u) (Err overlong, overrun t.held) (joins_on t.held u) long in
      one_deed (Overruns who u) (scene_of old) (scene_of new) (record {
        stand = present_with t.end' (Some t.held);
        link = t.held.link;
        stands = stands;
        gives = gives u first;
        data' = not_the_end u is;
        long = (Decides-ltb most_bytes (length (added t.held.rest u).body)).0 long;
        after = scene_taken (Err overlong) (overrun t.held) (Some u) came first
            ∙ ap (made (map home_at old.hosts) (set (map (present_of old.hosts) old.ends) who (present_with (marked_over (Err overlong) t.end') (Some (overrun t.held)))) (map bytes_of old.parcels) (map segment_of old.parcels)) (append-nil old.log);
      })

  short_enough : (u : Unit) → is_overlong t.held.rest u ≡ false → length (added t.held.rest u).body ≤ 65535
  short_enough u not_long = grind (arith, nat_tests)

  takes_part : (u : Unit) → first_of t.held.link.held ≡ Some u → is_end u ≡ false → is_overlong t.held.rest u ≡ false → u.last ≡ false → Deeds (scene_of old) (scene_of new)
  takes_part u first is long last =
      let after : Held = record (taken_held t.held) { rest = Some (added t.held.rest u) } in
      let came : take_end t.held ≡ (Ok Part, after) =
      ap (takes_first t.held) first ∙ cond-false (is_end u) (Ok PeerEnd, taken_held t.held) (takes_data t.held u) is ∙ cond-false (is_overlong t.held.rest u) (Err overlong, overrun t.held) (joins_on t.held u) long
      ∙ cond-false u.last (Ok (Whole (added t.held.rest u)), record (taken_held t.held) { rest = None }) (Ok Part, after) last in
      let j : Joining = record { messages = []; rest = t.held.rest } in
      let whole : Joining = record { messages = added t.held.rest u ∷ []; rest = None } in
      let part : Joining = record { messages = []; rest = Some (added t.held.rest u) } in
      one_deed (Takes who u) (scene_of old) (scene_of new) (record {
        stand = present_with t.end' (Some t.held);
        link = t.held.link;
        stands = stands;
        gives = gives u first;
        joins = part;
        joined = sym (cond-false {A = Joining} (is_end u) j (cond {A = Joining} u.last whole part) is ∙ cond-false {A = Joining} u.last whole part last);
        short = λ no. short_enough u long;
        after = scene_taken (Ok Part) after (Some u) came first;
      })

  takes_whole : (u : Unit) → first_of t.held.link.held ≡ Some u → is_end u ≡ false → is_overlong t.held.rest u ≡ false → u.last ≡ true → Deeds (scene_of old) (scene_of new)
  takes_whole u first is long last =
      let after : Held = record (taken_held t.held) { rest = None } in
      let came : take_end t.held ≡ (Ok (Whole (added t.held.rest u)), after) =
      ap (takes_first t.held) first ∙ cond-false (is_end u) (Ok PeerEnd, taken_held t.held) (takes_data t.held u) is ∙ cond-false (is_overlong t.held.rest u) (Err overlong, overrun t.held) (joins_on t.held u) long
      ∙ cond-true u.last (Ok (Whole (added t.held.rest u)), after) (Ok Part, record (taken_held t.held) { rest = Some (added t.held.rest u) }) last in
      let j : Joining = record { messages = []; rest = t.held.rest } in
      let whole : Joining = record { messages = added t.held.rest u ∷ []; rest = None } in
      let part : Joining = record { messages = []; rest = Some (added t.held.rest u) } in
      one_deed (Takes who u) (scene_of old) (scene_of new) (record {
        stand = present_with t.end' (Some t.held);
        link = t.held.link;
        stands = stands;
        gives = gives u first;
        joins = whole;
        joined = sym (cond-false {A = Joining} (is_end u) j (cond {A = Joining} u.last whole part) is ∙ cond-true {A = Joining} u.last whole part last);
        short = λ no. short_enough u long;
        after = scene_taken (Ok (Whole (added t.held.rest u))) after (Some u) came first;
      })

  takes_some : (u : Option Unit) → first_of t.held.link.held ≡ u → Deeds (scene_of old) (scene_of new)
  takes_some None first = takes_none first
  takes_some (Some u) first = elim (cases_Bool (is_end u)) [
    | inl is ↦ takes_end u first is
    | inr is ↦ elim (cases_Bool (is_overlong t.held.rest u)) [
      | inl long ↦ overruns u first is long
      | inr long ↦ elim (cases_Bool u.last) [ inl last ↦ takes_whole u first is long last | inr last ↦ takes_part u first is long last ]
    ]
  ]

  pub takes_deeds : Deeds (scene_of old) (scene_of new)
  takes_deeds = takes_some (first_of t.held.link.held) refl
