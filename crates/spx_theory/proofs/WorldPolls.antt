-- A poll of a host is a poll without a packet of each of its ends below the one that gives a packet, and at
-- most one that gives.
use Rattle.std.proofs.Common.{◌≡◌, ◌⊎◌, ℕ, false, List, [], ◌∷◌, ◌++◌, length, map, set, take, Option, Some, None, refl, sym, ◌∙◌, inl, inr, ap, subst, arith, length-set}
use Rattle.std.specs.Prelude.{slice_get}
use Rattle.std.proofs.lemmas.List.{append-nil}
use Rattle.std.proofs.lemmas.Bool.{cases_eq, cases_lt, cases_Bool}
use Rattle.ipx_wire.specs.declared.address.Node.{Node}
use Rattle.spx_link.specs.Poll.{poll_link}
use Rattle.spx_theory.specs.Scene.{PresentEnd, linked, sent_off, put_end}
use Rattle.spx_theory.specs.Deeds.{Gives}
use Rattle.spx_theory.specs.PacketsOnWay.{note_of}
use Rattle.spx_messages.specs.EndpointView.{Held, held_at}
use Rattle.spx_messages.specs.Polls.{RestsAt, polled_held, GivesNothing, Polls, home_of}
use Rattle.spx_theory.specs.World.{World, HostState, EndNow, present_with, present_of, home_at, bytes_of, segment_of, scene_of, InOrder}
use Rattle.spx_theory.specs.HostSteps.{PollsHost, sending_notes, given_notes, sent_letters}
use Rattle.spx_theory.specs.DeedRuns.{Deeds}
use Rattle.spx_theory.proofs.Places.{one_of_it, get_map, map_got, get_set_here, map_more, map_length, set_back}
use Rattle.spx_theory.proofs.Doing.{one_deed, then, RestsOr, with_ends, all_rest}
use Rattle.spx_theory.proofs.StillPresent.{held_same, held_holds, held_there, holds_there, the_only, made, made_same, scene_after, homes_same}
use Rattle.spx_theory.proofs.Finding.{Found, found}
use Rattle.spx_theory.proofs.WorldLists.{get_set}
use Rattle.spx_messages.specs.Polls as Polled

-- if the end is of this host and its id gave nothing, the end gives nothing; other ends stay as they are
rests_or : (w : World) → InOrder w → (k : ℕ) (s s' : HostState) → slice_get w.hosts k ≡ Some s → (j : ℕ) (x : EndNow) → slice_get w.ends j ≡ Some x
    → (x.released ≡ false → x.host ≡ k → RestsAt s.endpoint s'.endpoint w.moment x.id ⊎ (held_at s'.endpoint x.id ≡ held_at s.endpoint x.id))
    → RestsOr w.moment (present_of w.hosts x) (present_of (set w.hosts k s') x)
rests_or w o k s s' there j x at each = elim (cases_Bool x.released) [
  | inl gone ↦ inl (ap (present_with x) (held_same w.hosts k s s' x there (λ stands here. absurd (cc (sym gone ∙ stands)))))
  | inr stands ↦ elim (cases_eq x.host k) [
    | inr other ↦ inl (ap (present_with x) (held_same w.hosts k s s' x there (λ stands' here. absurd (other here))))
    | inl here ↦ elim (each stands here) [
      | inr same ↦ inl (ap (present_with x) (held_same w.hosts k s s' x there (λ stands' here'. same)))
      | inl rests ↦
          let holds : (h : Held) × (held_at s.endpoint x.id ≡ Some h) = held_there w o j x s k at stands here there in
          let asked : ((poll_link holds.0.link w.moment).0 ≡ None) × (held_at s'.endpoint x.id ≡ Some (polled_held holds.0 w.moment)) = rests.asked holds.0 holds.1 in
          let old : present_of w.hosts x ≡ present_with x (Some holds.0) = ap (present_with x) (held_holds w.hosts x s stands (ap (slice_get w.hosts) here ∙ there) ∙ holds.1) in
          let new : present_of (set w.hosts k s') x ≡ present_with x (Some (polled_held holds.0 w.moment)) =
          ap (present_with x) (held_holds (set w.hosts k s') x s' stands (ap (slice_get (set w.hosts k s')) here ∙ get_set_here w.hosts k s s' there) ∙ asked.1) in
          inr (holds.0.link, ap (λ (z : PresentEnd). z.link) old, asked.0, new ∙ ap (λ z. linked z (poll_link holds.0.link w.moment).1) (sym old))
    ]
  ]
]

same_length : (hosts hosts' : List HostState) (ends : List EndNow) → length (map (present_of hosts) ends) ≡ length (map (present_of hosts') ends)
same_length hosts hosts' ends = map_length (present_of hosts) ends ∙ sym (map_length (present_of hosts') ends)

-- each of the host's ends gives nothing
gives_nothing : (old new : World) (host : ℕ) (o : InOrder old) (d : PollsHost old host None new) → Deeds (scene_of old) (scene_of new)
gives_nothing old new host o d =
    let g : GivesNothing d.before.endpoint old.moment d.room d.written d.after.endpoint = d.polls.gives in
    let ends : List PresentEnd = map (present_of (set old.hosts host d.after)) old.ends in
    let rests : Deeds (scene_of old) (with_ends (scene_of old) ends) =
    all_rest (scene_of old) old.moment ends (same_length old.hosts (set old.hosts host d.after) old.ends)
    (λ j x y at at'.
    let it = map_got (present_of old.hosts) old.ends j x at in
    let new' : present_of (set old.hosts host d.after) it.0 ≡ y =
    one_of_it (slice_get ends j) (present_of (set old.hosts host d.after) it.0) y (get_map (present_of (set old.hosts host d.after)) old.ends j it.0 it.1) at' in
    let one : RestsOr old.moment (present_of old.hosts it.0) (present_of (set old.hosts host d.after) it.0) =
    rests_or old o host d.before d.after d.there j it.0 it.1 (λ stands here. inl (g.each it.0.id)) in
    subst (RestsOr old.moment x) new' (subst (λ z. RestsOr old.moment z (present_of (set old.hosts host d.after) it.0)) it.2 one)) in
    let notes : sending_notes d.before.here d.after.endpoint.said (length old.parcels) ≡ [] = ap (λ x. sending_notes d.before.here x (length old.parcels)) g.said in
    let is : scene_of new ≡ with_ends (scene_of old) ends =
    scene_after old new host d.before d.after ends [] d.there d.hosts d.polls.self (ap (map (present_of (set old.hosts host d.after))) d.ends) (d.parcels ∙ append-nil old.parcels)
    (d.log ∙ ap (λ ns. old.log ++ ns) notes)
    ∙ ap (made (map home_at old.hosts) ends (map bytes_of old.parcels) (map segment_of old.parcels)) (append-nil old.log) in
    subst (Deeds (scene_of old)) (sym is) rests

-- the ends below the one that gives give nothing, and then it gives
gives_one : (old new : World) (host : ℕ) (r : Node × ℕ) (o : InOrder old) (d : PollsHost old host (Some r) new) → Deeds (scene_of old) (scene_of new)
gives_one old new host r o d =
    let g : Polled.FirstLinkGives d.before.endpoint old.moment r.0 r.1 d.room d.written d.after.endpoint = d.polls.gives in
    let f : Found old host d.before g.id g.held = found old o host d.before g.id g.held d.there g.at in
    let hosts' : List HostState = set old.hosts host d.after in
    let x0 : PresentEnd = present_with f.end' (Some g.held) in
    let z0 : PresentEnd = present_with f.end' (Some (polled_held g.held old.moment)) in
    let news : List PresentEnd = map (present_of hosts') old.ends in
    let mids : List PresentEnd = set news f.who x0 in
    let bytes : List ℕ = take r.1 d.written in
    let host' : slice_get hosts' f.end'.host ≡ Some d.after = ap (slice_get hosts') f.host ∙ get_set_here old.hosts host d.before d.after d.there in
    let here : slice_get news f.who ≡ Some z0 = holds_there hosts' old.ends f.who f.end' d.after (polled_held g.held old.moment) f.at f.stands host' (ap (held_at d.after.endpoint) f.id_is ∙ g.becomes) in
    let rests : Deeds (scene_of old) (with_ends (scene_of old) mids) =
    all_rest (scene_of old) old.moment mids (same_length old.hosts hosts' old.ends ∙ sym (length-set news f.who x0))
    (λ j x y at at'. elim (get_set news f.who j x0 y at') [
      | inl own ↦ inl (sym own.1 ∙ one_of_it (slice_get (scene_of old).ends f.who) x0 x f.stand.there (ap (slice_get (scene_of old).ends) own.0 ∙ at))
      | inr other ↦
          let it = map_got (present_of old.hosts) old.ends j x at in
          let new' : present_of hosts' it.0 ≡ y = one_of_it (slice_get news j) (present_of hosts' it.0) y (get_map (present_of hosts') old.ends j it.0 it.1) other.1 in
          let one : RestsOr old.moment (present_of old.hosts it.0) (present_of hosts' it.0) =
          rests_or old o host d.before d.after d.there j it.0 it.1
          (λ stands on. elim (cases_lt it.0.id g.id) [
            | inl below ↦ inl (g.below it.0.id below)
            | inr not_below ↦ elim (cases_eq it.0.id g.id) [
              | inl same ↦ absurd (other.0 (sym (the_only old o j f.who it.0 f.end' it.1 stands f.at f.stands (on ∙ sym f.host) (same ∙ sym f.id_is))))
              | inr apart ↦ inr (g.above it.0.id (omega (arith, not_below, apart)))
            ]
          ]) in
          subst (RestsOr old.moment x) new' (subst (λ z. RestsOr old.moment z (present_of hosts' it.0)) it.2 one)
    ]) in
    let count : ℕ = length (scene_of old).parcels in
    let notes : sending_notes d.before.here d.after.endpoint.said (length old.parcels) ≡ note_of g.given.what f.who count ∷ [] =
    ap (λ x. sending_notes d.before.here x (length old.parcels)) g.said ∙ ap (λ x. given_notes x g.given.what (length old.parcels)) f.known
    ∙ ap (λ n. note_of g.given.what f.who n ∷ []) (sym (map_length bytes_of old.parcels)) in
    let is : scene_of new ≡ sent_off (put_end (with_ends (scene_of old) mids) f.who z0) d.before.endpoint.network bytes (note_of g.given.what f.who count) =
    made_same (map home_at new.hosts) (map home_at old.hosts) (map (present_of new.hosts) new.ends) (set mids f.who z0) (map bytes_of new.parcels) (map bytes_of old.parcels ++ bytes ∷ [])
    (map segment_of new.parcels) (map segment_of old.parcels ++ d.before.endpoint.network ∷ []) new.log (old.log ++ note_of g.given.what f.who count ∷ [])
    (ap (map home_at) d.hosts ∙ homes_same old.hosts host d.before d.after d.there d.polls.self)
    (ap (λ hs. map (present_of hs) new.ends) d.hosts ∙ ap (map (present_of hosts')) d.ends ∙ sym (set_back news f.who x0 z0 here))
    (ap (map bytes_of) d.parcels ∙ map_more bytes_of old.parcels (sent_letters (Some r) d.before host d.written))
    (ap (map segment_of) d.parcels ∙ map_more segment_of old.parcels (sent_letters (Some r) d.before host d.written))
    (d.log ∙ ap (λ ns. old.log ++ ns) notes) in
    let gives : Deeds (with_ends (scene_of old) mids) (scene_of new) =
    one_deed (Gives f.who old.moment d.before.endpoint.network bytes) (with_ends (scene_of old) mids) (scene_of new) (record {
      stand = x0;
      link = g.held.link;
      given = g.given;
      stands = record { there = get_set_here news f.who z0 x0 here; link = refl };
      gives = g.gives;
      home = home_at d.before;
      home_is = ap (slice_get (map home_at old.hosts)) f.host ∙ get_map home_at old.hosts host d.before d.there;
      segment_is = refl;
      written = g.is;
      after = is;
    }) in
    then (scene_of old) (with_ends (scene_of old) mids) (scene_of new) rests gives

pub polls_deeds : (old new : World) (host : ℕ) (result : Option (Node × ℕ)) → InOrder old → PollsHost old host result new → Deeds (scene_of old) (scene_of new)
polls_deeds old new host None o d = gives_nothing old new host o d
polls_deeds old new host (Some r) o d = gives_one old new host r o d
