-- A release is a deed, and leaves a world in order.
use Rattle.std.proofs.Common.{◌≡◌, ◌≢◌, ℕ, true, false, List, [], ◌∷◌, map, set, Some, None, refl, sym, ◌∙◌, inl, inr, ap, subst}
use Rattle.std.specs.Prelude.{slice_get}
use Rattle.std.proofs.lemmas.List.{map-set}
use Rattle.std.proofs.lemmas.Bool.{cases_eq}
use Rattle.spx_theory.proofs.WorldLists.{get_set}
use Rattle.spx_messages.specs.EndpointView.{Held, held_at}
use Rattle.spx_theory.specs.World.{World, HostState, EndNow, end_at, present_with, present_of, scene_of, InOrder, IsPresentAt, IsEndOf, IsHostInOrder}
use Rattle.spx_theory.specs.EndCalls.{ReleasesOf}
use Rattle.spx_theory.specs.DeedRuns.{Deeds}
use Rattle.spx_theory.proofs.Places.{one_of_it, get_set_here, get_set_other, map_to_set}
use Rattle.spx_theory.proofs.Doing.{one_deed}
use Rattle.spx_theory.proofs.StillPresent.{held_same, held_there, holds_there, the_only, scene_after}
use Rattle.spx_theory.proofs.WorldTakes.{set_twice}
use Rattle.spx_theory.specs.Note as Notes
use Rattle.spx_theory.specs.Deeds as Scenes

module _ (old new : World) (who : ℕ) (o : InOrder old) (d : ReleasesOf old who new) where
  abbrev e : EndNow
  e = d.end'

  abbrev e' : EndNow
  e' = record d.end' { released = true }

  abbrev hosts' : List HostState
  hosts' = set old.hosts d.end'.host d.after

  pub releases_deeds : Deeds (scene_of old) (scene_of new)
  releases_deeds =
      let had : (h : Held) × (held_at d.before.endpoint d.end'.id ≡ Some h) = held_there old o who d.end' d.before d.end'.host d.at d.stands refl d.there in
      let others : map (present_of hosts') old.ends ≡ set (map (present_of old.hosts) old.ends) who (present_of hosts' d.end') =
      map_to_set (present_of old.hosts) (present_of hosts') old.ends who (present_of hosts' d.end')
      (λ j x at apart. ap (present_with x) (held_same old.hosts d.end'.host d.before d.after x d.there
      (λ stands here. d.releases.others x.id (λ same. apart (the_only old o j who x d.end' at stands d.at d.stands here same)))))
      (λ x at. ap (present_of hosts') (one_of_it (slice_get old.ends who) x d.end' at d.at)) in
      let ends : map (present_of hosts') new.ends ≡ set (map (present_of old.hosts) old.ends) who (present_with e' None) =
      ap (map (present_of hosts')) d.ends ∙ map-set (present_of hosts') old.ends who e' ∙ ap (λ es. set es who (present_with e' None)) others
      ∙ set_twice (map (present_of old.hosts) old.ends) who (present_of hosts' d.end') (present_with e' None) in
      one_deed (Scenes.Releases who) (scene_of old) (scene_of new) (record {
        stand = present_with d.end' (Some had.0);
        link = had.0.link;
        stands = record { there = holds_there old.hosts old.ends who d.end' d.before had.0 d.at d.stands d.there had.1; link = refl };
        after = scene_after old new d.end'.host d.before d.after (set (map (present_of old.hosts) old.ends) who (present_with e' None)) (Notes.Released who ∷ []) d.there d.hosts d.releases.self ends d.parcels d.log;
      })

  -- another end is where it was before
  still_end : (k id j : ℕ) (it : IsEndOf old.ends k id j) → j ≢ who → IsEndOf (set old.ends who e') k id j
  still_end k id j it apart =
      record { end' = it.end'; at = get_set_other old.ends who j e' apart ∙ it.at; host_is = it.host_is; id_is = it.id_is; stands = it.stands }

  still_holds : (j : ℕ) (x : EndNow) → slice_get old.ends j ≡ Some x → x.released ≡ false → j ≢ who → IsPresentAt hosts' j x
  still_holds j x at stands apart =
      let was : IsPresentAt old.hosts j x = o.ends j x at stands in
      elim (cases_eq x.host d.end'.host) [
        | inl on ↦
            let same : was.station ≡ d.before = one_of_it (slice_get old.hosts x.host) was.station d.before was.there (ap (slice_get old.hosts) on ∙ d.there) in
            let differ : x.id ≢ d.end'.id = λ id. apart (the_only old o j who x d.end' at stands d.at d.stands on id) in
            record {
              station = d.after;
              there = ap (slice_get hosts') on ∙ get_set_here old.hosts d.end'.host d.before d.after d.there;
              known = d.known x.id differ ∙ ap (λ (z : HostState). end_at z.here x.id) (sym same) ∙ was.known;
              held = was.held;
              live = d.releases.others x.id differ ∙ ap (λ (z : HostState). held_at z.endpoint x.id) (sym same) ∙ was.live;
            }
        | inr other ↦ record { station = was.station; there = get_set_other old.hosts d.end'.host x.host d.after other ∙ was.there; known = was.known; held = was.held; live = was.live }
      ]

  host_now : IsHostInOrder (set old.ends who e') d.end'.host d.after
  host_now =
      let was : IsHostInOrder old.ends d.end'.host d.before = o.hosts d.end'.host d.before d.there in
      record {
        names = λ q j is. elim (cases_eq q d.end'.id) [
          | inl own ↦ absurd (cc (sym d.forgotten ∙ ap (end_at d.after.here) (sym own) ∙ is))
          | inr other ↦
              let it : IsEndOf old.ends d.end'.host q j = was.names q j (sym (d.known q other) ∙ is) in
              still_end d.end'.host q j it (λ same. other (sym it.id_is ∙ ap (λ (z : EndNow). z.id) (one_of_it (slice_get old.ends who) it.end' d.end' (ap (slice_get old.ends) (sym same) ∙ it.at) d.at)))
        ];
        named = λ q h is. elim (cases_eq q d.end'.id) [
          | inl own ↦ absurd (cc (sym d.releases.gone ∙ ap (held_at d.after.endpoint) (sym own) ∙ is))
          | inr other ↦
              let named = was.named q h (sym (d.releases.others q other) ∙ is) in
              (named.0, d.known q other ∙ named.1)
        ];
        range = λ socket buffers is. was.range socket buffers (sym (d.releases.self.buffers socket) ∙ is);
      }

  pub releases_kept : InOrder new
  releases_kept = record {
    ends = λ j x at stands. subst (λ hs. IsPresentAt hs j x) (sym d.hosts) (elim (get_set old.ends who j e' x (ap (λ es. slice_get es j) (sym d.ends) ∙ at)) [
      | inl own ↦ absurd (cc (ap (λ (z : EndNow). z.released) own.1 ∙ stands))
      | inr other ↦ still_holds j x other.1 stands (λ same. other.0 (sym same))
    ]);
    hosts = λ k z at. subst (λ es. IsHostInOrder es k z) (sym d.ends) (elim (get_set old.hosts d.end'.host k d.after z (ap (λ hs. slice_get hs k) (sym d.hosts) ∙ at)) [
      | inl own ↦ subst (λ j. IsHostInOrder (set old.ends who e') j z) own.0 (subst (IsHostInOrder (set old.ends who e') d.end'.host) own.1 host_now)
      | inr other ↦
          let was : IsHostInOrder old.ends k z = o.hosts k z other.1 in
          record {
            names = λ q j is.
                let it : IsEndOf old.ends k q j = was.names q j is in
                still_end k q j it (λ same. other.0 (sym (ap (λ (x : EndNow). x.host) (one_of_it (slice_get old.ends who) it.end' d.end' (ap (slice_get old.ends) (sym same) ∙ it.at) d.at)) ∙ it.host_is));
            named = was.named;
            range = was.range;
          }
    ]);
  }
