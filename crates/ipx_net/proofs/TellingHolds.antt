-- Hosts and states in the summaries, as the ends of one host are updated.
use Rattle.std.proofs.Common.{◌≡◌, ◌≢◌, ◌<◌, ◌+◌, ◌==◌, ◌⊎◌, inl, inr, ℕ, suc, List, [], ◌∷◌, length, Bool, true, false, cond, Option, Some, None, refl, sym, ◌∙◌, ap, arith, subst, eqb-true, length-set}
use Rattle.std.specs.Prelude.{option_map, slice_get}
use Rattle.std.proofs.lemmas.Bool.{cases_eq, cases_lt}
use Rattle.std.proofs.lemmas.List.{get_or-set_same, get_or-set_other, set_past}
use Rattle.std.proofs.lemmas.Option.{same_Some}
use Rattle.spx_link.specs.declared.state.State.{State}
use Rattle.spx_theory.specs.World.{IsEndOf, HostState, end_at}
use Rattle.ipx_net_hosts.specs.Hosts.{FitTogether, HostsView}
use Rattle.ipx_net_hosts.specs.EndStates.{here_at, here_in, state_on_host}
use Rattle.ipx_net.specs.Ends.{nobody, told_of}
use Rattle.ipx_net.specs.EndSummaryChanges.{HasHostAndState, change, logged, settled, standing, state_by, stood}
use Rattle.ipx_net.specs.declared.endinfo.EndInfo.{EndInfo}

-- a summary that changes, or stays
pub change_where : (f : EndInfo → EndInfo) (w : ℕ) (told : List EndInfo) (who : ℕ)
    → (told_of (change f w told) who ≡ told_of told who) ⊎ ((w ≡ who) × (told_of (change f w told) who ≡ f (told_of told who)))
change_where f w told who = elim (cases_eq w who) [
  | inl same ↦ elim (cases_lt w (length told)) [
    | inl h ↦ inr (same, subst (λ (k : ℕ). told_of (change f w told) k ≡ f (told_of told k)) same (get_or-set_same told w (f (told_of told w)) nobody h))
    | inr past ↦ inl (ap (λ (xs : List EndInfo). told_of xs who) (set_past told w (f (told_of told w)) past))
  ]
  | inr differ ↦ inl (get_or-set_other told w who (f (told_of told w)) nobody (λ e. differ (sym e)))
]

pub change_own : (f : EndInfo → EndInfo) (w : ℕ) (told : List EndInfo) → w < length told → told_of (change f w told) w ≡ f (told_of told w)
change_own f w told h = get_or-set_same told w (f (told_of told w)) nobody h

pub change_other : (f : EndInfo → EndInfo) (w : ℕ) (told : List EndInfo) (who : ℕ) → (w ≡ who → ⊥) → told_of (change f w told) who ≡ told_of told who
change_other f w told who differ = get_or-set_other told w who (f (told_of told w)) nobody (λ e. differ (sym e))

-- an id of a host has an index
pub end_place : (here : List (ℕ × ℕ)) (id who : ℕ) → end_at here id ≡ Some who → (j : ℕ) × (x : ℕ × ℕ) × (slice_get here j ≡ Some x) × (x.0 ≡ id)
end_place [] id who is = absurd (cc is)
end_place (y ∷ ys) id who is = by_test (y.0 == id) refl (λ w. end_place ys id who w) is
  where
    by_test : (b : Bool) → (y.0 == id) ≡ b → (end_at ys id ≡ Some who → (j : ℕ) × (x : ℕ × ℕ) × (slice_get ys j ≡ Some x) × (x.0 ≡ id)) → cond b (Some y.1) (end_at ys id) ≡ Some who
        → (j : ℕ) × (x : ℕ × ℕ) × (slice_get (y ∷ ys) j ≡ Some x) × (x.0 ≡ id)
    by_test true same later w = (0, y, refl, eqb-true y.0 id same)
    by_test false differ later w = let rest = later w in (suc rest.0, rest.1, rest.2, rest.3)

-- an end of a host has one id there
same_end : (v : HostsView) (host id id' who : ℕ) → IsEndOf v.ends host id who → IsEndOf v.ends host id' who → id ≡ id'
same_end v host id id' who one two =
    let both : Some one.end' ≡ Some two.end' = sym one.at ∙ two.at in
    let same : one.end' ≡ two.end' = cc in
    sym one.id_is ∙ ap (λ e. e.id) same ∙ two.id_is

pub one_id : (v : HostsView) (host id id' who : ℕ) → FitTogether v → end_at (here_at v host) id ≡ Some who → end_at (here_at v host) id' ≡ Some who → id ≡ id'
one_id v host id id' who fit a b = by_station (slice_get v.stations host) refl a b
  where
    by_station : (o : Option HostState) → slice_get v.stations host ≡ o → end_at (here_in o) id ≡ Some who → end_at (here_in o) id' ≡ Some who → id ≡ id'
    by_station None is x y = absurd (cc x)
    by_station (Some s) is x y = let order = (fit [] [] 0).hosts host s is in same_end v host id id' who (order.names id who x) (order.names id' who y)

-- ---- the ends of a host, up to an index

pub record SettledTo (v : HostsView) (host : ℕ) (gone : Bool) (old : List EndInfo) (place : ℕ) (new : List EndInfo) : Type 0 where
  pub count : length new ≡ length old
  pub log : (who : ℕ) → logged (told_of new who) ≡ logged (told_of old who)
  pub here : (j : ℕ) (x : ℕ × ℕ) (who : ℕ) → j < place → slice_get (here_at v host) j ≡ Some x → end_at (here_at v host) x.0 ≡ Some who → who < length old
      → HasHostAndState host (state_by gone (state_on_host v host x.0)) (told_of new who)
  pub others : (who : ℕ) → ((id : ℕ) → end_at (here_at v host) id ≢ Some who) → told_of new who ≡ told_of old who

pub settled_by : (v : HostsView) (host : ℕ) (gone : Bool) (o : Option (ℕ × ℕ)) (id : ℕ) (told told' : List EndInfo) → Some id ≡ option_map (λ x. x.0) o
    → told' ≡ stood (end_at (here_at v host) id) host (state_by gone (state_on_host v host id)) told → told' ≡ settled v host gone o told
settled_by v host gone None id told told' is step = absurd (cc is)
settled_by v host gone (Some x) id told told' is step =
    let same : id ≡ x.0 = cc in
    step ∙ ap (λ (i : ℕ). stood (end_at (here_at v host) i) host (state_by gone (state_on_host v host i)) told) same

pub settled_none : (v : HostsView) (host : ℕ) (gone : Bool) (o : Option (ℕ × ℕ)) (told : List EndInfo) → None ≡ option_map (λ (x : ℕ × ℕ). x.0) o → told ≡ settled v host gone o told
settled_none v host gone None told is = refl
settled_none v host gone (Some x) told is = absurd (cc is)

-- no summary changes here
skipped : (v : HostsView) (host : ℕ) (gone : Bool) (old : List EndInfo) (place : ℕ) (cur : List EndInfo) → SettledTo v host gone old place cur
    → ((x : ℕ × ℕ) (who : ℕ) → slice_get (here_at v host) place ≡ Some x → end_at (here_at v host) x.0 ≢ Some who) → SettledTo v host gone old (place + 1) cur
skipped v host gone old place cur s none =
    record {
      count = s.count;
      log = s.log;
      here = λ j x who h at is within. elim (cases_lt j place) [
        | inl before ↦ s.here j x who before at is within
        | inr past ↦ let one : j ≡ place = omega arith in absurd (none x who (subst (λ (k : ℕ). slice_get (here_at v host) k ≡ Some x) one at) is)
      ];
      others = s.others;
    }

-- the summary of an end is updated
told_here : (v : HostsView) (host : ℕ) (gone : Bool) (old : List EndInfo) (place : ℕ) (cur : List EndInfo) (x : ℕ × ℕ) (w : ℕ) → FitTogether v
    → slice_get (here_at v host) place ≡ Some x → end_at (here_at v host) x.0 ≡ Some w → SettledTo v host gone old place cur
    → SettledTo v host gone old (place + 1) (change (standing host (state_by gone (state_on_host v host x.0))) w cur)
told_here v host gone old place cur x w fit there known s =
    let st : Option State = state_by gone (state_on_host v host x.0) in
    let new : List EndInfo = change (standing host st) w cur in
    record {
      count = length-set cur w (standing host st (told_of cur w)) ∙ s.count;
      log = λ who. elim (change_where (standing host st) w cur who) [
        | inl same ↦ ap logged same ∙ s.log who
        | inr here ↦ ap logged here.1 ∙ s.log who
      ];
      here = λ j y who h at is within. elim (cases_eq w who) [
        | inl same ↦
            let known' : end_at (here_at v host) y.0 ≡ Some w = is ∙ ap Some (sym same) in
            let id : x.0 ≡ y.0 = one_id v host x.0 y.0 w fit known known' in
            let inside : w < length cur = omega (arith, s.count, within, same) in
            let own : told_of new w ≡ standing host st (told_of cur w) = change_own (standing host st) w cur inside in
            let own' : told_of new who ≡ standing host st (told_of cur w) = subst (λ (k : ℕ). told_of new k ≡ standing host st (told_of cur w)) same own in
            record {
              host_is = ap (λ (e : EndInfo). e.host) own';
              state_is = ap (λ (e : EndInfo). e.state) own' ∙ ap (λ (i : ℕ). state_by gone (state_on_host v host i)) id;
            }
        | inr differ ↦ elim (cases_lt j place) [
          | inl before ↦ subst (HasHostAndState host (state_by gone (state_on_host v host y.0))) (sym (change_other (standing host st) w cur who differ)) (s.here j y who before at is within)
          | inr past ↦
              let one : j ≡ place = omega arith in
              let both : Some y ≡ Some x = sym at ∙ ap (slice_get (here_at v host)) one ∙ there in
              let same : y.0 ≡ x.0 = ap (λ (p : ℕ × ℕ). p.0) (same_Some y x both) in
              let end' : Some who ≡ Some w = sym is ∙ ap (end_at (here_at v host)) same ∙ known in
              absurd (differ (sym (same_Some who w end')))
        ]
      ];
      others = λ who none. change_other (standing host st) w cur who (λ same. none x.0 (known ∙ ap Some same)) ∙ s.others who none;
    }

pub settle_next : (v : HostsView) (host : ℕ) (gone : Bool) (old : List EndInfo) (place : ℕ) (cur new : List EndInfo) → FitTogether v
    → new ≡ settled v host gone (slice_get (here_at v host) place) cur → SettledTo v host gone old place cur → SettledTo v host gone old (place + 1) new
settle_next v host gone old place cur new fit is s = subst (SettledTo v host gone old (place + 1)) (sym is) (by_place (slice_get (here_at v host) place) refl)
  where
    by_end : (x : ℕ × ℕ) (p : Option ℕ) → slice_get (here_at v host) place ≡ Some x → end_at (here_at v host) x.0 ≡ p
        → SettledTo v host gone old (place + 1) (stood p host (state_by gone (state_on_host v host x.0)) cur)
    by_end x None there known = skipped v host gone old place cur s (λ y who at is.
        let same : y.0 ≡ x.0 = ap (λ (p : ℕ × ℕ). p.0) (same_Some y x (sym at ∙ there)) in
        let no : None ≡ Some who = sym known ∙ ap (end_at (here_at v host)) (sym same) ∙ is in cc)
    by_end x (Some w) there known = told_here v host gone old place cur x w fit there known s

    by_place : (o : Option (ℕ × ℕ)) → slice_get (here_at v host) place ≡ o → SettledTo v host gone old (place + 1) (settled v host gone o cur)
    by_place None none = skipped v host gone old place cur s (λ y who at is. let no : None ≡ Some y = sym none ∙ at in cc)
    by_place (Some x) there = by_end x (end_at (here_at v host) x.0) there refl
