-- A world stays in order if a host changes and its ids stay, and if an id is added.
use Rattle.std.proofs.Common.{◌≡◌, ◌≢◌, ◌⊎◌, ◌==◌, ℕ, Bool, true, false, cond, List, [], ◌∷◌, ◌++◌, length, set, Option, Some, None, refl, sym, ◌∙◌, inl, inr, ap, subst}
use Rattle.std.specs.Prelude.{slice_get}
use Rattle.std.proofs.lemmas.Bool.{cases_eq, cases_Bool, cond-true, cond-false}
use Rattle.std.proofs.lemmas.Bool.Decides.{Decides-eqb}
use Rattle.spx_messages.specs.Changes.{SameSelf}
use Rattle.spx_messages.specs.EndpointView.{Held, EndpointView, held_at}
use Rattle.spx_theory.specs.World.{World, HostState, EndNow, end_at, IsPresentAt, IsEndOf, IsHostInOrder, InOrder}
use Rattle.spx_theory.proofs.Places.{one_of_it, same_some, get_set_here, get_set_other, get_past}
use Rattle.spx_theory.proofs.WorldLists.{get_set, get_last, get_before}

-- the same ends, as far as their hosts know them
pub record IsSameEnd (e e' : EndNow) : Type 0 where
  pub host : e'.host ≡ e.host
  pub id : e'.id ≡ e.id
  pub released : e'.released ≡ e.released

pub record SameEnds (olds news : List EndNow) : Type 0 where
  pub back : (j : ℕ) (e' : EndNow) → slice_get news j ≡ Some e' → (e : EndNow) × (slice_get olds j ≡ Some e) × IsSameEnd e e'
  pub on : (j : ℕ) (e : EndNow) → slice_get olds j ≡ Some e → (e' : EndNow) × (slice_get news j ≡ Some e') × IsSameEnd e e'

pub same_ends : (olds news : List EndNow) → news ≡ olds → SameEnds olds news
same_ends olds news same =
    record {
      back = λ j e at. (e, ap (λ xs. slice_get xs j) (sym same) ∙ at, record { host = refl; id = refl; released = refl });
      on = λ j e at. (e, ap (λ xs. slice_get xs j) same ∙ at, record { host = refl; id = refl; released = refl });
    }

-- an end is replaced by one that its host knows in the same way
pub set_ends : (olds : List EndNow) (who : ℕ) (e e' : EndNow) → slice_get olds who ≡ Some e → IsSameEnd e e' → SameEnds olds (set olds who e')
set_ends olds who e e' at same =
    record {
      back = λ j x there. elim (get_set olds who j e' x there) [
        | inl here ↦ (e, ap (slice_get olds) (sym here.0) ∙ at, subst (IsSameEnd e) here.1 same)
        | inr other ↦ (x, other.1, record { host = refl; id = refl; released = refl })
      ];
      on = λ j x there. elim (cases_eq j who) [
        | inl here ↦ (e', ap (slice_get (set olds who e')) here ∙ get_set_here olds who e e' at, subst (λ z. IsSameEnd z e') (one_of_it (slice_get olds who) e x at (ap (slice_get olds) (sym here) ∙ there)) same)
        | inr other ↦ (x, get_set_other olds who j e' other ∙ there, record { host = refl; id = refl; released = refl })
      ];
    }

moved_end : (olds news : List EndNow) (k id who : ℕ) → SameEnds olds news → IsEndOf olds k id who → IsEndOf news k id who
moved_end olds news k id who same it =
    let to : (e' : EndNow) × (slice_get news who ≡ Some e') × IsSameEnd it.end' e' = same.on who it.end' it.at in
    record { end' = to.0; at = to.1; host_is = to.2.host ∙ it.host_is; id_is = to.2.id ∙ it.id_is; stands = to.2.released ∙ it.stands }

-- a host holds something for the same ids as before
pub record SameIds (s s' : EndpointView) : Type 0 where
  pub on : (q : ℕ) (h : Held) → held_at s q ≡ Some h → (h' : Held) × (held_at s' q ≡ Some h')
  pub back : (q : ℕ) (h' : Held) → held_at s' q ≡ Some h' → (h : Held) × (held_at s q ≡ Some h)

module _ (old new : World) (o : InOrder old) (k : ℕ) (s s' : HostState) (there : slice_get old.hosts k ≡ Some s) (hosts : new.hosts ≡ set old.hosts k s') (self : SameSelf s.endpoint s'.endpoint) where
  pub ids_kept : s'.here ≡ s.here → SameIds s.endpoint s'.endpoint → SameEnds old.ends new.ends → InOrder new
  ids_kept here ids ends =
      record {
        ends = λ who e' at stands.
            let from : (e : EndNow) × (slice_get old.ends who ≡ Some e) × IsSameEnd e e' = ends.back who e' at in
            let e : EndNow = from.0 in
            let was : IsPresentAt old.hosts who e = o.ends who e from.1 (sym from.2.released ∙ stands) in
            let done : IsPresentAt (set old.hosts k s') who e' = elim (cases_eq e.host k) [
              | inl on ↦
                  let same : was.station ≡ s = one_of_it (slice_get old.hosts e.host) was.station s was.there (ap (slice_get old.hosts) on ∙ there) in
                  let live : (h' : Held) × (held_at s'.endpoint e.id ≡ Some h') = ids.on e.id was.held (ap (λ (z : HostState). held_at z.endpoint e.id) (sym same) ∙ was.live) in
                  record {
                    station = s';
                    there = ap (slice_get (set old.hosts k s')) (from.2.host ∙ on) ∙ get_set_here old.hosts k s s' there;
                    known = ap (end_at s'.here) from.2.id ∙ ap (λ xs. end_at xs e.id) here ∙ ap (λ (z : HostState). end_at z.here e.id) (sym same) ∙ was.known;
                    held = live.0;
                    live = ap (held_at s'.endpoint) from.2.id ∙ live.1;
                  }
              | inr other ↦ record {
                station = was.station;
                there = ap (slice_get (set old.hosts k s')) from.2.host ∙ get_set_other old.hosts k e.host s' other ∙ was.there;
                known = ap (end_at was.station.here) from.2.id ∙ was.known;
                held = was.held;
                live = ap (held_at was.station.endpoint) from.2.id ∙ was.live;
              }
            ] in
            subst (λ hs. IsPresentAt hs who e') (sym hosts) done;
        hosts = λ j z at. elim (get_set old.hosts k j s' z (ap (λ hs. slice_get hs j) (sym hosts) ∙ at)) [
          | inl own ↦
              let was : IsHostInOrder old.ends k s = o.hosts k s there in
              let done : IsHostInOrder new.ends k s' = record {
                names = λ id who is. moved_end old.ends new.ends k id who ends (was.names id who (ap (λ xs. end_at xs id) (sym here) ∙ is));
                named = λ id h is.
                    let had = ids.back id h is in
                    let named = was.named id had.0 had.1 in
                    (named.0, ap (λ xs. end_at xs id) here ∙ named.1);
                range = λ socket buffers is. was.range socket buffers (sym (self.buffers socket) ∙ is);
              } in
              subst (λ x. IsHostInOrder new.ends x z) own.0 (subst (IsHostInOrder new.ends k) own.1 done)
          | inr other ↦
              let was : IsHostInOrder old.ends j z = o.hosts j z other.1 in
              record { names = λ id who is. moved_end old.ends new.ends j id who ends (was.names id who is); named = was.named; range = was.range }
        ];
      }

-- ---- an id is added

pub cases_option : {A : Type 0} (o : Option A) → (o ≡ None) ⊎ ((x : A) × (o ≡ Some x))
cases_option None = inl refl
cases_option (Some x) = inr (x, refl)

found_on : (b : Bool) (x : ℕ) (o o' : Option ℕ) (y : ℕ) → cond b (Some x) o ≡ Some y → (o ≡ Some y → o' ≡ Some y) → cond b (Some x) o' ≡ Some y
found_on true x o o' y is on = is
found_on false x o o' y is on = on is

-- an id that was known is still known
end_at_more : (xs ys : List (ℕ × ℕ)) (q who : ℕ) → end_at xs q ≡ Some who → end_at (xs ++ ys) q ≡ Some who
end_at_more [] ys q who is = cc
end_at_more (x ∷ xs) ys q who is = found_on (x.0 == q) x.1 (end_at xs q) (end_at (xs ++ ys) q) who is (λ e. end_at_more xs ys q who e)

none_on : (b : Bool) (x : ℕ) (o o' p : Option ℕ) → cond b (Some x) o ≡ None → (o ≡ None → o' ≡ p) → cond b (Some x) o' ≡ p
none_on true x o o' p is on = cc
none_on false x o o' p is on = on is

-- an id that was not known is looked up among the new ones
end_at_past : (xs ys : List (ℕ × ℕ)) (q : ℕ) → end_at xs q ≡ None → end_at (xs ++ ys) q ≡ end_at ys q
end_at_past [] ys q is = refl
end_at_past (x ∷ xs) ys q is = none_on (x.0 == q) x.1 (end_at xs q) (end_at (xs ++ ys) q) (end_at ys q) is (λ e. end_at_past xs ys q e)

end_at_own : (id who : ℕ) → end_at ((id, who) ∷ []) id ≡ Some who
end_at_own id who = cond-true (id == id) (Some who) None ((Decides-eqb id id).1 refl)

end_at_one : (id who q y : ℕ) → end_at ((id, who) ∷ []) q ≡ Some y → (id ≡ q) × (who ≡ y)
end_at_one id who q y is = elim (cases_Bool (id == q)) [
  | inl same ↦ ((Decides-eqb id q).0 same, same_some who y (sym (cond-true (id == q) (Some who) None same) ∙ is))
  | inr apart ↦ absurd (cc (sym (cond-false (id == q) (Some who) None apart) ∙ is))
]

more_end : (olds more : List EndNow) (k id who : ℕ) → IsEndOf olds k id who → IsEndOf (olds ++ more) k id who
more_end olds more k id who it = record { end' = it.end'; at = get_before olds more it.end' who it.at; host_is = it.host_is; id_is = it.id_is; stands = it.stands }

module _ (old new : World) (o : InOrder old) (k : ℕ) (s s' : HostState) (there : slice_get old.hosts k ≡ Some s) (hosts : new.hosts ≡ set old.hosts k s') (self : SameSelf s.endpoint s'.endpoint)
    (id : ℕ) (e : EndNow) (on_host : e.host ≡ k) (has_id : e.id ≡ id) (is_live : e.released ≡ false)
    (free : held_at s.endpoint id ≡ None) (h : Held) (holds : held_at s'.endpoint id ≡ Some h) (others : (q : ℕ) → q ≢ id → held_at s'.endpoint q ≡ held_at s.endpoint q)
    (here : s'.here ≡ s.here ++ (id, length old.ends) ∷ []) (ends : new.ends ≡ old.ends ++ e ∷ []) where
  -- the host knew no end by this id
  unknown : end_at s.here id ≡ None
  unknown = elim (cases_option (end_at s.here id)) [
    | inl none ↦ none
    | inr some ↦
        let it : IsEndOf old.ends k id some.0 = (o.hosts k s there).names id some.0 some.1 in
        let was : IsPresentAt old.hosts some.0 it.end' = o.ends some.0 it.end' it.at it.stands in
        let same : was.station ≡ s = one_of_it (slice_get old.hosts it.end'.host) was.station s was.there (ap (slice_get old.hosts) it.host_is ∙ there) in
        let live : held_at s.endpoint id ≡ Some was.held = ap (held_at s.endpoint) (sym it.id_is) ∙ ap (λ (z : HostState). held_at z.endpoint it.end'.id) (sym same) ∙ was.live in
        absurd (cc (sym free ∙ live))
  ]

  known_now : end_at s'.here id ≡ Some (length old.ends)
  known_now = ap (λ xs. end_at xs id) here ∙ end_at_past s.here ((id, length old.ends) ∷ []) id unknown ∙ end_at_own id (length old.ends)

  there_now : slice_get (set old.hosts k s') k ≡ Some s'
  there_now = get_set_here old.hosts k s s' there

  still_holds : (who : ℕ) (x : EndNow) → slice_get old.ends who ≡ Some x → x.released ≡ false → IsPresentAt (set old.hosts k s') who x
  still_holds who x at stands =
      let was : IsPresentAt old.hosts who x = o.ends who x at stands in
      elim (cases_eq x.host k) [
        | inl on ↦
            let same : was.station ≡ s = one_of_it (slice_get old.hosts x.host) was.station s was.there (ap (slice_get old.hosts) on ∙ there) in
            let live : held_at s.endpoint x.id ≡ Some was.held = ap (λ (z : HostState). held_at z.endpoint x.id) (sym same) ∙ was.live in
            record {
              station = s';
              there = ap (slice_get (set old.hosts k s')) on ∙ there_now;
              known = ap (λ xs. end_at xs x.id) here ∙ end_at_more s.here ((id, length old.ends) ∷ []) x.id who (ap (λ (z : HostState). end_at z.here x.id) (sym same) ∙ was.known);
              held = was.held;
              live = others x.id (λ own. absurd (cc (sym (ap (held_at s.endpoint) own ∙ free) ∙ live))) ∙ live;
            }
        | inr other ↦ record { station = was.station; there = get_set_other old.hosts k x.host s' other ∙ was.there; known = was.known; held = was.held; live = was.live }
      ]

  new_holds : IsPresentAt (set old.hosts k s') (length old.ends) e
  new_holds = record {
    station = s';
    there = ap (slice_get (set old.hosts k s')) on_host ∙ there_now;
    known = ap (end_at s'.here) has_id ∙ known_now;
    held = h;
    live = ap (held_at s'.endpoint) has_id ∙ holds;
  }

  is_new_end : IsEndOf (old.ends ++ e ∷ []) k id (length old.ends)
  is_new_end = record { end' = e; at = get_past old.ends e []; host_is = on_host; id_is = has_id; stands = is_live }

  host_now : IsHostInOrder (old.ends ++ e ∷ []) k s'
  host_now =
      let was : IsHostInOrder old.ends k s = o.hosts k s there in
      record {
        names = λ q who is. elim (cases_option (end_at s.here q)) [
          | inl none ↦
              let one : (id ≡ q) × (length old.ends ≡ who) =
              end_at_one id (length old.ends) q who (sym (ap (λ xs. end_at xs q) here ∙ end_at_past s.here ((id, length old.ends) ∷ []) q none) ∙ is) in
              subst (λ z. IsEndOf (old.ends ++ e ∷ []) k z who) one.0 (subst (IsEndOf (old.ends ++ e ∷ []) k id) one.1 is_new_end)
          | inr some ↦
              let same : some.0 ≡ who =
              one_of_it (end_at s'.here q) some.0 who (ap (λ xs. end_at xs q) here ∙ end_at_more s.here ((id, length old.ends) ∷ []) q some.0 some.1) is in
              more_end old.ends (e ∷ []) k q who (was.names q who (some.1 ∙ ap Some same))
        ];
        named = λ q g is. elim (cases_eq q id) [
          | inl own ↦ (length old.ends, ap (end_at s'.here) own ∙ known_now)
          | inr other ↦
              let named = was.named q g (sym (others q other) ∙ is) in
              (named.0, ap (λ xs. end_at xs q) here ∙ end_at_more s.here ((id, length old.ends) ∷ []) q named.0 named.1)
        ];
        range = λ socket buffers is. was.range socket buffers (sym (self.buffers socket) ∙ is);
      }

  pub id_comes : InOrder new
  id_comes = record {
    ends = λ who x at stands. subst (λ hs. IsPresentAt hs who x) (sym hosts) (elim (get_last old.ends e x who (ap (λ es. slice_get es who) (sym ends) ∙ at)) [
      | inl before ↦ still_holds who x before stands
      | inr last ↦ subst (λ j. IsPresentAt (set old.hosts k s') j x) (sym last.0) (subst (IsPresentAt (set old.hosts k s') (length old.ends)) last.1 new_holds)
    ]);
    hosts = λ j z at. subst (λ es. IsHostInOrder es j z) (sym ends) (elim (get_set old.hosts k j s' z (ap (λ hs. slice_get hs j) (sym hosts) ∙ at)) [
      | inl own ↦ subst (λ x. IsHostInOrder (old.ends ++ e ∷ []) x z) own.0 (subst (IsHostInOrder (old.ends ++ e ∷ []) k) own.1 host_now)
      | inr other ↦
          let was : IsHostInOrder old.ends j z = o.hosts j z other.1 in
          record { names = λ q who is. more_end old.ends (e ∷ []) j q who (was.names q who is); named = was.named; range = was.range }
    ]);
  }
