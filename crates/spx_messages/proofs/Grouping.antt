-- Units joined one after another, and joined as a whole list.
use Rattle.std.proofs.Common.{◌≡◌, Bool, true, false, cond, not, filter, map, List, [], ◌∷◌, ◌++◌, Option, Some, None, refl, sym, ◌∙◌, ap, subst}
use Rattle.std.specs.Prelude.{All, fold}
use Rattle.std.specs.List.{flat_map}
use Rattle.std.proofs.lemmas.List.{append-nil, append_assoc, map-append}
use Rattle.std.proofs.lemmas.List.Elements.{All-append, filter-append}
use Rattle.std.proofs.lemmas.Grind.{flat_map-append}
use Rattle.std.proofs.lemmas.Bool.{cond_both, cond-true, cond-false}
use Rattle.spx_link.specs.declared.unit.Unit.{Unit}
use Rattle.spx_link.specs.LinkView.{is_end}
use Rattle.spx_messages.specs.Message.{MessageView}
use Rattle.spx_messages.specs.Cut.{unit_bytes}
use Rattle.spx_messages.specs.Joining.{Joining, added, join_all, join_unit, joined}
use Rattle.spx_messages.specs.Groups.{HasNoMark, IsGroup, UnitsJoinTo, as_one}
use Rattle.spx_messages.proofs.Joins.{so_far}
use Rattle.spx_messages.proofs.Pieces.{All-cons, All-head, All-none, All-tail}

abbrev is_data : Unit → Bool
is_data u = not (is_end u)

abbrev all_of : List (List Unit) → List Unit
all_of = flat_map (λ g. g)

-- a unit that is not the end of a connection
abbrev join_data : Joining → Unit → Joining
join_data j u = cond u.last (so_far (j.messages ++ added j.rest u ∷ []) None) (so_far j.messages (Some (added j.rest u)))

abbrev join_datas : Joining → List Unit → Joining
join_datas = fold join_data

-- ---- ends of connections are left out

data_first : (u : Unit) (us : List Unit) → is_end u ≡ false → filter is_data (u ∷ us) ≡ u ∷ filter is_data us
data_first u us goes_on = cond-true (is_data u) _ _ (ap not goes_on)

data_later : (u : Unit) (us : List Unit) → is_end u ≡ true → filter is_data (u ∷ us) ≡ filter is_data us
data_later u us ends = cond-false (is_data u) _ _ (ap not ends)

ends_left_out : (j : Joining) (us : List Unit) → join_all j us ≡ join_datas j (filter is_data us)
ends_left_out j [] = refl
ends_left_out j (u ∷ us) = cases (is_end u) refl (ends_left_out j us) (ends_left_out (join_data j u) us)
  where
    cases : (b : Bool) → is_end u ≡ b → join_all j us ≡ join_datas j (filter is_data us) → join_all (join_data j u) us ≡ join_datas (join_data j u) (filter is_data us)
        → join_all j (u ∷ us) ≡ join_datas j (filter is_data (u ∷ us))
    cases true ends same later =
        ap (λ k. join_all k us) (cond-true (is_end u) j (join_data j u) ends) ∙ same ∙ ap (join_datas j) (sym (data_later u us ends))
    cases false goes_on same later =
        ap (λ k. join_all k us) (cond-false (is_end u) j (join_data j u) goes_on) ∙ later ∙ ap (join_datas j) (sym (data_first u us goes_on))

join_datas-append : (j : Joining) (us vs : List Unit) → join_datas j (us ++ vs) ≡ join_datas (join_datas j us) vs
join_datas-append j [] vs = refl
join_datas-append j (u ∷ us) vs = join_datas-append (join_data j u) us vs

-- ---- units as one message

-- one more after them
as_one-snoc : (us : List Unit) (u : Unit) → as_one (us ++ u ∷ []) ≡ Some (added (as_one us) u)
as_one-snoc [] u = ap (λ bs. Some (record { stream = u.stream; body = bs })) (append-nil (unit_bytes u))
as_one-snoc (v ∷ us) u =
    ap (λ bs. Some (record { stream = v.stream; body = bs }))
    (flat_map-append unit_bytes (v ∷ us) (u ∷ []) ∙ ap (λ bs. flat_map unit_bytes (v ∷ us) ++ bs) (append-nil (unit_bytes u)))

-- units without an end of message, after others
join_unmarked : (ms : List MessageView) (before us : List Unit) → HasNoMark us → join_datas (so_far ms (as_one before)) us ≡ so_far ms (as_one (before ++ us))
join_unmarked ms before [] none = ap (λ vs. so_far ms (as_one vs)) (sym (append-nil before))
join_unmarked ms before (u ∷ us) none =
    ap (λ j. join_datas j us)
    (cond-false u.last _ _ (All-head (λ (v : Unit). v.last ≡ false) u us none) ∙ ap (so_far ms) (sym (as_one-snoc before u)))
    ∙ join_unmarked ms (before ++ u ∷ []) us (All-tail (λ (v : Unit). v.last ≡ false) u us none)
    ∙ ap (λ vs. so_far ms (as_one vs)) (append_assoc before (u ∷ []) us)

join_group : (ms : List MessageView) (g : List Unit) (m : MessageView) → IsGroup g → as_one g ≡ Some m → join_datas (so_far ms None) g ≡ so_far (ms ++ m ∷ []) None
join_group ms g m is one =
    let whole : Some (added (as_one is.before) is.final) ≡ Some m = sym (as_one-snoc is.before is.final) ∙ ap as_one (sym is.are) ∙ one in
    let same : added (as_one is.before) is.final ≡ m = cc (whole) in
    ap (join_datas (so_far ms None)) is.are
    ∙ join_datas-append (so_far ms None) is.before (is.final ∷ [])
    ∙ ap (λ j. join_data j is.final) (join_unmarked ms [] is.before is.unmarked)
    ∙ cond-true is.final.last _ _ is.marked
    ∙ ap (λ x. so_far (ms ++ x ∷ []) None) same

join_groups : (before : List MessageView) (gs : List (List Unit)) (ms : List MessageView) → All IsGroup gs → map as_one gs ≡ map Some ms
    → join_datas (so_far before None) (all_of gs) ≡ so_far (before ++ ms) None
join_groups before [] [] all each = ap (λ ms. so_far ms None) (sym (append-nil before))
join_groups before [] (m ∷ ms) all each = absurd (cc (each))
join_groups before (g ∷ gs) [] all each = absurd (cc (each))
join_groups before (g ∷ gs) (m ∷ ms) all each =
    let first : as_one g ≡ Some m = cc (each) in
    let later : map as_one gs ≡ map Some ms = cc (each) in
    join_datas-append (so_far before None) g (all_of gs)
    ∙ ap (λ j. join_datas j (all_of gs)) (join_group before g m (All-head IsGroup g gs all) first)
    ∙ join_groups (before ++ m ∷ []) gs ms (All-tail IsGroup g gs all) later
    ∙ ap (λ ms'. so_far ms' None) (append_assoc before (m ∷ []) ms)

-- the result of joining one by one is that of the whole list
pub only_one : (us : List Unit) (ms : List MessageView) (rest : Option MessageView) → UnitsJoinTo us ms rest → joined us ≡ so_far ms rest
only_one us ms rest to =
    ends_left_out (so_far [] None) us
    ∙ ap (join_datas (so_far [] None)) to.are
    ∙ join_datas-append (so_far [] None) (all_of to.groups) to.others
    ∙ ap (λ j. join_datas j to.others) (join_groups [] to.groups ms to.ended to.each)
    ∙ join_unmarked ms [] to.others to.unended
    ∙ ap (so_far ms) to.begun

-- ---- one more unit

abbrev JoinsTo : List Unit → Joining → Type 0
JoinsTo us j = UnitsJoinTo us j.messages j.rest

data_after : (us : List Unit) (u : Unit) → is_end u ≡ false → filter is_data (us ++ u ∷ []) ≡ filter is_data us ++ u ∷ []
data_after us u goes_on = filter-append is_data us (u ∷ []) ∙ ap (λ vs. filter is_data us ++ vs) (data_first u [] goes_on)

end_behind : (us : List Unit) (u : Unit) → is_end u ≡ true → filter is_data (us ++ u ∷ []) ≡ filter is_data us
end_behind us u ends = filter-append is_data us (u ∷ []) ∙ ap (λ vs. filter is_data us ++ vs) (data_later u [] ends) ∙ append-nil (filter is_data us)

-- the unit ends a message
one_group_more : (us : List Unit) (u : Unit) (j : Joining) → is_end u ≡ false → u.last ≡ true → JoinsTo us j → JoinsTo (us ++ u ∷ []) (so_far (j.messages ++ added j.rest u ∷ []) None)
one_group_more us u j goes_on ends to =
    let group : List Unit = to.others ++ u ∷ [] in
    let single : List (List Unit) = group ∷ [] in
    record {
      groups = to.groups ++ single;
      others = [];
      are = data_after us u goes_on
          ∙ ap (λ vs. vs ++ u ∷ []) to.are
          ∙ append_assoc (all_of to.groups) to.others (u ∷ [])
          ∙ ap (λ vs. all_of to.groups ++ vs) (sym (append-nil group))
          ∙ sym (flat_map-append (λ (g : List Unit). g) to.groups single)
          ∙ sym (append-nil (all_of (to.groups ++ single)));
      ended = All-append IsGroup to.groups single to.ended
          (All-cons IsGroup group [] (record { before = to.others; final = u; are = refl; unmarked = to.unended; marked = ends }) (All-none IsGroup));
      unended = All-none (λ (v : Unit). v.last ≡ false);
      each = map-append as_one to.groups single
          ∙ ap (λ os. os ++ as_one group ∷ []) to.each
          ∙ ap (λ o. map Some j.messages ++ o ∷ []) (as_one-snoc to.others u ∙ ap (λ o. Some (added o u)) to.begun)
          ∙ sym (map-append Some j.messages (added j.rest u ∷ []));
      begun = refl;
    }

-- the unit ends no message
one_unit_more : (us : List Unit) (u : Unit) (j : Joining) → is_end u ≡ false → u.last ≡ false → JoinsTo us j → JoinsTo (us ++ u ∷ []) (so_far j.messages (Some (added j.rest u)))
one_unit_more us u j goes_on not_yet to = record {
  groups = to.groups;
  others = to.others ++ u ∷ [];
  are = data_after us u goes_on ∙ ap (λ vs. vs ++ u ∷ []) to.are ∙ append_assoc (all_of to.groups) to.others (u ∷ []);
  ended = to.ended;
  unended = All-append (λ (v : Unit). v.last ≡ false) to.others (u ∷ []) to.unended
      (All-cons (λ (v : Unit). v.last ≡ false) u [] not_yet (All-none (λ (v : Unit). v.last ≡ false)));
  each = to.each;
  begun = as_one-snoc to.others u ∙ ap (λ o. Some (added o u)) to.begun;
}

one_end_more : (us : List Unit) (u : Unit) (j : Joining) → is_end u ≡ true → JoinsTo us j → JoinsTo (us ++ u ∷ []) j
one_end_more us u j ends to = record {
  groups = to.groups;
  others = to.others;
  are = end_behind us u ends ∙ to.are;
  ended = to.ended;
  unended = to.unended;
  each = to.each;
  begun = to.begun;
}

one_more : (us : List Unit) (u : Unit) (j : Joining) → JoinsTo us j → JoinsTo (us ++ u ∷ []) (join_unit j u)
one_more us u j to =
    cond_both (is_end u) j (join_data j u) (JoinsTo (us ++ u ∷ []))
    (λ ends. one_end_more us u j ends to)
    (λ goes_on. cond_both u.last (so_far (j.messages ++ added j.rest u ∷ []) None) (so_far j.messages (Some (added j.rest u))) (JoinsTo (us ++ u ∷ []))
    (λ ends. one_group_more us u j goes_on ends to)
    (λ not_yet. one_unit_more us u j goes_on not_yet to))

more : (us vs : List Unit) (j : Joining) → JoinsTo us j → JoinsTo (us ++ vs) (join_all j vs)
more us [] j to = subst (λ xs. JoinsTo xs j) (sym (append-nil us)) to
more us (v ∷ vs) j to =
    subst (λ xs. JoinsTo xs (join_all (join_unit j v) vs)) (append_assoc us (v ∷ []) vs)
    (more (us ++ v ∷ []) vs (join_unit j v) (one_more us v j to))

nothing_yet : JoinsTo [] (so_far [] None)
nothing_yet = record {
  groups = [];
  others = [];
  are = refl;
  ended = All-none IsGroup;
  unended = All-none (λ (v : Unit). v.last ≡ false);
  each = refl;
  begun = refl;
}

pub joined_so : (us : List Unit) → UnitsJoinTo us (joined us).messages (joined us).rest
joined_so us = more [] us (so_far [] None) nothing_yet
