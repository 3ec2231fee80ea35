-- What two ends took and handed out, compared with what their peers sent and handed in.
use Rattle.std.proofs.Common.{◌≡◌, ◌≢◌, ◌⊎◌, ◌≤◌, ◌==◌, ℕ, zero, suc, Bool, true, false, cond, List, [], ◌∷◌, ◌++◌, length, take, drop, set, Some, None, refl, sym, ◌∙◌, inl, inr, ap, subst, arith, ne_eqb}
use Rattle.std.specs.Prelude.{slice_get}
use Rattle.std.proofs.Math.Seq.{take-append_seam}
use Rattle.std.proofs.lemmas.List.{append-nil, append_assoc}
use Rattle.std.proofs.lemmas.Bool.{cases_eq, cond_both, cond-true, cond-false}
use Rattle.std.proofs.lemmas.Option.{slice_get_within}
use Rattle.spx_link.specs.declared.unit.Unit.{Unit}
use Rattle.spx_link.specs.declared.outgoing.Sent.{Sent}
use Rattle.spx_link.specs.declared.received.Received.{Received}
use Rattle.spx_link.specs.LinkView.{LinkView, is_end}
use Rattle.spx_link.specs.Receive.{receive_link}
use Rattle.spx_messages.specs.Message.{MessageView}
use Rattle.spx_messages.specs.Joining.{Joining, added, join_unit, join_all, joined}
use Rattle.spx_theory.specs.Note.{Note, Opened, Accepted, HandsIn, TakesUnit, AsksEnd, Got, Released, Told, Carried, Injected}
use Rattle.spx_theory.specs.Scan.{scan}
use Rattle.spx_theory.specs.Handed.{out_by, units_by, taken_by, gathered, handed_out, units_of, taken_of, IsBeginning}
use Rattle.spx_theory.specs.PairLog.{pair_between, new_half}
use Rattle.spx_theory.specs.Scene.{Scene, PresentEnd}
use Rattle.spx_theory.specs.Deeds.{Deed, DoesDeed, Dials, Accepts, Reads, OwesReply, Paces, AsksAgain, Gives, Rests, Sends, Takes, Overruns, Closes, Releases, Carries, Tells, Injects}
use Rattle.spx_theory.specs.PacketsOnWay.{note_of, notes_of, out_notes}
use Rattle.spx_theory.proofs.Lists.{get_last, get_set}
use Rattle.spx_theory.proofs.Speaking.{eqb_same}
use Rattle.spx_theory.proofs.Gathering.{gathered-append, both_counted, joins_log, AreRanged, InRange}
use Rattle.spx_theory.proofs.Held.{HeldAt, turned}
use Rattle.spx_theory.proofs.NextFacts.{FactsAt}
use Rattle.spx_theory.proofs.NextHeld.{NeverOverrun}
use Rattle.spx_link.specs.declared.outgoing.Sent.TheVariants as Sents
use Rattle.spx_link.specs.declared.received.Received.TheVariants as Rs
use Rattle.spx_theory.specs.Below.{LawsBelow}

abbrev pub NoteOk : Note → Type 0
NoteOk (HandsIn who m) = InRange m
NoteOk n = Prim.Unit {0}

abbrev pub AreOk : List Note → Type 0
AreOk [] = Prim.Unit {0}
AreOk (n ∷ ns) = NoteOk n × AreOk ns

pub ranged_ok : (log : List Note) → AreOk log → AreRanged log
ranged_ok [] ok k who m at = absurd (cc at)
ranged_ok (n ∷ ns) ok zero who m at =
    let is : n ≡ HandsIn who m = cc at in
    let range : NoteOk (HandsIn who m) = subst NoteOk is ok.0 in range
ranged_ok (n ∷ ns) ok (suc k) who m at = ranged_ok ns ok.1 k who m at

ok-append : (xs ys : List Note) → AreOk xs → AreOk ys → AreOk (xs ++ ys)
ok-append [] ys one two = two
ok-append (x ∷ xs) ys one two = (one.0, ok-append xs ys one.1 two)

pub record Said (c d : ℕ) (s : Scene) : Type 0 where
  pub begins : IsBeginning (taken_of c s.log) (units_of d s.log)
  pub handed : handed_out c s.log ≡ (joined (taken_of c s.log)).messages
  pub rest : (e : PresentEnd) → slice_get s.ends c ≡ Some e → (e.link ≢ None → e.rest ≡ (joined (taken_of c s.log)).rest) × (e.overlong ≡ false)

-- entries by which no end takes a unit or hands out a message
pub record AreSilent (ns : List Note) : Type 0 where
  pub ok : AreOk ns
  pub taken : (e : ℕ) → gathered (taken_by e) ns ≡ []
  pub out : (e : ℕ) → gathered (out_by e) ns ≡ []

pub given_silent : (what : Sent) (who k : ℕ) → AreSilent (note_of what who k ∷ [])
given_silent Sents.Request who k = record { ok = (tt, tt); taken = λ e. refl; out = λ e. refl }
given_silent Sents.Reply who k = record { ok = (tt, tt); taken = λ e. refl; out = λ e. refl }
given_silent Sents.Confirm who k = record { ok = (tt, tt); taken = λ e. refl; out = λ e. refl }
given_silent Sents.Unit who k = record { ok = (tt, tt); taken = λ e. refl; out = λ e. refl }
given_silent Sents.Again who k = record { ok = (tt, tt); taken = λ e. refl; out = λ e. refl }
given_silent Sents.Ack who k = record { ok = (tt, tt); taken = λ e. refl; out = λ e. refl }
given_silent Sents.Probe who k = record { ok = (tt, tt); taken = λ e. refl; out = λ e. refl }

pub read_silent : (r : Received) (who k : ℕ) → AreSilent (notes_of r who k)
read_silent Rs.Joined who k = record { ok = (tt, (tt, tt)); taken = λ e. refl; out = λ e. refl }
read_silent Rs.Kept who k = record { ok = (tt, tt); taken = λ e. refl; out = λ e. refl }
read_silent Rs.Repeat who k = record { ok = (tt, tt); taken = λ e. refl; out = λ e. refl }
read_silent Rs.Ahead who k = record { ok = (tt, tt); taken = λ e. refl; out = λ e. refl }
read_silent Rs.OverAllocation who k = record { ok = (tt, tt); taken = λ e. refl; out = λ e. refl }
read_silent Rs.System who k = record { ok = (tt, tt); taken = λ e. refl; out = λ e. refl }
read_silent Rs.PeerEnded who k = record { ok = (tt, tt); taken = λ e. refl; out = λ e. refl }
read_silent Rs.Confirmed who k = record { ok = (tt, tt); taken = λ e. refl; out = λ e. refl }
read_silent Rs.Stranger who k = record { ok = tt; taken = λ e. refl; out = λ e. refl }

-- the end had this rest before, or is new and took nothing
abbrev pub KeepsRest : List PresentEnd → List PresentEnd → List Note → ℕ → Type 0
KeepsRest old new log c = (w : PresentEnd) → slice_get new c ≡ Some w
    → ((e : PresentEnd) × (slice_get old c ≡ Some e) × (w.link ≢ None → (w.rest ≡ e.rest) × (e.link ≢ None)) × (w.overlong ≡ e.overlong)) ⊎ ((taken_of c log ≡ []) × (w.rest ≡ None) × (w.overlong ≡ false))

said_grows : (c d : ℕ) (s : Scene) (ends : List PresentEnd) (parcels : List (List ℕ)) (segments : List _) (ns : List Note) → gathered (taken_by c) ns ≡ [] → gathered (out_by c) ns ≡ [] → KeepsRest s.ends ends s.log c → Said c d s
    → Said c d (record s { ends = ends; parcels = parcels; segments = segments; log = s.log ++ ns })
said_grows c d s ends parcels segments ns none none' keeps said =
    let taken : taken_of c (s.log ++ ns) ≡ taken_of c s.log = gathered-append (taken_by c) s.log ns ∙ ap (λ us. taken_of c s.log ++ us) none ∙ append-nil (taken_of c s.log) in
    let out : handed_out c (s.log ++ ns) ≡ handed_out c s.log = gathered-append (out_by c) s.log ns ∙ ap (λ us. handed_out c s.log ++ us) none' ∙ append-nil (handed_out c s.log) in
    let units : units_of d (s.log ++ ns) ≡ units_of d s.log ++ units_of d ns = gathered-append (units_by d) s.log ns in
    record {
      begins = (
        said.begins.0 ++ units_of d ns,
        ap (λ us. us ++ (said.begins.0 ++ units_of d ns)) taken ∙ sym (append_assoc (taken_of c s.log) said.begins.0 (units_of d ns)) ∙ ap (λ us. us ++ units_of d ns) said.begins.1 ∙ sym units,
      );
      handed = out ∙ said.handed ∙ ap (λ us. (joined us).messages) (sym taken);
      rest = λ w at. elim (keeps w at) [
        | inl old ↦
            let was = said.rest old.0 old.1 in
            ((λ stands. let k = old.2 stands in k.0 ∙ was.0 k.1 ∙ ap (λ us. (joined us).rest) (sym taken)), old.3 ∙ was.1)
        | inr new ↦ ((λ stands. new.1 ∙ ap (λ us. (joined us).rest) (sym (taken ∙ new.0))), new.2)
      ];
    }

pub linked' : (e : PresentEnd) (l : LinkView) → e.link ≡ Some l → e.link ≢ None
linked' e l is none = cc (sym is ∙ none)

-- an end is replaced that has the same rest
keeps_set : (ends : List PresentEnd) (log : List Note) (who : ℕ) (e w : PresentEnd) (c : ℕ) → slice_get ends who ≡ Some e → (w.link ≢ None → (w.rest ≡ e.rest) × (e.link ≢ None)) → w.overlong ≡ e.overlong → KeepsRest ends (set ends who w) log c
keeps_set ends log who e w c at rest over f there =
    elim (get_set ends who c w f there) [
      | inl here ↦ inl (e, ap (slice_get ends) (sym here.0) ∙ at, (λ stands. let k = rest (λ none. stands (ap (λ (x : PresentEnd). x.link) (sym here.1) ∙ none)) in (ap (λ (x : PresentEnd). x.rest) (sym here.1) ∙ k.0, k.1)), ap (λ (x : PresentEnd). x.overlong) (sym here.1) ∙ over)
      | inr other ↦ inl (f, other.1, (λ stands. (refl, stands)), refl)
    ]

keeps_other : (ends : List PresentEnd) (log : List Note) (who : ℕ) (w : PresentEnd) (c : ℕ) → who ≢ c → KeepsRest ends (set ends who w) log c
keeps_other ends log who w c differ f there = elim (get_set ends who c w f there) [ inl here ↦ absurd (differ here.0) | inr other ↦ inl (f, other.1, (λ stands. (refl, stands)), refl) ]

keeps_same : (ends : List PresentEnd) (log : List Note) (c : ℕ) → KeepsRest ends ends log c
keeps_same ends log c f there = inl (f, there, (λ stands. (refl, stands)), refl)

keeps_new : (ends : List PresentEnd) (log : List Note) (e : PresentEnd) (c : ℕ) → e.rest ≡ None → e.overlong ≡ false → (c ≡ length ends → taken_of c log ≡ []) → KeepsRest ends (ends ++ e ∷ []) log c
keeps_new ends log e c rest over none f there =
    elim (get_last ends e f c there) [
      | inl was ↦ inl (f, was, (λ stands. (refl, stands)), refl)
      | inr new ↦ inr (none new.0, ap (λ (x : PresentEnd). x.rest) (sym new.1) ∙ rest, ap (λ (x : PresentEnd). x.overlong) (sym new.1) ∙ over)
    ]

no_list : (us : List Unit) → length us ≡ 0 → us ≡ []
no_list [] e = refl
no_list (u ∷ us) e = absurd (omega (arith, e))

pub outs_out : (e who : ℕ) (ms : List MessageView) → gathered (out_by e) (out_notes who ms) ≡ cond (who == e) ms []
outs_out e who [] = cond_both (who == e) [] [] (λ ts. [] ≡ ts) (λ y. refl) (λ n. refl)
outs_out e who (m ∷ ms) = cases (who == e) (outs_out e who ms)
  where
    cases : (b : Bool) → gathered (out_by e) (out_notes who ms) ≡ cond b ms [] → (cond b (m ∷ []) []) ++ gathered (out_by e) (out_notes who ms) ≡ cond b (m ∷ ms) []
    cases true h = ap (λ ts. m ∷ ts) h
    cases false h = h

pub outs_taken : (e who : ℕ) (ms : List MessageView) → gathered (taken_by e) (out_notes who ms) ≡ []
outs_taken e who [] = refl
outs_taken e who (m ∷ ms) = outs_taken e who ms

pub outs_units : (e who : ℕ) (ms : List MessageView) → gathered (units_by e) (out_notes who ms) ≡ []
outs_units e who [] = refl
outs_units e who (m ∷ ms) = outs_units e who ms

outs_ok : (who : ℕ) (ms : List MessageView) → AreOk (out_notes who ms)
outs_ok who [] = tt
outs_ok who (m ∷ ms) = (tt, outs_ok who ms)

-- joining does not change the messages that are there already
pub join_more : (j : Joining) (u : Unit) → join_unit j u ≡ record { messages = j.messages ++ (join_unit (record { messages = []; rest = j.rest }) u).messages; rest = (join_unit (record { messages = []; rest = j.rest }) u).rest }
join_more j u = cases (is_end u) u.last
  where
    cases : (end last : Bool) → cond {A = Joining} end j (cond {A = Joining} last (record { messages = j.messages ++ added j.rest u ∷ []; rest = None }) (record j { rest = Some (added j.rest u) }))
        ≡ record {
          messages = j.messages ++ (cond {A = Joining} end (record { messages = []; rest = j.rest }) (cond {A = Joining} last (record { messages = [] ++ added j.rest u ∷ []; rest = None }) (record { messages = []; rest = Some (added j.rest u) }))).messages;
          rest = (cond {A = Joining} end (record { messages = []; rest = j.rest }) (cond {A = Joining} last (record { messages = [] ++ added j.rest u ∷ []; rest = None }) (record { messages = []; rest = Some (added j.rest u) }))).rest;
        }
    cases true last = ap (λ ms. record { messages = ms; rest = j.rest }) (sym (append-nil j.messages))
    cases false true = refl
    cases false false = ap (λ ms. record { messages = ms; rest = Some (added j.rest u) }) (sym (append-nil j.messages))

pub join_one_more : (us : List Unit) (j : Joining) (u : Unit) → join_all j (us ++ u ∷ []) ≡ join_unit (join_all j us) u
join_one_more [] j u = refl
join_one_more (v ∷ us) j u = join_one_more us (join_unit j v) u

module _ (laws : LawsBelow) (c d a b : ℕ) (differ : c ≢ d) where
  -- of both ends, and of everything that was handed in
  pub record Tells' (s : Scene) : Type 0 where
    pub ok : AreOk s.log
    pub one : Said c d s
    pub two : Said d c s

  counts : (s : Scene) → (length (taken_of c s.log) ≡ (pair_between c d a b s.parcels s.log).one.end.taken) × (length (taken_of d s.log) ≡ (pair_between c d a b s.parcels s.log).two.end.taken)
      × ((pair_between c d a b s.parcels s.log).one.end.units ≡ units_of c s.log) × ((pair_between c d a b s.parcels s.log).two.end.units ≡ units_of d s.log)
  counts s =
      let both = both_counted s.parcels c d (record { one = new_half a; two = new_half b }) s.log in
      (omega (arith, both.0.taken), omega (arith, both.1.taken), both.0.units, both.1.units)

  -- an end that does not exist took nothing
  nothing_one : (s : Scene) → FactsAt s → HeldAt c d a b s → c ≡ length s.ends → taken_of c s.log ≡ []
  nothing_one s f h at =
      let new = h.early (λ r there. absurd (omega (arith, at, f.roles, slice_get_within (scan s.log).roles c r there))) in
      no_list (taken_of c s.log) (omega (arith, (counts s).0, new.taken))

  nothing_two : (s : Scene) → HeldAt c d a b s → d ≡ length s.ends → taken_of d s.log ≡ []
  nothing_two s h at = no_list (taken_of d s.log) (omega (arith, (counts s).1, (h.unmade (omega (arith, at))).taken))

  -- no message grows too long
  overrun_one : (e f : ℕ) (s : Scene) (ok : AreOk s.log) → Said e f s → (stand : PresentEnd) (u : Unit) → slice_get s.ends e ≡ Some stand → stand.link ≢ None → slice_get (units_of f s.log) (length (taken_of e s.log)) ≡ Some u
      → u.stream ≢ 254 → length (added stand.rest u).body ≤ 65535
  overrun_one e f s ok said stand u at stands next ne =
      let k : ℕ = length (taken_of e s.log) in
      let first : take k (units_of f s.log) ≡ taken_of e s.log = ap (take k) (sym said.begins.1) ∙ take-append_seam (taken_of e s.log) said.begins.0 in
      let j = joins_log f s.log [] k (ranged_ok s.log ok) in
      let short = j.short u next ne in
      let rest : stand.rest ≡ (joined (take k (units_of f s.log))).rest = (said.rest stand at).0 stands ∙ ap (λ us. (joined us).rest) (sym first) in
      subst (λ r. length (added r u).body ≤ 65535) (sym rest) short

  pub never : (s : Scene) → HeldAt c d a b s → Tells' s → NeverOverrun laws c d a b differ s
  never s h t s' who u does (inl one) =
      let at : slice_get s.ends c ≡ Some does.stand = subst (λ k. slice_get s.ends k ≡ Some does.stand) one does.stands.there in
      let to = laws.steps.takes does.link u _ _ (h.whole.one.link does.stand does.link at does.stands.link) h.whole.sound does.gives in
      let next : slice_get (units_of d s.log) (length (taken_of c s.log)) ≡ Some u = subst (λ us. slice_get us (length (taken_of c s.log)) ≡ Some u) (counts s).3 (ap (slice_get (pair_between c d a b s.parcels s.log).two.end.units) (counts s).0 ∙ to.is) in
      absurd (omega (arith, does.long, overrun_one c d s t.ok t.one does.stand u at (linked' does.stand does.link does.stands.link) next does.data'))
  never s h t s' who u does (inr two) =
      let at : slice_get s.ends d ≡ Some does.stand = subst (λ k. slice_get s.ends k ≡ Some does.stand) two does.stands.there in
      let w = turned c d s.ends s.parcels (scan s.log).marks (scan s.log).sent _ _ h.whole in
      let to = laws.steps.takes does.link u _ _ (w.one.link does.stand does.link at does.stands.link) w.sound does.gives in
      let next : slice_get (units_of c s.log) (length (taken_of d s.log)) ≡ Some u = subst (λ us. slice_get us (length (taken_of d s.log)) ≡ Some u) (counts s).2 (ap (slice_get (pair_between c d a b s.parcels s.log).one.end.units) (counts s).1 ∙ to.is) in
      absurd (omega (arith, does.long, overrun_one d c s t.ok t.two does.stand u at (linked' does.stand does.link does.stands.link) next does.data'))

  silent_next : (s : Scene) (ends : List PresentEnd) (parcels : List (List ℕ)) (segments : List _) (ns : List Note) → AreSilent ns → KeepsRest s.ends ends s.log c → KeepsRest s.ends ends s.log d → Tells' s
      → Tells' (record s { ends = ends; parcels = parcels; segments = segments; log = s.log ++ ns })
  silent_next s ends parcels segments ns silent keeps keeps' t =
      record { ok = ok-append s.log ns t.ok silent.ok; one = said_grows c d s ends parcels segments ns (silent.taken c) (silent.out c) keeps t.one; two = said_grows d c s ends parcels segments ns (silent.taken d) (silent.out d) keeps' t.two }

  -- there is no entry
  quiet_next : (s : Scene) (ends : List PresentEnd) → KeepsRest s.ends ends s.log c → KeepsRest s.ends ends s.log d → Tells' s → Tells' (record s { ends = ends })
  quiet_next s ends keeps keeps' t =
      record { ok = t.ok; one = quiet c d keeps t.one; two = quiet d c keeps' t.two }
    where
      quiet : (e f : ℕ) → KeepsRest s.ends ends s.log e → Said e f s → Said e f (record s { ends = ends })
      quiet e f keep said =
          record {
            begins = said.begins;
            handed = said.handed;
            rest = λ w at. elim (keep w at) [
              | inl old ↦ let was = said.rest old.0 old.1 in ((λ stands. let k = old.2 stands in k.0 ∙ was.0 k.1), old.3 ∙ was.1)
              | inr new ↦ ((λ stands. new.1 ∙ ap (λ us. (joined us).rest) (sym new.0)), new.2)
            ];
          }

  -- ---- a unit is taken
  one_next : (xs ys : List Unit) (u : Unit) → slice_get (xs ++ ys) (length xs) ≡ Some u → ys ≡ u ∷ drop 1 ys
  one_next [] [] u at = absurd (cc at)
  one_next [] (y ∷ ys) u at = let same : y ≡ u = cc at in ap (λ v. v ∷ ys) same
  one_next (x ∷ xs) ys u at = one_next xs ys u at

  takes_own : (e f : ℕ) (s : Scene) (stand w : PresentEnd) (u : Unit) (joins : Joining) → slice_get s.ends e ≡ Some stand → stand.link ≢ None → w.rest ≡ joins.rest → w.overlong ≡ stand.overlong
      → joins ≡ join_unit (record { messages = []; rest = stand.rest }) u → slice_get (units_of f s.log) (length (taken_of e s.log)) ≡ Some u → Said e f s
      → Said e f (record s { ends = set s.ends e w; log = s.log ++ (TakesUnit e u ∷ out_notes e joins.messages) })
  takes_own e f s stand w u joins at stands rest over is next said =
      let ns : List Note = TakesUnit e u ∷ out_notes e joins.messages in
      let own : (e == e) ≡ true = eqb_same e in
      let was = said.rest stand at in
      let more : gathered (taken_by e) ns ≡ u ∷ [] = ap (λ b. cond b (u ∷ []) [] ++ gathered (taken_by e) (out_notes e joins.messages)) own ∙ ap (λ us. u ∷ us) (outs_taken e e joins.messages) in
      let taken : taken_of e (s.log ++ ns) ≡ taken_of e s.log ++ u ∷ [] = gathered-append (taken_by e) s.log ns ∙ ap (λ us. taken_of e s.log ++ us) more in
      let out : handed_out e (s.log ++ ns) ≡ handed_out e s.log ++ joins.messages = gathered-append (out_by e) s.log ns ∙ ap (λ ts. handed_out e s.log ++ ts) (outs_out e e joins.messages ∙ cond-true (e == e) joins.messages [] own) in
      let units : units_of f (s.log ++ ns) ≡ units_of f s.log = gathered-append (units_by f) s.log ns ∙ ap (λ us. units_of f s.log ++ us) (outs_units f e joins.messages) ∙ append-nil (units_of f s.log) in
      let behind : said.begins.0 ≡ u ∷ drop 1 said.begins.0 = one_next (taken_of e s.log) said.begins.0 u (ap (λ us. slice_get us (length (taken_of e s.log))) said.begins.1 ∙ next) in
      let j : Joining = joined (taken_of e s.log) in
      let joins_is : joins ≡ join_unit (record { messages = []; rest = j.rest }) u = is ∙ ap (λ r. join_unit (record { messages = []; rest = r }) u) (was.0 stands) in
      let now : joined (taken_of e s.log ++ u ∷ []) ≡ record { messages = j.messages ++ joins.messages; rest = joins.rest } =
      join_one_more (taken_of e s.log) (record { messages = []; rest = None }) u ∙ join_more j u ∙ ap (λ (k : Joining). record { messages = j.messages ++ k.messages; rest = k.rest }) (sym joins_is) in
      record {
        begins = (
          drop 1 said.begins.0,
          ap (λ us. us ++ drop 1 said.begins.0) taken ∙ append_assoc (taken_of e s.log) (u ∷ []) (drop 1 said.begins.0) ∙ ap (λ us. taken_of e s.log ++ us) (sym behind) ∙ said.begins.1 ∙ sym units,
        );
        handed = out ∙ ap (λ ts. ts ++ joins.messages) said.handed ∙ sym (ap (λ us. (joined us).messages) taken ∙ ap (λ (k : Joining). k.messages) now);
        rest = λ g there. elim (get_set s.ends e e w g there) [
          | inl here ↦ (
            (λ stands'. ap (λ (x : PresentEnd). x.rest) (sym here.1) ∙ rest ∙ sym (ap (λ us. (joined us).rest) taken ∙ ap (λ (k : Joining). k.rest) now)),
            ap (λ (x : PresentEnd). x.overlong) (sym here.1) ∙ over ∙ was.1,
          )
          | inr other ↦ absurd (other.0 refl)
        ];
      }

  takes_other : (who e f : ℕ) (s : Scene) (w : PresentEnd) (u : Unit) (ms : List MessageView) → who ≢ e → Said e f s
      → Said e f (record s { ends = set s.ends who w; log = s.log ++ (TakesUnit who u ∷ out_notes who ms) })
  takes_other who e f s w u ms differ' said =
      let no : (who == e) ≡ false = ne_eqb who e differ' in
      said_grows e f s (set s.ends who w) s.parcels s.segments (TakesUnit who u ∷ out_notes who ms)
      (ap (λ b. cond b (u ∷ []) [] ++ gathered (taken_by e) (out_notes who ms)) no ∙ outs_taken e who ms)
      (outs_out e who ms ∙ cond-false (who == e) ms [] no)
      (λ g there. elim (get_set s.ends who e w g there) [ inl here ↦ absurd (differ' here.0) | inr other ↦ inl (g, other.1, (λ stands. (refl, stands)), refl) ]) said

  takes_next : (s : Scene) (who : ℕ) (stand w : PresentEnd) (u : Unit) (joins : Joining) → slice_get s.ends who ≡ Some stand → stand.link ≢ None → w.rest ≡ joins.rest → w.overlong ≡ stand.overlong
      → joins ≡ join_unit (record { messages = []; rest = stand.rest }) u
      → (who ≡ c → slice_get (units_of d s.log) (length (taken_of c s.log)) ≡ Some u) → (who ≡ d → slice_get (units_of c s.log) (length (taken_of d s.log)) ≡ Some u)
      → Tells' s → Tells' (record s { ends = set s.ends who w; log = s.log ++ (TakesUnit who u ∷ out_notes who joins.messages) })
  takes_next s who stand w u joins at stands rest over is next next' t =
      record {
        ok = ok-append s.log _ t.ok (tt, outs_ok who joins.messages);
        one = elim (cases_eq who c) [
          | inl here ↦ subst (λ k. Said c d (record s { ends = set s.ends k w; log = s.log ++ (TakesUnit k u ∷ out_notes k joins.messages) })) (sym here)
              (takes_own c d s stand w u joins (subst (λ k. slice_get s.ends k ≡ Some stand) here at) stands rest over is (next here) t.one)
          | inr other ↦ takes_other who c d s w u joins.messages other t.one
        ];
        two = elim (cases_eq who d) [
          | inl here ↦ subst (λ k. Said d c (record s { ends = set s.ends k w; log = s.log ++ (TakesUnit k u ∷ out_notes k joins.messages) })) (sym here)
              (takes_own d c s stand w u joins (subst (λ k. slice_get s.ends k ≡ Some stand) here at) stands rest over is (next' here) t.two)
          | inr other ↦ takes_other who d c s w u joins.messages other t.two
        ];
      }

  -- ---- each deed
  pub next_tells : (s s' : Scene) (deed : Deed) → DoesDeed deed s s' → FactsAt s → HeldAt c d a b s → Tells' s → Tells' s'
  next_tells s s' (Dials host id socket to buffers now) does f h t =
      subst Tells' (sym does.after)
      (silent_next s _ s.parcels s.segments (Opened (length s.ends) host buffers ∷ []) (record { ok = (tt, tt); taken = λ e. refl; out = λ e. refl })
      (keeps_new s.ends s.log _ c refl refl (nothing_one s f h)) (keeps_new s.ends s.log _ d refl refl (nothing_two s h)) t)
  next_tells s s' (Accepts host id socket parcel buffers now) does f h t =
      subst Tells' (sym does.after)
      (silent_next s _ s.parcels s.segments (Accepted (length s.ends) parcel buffers ∷ Got (length s.ends) parcel ∷ []) (record { ok = (tt, (tt, tt)); taken = λ e. refl; out = λ e. refl })
      (keeps_new s.ends s.log _ c refl refl (nothing_one s f h)) (keeps_new s.ends s.log _ d refl refl (nothing_two s h)) t)
  next_tells s s' (Reads who parcel) does f h t =
      subst Tells' (sym does.after)
      (silent_next s _ s.parcels s.segments (notes_of (receive_link does.link does.header does.body).0 who parcel) (read_silent (receive_link does.link does.header does.body).0 who parcel)
      (keeps_set s.ends s.log who does.stand _ c does.stands.there (λ stands. (refl, linked' does.stand does.link does.stands.link)) refl) (keeps_set s.ends s.log who does.stand _ d does.stands.there (λ stands. (refl, linked' does.stand does.link does.stands.link)) refl) t)
  next_tells s s' (OwesReply who) does f h t =
      subst Tells' (sym does.after) (quiet_next s _ (keeps_set s.ends s.log who does.stand _ c does.stands.there (λ stands. (refl, linked' does.stand does.link does.stands.link)) refl) (keeps_set s.ends s.log who does.stand _ d does.stands.there (λ stands. (refl, linked' does.stand does.link does.stands.link)) refl) t)
  next_tells s s' (Paces who window manual) does f h t =
      subst Tells' (sym does.after) (quiet_next s _ (keeps_set s.ends s.log who does.stand _ c does.stands.there (λ stands. (refl, linked' does.stand does.link does.stands.link)) refl) (keeps_set s.ends s.log who does.stand _ d does.stands.there (λ stands. (refl, linked' does.stand does.link does.stands.link)) refl) t)
  next_tells s s' (AsksAgain who place) does f h t =
      subst Tells' (sym does.after) (quiet_next s _ (keeps_set s.ends s.log who does.stand _ c does.stands.there (λ stands. (refl, linked' does.stand does.link does.stands.link)) refl) (keeps_set s.ends s.log who does.stand _ d does.stands.there (λ stands. (refl, linked' does.stand does.link does.stands.link)) refl) t)
  next_tells s s' (Gives who now segment bytes) does f h t =
      subst Tells' (sym does.after)
      (silent_next s _ (s.parcels ++ bytes ∷ []) (s.segments ++ segment ∷ []) (note_of does.given.what who (length s.parcels) ∷ []) (given_silent does.given.what who (length s.parcels))
      (keeps_set s.ends s.log who does.stand _ c does.stands.there (λ stands. (refl, linked' does.stand does.link does.stands.link)) refl) (keeps_set s.ends s.log who does.stand _ d does.stands.there (λ stands. (refl, linked' does.stand does.link does.stands.link)) refl) t)
  next_tells s s' (Rests who now) does f h t =
      subst Tells' (sym does.after) (quiet_next s _ (keeps_set s.ends s.log who does.stand _ c does.stands.there (λ stands. (refl, linked' does.stand does.link does.stands.link)) refl) (keeps_set s.ends s.log who does.stand _ d does.stands.there (λ stands. (refl, linked' does.stand does.link does.stands.link)) refl) t)
  next_tells s s' (Sends who m) does f h t =
      subst Tells' (sym does.after)
      (silent_next s _ s.parcels s.segments (HandsIn who m ∷ []) (record { ok = (record { stream = does.stream; short = does.short }, tt); taken = λ e. refl; out = λ e. refl })
      (keeps_set s.ends s.log who does.stand _ c does.stands.there (λ stands. (refl, linked' does.stand does.link does.stands.link)) refl) (keeps_set s.ends s.log who does.stand _ d does.stands.there (λ stands. (refl, linked' does.stand does.link does.stands.link)) refl) t)
  next_tells s s' (Takes who u) does f h t =
      let w = turned c d s.ends s.parcels (scan s.log).marks (scan s.log).sent _ _ h.whole in
      subst Tells' (sym does.after)
      (takes_next s who does.stand _ u does.joins does.stands.there (linked' does.stand does.link does.stands.link) refl refl does.joined
      (λ one.
      let to = laws.steps.takes does.link u _ _ (h.whole.one.link does.stand does.link (subst (λ k. slice_get s.ends k ≡ Some does.stand) one does.stands.there) does.stands.link) h.whole.sound does.gives in
      subst (λ us. slice_get us (length (taken_of c s.log)) ≡ Some u) (counts s).3 (ap (slice_get (pair_between c d a b s.parcels s.log).two.end.units) (counts s).0 ∙ to.is))
      (λ two.
      let to = laws.steps.takes does.link u _ _ (w.one.link does.stand does.link (subst (λ k. slice_get s.ends k ≡ Some does.stand) two does.stands.there) does.stands.link) w.sound does.gives in
      subst (λ us. slice_get us (length (taken_of d s.log)) ≡ Some u) (counts s).2 (ap (slice_get (pair_between c d a b s.parcels s.log).one.end.units) (counts s).1 ∙ to.is)) t)
  next_tells s s' (Overruns who u) does f h t =
      elim (cases_eq who c) [
        | inl one ↦ absurd (never s h t s' who u does (inl one))
        | inr not_c ↦ elim (cases_eq who d) [
          | inl two ↦ absurd (never s h t s' who u does (inr two))
          | inr not_d ↦ subst Tells' (sym does.after)
              (quiet_next s _ (keeps_other s.ends s.log who _ c not_c) (keeps_other s.ends s.log who _ d not_d) t)
        ]
      ]
  next_tells s s' (Closes who) does f h t =
      subst Tells' (sym does.after)
      (silent_next s _ s.parcels s.segments (AsksEnd who ∷ []) (record { ok = (tt, tt); taken = λ e. refl; out = λ e. refl })
      (keeps_set s.ends s.log who does.stand _ c does.stands.there (λ stands. (refl, linked' does.stand does.link does.stands.link)) refl) (keeps_set s.ends s.log who does.stand _ d does.stands.there (λ stands. (refl, linked' does.stand does.link does.stands.link)) refl) t)
  next_tells s s' (Releases who) does f h t =
      subst Tells' (sym does.after)
      (silent_next s _ s.parcels s.segments (Released who ∷ []) (record { ok = (tt, tt); taken = λ e. refl; out = λ e. refl })
      (keeps_set s.ends s.log who does.stand _ c does.stands.there (λ stands. absurd (stands refl)) refl) (keeps_set s.ends s.log who does.stand _ d does.stands.there (λ stands. absurd (stands refl)) refl) t)
  next_tells s s' (Carries from network segment bytes) does f h t =
      subst Tells' (sym does.after)
      (silent_next s s.ends (s.parcels ++ bytes ∷ []) (s.segments ++ segment ∷ []) (Carried from (length s.parcels) ∷ []) (record { ok = (tt, tt); taken = λ e. refl; out = λ e. refl }) (keeps_same s.ends s.log c) (keeps_same s.ends s.log d) t)
  next_tells s s' (Tells router segment bytes) does f h t =
      subst Tells' (sym does.after)
      (silent_next s s.ends (s.parcels ++ bytes ∷ []) (s.segments ++ segment ∷ []) (Told router (length s.parcels) ∷ []) (record { ok = (tt, tt); taken = λ e. refl; out = λ e. refl }) (keeps_same s.ends s.log c) (keeps_same s.ends s.log d) t)
  next_tells s s' (Injects segment bytes) does f h t =
      subst Tells' (sym does)
      (silent_next s s.ends (s.parcels ++ bytes ∷ []) (s.segments ++ segment ∷ []) (Injected (length s.parcels) ∷ []) (record { ok = (tt, tt); taken = λ e. refl; out = λ e. refl }) (keeps_same s.ends s.log c) (keeps_same s.ends s.log d) t)
