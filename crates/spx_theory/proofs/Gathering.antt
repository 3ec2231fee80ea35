-- What ends hand in and out, take and send, when the log grows; and that the units taken, joined, are a
-- prefix of what was handed in.
use Rattle.std.proofs.Common.{◌≡◌, ◌≢◌, ◌+◌, ◌-◌, ◌≤◌, ◌<◌, ◌==◌, ℕ, zero, suc, Bool, true, false, cond, List, [], ◌∷◌, ◌++◌, length, take, Option, Some, None, refl, sym, ◌∙◌, inl, inr, ap, subst, arith, length-append}
use Rattle.std.specs.Prelude.{slice_get}
use Rattle.std.proofs.lemmas.List.{append-nil, append_assoc, take-append-le}
use Rattle.std.proofs.lemmas.Bool.{cases_lt, cond-true, cond-false}
use Rattle.spx_link.specs.declared.unit.Unit.{Unit}
use Rattle.spx_link.specs.Offer.{the_end}
use Rattle.spx_link.specs.Machine.{End, Packet}
use Rattle.spx_messages.specs.Message.{MessageView}
use Rattle.spx_messages.specs.Joining.{Joining, added, join_all}
use Rattle.spx_messages.specs.Cut.{cut_of}
use Rattle.spx_theory.specs.Note.{Note, Opened, Accepted, Joined, HandsIn, HandsOut, TakesUnit, AsksEnd, Got, Released, SendsUnit, SendsAgain, SendsSystem, Told, Carried, Injected}
use Rattle.spx_theory.specs.Handed.{in_by, units_by, taken_by, gathered, handed_in, units_of, taken_of}
use Rattle.spx_theory.specs.PairLog.{Half, Pair, half_after, pair_after, pair_from, got_mail, mail_of, not_mine, posted, posted_next}
use Rattle.spx_theory.proofs.Reading.{got_same}
use Rattle.spx_theory.proofs.Joining.{cut_join, cut_part, join_all-append}

pub gathered-append : {A : Type 0} (f : Note → List A) (xs ys : List Note) → gathered f (xs ++ ys) ≡ gathered f xs ++ gathered f ys
gathered-append f [] ys = refl
gathered-append f (x ∷ xs) ys = ap (λ zs. f x ++ zs) (gathered-append f xs ys) ∙ sym (append_assoc (f x) (gathered f xs) (gathered f ys))

-- ---- the units of a half are those of the log
got_units : (o : Option Packet) (x : Half) → (got_mail o x).end.units ≡ x.end.units
got_units None x = refl
got_units (Some q) x = got_same (λ (e : End). e.units) q x.end (λ b l e. refl) (λ r ks e. refl)

got_taken : (o : Option Packet) (x : Half) → (got_mail o x).end.taken ≡ x.end.taken
got_taken None x = refl
got_taken (Some q) x = got_same (λ (e : End). e.taken) q x.end (λ b l e. refl) (λ r ks e. refl)

same_units : (b : Bool) (x y : Half) → y.end.units ≡ x.end.units → (cond b y (not_mine x)).end.units ≡ x.end.units ++ []
same_units true x y e = e ∙ sym (append-nil x.end.units)
same_units false x y e = sym (append-nil x.end.units)

same_units' : (b : Bool) (x y : Half) → y.end.units ≡ x.end.units → (cond b y x).end.units ≡ x.end.units ++ []
same_units' true x y e = e ∙ sym (append-nil x.end.units)
same_units' false x y e = sym (append-nil x.end.units)

pub units_after : (parcels : List (List ℕ)) (c : ℕ) (x y : Half) (n : Note) → (half_after parcels c x y n).end.units ≡ x.end.units ++ units_by c n
units_after parcels c x y (Opened who host buffers) = sym (append-nil x.end.units)
units_after parcels c x y (Accepted who parcel buffers) = sym (append-nil x.end.units)
units_after parcels c x y (Joined who parcel) = sym (append-nil x.end.units)
units_after parcels c x y (HandsIn who m) = cases (who == c)
  where
    cases : (b : Bool) → (cond b (record x { end = record x.end { units = x.end.units ++ cut_of m } }) x).end.units ≡ x.end.units ++ cond b (cut_of m) []
    cases true = refl
    cases false = sym (append-nil x.end.units)
units_after parcels c x y (HandsOut who m) = sym (append-nil x.end.units)
units_after parcels c x y (TakesUnit who u) = same_units' (who == c) x (record x { end = record x.end { taken = x.end.taken + 1 } }) refl
units_after parcels c x y (AsksEnd who) = cases (who == c)
  where
    cases : (b : Bool) → (cond b (record x { end = record x.end { units = x.end.units ++ the_end ∷ [] } }) x).end.units ≡ x.end.units ++ cond b (the_end ∷ []) []
    cases true = refl
    cases false = sym (append-nil x.end.units)
units_after parcels c x y (Got who parcel) = same_units' (who == c) x (got_mail (mail_of y parcel) x) (got_units (mail_of y parcel) x)
units_after parcels c x y (Released who) = sym (append-nil x.end.units)
units_after parcels c x y (SendsUnit who parcel) = same_units (who == c) x (posted_next x y) refl
units_after parcels c x y (SendsAgain who parcel) = same_units (who == c) x _ refl
units_after parcels c x y (SendsSystem who parcel) = same_units (who == c) x (posted None x y) refl
units_after parcels c x y (Told router parcel) = sym (append-nil x.end.units)
units_after parcels c x y (Carried from parcel) = sym (append-nil x.end.units)
units_after parcels c x y (Injected parcel) = sym (append-nil x.end.units)

same_taken : (b : Bool) (x y z : Half) → y.end.taken ≡ x.end.taken → z.end.taken ≡ x.end.taken → (cond b y z).end.taken ≡ x.end.taken + 0
same_taken true x y z e f = omega (arith, e)
same_taken false x y z e f = omega (arith, f)

pub taken_after : (parcels : List (List ℕ)) (c : ℕ) (x y : Half) (n : Note) → (half_after parcels c x y n).end.taken ≡ x.end.taken + length (taken_by c n)
taken_after parcels c x y (Opened who host buffers) = omega arith
taken_after parcels c x y (Accepted who parcel buffers) = omega arith
taken_after parcels c x y (Joined who parcel) = omega arith
taken_after parcels c x y (HandsIn who m) = same_taken (who == c) x _ x refl refl
taken_after parcels c x y (HandsOut who m) = omega arith
taken_after parcels c x y (TakesUnit who u) = cases (who == c)
  where
    cases : (b : Bool) → (cond b (record x { end = record x.end { taken = x.end.taken + 1 } }) x).end.taken ≡ x.end.taken + length (cond b (u ∷ []) [])
    cases true = omega arith
    cases false = omega arith
taken_after parcels c x y (AsksEnd who) = same_taken (who == c) x _ x refl refl
taken_after parcels c x y (Got who parcel) = same_taken (who == c) x (got_mail (mail_of y parcel) x) x (got_taken (mail_of y parcel) x) refl
taken_after parcels c x y (Released who) = omega arith
taken_after parcels c x y (SendsUnit who parcel) = same_taken (who == c) x (posted_next x y) (not_mine x) refl refl
taken_after parcels c x y (SendsAgain who parcel) = same_taken (who == c) x _ (not_mine x) refl refl
taken_after parcels c x y (SendsSystem who parcel) = same_taken (who == c) x (posted None x y) (not_mine x) refl refl
taken_after parcels c x y (Told router parcel) = omega arith
taken_after parcels c x y (Carried from parcel) = omega arith
taken_after parcels c x y (Injected parcel) = omega arith

pub record Counted (c : ℕ) (log : List Note) (x x' : Half) : Type 0 where
  pub units : x'.end.units ≡ x.end.units ++ units_of c log
  pub taken : x'.end.taken ≡ x.end.taken + length (taken_of c log)

pub both_counted : (parcels : List (List ℕ)) (c d : ℕ) (p : Pair) (log : List Note)
    → Counted c log p.one (pair_from parcels c d p log).one × Counted d log p.two (pair_from parcels c d p log).two
both_counted parcels c d p [] =
    (record { units = sym (append-nil p.one.end.units); taken = omega arith }, record { units = sym (append-nil p.two.end.units); taken = omega arith })
both_counted parcels c d p (n ∷ ns) =
    let q : Pair = pair_after parcels c d p n in
    let rest = both_counted parcels c d q ns in (
      record {
        units = rest.0.units ∙ ap (λ us. us ++ units_of c ns) (units_after parcels c p.one p.two n) ∙ append_assoc p.one.end.units (units_by c n) (units_of c ns);
        taken = omega (arith, rest.0.taken, taken_after parcels c p.one p.two n, length-append (taken_by c n) (taken_of c ns));
      },
      record {
        units = rest.1.units ∙ ap (λ us. us ++ units_of d ns) (units_after parcels d p.two p.one n) ∙ append_assoc p.two.end.units (units_by d n) (units_of d ns);
        taken = omega (arith, rest.1.taken, taken_after parcels d p.two p.one n, length-append (taken_by d n) (taken_of d ns));
      },
    )

-- ---- the first units of a log, joined
pub record InRange (m : MessageView) : Type 0 where
  pub stream : m.stream < 254
  pub short : length m.body ≤ 65535

abbrev pub AreRanged : List Note → Type 0
AreRanged log = (k who : ℕ) (m : MessageView) → slice_get log k ≡ Some (HandsIn who m) → InRange m

pub record Joins (e : ℕ) (log : List Note) (ms : List MessageView) (k : ℕ) : Type 0 where
  pub rest : List MessageView
  pub begins : (join_all (record { messages = ms; rest = None }) (take k (units_of e log))).messages ++ rest ≡ ms ++ handed_in e log
  pub short : (u : Unit) → slice_get (units_of e log) k ≡ Some u → u.stream ≢ 254 → length (added (join_all (record { messages = ms; rest = None }) (take k (units_of e log))).rest u).body ≤ 65535

-- the units of an entry, followed by those of the others
take_in : (us vs : List Unit) (k : ℕ) → k ≤ length us → take k (us ++ vs) ≡ take k us
take_in us vs k le = take-append-le k us vs le

take_past : (us vs : List Unit) (k : ℕ) → length us ≤ k → take k (us ++ vs) ≡ us ++ take (k - length us) vs
take_past [] vs k le = ap (λ i. take i vs) (omega arith)
take_past (u ∷ us) vs zero le = absurd (omega (arith, le))
take_past (u ∷ us) vs (suc k) le = ap (λ zs. u ∷ zs) (take_past us vs k (omega (arith, le)) ∙ ap (λ i. us ++ take i vs) (omega arith))

get_in : (us vs : List Unit) (k : ℕ) → k < length us → slice_get (us ++ vs) k ≡ slice_get us k
get_in [] vs k lt = absurd (omega (arith, lt))
get_in (u ∷ us) vs zero lt = refl
get_in (u ∷ us) vs (suc k) lt = get_in us vs k (omega (arith, lt))

get_past : (us vs : List Unit) (k : ℕ) → length us ≤ k → slice_get (us ++ vs) k ≡ slice_get vs (k - length us)
get_past [] vs k le = ap (slice_get vs) (omega arith)
get_past (u ∷ us) vs zero le = absurd (omega (arith, le))
get_past (u ∷ us) vs (suc k) le = get_past us vs k (omega (arith, le)) ∙ ap (slice_get vs) (omega arith)

-- a block of units that joins to some messages without a rest, before others
join_block : (e : ℕ) (ns : List Note) (us : List Unit) (ms more : List MessageView) (k : ℕ)
    → join_all (record { messages = ms; rest = None }) us ≡ record { messages = ms ++ more; rest = None } → length us ≤ k
    → Joins e ns (ms ++ more) (k - length us)
    → (rest : List MessageView) × ((join_all (record { messages = ms; rest = None }) (take k (us ++ units_of e ns))).messages ++ rest ≡ ms ++ (more ++ handed_in e ns))
    × ((u : Unit) → slice_get (us ++ units_of e ns) k ≡ Some u → u.stream ≢ 254 → length (added (join_all (record { messages = ms; rest = None }) (take k (us ++ units_of e ns))).rest u).body ≤ 65535)
join_block e ns us ms more k whole le j =
    let at : join_all (record { messages = ms; rest = None }) (take k (us ++ units_of e ns)) ≡ join_all (record { messages = ms ++ more; rest = None }) (take (k - length us) (units_of e ns)) =
    ap (join_all (record { messages = ms; rest = None })) (take_past us (units_of e ns) k le) ∙ join_all-append (record { messages = ms; rest = None }) us (take (k - length us) (units_of e ns))
    ∙ ap (λ z. join_all z (take (k - length us) (units_of e ns))) whole in (
      j.rest,
      ap (λ (z : Joining). z.messages ++ j.rest) at ∙ j.begins ∙ append_assoc ms more (handed_in e ns),
      λ u is ne. subst (λ (z : Joining). length (added z.rest u).body ≤ 65535) (sym at) (j.short u (sym (get_past us (units_of e ns) k le) ∙ is) ne),
    )

pub joins_log : (e : ℕ) (log : List Note) (ms : List MessageView) (k : ℕ) → AreRanged log → Joins e log ms k
joins_log e [] ms k ranged = record { rest = []; begins = ap (λ (us : List Unit). (join_all (record { messages = ms; rest = None }) us).messages ++ []) (take-nil k); short = λ u is ne. absurd (cc (sym (get-nil k) ∙ is)) }
  where
    take-nil : (i : ℕ) → take {A = Unit} i [] ≡ []
    take-nil zero = refl
    take-nil (suc i) = refl

    get-nil : (i : ℕ) → slice_get {X = Unit} [] i ≡ None
    get-nil zero = refl
    get-nil (suc i) = refl
joins_log e (n ∷ ns) ms k ranged =
    by_note n (λ who m is. ranged 0 who m (ap Some is)) (λ vs i. joins_log e ns vs i (λ j who m at. ranged (suc j) who m at))
  where
    -- an entry without units
    none : (m : Note) → units_by e m ≡ [] → in_by e m ≡ [] → ((vs : List MessageView) (i : ℕ) → Joins e ns vs i) → Joins e (m ∷ ns) ms k
    none m no_units no_texts deeper =
        let j = deeper ms k in
        let us : units_by e m ++ units_of e ns ≡ units_of e ns = ap (λ zs. zs ++ units_of e ns) no_units in
        let ts : in_by e m ++ handed_in e ns ≡ handed_in e ns = ap (λ zs. zs ++ handed_in e ns) no_texts in
        record {
          rest = j.rest;
          begins = ap (λ (zs : List Unit). (join_all (record { messages = ms; rest = None }) (take k zs)).messages ++ j.rest) us ∙ j.begins ∙ ap (λ zs. ms ++ zs) (sym ts);
          short = λ u is ne. subst (λ (zs : List Unit). length (added (join_all (record { messages = ms; rest = None }) (take k zs)).rest u).body ≤ 65535) (sym us) (j.short u (ap (λ (zs : List Unit). slice_get zs k) (sym us) ∙ is) ne);
        }

    built : (m : Note) (us : List Unit) (ts : List MessageView) → units_by e m ≡ us → in_by e m ≡ ts
        → (rest : List MessageView) × ((join_all (record { messages = ms; rest = None }) (take k (us ++ units_of e ns))).messages ++ rest ≡ ms ++ (ts ++ handed_in e ns))
        × ((u : Unit) → slice_get (us ++ units_of e ns) k ≡ Some u → u.stream ≢ 254 → length (added (join_all (record { messages = ms; rest = None }) (take k (us ++ units_of e ns))).rest u).body ≤ 65535)
        → Joins e (m ∷ ns) ms k
    built m us ts is are g =
        let zs : units_by e m ++ units_of e ns ≡ us ++ units_of e ns = ap (λ ys. ys ++ units_of e ns) is in
        let xs : in_by e m ++ handed_in e ns ≡ ts ++ handed_in e ns = ap (λ ys. ys ++ handed_in e ns) are in
        record {
          rest = g.0;
          begins = ap (λ (ys : List Unit). (join_all (record { messages = ms; rest = None }) (take k ys)).messages ++ g.0) zs ∙ g.1 ∙ ap (λ ys. ms ++ ys) (sym xs);
          short = λ u at ne. subst (λ (ys : List Unit). length (added (join_all (record { messages = ms; rest = None }) (take k ys)).rest u).body ≤ 65535) (sym zs) (g.2 u (ap (λ (ys : List Unit). slice_get ys k) (sym zs) ∙ at) ne);
        }

    -- the units of a message
    message : (m : MessageView) → InRange m → ((vs : List MessageView) (i : ℕ) → Joins e ns vs i)
        → (rest : List MessageView) × ((join_all (record { messages = ms; rest = None }) (take k (cut_of m ++ units_of e ns))).messages ++ rest ≡ ms ++ ((m ∷ []) ++ handed_in e ns))
        × ((u : Unit) → slice_get (cut_of m ++ units_of e ns) k ≡ Some u → u.stream ≢ 254 → length (added (join_all (record { messages = ms; rest = None }) (take k (cut_of m ++ units_of e ns))).rest u).body ≤ 65535)
    message m range deeper = elim (cases_lt k (length (cut_of m))) [
      | inl before ↦
          let part = cut_part ms m k range.stream before in
          let same : take k (cut_of m ++ units_of e ns) ≡ take k (cut_of m) = take_in (cut_of m) (units_of e ns) k (omega (arith, before)) in (
            (m ∷ []) ++ handed_in e ns,
            ap (λ (zs : List Unit). (join_all (record { messages = ms; rest = None }) zs).messages ++ ((m ∷ []) ++ handed_in e ns)) same ∙ ap (λ ts. ts ++ ((m ∷ []) ++ handed_in e ns)) part.messages,
            λ u is ne. subst (λ (zs : List Unit). length (added (join_all (record { messages = ms; rest = None }) zs).rest u).body ≤ 65535) (sym same)
                (omega (arith, part.short u (sym (get_in (cut_of m) (units_of e ns) k before) ∙ is), range.short)),
          )
      | inr past ↦ join_block e ns (cut_of m) ms (m ∷ []) k (cut_join ms m range.stream) past (deeper (ms ++ m ∷ []) (k - length (cut_of m)))
    ]

    -- the end
    finish : ((vs : List MessageView) (i : ℕ) → Joins e ns vs i) → (i : ℕ)
        → (rest : List MessageView) × ((join_all (record { messages = ms; rest = None }) (take i ((the_end ∷ []) ++ units_of e ns))).messages ++ rest ≡ ms ++ ([] ++ handed_in e ns))
        × ((u : Unit) → slice_get ((the_end ∷ []) ++ units_of e ns) i ≡ Some u → u.stream ≢ 254 → length (added (join_all (record { messages = ms; rest = None }) (take i ((the_end ∷ []) ++ units_of e ns))).rest u).body ≤ 65535)
    finish deeper zero = (handed_in e ns, refl, λ u is ne. let same : the_end ≡ u = cc is in absurd (ne (ap (λ (v : Unit). v.stream) (sym same))))
    finish deeper (suc i) = join_block e ns (the_end ∷ []) ms [] (suc i) (ap (λ ts. record { messages = ts; rest = None }) (sym (append-nil ms))) (omega arith) (deeper (ms ++ []) (suc i - 1))

    handed : (who : ℕ) (m : MessageView) → InRange m → ((vs : List MessageView) (i : ℕ) → Joins e ns vs i) → (b : Bool) → who == e ≡ b → Joins e (HandsIn who m ∷ ns) ms k
    handed who m range deeper true is =
        let got' = message m range deeper in
        let us : units_by e (HandsIn who m) ≡ cut_of m = cond-true _ _ _ is in
        let ts : in_by e (HandsIn who m) ≡ m ∷ [] = cond-true _ _ _ is in
        built (HandsIn who m) (cut_of m) (m ∷ []) us ts got'
    handed who m range deeper false is = none (HandsIn who m) (cond-false _ _ _ is) (cond-false _ _ _ is) deeper

    asked : (who : ℕ) → ((vs : List MessageView) (i : ℕ) → Joins e ns vs i) → (b : Bool) → who == e ≡ b → Joins e (AsksEnd who ∷ ns) ms k
    asked who deeper true is =
        let got' = finish deeper k in
        let us : units_by e (AsksEnd who) ≡ the_end ∷ [] = cond-true _ _ _ is in
        built (AsksEnd who) (the_end ∷ []) [] us refl got'
    asked who deeper false is = none (AsksEnd who) (cond-false _ _ _ is) refl deeper

    by_note : (m : Note) → ((who : ℕ) (t : MessageView) → m ≡ HandsIn who t → InRange t) → ((vs : List MessageView) (i : ℕ) → Joins e ns vs i) → Joins e (m ∷ ns) ms k
    by_note (HandsIn who t) range deeper = handed who t (range who t refl) deeper (who == e) refl
    by_note (AsksEnd who) range deeper = asked who deeper (who == e) refl
    by_note (Opened who host buffers) range deeper = none (Opened who host buffers) refl refl deeper
    by_note (Accepted who parcel buffers) range deeper = none (Accepted who parcel buffers) refl refl deeper
    by_note (Joined who parcel) range deeper = none (Joined who parcel) refl refl deeper
    by_note (HandsOut who t) range deeper = none (HandsOut who t) refl refl deeper
    by_note (TakesUnit who u) range deeper = none (TakesUnit who u) refl refl deeper
    by_note (Got who parcel) range deeper = none (Got who parcel) refl refl deeper
    by_note (Released who) range deeper = none (Released who) refl refl deeper
    by_note (SendsUnit who parcel) range deeper = none (SendsUnit who parcel) refl refl deeper
    by_note (SendsAgain who parcel) range deeper = none (SendsAgain who parcel) refl refl deeper
    by_note (SendsSystem who parcel) range deeper = none (SendsSystem who parcel) refl refl deeper
    by_note (Told router parcel) range deeper = none (Told router parcel) refl refl deeper
    by_note (Carried from parcel) range deeper = none (Carried from parcel) refl refl deeper
    by_note (Injected parcel) range deeper = none (Injected parcel) refl refl deeper
