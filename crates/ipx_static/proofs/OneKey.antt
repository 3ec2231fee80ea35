-- What a table has for a key once lists of entries were learned.
use Rattle.std.proofs.Common.{◌≡◌, ℕ, zero, suc, ◌-◌, Bool, true, false, cond, List, [], ◌∷◌, take, drop, Contains, Option, Some, None, slice_get, if◌then◌else◌, refl, sym, ap, ◌∙◌, subst, inl, inr, ◌⊎◌, arith}
use Rattle.std.specs.List.{fold}
use Rattle.std.specs.Cmp.{IsTotalOrder}
use Rattle.std.specs.Ordering.{is_eq, ordering_then}
use Rattle.std.specs.declared.cmp.Ordering.{Ordering}
use Rattle.std.specs.declared.cmp.Ordering.TheVariants.{Less, Equal, Greater}
use Rattle.std.proofs.lemmas.Bool.{lt-ltb}
use Rattle.std.proofs.lemmas.List.Elements.{Contains-get_or}
use Rattle.std.proofs.lemmas.Option.{get_or_from_slice_get, slice_get_within}
use Rattle.std.proofs.lemmas.Cmp.{nat_cmp_total, nat_list_cmp_total, on_total, then_total, tied_itself}
use Rattle.ipx_tables.specs.declared.source.Source.{Source}
use Rattle.ipx_tables.specs.Content.{Content, after_age, after_hear, is_same, is_young, pair_cmp, source_cmp, still}
use Rattle.ipx_static.specs.StaticOffers.{Counts, AdvertisesNoOther}

source_total : IsTotalOrder source_cmp
source_total = then_total (on_total (λ s. s.port) nat_cmp_total) (on_total (λ s. s.neighbour.0) nat_list_cmp_total)

both_tie : (a b : Ordering) → is_eq (ordering_then a b) ≡ true → (a ≡ Equal) × (b ≡ Equal)
both_tie Less b h = cc
both_tie Equal Less h = cc
both_tie Equal Equal h = (refl, refl)
both_tie Equal Greater h = cc
both_tie Greater b h = cc

-- ---- where an entry is in a list

pub there_in : {E : Type 0} (xs : List E) (k : ℕ) (x : E) → slice_get xs k ≡ Some x → Contains xs x
there_in xs k x at =
    subst (Contains xs) (get_or_from_slice_get xs k x x at) (Contains-get_or xs k x (slice_get_within xs k x at))

pub here : {E : Type 0} (x : E) (xs : List E) → Contains (x ∷ xs) x
here x xs = (0, omega arith, refl)

pub later : {E : Type 0} (e x : E) (xs : List E) → Contains xs x → Contains (e ∷ xs) x
later e x xs m = (suc m.0, omega (arith, m.1), m.2)

pub split_list : {E : Type 0} (n : ℕ) (xs : List E) (x : E) → Contains xs x → Contains (take n xs) x ⊎ Contains (drop n xs) x
split_list zero xs x m = inr m
split_list (suc n) [] x m = absurd (omega (arith, m.1))
split_list (suc n) (y ∷ ys) x (zero, within, at) = inl (0, omega arith, at)
split_list (suc n) (y ∷ ys) x (suc k, within, at) = elim (split_list n ys x (k, omega (arith, within), at)) [
  | inl m ↦ inl (later y x (take n ys) m)
  | inr m ↦ inr m
]

pub front_list : {E : Type 0} (n : ℕ) (xs : List E) (x : E) → Contains (take n xs) x → Contains xs x
front_list zero xs x m = absurd (omega (arith, m.1))
front_list (suc n) [] x m = absurd (omega (arith, m.1))
front_list (suc n) (y ∷ ys) x (zero, within, at) = (0, omega arith, at)
front_list (suc n) (y ∷ ys) x (suc k, within, at) = later y x ys (front_list n ys x (k, omega (arith, within), at))

pub back_list : {E : Type 0} (n : ℕ) (xs : List E) (x : E) → Contains (drop n xs) x → Contains xs x
back_list zero xs x m = m
back_list (suc n) [] x m = absurd (omega (arith, m.1))
back_list (suc n) (y ∷ ys) x m = later y x ys (back_list n ys x m)

nothing_there : {A : Type 0} (a : A) → None ≡ Some a → ⊥
nothing_there a same = cc

-- ---- what was learned at a given time is young then

still_now : {M : Type 0} (now : ℕ) (m : M) (o : Option (M × ℕ)) → o ≡ Some (m, now) → still now o ≡ Some (m, now)
still_now now m o is =
    let young : is_young now now ≡ true = lt-ltb (now - now) 180000 (omega arith) in
    ap (still now) is ∙ ap (λ b. cond b (Some (m, now)) None) young

module _ {K M E : Type 0} (cmp : K → K → Ordering) (total : IsTotalOrder cmp) (exact : (a b : K) → cmp a b ≡ Equal → a ≡ b)
    (apart : (a b : Source) → source_cmp a b ≡ Equal → a ≡ b)
    (dead : M → Bool) (key_of : E → K) (metric_of : E → M) (hears : E → Bool) (now : ℕ) where
  -- an entry of a source is learned, if it is to be
  abbrev pub heard_entry : Source → Content K M → E → Content K M
  heard_entry source c e = if hears e then after_hear cmp dead c (key_of e, source) (metric_of e) now else c

  abbrev one_word : (h same gone : Bool) → M × ℕ → Option (M × ℕ) → Option (M × ℕ)
  one_word h same gone new old = cond h (cond same (cond gone None (Some new)) old) old

  apply_if : (h : Bool) (f g : Content K M) (p : K × Source) → (if h then f else g) p ≡ cond h (f p) (g p)
  apply_if true f g p = refl
  apply_if false f g p = refl

  step_is : (source : Source) (c : Content K M) (e : E) (p : K × Source) → heard_entry source c e p ≡ one_word (hears e) (is_same cmp (key_of e, source) p) (dead (metric_of e)) (metric_of e, now) (c p)
  step_is source c e p = apply_if (hears e) (after_hear cmp dead c (key_of e, source) (metric_of e) now) c p

  same_parts : (p q : K × Source) → is_same cmp p q ≡ true → (p.0 ≡ q.0) × (p.1 ≡ q.1)
  same_parts p q h = let tie = both_tie (cmp p.0 q.0) (source_cmp p.1 q.1) h in (exact p.0 q.0 tie.0, apart p.1 q.1 tie.1)

  same_itself : (p : K × Source) → is_same cmp p p ≡ true
  same_itself p =
      let whole : IsTotalOrder (pair_cmp cmp) = then_total (on_total (λ (p : K × Source). p.0) total) (on_total (λ (p : K × Source). p.1) source_total) in
      ap is_eq (tied_itself whole p)

  module _ (e : E) (alive : dead (metric_of e) ≡ false) (own : Source) where
    -- the offer of the entry, learned at this time
    abbrev pub Has : Content K M → Type 0
    Has c = c (key_of e, own) ≡ Some (metric_of e, now)

    abbrev HasWord : Option (M × ℕ) → Type 0
    HasWord o = o ≡ Some (metric_of e, now)

    -- if these entries are from its source, they say nothing else of its key
    abbrev pub Agrees : Source → List E → Type 0
    Agrees source xs = source ≡ own → AdvertisesNoOther key_of metric_of xs e

    keeps_by : (x : E) (source : Source) → (source ≡ own → key_of x ≡ key_of e → metric_of x ≡ metric_of e) → (h same gone : Bool) (old : Option (M × ℕ))
        → is_same cmp (key_of x, source) (key_of e, own) ≡ same → dead (metric_of x) ≡ gone → HasWord old → HasWord (one_word h same gone (metric_of x, now) old)
    keeps_by x source agrees false same gone old b k s = s
    keeps_by x source agrees true false gone old b k s = s
    keeps_by x source agrees true true true old b k s =
        let parts = same_parts (key_of x, source) (key_of e, own) b in
        let no : true ≡ false = sym k ∙ ap dead (agrees parts.1 parts.0) ∙ alive in cc
    keeps_by x source agrees true true false old b k s =
        let parts = same_parts (key_of x, source) (key_of e, own) b in
        ap (λ m. Some (m, now)) (agrees parts.1 parts.0)

    keeps : (source : Source) (xs : List E) (c : Content K M) → Agrees source xs → Has c → Has (fold (heard_entry source) c xs)
    keeps source [] c agree s = s
    keeps source (x ∷ xs) c agree s =
        keeps source xs (heard_entry source c x) (λ same y m. agree same y (later x y xs m))
        (subst HasWord (sym (step_is source c x (key_of e, own)))
        (keeps_by x source (λ same. agree same x (here x xs)) (hears x) (is_same cmp (key_of x, source) (key_of e, own)) (dead (metric_of x)) (c (key_of e, own)) refl refl s))

    made_by : (h same gone : Bool) (old : Option (M × ℕ)) → h ≡ true → same ≡ true → gone ≡ false → HasWord (one_word h same gone (metric_of e, now) old)
    made_by true true false old a b k = refl
    made_by true true true old a b k = cc
    made_by true false gone old a b k = cc
    made_by false same gone old a b k = cc

    made : (c : Content K M) → hears e ≡ true → Has (heard_entry own c e)
    made c hears_it = subst HasWord (sym (step_is own c e (key_of e, own))) (made_by (hears e) (is_same cmp (key_of e, own) (key_of e, own)) (dead (metric_of e)) (c (key_of e, own)) hears_it (same_itself (key_of e, own)) alive)

    makes : (xs : List E) (c : Content K M) → AdvertisesNoOther key_of metric_of xs e → Contains xs e → hears e ≡ true → Has (fold (heard_entry own) c xs)
    makes [] c agree m hears_it = absurd (omega (arith, m.1))
    makes (x ∷ xs) c agree (zero, within, at) hears_it =
        keeps own xs (heard_entry own c x) (λ same y n. agree y (later x y xs n))
        (subst (λ (y : E). Has (heard_entry own c y)) (sym at) (made c hears_it))
    makes (x ∷ xs) c agree (suc k, within, at) hears_it =
        makes xs (heard_entry own c x) (λ y n. agree y (later x y xs n)) (k, omega (arith, within), at) hears_it

    -- entries are learned into what is not old
    abbrev pub Hears : Source → List E → Content K M → Content K M → Type 0
    Hears source xs old new = (x : K × Source) → new x ≡ fold (heard_entry source) (after_age old now) xs x

    pub keeps_offer : (source : Source) (xs : List E) (old new : Content K M) → Hears source xs old new → Agrees source xs → Has old → Has new
    keeps_offer source xs old new h agree has = h (key_of e, own) ∙ keeps source xs (after_age old now) agree (still_now now (metric_of e) (old (key_of e, own)) has)

    pub makes_offer : (source : Source) → source ≡ own → (xs : List E) (old new : Content K M) → Hears source xs old new → Agrees source xs → Contains xs e → hears e ≡ true → Has new
    makes_offer source same xs old new h agree among hears_it =
        let heard : Hears own xs old new = subst (λ (s : Source). Hears s xs old new) same h in
        heard (key_of e, own) ∙ makes xs (after_age old now) (agree same) among hears_it

    -- what was learned of it counts, and stays so
    abbrev pub StaysYoung : Content K M → Type 0
    StaysYoung c = Counts (metric_of e) now (c (key_of e, own))

    young_by : (x : E) (source : Source) → (source ≡ own → key_of x ≡ key_of e → metric_of x ≡ metric_of e) → (h same gone : Bool) (old : Option (M × ℕ))
        → is_same cmp (key_of x, source) (key_of e, own) ≡ same → dead (metric_of x) ≡ gone → Counts (metric_of e) now old → Counts (metric_of e) now (one_word h same gone (metric_of x, now) old)
    young_by x source agrees false same gone old b k s = s
    young_by x source agrees true false gone old b k s = s
    young_by x source agrees true true true old b k s =
        let parts = same_parts (key_of x, source) (key_of e, own) b in
        let no : true ≡ false = sym k ∙ ap dead (agrees parts.1 parts.0) ∙ alive in cc
    young_by x source agrees true true false old b k s =
        let parts = same_parts (key_of x, source) (key_of e, own) b in
        (now, ap (λ m. Some (m, now)) (agrees parts.1 parts.0), lt-ltb (now - now) 180000 (omega arith))

    pub stays_young : (source : Source) (xs : List E) (c : Content K M) → Agrees source xs → StaysYoung c → StaysYoung (fold (heard_entry source) c xs)
    stays_young source [] c agree s = s
    stays_young source (x ∷ xs) c agree s =
        stays_young source xs (heard_entry source c x) (λ same y m. agree same y (later x y xs m))
        (subst (Counts (metric_of e) now) (sym (step_is source c x (key_of e, own)))
        (young_by x source (λ same. agree same x (here x xs)) (hears x) (is_same cmp (key_of x, source) (key_of e, own)) (dead (metric_of x)) (c (key_of e, own)) refl refl s))

    pub aged_young : (c : Content K M) → StaysYoung c → StaysYoung (after_age c now)
    aged_young c s = (s.0, ap (still now) s.1 ∙ ap (λ b. cond b (Some (metric_of e, s.0)) None) s.2, s.2)

    -- entries that say nothing of its key, if they are from its source, leave what is there
    abbrev pub SaysNothing : Source → List E → Type 0
    SaysNothing source xs = source ≡ own → (x : E) → Contains xs x → key_of x ≡ key_of e → ⊥

    left_by : (x : E) (source : Source) → (source ≡ own → key_of x ≡ key_of e → ⊥) → (h same : Bool) (gone : Bool) (old : Option (M × ℕ))
        → is_same cmp (key_of x, source) (key_of e, own) ≡ same → one_word h same gone (metric_of x, now) old ≡ old
    left_by x source quiet false same gone old b = refl
    left_by x source quiet true false gone old b = refl
    left_by x source quiet true true gone old b =
        let parts = same_parts (key_of x, source) (key_of e, own) b in absurd (quiet parts.1 parts.0)

    pub leaves : (source : Source) (xs : List E) (c : Content K M) → SaysNothing source xs → fold (heard_entry source) c xs (key_of e, own) ≡ c (key_of e, own)
    leaves source [] c quiet = refl
    leaves source (x ∷ xs) c quiet =
        leaves source xs (heard_entry source c x) (λ same y m. quiet same y (later x y xs m))
        ∙ step_is source c x (key_of e, own)
        ∙ left_by x source (λ same. quiet same x (here x xs)) (hears x) (is_same cmp (key_of x, source) (key_of e, own)) (dead (metric_of x)) (c (key_of e, own)) refl

  -- each entry of a list that is to be learned and is alive counts
  abbrev pub AllStand : List E → Source → Content K M → Type 0
  AllStand entries own c = (x : E) → Contains entries x → hears x ≡ true → dead (metric_of x) ≡ false
      → Counts (metric_of x) now (c (key_of x, own))

  -- these entries, if they are from that source, say nothing else of the list's keys
  abbrev pub AgreeWith : List E → Source → Source → List E → Type 0
  AgreeWith entries own source xs = (x : E) → Contains entries x → source ≡ own → AdvertisesNoOther key_of metric_of xs x

  pub all_stand_on : (entries : List E) (own source : Source) (xs : List E) (old new : Content K M) → ((p : K × Source) → new p ≡ fold (heard_entry source) (after_age old now) xs p)
      → AgreeWith entries own source xs → AllStand entries own old → AllStand entries own new
  all_stand_on entries own source xs old new h agree all x among hears_it alive =
      subst (Counts (metric_of x) now) (sym (h (key_of x, own)))
      (stays_young x alive own source xs (after_age old now) (λ same. agree x among same) (aged_young x alive own old (all x among hears_it alive)))

  -- then for an entry of the list that is to be learned and is alive, the table has an offer
  pub never_unknown : (entries : List E) (own : Source) (c : Content K M) → AllStand entries own c → (x : E) → Contains entries x → hears x ≡ true → dead (metric_of x) ≡ false → c (key_of x, own) ≡ None → ⊥
  never_unknown entries own c all x among hears_it alive none =
      let s = all x among hears_it alive in
      nothing_there (metric_of x, s.0) (sym none ∙ s.1)
