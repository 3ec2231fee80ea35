-- Either all entries of a response fit in the table, or the table is full for one of them: never both.
use Rattle.std.proofs.Common.{◌≡◌, ℕ, suc, ◌+◌, ◌<◌, Bool, cond, List, [], ◌∷◌, ◌++◌, length, take, Option, Some, None, fold, sym, ap, ◌∙◌, arith}
use Rattle.std.specs.Prelude.{slice_get}
use Rattle.std.specs.declared.cmp.Ordering.{Ordering}
use Rattle.std.proofs.lemmas.List.{take_more}
use Rattle.std.proofs.lemmas.List.Sums.{fold-append}
use Rattle.std.proofs.lemmas.Option.{get_or_from_slice_get, slice_get_within}
use Rattle.ipx_tables.specs.declared.offer.Offer.{Offer}
use Rattle.ipx_tables.specs.declared.source.Source.{Source}
use Rattle.ipx_tables.specs.Content.{Content, IsTable, Table, after_hear, content, is_same}
use Rattle.ipx_tables.specs.Room.{Fits, IsFull}
use Rattle.ipx_router.specs.Hearing.{HeardFirst}

-- the number of offers of a table follows from what it says
abbrev pub OneCount : (K M : Type 0) → (K → K → Ordering) → Type 0
OneCount K M cmp = (a b : Table K M) → IsTable cmp a → IsTable cmp b → ((p : K × Source) → content cmp a.offers p ≡ content cmp b.offers p) → length a.offers ≡ length b.offers

module _ {K M : Type 0} {cmp : K → K → Ordering} (counts : OneCount K M cmp) (dead : M → Bool) where
  -- if a table is full for an offer, no table of its size says what that offer would leave
  full_for : (t : Table K M) (p : K × Source) (metric : M) (now most : ℕ) (c : Content K M) → IsTable cmp t → IsFull cmp dead t p metric → Fits cmp most c → t.capacity ≡ most
      → ((q : K × Source) → c q ≡ after_hear cmp dead (content cmp t.offers) p metric now q) → ⊥
  full_for t p metric now most c valid full fits room says =
      let offer : Offer K M = record { key = p.0; source = p.1; metric = metric; heard = now } in
      let more : Table K M = record { capacity = suc (length t.offers); offers = offer ∷ t.offers } in
      let valid_more : IsTable cmp more = record { apart = (full.unknown, valid.apart); within = omega arith } in
      let same : (q : K × Source) → content cmp fits.table.offers q ≡ content cmp more.offers q =
      λ q. fits.says q ∙ says q ∙ ap (λ (b : Bool). cond (is_same cmp p q) (cond b None (Some (metric, now))) (content cmp t.offers q)) full.alive in
      let count = counts fits.table more fits.valid valid_more same in
      omega (arith, count, fits.valid.within, fits.room, room, full.full)

module _ {K M E : Type 0} {cmp : K → K → Ordering} (counts : OneCount K M cmp) (dead : M → Bool) (now : ℕ) (key_of : E → K × Source) (metric_of : E → M) (step : Content K M → E → Content K M) (start : Content K M) where
  -- one more entry
  after_more : (entries : List E) (n : ℕ) (e : E) → slice_get entries n ≡ Some e → fold step start (take (n + 1) entries) ≡ step (fold step start (take n entries)) e
  after_more entries n e there =
      let lt = slice_get_within entries n e there in
      let taken : take (n + 1) entries ≡ take n entries ++ e ∷ [] = take_more entries n e lt ∙ ap (λ (x : E). take n entries ++ x ∷ []) (get_or_from_slice_get entries n e e there) in
      ap (fold step start) taken ∙ fold-append step start (take n entries) (e ∷ [])

  -- the entry for which one table is full does not fit in the other
  pub no_room : (entries : List E) (n m : ℕ) (e : E) (new other : Table K M) → slice_get entries n ≡ Some e
      → ((c : Content K M) (q : K × Source) → step c e q ≡ after_hear cmp dead c (key_of e) (metric_of e) now q)
      → HeardFirst cmp (fold step start) entries n new → IsFull cmp dead new (key_of e) (metric_of e) → IsTable cmp new
      → HeardFirst cmp (fold step start) entries m other → n < m → new.capacity ≡ other.capacity → ⊥
  no_room entries n m e new other there hears heard full valid more lt room =
      let before = fold step start (take n entries) in
      let after = fold step start (take (n + 1) entries) in
      let says : (q : K × Source) → after q ≡ after_hear cmp dead (content cmp new.offers) (key_of e) (metric_of e) now q = λ q.
      ap (λ (c : Content K M). c q) (after_more entries n e there) ∙ hears before q
      ∙ ap (λ (v : Option (M × ℕ)). cond (is_same cmp (key_of e) q) (cond (dead (metric_of e)) None (Some (metric_of e, now))) v) (sym (heard.holds q)) in
      full_for counts dead new (key_of e) (metric_of e) now other.capacity after valid full (more.room (n + 1) (omega arith)) room says
