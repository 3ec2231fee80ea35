-- A turn over the links, id by id.
use Rattle.std.proofs.Common.{◌≡◌, ◌≢◌, ℕ, ◌<◌, ◌≤◌, List, true, false, refl, ap, sym, subst, ◌∙◌, Option, None, Some, IsSome, is_some, IfSome, IfNone, ◌⊎◌, inl, inr, arith}
use Rattle.std.proofs.lemmas.Bool.Decides.{leb_tells}
use lib.Dec.{leb}
use Rattle.spx_link.specs.LinkView.{LinkView}
use Rattle.spx_link.specs.Links.{LinksView, link_at, polled, ChangesOnly, IsAbove, IsLeast, IsLive}
use Rattle.spx_link.specs.Poll.{poll_link}
use Rattle.spx_messages.specs.declared.poll.turn.Given.{Given}
use Rattle.spx_messages.specs.declared.poll.writing.HostAddress.{HostAddress}
use Rattle.spx_messages.specs.EndpointTurns.{AllRest, GivesPacket, Rests, RestsTo, Turned}

-- ---- options

none_is_none : {A X : Type 0} (x : X) (o : Option X) → o ≡ None → o ≡ Some x → A
none_is_none x None none some = absurd (cc some)
none_is_none x (Some y) none some = absurd (cc none)

some_in : {X : Type 0} (o : Option X) → IsSome o → (x : X) × (o ≡ Some x)
some_in None h = absurd (cc h)
some_in (Some x) h = (x, refl)

with_some : {X : Type 0} (o : Option X) (x : X) (P : X → Type 0) → IfSome o P → o ≡ Some x → P x
with_some o x P h is = subst (λ p. IfSome p P) is h

pub quiet_if : {A : Type 0} {P : Type 0} (r : Option A) → is_some r ≡ false → IfNone r P → P
quiet_if None nothing h = h
quiet_if (Some x) nothing h = absurd (cc nothing)

-- ---- ids

under_or_over : (q below : ℕ) → (q ≤ below) ⊎ (below < q)
under_or_over q below = by (leb_tells q below)
  where
    by : ((leb q below ≡ true) × (q ≤ below)) ⊎ ((leb q below ≡ false) × (below < q)) → (q ≤ below) ⊎ (below < q)
    by (inl h) = inl h.1
    by (inr h) = inr h.1

zero_or_over : (q : ℕ) → (q ≡ 0) ⊎ (0 < q)
zero_or_over q = by (under_or_over q 0)
  where
    by : (q ≤ 0) ⊎ (0 < q) → (q ≡ 0) ⊎ (0 < q)
    by (inl h) = inl (omega arith)
    by (inr h) = inr h

-- no link has id 0
abbrev HasIds : LinksView → Type 0
HasIds s = (q : ℕ) → IsLive s q → (0 < q) × (q < 65535)

live_of : (s : LinksView) (q : ℕ) (l : LinkView) → link_at s q ≡ Some l → IsLive s q
live_of s q l is = ap is_some is

-- if an id is the least above a bound, any live id between them is that id
least_is : (s : LinksView) (below next q : ℕ) → IsLeast (IsAbove s below) next → IsLive s q → below < q → q ≤ next → q ≡ next
least_is s below next q least live above low =
    let up = least.least q (record { live = live; above = above }) in
    omega arith

-- ---- the links up to an id

-- no link was polled yet
pub begin : (s : LinksView) (now : ℕ) → RestsTo s s now 0
begin s now = record {
  asked = λ q l over low there. absurd (omega arith);
  none = λ q h. h;
  zero = refl;
  others = λ q h. refl;
  last = refl;
  count = refl;
}

-- the next link is polled, and gives nothing
record One (old mid new : LinksView) (now below next : ℕ) : Type 0 where
  pub asked : RestsTo old mid now below
  pub least : IsLeast (IsAbove mid below) next
  pub link : LinkView
  pub there : link_at mid next ≡ Some link
  pub changes : ChangesOnly mid new next (poll_link link now).1
  pub quiet : (poll_link link now).0 ≡ None

asked_low : (old mid new : LinksView) (now below next q : ℕ) (l : LinkView) → One old mid new now below next → 0 < q → q ≤ below → link_at old q ≡ Some l → Rests old new now q l
asked_low old mid new now below next q l o over low there =
    let v = o.asked.asked q l over low there in
    let up : below < next = o.least.holds.above in
    let away : q ≢ next = λ same. omega arith in
    record { nothing = v.nothing; link = o.changes.others q away ∙ v.link }

asked_at : (old mid new : LinksView) (now below next : ℕ) (l : LinkView) → One old mid new now below next → link_at mid next ≡ Some l → Rests old new now next l
asked_at old mid new now below next l o there =
    let same : o.link ≡ l = cc (sym o.there ∙ there) in
    record {
      nothing = subst (λ k. (poll_link k now).0 ≡ None) same o.quiet;
      link = subst (λ k. link_at new next ≡ Some (poll_link k now).1) same o.changes.link;
    }

asked_next : (old mid new : LinksView) (now below next q : ℕ) (l : LinkView) → One old mid new now below next → 0 < q → q ≤ next → link_at old q ≡ Some l → (q ≤ below) ⊎ (below < q) → Rests old new now q l
asked_next old mid new now below next q l o over low there (inl under) = asked_low old mid new now below next q l o over under there
asked_next old mid new now below next q l o over low there (inr up) =
    let here : link_at mid q ≡ Some l = o.asked.others q up ∙ there in
    let same : q ≡ next = least_is mid below next q o.least (live_of mid q l here) up low in
    subst (λ n. Rests old new now n l) (sym same) (asked_at old mid new now below next l o (subst (λ n. link_at mid n ≡ Some l) same here))

one_asked : (old mid new : LinksView) (now below next : ℕ) → One old mid new now below next → RestsTo old new now next
one_asked old mid new now below next o =
    let up : below < next = o.least.holds.above in
    record {
      asked = λ q l over low there. asked_next old mid new now below next q l o over low there (under_or_over q below);
      none = λ q gone.
          let away : q ≢ next = λ same. none_is_none o.link (link_at mid next) (subst (λ n. link_at mid n ≡ None) same (o.asked.none q gone)) o.there in
          o.changes.others q away ∙ o.asked.none q gone;
      zero = let away : 0 ≢ next = λ same. omega arith in o.changes.others 0 away ∙ o.asked.zero;
      others = λ q over.
          let away : q ≢ next = λ same. omega arith in
          let far : below < q = omega arith in
          o.changes.others q away ∙ o.asked.others q far;
      last = o.changes.last ∙ o.asked.last;
      count = o.changes.count ∙ o.asked.count;
    }

pub one_more : (old mid new : LinksView) (now below next : ℕ) → RestsTo old mid now below → IsLeast (IsAbove mid below) next → IfSome (link_at mid next) (λ l. ChangesOnly mid new next (poll_link l now).1) → polled (link_at mid next) now ≡ None → RestsTo old new now next
one_more old mid new now below next asked least changes quiet =
    let x = some_in (link_at mid next) least.holds.live in
    one_asked old mid new now below next (record {
      asked = asked;
      least = least;
      link = x.0;
      there = x.1;
      changes = with_some (link_at mid next) x.0 (λ l. ChangesOnly mid new next (poll_link l now).1) changes x.1;
      quiet = sym (ap (λ o. polled o now) x.1) ∙ quiet;
    })

-- ---- no link is left

above_zero : (old mid : LinksView) (now below q : ℕ) (l : LinkView) → RestsTo old mid now below → HasIds mid → link_at old q ≡ Some l → (q ≡ 0) ⊎ (0 < q) → 0 < q
above_zero old mid now below q l a ids there (inr over) = over
above_zero old mid now below q l a ids there (inl zero) =
    let at : link_at mid 0 ≡ Some l = a.zero ∙ subst (λ n. link_at old n ≡ Some l) zero there in
    absurd (omega (arith, (ids 0 (live_of mid 0 l at)).0))

rests_all : (old mid : LinksView) (now below q : ℕ) (l : LinkView) → RestsTo old mid now below → HasIds mid → ((n : ℕ) → ¬ IsAbove mid below n) → link_at old q ≡ Some l → (q ≤ below) ⊎ (below < q) → Rests old mid now q l
rests_all old mid now below q l a ids none there (inl under) = a.asked q l (above_zero old mid now below q l a ids there (zero_or_over q)) under there
rests_all old mid now below q l a ids none there (inr over) =
    let live : IsLive mid q = live_of mid q l (a.others q over ∙ there) in
    absurd (none q (record { live = live; above = over }))

pub all : (old mid : LinksView) (now below : ℕ) → RestsTo old mid now below → HasIds mid → ((n : ℕ) → ¬ IsAbove mid below n) → AllRest old mid now
all old mid now below a ids none = record {
  asked = λ q l there. rests_all old mid now below q l a ids none there (under_or_over q below);
  none = a.none;
  last = a.last;
  count = a.count;
}

-- ---- the next one gives a packet

gave_before : (old mid new : LinksView) (now below next q : ℕ) (l : LinkView) {y : LinkView} → RestsTo old mid now below → HasIds mid → ChangesOnly mid new next y → q ≢ next → IsLeast (IsAbove mid below) next → q < next → link_at old q ≡ Some l → (q ≤ below) ⊎ (below < q) → Rests old new now q l
gave_before old mid new now below next q l a ids c away least low at (inl under) =
    let v = a.asked q l (above_zero old mid now below q l a ids at (zero_or_over q)) under at in
    record { nothing = v.nothing; link = c.others q away ∙ v.link }
gave_before old mid new now below next q l a ids c away least low at (inr over) =
    let live : IsLive mid q = live_of mid q l (a.others q over ∙ at) in
    let le : q ≤ next = omega arith in
    absurd (away (least_is mid below next q least live over le))

gave : (place : HostAddress) (old mid new : LinksView) (now below next : ℕ) (g : Given) (bytes : List ℕ) → RestsTo old mid now below → HasIds mid → IsLeast (IsAbove mid below) next → IfSome (link_at mid next) (λ l. ChangesOnly mid new next (poll_link l now).1) → GivesPacket place mid next now g bytes → Turned place old new now g bytes
gave place old mid new now below next g bytes a ids least changes gives =
    let over : below < next = least.holds.above in
    let is : g.id ≡ next = gives.giver in
    let there : link_at old next ≡ Some gives.link = sym (a.others next over) ∙ gives.at in
    let c : ChangesOnly mid new next (poll_link gives.link now).1 = with_some (link_at mid next) gives.link (λ l. ChangesOnly mid new next (poll_link l now).1) changes gives.at in
    record {
      gives = record {
        link = gives.link;
        given = gives.given;
        at = subst (λ n. link_at old n ≡ Some gives.link) (sym is) there;
        gives = gives.gives;
        giver = refl;
        what = gives.what;
        next = gives.next;
        is = gives.is;
      };
      before = λ q l low at.
          let low_ : q < next = subst (λ n. q < n) is low in
          let away : q ≢ next = λ same. omega arith in
          gave_before old mid new now below next q l a ids c away least low_ at (under_or_over q below);
      giver = λ l at.
          let same : gives.link ≡ l = cc (sym there ∙ subst (λ n. link_at old n ≡ Some l) is at) in
          subst (λ n. link_at new n ≡ Some (poll_link l now).1) (sym is) (subst (λ k. link_at new next ≡ Some (poll_link k now).1) same c.link);
      after = λ q up.
          let up_ : next < q = subst (λ n. n < q) is up in
          let away : q ≢ next = λ same. omega arith in
          let far : below < q = omega arith in
          c.others q away ∙ a.others q far;
      none = λ q gone.
          let away : q ≢ next = λ same. none_is_none gives.link (link_at mid next) (subst (λ n. link_at mid n ≡ None) same (a.none q gone)) gives.at in
          c.others q away ∙ a.none q gone;
      last = c.last ∙ a.last;
      count = c.count ∙ a.count;
    }

pub gave_if : (place : HostAddress) (old mid new : LinksView) (now below next : ℕ) (r : Option Given) (bytes : Given → List ℕ) → RestsTo old mid now below → HasIds mid → IsLeast (IsAbove mid below) next → IfSome (link_at mid next) (λ l. ChangesOnly mid new next (poll_link l now).1) → IfSome r (λ g. GivesPacket place mid next now g (bytes g)) → IfSome r (λ g. Turned place old new now g (bytes g))
gave_if place old mid new now below next None bytes a ids least changes gives = tt
gave_if place old mid new now below next (Some g) bytes a ids least changes gives = gave place old mid new now below next g (bytes g) a ids least changes gives
