-- What is in a table after a response was learned.
use Rattle.std.proofs.Common.{ℕ, zero, suc, ◌≤◌, ◌≡◌, ◌⊎◌, Bool, true, false, cond, List, [], ◌∷◌, Contains, Option, Some, None, if◌then◌else◌, refl, sym, ap, ◌∙◌, subst, inl, inr, arith}
use Rattle.std.specs.Cmp.{IsTotalOrder}
use Rattle.std.specs.Ordering.{is_eq}
use Rattle.std.specs.declared.cmp.Ordering.{Ordering}
use Rattle.std.specs.declared.cmp.Ordering.TheVariants.{Less, Equal, Greater}
use Rattle.std.proofs.lemmas.Cmp.{nat_cmp_total, on_total, then_total, tied_itself}
use Rattle.std.proofs.lemmas.Map.Lookups.{exact_pairs}
use Rattle.ipx_wire.specs.declared.address.Network.{Network}
use Rattle.ipx_control.specs.declared.rip.packet.RipEntry.{RipEntry}
use Rattle.ipx_tables.specs.declared.route.RouteMetric.{RouteMetric}
use Rattle.ipx_tables.specs.declared.source.Source.{Source}
use Rattle.ipx_tables.specs.Content.{after_hear, is_same, is_young, pair_cmp, source_cmp, still}
use Rattle.ipx_tables.specs.Route.{network_cmp, network_exact, route_dead}
use Rattle.ipx_router.specs.declared.port.Port.{Port}
use Rattle.ipx_router.specs.Hearing.{after_route, after_routes, is_heard, route_metric}
use Rattle.ipx_router.specs.Knowledge.{Routes}
use Rattle.rip_convergence.specs.TableLaws.{LawsOfTables}
use Rattle.rip_convergence.proofs.Order.{source_total}
use Rattle.rip_convergence.proofs.Settling.{bool_cases}

abbrev pub Word : Type 0
Word = RouteMetric × ℕ

pub still_was : (now : ℕ) (o : Option Word) (w : Word) → still now o ≡ Some w → o ≡ Some w
still_was now None w h = h
still_was now (Some v) w h = elim (bool_cases (is_young now v.1)) [
  | inl young ↦ sym (ap (λ b. cond b (Some v) None) young) ∙ h
  | inr old ↦ let none : None ≡ Some w = sym (ap (λ b. cond b (Some v) None) old) ∙ h in cc
]

pub still_is : (now : ℕ) (v : Word) → is_young now v.1 ≡ true → still now (Some v) ≡ Some v
still_is now v young = ap (λ b. cond b (Some v) None) young

equal_by : (r : Ordering) → is_eq r ≡ true → r ≡ Equal
equal_by Less h = cc
equal_by Equal h = refl
equal_by Greater h = cc

pub same_parts : (laws : LawsOfTables) (p q : Network × Source) → is_same network_cmp p q ≡ true → (p.0 ≡ q.0) × (p.1 ≡ q.1)
same_parts laws p q h =
    let one : (p.0, p.1) ≡ (q.0, q.1) = exact_pairs network_cmp source_cmp network_exact laws.apart (p.0, p.1) (q.0, q.1) (equal_by _ h) in
    (ap (λ z. z.0) one, ap (λ z. z.1) one)

pair_total : IsTotalOrder (pair_cmp network_cmp)
pair_total = then_total (on_total (λ (p : Network × Source). p.0) (on_total (λ (n : Network). n.0) nat_cmp_total)) (on_total (λ (p : Network × Source). p.1) source_total)

pub same_itself : (p : Network × Source) → is_same network_cmp p p ≡ true
same_itself p = ap is_eq (tied_itself pair_total p)

pub here : (x : RipEntry) (xs : List RipEntry) → Contains (x ∷ xs) x
here x xs = (0, omega arith, refl)

pub later : (e x : RipEntry) (xs : List RipEntry) → Contains xs x → Contains (e ∷ xs) x
later e x xs m = (suc m.0, omega (arith, m.1), m.2)

apply_if : (h : Bool) (f g : Routes) (p : Network × Source) → (if h then f else g) p ≡ cond h (f p) (g p)
apply_if true f g p = refl
apply_if false f g p = refl

abbrev pub one_word : (h same dead : Bool) → Word → Option Word → Option Word
one_word h same dead new old = cond h (cond same (cond dead None (Some new)) old) old

-- the offer is in the table, and was learned since
pub record IsPresent (v : RouteMetric) (low : ℕ) (o : Option Word) : Type 0 where
  pub moment : ℕ
  pub is : o ≡ Some (v, moment)
  pub since : low ≤ moment

module _ (ports : List Port) (source : Source) (now : ℕ) (p : Network × Source) where
  pub step_is : (c : Routes) (e : RipEntry) → after_route ports source now c e p ≡ one_word (is_heard ports e) (is_same network_cmp (e.network, source) p) (route_dead (route_metric e)) (route_metric e, now) (c p)
  step_is c e = apply_if (is_heard ports e) (after_hear network_cmp route_dead c (e.network, source) (route_metric e) now) c p

  pub record Taken (e : RipEntry) (w : Word) : Type 0 where
    pub heard : is_heard ports e ≡ true
    pub same : is_same network_cmp (e.network, source) p ≡ true
    pub alive : route_dead (route_metric e) ≡ false
    pub is : (route_metric e, now) ≡ w

  taken_by : (e : RipEntry) (w : Word) (h same dead : Bool) (old : Option Word) → is_heard ports e ≡ h
      → is_same network_cmp (e.network, source) p ≡ same → route_dead (route_metric e) ≡ dead
      → one_word h same dead (route_metric e, now) old ≡ Some w → (old ≡ Some w) ⊎ Taken e w
  taken_by e w false same dead old a b k is = inl is
  taken_by e w true false dead old a b k is = inl is
  taken_by e w true true true old a b k is = inl (let none : None ≡ Some w = is in cc)
  taken_by e w true true false old a b k is = inr (record { heard = a; same = b; alive = k; is = let l : Some (route_metric e, now) ≡ Some w = is in cc })

  pub said_by : (c : Routes) (es : List RipEntry) (w : Word) → after_routes ports source now c es p ≡ Some w
      → (c p ≡ Some w) ⊎ ((e : RipEntry) × Contains es e × Taken e w)
  said_by c [] w is = inl is
  said_by c (e ∷ es) w is = elim (said_by (after_route ports source now c e) es w is) [
    | inr m ↦ inr (m.0, later e m.0 es m.1, m.2)
    | inl old ↦ elim (taken_by e w (is_heard ports e) (is_same network_cmp (e.network, source) p) (route_dead (route_metric e)) (c p) refl refl refl (sym (step_is c e) ∙ old)) [
      | inl was ↦ inl was
      | inr t ↦ inr (e, here e es, t)
    ]
  ]

  module _ (v : RouteMetric) (alive : route_dead v ≡ false) (low : ℕ) (past : low ≤ now) where
    abbrev pub Agrees : RipEntry → Type 0
    Agrees e = is_same network_cmp (e.network, source) p ≡ true → route_metric e ≡ v

    keeps_by : (e : RipEntry) → Agrees e → (h same dead : Bool) (old : Option Word)
        → is_same network_cmp (e.network, source) p ≡ same → route_dead (route_metric e) ≡ dead
        → IsPresent v low old → IsPresent v low (one_word h same dead (route_metric e, now) old)
    keeps_by e agrees false same dead old b k s = s
    keeps_by e agrees true false dead old b k s = s
    keeps_by e agrees true true true old b k s =
        let no : true ≡ false = sym k ∙ ap route_dead (agrees b) ∙ alive in cc
    keeps_by e agrees true true false old b k s = record { moment = now; is = ap (λ m. Some (m, now)) (agrees b); since = past }

    pub keeps : (es : List RipEntry) (c : Routes) → ((e : RipEntry) → Contains es e → Agrees e)
        → IsPresent v low (c p) → IsPresent v low (after_routes ports source now c es p)
    keeps [] c agree s = s
    keeps (e ∷ es) c agree s =
        keeps es (after_route ports source now c e) (λ f m. agree f (later e f es m))
        (subst (IsPresent v low) (sym (step_is c e)) (keeps_by e (agree e (here e es)) (is_heard ports e) (is_same network_cmp (e.network, source) p) (route_dead (route_metric e)) (c p) refl refl s))

    made_by : (e : RipEntry) → route_metric e ≡ v → (h same dead : Bool) (old : Option Word) → h ≡ true → same ≡ true
        → route_dead (route_metric e) ≡ dead → IsPresent v low (one_word h same dead (route_metric e, now) old)
    made_by e is true true true old a b k = let no : true ≡ false = sym k ∙ ap route_dead is ∙ alive in cc
    made_by e is true true false old a b k = record { moment = now; is = ap (λ m. Some (m, now)) is; since = past }
    made_by e is false same dead old a b k = cc
    made_by e is true false dead old a b k = cc

    pub makes : (es : List RipEntry) (c : Routes) → ((e : RipEntry) → Contains es e → Agrees e)
        → (e : RipEntry) → Contains es e → route_metric e ≡ v → is_heard ports e ≡ true
        → is_same network_cmp (e.network, source) p ≡ true
        → IsPresent v low (after_routes ports source now c es p)
    makes [] c agree e m is hears same = absurd (omega (arith, m.1))
    makes (f ∷ es) c agree e (zero, within, at) is hears same =
        keeps es (after_route ports source now c f) (λ g n. agree g (later f g es n))
        (subst (IsPresent v low) (sym (step_is c f)) (made_by f (ap route_metric at ∙ is) (is_heard ports f) (is_same network_cmp (f.network, source) p) (route_dead (route_metric f)) (c p) (ap (is_heard ports) at ∙ hears) (ap (λ (g : RipEntry). is_same network_cmp (g.network, source) p) at ∙ same) refl))
    makes (f ∷ es) c agree e (suc k, within, at) is hears same =
        makes es (after_route ports source now c f) (λ g n. agree g (later f g es n)) e (k, omega (arith, within), at) is hears same
