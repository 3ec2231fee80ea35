-- Static offers stay over a run.
use Rattle.std.proofs.Common.{◌≡◌, ◌≢◌, ◌==◌, ◌<◌, ◌≤◌, ◌+◌, ◌-◌, ◌^◌, ℕ, Bool, true, false, cond, List, [], ◌∷◌, Option, Some, None, refl, sym, ap, ◌∙◌, subst, inl, inr, ◌⊎◌, arith, eqb-true}
use Rattle.std.specs.Prelude.{nat_le}
use Rattle.std.proofs.lemmas.Bool.{eqb-false, leb-false, lt-ltb}
use Rattle.ipx_tables.specs.Content.{is_young, still}
use Rattle.ipx_router.specs.declared.port.Port.{Port}
use Rattle.ipx_router.specs.Answer.{Receives}
use Rattle.ipx_router.specs.OutcomeView.{OutcomeView}
use Rattle.ipx_router.specs.RouterPackets.{SendingView}
use Rattle.ipx_router.specs.RouterView.{RouterView}
use Rattle.ipx_router.specs.Advertisements.{is_due}
use Rattle.ipx_carrier.specs.RouterQueues.{TellsNow}
use Rattle.ipx_carrier.specs.PriorityRouterCore.{PriorityCoreView, PriorityGives, PriorityHears}
use Rattle.ipx_carrier.specs.Turns.{Given}
use Rattle.ipx_static.specs.WithStatics.{WithStaticsView, GivesWithStatics, HearsIfDue, HearsUnder, HearsAdvertisements}
use Rattle.ipx_static.specs.StaticOffers.{Counts, FindsSpace}
use Rattle.ipx_static.specs.StaticRuns.{Asked, AsksOnceMore, ComesAs, DoStaticCalls, DoesStaticCall, StaticCall, StaticCallAt, IsAskedEachMinute, asked_by, asked_in, Comes}
use Rattle.ipx_static.proofs.RoomForWords.{all_on, full, heard_router, of_false, of_true, one_on}

bool_cases : (b : Bool) → (b ≡ true) ⊎ (b ≡ false)
bool_cases true = inl refl
bool_cases false = inr refl

-- ---- what calls leave of the ports, and of the count of full tables

words_ports : (now : ℕ) (ws : List SendingView) (old new : PriorityCoreView) → HearsAdvertisements PriorityHears now ws old new → new.router.ports ≡ old.router.ports
words_ports now [] old new is = ap (λ (c : PriorityCoreView). c.router.ports) is
words_ports now (w ∷ ws) old new h =
    words_ports now ws h.0 new h.2 ∙ ap (λ (r : RouterView). r.ports) (heard_router old h.0 (w.port - 1) w.bytes now h.1) ∙ h.1.2.rest.ports

gives_router : (old new : PriorityCoreView) (now : ℕ) (given : Option Given) (h : PriorityGives old now given new) → new.router ≡ h.1.2
gives_router old new now given h = ap (λ (c : PriorityCoreView). c.router) h.2.1 ∙ ap (λ (c : PriorityCoreView). c.router) h.1.5

gives_full : (old new : PriorityCoreView) (now : ℕ) (given : Option Given) → PriorityGives old now given new → full new ≡ full old
gives_full old new now given h = ap full h.2.1 ∙ ap full h.1.5

due_full : (old new : WithStaticsView PriorityCoreView) (now : ℕ) → HearsIfDue PriorityHears old now new → full old.core < 2 ^ 64 → (full old.core ≤ full new.core) × (full new.core < 2 ^ 64)
due_full old new now h less = elim (bool_cases (is_due old.refreshed_at now)) [
  | inl due ↦
      let said = of_true (HearsAdvertisements PriorityHears now old.advertisements old.core new.core × (new ≡ record old { core = new.core; refreshed_at = Some now })) (new ≡ old) (is_due old.refreshed_at now) due h in
      all_on now old.advertisements old.core new.core said.0 less
  | inr not_due ↦
      let is = of_false (HearsAdvertisements PriorityHears now old.advertisements old.core new.core × (new ≡ record old { core = new.core; refreshed_at = Some now })) (new ≡ old) (is_due old.refreshed_at now) not_due h in
      let same = ap (λ (v : WithStaticsView PriorityCoreView). full v.core) is in
      (omega (arith, same), omega (arith, same, less))
]

call_full : (now : ℕ) (c : StaticCall) (old new : WithStaticsView PriorityCoreView) → DoesStaticCall now c old new → full old.core < 2 ^ 64 → (full old.core ≤ full new.core) × (full new.core < 2 ^ 64)
call_full now (Comes port bytes) old new h less = one_on old.core new.core port bytes now h.0 less
call_full now (Asked given) old new h less =
    let first = due_full old h.0 now h.1 less in
    let same = gives_full h.0.core new.core now given h.2 in
    (omega (arith, first.0, same), omega (arith, first.1, same))
call_full now AsksOnceMore old new h less =
    let same : full new.core ≡ full old.core = ap (λ (v : WithStaticsView PriorityCoreView). full v.core) h in
    (omega (arith, same), omega (arith, same, less))

calls_full : (cs : List StaticCallAt) (old new : WithStaticsView PriorityCoreView) → DoStaticCalls cs old new → full old.core < 2 ^ 64 → full old.core ≤ full new.core
calls_full [] old new is less = omega (arith, ap (λ (v : WithStaticsView PriorityCoreView). full v.core) is)
calls_full (c ∷ cs) old new h less =
    let first = call_full c.moment c.call old h.0 h.1 less in
    omega (arith, first.0, calls_full cs h.0 new h.2 first.1)

-- ---- room over calls, or none needed

-- if a run has it, each call has it
pub record IsOfEach (Room : PriorityCoreView → PriorityCoreView → Type 0) : Type 0 where
  pub words : (v mid : WithStaticsView PriorityCoreView) (now : ℕ) (given : Option Given) (h : GivesWithStatics PriorityHears PriorityGives v now given mid) → Room v.core mid.core → Room v.core h.0.core
  pub first : (now : ℕ) (c : StaticCall) (cs : List StaticCallAt) (v mid new : WithStaticsView PriorityCoreView) → DoesStaticCall now c v mid → DoStaticCalls cs mid new → Room v.core new.core → Room v.core mid.core
  pub later : (now : ℕ) (c : StaticCall) (cs : List StaticCallAt) (v mid new : WithStaticsView PriorityCoreView) → DoesStaticCall now c v mid → DoStaticCalls cs mid new → Room v.core new.core → Room mid.core new.core

words_room : (v mid : WithStaticsView PriorityCoreView) (now : ℕ) (given : Option Given) (h : GivesWithStatics PriorityHears PriorityGives v now given mid) → FindsSpace v.core mid.core → FindsSpace v.core h.0.core
words_room v mid now given h r =
    let bound = due_full v h.0 now h.1 (omega (arith, r.countable)) in
    let gives = gives_full h.0.core mid.core now given h.2 in
    record { room = omega (arith, r.room, gives); countable = r.countable }

first_same : (now : ℕ) (c : StaticCall) (cs : List StaticCallAt) (v mid new : WithStaticsView PriorityCoreView) → DoesStaticCall now c v mid → DoStaticCalls cs mid new → FindsSpace v.core new.core → full mid.core ≡ full v.core
first_same now c cs v mid new one more r =
    let first = call_full now c v mid one (omega (arith, r.countable)) in
    let rest = calls_full cs mid new more first.1 in
    omega (arith, first.0, rest, r.room)

pub room_of_each : IsOfEach FindsSpace
room_of_each = record {
  words = words_room;
  first = λ now c cs v mid new one more r. record { room = first_same now c cs v mid new one more r; countable = r.countable };
  later = λ now c cs v mid new one more r.
      let same = first_same now c cs v mid new one more r in
      record { room = r.room ∙ sym same; countable = omega (arith, r.countable, same) };
}

abbrev pub AnyRoom : PriorityCoreView → PriorityCoreView → Type 0
AnyRoom old new = Unit {0}

pub any_of_each : IsOfEach AnyRoom
any_of_each = record {
  words = λ v mid now given h r. tt;
  first = λ now c cs v mid new one more r. tt;
  later = λ now c cs v mid new one more r. tt;
}

pub same_or_not : (before after : PriorityCoreView) → (full after ≡ full before) ⊎ (full after ≢ full before)
same_or_not before after = elim (bool_cases (full after == full before)) [
  | inl same ↦ inl (eqb-true (full after) (full before) same)
  | inr other ↦ inr (λ e. eqb-false (full after) (full before) other e)
]

-- ---- offers, each with its name

module _ {M I : Type 0} (metric : I → M) (ports : List Port) (advertisements : List SendingView) (value : I → RouterView → Option (M × ℕ)) (IsSuch : ℕ → List ℕ → Type 0)
    (receives : (i : I) (old new : RouterView) (port : ℕ) (bytes : List ℕ) (now : ℕ) (a : OutcomeView) → old.ports ≡ ports → IsSuch port bytes → Receives old (port + 1) bytes now a new → value i new ≡ still now (value i old))
    (tells : (i : I) (old new : RouterView) (now : ℕ) (told : List SendingView) → TellsNow old now told new → value i new ≡ still now (value i old))
    (Room : PriorityCoreView → PriorityCoreView → Type 0) (each_room : IsOfEach Room)
    (says : (old new : WithStaticsView PriorityCoreView) (now : ℕ) → old.core.router.ports ≡ ports → old.advertisements ≡ advertisements → is_due old.refreshed_at now ≡ true → HearsIfDue PriorityHears old now new
    → Room old.core new.core → ((i : I) → Counts (metric i) now (value i old.core.router)) → (i : I) → value i new.core.router ≡ Some (metric i, now)) where
  -- one was learned since the advertisements last came
  abbrev IsPresent : ℕ → I → RouterView → Type 0
  IsPresent last i r = (heard : ℕ) × (last ≤ heard) × (value i r ≡ Some (metric i, heard))

  -- and so was each, which is under a minute before the core was last asked
  pub record Stays (v : WithStaticsView PriorityCoreView) (asked : ℕ) : Type 0 where
    pub last : ℕ
    pub is_last : v.refreshed_at ≡ Some last
    pub lately : asked - last < 60000
    pub stands : (i : I) → IsPresent last i v.core.router
    pub same_ports : v.core.router.ports ≡ ports
    pub same_words : v.advertisements ≡ advertisements

  young_within : (now asked last heard : ℕ) → asked - last < 60000 → last ≤ heard → now ≤ asked + 60000 → is_young now heard ≡ true
  young_within now asked last heard lately since within = lt-ltb (now - heard) 180000 (omega (arith, lately, since, within))

  still_there : (now heard : ℕ) (m : M) (o : Option (M × ℕ)) → o ≡ Some (m, heard) → is_young now heard ≡ true → still now o ≡ Some (m, heard)
  still_there now heard m o is young = ap (still now) is ∙ ap (λ b. cond b (Some (m, heard)) None) young

  counts : (v : WithStaticsView PriorityCoreView) (asked now : ℕ) → Stays v asked → now ≤ asked + 60000 → (i : I) → Counts (metric i) now (value i v.core.router)
  counts v asked now s within i =
      let st = s.stands i in
      (st.0, st.2, young_within now asked s.last st.0 s.lately st.1 within)

  -- asked after advertisements, or if none were due
  asked_after : (v mid : WithStaticsView PriorityCoreView) (now : ℕ) (given : Option Given) → Stays v now → PriorityGives v.core now given mid.core → mid ≡ record v { core = mid.core } → Stays mid now
  asked_after v mid now given s h is =
      let router = gives_router v.core mid.core now given h in
      record {
        last = s.last;
        is_last = ap (λ (v : WithStaticsView PriorityCoreView). v.refreshed_at) is ∙ s.is_last;
        lately = s.lately;
        stands = λ i.
            let st = s.stands i in
            let young = young_within now now s.last st.0 s.lately st.1 (omega arith) in
            (st.0, st.1, ap (value i) router ∙ tells i v.core.router h.1.2 now h.1.1 h.1.4 ∙ still_there now st.0 (metric i) (value i v.core.router) st.2 young);
        same_ports = ap (λ (r : RouterView). r.ports) router ∙ h.1.4.2.ports ∙ s.same_ports;
        same_words = ap (λ (v : WithStaticsView PriorityCoreView). v.advertisements) is ∙ s.same_words;
      }

  -- asked as advertisements are due
  asked_due : (v mid : WithStaticsView PriorityCoreView) (now : ℕ) (given : Option Given) → v.core.router.ports ≡ ports → v.advertisements ≡ advertisements → is_due v.refreshed_at now ≡ true
      → (h : GivesWithStatics PriorityHears PriorityGives v now given mid) → ((i : I) → value i h.0.core.router ≡ Some (metric i, now)) → Stays mid now
  asked_due v mid now given same_ports same_words due h spoken =
      let heard = h.0 in
      let said = of_true (HearsAdvertisements PriorityHears now v.advertisements v.core heard.core × (heard ≡ record v { core = heard.core; refreshed_at = Some now })) (heard ≡ v) (is_due v.refreshed_at now) due h.1 in
      let s : Stays heard now = record {
        last = now;
        is_last = ap (λ (v : WithStaticsView PriorityCoreView). v.refreshed_at) said.1;
        lately = omega arith;
        stands = λ i. (now, omega arith, spoken i);
        same_ports = words_ports now v.advertisements v.core heard.core said.0 ∙ same_ports;
        same_words = ap (λ (v : WithStaticsView PriorityCoreView). v.advertisements) said.1 ∙ same_words;
      } in
      asked_after heard mid now given s h.2 h.3

  under_a_minute : (now last : ℕ) → nat_le 60000 (now - last) ≡ false → now - last < 60000
  under_a_minute now last h = omega (arith, leb-false 60000 (now - last) h)

  -- asked as none are due
  asked_early : (v mid : WithStaticsView PriorityCoreView) (asked now : ℕ) (given : Option Given) → Stays v asked → is_due v.refreshed_at now ≡ false
      → GivesWithStatics PriorityHears PriorityGives v now given mid → Stays mid now
  asked_early v mid asked now given s not_due h =
      let heard = h.0 in
      let is = of_false (HearsAdvertisements PriorityHears now v.advertisements v.core heard.core × (heard ≡ record v { core = heard.core; refreshed_at = Some now })) (heard ≡ v) (is_due v.refreshed_at now) not_due h.1 in
      let here : Stays v now = record {
        last = s.last;
        is_last = s.is_last;
        lately = under_a_minute now s.last (sym (ap (λ o. is_due o now) s.is_last) ∙ not_due);
        stands = s.stands;
        same_ports = s.same_ports;
        same_words = s.same_words;
      } in
      asked_after heard mid now given (subst (λ (v : WithStaticsView PriorityCoreView). Stays v now) (sym is) here) h.2 h.3

  comes_in : (v mid : WithStaticsView PriorityCoreView) (asked now port : ℕ) (bytes : List ℕ) → Stays v asked → now ≤ asked + 60000 → IsSuch port bytes
      → HearsUnder PriorityHears v port bytes now mid → Stays mid asked
  comes_in v mid asked now port bytes s within such h =
      let router = heard_router v.core mid.core port bytes now h.0 in
      record {
        last = s.last;
        is_last = ap (λ (v : WithStaticsView PriorityCoreView). v.refreshed_at) h.1 ∙ s.is_last;
        lately = s.lately;
        stands = λ i.
            let st = s.stands i in
            let young = young_within now asked s.last st.0 s.lately st.1 within in
            (st.0, st.1, ap (value i) router ∙ receives i v.core.router h.0.1 port bytes now h.0.0 s.same_ports such h.0.2 ∙ still_there now st.0 (metric i) (value i v.core.router) st.2 young);
        same_ports = ap (λ (r : RouterView). r.ports) router ∙ h.0.2.rest.ports ∙ s.same_ports;
        same_words = ap (λ (v : WithStaticsView PriorityCoreView). v.advertisements) h.1 ∙ s.same_words;
      }

  -- told to ask its neighbours once more
  asks_on : (v mid : WithStaticsView PriorityCoreView) (asked : ℕ) → Stays v asked → mid ≡ record v { core = record v.core { started = false } } → Stays mid asked
  asks_on v mid asked s is = record {
    last = s.last;
    is_last = ap (λ (v : WithStaticsView PriorityCoreView). v.refreshed_at) is ∙ s.is_last;
    lately = s.lately;
    stands = λ i. let st = s.stands i in (st.0, st.1, ap (λ (v : WithStaticsView PriorityCoreView). value i v.core.router) is ∙ st.2);
    same_ports = ap (λ (v : WithStaticsView PriorityCoreView). v.core.router.ports) is ∙ s.same_ports;
    same_words = ap (λ (v : WithStaticsView PriorityCoreView). v.advertisements) is ∙ s.same_words;
  }

  one_call : (now : ℕ) (c : StaticCall) (v mid : WithStaticsView PriorityCoreView) (asked : ℕ) → Stays v asked → now ≤ asked + 60000 → ComesAs IsSuch c → DoesStaticCall now c v mid
      → Room v.core mid.core → Stays mid (asked_by now c asked)
  one_call now (Comes port bytes) v mid asked s within such h room = comes_in v mid asked now port bytes s within such h
  one_call now (Asked given) v mid asked s within such h room = elim (bool_cases (is_due v.refreshed_at now)) [
    | inl due ↦ asked_due v mid now given s.same_ports s.same_words due h
        (says v h.0 now s.same_ports s.same_words due h.1 (each_room.words v mid now given h room) (counts v asked now s within))
    | inr not_due ↦ asked_early v mid asked now given s not_due h
  ]
  one_call now AsksOnceMore v mid asked s within such h room = asks_on v mid asked s h

  all_calls : (cs : List StaticCallAt) (v new : WithStaticsView PriorityCoreView) (asked : ℕ) → Stays v asked → IsAskedEachMinute IsSuch cs asked → DoStaticCalls cs v new
      → Room v.core new.core → Stays new (asked_in cs asked)
  all_calls [] v new asked s each is room = subst (λ (v : WithStaticsView PriorityCoreView). Stays v asked) (sym is) s
  all_calls (c ∷ cs) v new asked s each h room =
      let mid = h.0 in
      all_calls cs mid new (asked_by c.moment c.call asked)
      (one_call c.moment c.call v mid asked s each.0 each.1 h.1 (each_room.first c.moment c.call cs v mid new h.1 h.2 room)) each.2 h.2
      (each_room.later c.moment c.call cs v mid new h.1 h.2 room)

  -- from the time that the core is asked as advertisements are due
  pub whole_run : (start : ℕ) (given : Option Given) (cs : List StaticCallAt) (old first new : WithStaticsView PriorityCoreView) → old.core.router.ports ≡ ports → old.advertisements ≡ advertisements → is_due old.refreshed_at start ≡ true
      → (begins : GivesWithStatics PriorityHears PriorityGives old start given first) → ((i : I) → value i begins.0.core.router ≡ Some (metric i, start)) → DoStaticCalls cs first new → Room first.core new.core → IsAskedEachMinute IsSuch cs start
      → (now : ℕ) → now ≤ asked_in cs start + 60000 → (i : I) → Counts (metric i) now (value i new.core.router)
  whole_run start given cs old first new same_ports same_words due begins spoken goes_on room each now within i =
      let s = all_calls cs first new start (asked_due old first start given same_ports same_words due begins spoken) each goes_on room in
      counts new (asked_in cs start) now s within i
