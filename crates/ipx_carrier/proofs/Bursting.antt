-- Consecutive turns, as a batch takes them.
use Rattle.std.proofs.Common.{◌≡◌, ◌≤◌, ◌<◌, ℕ, zero, suc, ◌+◌, List, [], ◌∷◌, ◌++◌, length, sum_by, Bool, true, false, Option, Some, None, Result, Ok, Err, IfOk, IfErr, OnOk, IsTrue, ◌↔◌, refl, sym, subst, ap, ◌∙◌, arith, length-append}
use Rattle.std.proofs.lemmas.List.Elements.{All-nil, All-push}
use Rattle.std.proofs.lemmas.List.Sums.{sum_by_push}
use Rattle.ipx_carrier.specs.declared.fault.RunFault.{RunFault}
use Rattle.ipx_carrier.specs.declared.fault.RunFault.TheVariants.{Device}
use Rattle.ipx_carrier.specs.declared.report.Report.{Report}
use Rattle.ipx_carrier.specs.Turns.{Given, Ways}
use Rattle.ipx_carrier.specs.Runs.{EndsEarlyBy, RunsBy}
use Rattle.ipx_carrier.specs.declared.report.Batch.{Batch}
use Rattle.ipx_carrier.specs.Counting.{counted}
use Rattle.ipx_carrier.specs.Device.{TrafficOf}
use Rattle.ipx_carrier.specs.MarkedTurns.{BreaksMarkedTurn, TakesMarkedTurn}
use Rattle.ipx_carrier.specs.Readiness.{Readiness}
use Rattle.ipx_carrier.specs.Driving.{AreBusy, BurstsBy, CanBeginBy, ChainBy, CountsTurns, EndsBy, IsIdle, Stops, TakesTurnBy, TurnTaken, no_turns, refused}

-- a turn can begin over the same as before
pub begins_again : {ports ports_now device device_now failed failed_now : ℕ} → ports_now ≡ ports
    → device_now ≡ device → failed_now ≡ failed → CanBeginBy ports device failed → CanBeginBy ports_now device_now failed_now
begins_again e f g can = rw (e, f, g) can

-- if none can begin, the first one ends the batch; none is taken if at most none is allowed
pub refused_first : (count most : ℕ) (x y : Batch) (f : RunFault) → count < most → x ≡ no_turns → f ≡ Device
    → y ≡ record x { fault = Some f } → y ≡ refused most
refused_first count zero x y f few none e is = absurd (omega (arith, few))
refused_first count (suc most) x y f few none e is = rw (is, none, e) refl

-- a result that is a fault is this one, and no value
fault_in : {T : Type 0} → Result T RunFault → RunFault
fault_in (Ok x) = Device
fault_in (Err f) = f

went : {T : Type 0} → Result T RunFault → Type 0
went (Ok x) = Unit {0}
went (Err f) = ⊥

pub same_fault : {T : Type 0} (f g : RunFault) → ◌≡◌ {A = Result T RunFault} (Err f) (Err g) → f ≡ g
unfolding fault_in
same_fault f g e = ap fault_in e

pub no_fault : {T : Type 0} (x : T) (f : RunFault) → ◌≡◌ {A = Result T RunFault} (Ok x) (Err f) → ⊥
unfolding went
no_fault x f e = subst went e tt

-- a report is idle, or not, as its test says
holds : Bool → Type 0
holds true = Unit {0}
holds false = ⊥

pub is_busy_so : (b : Bool) (r : Report) → IsTrue b ↔ ((r.heard ≡ 0) × (r.sent ≡ 0)) → b ≡ false → (r.heard ≡ 0) × (r.sent ≡ 0) → ⊥
unfolding holds
is_busy_so b r h e idle = subst holds (sym (h.1 idle) ∙ e) tt

pub refused_none : (count most : ℕ) (x : Batch) → count ≡ 0 → count ≡ most → x ≡ no_turns → x ≡ refused most
refused_none count most x first all none = rw (← all, first, none) refl

-- a turn that was taken, by its result
module _ {C K : Type 0} (hears hear_out_of_memory : C → ℕ → List ℕ → ℕ → C → Type 0)
    (gives : C → ℕ → Option Given → C → Type 0) (next_out_of_memory : C → ℕ → C → Type 0)
    (tells : K → ℕ → K → Type 0) (ports : ℕ) {A : Type 0} (transmissions : Ways A) where
  pub takes : (before after : Option (TrafficOf A)) (l m : K) (b c : C) (ran : Result Report RunFault)
      → IfOk ran (λ report. RunsBy hears gives tells ports transmissions 1 before after l m b c report)
      → IfErr ran (λ f. EndsEarlyBy hears hear_out_of_memory gives next_out_of_memory tells ports transmissions 1 before after l m f b c)
      → TakesTurnBy hears hear_out_of_memory gives next_out_of_memory tells ports transmissions before after l m b c ran
  takes before after l m b c (Ok report) well ill = well
  takes before after l m b c (Err f) well ill = ill

-- what holds of any turn
pub on_whole : {P : Type 0} (ran : Result Report RunFault) → P → OnOk ran P
on_whole (Ok report) p = p
on_whole (Err f) p = tt

-- one more is counted
more_counted : (f : TurnTaken → ℕ) (ts : List TurnTaken) (t : TurnTaken) (before after : ℕ)
    → before ≡ counted (sum_by f ts) → after ≡ counted (before + f t)
    → after ≡ counted (sum_by f (ts ++ t ∷ []))
more_counted f ts t before after e k =
    let s : sum_by f (ts ++ t ∷ []) ≡ sum_by f ts + f t = sum_by_push f ts t in
    omega (arith, e, k, s)

-- a burst that counts one more turn
abbrev pub CountsOne : Report → Batch → Batch → Type 0
CountsOne r b c = (c.heard ≡ counted (b.heard + r.heard)) × (c.sent ≡ counted (b.sent + r.sent))
    × (c.unmapped ≡ counted (b.unmapped + r.unmapped))

more_counts : (ts : List TurnTaken) (t : TurnTaken) (x y : Batch) → CountsTurns ts x → CountsOne t.report x y → CountsTurns (ts ++ t ∷ []) y
more_counts ts t x y h counts = (
  more_counted (λ t. t.report.heard) ts t x.heard y.heard h.0 counts.0,
  more_counted (λ t. t.report.sent) ts t x.sent y.sent h.1 counts.1,
  more_counted (λ t. t.report.unmapped) ts t x.unmapped y.unmapped h.2 counts.2,
)

-- a turn by its report and the counts of filtered datagrams
abbrev pub taken : Report → ℕ → ℕ → TurnTaken
taken r before after = record { report = r; before = before; after = after }

module _ {C K S : Type 0} (hears : C → ℕ → List ℕ → ℕ → C → Type 0)
    (gives : C → ℕ → Option Given → C → Type 0) (tells : K → ℕ → K → Type 0)
    (receives : S → ℕ → ℕ → Option (List ℕ) → S → Type 0) (sends : S → Given → S → Type 0)
    (filtered : S → ℕ) (marked : S → Readiness) (ports size : ℕ) {A : Type 0} (transmissions : Ways A) where
  -- this many whole turns, none of them idle, and their counts
  abbrev pub Goes : ℕ → Batch → S → S → K → K → C → C → Type 0
  Goes count b driver driver_after clock clock_after old new = (turns : List TurnTaken) × (length turns ≡ count)
      × ChainBy hears gives tells receives sends filtered marked ports size transmissions turns driver driver_after clock clock_after old new
      × CountsTurns turns b × AreBusy turns

  -- a turn over the same ports and ways, with a buffer of the same size
  ran_here : (here wide : ℕ) (there : Ways A) (u v : S) (l m : K) (b c : C) (report : Report) → here ≡ ports → wide ≡ size → there ≡ transmissions
      → TakesMarkedTurn hears gives tells receives sends marked here wide there u v l m b c report
      → TakesMarkedTurn hears gives tells receives sends marked ports size transmissions u v l m b c report
  ran_here here wide there u v l m b c report e f w ran =
      subst (λ (it : Ways A). TakesMarkedTurn hears gives tells receives sends marked ports size it u v l m b c report) w
      (subst (λ n. TakesMarkedTurn hears gives tells receives sends marked ports n there u v l m b c report) f
      (subst (λ n. TakesMarkedTurn hears gives tells receives sends marked n wide there u v l m b c report) e ran))

  chain_on : (ts : List TurnTaken) (t : TurnTaken) (o p q : S) (k l m : K) (a b c : C)
      → ChainBy hears gives tells receives sends filtered marked ports size transmissions ts o p k l a b
      → t.before ≡ filtered p → t.after ≡ filtered q → t.before ≤ t.after
      → TakesMarkedTurn hears gives tells receives sends marked ports size transmissions p q l m b c t.report
      → ChainBy hears gives tells receives sends filtered marked ports size transmissions (ts ++ t ∷ []) o q k m a c
  chain_on [] t o p q k l m a b c h e f le ran =
      let from = subst (λ p. TakesMarkedTurn hears gives tells receives sends marked ports size transmissions p q l m b c t.report) h.0 ran in
      let at = subst (λ l. TakesMarkedTurn hears gives tells receives sends marked ports size transmissions o q l m b c t.report) h.1 from in (
        q,
        m,
        c,
        subst (λ p. t.before ≡ filtered p) h.0 e,
        f,
        le,
        subst (λ b. TakesMarkedTurn hears gives tells receives sends marked ports size transmissions o q k m b c t.report) h.2 at,
        (refl, refl, refl),
      )
  chain_on (s ∷ ss) t o p q k l m a b c h e f le ran =
      (h.0, h.1, h.2, h.3, h.4, h.5, h.6, chain_on ss t h.0 p q h.1 l m h.2 b c h.7 e f le ran)

  pub goes_nowhere : (o : S) (k : K) (a : C) (batch : Batch) → CountsTurns [] batch → Goes 0 batch o o k k a a
  goes_nowhere o k a batch counts = ([], refl, (refl, refl, refl), counts, All-nil (λ t. IsIdle t → ⊥))

  -- one more turn, idle or not
  one_more : (here wide count : ℕ) (there : Ways A) (o p q : S) (k l m : K) (a b c : C) (x : Batch) (report : Report) → here ≡ ports → wide ≡ size
      → there ≡ transmissions → (h : Goes count x o p k l a b) → filtered p ≤ filtered q
      → TakesMarkedTurn hears gives tells receives sends marked here wide there p q l m b c report
      → ChainBy hears gives tells receives sends filtered marked ports size transmissions (h.0 ++ taken report (filtered p) (filtered q) ∷ []) o q k m a c
  one_more here wide count there o p q k l m a b c x report e f w h le ran =
      chain_on h.0 (taken report (filtered p) (filtered q)) o p q k l m a b c h.2 refl refl le (ran_here here wide there p q l m b c report e f w ran)

  pub goes_on : (here wide count : ℕ) (there : Ways A) (o p q : S) (k l m : K) (a b c : C) (x y : Batch) (report : Report) → here ≡ ports → wide ≡ size
      → there ≡ transmissions → Goes count x o p k l a b → filtered p ≤ filtered q
      → TakesMarkedTurn hears gives tells receives sends marked here wide there p q l m b c report → CountsOne report x y
      → (IsIdle (taken report (filtered p) (filtered q)) → ⊥) → Goes (count + 1) y o q k m a c
  goes_on here wide count there o p q k l m a b c x y report e f w h le ran counts busy =
      let t = taken report (filtered p) (filtered q) in (
        h.0 ++ t ∷ [],
        omega (arith, length-append h.0 (t ∷ []), h.1),
        one_more here wide count there o p q k l m a b c x report e f w h le ran,
        more_counts h.0 t x y h.3 counts,
        All-push (λ t. IsIdle t → ⊥) h.0 t h.4 busy,
      )

module _ {C K S : Type 0} (hears hear_out_of_memory : C → ℕ → List ℕ → ℕ → C → Type 0)
    (gives : C → ℕ → Option Given → C → Type 0) (next_out_of_memory : C → ℕ → C → Type 0)
    (tells : K → ℕ → K → Type 0) (receives : S → ℕ → ℕ → Option (List ℕ) → S → Type 0)
    (sends : S → Given → S → Type 0) (fails_to_receive : S → ℕ → ℕ → S → Type 0)
    (fails_to_send : S → Given → S → Type 0) (filtered : S → ℕ) (marked : S → Readiness) (ports size : ℕ)
    {A : Type 0} (transmissions : Ways A) where
  nothing_more : (fault : Option RunFault) (o : S) (l : K) (b : C) → fault ≡ None
      → EndsBy hears hear_out_of_memory gives next_out_of_memory tells receives sends fails_to_receive fails_to_send filtered marked ports size transmissions fault o o l l b b
  nothing_more fault o l b e =
      subst (λ (it : Option RunFault). EndsBy hears hear_out_of_memory gives next_out_of_memory tells receives sends fails_to_receive fails_to_send filtered marked ports size transmissions it o o l l b b) (sym e) (refl, refl, refl)

  -- no fault ended the batch, and it is not quiet: all turns were taken
  pub ends_at_most : (count most : ℕ) (o p : S) (k l : K) (a b : C) (x : Batch) → count ≡ most → x.fault ≡ None → x.quiet ≡ false
      → Goes hears gives tells receives sends filtered marked ports size transmissions count x o p k l a b
      → BurstsBy hears hear_out_of_memory gives next_out_of_memory tells receives sends fails_to_receive fails_to_send filtered marked ports size transmissions most x o p k l a b
  ends_at_most count most o p k l a b x all e f h = (
    h.0,
    p,
    l,
    b,
    h.2,
    nothing_more x.fault p l b e,
    h.3,
    subst (λ (it : Option RunFault). Stops most h.0 it x.quiet) (sym e)
        (subst (λ (it : Bool). Stops most h.0 None it) (sym f) (omega (arith, h.1, all), h.4)),
  )

  pub ends_quietly : (here wide count most : ℕ) (there : Ways A) (o p q : S) (k l m : K) (a b c : C) (x y z : Batch) (report : Report) → here ≡ ports → wide ≡ size
      → there ≡ transmissions → count < most → Goes hears gives tells receives sends filtered marked ports size transmissions count x o p k l a b
      → filtered q ≡ filtered p
      → TakesMarkedTurn hears gives tells receives sends marked here wide there p q l m b c report → (report.heard ≡ 0) × (report.sent ≡ 0)
      → CountsOne report x y → y.fault ≡ None → z ≡ record y { quiet = true }
      → BurstsBy hears hear_out_of_memory gives next_out_of_memory tells receives sends fails_to_receive fails_to_send filtered marked ports size transmissions most z o q k m a c
  unfolding one_more
  ends_quietly here wide count most there o p q k l m a b c x y z report e v w few h same ran idle counts f is =
      let last = taken report (filtered p) (filtered q) in
      subst (λ (it : Batch). BurstsBy hears hear_out_of_memory gives next_out_of_memory tells receives sends fails_to_receive fails_to_send filtered marked ports size transmissions most it o q k m a c) (sym is) (
        h.0 ++ last ∷ [],
        q,
        m,
        c,
        one_more hears gives tells receives sends filtered marked ports size transmissions here wide count there o p q k l m a b c x report e v w h (omega (arith, same)) ran,
        nothing_more y.fault q m c f,
        more_counts h.0 last x y h.3 counts,
        subst (λ (it : Option RunFault). Stops most (h.0 ++ last ∷ []) it true) (sym f)
            (omega (arith, length-append h.0 (last ∷ []), h.1, few), (h.0, last, refl, h.4, (idle.0, idle.1, same))),
      )

  pub ends_badly : (here wide count most : ℕ) (there : Ways A) (o p q : S) (k l m : K) (a b c : C) (x y : Batch) (f : RunFault) → here ≡ ports → wide ≡ size
      → there ≡ transmissions → count < most → x.quiet ≡ false → y ≡ record x { fault = Some f }
      → Goes hears gives tells receives sends filtered marked ports size transmissions count x o p k l a b → filtered p ≤ filtered q
      → BreaksMarkedTurn hears hear_out_of_memory gives next_out_of_memory tells receives sends fails_to_receive fails_to_send marked here wide there f p q l m b c
      → BurstsBy hears hear_out_of_memory gives next_out_of_memory tells receives sends fails_to_receive fails_to_send filtered marked ports size transmissions most y o q k m a c
  ends_badly here wide count most there o p q k l m a b c x y f e v w few loud is h le how =
      subst (λ (it : Batch). BurstsBy hears hear_out_of_memory gives next_out_of_memory tells receives sends fails_to_receive fails_to_send filtered marked ports size transmissions most it o q k m a c) (sym is) (
        h.0,
        p,
        l,
        b,
        h.2,
        (
          le,
          subst (λ (it : Ways A). BreaksMarkedTurn hears hear_out_of_memory gives next_out_of_memory tells receives sends fails_to_receive fails_to_send marked ports size it f p q l m b c) w
              (subst (λ n. BreaksMarkedTurn hears hear_out_of_memory gives next_out_of_memory tells receives sends fails_to_receive fails_to_send marked ports n there f p q l m b c) v
              (subst (λ n. BreaksMarkedTurn hears hear_out_of_memory gives next_out_of_memory tells receives sends fails_to_receive fails_to_send marked n wide there f p q l m b c) e how)),
        ),
        h.3,
        (omega (arith, h.1, few), h.4, loud),
      )
