-- Turns, one after another.
use Rattle.std.proofs.Common.{◌≡◌, ◌≤◌, ◌<◌, ℕ, ◌+◌, List, [], ◌∷◌, ◌++◌, length, Option, refl, sym, ap, ◌∙◌, subst, append_assoc, append-nil, arith, length-append, inl, inr, is_none, is_some, lit<}
use Rattle.std.proofs.lemmas.Grind.{flat_map-append}
use Rattle.std.proofs.lemmas.List.{map-append}
use Rattle.ipx_carrier.specs.declared.fault.RunFault.{RunFault}
use Rattle.ipx_carrier.specs.declared.report.Report.{Report}
use Rattle.ipx_carrier.specs.declared.report.SendCounts.{SendCounts}
use Rattle.ipx_carrier.specs.Device.{Passes, Reception, TellsMoments, TrafficOf}
use Rattle.ipx_carrier.specs.Turns.{Given, Turn, Turns, Ways, copies_of, moments_of, packets_of, received_of, sent_of}
use Rattle.ipx_carrier.specs.Counts.{heard_in, plus, report_of, unmapped_in}
use Rattle.ipx_carrier.specs.Parts.{AsksPorts, AsksSomePorts, SendsAll, SendsSome, totals_of}
use Rattle.ipx_carrier.specs.Runs.{EndsEarlyBy, RunsBy}
use Rattle.ipx_carrier.proofs.Passing.{count-append, passes_nothing, passes_on, tells_on}

-- the report of one turn
abbrev pub turn_report : ℕ → SendCounts → Report
turn_report heard totals =
    record { turns = 1; heard = heard; sent = totals.sent; unmapped = totals.unmapped }

abbrev counted : {A : Type 0} → ℕ → Ways A → List Reception → List Given → Report
counted turns transmissions rs ps = record {
  turns = turns;
  heard = heard_in rs;
  sent = length (sent_of transmissions ps);
  unmapped = unmapped_in transmissions ps;
}

more_sent : {A : Type 0} (transmissions : Ways A) (ps qs : List Given) → sent_of transmissions (ps ++ qs) ≡ sent_of transmissions ps ++ sent_of transmissions qs
more_sent transmissions ps qs = flat_map-append (copies_of transmissions) ps qs

pub more_received : (ts us : List Turn) → received_of (ts ++ us) ≡ received_of ts ++ received_of us
more_received ts us = flat_map-append (λ (t : Turn). t.answers) ts us

more_packets : (ts us : List Turn) → packets_of (ts ++ us) ≡ packets_of ts ++ packets_of us
more_packets ts us = flat_map-append (λ (t : Turn). t.packets) ts us

all_sent : {A : Type 0} (transmissions : Ways A) (ts us : List Turn) → sent_of transmissions (packets_of (ts ++ us)) ≡ sent_of transmissions (packets_of ts) ++ sent_of transmissions (packets_of us)
all_sent transmissions ts us = ap (sent_of transmissions) (more_packets ts us) ∙ more_sent transmissions (packets_of ts) (packets_of us)

more_moments : (ts us : List Turn) → moments_of (ts ++ us) ≡ moments_of ts ++ moments_of us
more_moments ts us = map-append (λ (t : Turn). t.moment) ts us

counted_parts : {A : Type 0} (transmissions : Ways A) (m n : ℕ) (rs rs' : List Reception) (ps ps' : List Given) → counted (m + n) transmissions (rs ++ rs') (ps ++ ps') ≡ plus (counted m transmissions rs ps) (counted n transmissions rs' ps')
counted_parts transmissions m n rs rs' ps ps' =
    let h : heard_in (rs ++ rs') ≡ heard_in rs + heard_in rs' = count-append (λ (r : Reception). is_some r.bytes) rs rs' in
    let s : length (sent_of transmissions (ps ++ ps')) ≡ length (sent_of transmissions ps) + length (sent_of transmissions ps') =
    ap length (more_sent transmissions ps ps') ∙ length-append (sent_of transmissions ps) (sent_of transmissions ps') in
    let u : unmapped_in transmissions (ps ++ ps') ≡ unmapped_in transmissions ps + unmapped_in transmissions ps' = count-append (λ (p : Given). is_none (transmissions p)) ps ps' in
    cc

more_reported : {A : Type 0} (transmissions : Ways A) (ts us : List Turn) → report_of transmissions (ts ++ us) ≡ plus (report_of transmissions ts) (report_of transmissions us)
more_reported transmissions ts us =
    ap (λ n. counted n transmissions (received_of (ts ++ us)) (packets_of (ts ++ us))) (length-append ts us)
    ∙ ap (λ rs. counted (length ts + length us) transmissions rs (packets_of (ts ++ us))) (more_received ts us)
    ∙ ap (λ ps. counted (length ts + length us) transmissions (received_of ts ++ received_of us) ps) (more_packets ts us)
    ∙ counted_parts transmissions (length ts) (length us) (received_of ts) (received_of us) (packets_of ts) (packets_of us)

module _ {C : Type 0} (hears : C → ℕ → List ℕ → ℕ → C → Type 0)
    (gives : C → ℕ → Option Given → C → Type 0) (ports : ℕ) where
  pub turns_on : (ts us : List Turn) (a b c : C) → Turns hears gives ports ts a b → Turns hears gives ports us b c → Turns hears gives ports (ts ++ us) a c
  turns_on [] us a b c h k = subst (λ a. Turns hears gives ports us a c) h k
  turns_on (t ∷ ts) us a b c h k = (h.0, h.1, turns_on ts us h.0 b c h.2 k)

-- the report of a turn, by the counts of its two parts
pub report_one : {A : Type 0} (transmissions : Ways A) (now heard : ℕ) (totals : SendCounts) (rs : List Reception) (ps : List Given)
    → heard ≡ heard_in rs → totals ≡ totals_of transmissions ps
    → turn_report heard totals ≡ report_of transmissions (record { moment = now; answers = rs; packets = ps } ∷ [])
report_one transmissions now heard totals rs ps e k =
    ap (λ n. turn_report n totals) e ∙ ap (λ t. turn_report (heard_in rs) t) k
    ∙ ap (λ rs. counted 1 transmissions rs ps) (sym (append-nil rs)) ∙ ap (λ ps. counted 1 transmissions (rs ++ []) ps) (sym (append-nil ps))

module _ {C : Type 0} (hears : C → ℕ → List ℕ → ℕ → C → Type 0)
    (gives : C → ℕ → Option Given → C → Type 0) {K : Type 0} (tells : K → ℕ → K → Type 0) (ports : ℕ) {A : Type 0} (transmissions : Ways A) where
  pub ran_none : (s : Option (TrafficOf A)) (r : K) (a : C) (report : Report) → report ≡ counted 0 transmissions [] [] → RunsBy hears gives tells ports transmissions 0 s s r r a a report
  ran_none s r a report e = ([], refl, refl, passes_nothing s s refl, refl, e)

  pub ran_one : {S : Type 0} (sends : S → Given → S → Type 0) (now : ℕ) (there : Ways A) (s t u : Option (TrafficOf A)) (x y : S) (r r' : K) (a b c : C) (heard : ℕ) (totals : SendCounts) → tells r now r' → there ≡ transmissions → AsksPorts hears now ports s t a b heard → SendsAll gives sends now there t u x y b c totals → RunsBy hears gives tells ports transmissions 1 s u r r' a c (turn_report heard totals)
  ran_one sends now there s t u x y r r' a b c heard totals told is h k' =
      let k = subst (λ w. SendsAll gives sends now w t u x y b c totals) is k' in
      let turn : Turn = record { moment = now; answers = h.0; packets = k.0 } in
      let passed : Passes s u (h.0 ++ []) (sent_of transmissions k.0) = passes_on s t u h.0 [] [] (sent_of transmissions k.0) h.2 k.2 in (
        turn ∷ [],
        refl,
        (c, (h.1, b, h.3, k.1), refl),
        subst (λ (ps : List Given). Passes s u (h.0 ++ []) (sent_of transmissions ps)) (sym (append-nil k.0)) passed,
        (r', told, refl),
        report_one transmissions now heard totals h.0 k.0 h.4 k.3,
      )

  pub ran_on : (m n : ℕ) (s t u : Option (TrafficOf A)) (r r' r'' : K) (a b c : C) (x y : Report) → RunsBy hears gives tells ports transmissions m s t r r' a b x → RunsBy hears gives tells ports transmissions n t u r' r'' b c y → RunsBy hears gives tells ports transmissions (m + n) s u r r'' a c (plus x y)
  ran_on m n s t u r r' r'' a b c x y h k =
      let ts = h.0 in
      let us = k.0 in
      let passed = passes_on s t u (received_of ts) (received_of us) (sent_of transmissions (packets_of ts)) (sent_of transmissions (packets_of us)) h.3 k.3 in (
        ts ++ us,
        length-append ts us ∙ ap (λ i. i + length us) h.1 ∙ ap (λ i. m + i) k.1,
        turns_on hears gives ports ts us a b c h.2 k.2,
        subst (λ (rs : List Reception). Passes s u rs (sent_of transmissions (packets_of (ts ++ us)))) (sym (more_received ts us))
            (subst (λ (ds : List A). Passes s u (received_of ts ++ received_of us) ds) (sym (all_sent transmissions ts us)) passed),
        subst (λ (ms : List ℕ). TellsMoments tells r r'' ms) (sym (more_moments ts us)) (tells_on tells r r' r'' (moments_of ts) (moments_of us) h.4 k.4),
        ap (λ x. plus x y) h.5 ∙ ap (λ y. plus (report_of transmissions ts) y) k.5 ∙ sym (more_reported transmissions ts us),
      )

  -- the same if the count of ports is written in another way
  pub ran_more : (here m : ℕ) (there : Ways A) (s t u : Option (TrafficOf A)) (r r' r'' : K) (a b c : C) (x y z : Report) → here ≡ ports → there ≡ transmissions → RunsBy hears gives tells ports transmissions m s t r r' a b x → RunsBy hears gives tells here there 1 t u r' r'' b c y → z ≡ plus x y → RunsBy hears gives tells ports transmissions (m + 1) s u r r'' a c z
  ran_more here m there s t u r r' r'' a b c x y z e w h k is =
      let k' : RunsBy hears gives tells ports transmissions 1 t u r' r'' b c y = subst (λ v. RunsBy hears gives tells ports v 1 t u r' r'' b c y) w (subst (λ n. RunsBy hears gives tells n there 1 t u r' r'' b c y) e k) in
      subst (λ z. RunsBy hears gives tells ports transmissions (m + 1) s u r r'' a c z) (sym is) (ran_on m 1 s t u r r' r'' a b c x y h k')

module _ {C : Type 0} (hears hear_out_of_memory : C → ℕ → List ℕ → ℕ → C → Type 0)
    (gives : C → ℕ → Option Given → C → Type 0) (next_out_of_memory : C → ℕ → C → Type 0)
    {K : Type 0} (tells : K → ℕ → K → Type 0) (ports : ℕ) {A : Type 0} (transmissions : Ways A) where
  pub ends_hearing : (now : ℕ) (s t : Option (TrafficOf A)) (r r' : K) (f : RunFault) (a b : C) → tells r now r' → AsksSomePorts hears hear_out_of_memory now ports s t f a b → EndsEarlyBy hears hear_out_of_memory gives next_out_of_memory tells ports transmissions 1 s t r r' f a b
  ends_hearing now s t r r' f a b told h =
      let turn : Turn = record { moment = now; answers = h.0 ++ h.1; packets = [] } in (
        [],
        turn,
        [],
        a,
        lit< tt,
        refl,
        inl (h.0, h.1, h.2, refl, h.3, h.5, h.6, refl, refl),
        h.4,
        (r', told, refl),
      )

  pub ends_sending : {S : Type 0} (sends fails_to_send : S → Given → S → Type 0) (now : ℕ) (there : Ways A) (s t u : Option (TrafficOf A)) (x y : S) (r r' : K) (f : RunFault) (a b c : C) (heard : ℕ) → tells r now r' → there ≡ transmissions → AsksPorts hears now ports s t a b heard → SendsSome gives next_out_of_memory sends fails_to_send 64 now there t u f x y b c → EndsEarlyBy hears hear_out_of_memory gives next_out_of_memory tells ports transmissions 1 s u r r' f a c
  ends_sending sends fails_to_send now there s t u x y r r' f a b c heard told is h k' =
      let k = subst (λ w. SendsSome gives next_out_of_memory sends fails_to_send 64 now w t u f x y b c) is k' in
      let turn : Turn = record { moment = now; answers = h.0; packets = k.0 } in
      let passed : Passes s u (h.0 ++ []) k.1 = passes_on s t u h.0 [] [] k.1 h.2 k.3 in (
        [],
        turn,
        k.1,
        a,
        lit< tt,
        refl,
        inr (h.1, b, h.3, k.2),
        subst (λ (rs : List Reception). Passes s u rs k.1) (append-nil h.0) passed,
        (r', told, refl),
      )

  ends_on : (m n total : ℕ) (s t u : Option (TrafficOf A)) (r r' r'' : K) (f : RunFault) (a b c : C) (x : Report) → m + n ≤ total → RunsBy hears gives tells ports transmissions m s t r r' a b x → EndsEarlyBy hears hear_out_of_memory gives next_out_of_memory tells ports transmissions n t u r' r'' f b c → EndsEarlyBy hears hear_out_of_memory gives next_out_of_memory tells ports transmissions total s u r r'' f a c
  ends_on m n total s t u r r' r'' f a b c x few h k =
      let ts = h.0 in
      let us = k.0 in
      let long : length ts ≡ m = h.1 in
      let fewer : length us < n = k.4 in
      let rs = received_of us ++ k.1.answers in
      let ds = sent_of transmissions (packets_of us) ++ k.2 in
      let ms = moments_of us ++ k.1.moment ∷ [] in
      let passed = passes_on s t u (received_of ts) rs (sent_of transmissions (packets_of ts)) ds h.3 k.7 in
      let received : received_of (ts ++ us) ++ k.1.answers ≡ received_of ts ++ rs = ap (λ ys. ys ++ k.1.answers) (more_received ts us) ∙ append_assoc (received_of ts) (received_of us) k.1.answers in
      let sent : sent_of transmissions (packets_of (ts ++ us)) ++ k.2 ≡ sent_of transmissions (packets_of ts) ++ ds = ap (λ ys. ys ++ k.2) (all_sent transmissions ts us) ∙ append_assoc (sent_of transmissions (packets_of ts)) (sent_of transmissions (packets_of us)) k.2 in
      let moments : moments_of (ts ++ us) ++ k.1.moment ∷ [] ≡ moments_of ts ++ ms = ap (λ ys. ys ++ k.1.moment ∷ []) (more_moments ts us) ∙ append_assoc (moments_of ts) (moments_of us) (k.1.moment ∷ []) in (
        ts ++ us,
        k.1,
        k.2,
        k.3,
        omega (arith, length-append ts us),
        turns_on hears gives ports ts us a b k.3 h.2 k.5,
        k.6,
        subst (λ (rs : List Reception). Passes s u rs (sent_of transmissions (packets_of (ts ++ us)) ++ k.2)) (sym received)
            (subst (λ (ds : List A). Passes s u (received_of ts ++ rs) ds) (sym sent) passed),
        subst (λ (ms : List ℕ). TellsMoments tells r r'' ms) (sym moments) (tells_on tells r r' r'' (moments_of ts) ms h.4 k.8),
      )

  pub ends_more : (here m total : ℕ) (there : Ways A) (s t u : Option (TrafficOf A)) (r r' r'' : K) (f : RunFault) (a b c : C) (x : Report) → here ≡ ports → there ≡ transmissions → m + 1 ≤ total → RunsBy hears gives tells ports transmissions m s t r r' a b x → EndsEarlyBy hears hear_out_of_memory gives next_out_of_memory tells here there 1 t u r' r'' f b c → EndsEarlyBy hears hear_out_of_memory gives next_out_of_memory tells ports transmissions total s u r r'' f a c
  ends_more here m total there s t u r r' r'' f a b c x e w few h k =
      let k' : EndsEarlyBy hears hear_out_of_memory gives next_out_of_memory tells ports transmissions 1 t u r' r'' f b c = subst (λ v. EndsEarlyBy hears hear_out_of_memory gives next_out_of_memory tells ports v 1 t u r' r'' f b c) w (subst (λ n. EndsEarlyBy hears hear_out_of_memory gives next_out_of_memory tells n there 1 t u r' r'' f b c) e k) in
      ends_on m 1 total s t u r r' r'' f a b c x few h k'
