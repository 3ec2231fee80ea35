-- What passes at the remotes of a port, one after another.
use Rattle.std.proofs.Common.{◌≡◌, ◌<◌, ◌+◌, ℕ, zero, suc, Bool, true, false, not, cond, List, [], ◌∷◌, ◌++◌, Option, Some, None, Result, Ok, Err, length, filter, map, refl, sym, ap, ◌∙◌, subst, append_assoc, append-nil, length-append, add-one, arith, eq-eqb}
use Rattle.std.specs.Prelude.{OnErr, OnOk, ◌&&◌, ◌==◌, if◌then◌else◌}
use Rattle.std.specs.List.{range_with_len}
use Rattle.std.proofs.lemmas.Bool.{ne_eqb}
use Rattle.std.proofs.lemmas.List.{map-append}
use Rattle.std.proofs.lemmas.List.Elements.{filter-append}
use Rattle.ipx_ethernet.specs.declared.egress.Egress.{Egress}
use Rattle.ipx_ethernet.specs.SwitchEnds.{is_way_to}
use Rattle.ipx_carrier.specs.Counting.{raised}
use Rattle.ipx_carrier.specs.DriverTurns.{SendsEach}
use Rattle.ipx_carrier.proofs.DriverStates.{sends_one_more}
use Rattle.ipx_ethernet_ports.specs.EndTraffic.{EndFrame, EndTraffic, EndsPass, failures_counted, frame_at, raised_times}
use Rattle.ipx_ethernet_ports.specs.OnEthernet.{ReachesEnds, ends_on, frames_to}

-- ---- what passes, one after another

abbrev more : EndTraffic → List EndFrame → List EndFrame → EndTraffic
more t came went = record { came = t.came ++ came; went = t.went ++ went }

more_twice : (t : EndTraffic) (cs cs' ws ws' : List EndFrame) → more (more t cs ws) cs' ws' ≡ more t (cs ++ cs') (ws ++ ws')
more_twice t cs cs' ws ws' = simp append_assoc

nothing_more : (t : EndTraffic) → more t [] [] ≡ t
nothing_more t = simp append-nil

pub pass_nothing : (a b : Option EndTraffic) → b ≡ a → EndsPass a b [] []
pass_nothing None b e = tt
pass_nothing (Some t) b e = e ∙ ap Some (sym (nothing_more t))

pub pass_on : (a b c : Option EndTraffic) (cs cs' ws ws' : List EndFrame) → EndsPass a b cs ws → EndsPass b c cs' ws' → EndsPass a c (cs ++ cs') (ws ++ ws')
pass_on None b c cs cs' ws ws' h k = tt
pass_on (Some t) b c cs cs' ws ws' h k =
    let k' : c ≡ Some (more (more t cs ws) cs' ws') = subst (λ (b : Option EndTraffic). EndsPass b c cs' ws') h k in
    k' ∙ ap Some (more_twice t cs cs' ws ws')

-- ---- the remotes that an egress names, and one more

range_more : (a n j : ℕ) → a + n ≡ j → range_with_len a (suc n) ≡ range_with_len a n ++ j ∷ []
range_more a zero j e = let same : a ≡ j = omega (arith, e) in ap (λ (x : ℕ). x ∷ []) same
range_more a (suc n) j e = ap (λ (xs : List ℕ). a ∷ xs) (range_more (a + 1) n j (omega (arith, e)))

same_filter : (p q : ℕ → Bool) (a n : ℕ) → ((e : ℕ) → e < a + n → p e ≡ q e) → filter p (range_with_len a n) ≡ filter q (range_with_len a n)
same_filter p q a zero h = refl
same_filter p q a (suc n) h =
    let rest : filter p (range_with_len (a + 1) n) ≡ filter q (range_with_len (a + 1) n) = same_filter p q (a + 1) n (λ e lt. h e (omega (arith, lt))) in
    let here : p a ≡ q a = h a (omega arith) in
    ap (λ (b : Bool). cond b (a ∷ filter p (range_with_len (a + 1) n)) (filter p (range_with_len (a + 1) n))) here
    ∙ ap (λ (xs : List ℕ). cond (q a) (a ∷ xs) xs) rest

abbrev one_end : Bool → ℕ → List ℕ
one_end b n = cond b (n ∷ []) []

ends_more : (way : Egress) (test test' : ℕ → Bool) (n : ℕ) (b : Bool) → ((e : ℕ) → e < n → test' e ≡ test e) → test' n ≡ b
    → ends_on way test' (n + 1) ≡ ends_on way test n ++ one_end (is_way_to way n && b) n
ends_more way test test' n b below here =
    let p : ℕ → Bool = λ e. is_way_to way e && test' e in
    let q : ℕ → Bool = λ e. is_way_to way e && test e in
    let before : filter p (range_with_len 0 n) ≡ filter q (range_with_len 0 n) = same_filter p q 0 n (λ e lt. ap (λ (t : Bool). is_way_to way e && t) (below e (omega (arith, lt)))) in
    let longer : range_with_len 0 (n + 1) ≡ range_with_len 0 n ++ n ∷ [] = ap (range_with_len 0) (add-one n) ∙ range_more 0 n n (omega arith) in
    ap (filter p) longer ∙ filter-append p (range_with_len 0 n) (n ∷ [])
    ∙ ap (λ (xs : List ℕ). xs ++ filter p (n ∷ [])) before
    ∙ ap (λ (t : Bool). filter q (range_with_len 0 n) ++ one_end (is_way_to way n && t) n) here

-- a test that differs at one number
abbrev at_end : (ℕ → Bool) → ℕ → Bool → ℕ → Bool
at_end takes n b e = if e == n then b else takes e

other_end : (e n : ℕ) → e < n → (e == n) ≡ false
other_end e n lt = ne_eqb e n (λ is. let less : e < n = lt in let same : e ≡ n = is in omega arith)

below_end : (takes : ℕ → Bool) (n : ℕ) (b : Bool) (e : ℕ) → e < n → at_end takes n b e ≡ takes e
below_end takes n b e lt = ap (λ (t : Bool). cond t b (takes e)) (other_end e n lt)

end_itself : (takes : ℕ → Bool) (n : ℕ) (b : Bool) → at_end takes n b n ≡ b
end_itself takes n b = ap (λ (t : Bool). cond t b (takes n)) (eq-eqb n n refl)

taken_more : (way : Egress) (takes : ℕ → Bool) (n : ℕ) (b : Bool) → ends_on way (at_end takes n b) (n + 1) ≡ ends_on way takes n ++ one_end (is_way_to way n && b) n
taken_more way takes n b =
    ends_more way takes (at_end takes n b) n b (below_end takes n b) (end_itself takes n b)

lost_more : (way : Egress) (takes : ℕ → Bool) (n : ℕ) (b : Bool) → ends_on way (λ e. not (at_end takes n b e)) (n + 1) ≡ ends_on way (λ e. not (takes e)) n ++ one_end (is_way_to way n && not b) n
lost_more way takes n b =
    ends_more way (λ e. not (takes e)) (λ e. not (at_end takes n b e)) n (not b) (λ e lt. ap not (below_end takes n b e lt)) (ap not (end_itself takes n b))

-- ---- a frame that was sent to some of the remotes, and then to one more or not

pub reaches_none : (way : Egress) (port : ℕ) (bytes : List ℕ) (s t : Option EndTraffic) (f g : ℕ) → t ≡ s → g ≡ f → ReachesEnds way 0 port bytes [] s t f g
reaches_none way port bytes s t f g e k =
    record { takes = λ e. true; went = pass_nothing s t e; failures = k }

raised_on : (k m f : ℕ) → raised_times k (raised_times m f) ≡ raised_times (m + k) f
raised_on zero m f = let same : m ≡ m + 0 = omega arith in ap (λ (x : ℕ). raised_times x f) same
raised_on (suc k) m f =
    let same : suc (m + k) ≡ m + suc k = omega arith in
    ap raised (raised_on k m f) ∙ ap (λ (x : ℕ). raised_times x f) same

-- one remote more, which took it or failed, or which the egress does not name
step : (way : Egress) (n port : ℕ) (bytes : List ℕ) (s t u : Option EndTraffic) (f g i : ℕ) (b reach lose : Bool) → ReachesEnds way n port bytes [] s t f g
    → (is_way_to way n && b) ≡ reach → (is_way_to way n && not b) ≡ lose
    → EndsPass t u [] (map (frame_at port bytes) (one_end reach n)) → i ≡ raised_times (length (one_end lose n)) g
    → ReachesEnds way (n + 1) port bytes [] s u f i
step way n port bytes s t u f g i b reach lose r is_reach is_lose passes counts =
    let takes : ℕ → Bool = r.takes in
    let had : List ℕ = ends_on way takes n in
    let left : List ℕ = ends_on way (λ e. not (takes e)) n in
    let frames : List ℕ → List EndFrame = map (frame_at port bytes) in
    let taken : ends_on way (at_end takes n b) (n + 1) ≡ had ++ one_end reach n =
    taken_more way takes n b ∙ ap (λ (t : Bool). had ++ one_end t n) is_reach in
    let lost : ends_on way (λ e. not (at_end takes n b e)) (n + 1) ≡ left ++ one_end lose n =
    lost_more way takes n b ∙ ap (λ (t : Bool). left ++ one_end t n) is_lose in
    let both : EndsPass s u [] (frames had ++ frames (one_end reach n)) =
    pass_on s t u [] [] (frames had) (frames (one_end reach n)) r.went passes in
    let all : frames (ends_on way (at_end takes n b) (n + 1)) ≡ frames had ++ frames (one_end reach n) =
    ap frames taken ∙ map-append (frame_at port bytes) had (one_end reach n) in
    let count : i ≡ raised_times (length left + length (one_end lose n)) f =
    counts ∙ ap (raised_times (length (one_end lose n))) r.failures ∙ raised_on (length (one_end lose n)) (length left) f in
    record {
      takes = at_end takes n b;
      went = subst (λ (ws : List EndFrame). EndsPass s u [] ws) (sym all) both;
      failures = count ∙ ap (λ (k : ℕ). raised_times k f) (sym (length-append left (one_end lose n))) ∙ ap (λ (xs : List ℕ). raised_times (length xs) f) (sym lost);
    }

pub reaches_past : (way : Egress) (n port : ℕ) (bytes : List ℕ) (s t : Option EndTraffic) (f g : ℕ) → is_way_to way n ≡ false → ReachesEnds way n port bytes [] s t f g → ReachesEnds way (n + 1) port bytes [] s t f g
reaches_past way n port bytes s t f g past r =
    step way n port bytes s t t f g g true false false r (ap (λ (w : Bool). w && true) past) (ap (λ (w : Bool). w && false) past) (pass_nothing t t refl) refl

pub reaches_sent : {T E : Type 0} (sent : Result T E) (way : Egress) (n port : ℕ) (bytes : List ℕ) (s t u : Option EndTraffic) (f g i : ℕ) → is_way_to way n ≡ true → ReachesEnds way n port bytes [] s t f g
    → OnOk sent (EndsPass t u [] (frame_at port bytes n ∷ [])) → OnErr sent (u ≡ t) → i ≡ failures_counted sent g → ReachesEnds way (n + 1) port bytes [] s u f i
reaches_sent (Ok x) way n port bytes s t u f g i named r went none counted =
    step way n port bytes s t u f g i true true false r (ap (λ (w : Bool). w && true) named) (ap (λ (w : Bool). w && false) named) went counted
reaches_sent (Err e) way n port bytes s t u f g i named r went none counted =
    step way n port bytes s t u f g i false false true r (ap (λ (w : Bool). w && false) named) (ap (λ (w : Bool). w && true) named) (pass_nothing t u none) counted

-- the same if something came before
pub reaches_after : (way : Egress) (n port : ℕ) (bytes : List ℕ) (came : List EndFrame) (s t u : Option EndTraffic) (f g : ℕ) → EndsPass s t came [] → ReachesEnds way n port bytes [] t u f g → ReachesEnds way n port bytes came s u f g
reaches_after way n port bytes came s t u f g first r =
    let went : List EndFrame = map (frame_at port bytes) (ends_on way r.takes n) in
    let both : EndsPass s u (came ++ []) went = pass_on s t u came [] [] went first r.went in
    record {
      takes = r.takes;
      went = subst (λ (cs : List EndFrame). EndsPass s u cs went) (append-nil came) both;
      failures = r.failures;
    }

-- ---- frames that are handed to sockets, one after another

and_true : (b : Bool) → (b && true) ≡ b
and_true true = refl
and_true false = refl

module _ {S : Type 0} (sends : S → EndFrame → S → Type 0) where
  -- the frames for the remotes so far, and for one more if the egress names it
  frames_more : (way : Egress) (n port : ℕ) (bytes : List ℕ) (named : Bool) → is_way_to way n ≡ named
      → frames_to way (n + 1) port bytes ≡ frames_to way n port bytes ++ map (frame_at port bytes) (one_end named n)
  frames_more way n port bytes named is =
      let both : (is_way_to way n && true) ≡ named = ap (λ (b : Bool). b && true) is ∙ and_true named in
      ap (map (frame_at port bytes)) (ends_more way (λ e. true) (λ e. true) n true (λ e lt. refl) refl ∙ ap (λ (b : Bool). ends_on way (λ e. true) n ++ one_end b n) both)
      ∙ map-append (frame_at port bytes) (ends_on way (λ e. true) n) (one_end named n)

  pub hands_past : (way : Egress) (n port : ℕ) (bytes : List ℕ) (x y : S) → is_way_to way n ≡ false → SendsEach sends (frames_to way n port bytes) x y → SendsEach sends (frames_to way (n + 1) port bytes) x y
  hands_past way n port bytes x y past h =
      subst (λ (fs : List EndFrame). SendsEach sends fs x y) (sym (frames_more way n port bytes false past ∙ append-nil (frames_to way n port bytes))) h

  pub hands_one : (way : Egress) (n port : ℕ) (bytes : List ℕ) (x y z : S) → is_way_to way n ≡ true → SendsEach sends (frames_to way n port bytes) x y → sends y (frame_at port bytes n) z
      → SendsEach sends (frames_to way (n + 1) port bytes) x z
  hands_one way n port bytes x y z named h k =
      subst (λ (fs : List EndFrame). SendsEach sends fs x z) (sym (frames_more way n port bytes true named))
      (sends_one_more sends (frames_to way n port bytes) (frame_at port bytes n) x y z h k)
