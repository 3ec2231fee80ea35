-- The ports of a device, asked one after another.
use Rattle.std.proofs.Common.{◌≡◌, ◌<◌, ℕ, ◌+◌, Bool, List, [], ◌∷◌, ◌++◌, length, Option, Some, is_some, refl, sym, ap, ◌∙◌, subst, arith, cond, length-append}
use Rattle.ipx_carrier.specs.declared.fault.RunFault.{RunFault}
use Rattle.ipx_carrier.specs.declared.fault.RunFault.TheVariants.{OutOfMemory}
use Rattle.ipx_carrier.specs.Device.{Passes, Reception, TrafficOf}
use Rattle.ipx_carrier.specs.Turns.{FailsAtPort, HearsAnswer, HearsEach}
use Rattle.ipx_carrier.specs.Counts.{heard_in}
use Rattle.ipx_carrier.specs.Parts.{PollFails, AsksPort, AsksPorts, AsksSomePorts}
use Rattle.ipx_carrier.proofs.Passing.{count-append, passes_nothing, passes_received}

abbrev Hears : Type 0 → Type 1
Hears C = C → ℕ → List ℕ → ℕ → C → Type 0

pub hears_more : {C : Type 0} (hears : Hears C) (now port : ℕ) (rs : List Reception) (a b c : C) (bytes : Option (List ℕ)) (last : ℕ) → HearsEach hears now port rs a b → last ≡ port + length rs → HearsAnswer hears now last bytes b c → HearsEach hears now port (rs ++ record { port = last; bytes = bytes } ∷ []) a c
hears_more hears now port [] a b c bytes last h e k =
    let here : last ≡ port = omega arith in
    (c, here, subst (λ p. HearsAnswer hears now p bytes a c) here (subst (λ d. HearsAnswer hears now last bytes d c) h k), refl)
hears_more hears now port (r ∷ rs) a b c bytes last h e k =
    (h.0, h.1, h.2, hears_more hears now (port + 1) rs h.0 b c bytes last h.3 (omega arith) k)

pub asked_none : {C A : Type 0} (hears : Hears C) (now : ℕ) (t : Option (TrafficOf A)) (c : C) → AsksPorts hears now 0 t t c c 0
asked_none hears now t c = ([], refl, passes_nothing t t refl, refl, refl)

pub heard_more : (rs : List Reception) (port : ℕ) (bytes : Option (List ℕ)) → heard_in (rs ++ record { port = port; bytes = bytes } ∷ []) ≡ heard_in rs + cond (is_some bytes) 1 0
heard_more rs port bytes =
    let r : List Reception = record { port = port; bytes = bytes } ∷ [] in
    omega (arith, count-append (λ (x : Reception). is_some x.bytes) rs r)

pub asked_more : {C S A : Type 0} (hears : Hears C) (receives : S → ℕ → ℕ → Option (List ℕ) → S → Type 0) (now size port : ℕ) (s t u : Option (TrafficOf A)) (x y : S) (a b c : C) (count more : ℕ) (heard : Bool) → AsksPorts hears now port s t a b count → AsksPort hears receives now size port t u x y b c heard → more ≡ count + cond heard 1 0 → AsksPorts hears now (port + 1) s u a c more
asked_more hears receives now size port s t u x y a b c count more heard h k e =
    let rs = h.0 in
    let r : List Reception = record { port = port; bytes = k.0 } ∷ [] in
    let is : heard ≡ is_some k.0 = k.3 in
    let long : length rs ≡ port = h.1 in
    let counted : count ≡ heard_in rs = h.4 in (
      rs ++ r,
      omega (arith, length-append rs r),
      passes_received s t u rs r h.2 k.1,
      hears_more hears now 0 rs a b c k.0 port h.3 (omega arith) k.2,
      e ∙ ap (λ b. count + cond b 1 0) is ∙ ap (λ n. n + cond (is_some k.0) 1 0) counted ∙ sym (heard_more rs port k.0),
    )

pub asked_some : {C S A : Type 0} (hears hear_out_of_memory : Hears C) (receives : S → ℕ → ℕ → Option (List ℕ) → S → Type 0) (fails_to_receive : S → ℕ → ℕ → S → Type 0) (now size port ports : ℕ) (s t u : Option (TrafficOf A)) (x y : S) (a b c : C) (count : ℕ) (f : RunFault) → AsksPorts hears now port s t a b count → PollFails hear_out_of_memory receives fails_to_receive now size port t u f x y b c → port < ports → AsksSomePorts hears hear_out_of_memory now ports s u f a c
asked_some hears hear_out_of_memory receives fails_to_receive now size port ports s t u x y a b c count f h k e =
    let long : length h.0 ≡ port = h.1 in
    (h.0, k.0, b, omega arith, passes_received s t u h.0 k.0 h.2 k.1, h.3, subst (λ n. FailsAtPort hear_out_of_memory now n k.0 f b c) (sym long) k.2)

-- a port gave something, and the core ran out of memory for it
pub poll_out_of_memory : {C S A : Type 0} (hear_out_of_memory : Hears C) (receives : S → ℕ → ℕ → Option (List ℕ) → S → Type 0) (fails_to_receive : S → ℕ → ℕ → S → Type 0) (now size port : ℕ) (bytes : List ℕ) (t u : Option (TrafficOf A)) (x y : S) (a b : C)
    → Passes t u (record { port = port; bytes = Some bytes } ∷ []) [] → receives x port size (Some bytes) y → hear_out_of_memory a port bytes now b → PollFails hear_out_of_memory receives fails_to_receive now size port t u OutOfMemory x y a b
poll_out_of_memory hear_out_of_memory receives fails_to_receive now size port bytes t u x y a b passes gave lost =
    (record { port = port; bytes = Some bytes } ∷ [], passes, (bytes, refl, lost), y, (y, gave, refl), refl)
