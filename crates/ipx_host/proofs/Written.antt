-- What a writer took of what was left, one part after another.
use Rattle.std.proofs.Common.{◌≡◌, ◌↔◌, ◌||◌, Bool, true, false, inl, inr, ℕ, ◌+◌, ◌-◌, ◌<◌, ◌≤◌, List, [], ◌++◌, length, take, drop, length-append, length-drop, length-take, Option, Some, None, refl, sym, ap, ◌∙◌, subst, arith, append_assoc, take-append-drop}
use Rattle.std.proofs.lemmas.List.{append-nil, nil_from_length, drop-drop, drop_all, take-take, take_rest}
use Rattle.std.proofs.lemmas.Bool.{cases_lt}
use Rattle.std.specs.Prelude.{IsTrue}
use Rattle.std.specs.Io.KnownBytes.{Appends}
use Rattle.ipx_host.specs.HostOutput.{Writes}

appends_on : (a b c : Option (List ℕ)) (bs cs : List ℕ) → Appends a b bs → Appends b c cs → Appends a c (bs ++ cs)
appends_on None b c bs cs p q = tt
appends_on (Some x) None c bs cs p q = absurd p
appends_on (Some x) (Some y) None bs cs p q = absurd q
appends_on (Some x) (Some y) (Some z) bs cs p q = q ∙ ap (λ l. l ++ cs) p ∙ append_assoc x bs cs

pub writes_on : (x y z : List ℕ) (a b c : Option (List ℕ)) → Writes x y a b → Writes y z b c → Writes x z a c
writes_on x y z a b c p q =
    (p.0 ++ q.0, p.1 ∙ ap (λ l. p.0 ++ l) q.1 ∙ sym (append_assoc p.0 q.0 z), appends_on a b c p.0 q.0 p.2 q.2)

-- the writer took the first bytes of a piece of what is left, which is unchanged in memory
pub writes_piece : (bytes memory : List ℕ) (written most count : ℕ) (a b : Option (List ℕ)) → memory ≡ bytes
    → count ≤ length (take most (take (length memory - written) (drop written memory)))
    → Appends a b (take count (take most (take (length memory - written) (drop written memory)))) → Writes (drop written bytes) (drop (written + count) bytes) a b
writes_piece bytes memory written most count a b same fits took =
    let rest = drop written memory in
    let all : take (length memory - written) rest ≡ rest = take_rest memory written in
    let fit : count ≤ length (take most rest) = subst (λ (l : List ℕ). count ≤ length (take most l)) all fits in
    let within : count ≤ most = omega (arith, fit, length-take most rest) in
    let is : take count (take most (take (length memory - written) rest)) ≡ take count (drop written bytes) =
    ap (λ (l : List ℕ). take count (take most l)) all ∙ take-take count most rest within ∙ ap (λ (l : List ℕ). take count (drop written l)) same in (
      take count (drop written bytes),
      sym (take-append-drop count (drop written bytes)) ∙ ap (λ l. take count (drop written bytes) ++ l) (drop-drop count written bytes),
      subst (Appends a b) is took,
    )

-- nothing is left exactly if everything is written
pub left_none : (written : ℕ) (bytes : List ℕ) → written ≤ length bytes → (written ≡ length bytes) ↔ (drop written bytes ≡ [])
left_none written bytes h =
    (λ e. drop_all written bytes (omega arith), λ e. omega (arith, h, length-drop written bytes, ap length e))

-- nothing is added to what is left
pub writes_less : (x y : List ℕ) (a b : Option (List ℕ)) → Writes x y a b → length y ≤ length x
writes_less x y a b wrote = omega (arith, ap length wrote.1, length-append wrote.0 y)

-- something was written before, or now
pub wrote_on : (v w : Bool) (before now after : ℕ) → now ≤ before → after ≤ now → IsTrue v ↔ (now < before) → IsTrue w ↔ (after < now) → IsTrue (v || w) ↔ (after < before)
wrote_on true w before now after p q first second = (λ t. omega (arith, q, first.0 refl), λ h. refl)
wrote_on false true before now after p q first second = (λ t. omega (arith, p, second.0 refl), λ h. refl)
wrote_on false false before now after p q first second = (
  λ t. absurd (cc),
  λ h. elim (cases_lt now before) [ inl less ↦ first.1 less | inr same ↦ second.1 (omega (arith, same, h)) ],
)

-- nothing is written
pub writes_none : (x : List ℕ) (a : Option (List ℕ)) → Writes x x a a
writes_none x None = ([], refl, tt)
writes_none x (Some w) = ([], refl, sym (append-nil w))

-- if nothing was left, nothing is left
pub writes_nothing : (x y : List ℕ) (a b : Option (List ℕ)) → Writes x y a b → x ≡ [] → y ≡ []
writes_nothing x y a b wrote none =
    nil_from_length y (omega (arith, ap length wrote.1, length-append wrote.0 y, ap length none))
