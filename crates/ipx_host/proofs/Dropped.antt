-- What a sending host drops of what it received.
use Rattle.std.proofs.Common.{◌≡◌, ◌≢◌, ◌∙◌, ◌⊎◌, ◌+◌, ◌<◌, ℕ, suc, Bool, true, false, List, [], ◌∷◌, Option, Some, None, Result, Ok, Err, inl, inr, refl, sym, ap, subst, arith}
use Rattle.std.specs.Prelude.{IfSome}
use Rattle.spx_link.specs.declared.unit.Unit.{Unit as Piece}
use Rattle.spx_link.specs.LinkView.{is_end}
use Rattle.spx_link.specs.Offer.{first_of as first_held}
use Rattle.spx_messages.specs.Joining.{is_overlong}
use Rattle.spx_messages.specs.Changes.{ChangesEnd, SameBut}
use Rattle.spx_messages.specs.EndpointView.{EndpointView, Held, held_at}
use Rattle.spx_messages.specs.Taking.{IsPushed, Nothing, Part, PeerEnd, TakenView, Whole, joins_on, overlong, overrun, result_view, take_end, taken_held, takes_data, takes_first}
use Rattle.spx_messages.specs.declared.fault.EndFault.{EndFault}
use Rattle.spx_messages.specs.declared.taken.Taken.{Taken}
use Rattle.spx_messages.specs.declared.taken.Taken.TheVariants as Takens
use Rattle.ipx_host.specs.Dropping.{DropsFrom, StopsAt}
use Rattle.ipx_host.specs.Feeding.{KeepsQueue}
use Rattle.ipx_host.specs.Passing.{held_after}
use Rattle.ipx_host.proofs.Fed.{either_one, for_memory, no_memory}

-- ---- one take

-- what a take gives, by what is held: nothing if nothing is held, otherwise something, or that a message is
-- too long
abbrev pub IsGiven : List Piece → Result TakenView EndFault → Type 0
IsGiven [] r = r ≡ Ok Nothing
IsGiven (u ∷ us) r = (r ≡ Err overlong) ⊎ ((t : TakenView) × (r ≡ Ok t) × (t ≢ Nothing))

pub given_first : (h : Held) (us : List Piece) → IsGiven us (takes_first h (first_held us)).0
given_first h [] = refl
given_first h (u ∷ us) =
    let P : (Result TakenView EndFault × Held) → Type 0 = λ x. (x.0 ≡ Err overlong) ⊎ ((t : TakenView) × (x.0 ≡ Ok t) × (t ≢ Nothing)) in
    let joined : P (joins_on h u) = either_one P u.last _ _ (inr (Whole _, refl, λ e. cc)) (inr (Part, refl, λ e. cc)) in
    let given : P (takes_data h u) = either_one P (is_overlong h.rest u) (Err overlong, overrun h) (joins_on h u) (inl refl) joined in
    either_one P (is_end u) (Ok PeerEnd, taken_held h) (takes_data h u) (inr (PeerEnd, refl, λ e. cc)) given

-- so nothing is taken only if nothing is held
none_held : (us : List Piece) (r : Result TakenView EndFault) → IsGiven us r → r ≡ Ok Nothing → us ≡ []
none_held [] r given is = refl
none_held (u ∷ us) r (inl e) is = absurd (cc)
none_held (u ∷ us) r (inr (t, e, some)) is =
    let same : t ≡ Nothing = (let it : ◌≡◌ {A = Result TakenView EndFault} (Ok t) (Ok Nothing) = sym e ∙ is in cc) in
    absurd (some same)

-- and something only if something is held
some_held : (us : List Piece) (r : Result TakenView EndFault) → IsGiven us r → (r ≡ Ok Nothing → ⊥) → us ≢ []
some_held [] r given other = λ e. other given
some_held (u ∷ us) r given other = λ e. cc

-- a fault is that of a message that is too long
pub fault_of : (us : List Piece) (r : Result TakenView EndFault) (f : EndFault) → IsGiven us r → r ≡ Err f → r ≡ Err overlong
fault_of [] r f given is = absurd (cc)
fault_of (u ∷ us) r f (inl e) is = e
fault_of (u ∷ us) r f (inr (t, e, some)) is = absurd (cc)

abbrev pub Takes : EndpointView → EndpointView → ℕ → Result Taken EndFault → Option Held → Type 0
Takes old new id r o = IfSome o (λ h. r ≢ Err no_memory → (result_view r ≡ (take_end h).0) × ChangesEnd old new id (take_end h).1)

abbrev pub Refuses : EndpointView → EndpointView → Result Taken EndFault → Option Held → Type 0
Refuses old new r o = IfSome o (λ h. r ≡ Err no_memory → IsPushed h × SameBut old new)

-- what is taken is removed
drops_at : (old new : EndpointView) (id : ℕ) (t : Taken) (o : Option Held) → t ≢ Takens.Nothing → Takes old new id (Ok t) o
    → IfSome o (λ h. (h.link.held ≢ []) × (held_at new id ≡ Some (take_end h).1))
drops_at old new id t None some takes = tt
drops_at old new id t (Some h) some takes =
    let change = takes (λ e. cc) in
    let other : (take_end h).0 ≡ Ok Nothing → ⊥ = λ e. is_something t some (change.0 ∙ e) in
    (some_held h.link.held (take_end h).0 (given_first h h.link.held) other, change.1.held)
  where
    is_something : (t : Taken) → t ≢ Takens.Nothing → ◌≡◌ {A = Result TakenView EndFault} (result_view (Ok t)) (Ok Nothing) → ⊥
    is_something Takens.Nothing some is = some refl
    is_something Takens.Part some is = cc
    is_something (Takens.Whole m) some is = cc
    is_something Takens.PeerEnd some is = cc

-- what is not taken remains, or is lost with its link
stops_none : (old new : EndpointView) (id : ℕ) (o : Option Held) → Takes old new id (Ok Takens.Nothing) o → IfSome o (λ h. StopsAt h (held_at new id))
stops_none old new id None takes = tt
stops_none old new id (Some h) takes =
    let change = takes (λ e. cc) in
    let none : h.link.held ≡ [] = none_held h.link.held (take_end h).0 (given_first h h.link.held) (sym change.0) in
    let same : (take_end h).1 ≡ h = ap (λ us. (takes_first h (first_held us)).1) none in
    inl (none, change.1.held ∙ ap (λ (k : Held). Some k) same)

stops_fault : (old new : EndpointView) (id : ℕ) (f : EndFault) (o : Option Held) → held_at old id ≡ o → Takes old new id (Err f) o → Refuses old new (Err f) o → IfSome o (λ h. StopsAt h (held_at new id))
stops_fault old new id f None at takes refuses = tt
stops_fault old new id f (Some h) at takes refuses =
    elim (for_memory (Err f)) [
      | inl e ↦ let no = refuses e in inr (inl (no.0, no.1.held id ∙ at))
      | inr e ↦ let change = takes e in inr (inr (fault_of h.link.held (take_end h).0 f (given_first h h.link.held) (sym change.0), change.1.held))
    ]

-- by the answer of a take: whether it took something
abbrev pub took_some : Result Taken EndFault → Bool
took_some (Ok Takens.Nothing) = false
took_some (Ok Takens.Part) = true
took_some (Ok (Takens.Whole m)) = true
took_some (Ok Takens.PeerEnd) = true
took_some (Err f) = false

pub drops : (old new : EndpointView) (id : ℕ) (r : Result Taken EndFault) (b : Bool) → b ≡ took_some r → Takes old new id r (held_at old id)
    → IfSome (held_at old id) (λ h. b ≡ true → (h.link.held ≢ []) × (held_at new id ≡ Some (take_end h).1))
drops old new id r b is takes = drops_of r (held_at old id) is takes
  where
    when : (o : Option Held) → IfSome o (λ h. (h.link.held ≢ []) × (held_at new id ≡ Some (take_end h).1))
        → IfSome o (λ h. b ≡ true → (h.link.held ≢ []) × (held_at new id ≡ Some (take_end h).1))
    when None it = tt
    when (Some h) it = λ so. it

    never : (o : Option Held) → b ≡ false → IfSome o (λ h. b ≡ true → (h.link.held ≢ []) × (held_at new id ≡ Some (take_end h).1))
    never None not = tt
    never (Some h) not = λ so. absurd (cc)

    drops_of : (r : Result Taken EndFault) (o : Option Held) → b ≡ took_some r → Takes old new id r o
        → IfSome o (λ h. b ≡ true → (h.link.held ≢ []) × (held_at new id ≡ Some (take_end h).1))
    drops_of (Ok Takens.Nothing) o is takes = never o is
    drops_of (Ok Takens.Part) o is takes = when o (drops_at old new id Takens.Part o (λ e. cc) takes)
    drops_of (Ok (Takens.Whole m)) o is takes = when o (drops_at old new id (Takens.Whole m) o (λ e. cc) takes)
    drops_of (Ok Takens.PeerEnd) o is takes = when o (drops_at old new id Takens.PeerEnd o (λ e. cc) takes)
    drops_of (Err f) o is takes = never o is

pub stops : (old new : EndpointView) (id : ℕ) (r : Result Taken EndFault) (b : Bool) → b ≡ took_some r → Takes old new id r (held_at old id) → Refuses old new r (held_at old id)
    → IfSome (held_at old id) (λ h. b ≡ false → StopsAt h (held_at new id))
stops old new id r b is takes refuses = stops_of r (held_at old id) is refl takes refuses
  where
    when : (o : Option Held) → IfSome o (λ h. StopsAt h (held_at new id)) → IfSome o (λ h. b ≡ false → StopsAt h (held_at new id))
    when None it = tt
    when (Some h) it = λ not. it

    never : (o : Option Held) → b ≡ true → IfSome o (λ h. b ≡ false → StopsAt h (held_at new id))
    never None so = tt
    never (Some h) so = λ not. absurd (cc)

    stops_of : (r : Result Taken EndFault) (o : Option Held) → b ≡ took_some r → held_at old id ≡ o → Takes old new id r o → Refuses old new r o
        → IfSome o (λ h. b ≡ false → StopsAt h (held_at new id))
    stops_of (Ok Takens.Nothing) o is at takes refuses = when o (stops_none old new id o takes)
    stops_of (Ok Takens.Part) o is at takes refuses = never o is
    stops_of (Ok (Takens.Whole m)) o is at takes refuses = never o is
    stops_of (Ok Takens.PeerEnd) o is at takes refuses = never o is
    stops_of (Err f) o is at takes refuses = when o (stops_fault old new id f o at takes refuses)

-- ---- one after another

-- what is held after so many
abbrev pub SoFar : ℕ → Option Held → Option Held → Type 0
SoFar n None after = after ≡ None
SoFar n (Some h) after = after ≡ Some (held_after n h)

pub so_far : (o : Option Held) → SoFar 0 o o
so_far None = refl
so_far (Some h) = refl

pub one_more : (n m : ℕ) (o a b : Option Held) (more : Bool) → m ≡ n + 1 → more ≡ true → SoFar n o a
    → IfSome a (λ h. more ≡ true → (h.link.held ≢ []) × (b ≡ Some (take_end h).1)) → (a ≡ None → more ≡ false) → SoFar m o b
one_more n m None a b more next on so takes none = absurd (let off = none so in cc)
one_more n m (Some h) a b more next on so takes none =
    let d = subst (λ (x : Option Held). IfSome x (λ k. more ≡ true → (k.link.held ≢ []) × (b ≡ Some (take_end k).1))) so takes in
    let is : suc n ≡ m = omega arith in
    subst (λ k. b ≡ Some (held_after k h)) is (d on).1

kept_none : (b : Option Held) → KeepsQueue None b → b ≡ None
kept_none None k = refl
kept_none (Some h) k = absurd k

pub no_more : (n : ℕ) (o a b : Option Held) (more : Bool) → n < 65535 → more ≡ false → SoFar n o a
    → IfSome a (λ h. more ≡ false → StopsAt h b) → KeepsQueue a b → DropsFrom 65535 o b
no_more n None a b more few off so ends kept = kept_none b (subst (λ (x : Option Held). KeepsQueue x b) so kept)
no_more n (Some h) a b more few off so ends kept =
    let s = subst (λ (x : Option Held). IfSome x (λ k. more ≡ false → StopsAt k b)) so ends in
    (n, inl (few, s off))

pub as_many : (n : ℕ) (o a : Option Held) → n ≡ 65535 → SoFar n o a → DropsFrom 65535 o a
as_many n None a all so = so
as_many n (Some h) a all so = (n, inr (all, so))
