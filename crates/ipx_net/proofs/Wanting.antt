-- A call that makes something needs memory for it.
use Rattle.std.proofs.Common.{ℕ, zero, suc, ◌≡◌, ◌+◌, ◌<◌, ◌++◌, ◌∷◌, inl, inr, List, [], length, set, false, Option, Some, Result, Ok, Err, refl, sym, ◌∙◌, ap, subst, arith}
use Rattle.std.specs.Prelude.{IfOk, IfSome, OnErr, slice_get, vec_capacity, vec_len}
use Rattle.std.specs.Global.{Vec}
use Rattle.std.proofs.lemmas.List.{length-append, length-map}
use Rattle.ipx_wire.specs.declared.memory.OutOfMemory.{OutOfMemory}
use Rattle.spx_link.specs.Offer.{first_of}
use Rattle.spx_link.specs.declared.unit.Unit.{Unit as unit}
use Rattle.spx_messages.specs.Arrives.{IsAcceptable}
use Rattle.spx_messages.specs.EndpointView.{Held, held_at}
use Rattle.spx_messages.specs.Taking.{TakenView}
use Rattle.spx_messages.specs.declared.arrived.Arrived.{Arrived}
use Rattle.spx_messages.specs.declared.fault.EndFault.{EndFault}
use Rattle.ipx_router.specs.RouterPackets.{SendingView, sending_of, sendings}
use Rattle.ipx_router.specs.declared.outcome.Reply.{Reply}
use Rattle.ipx_router.specs.declared.port.Port.{Port}
use Rattle.spx_theory.specs.Note.{Note}
use Rattle.spx_theory.specs.HostSteps.{TakesOf, arrival_notes, unit_notes, whole_notes}
use Rattle.spx_theory.specs.World.{EndNow, ParcelView, HostState}
use Rattle.ipx_net_hosts.specs.Hosts.{DeliveredAt, HostsView, Noting}
use Rattle.ipx_net_hosts.specs.Refusing.{end_held, held_by}
use Rattle.ipx_net.specs.AnswerView.{AnswerView}
use Rattle.ipx_net.specs.StepResultView.{StepResultView, step_result_view}
use Rattle.ipx_net.specs.HostEvents.{DeliversSo}
use Rattle.ipx_net.specs.RouterEvents.{told_growth}
use Rattle.ipx_net.specs.EventMemory.{HostNeedsMemory, IsMade, TakeIsLogged}
use Rattle.ipx_net.specs.declared.step_result.StepResult.{StepResult}
use Rattle.ipx_net.specs.declared.routers.RouterNow.{RouterNow}

-- an answer without entries and parcels makes nothing
pub quiet_is_none : (g : StepResult) (a : AnswerView) → step_result_view g ≡ record { parcels = []; notes = []; answer = a } → IsMade (Ok g) → ⊥
quiet_is_none g a is made =
    let P : StepResultView → Type 0 = λ v. 0 < length v.parcels + length v.notes in
    let none : 0 < 0 = subst P is made in
    omega (arith, none)

-- a call that makes only entries made something if there are some, or was refused if there were to be some
pub made_or_refused : {W : Type 0} (r : Result StepResult OutOfMemory) (notes : List Note) (a : AnswerView) → IfOk r (λ g. step_result_view g ≡ record { parcels = []; notes = notes; answer = a }) → OnErr r (0 < length notes)
    → (0 < length notes → W) → IsMade r → W
made_or_refused (Ok g) notes a is refused wants made =
    let P : StepResultView → Type 0 = λ v. 0 < length v.parcels + length v.notes in
    let some : 0 < 0 + length notes = subst P is made in
    wants (omega (arith, some))
made_or_refused (Err e) notes a is refused wants made = wants refused

-- ---- a take

end_is_held : (stations : List HostState) (ends : List EndNow) (who : ℕ) (e : EndNow) (s : HostState) (h : Held) → slice_get ends who ≡ Some e → e.released ≡ false → slice_get stations e.host ≡ Some s → held_at s.endpoint e.id ≡ Some h
    → end_held stations ends who ≡ Some h
end_is_held stations ends who e s h at standing there holds =
    ap (held_by stations) at ∙ rw (standing, there) holds

pub take_is_told : (old new : HostsView) (now who : ℕ) (t : TakenView) (u : Option unit) (r : Result TakenView EndFault) → r ≡ Ok t
    → Noting old new now (unit_notes r u who ++ whole_notes r who) (λ w w'. TakesOf w who r w')
    → 0 < length (unit_notes (Ok t) u who ++ whole_notes (Ok t) who)
    → TakeIsLogged (end_held old.stations old.ends who) who
take_is_told old new now who t u r is noting some =
    let T = noting [] [] in
    let held : end_held old.stations old.ends who ≡ Some T.held = end_is_held old.stations old.ends who T.end' T.before T.held T.at T.stands T.there T.holds in
    let before : 0 < length (unit_notes r u who ++ whole_notes r who) = subst (λ x. 0 < length (unit_notes x u who ++ whole_notes x who)) (sym is) some in
    let after : 0 < length (unit_notes r (first_of T.held.link.held) who ++ whole_notes r who) = subst (λ (ns : List Note). 0 < length ns) T.log before in
    subst (λ o. TakeIsLogged o who) (sym held) (subst (λ x. 0 < length (unit_notes x (first_of T.held.link.held) who ++ whole_notes x who)) T.answers after)

-- ---- a delivery to a host

get_set : {A : Type 0} (xs : List A) (k : ℕ) (x y : A) → slice_get xs k ≡ Some x → slice_get (set xs k y) k ≡ Some y
get_set [] k x y = λ at. absurd (cc at)
get_set (z ∷ xs) zero x y = λ at. refl
get_set (z ∷ xs) (suc k) x y = λ at. get_set xs k x y at

get_there : {A : Type 0} (xs : List A) (k : ℕ) → k < length xs → (x : A) × (slice_get xs k ≡ Some x)
get_there [] k lt = absurd (omega arith)
get_there (x ∷ xs) zero lt = (x, refl)
get_there (x ∷ xs) (suc k) lt = get_there xs k (omega arith)

module _ (old : HostsView) (host parcel now : ℕ) (bytes : List ℕ) where
  pub want_of_link_there : host < length old.stations → IfSome (slice_get old.stations host) (λ s. IsAcceptable s.endpoint bytes) → HostNeedsMemory old host parcel bytes now
  want_of_link_there lt acceptable =
      let x = get_there old.stations host lt in
      inl (x.0, x.1, subst (λ (o : Option HostState). IfSome o (λ s. IsAcceptable s.endpoint bytes)) x.1 acceptable)

  module _ (new : HostsView) (r : Arrived) (d : DeliveredAt old host bytes now r new) where
    after_there : slice_get new.stations host ≡ Some d.after
    after_there = ap (λ xs. slice_get xs host) d.stations ∙ get_set old.stations host d.before d.after d.there

    pub no_memory_for_entries : {T E : Type 0} (told : Result T E) (who : ℕ) → who ≡ length old.ends → IfSome (slice_get new.stations host) (λ s. OnErr told (0 < length (arrival_notes r s who parcel)))
        → (e : E) → told ≡ Err e → HostNeedsMemory old host parcel bytes now
    no_memory_for_entries told who count refused e is =
        let at_after : OnErr told (0 < length (arrival_notes r d.after who parcel)) = subst (λ (o : Option HostState). IfSome o (λ s. OnErr told (0 < length (arrival_notes r s who parcel)))) after_there refused in
        let some : 0 < length (arrival_notes r d.after who parcel) = subst (λ t. OnErr t (0 < length (arrival_notes r d.after who parcel))) is at_after in
        inr (r, new, d, subst (λ n. 0 < length (arrival_notes r d.after n parcel)) count some)

  pub no_memory_for_growth : (new : HostsView) (g : StepResultView) → DeliversSo old host parcel bytes now g new → 0 < length g.parcels + length g.notes → HostNeedsMemory old host parcel bytes now
  no_memory_for_growth new g d made =
      let P : List ParcelView → Type 0 = λ ps. 0 < length ps + length g.notes in
      let notes : 0 < 0 + length g.notes = subst P d.parcels made in
      let some : 0 < length g.notes = omega (arith, notes) in
      inr (d.answer, new, d.delivered, subst (λ (ns : List Note). 0 < length ns) d.notes some)

-- ---- a router is polled

pub on_err : {T E : Type 0} {P : Type 0} (r : Result T E) → P → OnErr r P
on_err (Ok x) has = tt
on_err (Err e) has = has

-- a list for which there is no space after others is not empty
pub some_after : (asked told : Vec Reply) → vec_capacity asked < vec_len asked + vec_len told → 0 < length (sendings asked.items ++ sendings told.items)
some_after asked told full =
    let some : 0 < length told.items = omega (arith, full, asked.ok.0, asked.ok.1, told.ok.0) in
    rw (length-append (sendings asked.items) (sendings told.items), length-map told.items sending_of) (omega (arith, some))

-- if there are entries for packets, there are packets
pub told_of_some : (g : StepResultView) (router : ℕ) (ports : List Port) (first : ℕ) (sent : List SendingView) → g ≡ told_growth router ports first sent → 0 < length g.parcels + length g.notes → 0 < length sent
told_of_some g router ports first [] same made =
    let none : 0 < 0 = subst (λ (v : StepResultView). 0 < length v.parcels + length v.notes) same made in
    absurd (omega (arith, none))
told_of_some g router ports first (s ∷ sent) same made = omega arith

-- a router of a list needs memory if the fact holds of it
pub of_list : (P : RouterNow → Type 0) (routers : List RouterNow) (k : ℕ) (r : RouterNow) → slice_get routers k ≡ Some r → P r → IfSome (slice_get routers k) P
of_list P routers k r at has = subst (λ (o : Option RouterNow). IfSome o P) (sym at) has
