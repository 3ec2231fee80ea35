-- The contracts of the calls on hosts, as what events at hosts do.
use Rattle.std.proofs.Common.{ℕ, zero, suc, ◌≡◌, ◌≢◌, ◌≤◌, inl, inr, List, [], ◌∷◌, ◌++◌, length, take, set, Option, Some, None, Result, Ok, Err, refl, sym, ◌∙◌, ap, subst}
use Rattle.std.specs.Prelude.{IfOk, IfSome, option_map, slice_get}
use Rattle.std.proofs.lemmas.List.{append-nil}
use Rattle.ipx_wire.specs.Assigned.{spx_max_packet_size}
use Rattle.ipx_wire.specs.declared.address.Network.{Network}
use Rattle.ipx_wire.specs.declared.address.Node.{Node}
use Rattle.spx_link.specs.declared.outgoing.Sent.{Sent}
use Rattle.spx_link.specs.declared.unit.Unit.{Unit}
use Rattle.spx_messages.specs.declared.fault.EndFault.{EndFault}
use Rattle.spx_messages.specs.OneValue.{IsBufferStill}
use Rattle.spx_messages.specs.Taking.{TakenView, overlong}
use Rattle.spx_theory.specs.Note.{Note}
use Rattle.spx_theory.specs.HostSteps.{TakesOf, sending_notes, given_notes, unit_notes, whole_notes}
use Rattle.spx_theory.specs.EndCalls.{RefusesAt}
use Rattle.spx_theory.specs.World.{AtHost, ParcelView, HostState, World, end_at}
use Rattle.ipx_net_hosts.specs.Hosts.{HostsView, LeftAs, Noting, PolledAt, world_of}
use Rattle.ipx_net_hosts.specs.Refusing.{PushesTo, TakeIsRefused, end_held, want}
use Rattle.ipx_net_hosts.specs.HostStates.{given_as, speaker}
use Rattle.ipx_net.specs.AnswerView.{Parcels, Refused, Taken}
use Rattle.ipx_net.specs.StepResultView.{StepResultView, GrowsWorld}
use Rattle.ipx_net.specs.HostEvents.{DeliversSo, PollingHost, TakingFrom}
use Rattle.ipx_net.specs.Speaking.{spoken_notes}
use Rattle.spx_messages.specs.declared.arrived.Arrived.{Arrived}
use Rattle.spx_theory.specs.HostSteps.{arrival_notes}
use Rattle.ipx_net_hosts.specs.Hosts.{DeliveredAt}
use Rattle.ipx_net.specs.AnswerView.{ArrivedAt}
use Rattle.ipx_net.specs.HostEvents.{end_for}

pub if_ok_then : {T E : Type 0} (r : Result T E) (P Q : T → Type 0) → ((x : T) → P x → Q x) → IfOk r P → IfOk r Q
if_ok_then (Ok x) P Q f has = f x has
if_ok_then (Err e) P Q f has = tt

-- ---- a unit is taken
pub taking_ok : (old new : HostsView) (first now who : ℕ) (t : TakenView) (u : Option Unit) (r : Result TakenView EndFault) (g : StepResultView) → r ≡ Ok t
    → Noting old new now (unit_notes r u who ++ whole_notes r who) (λ w w'. TakesOf w who r w')
    → g ≡ record { parcels = []; notes = unit_notes (Ok t) u who ++ whole_notes (Ok t) who; answer = Taken t }
    → GrowsWorld old new first now g (TakingFrom who)
taking_ok old new first now who t u r g is noting same =
    subst (λ x. GrowsWorld old new first now x (TakingFrom who)) (sym same)
    (λ parcels log count.
    let W : World = world_of old parcels log now in
    inl (
      t,
      refl,
      subst (λ ps. TakesOf W who (Ok t) (world_of new ps (log ++ (unit_notes (Ok t) u who ++ whole_notes (Ok t) who)) now)) (sym (append-nil parcels))
          (subst (λ x. TakesOf W who x (world_of new parcels (log ++ (unit_notes x u who ++ whole_notes x who)) now)) is (noting parcels log)),
    ))

over_is_not_want : (f : EndFault) → f ≡ overlong → f ≢ want
over_is_not_want f is e = absurd (cc (sym is ∙ e))

pub taking_err : (old new : HostsView) (first now who : ℕ) (f : EndFault) (u : Option Unit) (g : StepResultView)
    → (f ≢ want → Noting old new now (unit_notes (Err f) u who ++ whole_notes (Err f) who) (λ w w'. TakesOf w who (Err f) w'))
    → (f ≡ want → LeftAs who old new now)
    → TakeIsRefused f
    → (f ≡ want → PushesTo (end_held old.stations old.ends who))
    → g ≡ record { parcels = []; notes = []; answer = Refused f }
    → GrowsWorld old new first now g (TakingFrom who)
taking_err old new first now who f u g takes left why pushes same =
    subst (λ x. GrowsWorld old new first now x (TakingFrom who)) (sym same)
    (λ parcels log count.
    let W : World = world_of old parcels log now in
    elim why [
      | inl is ↦
          let T : TakesOf W who (Err f) (world_of new (parcels ++ []) (log ++ []) now) =
          subst (λ ps. TakesOf W who (Err f) (world_of new ps (log ++ []) now)) (sym (append-nil parcels)) (takes (over_is_not_want f is) parcels log) in
          inr (inl (ap Refused is, subst (λ x. TakesOf W who (Err x) (world_of new (parcels ++ []) (log ++ []) now)) is T))
      | inr is ↦
          let l : LeftAs who old new now = left is in
          let R : RefusesAt W l.end'.host (world_of new (parcels ++ []) (log ++ []) now) =
          subst (λ ps. RefusesAt W l.end'.host (world_of new ps (log ++ []) now)) (sym (append-nil parcels))
          (subst (λ ns. RefusesAt W l.end'.host (world_of new parcels ns now)) (sym (append-nil log)) (l.left parcels log)) in
          inr (inr (pushes is, (l.end', l.at, (ap Refused is, R))))
    ])

-- ---- a host is polled
spoken_is : (here : List (ℕ × ℕ)) (said : Option (ℕ × Sent)) (parcel : ℕ) → spoken_notes (speaker here said) parcel ≡ sending_notes here said parcel
spoken_is here None parcel = refl
spoken_is here (Some s) parcel = by (end_at here s.0)
  where
    by : (o : Option ℕ) → spoken_notes (given_as o s.1) parcel ≡ given_notes o s.1 parcel
    by None = refl
    by (Some who) = refl

get_here : {A : Type 0} (xs : List A) (k : ℕ) (x y : A) → slice_get xs k ≡ Some x → slice_get (set xs k y) k ≡ Some y
get_here [] k x y = λ at. absurd (cc at)
get_here (z ∷ xs) zero x y = λ at. refl
get_here (z ∷ xs) (suc k) x y = λ at. get_here xs k x y at

pub polling_some : (old new : HostsView) (host first now : ℕ) (r : Node × ℕ) (room written : List ℕ) (segment : Network) (spoke : Option (ℕ × Sent))
    (ps : List ParcelView) (ns : List Note) (numbers : List ℕ)
    → spx_max_packet_size ≤ length room → IsBufferStill room written
    → PolledAt old host now (Some r) room written new
    → option_map (λ s. s.endpoint.network) (slice_get old.stations host) ≡ Some segment
    → IfSome (slice_get new.stations host) (λ s. spoke ≡ speaker s.here s.endpoint.said)
    → ps ≡ record { segment = segment; next = r.0; bytes = take r.1 written; sent_by = Some (AtHost host) } ∷ []
    → ns ≡ spoken_notes spoke first
    → numbers ≡ first ∷ []
    → (parcels : List ParcelView) (log : List Note) → length parcels ≡ first
    → PollingHost host (Parcels numbers) (world_of old parcels log now) (world_of new (parcels ++ ps) (log ++ ns) now)
polling_some old new host first now r room written segment spoke ps ns numbers long still p networks speaks letters notes named parcels log count =
    let here : slice_get new.stations host ≡ Some p.after = ap (λ xs. slice_get xs host) p.stations ∙ get_here old.stations host p.before p.after p.there in
    let spoken : spoke ≡ speaker p.after.here p.after.endpoint.said = subst (λ o. IfSome o (λ s. spoke ≡ speaker s.here s.endpoint.said)) here speaks in
    let both : Some p.before.endpoint.network ≡ Some segment = sym (ap (option_map (λ (s : HostState). s.endpoint.network)) p.there) ∙ networks in
    let segment_is : segment ≡ p.before.endpoint.network = sym (cc both) in (
      Some r,
      record {
        before = p.before;
        there = p.there;
        after = p.after;
        room = room;
        written = written;
        polls = p.polls;
        here = p.here;
        hosts = p.stations;
        ends = p.ends;
        parcels = ap (λ (xs : List ParcelView). parcels ++ xs) (letters ∙ ap (λ (n : Network). record { segment = n; next = r.0; bytes = take r.1 written; sent_by = Some (AtHost host) } ∷ []) segment_is);
        log = ap (λ xs. log ++ xs) (notes ∙ ap (λ o. spoken_notes o first) spoken ∙ spoken_is p.after.here p.after.endpoint.said first
            ∙ ap (λ hs. sending_notes hs p.after.endpoint.said first) p.here ∙ ap (sending_notes p.before.here p.after.endpoint.said) (sym count));
        moment = refl;
      },
      ap Parcels (named ∙ ap (λ k. k ∷ []) (sym count)),
      long,
      still,
    )

-- ---- a datagram is delivered
pub delivering : {E X : Type 0} (old new : HostsView) (host parcel count : ℕ) (bytes : List ℕ) (now : ℕ) (arrived : Arrived) (r : Result X E) (x : X)
    (who : X → Option ℕ) (notes : X → List Note) (ps : List ParcelView)
    → DeliveredAt old host bytes now arrived new → count ≡ length old.ends
    → IfSome (slice_get new.stations host) (λ s. IfOk r (λ p. (who p ≡ end_for arrived s count) × (notes p ≡ arrival_notes arrived s count parcel)))
    → r ≡ Ok x → ps ≡ []
    → DeliversSo old host parcel bytes now (record { parcels = ps; notes = notes x; answer = ArrivedAt (who x) arrived }) new
delivering old new host parcel count bytes now arrived r x who notes ps d counted told is none =
    let here : slice_get new.stations host ≡ Some d.after = ap (λ xs. slice_get xs host) d.stations ∙ get_here old.stations host d.before d.after d.there in
    let at : IfOk r (λ p. (who p ≡ end_for arrived d.after count) × (notes p ≡ arrival_notes arrived d.after count parcel)) =
    subst (λ o. IfSome o (λ s. IfOk r (λ p. (who p ≡ end_for arrived s count) × (notes p ≡ arrival_notes arrived s count parcel)))) here told in
    let both : (who x ≡ end_for arrived d.after count) × (notes x ≡ arrival_notes arrived d.after count parcel) = subst (λ q. IfOk q (λ p. (who p ≡ end_for arrived d.after count) × (notes p ≡ arrival_notes arrived d.after count parcel))) is at in
    record {
      answer = arrived;
      delivered = d;
      parcels = none;
      notes = both.1 ∙ ap (λ k. arrival_notes arrived d.after k parcel) counted;
      answers = ap (λ w. ArrivedAt w arrived) (both.0 ∙ ap (end_for arrived d.after) counted);
    }

pub polling_none : (old new : HostsView) (host first now : ℕ) (room written : List ℕ) (g : StepResultView)
    → spx_max_packet_size ≤ length room → IsBufferStill room written
    → PolledAt old host now None room written new
    → g ≡ record { parcels = []; notes = []; answer = Parcels [] }
    → GrowsWorld old new first now g (PollingHost host)
polling_none old new host first now room written g long still p same =
    subst (λ x. GrowsWorld old new first now x (PollingHost host)) (sym same)
    (λ parcels log count. (
      None,
      record {
        before = p.before;
        there = p.there;
        after = p.after;
        room = room;
        written = written;
        polls = p.polls;
        here = p.here;
        hosts = p.stations;
        ends = p.ends;
        parcels = refl;
        log = ap (λ o. log ++ sending_notes p.before.here o (length parcels)) (sym p.polls.gives.said);
        moment = refl;
      },
      refl,
      long,
      still,
    ))

pub polling_grows : (old new : HostsView) (host first now : ℕ) (r : Node × ℕ) (room written : List ℕ) (segment : Network) (spoke : Option (ℕ × Sent))
    (p : ParcelView) (ns : List Note) (g : StepResultView)
    → spx_max_packet_size ≤ length room → IsBufferStill room written
    → PolledAt old host now (Some r) room written new
    → option_map (λ s. s.endpoint.network) (slice_get old.stations host) ≡ Some segment
    → IfSome (slice_get new.stations host) (λ s. spoke ≡ speaker s.here s.endpoint.said)
    → p ≡ record { segment = segment; next = r.0; bytes = take r.1 written; sent_by = Some (AtHost host) }
    → ns ≡ spoken_notes spoke first
    → g ≡ record { parcels = p ∷ []; notes = ns; answer = Parcels (first ∷ []) }
    → GrowsWorld old new first now g (PollingHost host)
polling_grows old new host first now r room written segment spoke p ns g long still polled networks speaks letter notes same =
    subst (λ x. GrowsWorld old new first now x (PollingHost host)) (sym same)
    (λ parcels log count. polling_some old new host first now r room written segment spoke (p ∷ []) ns (first ∷ []) long still polled networks speaks (ap (λ q. q ∷ []) letter) notes refl parcels log count)
