-- The result of an event meets the relation of steps.
use Rattle.std.proofs.Common.{ℕ, ◌≡◌, ◌<◌, ◌++◌, ◌==◌, All, List, [], ◌∷◌, Bool, true, false, Result, Ok, Err, IfOk, Option, Some, None, refl, sym, ap, subst, ◌∙◌, length, get_or}
use Rattle.std.specs.Prelude.{option_map, slice_get}
use Rattle.std.proofs.lemmas.List.{append-nil, length-map}
use Rattle.std.proofs.lemmas.Option.{slice_get_read, slice_get_within}
use Rattle.std.proofs.lemmas.Bool.Decides.{Decides-eqb}
use Rattle.ipx_wire.specs.declared.address.Network.{Network}
use Rattle.ipx_router.specs.Forwarded.{ForwardsOneHopOn}
use Rattle.ipx_router.specs.NewRouter.{IsOwnNetwork}
use Rattle.ipx_router.specs.OutcomeView.{OutcomeView, replies_of}
use Rattle.ipx_router.specs.OutcomeView as Outcomes
use Rattle.ipx_router.specs.RouterPackets.{AreOwn, SendingView}
use Rattle.ipx_router.specs.RouterView.{RouterView}
use Rattle.ipx_router.specs.declared.port.Port.{Port}
use Rattle.spx_theory.specs.Note.{Note}
use Rattle.spx_theory.specs.Note as Notes
use Rattle.spx_theory.specs.PacketsOnWay.{IsOneOn}
use Rattle.spx_theory.specs.Routers.{GivesOwnLetters, told_notes}
use Rattle.spx_theory.specs.World.{ParcelView, World}
use Rattle.ipx_net_hosts.specs.Hosts.{HostsView, world_of}
use Rattle.ipx_net.specs.AnswerView.{AnswerView, Parcels}
use Rattle.ipx_net.specs.IndexedLogView.{IndexedLogView}
use Rattle.ipx_net.specs.StepResultView.{GrowsWorld, StepResultView, step_result_view}
use Rattle.ipx_net.specs.HostEvents.{DeliveringToHost, DeliversSo}
use Rattle.ipx_net.specs.NetEvents.{RoutersUnchanged}
use Rattle.ipx_net.specs.NetFaults.{member_fault, network_of_host, network_of_port, place_fault, segment_fault}
use Rattle.ipx_net.specs.NetView.{NetNow, net_of}
use Rattle.ipx_net.specs.Parcels.{parcel_view, parcel_views}
use Rattle.ipx_net.specs.RouterEvents.{DeliveringToRouter, MemberPolled, MemberReached, PollingRouter, RouterDoes, numbers, routed_growth}
use Rattle.ipx_net.specs.RouterMembers.{letters_of, network_of, port_at}
use Rattle.ipx_net.specs.declared.step_result.StepResult.{StepResult}
use Rattle.ipx_net.specs.declared.parcel.Parcel.{Parcel}
use Rattle.ipx_net.specs.declared.routers.RouterNow.{RouterNow}
use Rattle.ipx_net.proofs.ParcelPlaces.{view_at}
use Rattle.ipx_net.proofs.RouterSteps.{carried_on, own_letters}

-- the net with what an event added
abbrev pub after : HostsView → List RouterNow → IndexedLogView → StepResultView → ℕ → NetNow
after hosts routers b g now = net_of hosts routers (b.parcels ++ g.parcels) (b.log ++ g.notes) now

abbrev pub before : HostsView → List RouterNow → IndexedLogView → ℕ → NetNow
before hosts routers b now = net_of hosts routers b.parcels b.log now

pub happened : {E : Type 0} (P : AnswerView → World → World → Type 0) (r : Result StepResult E) (old new : HostsView) (routers : List RouterNow) (b : IndexedLogView) (first now : ℕ)
    → length b.parcels ≡ first → IfOk r (λ g. GrowsWorld old new first now (step_result_view g) P)
    → IfOk r (λ g. RoutersUnchanged P (step_result_view g).answer (before old routers b now) (after new routers b (step_result_view g) now))
happened P (Ok g) old new routers b first now count grows = (grows b.parcels b.log count, refl)
happened P (Err e) old new routers b first now count grows = tt

-- ---- a parcel that is delivered

pub letter_at : (ps : List Parcel) (b : IndexedLogView) (k : ℕ) (p : Parcel) → parcel_views ps ≡ b.parcels → k < length ps → p ≡ get_or ps k p → slice_get b.parcels k ≡ Some (parcel_view p)
letter_at ps b k p views within read =
    ap (λ (vs : List ParcelView). slice_get vs k) (sym views) ∙ view_at ps k ∙ ap (option_map parcel_view) (slice_get_read ps (length ps) k p refl within read)

member_there : (b : Bool) → member_fault b ≡ None → b ≡ true
member_there true is = refl
member_there false is = absurd (cc is)

same_network : (a b : Network) → a.0 ≡ b.0 → a ≡ b
same_network a b e = ap (λ n. record { 0 = n }) e

on_segment : (segment : Network) (o : Option Network) (network : Network) → segment_fault segment o ≡ None → o ≡ Some network → network ≡ segment
on_segment segment None network none is = absurd (cc is)
on_segment segment (Some other) network none is =
    let same : other ≡ network = cc is in
    sym same ∙ same_network other segment ((Decides-eqb other.0 segment.0).0 (member_there (other.0 == segment.0) none))

-- the place is on the network of the parcel
segment_there : (b : IndexedLogView) (k : ℕ) (l : ParcelView) (o : Option Network) (network : Network) → place_fault (slice_get b.parcels k) o ≡ None → slice_get b.parcels k ≡ Some l → o ≡ Some network → network ≡ l.segment
segment_there b k l o network none at is =
    let there : place_fault (Some l) o ≡ None = ap (λ (x : Option ParcelView). place_fault x o) (sym at) ∙ none in
    on_segment l.segment o network there is

pub delivered_host : (old new : HostsView) (routers : List RouterNow) (b : IndexedLogView) (host parcel now : ℕ) (l : ParcelView) (g : StepResultView)
    → slice_get b.parcels parcel ≡ Some l → place_fault (slice_get b.parcels parcel) (network_of_host (slice_get old.stations host)) ≡ None
    → DeliversSo old host parcel l.bytes now g new
    → RoutersUnchanged (DeliveringToHost parcel host) g.answer (before old routers b now) (after new routers b g now)
delivered_host old new routers b host parcel now l g at sound d =
    let x = d.delivered in
    let network : network_of_host (slice_get old.stations host) ≡ Some x.before.endpoint.network = ap network_of_host x.there in (
      (
        d.answer,
        record {
          letter = l;
          comes = at;
          before = x.before;
          there = x.there;
          segment = sym (segment_there b parcel l (network_of_host (slice_get old.stations host)) x.before.endpoint.network sound at network);
          after = x.after;
          arrives = x.arrives;
          here = x.here;
          hosts = x.stations;
          ends = x.ends;
          parcels = ap (λ ps. b.parcels ++ ps) d.parcels ∙ append-nil b.parcels;
          log = ap (λ ns. b.log ++ ns) d.notes;
          moment = refl;
        },
        d.answers,
      ),
      refl,
    )

-- ---- routers

tells_of : (hosts : HostsView) (b : IndexedLogView) (router now first : ℕ) (ports : List Port) (sent : List SendingView) → length b.parcels ≡ first → AreOwn sent
    → GivesOwnLetters (world_of hosts b.parcels b.log now) router (letters_of router ports sent) (world_of hosts (b.parcels ++ letters_of router ports sent) (b.log ++ told_notes router first (letters_of router ports sent)) now)
tells_of hosts b router now first ports sent count own =
    record {
      own = own_letters router ports sent own;
      hosts = refl;
      ends = refl;
      parcels = refl;
      log = ap (λ k. b.log ++ told_notes router k (letters_of router ports sent)) (sym count);
      moment = refl;
    }

pub polled_router : (hosts : HostsView) (routers routers' : List RouterNow) (b : IndexedLogView) (router first now : ℕ) (g : StepResultView) → length b.parcels ≡ first
    → MemberPolled routers router first now g routers'
    → PollingRouter router g.answer (before hosts routers b now) (after hosts routers' b g now)
polled_router hosts routers routers' b router first now g count m =
    subst (λ (x : StepResultView). PollingRouter router x.answer (before hosts routers b now) (after hosts routers' b x now)) (sym m.grows) (record {
      before = m.before;
      there = m.there;
      after = m.after;
      sent = m.sent;
      polled = m.polled;
      tells = tells_of hosts b router now first m.before.router.ports m.sent count m.own;
      answer = ap (λ k. Parcels (numbers k m.sent)) (sym count);
      routers = m.routers;
    })

does : (hosts : HostsView) (b : IndexedLogView) (router port parcel first now : ℕ) (r : RouterView) (l : ParcelView) (o : OutcomeView) → length b.parcels ≡ first → slice_get b.parcels parcel ≡ Some l
    → network_of (port_at r.ports port) ≡ l.segment → All IsOwnNetwork r.ports → ForwardsOneHopOn r port l.bytes o → AreOwn (replies_of o)
    → RouterDoes parcel router r.ports o (routed_growth router r.ports parcel first o).answer (world_of hosts b.parcels b.log now)
    (world_of hosts (b.parcels ++ (routed_growth router r.ports parcel first o).parcels) (b.log ++ (routed_growth router r.ports parcel first o).notes) now)
does hosts b router port parcel first now r l (Outcomes.Forward at next out) count comes segment networks on own = (
  ap (λ k. Parcels (k ∷ [])) (sym count),
  record {
    letter = l;
    comes = comes;
    on = subst (λ n. IsOneOn n l.bytes out) segment (carried_on r port l.bytes at next out networks on);
    hosts = refl;
    ends = refl;
    parcels = refl;
    log = ap (λ k. b.log ++ Notes.Carried parcel k ∷ []) (sym count);
    moment = refl;
  },
)
does hosts b router port parcel first now r l (Outcomes.Replies sent) count comes segment networks on own =
    (ap (λ k. Parcels (numbers k sent)) (sym count), tells_of hosts b router now first r.ports sent count own)
does hosts b router port parcel first now r l (Outcomes.Heard n) count comes segment networks on own =
    (refl, ap (λ ps. world_of hosts ps (b.log ++ []) now) (append-nil b.parcels) ∙ ap (λ ns. world_of hosts b.parcels ns now) (append-nil b.log))
does hosts b router port parcel first now r l (Outcomes.Dropped reason) count comes segment networks on own =
    (refl, ap (λ ps. world_of hosts ps (b.log ++ []) now) (append-nil b.parcels) ∙ ap (λ ns. world_of hosts b.parcels ns now) (append-nil b.log))

port_on : (segment : Network) (o : Option Port) → segment_fault segment (option_map (λ (p : Port). p.network) o) ≡ None → network_of o ≡ segment
port_on segment None none = absurd (cc none)
port_on segment (Some p) none = on_segment segment (Some p.network) p.network none refl

pub reached_router : (hosts : HostsView) (routers routers' : List RouterNow) (b : IndexedLogView) (router port parcel first now : ℕ) (l : ParcelView) (g : StepResultView) → length b.parcels ≡ first
    → slice_get b.parcels parcel ≡ Some l → place_fault (slice_get b.parcels parcel) (network_of_port (slice_get routers router) port) ≡ None
    → MemberReached routers router port parcel l.bytes first now g routers'
    → DeliveringToRouter parcel router port g.answer (before hosts routers b now) (after hosts routers' b g now)
reached_router hosts routers routers' b router port parcel first now l g count at sound m =
    let placed : place_fault (Some l) (network_of_port (Some m.before) port) ≡ None =
    ap (λ (x : Option ParcelView). place_fault x (network_of_port (Some m.before) port)) (sym at) ∙ ap (λ (x : Option RouterNow). place_fault (slice_get b.parcels parcel) (network_of_port x port)) (sym m.there) ∙ sound in
    let segment : network_of (port_at m.before.router.ports port) ≡ l.segment = port_on l.segment (port_at m.before.router.ports port) placed in
    subst (λ (x : StepResultView). DeliveringToRouter parcel router port x.answer (before hosts routers b now) (after hosts routers' b x now)) (sym m.grows) (record {
      letter = l;
      comes = at;
      before = m.before;
      there = m.there;
      segment = segment;
      after = m.after;
      outcome = m.outcome;
      receives = m.receives;
      started = m.started;
      does = does hosts b router port parcel first now m.before.router l m.outcome count at segment m.networks m.on m.own;
      routers = m.routers;
    })

pub counted : (ps : List Parcel) (b : IndexedLogView) → parcel_views ps ≡ b.parcels → length b.parcels ≡ length ps
counted ps b views = ap length (sym views) ∙ length-map ps parcel_view

-- ---- calls that may run out of memory

pub polled_ok : {E : Type 0} (r : Result StepResult E) (hosts : HostsView) (routers routers' : List RouterNow) (b : IndexedLogView) (router first now : ℕ) → length b.parcels ≡ first
    → IfOk r (λ g. MemberPolled routers router first now (step_result_view g) routers')
    → IfOk r (λ g. PollingRouter router (step_result_view g).answer (before hosts routers b now) (after hosts routers' b (step_result_view g) now))
polled_ok (Ok g) hosts routers routers' b router first now count m = polled_router hosts routers routers' b router first now (step_result_view g) count m
polled_ok (Err e) hosts routers routers' b router first now count m = tt

pub delivered_ok : {E : Type 0} (r : Result StepResult E) (old new : HostsView) (routers : List RouterNow) (b : IndexedLogView) (host parcel now : ℕ) (l : ParcelView) (bytes : List ℕ)
    → bytes ≡ l.bytes → slice_get b.parcels parcel ≡ Some l → place_fault (slice_get b.parcels parcel) (network_of_host (slice_get old.stations host)) ≡ None
    → IfOk r (λ g. DeliversSo old host parcel bytes now (step_result_view g) new)
    → IfOk r (λ g. RoutersUnchanged (DeliveringToHost parcel host) (step_result_view g).answer (before old routers b now) (after new routers b (step_result_view g) now))
delivered_ok (Ok g) old new routers b host parcel now l bytes same at sound d =
    delivered_host old new routers b host parcel now l (step_result_view g) at sound (subst (λ bs. DeliversSo old host parcel bs now (step_result_view g) new) same d)
delivered_ok (Err e) old new routers b host parcel now l bytes same at sound d = tt

pub reached_ok : {E : Type 0} (r : Result StepResult E) (hosts : HostsView) (routers routers' : List RouterNow) (b : IndexedLogView) (router port parcel first now : ℕ) (l : ParcelView) (bytes : List ℕ)
    → bytes ≡ l.bytes → length b.parcels ≡ first → slice_get b.parcels parcel ≡ Some l → place_fault (slice_get b.parcels parcel) (network_of_port (slice_get routers router) port) ≡ None
    → IfOk r (λ g. MemberReached routers router port parcel bytes first now (step_result_view g) routers')
    → IfOk r (λ g. DeliveringToRouter parcel router port (step_result_view g).answer (before hosts routers b now) (after hosts routers' b (step_result_view g) now))
reached_ok (Ok g) hosts routers routers' b router port parcel first now l bytes same count at sound m =
    reached_router hosts routers routers' b router port parcel first now l (step_result_view g) count at sound (subst (λ bs. MemberReached routers router port parcel bs first now (step_result_view g) routers') same m)
reached_ok (Err e) hosts routers routers' b router port parcel first now l bytes same count at sound m = tt

none_missing : (o : Option ParcelView) (n : Option Network) → place_fault o n ≡ None → (l : ParcelView) × (o ≡ Some l)
none_missing None n none = absurd (cc none)
none_missing (Some l) n none = (l, refl)

pub parcel_within : (ps : List Parcel) (b : IndexedLogView) (k : ℕ) (n : Option Network) → parcel_views ps ≡ b.parcels → place_fault (slice_get b.parcels k) n ≡ None → k < length ps
parcel_within ps b k n views none =
    let l : (l : ParcelView) × (slice_get b.parcels k ≡ Some l) = none_missing (slice_get b.parcels k) n none in
    subst (λ m. k < m) (counted ps b views) (slice_get_within b.parcels k l.0 l.1)
