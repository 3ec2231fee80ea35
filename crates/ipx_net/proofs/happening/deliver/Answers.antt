use Rattle.std.proofs.Common.{ℕ, ◌≡◌, ◌<◌, ◌∙◌, ap, IfOk, List, None, length, sym, subst}
use Rattle.std.specs.Prelude.{slice_get}
use Rattle.ipx_net.specs.StepResultView.{step_result_view}
use Rattle.ipx_net.specs.NetEvents.{DeliversTo}
use Rattle.ipx_net.specs.NetFaults.{network_at, place_fault}
use Rattle.ipx_net.specs.Parcels.{parcel_view}
use Rattle.ipx_net.specs.EventMemory.{DeliveryNeedsMemory, HostNeedsMemory, RouterNeedsMemory}
use Rattle.ipx_net.specs.declared.parcel.Parcel.{Parcel}
use Rattle.ipx_net.specs.declared.place.Place.{Place}
use Rattle.ipx_net.proofs.Happened.{after, before, counted, delivered_ok, letter_at, parcel_within, reached_ok}
use Rattle.ipx_net.proofs.happening.deliver.Goals as goal

pub returns-in-Host-clause-delivers : goal.returns-in-Host-clause-delivers
returns-in-Host-clause-delivers c =
    let b = c.args.indexed_log.now in
    let ps = c.parcels-parcels.result.now in
    let p = c.index-parcels-parcel.result in
    let within : c.args.parcel < length ps = parcel_within ps b c.args.parcel _ c.parcels-parcels.ensures c.requires in
    subst (λ (pl : Place). IfOk c.deliver_host.result (λ g. DeliversTo c.args.parcel pl (step_result_view g).answer (before c.args.hosts.now c.args.routers.now b c.args.now) (after c.deliver_host.new.hosts c.args.routers.now b (step_result_view g) c.args.now))) (sym c.in-Host.is)
    (delivered_ok c.deliver_host.result c.args.hosts.now c.deliver_host.new.hosts c.args.routers.now b c.in-Host.host c.args.parcel c.args.now (parcel_view p) c.deref.result.now (c.deref.ensures.value ∙ ap (λ (z : Parcel). z.bytes.items) (sym c.index-parcels-parcel.is))
    (letter_at ps b c.args.parcel p c.parcels-parcels.ensures within c.index-parcels-parcel.is)
    (subst (λ (pl : Place). place_fault (slice_get b.parcels c.args.parcel) (network_at (before c.args.hosts.now c.args.routers.now b c.args.now) pl) ≡ None) c.in-Host.is c.requires)
    c.deliver_host.ensures.delivers)

pub returns-in-Port-clause-delivers : goal.returns-in-Port-clause-delivers
returns-in-Port-clause-delivers c =
    let b = c.args.indexed_log.now in
    let ps = c.parcels-parcels.result.now in
    let p = c.index-parcels-parcel.result in
    let within : c.args.parcel < length ps = parcel_within ps b c.args.parcel _ c.parcels-parcels.ensures c.requires in
    subst (λ (pl : Place). IfOk c.deliver_member.result (λ g. DeliversTo c.args.parcel pl (step_result_view g).answer (before c.args.hosts.now c.args.routers.now b c.args.now) (after c.args.hosts.now c.deliver_member.new.routers b (step_result_view g) c.args.now))) (sym c.in-Port.is)
    (reached_ok c.deliver_member.result c.args.hosts.now c.args.routers.now c.deliver_member.new.routers b c.in-Port.router c.in-Port.port c.args.parcel (length ps) c.args.now (parcel_view p) c.deref-in-Port.result.now (c.deref-in-Port.ensures.value ∙ ap (λ (z : Parcel). z.bytes.items) (sym c.index-parcels-parcel.is))
    (counted ps b c.parcels-parcels.ensures)
    (letter_at ps b c.args.parcel p c.parcels-parcels.ensures within c.index-parcels-parcel.is)
    (subst (λ (pl : Place). place_fault (slice_get b.parcels c.args.parcel) (network_at (before c.args.hosts.now c.args.routers.now b c.args.now) pl) ≡ None) c.in-Port.is c.requires)
    c.deliver_member.ensures.reached)

pub returns-in-Host-clause-memory : goal.returns-in-Host-clause-memory
returns-in-Host-clause-memory c =
    let b = c.args.indexed_log.now in
    let ps = c.parcels-parcels.result.now in
    let p = c.index-parcels-parcel.result in
    let n = before c.args.hosts.now c.args.routers.now b c.args.now in
    let within : c.args.parcel < length ps = parcel_within ps b c.args.parcel _ c.parcels-parcels.ensures c.requires in
    let bytes : c.deref.result.now ≡ (parcel_view p).bytes = c.deref.ensures.value ∙ ap (λ (z : Parcel). z.bytes.items) (sym c.index-parcels-parcel.is) in
    λ made. (
      parcel_view p,
      letter_at ps b c.args.parcel p c.parcels-parcels.ensures within c.index-parcels-parcel.is,
      subst (λ (pl : Place). DeliveryNeedsMemory n c.args.parcel (parcel_view p).bytes pl) (sym c.in-Host.is)
          (subst (λ (bs : List ℕ). HostNeedsMemory c.args.hosts.now c.in-Host.host c.args.parcel bs c.args.now) bytes (c.deliver_host.ensures.memory made)),
    )

pub returns-in-Port-clause-memory : goal.returns-in-Port-clause-memory
returns-in-Port-clause-memory c =
    let b = c.args.indexed_log.now in
    let ps = c.parcels-parcels.result.now in
    let p = c.index-parcels-parcel.result in
    let n = before c.args.hosts.now c.args.routers.now b c.args.now in
    let within : c.args.parcel < length ps = parcel_within ps b c.args.parcel _ c.parcels-parcels.ensures c.requires in
    let bytes : c.deref-in-Port.result.now ≡ (parcel_view p).bytes = c.deref-in-Port.ensures.value ∙ ap (λ (z : Parcel). z.bytes.items) (sym c.index-parcels-parcel.is) in
    λ made. (
      parcel_view p,
      letter_at ps b c.args.parcel p c.parcels-parcels.ensures within c.index-parcels-parcel.is,
      subst (λ (pl : Place). DeliveryNeedsMemory n c.args.parcel (parcel_view p).bytes pl) (sym c.in-Port.is)
          (subst (λ (bs : List ℕ). RouterNeedsMemory c.args.routers.now c.in-Port.router c.in-Port.port bs c.args.now) bytes (c.deliver_member.ensures.memory made)),
    )
