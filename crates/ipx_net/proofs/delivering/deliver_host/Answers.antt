use Rattle.std.proofs.Common.{ap}
use Rattle.ipx_net.specs.LogEntries.{entry_notes}
use Rattle.ipx_net.specs.Parcels.{parcel_views}
use Rattle.ipx_net.proofs.EventSteps.{delivering}
use Rattle.ipx_net.proofs.Wanting.{no_memory_for_entries, no_memory_for_growth, want_of_link_there}
use Rattle.ipx_net.proofs.delivering.deliver_host.Goals as goal

pub returns-clause-delivers : goal.returns-clause-delivers
returns-clause-delivers c =
    delivering c.args.hosts.now c.deliver.new.self c.args.host c.args.parcel c.ends-count.result c.args.bytes.now c.args.now c.in_ok-arrived.arrived
    c.told_of.result (c.in_ok-who.who, c.in_ok-who.entries) (λ p. p.0) (λ p. entry_notes p.1.items) (parcel_views c.new.result.items)
    c.in_ok-arrived.ensures.delivered c.ends-count.ensures c.told_of.ensures.told c.in_ok-who.was (ap parcel_views c.new.ensures.items)

pub returns-in_err-arrived-clause-memory : goal.returns-in_err-arrived-clause-memory
returns-in_err-arrived-clause-memory c =
    λ made. want_of_link_there c.args.hosts.now c.args.host c.args.parcel c.args.now c.args.bytes.now c.requires c.in_err-arrived.ensures.memory

pub returns-in_err-who-clause-memory : goal.returns-in_err-who-clause-memory
returns-in_err-who-clause-memory c =
    λ made. no_memory_for_entries c.args.hosts.now c.args.host c.args.parcel c.args.now c.args.bytes.now c.deliver.new.self c.in_ok-arrived.arrived c.in_ok-arrived.ensures.delivered
    c.told_of.result c.ends-count.result c.ends-count.ensures c.told_of.ensures.refused _ c.in_err-who.was

pub returns-clause-memory : goal.returns-clause-memory
returns-clause-memory c =
    λ made. no_memory_for_growth c.args.hosts.now c.args.host c.args.parcel c.args.now c.args.bytes.now c.deliver.new.self _ (returns-clause-delivers c) made
