use Rattle.std.proofs.Common.{◌≡◌, ◌+◌, ◌++◌, drop}
use Rattle.spx_theory.specs.Routers.{told_notes}
use Rattle.ipx_net.specs.LogEntries.{entry_notes}
use Rattle.ipx_net.specs.Parcels.{parcel_views}
use Rattle.ipx_net.proofs.routers.told_entries.Given as goal

abbrev pub invariant-loop-parcel : goal.invariant-loop-parcel
invariant-loop-parcel l =
    (l.number ≡ l.first + l._parcel-index) ×
    (entry_notes l.entries.items ++ told_notes l.router l.number (parcel_views (drop l._parcel-index l.parcels))
    ≡ told_notes l.router l.first (parcel_views l.parcels))
