-- The last datagrams that a router dropped or did not learn whole, for each of six reasons. Defined by this project.
use Rattle.std.specs.Prelude.{◌≡◌, ◌<◌, ◌≤◌, ℕ, List, length, drop, Option, Some, None, MatchOption}
use Rattle.ipx_wire.specs.Assigned.{ipx_header_size}
use Rattle.ipx_wire.specs.Ipx.{IsAddress}
use Rattle.ipx_wire.specs.declared.address.Address.{Address}
use Rattle.ipx_carrier.specs.declared.outcome_counters.OutcomeCounters.{OutcomeCounters}
use Rattle.ipx_metrics.specs.declared.last_drops.LastDrop.{LastDrop}
use Rattle.ipx_metrics.specs.declared.last_drops.LastDrops.{LastDrops}

-- nothing has been dropped
abbrev pub nothing_dropped : LastDrops
nothing_dropped = record {
  bad = None;
  not_ours = None;
  no_route = None;
  hop_limit = None;
  bad_control = None;
  table_full = None;
}

-- the address at an offset of bytes, if these are at least as long as a header; otherwise none
abbrev pub IsHeadAddress : ℕ → List ℕ → Option Address → Type 0
IsHeadAddress place bytes a = MatchOption a (length bytes < ipx_header_size)
    (λ it. (ipx_header_size ≤ length bytes) × IsAddress it (drop place bytes))

-- these bytes, which came by the port with this index, were dropped
pub record IsDropOf (place : ℕ) (bytes : List ℕ) (d : LastDrop) : Type 0 where
  pub port : d.port ≡ place
  pub to : IsHeadAddress 6 bytes d.to
  pub from : IsHeadAddress 18 bytes d.from

-- these bytes become the last ones of a reason, if its count rose; otherwise the last ones are unchanged
abbrev pub IsNotedIf : ℕ → ℕ → ℕ → List ℕ → Option LastDrop → Option LastDrop → Type 0
IsNotedIf before after port bytes old new =
    (before < after → (d : LastDrop) × (new ≡ Some d) × IsDropOf port bytes d)
    × (after ≤ before → new ≡ old)

-- this holds for each reason
pub record AreNoted (before after : OutcomeCounters) (port : ℕ) (bytes : List ℕ) (old new : LastDrops) : Type 0 where
  pub bad : IsNotedIf before.bad after.bad port bytes old.bad new.bad
  pub not_ours : IsNotedIf before.not_ours after.not_ours port bytes old.not_ours new.not_ours
  pub no_route : IsNotedIf before.no_route after.no_route port bytes old.no_route new.no_route
  pub hop_limit : IsNotedIf before.hop_limit after.hop_limit port bytes old.hop_limit new.hop_limit
  pub bad_control :
      IsNotedIf before.bad_control after.bad_control port bytes old.bad_control new.bad_control
  pub table_full : IsNotedIf before.table_full after.table_full port bytes old.table_full new.table_full
