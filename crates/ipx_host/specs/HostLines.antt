-- How often each problem that a host reports has happened. Nothing here is from a public standard.
use Rattle.std.specs.Prelude.{ℕ, List, [], ◌∷◌}
use Rattle.ipx_sockets.specs.declared.source_filter.FilterDrops.{FilterDrops}
use Rattle.ipx_host.specs.declared.telling.Counts.{Counts}

-- the filtered datagrams, the requests from those who may not connect, the datagrams that the system refused,
-- and how often the host ran out of memory
abbrev pub host_counts : FilterDrops → ℕ → ℕ → ℕ → Counts
host_counts kept rejected system memory = record {
  kept = kept;
  rejected = rejected;
  system = system;
  memory = memory;
}

-- the counts in the order in which they are reported
abbrev pub counts_of_host : Counts → List ℕ
counts_of_host n = n.kept.unknown_senders.count ∷ n.kept.spoofed.count ∷ n.kept.not_a_router.count ∷ n.rejected ∷ n.system
    ∷ n.memory ∷ []
