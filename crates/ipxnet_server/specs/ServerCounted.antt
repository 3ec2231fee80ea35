-- What a server counts of what it drops. Defined by this project.
use Rattle.std.specs.Prelude.{ℕ, ◌+◌, ◌-◌, ◌^◌, min}
use Rattle.ipxnet_server.specs.declared.counts.ServerCounts.{ServerCounts}
use Rattle.ipxnet_server.specs.declared.drops.ServerDrop.{ServerDrop}
use Rattle.ipxnet_server.specs.declared.drops.ServerDrop.TheVariants.{Malformed, NodeTaken, FullOfAddress, Full, Unregistered, OtherSource, TooLong, NoSuchNode, ToItself, PingElsewhere, BroadcastElsewhere, FromElsewhere, Response, NotBehind, ForElsewhere, RateLimited, Busy}

-- a count of 64 bits goes up by one, and stays at the greatest
abbrev pub drops_raised : ℕ → ℕ
drops_raised n = min (n + 1) (2 ^ 64 - 1)

-- one more is dropped: only the count of its cause changes
abbrev pub drop_counted : ServerDrop → ServerCounts → ServerCounts
drop_counted (Malformed fault) c = record c { malformed = drops_raised c.malformed }
drop_counted (NodeTaken node) c = record c { node_taken = drops_raised c.node_taken }
drop_counted FullOfAddress c = record c { full_of_address = drops_raised c.full_of_address }
drop_counted Full c = record c { full = drops_raised c.full }
drop_counted Unregistered c = record c { unregistered = drops_raised c.unregistered }
drop_counted (OtherSource node) c = record c { other_source = drops_raised c.other_source }
drop_counted (TooLong size) c = record c { too_long = drops_raised c.too_long }
drop_counted (NoSuchNode node) c = record c { no_such_node = drops_raised c.no_such_node }
drop_counted ToItself c = record c { to_itself = drops_raised c.to_itself }
drop_counted (PingElsewhere network) c = record c { ping_elsewhere = drops_raised c.ping_elsewhere }
drop_counted (BroadcastElsewhere network) c =
    record c { broadcast_elsewhere = drops_raised c.broadcast_elsewhere }
drop_counted (FromElsewhere network) c = record c { from_elsewhere = drops_raised c.from_elsewhere }
drop_counted Response c = record c { response = drops_raised c.response }
drop_counted (NotBehind node) c = record c { not_behind = drops_raised c.not_behind }
drop_counted (ForElsewhere network) c =
    record c { for_elsewhere = drops_raised c.for_elsewhere }
drop_counted (RateLimited place) c = record c { rate_limited = drops_raised c.rate_limited }
drop_counted Busy c = record c { busy = drops_raised c.busy }

-- nothing was dropped yet
abbrev pub no_drops : ServerCounts
no_drops = record {
  malformed = 0;
  node_taken = 0;
  full_of_address = 0;
  full = 0;
  unregistered = 0;
  other_source = 0;
  too_long = 0;
  no_such_node = 0;
  to_itself = 0;
  ping_elsewhere = 0;
  broadcast_elsewhere = 0;
  from_elsewhere = 0;
  response = 0;
  not_behind = 0;
  for_elsewhere = 0;
  rate_limited = 0;
  busy = 0;
}
