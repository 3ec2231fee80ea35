-- The token buckets of a router's ports: for the general and the narrow queries that come by a port, and for
-- the directed broadcasts that leave by it. Defined by this project.
use Rattle.std.specs.Prelude.{ℕ, List, Bool, true, false, Option, Some, None, slice_index_or, slice_set}
use Rattle.std.specs.Option.{option_map}
use Rattle.ipx_rate_limits.specs.declared.port_buckets.PortBuckets.{PortBuckets}
use Rattle.token_bucket.specs.declared.bucket.RateLimit.{RateLimit}
use Rattle.token_bucket.specs.declared.bucket.TokenBucket.{TokenBucket}
use Rattle.token_bucket.specs.TokenBucket.{bucket_has, bucket_taken, full_bucket}

-- a limit that lets nothing pass
abbrev pub never : RateLimit
never = record { burst = 0; per_second = 0 }

-- the buckets of a port; without any token if there is no such port
abbrev pub no_tokens : PortBuckets
no_tokens = record {
  queries = full_bucket never;
  narrow = full_bucket never;
  directed = Some (full_bucket never);
  groups = false;
}

abbrev pub at_port : List PortBuckets → ℕ → PortBuckets
at_port ports port = slice_index_or ports port no_tokens

-- there is a token for a general query
abbrev pub query_has : PortBuckets → ℕ → Bool
query_has p now = bucket_has p.queries 1 now

abbrev pub query_taken : ℕ → PortBuckets → PortBuckets
query_taken now p = record p { queries = bucket_taken p.queries 1 now }

-- there is a token for a narrow query
abbrev pub narrow_has : PortBuckets → ℕ → Bool
narrow_has p now = bucket_has p.narrow 1 now

abbrev pub narrow_taken : ℕ → PortBuckets → PortBuckets
narrow_taken now p = record p { narrow = bucket_taken p.narrow 1 now }

-- there is a token for a directed broadcast, or none is needed
abbrev pub is_free : Option TokenBucket → ℕ → Bool
is_free None now = true
is_free (Some b) now = bucket_has b 1 now

abbrev pub directed_has : PortBuckets → ℕ → Bool
directed_has p now = is_free p.directed now

abbrev pub directed_taken : ℕ → PortBuckets → PortBuckets
directed_taken now p = record p { directed = option_map (λ b. bucket_taken b 1 now) p.directed }

-- what is for a group of nodes of a port's network is a directed broadcast too
abbrev pub has_groups : List PortBuckets → ℕ → Bool
has_groups ports port = (at_port ports port).groups

-- a token was taken at this port, and at no other
abbrev pub with_query_taken : List PortBuckets → ℕ → ℕ → List PortBuckets
with_query_taken ports port now = slice_set ports port (query_taken now (at_port ports port))

abbrev pub with_narrow_taken : List PortBuckets → ℕ → ℕ → List PortBuckets
with_narrow_taken ports port now = slice_set ports port (narrow_taken now (at_port ports port))

abbrev pub with_directed_taken : List PortBuckets → ℕ → ℕ → List PortBuckets
with_directed_taken ports port now = slice_set ports port (directed_taken now (at_port ports port))
