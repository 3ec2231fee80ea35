-- The limits at the ports of a router, as its file sets them. Defined by this project.
use Rattle.std.specs.Prelude.{List, Bool, true, false, Option, Some, None, map}
use Rattle.ipx_rate_limits.specs.declared.port_buckets.PortBuckets.{PortBuckets}
use Rattle.ipx_config.specs.declared.site.Directed.{Directed}
use Rattle.ipx_config.specs.declared.site.Directed.TheVariants.{Never, Few, Always}
use Rattle.ipx_config.specs.declared.site.Kind.{Kind}
use Rattle.ipx_config.specs.declared.site.Kind.TheVariants as Of
use Rattle.ipx_config.specs.declared.site.PortConfig.{PortConfig}
use Rattle.token_bucket.specs.declared.bucket.RateLimit.{RateLimit}
use Rattle.token_bucket.specs.declared.bucket.TokenBucket.{TokenBucket}
use Rattle.ipx_rate_limits.specs.PortBuckets.{never}
use Rattle.ipx_config.specs.PortKinds.{directed_of_kind, kind_of_port}
use Rattle.token_bucket.specs.TokenBucket.{full_bucket}

-- the usual limits of a port, the second one for narrow queries
abbrev pub usual : RateLimit
usual = record { burst = 16; per_second = 8 }

abbrev pub usual_narrow : RateLimit
usual_narrow = record { burst = 64; per_second = 32 }

-- the limit of general queries that come by a port: lower for all clients of an ipxnet port together
abbrev pub query_limit : Kind → RateLimit
query_limit Of.Rfc1234 = usual
query_limit Of.Ethernet = usual
query_limit Of.Ipxnet = record { burst = 2; per_second = 1 }

-- the limit of narrow queries that come by it: higher, since each is answered by one packet
abbrev pub narrow_limit : Kind → RateLimit
narrow_limit Of.Rfc1234 = usual_narrow
narrow_limit Of.Ethernet = usual_narrow
narrow_limit Of.Ipxnet = record { burst = 8; per_second = 4 }

-- the limit of directed broadcasts that leave by it: none, few, or all
abbrev pub directed_bucket : Directed → Option TokenBucket
directed_bucket Never = Some (full_bucket never)
directed_bucket Few = Some (full_bucket usual)
directed_bucket Always = None

-- a node of the port's network can be a group of stations: only on an Ethernet
abbrev pub has_group_nodes : Kind → Bool
has_group_nodes Of.Rfc1234 = false
has_group_nodes Of.Ethernet = true
has_group_nodes Of.Ipxnet = false

-- a port begins with full buckets
abbrev pub buckets_of_port : PortConfig → PortBuckets
buckets_of_port p = record {
  queries = full_bucket (query_limit (kind_of_port p));
  narrow = full_bucket (narrow_limit (kind_of_port p));
  directed = directed_bucket (directed_of_kind p);
  groups = has_group_nodes (kind_of_port p);
}

abbrev pub limits_of : List PortConfig → List PortBuckets
limits_of ports = map buckets_of_port ports
