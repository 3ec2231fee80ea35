-- How often each client may flood an ipxnet server. Defined by this project.
use Rattle.std.specs.Prelude.{ℕ, List, [], ◌∷◌, ◌++◌, Bool, not, ◌&&◌, count_by, filter, nat_lt, if◌then◌else◌}
use Rattle.std.specs.declared.net.socket_addr.SocketAddrV4.{SocketAddrV4}
use Rattle.token_bucket.specs.declared.bucket.RateLimit.{RateLimit}
use Rattle.token_bucket.specs.TokenBucket.{back_after, bucket_clock, has_tokens}
use Rattle.ipxnet_server.specs.declared.flooders.Flooder.{Flooder}
use Rattle.ipxnet_server.specs.ServerClients.{are_one_place}

-- what passes of each client
abbrev pub flood_limit : RateLimit
flood_limit = record { burst = 256; per_second = 128 }

-- how many clients with missing tokens are remembered at most. A server has fewer
abbrev pub max_flooders : ℕ
max_flooders = 256

abbrev pub is_flooder_at : SocketAddrV4 → Flooder → Bool
is_flooder_at place f = are_one_place f.place place

-- when all tokens of an address are back, by the clock of its bucket; one that is not remembered has all its tokens
abbrev pub flooder_back : SocketAddrV4 → List Flooder → ℕ
flooder_back place [] = 0
flooder_back place (f ∷ rest) = if is_flooder_at place f then f.back else flooder_back place rest

-- this is another one, and it has missing tokens
abbrev pub is_other_flooder : SocketAddrV4 → ℕ → Flooder → Bool
is_other_flooder place clock f = not (is_flooder_at place f) && nat_lt clock f.back

-- an address has a token, and few enough others have missing tokens that it can be remembered
abbrev pub may_flood : SocketAddrV4 → ℕ → List Flooder → Bool
may_flood place now flooders =
    has_tokens flood_limit.burst 1 (flooder_back place flooders) (bucket_clock flood_limit now)
    && nat_lt (count_by (is_other_flooder place (bucket_clock flood_limit now)) flooders) max_flooders

-- when its tokens are back is remembered, and those with all their tokens are forgotten
abbrev pub flooders_with : SocketAddrV4 → ℕ → ℕ → List Flooder → List Flooder
flooders_with place clock back flooders = filter (is_other_flooder place clock) flooders
    ++ record { place = place; back = back } ∷ []

-- it took one
abbrev pub flooders_after : SocketAddrV4 → ℕ → List Flooder → List Flooder
flooders_after place now flooders = flooders_with place (bucket_clock flood_limit now)
    (back_after 1 (flooder_back place flooders) (bucket_clock flood_limit now)) flooders
