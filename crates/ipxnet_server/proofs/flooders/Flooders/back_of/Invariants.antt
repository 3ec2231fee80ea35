use Rattle.std.proofs.Common.{◌≡◌, drop}
use Rattle.ipxnet_server.specs.Flooders.{flooder_back}
use Rattle.ipxnet_server.proofs.flooders.Flooders.back_of.Given as goal

-- the address is none of those before
abbrev pub invariant-loop-known : goal.invariant-loop-known
invariant-loop-known l = flooder_back l.place (drop l.known-index l.known-items) ≡ flooder_back l.place l.known-items
