use Rattle.std.proofs.Common.{◌≡◌, drop}
use Rattle.ipx_router.specs.RouterPackets.{sendings}
use Rattle.ipx_static.specs.WithStatics.{HearsAdvertisements, AdvertisementOutOfMemory}
use Rattle.ipx_static.proofs.hearing.hear_advertisements.Given as goal

abbrev pub invariant-loop-word : goal.invariant-loop-word
invariant-loop-word g l = record {
  heard : (new : g.row.C.Denot) → HearsAdvertisements g.C.Core.hears l.now (sendings (drop l.word-index l.advertisements)) l.core new → HearsAdvertisements g.C.Core.hears l.now (sendings l.advertisements) l.fn.core new;
  missed : (new : g.row.C.Denot) → AdvertisementOutOfMemory g.C.Core.hears g.C.Core.hear_out_of_memory l.now (sendings (drop l.word-index l.advertisements)) l.core new → AdvertisementOutOfMemory g.C.Core.hears g.C.Core.hear_out_of_memory l.now (sendings l.advertisements) l.fn.core new;
  ports : g.C.Core.port_count l.core ≡ g.C.Core.port_count l.fn.core;
}
