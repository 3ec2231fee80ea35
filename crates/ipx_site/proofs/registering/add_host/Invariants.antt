use Rattle.ipx_site.specs.Registering.{AddsAddresses}
use Rattle.ipx_site.proofs.registering.add_host.Given as goal

abbrev pub invariant-loop-place : goal.invariant-loop-place
invariant-loop-place g l = AddsAddresses l.fn.prefixes.items l.prefixes.items
