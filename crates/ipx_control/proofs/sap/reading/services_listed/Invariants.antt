use Rattle.std.proofs.Common.{◌≡◌, ◌++◌}
use Rattle.ipx_control.proofs.sap.reading.services_listed.Given as goal

-- the list so far, with what is left, is all there was
abbrev pub invariant-loop-service : goal.invariant-loop-service
invariant-loop-service l = l.listed.items ++ l.service-iterator ≡ l.fn.services
