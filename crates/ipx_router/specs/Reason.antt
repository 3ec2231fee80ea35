-- The numbers of the reasons to drop a datagram. Defined by this project.
use Rattle.std.specs.Prelude.{ℕ}
use Rattle.ipx_router.specs.declared.reason.Reason.{Reason}
use Rattle.ipx_router.specs.declared.reason.Reason.TheVariants.{Bad, Propagated, NotOurs, NoRoute, HopLimit, BadControl, TableFull}

-- the fault inside Bad and BadControl has a number of its own
abbrev pub reason_number : Reason → ℕ
reason_number (Bad fault) = 18
reason_number Propagated = 19
reason_number NotOurs = 20
reason_number (NoRoute network) = 21
reason_number HopLimit = 22
reason_number (BadControl fault) = 23
reason_number TableFull = 24
