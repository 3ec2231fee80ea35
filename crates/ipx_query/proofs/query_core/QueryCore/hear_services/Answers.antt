use Rattle.std.proofs.Common.{refl}
use Rattle.ipx_query.proofs.query_core.QueryCore.hear_services.Goals as goal

pub returns-in-Err-clause-refused : goal.returns-in-Err-clause-refused
returns-in-Err-clause-refused c kind = rw (← c.self.view_is) (c.hear_sap.new.services, c.in-Err.ensures.refused, refl)

pub returns-in-Ok-clause-heard : goal.returns-in-Ok-clause-heard
returns-in-Ok-clause-heard c kind = rw (← c.self.view_is) (c.in-Ok.answer, c.hear_sap.new.services, c.in-Ok.ensures.answer, c.note.ensures)
