use Rattle.std.proofs.Common.{◌≡◌, ◌≢◌, refl}
use Rattle.std.proofs.lemmas.Result.{IfErr-weaker, err_from_is_err_and}
use Rattle.ipx_query_cmd.specs.declared.fault.AskFault.TheVariants as Faults
use Rattle.ipx_query_cmd.proofs.Pauses.{memory_waits, unwritten_waits}
use Rattle.ipx_query_cmd.proofs.pinging_host.write_news.Goals as goal

pub returns-in_err-text-clause-fault : goal.returns-in_err-text-clause-fault
returns-in_err-text-clause-fault g c =
    let p = err_from_is_err_and c.from_residual.result c.from_residual.ensures.1 in
    rw (p.1, p.2) (λ is. memory_waits Faults.OutOfMemory refl is)

pub returns-clause-fault : goal.returns-clause-fault
returns-clause-fault g c = IfErr-weaker c.write_now.result (λ f. f ≡ Faults.Unwritten) (λ f. f ≢ Faults.Wait) unwritten_waits c.write_now.ensures.fault
