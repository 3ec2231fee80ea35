use Rattle.ipx_config.specs.Site.{IsSiteTextFault}
use Rattle.ipx_config.proofs.Faults.{status_is}
use Rattle.ipx_config.proofs.files.site_in.Goals as goal

pub returns-in-Err-clause-fault : goal.returns-in-Err-clause-fault
returns-in-Err-clause-fault g c =
    status_is IsSiteTextFault c.args.bytes.now c.in_ok-text.text.now c.in-Err.fault c.tell_fault.result c.in_ok-text.ensures.text.0 c.in-Err.ensures.fault c.tell_fault.ensures
