use Rattle.std.specs.Prelude.{codes}
use Rattle.ipx_config.proofs.TemporaryNames.{tells_name}
use Rattle.ipx_config.proofs.values.is_temporary_of.Goals as goal

pub returns-in-Some : goal.returns-in-Some
returns-in-Some c =
    tells_name c.args.name.now c.args.other.now (codes ".new") c.as_bytes.result.now c.as_bytes-2.result.now c.in-Some.front.now c.as_bytes-in-Some.result.now c.eq.result
    c.as_bytes.ensures.value c.as_bytes-2.ensures.value c.in-Some.ensures.cases.1 c.in-Some.ensures.cases.0 c.eq.ensures c.as_bytes-in-Some.ensures.value
