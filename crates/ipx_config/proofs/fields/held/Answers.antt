use Rattle.toml.specs.View.{view}
use Rattle.toml.proofs.Views.{table_get}
use Rattle.ipx_config.proofs.Found.{found_as}
use Rattle.ipx_config.proofs.fields.held.Goals as goal

pub returns : goal.returns
returns c =
    let found = table_get c.get.result c.text.result.now c.args.table.now.entries c.get.ensures.value in
    found_as (λ v. view v.now) c.get.result _ (rw c.text.ensures at found)
