use Rattle.std.proofs.Common.{sym, ◌∙◌}
use Rattle.toml.specs.View.{view}
use Rattle.ipx_config.proofs.WireEnds.{none_learn}
use Rattle.ipx_config.proofs.ethernet_values.remotes_of.Goals as goal

pub returns-then-is_any : goal.returns-then-is_any
returns-then-is_any c =
    none_learn c.args.tunnel c.args.own (view c.args.value.now) (c.is_any.ensures.any c.if-is_any.true) (sym c.can_learn.ensures ∙ c.if-can_learn.false)
