use Rattle.std.proofs.Common.{◌≡◌, string_bytes, take}
use Rattle.std.specs.List.{flat_map}
use Rattle.ipx_config.specs.Checked.{joined_remark}
use Rattle.ipx_config.proofs.checking.join_to_remarks.Given as goal

abbrev pub invariant-loop-router : goal.invariant-loop-router
invariant-loop-router l = string_bytes l.remarks ≡ flat_map (joined_remark l.whose l.own) (take l.router-index l.routers)
