use Rattle.std.proofs.Common.{◌≡◌, [], string_bytes, take}
use Rattle.ipx_config.specs.Checked.{each_after, peer_remark}
use Rattle.ipx_config.proofs.checking.peers_to_remarks.Given as goal

abbrev pub invariant-loop-place : goal.invariant-loop-place
invariant-loop-place l = string_bytes l.remarks ≡ each_after (peer_remark l.whose l.address) [] (take l.place l.peers)
