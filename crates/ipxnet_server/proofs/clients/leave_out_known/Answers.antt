use Rattle.std.proofs.Common.{◌≡◌, length, arith, rules}
use Rattle.std.specs.Vec.{vec_len}
use Rattle.ipxnet_server.proofs.Once.{shorter_known}
use Rattle.ipxnet_server.proofs.clients.leave_out_known.Goals as goal

pub returns-clause-room : goal.returns-clause-room
returns-clause-room c =
    let known = c.args.known.now in
    let kept = c.leave_out.new.known in
    let before : vec_len known ≡ length known.items = search rules in
    let after : vec_len kept ≡ length kept.items = search rules in
    omega (arith, before, after, shorter_known c.args.place known.items kept.items c.leave_out.ensures.items c.requires)
