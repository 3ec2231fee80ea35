use Rattle.std.proofs.Common.{◌≡◌, Option, ap, false, not, sym, ◌∙◌}
use Rattle.std.specs.Prelude.{is_some}
use Rattle.ipxnet_server.specs.declared.drops.ServerDrop.{ServerDrop}
use Rattle.ipxnet_server.specs.ServerHears.{stranger_drop}
use Rattle.ipxnet_server.proofs.Hears.{stranger_room}
use Rattle.ipxnet_server.proofs.server.IpxnetServer.admits.Goals as goal

pub returns-then-is_none-clause-room : goal.returns-then-is_none-clause-room
returns-then-is_none-clause-room c =
    λ is.
    let l = c.args.self.now in
    let none : is_some (stranger_drop l c.args.from c.args.header c.args.now) ≡ false = sym (ap (λ (o : Option ServerDrop). is_some o) c.refuses_stranger.ensures) ∙ c.is_none-then-is_none.ensures ∙ ap not is in
    stranger_room l c.args.from c.args.header c.args.now none
