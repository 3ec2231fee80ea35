use Rattle.std.proofs.Common.{rules, ◌≡◌, ◌<◌, ℕ, List, Option, Some, None, Ok, IfSome, ap, length, take, ◌∙◌}
use Rattle.std.specs.declared.net.socket_addr.SocketAddr.{SocketAddr}
use Rattle.ipx_carrier.specs.declared.placed_socket.PlacedSocket.{PlacedSocket}
use Rattle.ipx_carrier.specs.Traces.{EndsTries, failed_to_receive, found_nothing, received_from}
use Rattle.ipx_carrier.proofs.placed_socket.PlacedSocket.receive_in_tries.Goals as goal

-- the try after some that failed brought this
ends : (failed : ℕ) (came : Option (ℕ × SocketAddr)) (room : List ℕ) (old mid new : PlacedSocket) → failed < 8 → mid ≡ failed_to_receive failed (length room) old
    → IfSome came (λ c. new ≡ received_from mid c.1 (length room) (take c.0 room)) → (came ≡ None → new ≡ found_nothing mid (length room))
    → EndsTries failed (Ok came) room old new
ends failed (Some c) room old mid new few is something nothing = (few, something ∙ ap (λ (s : PlacedSocket). received_from s c.1 (length room) (take c.0 room)) is)
ends failed None room old mid new few is something nothing = (few, nothing (search rules) ∙ ap (λ (s : PlacedSocket). found_nothing s (length room)) is)

pub returns-in-Ok-clause-tries : goal.returns-in-Ok-clause-tries
returns-in-Ok-clause-tries c =
    (c.loop-failed.failed, search rules, ends c.loop-failed.failed c.in-Ok.came c.receive.new.room c.args.self.now c.loop-failed.self c.receive.new.self (search rules) (search rules) (search rules) (search rules))

pub returns-clause-tries : goal.returns-clause-tries
returns-clause-tries c = (8, search rules, (search rules, search rules))
