use Rattle.std.proofs.Common.{◌≡◌, Ok}
use Rattle.hex.specs.Hex.{decode_of}
use Rattle.ipx_inspect.proofs.show.lines_for_text.Goals as goal

pub returns-in-Ok : goal.returns-in-Ok
returns-in-Ok c =
    let known : decode_of c.args.text.now ≡ Ok c.in-Ok.bytes.items = c.in-Ok.ensures.ok in
    rw (known, ← c.deref.ensures.value) c.lines_for_bytes.ensures
