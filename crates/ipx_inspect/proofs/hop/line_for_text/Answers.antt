use Rattle.std.proofs.Common.{◌≡◌, Some, sym, ◌∙◌, ap}
use Rattle.std.specs.Option.{option_map}
use Rattle.ipx_inspect.specs.Text.{packet_of_text}
use Rattle.ipx_inspect.proofs.hop.line_for_text.Goals as goal

pub returns-in-Some : goal.returns-in-Some
returns-in-Some c =
    let known : packet_of_text c.args.text.now ≡ Some c.in-Some.bytes.items = sym c.in_ok-bytes_of_text.ensures ∙ ap (option_map (λ v. v.items)) c.in-Some.is in
    rw (known, ← c.deref.ensures.value) c.line_for_bytes.ensures
