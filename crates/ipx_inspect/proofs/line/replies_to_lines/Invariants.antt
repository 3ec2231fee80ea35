use Rattle.std.proofs.Common.{◌≡◌, take, string_bytes}
use Rattle.std.specs.List.{flat_map}
use Rattle.ipx_router.specs.RouterPackets.{sendings}
use Rattle.ipx_inspect.specs.Line.{sending_line}
use Rattle.ipx_inspect.proofs.line.replies_to_lines.Given as goal

abbrev pub invariant-loop-reply : goal.invariant-loop-reply
invariant-loop-reply l = string_bytes l.lines ≡ flat_map sending_line (sendings (take l.reply-index l.replies))
