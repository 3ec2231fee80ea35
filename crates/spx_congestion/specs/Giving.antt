-- What a link gave, as a pacer counts it (defined by this project).
use Rattle.std.specs.Prelude.{ℕ, ◌==◌, if◌then◌else◌}
use Rattle.spx_link.specs.Limits.{end_stream}
use Rattle.spx_link.specs.declared.outgoing.Sent.{Sent}
use Rattle.spx_link.specs.declared.outgoing.Sent.TheVariants as Sents
use Rattle.spx_congestion.specs.declared.sent_kind.SentKind.{SentKind}
use Rattle.spx_congestion.specs.declared.sent_kind.SentKind.TheVariants as Gaves

-- by the kind of packet, and its datastream type
abbrev pub gave_of : Sent → ℕ → SentKind
gave_of Sents.Request stream = Gaves.Request
gave_of Sents.Reply stream = Gaves.Other
gave_of Sents.Confirm stream = Gaves.Other
gave_of Sents.Unit stream = if stream == end_stream then Gaves.End else Gaves.Unit
gave_of Sents.Again stream = Gaves.Again
gave_of Sents.Ack stream = Gaves.Other
gave_of Sents.Probe stream = Gaves.Other
