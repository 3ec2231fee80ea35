use Rattle.std.proofs.Common.{◌∙◌, ℕ, List, subst}
use Rattle.std.specs.Prelude.{IfOk}
use Rattle.std.specs.Io.KnownBytes.{Appends}
use Rattle.ipx_site.specs.RoutingRuns.{StartsByText}
use Rattle.ipx_site.proofs.TextRuns.{on_ok}
use Rattle.ipx_site.proofs.players.start_ipxnet.Goals as goal

pub returns-clause-starts : goal.returns-clause-starts
returns-clause-starts g c =
    subst (λ (text : List ℕ). IfOk c.start_text.result (λ s. StartsByText text s)) (c.deref-2.ensures ∙ c.in-Ok.ensures) c.start_text.ensures.starts

pub returns-clause-written : goal.returns-clause-written
returns-clause-written g c =
    on_ok c.start_text.result (subst (λ (text : List ℕ). Appends (g.W.Write.contents c.args.writer.now) (g.W.Write.contents c.write_text.new.writer) text) (c.deref.ensures ∙ c.in-Ok.ensures) c.in_ok-write_text.ensures.written)
