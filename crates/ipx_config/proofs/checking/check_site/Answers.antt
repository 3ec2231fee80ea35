use Rattle.std.proofs.Common.{String, ◌≡◌, ℕ, List, Result, Ok, Err, subst}
use Rattle.std.specs.Prelude.{IfOk, IsOkAnd, string_bytes}
use Rattle.std.specs.Global.{Global}
use Rattle.std.specs.Io.KnownBytes.{Appends}
use Rattle.ipx_config.specs.Checked.{site_lines}
use Rattle.ipx_config.proofs.checking.check_site.Goals as goal

-- what is written is the text that was made
written : {E : Type 0} (IsWritten : List ℕ → Type 0) (whole : List ℕ) (lines : Result (String Global) E)
    → IsOkAnd lines (λ l. IsWritten (string_bytes l)) → IfOk lines (λ l. string_bytes l ≡ whole) → IsWritten whole
written IsWritten whole (Ok l) is same = subst IsWritten same is
written IsWritten whole (Err e) is same = absurd is

pub returns-in-Ok-clause-lines : goal.returns-in-Ok-clause-lines
returns-in-Ok-clause-lines g c zero =
    let (text, is, describes) = c.in-Ok.ensures.site in
    let made = written (Appends (g.W.Write.contents c.args.writer.now) (g.W.Write.contents c.write_checked.new.writer))
    (site_lines c.args.path.now c.in-Ok.site) c.site_to_lines.result (c.write_checked.ensures.written zero) c.site_to_lines.ensures in
    (text, c.in-Ok.site, is, describes, made)
