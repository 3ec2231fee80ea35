-- Definitions for private functions: what `check` has found so far, and the verdicts on the lines so far.
use Rattle.std.specs.Prelude.{◌≡◌, List, length, count_by, string_bytes}
use Rattle.ipx_inspect.specs.declared.check.CheckCounts as code
use Rattle.ipx_inspect.specs.Check.{VectorOutcomeView, failed_lines, is_failed, is_vector}

pub record IsTotals (vs : List VectorOutcomeView) (t : code.CheckCounts) : Type 0 where
  pub text : string_bytes t.text ≡ failed_lines vs
  pub lines : t.lines ≡ length vs
  pub vectors : t.vectors ≡ count_by is_vector vs
  pub failed : t.failed ≡ count_by is_failed vs
