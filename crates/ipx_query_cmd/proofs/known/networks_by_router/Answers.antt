use Rattle.std.proofs.Common.{String, ◌≡◌, ℕ, List, Result, Ok, Err, string_bytes, subst}
use Rattle.std.specs.Prelude.{IfOk, IsOkAnd}
use Rattle.std.specs.Global.{Global}
use Rattle.std.specs.Io.KnownBytes.{Appends}
use Rattle.ipx_query_cmd.specs.KnownLines.{known_networks_text}
use Rattle.ipx_query_cmd.proofs.known.networks_by_router.Goals as goal

-- what is written is the text that was made
written : {E : Type 0} (IsWritten : List ℕ → Type 0) (whole : List ℕ) (lines : Result (String Global) E)
    → IsOkAnd lines (λ l. IsWritten (string_bytes l)) → IfOk lines (λ l. string_bytes l ≡ whole) → IsWritten whole
written IsWritten whole (Ok l) is same = subst IsWritten same is
written IsWritten whole (Err e) is same = absurd is

pub returns-in-Ok-clause-listed : goal.returns-in-Ok-clause-listed
returns-in-Ok-clause-listed g c = λ zero.
    let whole = known_networks_text c.args.json c.as_str-in-Ok.result.now c.deref.result.now in (
      whole,
      record {
        place = c.in-Some.place;
        tables = c.in-Ok.tables.items;
        known = record { named = c.in-Some.is; whole = c.in-Ok.ensures.whole };
        prints = λ i. known_networks_text c.args.json (c.as_str-in-Ok.ensures.value i) (c.deref.ensures.value i);
      },
      written (Appends (g.W.Write.contents c.args.writer.now) (g.W.Write.contents c.write_known.new.writer)) whole c.known_networks_to_text-lines.result (c.write_known.ensures.written zero) c.known_networks_to_text-lines.ensures,
    )
