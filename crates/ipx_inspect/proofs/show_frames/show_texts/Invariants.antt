use Rattle.std.proofs.Common.{◌≡◌, ℕ, List, map, take}
use Rattle.std.specs.Io.KnownBytes.{Appends}
use Rattle.ipx_inspect.specs.ShownFrame.{ShowsTexts}
use Rattle.ipx_inspect.proofs.show_frames.show_texts.Given as goal

-- what was written so far is the output for the lines so far
abbrev pub invariant-loop-text : goal.invariant-loop-text
invariant-loop-text g l = record {
  place : l.place ≡ l.text-index;
  wrote : (lines : List ℕ) × ShowsTexts l.own (take l.text-index (map (λ t. t.now) l.texts)) lines l.status × Appends (g.W.Write.contents l.fn.writer) (g.W.Write.contents l.writer) lines;
}
