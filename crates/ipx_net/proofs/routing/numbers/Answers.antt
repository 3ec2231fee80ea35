use Rattle.std.proofs.Common.{ℕ, ◌≡◌, ◌+◌, ◌∷◌, [], ◌++◌, List, map, ap, sym, ◌∙◌, arith}
use Rattle.std.specs.List.{range_with_len}
use Rattle.std.proofs.lemmas.List.FromFn.{map-range_with_len_more}
use Rattle.ipx_net.proofs.routing.numbers.Goals as goal

one_more : (first k : ℕ) → map (λ j. first + j) (range_with_len 0 (k + 1)) ≡ map (λ j. first + j) (range_with_len 0 k) ++ (first + k) ∷ []
one_more first k = map-range_with_len_more (λ j. first + j) 0 k k (omega arith)

pub loop-k-preserved : goal.loop-k-preserved
loop-k-preserved c =
    c.in_ok-push.ensures.items ∙ ap (λ (xs : List ℕ). xs ++ (c.args.first + c.loop-k.k) ∷ []) c.loop-k.invariant ∙ sym (one_more c.args.first c.loop-k.k)
