-- The lines of replies, one more at a time.
use Rattle.std.proofs.Common.{◌≡◌, ◌<◌, ◌+◌, ℕ, List, [], ◌∷◌, ◌++◌, length, get_or, take, append-nil, append_assoc, sym, ap, ◌∙◌}
use Rattle.std.specs.List.{flat_map}
use Rattle.std.proofs.lemmas.List.{take_more}
use Rattle.ipx_router.specs.declared.outcome.Reply.{Reply}
use Rattle.ipx_router.specs.RouterPackets.{sending_of, sendings}
use Rattle.ipx_inspect.specs.Line.{sending_line}

lines_push : (xs : List Reply) (r : Reply) → flat_map sending_line (sendings (xs ++ r ∷ [])) ≡ flat_map sending_line (sendings xs) ++ sending_line (sending_of r)
lines_push [] r = append-nil (sending_line (sending_of r))
lines_push (x ∷ xs) r =
    ap (λ t. sending_line (sending_of x) ++ t) (lines_push xs r) ∙ sym (append_assoc (sending_line (sending_of x)) (flat_map sending_line (sendings xs)) (sending_line (sending_of r)))

pub lines_more : (replies : List Reply) (i : ℕ) (r : Reply) → i < length replies → r ≡ get_or replies i r
    → flat_map sending_line (sendings (take (i + 1) replies)) ≡ flat_map sending_line (sendings (take i replies)) ++ sending_line (sending_of r)
lines_more replies i r lt is =
    ap (λ (rs : List Reply). flat_map sending_line (sendings rs)) (take_more replies i r lt ∙ ap (λ (x : Reply). take i replies ++ x ∷ []) (sym is)) ∙ lines_push (take i replies) r
