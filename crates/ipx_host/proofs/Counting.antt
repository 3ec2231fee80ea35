-- How many units a message is cut into.
use Rattle.std.proofs.Common.{◌≡◌, ℕ, zero, suc, ◌-◌, ◌<◌, ◌≤◌, Bool, true, false, leb, List, length, drop, length-drop, refl, sym, ap, ◌∙◌, arith}
use Rattle.std.proofs.lemmas.Bool.{leb-true, leb-false}
use Rattle.spx_messages.specs.Cut.{pieces}
use Rattle.ipx_host.specs.AckedBytes.{units_in}

units_of_part : (n : ℕ) → n ≤ 534 → units_in n ≡ 1
units_of_part n h = omega arith

units_of_more : (n : ℕ) → 534 < n → units_in n ≡ suc (units_in (n - 534))
units_of_more n h = omega arith

pieces_more : (short : Bool) (more stream : ℕ) (body : List ℕ) → leb (length body) 534 ≡ short → length body ≤ suc more
    → ((rest : List ℕ) → length rest ≤ more → length (pieces more stream rest) ≡ units_in (length rest)) → length (pieces (suc more) stream body) ≡ units_in (length body)
pieces_more true more stream body short fits others =
    rw short (sym (units_of_part (length body) (leb-true (length body) 534 short)))
pieces_more false more stream body short fits others =
    let long = leb-false (length body) 534 short in
    rw short
    (ap suc (others (drop 534 body) (omega (arith, length-drop 534 body, long)))
    ∙ ap (λ n. suc (units_in n)) (length-drop 534 body) ∙ sym (units_of_more (length body) long))

pieces_counted : (most stream : ℕ) (body : List ℕ) → length body ≤ most → length (pieces most stream body) ≡ units_in (length body)
pieces_counted zero stream body fits = sym (units_of_part (length body) (omega arith))
pieces_counted (suc more) stream body fits =
    pieces_more (leb (length body) 534) more stream body refl fits (λ rest h. pieces_counted more stream rest h)

pub cut_counted : (body : List ℕ) → length (pieces (length body) 0 body) ≡ units_in (length body)
cut_counted body = pieces_counted (length body) 0 body (omega arith)
