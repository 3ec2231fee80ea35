-- How a list is cut, and what a write to a part of it leaves.
use Rattle.std.proofs.Common.{◌≡◌, ◌≤◌, ℕ, ◌+◌, ◌-◌, List, ◌++◌, [], length, take, drop, arith, take-append-drop, sym, ap, ◌∙◌, refl, append_assoc}
use Rattle.std.proofs.Math.Seq.{take-append-add}
use Rattle.std.proofs.lemmas.List.{drop-drop, length-drop, length-append, take_at, drop_at, take_rest, drop_all, append-nil}
use Rattle.ipx_wire.specs.Ipx.{IsWritten}
use borrow.Rule.Slice.PartMut.{put_mid}

-- what was written is the front, and what follows it stays
pub written-front : (old written xs : List ℕ) (k : ℕ) → IsWritten old written xs k → take k xs ≡ written
written-front old written xs k was = rw was.is (take_at written (drop k old) k was.count)

pub written-behind : (old written xs : List ℕ) (k : ℕ) → IsWritten old written xs k → drop k xs ≡ drop k old
written-behind old written xs k was = rw was.is (drop_at written (drop k old) k was.count)

-- one more field, written to the part from k to k + n
pub write-part : (old written field xs ys : List ℕ) (k n : ℕ) → IsWritten old written xs k → length field ≡ n → ys ≡ field
    → IsWritten old (written ++ field) (put_mid k n xs ys) (k + n)
write-part old written field xs ys k n was len e =
    let front = written-front old written xs k was in
    let back = written-behind old written xs k was in
    record {
      is = rw (front, back, e, drop-drop n k old) (sym (append_assoc written field (drop (k + n) old)));
      count = omega (arith, was.count, len, length-append written field);
    }

-- one more field, written to the front of all from k on
pub write-rest : (old written field xs ys : List ℕ) (k n : ℕ) → IsWritten old written xs k → length field ≡ n
    → ys ≡ field ++ drop n (take (length xs - k) (drop k xs)) → IsWritten old (written ++ field) (put_mid k (length xs - k) xs ys) (k + n)
write-rest old written field xs ys k n was len e =
    let front = written-front old written xs k was in
    let back = written-behind old written xs k was in
    let over : drop (length xs - k) (drop k xs) ≡ [] = drop_all (length xs - k) (drop k xs) (omega (arith, length-drop k xs)) in
    let part : ys ≡ field ++ drop (k + n) old = e ∙ rw (take_rest xs k, back, drop-drop n k old) refl in
    record {
      is = rw (over, front, part) (rw (append-nil (field ++ drop (k + n) old)) (sym (append_assoc written field (drop (k + n) old))));
      count = omega (arith, was.count, len, length-append written field);
    }

-- so many of two lists, if that is no less than the first has
pub take-both : (n : ℕ) (xs ys : List ℕ) → length xs ≤ n → take n (xs ++ ys) ≡ xs ++ take (n - length xs) ys
take-both n xs ys le =
    let e : n ≡ length xs + (n - length xs) = omega (arith, le) in
    ap (λ (k : ℕ). take k (xs ++ ys)) e ∙ take-append-add xs ys (n - length xs)

-- a list whose front was replaced
pub fronted : (n : ℕ) (xs front : List ℕ) → take n xs ≡ front → xs ≡ front ++ drop n xs
fronted n xs front e = sym (take-append-drop n xs) ∙ ap (λ (t : List ℕ). t ++ drop n xs) e
