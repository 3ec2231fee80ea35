-- How many bytes are acknowledged, after the first messages are removed.
use Rattle.std.proofs.Common.{◌≡◌, ℕ, ◌+◌, ◌-◌, ◌*◌, ◌^◌, ◌<◌, ◌≤◌, List, [], ◌∷◌, ◌++◌, refl, sym, ap, ◌∙◌, subst, arith, append_assoc, append-nil, min, length, get_or}
use Rattle.std.specs.Prelude.{sum}
use Rattle.std.proofs.lemmas.List.Sums.{sum_by-cons, sum_by_push}
use Rattle.ipx_carrier.specs.Counting.{counted}
use Rattle.ipx_host.specs.AckedBytes.{CountsAcknowledged, IsFirstOpen, all_units, bytes_acknowledged, units_in}

-- 534 bytes for each unit of a message are no fewer than it has
whole_units : (b n : ℕ) → units_in b ≤ n → min b (534 * n) ≡ b
whole_units b n h = omega arith

pub one_unit : (b : ℕ) → 0 < units_in b
one_unit b = omega arith

no_bytes : (left : List ℕ) → bytes_acknowledged left 0 ≡ 0
no_bytes [] = refl
no_bytes (b ∷ more) =
    let none : 0 - units_in b ≡ 0 = omega arith in
    omega (arith, ap (bytes_acknowledged more) none ∙ no_bytes more)

-- the first ones count fully
bytes_gone : (gone left : List ℕ) (begun : ℕ) → bytes_acknowledged (gone ++ left) (all_units gone + begun) ≡ sum gone + bytes_acknowledged left begun
bytes_gone [] left begun =
    let all : all_units [] + begun ≡ begun = omega arith in
    omega (arith, ap (bytes_acknowledged left) all)
bytes_gone (b ∷ gone) left begun =
    let units = all_units (b ∷ gone) + begun in
    let all : all_units (b ∷ gone) ≡ units_in b + all_units gone = sum_by-cons units_in b gone in
    let bytes : sum (b ∷ gone) ≡ b + sum gone = sum_by-cons (λ x. x) b gone in
    let rest : units - units_in b ≡ all_units gone + begun = omega (arith, all) in
    let first : min b (534 * units) ≡ b = whole_units b units (omega (arith, all)) in
    let others : bytes_acknowledged (gone ++ left) (units - units_in b) ≡ sum gone + bytes_acknowledged left begun = ap (bytes_acknowledged (gone ++ left)) rest ∙ bytes_gone gone left begun in
    omega (arith, first, others, bytes)

-- so many units of the first remaining message count, and none after it
bytes_open : (b : ℕ) (more : List ℕ) (begun : ℕ) → begun < units_in b → bytes_acknowledged (b ∷ more) begun ≡ min b (534 * begun)
bytes_open b more begun h =
    let none : begun - units_in b ≡ 0 = omega arith in
    let others : bytes_acknowledged more (begun - units_in b) ≡ 0 = ap (bytes_acknowledged more) none ∙ no_bytes more in
    omega (arith, others)

counts_bytes : (given : List ℕ) (units : ℕ) (left : List ℕ) (begun whole : ℕ) → CountsAcknowledged given units left begun whole
    → counted (bytes_acknowledged given units) ≡ counted (whole + bytes_acknowledged left begun)
counts_bytes given units left begun whole c =
    let is : bytes_acknowledged given units ≡ sum c.gone + bytes_acknowledged left begun =
    ap (λ l. bytes_acknowledged l units) c.in_order ∙ ap (bytes_acknowledged (c.gone ++ left)) c.acknowledged ∙ bytes_gone c.gone left begun in
    omega (arith, is, c.bytes)

pub exact_none : (given : List ℕ) (units : ℕ) (left : List ℕ) (begun whole : ℕ) → CountsAcknowledged given units left begun whole → left ≡ [] → counted (whole + 0) ≡ counted (bytes_acknowledged given units)
exact_none given units left begun whole c none =
    omega (arith, counts_bytes given units left begun whole c, ap (λ l. bytes_acknowledged l begun) none)

pub exact_some : (given : List ℕ) (units : ℕ) (left : List ℕ) (begun whole first : ℕ) → CountsAcknowledged given units left begun whole → IsFirstOpen left begun
    → 0 < length left → first ≡ get_or left 0 first
    → counted (whole + min (min (begun * 534) (2 ^ 64 - 1)) first) ≡ counted (bytes_acknowledged given units)
exact_some given units [] begun whole first c unclosed some is = absurd (omega arith)
exact_some given units (b ∷ more) begun whole first c unclosed some is =
    omega (arith, counts_bytes given units (b ∷ more) begun whole c, bytes_open b more begun unclosed)

-- nothing was queued
pub counts_none : CountsAcknowledged [] 0 [] 0 0
counts_none = record { gone = []; in_order = refl; acknowledged = refl; bytes = refl }

-- one more message
pub counts_pushed : (given : List ℕ) (units : ℕ) (left : List ℕ) (begun whole bytes : ℕ) → CountsAcknowledged given units left begun whole → CountsAcknowledged (given ++ bytes ∷ []) units (left ++ bytes ∷ []) begun whole
counts_pushed given units left begun whole bytes c =
    record {
      gone = c.gone;
      in_order = ap (λ l. l ++ bytes ∷ []) c.in_order ∙ append_assoc c.gone left (bytes ∷ []);
      acknowledged = c.acknowledged;
      bytes = c.bytes;
    }

-- it is not fully acknowledged, if no more units are than were queued
pub open_pushed : (given : List ℕ) (units : ℕ) (left : List ℕ) (begun whole bytes : ℕ) → CountsAcknowledged given units left begun whole → units ≤ all_units given
    → IsFirstOpen left begun → IsFirstOpen (left ++ bytes ∷ []) begun
open_pushed given units [] begun whole bytes c few unclosed =
    let all : all_units given ≡ all_units c.gone = ap all_units (c.in_order ∙ append-nil c.gone) in
    omega (arith, all, c.acknowledged, few, one_unit bytes)
open_pushed given units (b ∷ more) begun whole bytes c few unclosed = unclosed

-- the first remaining message is removed
pub counts_closed : (given : List ℕ) (units b : ℕ) (left more : List ℕ) (begun begun' whole whole' : ℕ) → left ≡ b ∷ more → begun ≡ units_in b + begun' → whole' ≡ counted (whole + b)
    → CountsAcknowledged given units left begun whole → CountsAcknowledged given units more begun' whole'
counts_closed given units b left more begun begun' whole whole' is enough bytes c =
    record {
      gone = c.gone ++ b ∷ [];
      in_order = c.in_order ∙ ap (λ l. c.gone ++ l) is ∙ sym (append_assoc c.gone (b ∷ []) more);
      acknowledged = omega (arith, c.acknowledged, enough, sum_by_push units_in c.gone b);
      bytes = omega (arith, c.bytes, bytes, sum_by_push (λ x. x) c.gone b);
    }

-- and takes more units than the one by which it was not acknowledged whole
pub few_closed : (units b count begun begun' : ℕ) (left more : List ℕ) → left ≡ b ∷ more → IsFirstOpen left units → begun ≡ counted (units + count) → begun ≡ units_in b + begun' → begun' + 1 ≤ count
few_closed units b count begun begun' left more is unclosed all enough =
    let h : IsFirstOpen (b ∷ more) units = subst (λ l. IsFirstOpen l units) is unclosed in omega arith

-- more units are acknowledged
pub counts_more : (given : List ℕ) (units : ℕ) (left : List ℕ) (begun whole more begun' : ℕ) → CountsAcknowledged given units left begun whole → units + more < 2 ^ 64 → begun' ≡ counted (begun + more)
    → CountsAcknowledged given (units + more) left begun' whole
counts_more given units left begun whole more begun' c few is =
    record {
      gone = c.gone;
      in_order = c.in_order;
      acknowledged = omega (arith, c.acknowledged, is);
      bytes = c.bytes;
    }
