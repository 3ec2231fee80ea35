-- Partial messages by the ids of links, and how a change of their list affects them.
use Rattle.std.proofs.Common.{◌≡◌, ◌≢◌, ℕ, List, [], ◌∷◌, ◌++◌, not, ◌==◌, filter, position, ap, None, Some, get_or, set}
use Rattle.spx_messages.specs.declared.parts.Part.{Part}
use Rattle.spx_messages.specs.EndpointView.{rest_in, rest_of}
use Rattle.spx_messages.proofs.Keyed.{has, gone, stays, written, written_separate, pushed, pushed_separate, found_at_place, found_nowhere, found_passes, eq_from}

abbrev pub id_of : Part → ℕ
id_of p = p.id

abbrev pub rests_without : ℕ → List Part → List Part
rests_without id parts = filter (λ (p : Part). not (p.id == id)) parts

pub rest_gone : (id : ℕ) (parts : List Part) → rest_in (rests_without id parts) id ≡ None
rest_gone id parts = ap rest_of (gone id_of id parts)

pub rest_stays : (id q : ℕ) (parts : List Part) → q ≢ id → rest_in (rests_without id parts) q ≡ rest_in parts q
rest_stays id q parts apart = ap rest_of (stays id_of id q parts apart)

-- ---- at an index

abbrev pub IsPlace : List Part → ℕ → ℕ → Type 0
IsPlace parts id k = position (λ (p : Part). p.id == id) parts ≡ Some k

pub id_at_place : (parts : List Part) (id k : ℕ) (x : Part) → IsPlace parts id k → x ≡ get_or parts k x → x.id ≡ id
id_at_place parts id k x is read = eq_from x.id id (found_passes (has id_of id) parts x (found_at_place (has id_of id) parts k x is read))

pub rest_at_place : (parts : List Part) (id k : ℕ) (x : Part) → IsPlace parts id k → x ≡ get_or parts k x → rest_in parts id ≡ x.inbox
rest_at_place parts id k x is read = ap rest_of (found_at_place (has id_of id) parts k x is read)

pub rest_nowhere : (parts : List Part) (id : ℕ) → position (λ (p : Part). p.id == id) parts ≡ None → rest_in parts id ≡ None
rest_nowhere parts id is = ap rest_of (found_nowhere (has id_of id) parts is)

pub rest_written : (parts : List Part) (id k : ℕ) (y : Part) → IsPlace parts id k → y.id ≡ id → rest_in (set parts k y) id ≡ y.inbox
rest_written parts id k y is same = ap rest_of (written id_of id parts k y is same)

pub rest_written_separate : (parts : List Part) (id q k : ℕ) (x y : Part) → IsPlace parts id k → x ≡ get_or parts k x → y.id ≡ id → q ≢ id → rest_in (set parts k y) q ≡ rest_in parts q
rest_written_separate parts id q k x y is read same apart = ap rest_of (written_separate id_of id q parts k x y is read same apart)

pub rest_pushed : (parts : List Part) (id : ℕ) (y : Part) → position (λ (p : Part). p.id == id) parts ≡ None → y.id ≡ id → rest_in (parts ++ y ∷ []) id ≡ y.inbox
rest_pushed parts id y free same = ap rest_of (pushed id_of id parts y (found_nowhere (has id_of id) parts free) same)

pub rest_pushed_separate : (parts : List Part) (id q : ℕ) (y : Part) → y.id ≡ id → q ≢ id → rest_in (parts ++ y ∷ []) q ≡ rest_in parts q
rest_pushed_separate parts id q y same apart = ap rest_of (pushed_separate id_of id q parts y same apart)
