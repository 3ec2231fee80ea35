-- Laws of numbers and addresses in bytes, for crates that read and write further packets. The public function
-- `field_laws` proves them.
use Rattle.std.specs.Prelude.{◌≡◌, ◌≤◌, ℕ, ◌+◌, List, ◌++◌, length, drop}
use Rattle.byteorder.specs.Endian.{big_bytes}
use Rattle.ipx_wire.specs.declared.address.Address.{Address}
use Rattle.ipx_wire.specs.Ipx.{IsAddress, IsAddressInRange, IsBytes, address_bytes, number}

-- numbers: bytes after one change nothing; its bytes are bytes; and lists of bytes that begin with one
-- number, of two bytes or of four, and have equal rests, are equal
pub record NumberLaws : Type 0 where
  pub before_any_bytes : (count at : ℕ) (bytes tail : List ℕ) → at + count ≤ length bytes
      → number count at (bytes ++ tail) ≡ number count at bytes
  pub has_bytes : (count n : ℕ) → IsBytes (big_bytes count n)
  pub two_are_one_list : (xs ys : List ℕ) → IsBytes xs → IsBytes ys → 2 ≤ length xs → 2 ≤ length ys
      → number 2 0 xs ≡ number 2 0 ys → drop 2 xs ≡ drop 2 ys → xs ≡ ys
  pub four_are_one_list : (xs ys : List ℕ) → IsBytes xs → IsBytes ys → 4 ≤ length xs
      → 4 ≤ length ys → number 4 0 xs ≡ number 4 0 ys → drop 4 xs ≡ drop 4 ys → xs ≡ ys

-- addresses: bytes begin with at most one; each in range has its bytes, which are bytes; bytes after one
-- change nothing; and lists of bytes that begin with one address and have equal rests are equal
pub record AddressLaws : Type 0 where
  pub is_one : (a b : Address) (bytes : List ℕ) → IsAddress a bytes → IsAddress b bytes → a ≡ b
  pub is_read : (a : Address) (rest : List ℕ) → IsAddressInRange a
      → IsAddress a (address_bytes a ++ rest)
  pub has_bytes : (a : Address) → IsBytes a.node.0 → IsBytes (address_bytes a)
  pub before_any_bytes : (a : Address) (bytes tail : List ℕ) → 12 ≤ length bytes
      → IsAddress a bytes → IsAddress a (bytes ++ tail)
  pub are_one_list : (a : Address) (xs ys : List ℕ) → IsBytes xs → IsBytes ys → 12 ≤ length xs
      → 12 ≤ length ys → IsAddress a xs → IsAddress a ys → drop 12 xs ≡ drop 12 ys → xs ≡ ys

-- lists of bytes: what follows the first n is bytes, and so are two of them joined
pub record ByteLaws : Type 0 where
  pub behind : (n : ℕ) (xs : List ℕ) → IsBytes xs → IsBytes (drop n xs)
  pub joined : (xs ys : List ℕ) → IsBytes xs → IsBytes ys → IsBytes (xs ++ ys)

pub record FieldLaws : Type 0 where
  pub bytes : ByteLaws
  pub numbers : NumberLaws
  pub addresses : AddressLaws
