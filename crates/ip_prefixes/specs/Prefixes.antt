-- Prefixes of IPv4 addresses: which addresses are in one, and which texts write one. Classless addresses:
-- RFC 4632.
use Rattle.std.specs.Prelude.{◌≡◌, ℕ, ◌+◌, ◌-◌, ◌*◌, ◌/◌, ◌%◌, ◌^◌, ◌==◌, ◌<◌, ◌≤◌, ◌⊎◌, Bool, List, [], ◌∷◌, Option, MatchOption}
use Rattle.std.specs.Int.{w32, from_be_bytes, to_be_bytes}
use Rattle.std.specs.List.{after_first, before_first, list_any}
use Rattle.std.specs.Net.Grammar.{IsDotted}
use Rattle.ip_prefixes.specs.declared.prefix.Prefix.{Prefix}

-- the first of the 32 bits of an IP address, as a number
abbrev pub first_bits : ℕ → List ℕ → ℕ
first_bits bits ip = from_be_bytes w32 ip / 2 ^ (32 - bits)

-- an IP address is in a prefix: their first bits are equal
abbrev pub is_in : Prefix → List ℕ → Bool
is_in p ip = first_bits p.bits ip == first_bits p.bits p.address

-- an IP address is in one of these prefixes
abbrev pub is_in_some : List Prefix → List ℕ → Bool
is_in_some ps ip = list_any (λ p. is_in p ip) ps

-- the first IP address in a prefix: its other bits are 0
abbrev pub network_of : Prefix → List ℕ
network_of p = to_be_bytes w32 (first_bits p.bits p.address * 2 ^ (32 - p.bits))

-- a number from 8 to 32, in one decimal digit, or two of which the first is not 0
abbrev pub WritesBits : List ℕ → ℕ → Type 0
WritesBits text bits = (8 ≤ bits) × (bits ≤ 32)
    × (((bits < 10) × (text ≡ (48 + bits) ∷ []))
    ⊎ ((10 ≤ bits) × (text ≡ (48 + bits / 10) ∷ (48 + bits % 10) ∷ [])))

-- the byte is a slash
abbrev pub is_slash : ℕ → Bool
is_slash b = b == 47

-- an IP address, a slash and a number of bits. Bits of the address after those may be set
abbrev pub WritesPrefix : List ℕ → Prefix → Type 0
WritesPrefix text p = IsDotted (before_first is_slash text) p.address
    × WritesBits (after_first is_slash text) p.bits

-- the prefix of one IP address
abbrev pub one_address : List ℕ → Prefix
one_address ip = record { address = ip; bits = 32 }

-- ---- relations for private functions

-- the number that a text gives, or that it gives none
abbrev pub ReadsBits : List ℕ → Option ℕ → Type 0
ReadsBits text found = MatchOption found ((n : ℕ) → WritesBits text n → ⊥) (WritesBits text)

-- the prefix that a text gives, or that it gives none
abbrev pub ReadsPrefix : List ℕ → Option Prefix → Type 0
ReadsPrefix text found = MatchOption found ((p : Prefix) → WritesPrefix text p → ⊥) (WritesPrefix text)
