-- What is wrong with a file that may be a router's or a host's.
use Rattle.std.proofs.Common.{◌≡◌, ℕ, List, Bool, true, false, true≢false, inl, inr, sym}
use Rattle.ipx_config.specs.Loading.{IsFileText, IsStatus}
use Rattle.ipx_config.specs.ConfigFile.{IsFaultOfStation}

-- a file that is a text is read as the kind of file that the text is, so the exit status is the same
pub status_of_kind : (bytes : List ℕ) (kind has : Bool) (status : ℕ) → (IsFileText bytes → kind ≡ has)
    → IsStatus (IsFaultOfStation kind bytes) bytes status → IsStatus (IsFaultOfStation has bytes) bytes status
status_of_kind bytes true true status same said = said
status_of_kind bytes false false status same said = said
status_of_kind bytes kind has status same (inl memory) = inl memory
status_of_kind bytes true false status same (inr said) = inr (said.0, inl (λ text. true≢false (same text)))
status_of_kind bytes false true status same (inr said) = inr (said.0, inl (λ text. true≢false (sym (same text))))
