-- Frames with the same addresses are forwarded alike, and leave the switch the same.
use Rattle.std.proofs.Common.{◌≡◌, ℕ, List, true, length, take, drop, refl, sym, ap, ◌∙◌, arith}
use Rattle.std.proofs.lemmas.List.{drop-take, take-take}
use Rattle.ipx_ethernet.specs.Heard.{SwitchView, apart_from_notices, switch_passing, may_pass, way_after}

-- the addresses are the first twelve bytes
to_in : (bytes : List ℕ) → take 6 bytes ≡ take 6 (take 12 bytes)
to_in bytes = sym (take-take 6 12 bytes (omega arith))

from_in : (bytes : List ℕ) → take 6 (drop 6 bytes) ≡ drop 6 (take 12 bytes)
from_in bytes = sym (drop-take 6 6 bytes)

to_alike : (bytes other : List ℕ) → take 12 bytes ≡ take 12 other → take 6 bytes ≡ take 6 other
to_alike bytes other same = to_in bytes ∙ ap (take 6) same ∙ sym (to_in other)

from_alike : (bytes other : List ℕ) → take 12 bytes ≡ take 12 other → take 6 (drop 6 bytes) ≡ take 6 (drop 6 other)
from_alike bytes other same = from_in bytes ∙ ap (drop 6) same ∙ sym (from_in other)

pub switch_alike : (h : SwitchView) (bytes other : List ℕ) (end now : ℕ) → take 12 bytes ≡ take 12 other → may_pass (length bytes) ≡ true → may_pass (length other) ≡ true
    → apart_from_notices (switch_passing h bytes end now) ≡ apart_from_notices (switch_passing h other end now)
switch_alike h bytes other end now same one two =
    rw (one, two, to_alike bytes other same, from_alike bytes other same) refl

way_alike : (h : SwitchView) (bytes other : List ℕ) (end now : ℕ) → take 12 bytes ≡ take 12 other → may_pass (length bytes) ≡ true → may_pass (length other) ≡ true
    → way_after h bytes end now ≡ way_after h other end now
way_alike h bytes other end now same one two =
    rw (one, two, to_alike bytes other same, from_alike bytes other same) refl

pub way_passing_alike : (h : SwitchView) (bytes other : List ℕ) (end now : ℕ) → take 12 bytes ≡ take 12 other → may_pass (length bytes) ≡ true → may_pass (length other) ≡ true
    → way_after (switch_passing h bytes end now) bytes end now ≡ way_after (switch_passing h other end now) other end now
way_passing_alike h bytes other end now same one two =
    way_alike (switch_passing h bytes end now) bytes other end now same one two ∙ ap (λ (g : SwitchView). way_after g other end now) (switch_alike h bytes other end now same one two)
