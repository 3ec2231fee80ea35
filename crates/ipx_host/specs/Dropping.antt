-- What happens to the data that a sending host receives from its peer: it is taken and dropped. Nothing here
-- is from a public standard.
use Rattle.std.specs.Prelude.{◌≡◌, ◌≢◌, ◌<◌, ◌⊎◌, ℕ, [], Option, Some, None, Err}
use Rattle.spx_link.specs.Links.{count_of}
use Rattle.spx_messages.specs.Changes.{SameSelf}
use Rattle.spx_messages.specs.EndpointView.{EndpointView, Held, held_at}
use Rattle.spx_messages.specs.Taking.{IsPushed, overlong, take_end}
use Rattle.ipx_host.specs.Feeding.{KeepsQueue}
use Rattle.ipx_host.specs.Passing.{held_after}

-- dropping stops in three cases: nothing is left; out of memory for a unit, which is kept; or a message was
-- too long, which loses the link
abbrev pub StopsAt : Held → Option Held → Type 0
StopsAt h after = ((h.link.held ≡ []) × (after ≡ Some h))
    ⊎ ((IsPushed h × (after ≡ Some h))
    ⊎ (((take_end h).0 ≡ Err overlong) × (after ≡ Some (take_end h).1)))

-- units are dropped one after another until dropping stops, or until this many were dropped
abbrev pub Drops : ℕ → Held → Option Held → Type 0
Drops most h after = (count : ℕ)
    × (((count < most) × StopsAt (held_after count h) after)
    ⊎ ((count ≡ most) × (after ≡ Some (held_after count h))))

-- the same for what is held under an id, if anything is held
abbrev pub DropsFrom : ℕ → Option Held → Option Held → Type 0
DropsFrom most None after = after ≡ None
DropsFrom most (Some h) after = Drops most h after

-- the data received under an id is dropped, up to 65,535 units. The data queued there is unchanged. So are
-- the links of the other ids, the number of links, the id assigned last, and the listening sockets
pub record DropsCame (old new : EndpointView) (id : ℕ) : Type 0 where
  pub drops : DropsFrom 65535 (held_at old id) (held_at new id)
  pub queue : KeepsQueue (held_at old id) (held_at new id)
  pub others : (q : ℕ) → q ≢ id → held_at new q ≡ held_at old q
  pub last : new.links.last ≡ old.links.last
  pub count : count_of new.links ≡ count_of old.links
  pub self : SameSelf old new
