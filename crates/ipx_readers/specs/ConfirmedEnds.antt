-- What a reader of a network concludes of the ends whose close is confirmed (Novell SPX: the confirmation of
-- an end of connection).
use Rattle.std.specs.Prelude.{ℕ, ◌≡◌, ◌≢◌, false, List, None, Option, Some, slice_get}
use Rattle.spx_link.specs.declared.state.State.TheVariants.{Confirmed}
use Rattle.spx_theory.specs.Peers.{ArePeers, Premises}
use Rattle.spx_theory.specs.World.{EndNow, held_of}
use Rattle.ipx_net_hosts.specs.EndStates.{state_of}
use Rattle.ipx_net.specs.Ends.{TellsEnds, told_of}
use Rattle.ipx_net.specs.NetView.{NetView}
use Rattle.ipx_net.specs.declared.endinfo.EndInfo.{EndInfo}

-- under the three premises, for any correct summaries of the ends of a network: each end whose summary says
-- Confirmed has a peer
abbrev pub ConfirmedHavePeers : NetView → Type 0
ConfirmedHavePeers v = v.spent ≡ false → Premises v.now.world.log
    → (told : List EndInfo) → TellsEnds v told
    → (who : ℕ) → (told_of told who).state ≡ Some Confirmed
    → (peer : ℕ) × ArePeers v.now.world.log who peer

-- under them an end is found for each that is Confirmed
abbrev pub IsFoundWhereConfirmed : NetView → ℕ → Option ℕ → Type 0
IsFoundWhereConfirmed v end found = v.spent ≡ false → Premises v.now.world.log
    → (n : EndNow) → slice_get v.now.world.ends end ≡ Some n
    → state_of (held_of v.now.world.hosts n) ≡ Some Confirmed → found ≢ None
