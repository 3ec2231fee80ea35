-- The theorems of every network, one field each. They speak of its log and its parcels only or, while no
-- memory was refused, also of its links.
use Rattle.std.specs.Prelude.{ℕ, ◌≡◌, ◌↔◌, true, false, List, ◌∷◌, ◌++◌, Some, Contains, slice_get}
use Rattle.spx_theory.specs.Addresses.{AddressesTellPeers}
use Rattle.spx_theory.specs.Allocation.{PeerlessReadsNothing}
use Rattle.spx_theory.specs.Carried.{RoutersAlterOnlyHops}
use Rattle.spx_theory.specs.Close.{AcknowledgedIsRead, ConfirmedIsRead, EndTakenIsWhole}
use Rattle.spx_theory.specs.EndsSummarized.{EndsAreSummarized}
use Rattle.spx_theory.specs.EntriesOfEnds.{QueuedWereAsked}
use Rattle.spx_theory.specs.HandedOut.{HandsOutWhatItTook, HoldsWhatIsLeft}
use Rattle.spx_theory.specs.InStep.{PeersAreInStep}
use Rattle.spx_theory.specs.InSteps.{PairsTakeSteps}
use Rattle.spx_theory.specs.LogHeadline.{LogHeadline}
use Rattle.spx_theory.specs.Note.{Note, Opened, Released}
use Rattle.spx_theory.specs.Numbered.{IsNumbered, NumbersAreInOrder}
use Rattle.spx_theory.specs.PremisesRead.{AreMadeOnce, BetweenIsRead, OriginsAreRead, PeersAreRead, PremisesAreRead}
use Rattle.spx_theory.specs.Scan.{scan}
use Rattle.spx_theory.specs.SentUnits.{LinksSendInOrder, UnitsAreSentInOrder}
use Rattle.spx_theory.specs.UnitsOfEnds.{UnitsAreCuts}
use Rattle.spx_theory.specs.Stuck.{NoPairIsStuck, NoStateIsStuck, NothingIsStuckByAddresses}
use Rattle.spx_theory.specs.World.{EndNow, InOrder, World, scene_of}
use Rattle.ipx_net.specs.NetView.{NetView}

-- each entry of a log names something that exists
abbrev pub AreNumbered : List Note → Type 0
AreNumbered log = (before after : List Note) (n : Note)
    → log ≡ before ++ n ∷ after → IsNumbered (scan before) n

-- an end that was opened exists, at the host of its entry
abbrev pub AreWhereOpened : World → Type 0
AreWhereOpened w = (who host buffers : ℕ) → Contains w.log (Opened who host buffers)
    → (n : EndNow) × (slice_get w.ends who ≡ Some n) × (n.host ≡ host)

-- an end is released exactly if an entry says so
abbrev pub AreReleasedByLog : World → Type 0
AreReleasedByLog w = (who : ℕ) (n : EndNow) → slice_get w.ends who ≡ Some n
    → (n.released ≡ true) ↔ Contains w.log (Released who)

-- theorems that also speak of links
pub record LinkTheorems (w : World) : Type 0 where
  -- hosts and ends fit together, each end that is not released has a link, and entries name ends that exist:
  -- so the theorems are not empty
  pub order : InOrder w
  pub numbers : NumbersAreInOrder (scene_of w)
  pub told : EndsAreSummarized (scene_of w)
  pub opened : AreWhereOpened w
  pub released : AreReleasedByLog w
  pub asked : QueuedWereAsked (scene_of w)
  -- under the three premises, or without any
  pub in_step : PeersAreInStep (scene_of w)
  pub left : HoldsWhatIsLeft (scene_of w)
  pub alone : PeerlessReadsNothing (scene_of w)
  pub confirmed : ConfirmedIsRead (scene_of w)
  pub acknowledged : AcknowledgedIsRead (scene_of w)
  pub sends : LinksSendInOrder (scene_of w)
  -- what rounds without loss do to the links of two peers, whatever was lost before
  pub not_stuck : NoStateIsStuck (scene_of w)
  pub not_stuck_both_ways : NoPairIsStuck (scene_of w)
  pub not_stuck_by_addresses : NothingIsStuckByAddresses (scene_of w)

-- theorems of log, parcels, the addresses of hosts and joined messages, which also hold after memory was
-- refused; and those of links, which hold before that
pub record Theorems (v : NetView) : Type 0 where
  pub alters : RoutersAlterOnlyHops (scene_of v.now.world)
  pub in_order : UnitsAreSentInOrder (scene_of v.now.world)
  pub headline : LogHeadline v.now.world.log
  -- each parcel is made by one entry, and so is each end
  pub made_once : AreMadeOnce v.now.world.log
  -- the index of the log is what its entries say
  pub origins : OriginsAreRead (scene_of v.now.world)
  pub peers : PeersAreRead (scene_of v.now.world)
  pub between : BetweenIsRead (scene_of v.now.world)
  pub premises : PremisesAreRead (scene_of v.now.world)
  pub addresses : AddressesTellPeers (scene_of v.now.world)
  pub machine : PairsTakeSteps (scene_of v.now.world)
  pub end_taken : EndTakenIsWhole (scene_of v.now.world)
  pub numbered : AreNumbered v.now.world.log
  pub cuts : UnitsAreCuts (scene_of v.now.world)
  pub joined : HandsOutWhatItTook (scene_of v.now.world)
  pub links : v.spent ≡ false → LinkTheorems v.now.world
