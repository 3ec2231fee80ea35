-- What one router advertises on a port is what another learns of it.
use Rattle.std.specs.Prelude.{◌≡◌, ◌≢◌, ◌↔◌, ◌==◌, ℕ, true, List, [], ◌∷◌, Contains, Option}
use Rattle.std.specs.List.{filter}
use Rattle.ipx_wire.specs.declared.address.Network.{Network}
use Rattle.ipx_control.specs.declared.rip.packet.RipEntry.{RipEntry}
use Rattle.ipx_tables.specs.declared.source.Source.{Source}
use Rattle.ipx_tables.specs.Content.{after_age}
use Rattle.ipx_router.specs.declared.reason.Reason.TheVariants.{TableFull}
use Rattle.ipx_router.specs.Answer.{Receives}
use Rattle.ipx_router.specs.Hearing.{after_routes}
use Rattle.ipx_router.specs.Knowledge.{known_at, routes_in}
use Rattle.ipx_router.specs.OutcomeView.{OutcomeView, Dropped}
use Rattle.ipx_router.specs.RouterPackets.{SendingView}
use Rattle.ipx_router.specs.RouterView.{RouterView}
use Rattle.ipx_router.specs.Advertisements.{TellsIfDue, is_due}
use Rattle.ipx_router.specs.AdvertisedEntries.{IsAdvertisedRoute}
use Rattle.rip_convergence.specs.Histories.{Internet, Meet}

-- those of the packets that leave by a port
abbrev pub leaving_by : ℕ → List SendingView → List SendingView
leaving_by port = filter (λ s. s.port == port)

-- a router receives these packets on a port, one after another at one time, and never finds its table full
abbrev pub ReceivesInTurn : ℕ → ℕ → RouterView → List SendingView → RouterView → Type 0
ReceivesInTurn port now old [] new = new ≡ old
ReceivesInTurn port now old (s ∷ later) new = (a : OutcomeView) × (next : RouterView)
    × Receives old port s.bytes now a next × (a ≢ Dropped TableFull)
    × ReceivesInTurn port now next later new

-- of these packets a router learned these entries and no others; if there is none, it is unchanged
pub record HearsEntries (port now : ℕ) (source : Source) (old : RouterView)
    (packets : List SendingView) (new : RouterView) (entries : List RipEntry) : Type 0 where
  pub none : packets ≡ [] → (entries ≡ []) × (new ≡ old)
  pub some : packets ≢ [] → (p : Network × Source) → routes_in new.routes p
      ≡ after_routes old.ports source now (after_age (routes_in old.routes) now) entries p

-- what a router advertises when it is due, and another on the same network receives at that time, is learned
-- from the node of the port by which it left, as exactly the entries that are advertised there
abbrev pub AdvertisementsAreLearned : Type 0
AdvertisementsAreLearned = (net : Internet) (s q r p : ℕ) (meet : Meet net s q r p)
    (teller old new : RouterView) (now : ℕ) (sent : List SendingView) (told : Option ℕ)
    → teller.ports ≡ meet.theirs → old.ports ≡ meet.ours → meet.far.node ≢ meet.near.node
    → is_due teller.advertised_at now ≡ true → TellsIfDue (known_at teller now) teller.advertised_at now sent told
    → ReceivesInTurn p now old (leaving_by q sent) new
    → (entries : List RipEntry)
    × HearsEntries p now (record { port = p; neighbour = meet.far.node }) old
    (leaving_by q sent) new entries
    × ((e : RipEntry) → Contains entries e ↔ IsAdvertisedRoute meet.theirs (routes_in teller.routes)
    (record { number = q; port = meet.far; now = now }) e)
