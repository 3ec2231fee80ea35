-- The numbers of a router's ports, from 1 on.
use Rattle.std.specs.Prelude.{◌≡◌, ◌≤◌, ℕ, ◌-◌, List, Some, All, length, slice_get}
use Rattle.ipx_tables.specs.declared.source.Source.{Source}
use Rattle.ipx_tables.specs.Content.{Content}
use Rattle.ipx_router.specs.declared.port.Port.{Port}
use Rattle.ipx_router.specs.NewRouter.{IsOwnNetwork}
use Rattle.ipx_router.specs.Knowledge.{AreTables, Tables, routes_in, services_in}
use Rattle.ipx_router.specs.RouterPackets.{SendingView}

-- the port of this number
abbrev pub IsPort : List Port → ℕ → Port → Type 0
IsPort ports number port = (1 ≤ number) × (slice_get ports (number - 1) ≡ Some port)

abbrev pub IsPortNumber : ℕ → ℕ → Type 0
IsPortNumber count port = (1 ≤ port) × (port ≤ count)

-- each packet leaves by a port that exists
abbrev pub AreOnPorts : ℕ → List SendingView → Type 0
AreOnPorts count sent = All (λ s. IsPortNumber count s.port) sent

-- each offer was learned on a port that exists
abbrev pub AreFromPorts : {K M : Type 0} → ℕ → Content K M → Type 0
AreFromPorts {K} {M} count c =
    (p : K × Source) (v : M × ℕ) → c p ≡ Some v → IsPortNumber count p.1.port

-- 1 to 16 ports on networks that a port may have, and tables of offers that came by those ports alone
pub record IsSound (ports : List Port) (t : Tables) : Type 0 where
  pub some : 1 ≤ length ports
  pub count : length ports ≤ 16
  pub networks : All IsOwnNetwork ports
  pub routes_from : AreFromPorts (length ports) (routes_in t.0)
  pub services_from : AreFromPorts (length ports) (services_in t.1)
  pub tables : AreTables t
