-- a fault of the keys for accepted senders is a fault of all keys
use Rattle.std.proofs.Common.{Vec, ◌≡◌, ℕ, List, Option, inl, inr}
use Rattle.std.specs.Global.{Global}
use Rattle.toml.specs.Data.{Members}
use Rattle.ipx_config.specs.declared.fault.ConfigError.{ConfigError}
use Rattle.ipx_config.specs.declared.key.Key.TheVariants as Key
use Rattle.ipx_config.specs.declared.site.Accept.{Accept}
use Rattle.ipx_config.specs.declared.site.Accept.TheVariants as Who
use Rattle.ipx_config.specs.Fields.{Holds, HoldsIf, HoldsOr, IsWrong}
use Rattle.ipx_config.specs.Port.{IsAccessFault}
use Rattle.ipx_config.specs.Values.{AreAddressesOf, AreRouterPeers, IsAccept, IsDirected}
use Rattle.ipx_config.proofs.Faults.{right_if, right_or}

module _ (seen : List (List ℕ)) (peers : Vec (List ℕ) Global) (same : seen ≡ peers.items) (ms : Members) (table : ℕ) (f : ConfigError)
    (there : Holds AreAddressesOf Key.Peers ms peers) where
  pub routers_fault : IsWrong (AreRouterPeers seen) Key.Routers ms table f → IsAccessFault ms table f
  routers_fault wrong = let now = rw same at wrong in (peers, there, inl now)

  pub accept_fault : (found : Option (Vec (List ℕ) Global)) → HoldsIf (AreRouterPeers seen) Key.Routers ms found
      → IsWrong IsAccept Key.Accept ms table f → IsAccessFault ms table f
  accept_fault found named wrong =
      let now = rw same at named in (peers, there, inr (right_if (AreRouterPeers peers.items) Key.Routers ms found now, inl wrong))

  pub directed_fault : (found : Option (Vec (List ℕ) Global)) → HoldsIf (AreRouterPeers seen) Key.Routers ms found
      → (accept : Accept) → HoldsOr IsAccept Key.Accept ms Who.Peers accept → IsWrong IsDirected Key.Directed ms table f → IsAccessFault ms table f
  directed_fault found named accept heard wrong =
      let now = rw same at named in
      (peers, there, inr (right_if (AreRouterPeers peers.items) Key.Routers ms found now, inr (right_or IsAccept Key.Accept ms Who.Peers accept heard, wrong)))
