-- what a table says of the tunnel of an Ethernet port, from what its keys give
use Rattle.std.proofs.Common.{◌≡◌, ◌⊎◌, ◌≤◌, ◌^◌, ℕ, Option, Some, None, Result, Ok, Err, inr, refl, subst, sym, arith}
use Rattle.std.specs.Prelude.{IfErr, IfOk, IfSome}
use Rattle.byteorder.specs.Endian.{big_bytes}
use Rattle.toml.specs.Data.{Data, Members}
use Rattle.ipx_tunnels.specs.declared.tunnel.Tunnel.{Tunnel}
use Rattle.ipx_tunnels.specs.declared.tunnel.Vni.{Vni}
use Rattle.ipx_config.specs.declared.fault.ConfigError.{ConfigError}
use Rattle.ipx_config.specs.declared.fault.ConfigError.TheVariants.{OutOfMemory}
use Rattle.ipx_config.specs.declared.key.Key.TheVariants as Key
use Rattle.ipx_config.specs.declared.tunnel_kind.TunnelKind.{TunnelKind}
use Rattle.ipx_config.specs.Fields.{HoldsIf, Reads}
use Rattle.ipx_config.specs.TunnelTable.{AreTunnelKeys, HasNoOtherTunnel, IsTunnelFault, IsTunnelKeyFault, IsTunnelTable}
use Rattle.ipx_config.specs.TunnelValues.{IsTunnelKind, IsVni, kind_of_tunnel}
use Rattle.ipx_config.specs.Values.{IsCount}
use Rattle.ipx_config.proofs.Faults.{or_memory}

module _ (ms : Members) (kind : Option TunnelKind) (holds : HoldsIf IsTunnelKind Key.Tunnel ms kind) (alone : HasNoOtherTunnel kind ms) where
  -- a tunnel of the kind that the table names, by its own keys, is that of the table
  pub tunnel_reads : (r : Result Tunnel ConfigError) → IfOk r (λ t. (kind_of_tunnel t ≡ kind) × AreTunnelKeys ms t) → IfOk r (IsTunnelTable ms)
  tunnel_reads (Err f) has = tt
  tunnel_reads (Ok t) (same, keys) = record {
    kind = subst (λ (it : Option TunnelKind). HoldsIf IsTunnelKind Key.Tunnel ms it) (sym same) holds;
    alone = subst (λ (it : Option TunnelKind). HasNoOtherTunnel it ms) (sym same) alone;
    keys = keys;
  }

  -- a fault of those keys is a fault of the table
  pub tunnel_faults : (table : ℕ) (r : Result Tunnel ConfigError)
      → IfErr r (λ f. (f ≡ OutOfMemory) ⊎ IsTunnelKeyFault kind ms table f) → IfErr r (λ f. (f ≡ OutOfMemory) ⊎ IsTunnelFault ms table f)
  tunnel_faults table (Ok t) has = tt
  tunnel_faults table (Err f) fault = or_memory {B = IsTunnelFault ms table f} f (λ it. inr (kind, holds, inr (alone, it))) fault

-- a number of 24 bits that is not 0 is that of a VXLAN network
pub vni_reads : (d : Data) (n : ℕ) → IsCount 16777215 d n → (r : Option Vni) → IfSome r (λ vni. vni.0 ≡ big_bytes 3 n)
    → (r ≡ None → 2 ^ 24 ≤ n) → Reads IsVni d r
vni_reads d n count None bytes large = absurd (omega (arith, large refl, count.2))
vni_reads d n count (Some vni) bytes large = (n, count, bytes)
