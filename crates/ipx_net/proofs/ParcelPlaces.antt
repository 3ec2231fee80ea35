-- Parcels by their numbers, and the faults of an event that names one.
use Rattle.std.proofs.Common.{ℕ, ◌≡◌, List, [], ◌∷◌, zero, suc, Option, None, Some, refl, sym, ap, ◌∙◌}
use Rattle.std.specs.Prelude.{option_map, slice_get}
use Rattle.ipx_wire.specs.declared.address.Network.{Network}
use Rattle.spx_theory.specs.World.{ParcelView}
use Rattle.ipx_net.specs.NetFaults.{place_fault, segment_fault}
use Rattle.ipx_net.specs.Parcels.{parcel_view, parcel_views}
use Rattle.ipx_net.specs.declared.fault.NetFault.{NetFault}
use Rattle.ipx_net.specs.declared.fault.NetFault.TheVariants.{NoSuchParcel}
use Rattle.ipx_net.specs.declared.parcel.Parcel.{Parcel}

pub view_at : (ps : List Parcel) (k : ℕ) → slice_get (parcel_views ps) k ≡ option_map parcel_view (slice_get ps k)
view_at [] k = refl
view_at (p ∷ ps) zero = refl
view_at (p ∷ ps) (suc k) = view_at ps k

abbrev pub fault_with : Option Network → Option Network → Option NetFault
fault_with None network = Some NoSuchParcel
fault_with (Some segment) network = segment_fault segment network

with_parcel : (o : Option Parcel) (network : Option Network) → place_fault (option_map parcel_view o) network ≡ fault_with (option_map (λ p. p.segment) o) network
with_parcel None network = refl
with_parcel (Some p) network = refl

pub place_fault_is : (ps : List Parcel) (k : ℕ) (segment network : Option Network) → segment ≡ option_map (λ (p : Parcel). p.segment) (slice_get ps k) → place_fault (slice_get (parcel_views ps) k) network ≡ fault_with segment network
place_fault_is ps k segment network is =
    ap (λ (o : Option ParcelView). place_fault o network) (view_at ps k) ∙ with_parcel (slice_get ps k) network ∙ ap (λ (o : Option Network). fault_with o network) (sym is)
