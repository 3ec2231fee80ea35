-- Whether some route is advertised on a port, and whether it is asked for.
use Rattle.std.proofs.Common.{◌≡◌, ◌<◌, Bool, true, false, List, [], ◌∷◌, ◌++◌, length, Result, Ok, Err, refl, subst, inl, inr, arith}
use Rattle.std.specs.Prelude.{Contains, OnErr, MatchBool, ◌==◌}
use borrow.Author.Tests.{eqb-true}
use Rattle.std.proofs.lemmas.List.Folds.{Any-from_list_any}
use Rattle.std.proofs.lemmas.List.Elements.{Contains-append_right}
use Rattle.ipx_wire.specs.Assigned.{all_networks}
use Rattle.ipx_wire.specs.declared.address.Network.{Network}
use Rattle.ipx_control.specs.declared.rip.packet.RipEntry.{RipEntry}
use Rattle.ipx_tables.specs.declared.route.RouteMetric.{RouteMetric}
use Rattle.ipx_tables.specs.declared.source.Source.{Source}
use Rattle.ipx_tables.specs.Listing.{IsListing}
use Rattle.ipx_tables.specs.Route.{network_cmp, route_before}
use Rattle.ipx_router.specs.declared.port.Port.{Port}
use Rattle.ipx_router.specs.declared.port.PortNow.{PortNow}
use Rattle.ipx_router.specs.Knowledge.{Routes}
use Rattle.ipx_router.specs.AdvertisedEntries.{AreAdvertisedRoutes, IsAdvertisedRoute, advertised_route}
use Rattle.ipx_router.specs.Placing.{is_advertised_item}
use Rattle.ipx_router.specs.Replying.{AreRoutesAsked, AreAdvertisedOf, asks_all}
use Rattle.ipx_router.specs.OutOfMemoryCases.{HasRouteToReply}
use Rattle.ipx_router.proofs.AdvertisedRoutes.{item_told}

pub any_err : {T E P : Type 0} (r : Result T E) → P → OnErr r P
any_err (Ok x) p = tt
any_err (Err e) p = p

here : (x : RipEntry) (xs : List RipEntry) → Contains (x ∷ xs) x
here x xs = (0, omega arith, refl)

later_too : (e x : RipEntry) (xs : List RipEntry) → Contains xs x → Contains (e ∷ xs) x
later_too e x xs c = Contains-append_right (e ∷ []) xs x c

holds_in : (ys : List RipEntry) (e : RipEntry) (later asked : List RipEntry) → ys ++ e ∷ later ≡ asked → Contains asked e
holds_in ys e later asked are =
    subst (λ (es : List RipEntry). Contains es e) are (Contains-append_right ys (e ∷ later) e (here e later))

module _ (ports : List Port) (routes : Routes) (at : PortNow) where
  abbrev SomeAdvertised : Type 0
  SomeAdvertised = (t : RipEntry) × IsAdvertisedRoute ports routes at t

  module _ (heard : List (Network × Source × RouteMetric)) (listing : IsListing network_cmp route_before routes at.now heard) where
    -- a best offer that came by another port
    pub some_by_item : (item : Network × Source × RouteMetric) → Contains heard item → is_advertised_item ports at item ≡ true → SomeAdvertised
    some_by_item item c e =
        let t = advertised_route item.0 item.2 at in
        (t, item_told ports routes at heard listing t (item, c, e, refl))

  -- ---- what is advertised and asked for

  abbrev IsAdvertised : RipEntry → Type 0
  IsAdvertised = IsAdvertisedRoute ports routes at

  -- an entry asks for the network that it names
  pub asked_by_name : (ys : List RipEntry) (e : RipEntry) (later asked : List RipEntry) → ys ++ e ∷ later ≡ asked → (t : RipEntry) → IsAdvertised t → t.network ≡ e.network → HasRouteToReply ports routes at asked
  asked_by_name ys e later asked are t told named = (e, t, holds_in ys e later asked are, told, inr named)

  more_to_reply : (e : RipEntry) (asked : List RipEntry) → HasRouteToReply ports routes at asked → HasRouteToReply ports routes at (e ∷ asked)
  more_to_reply e asked h = (h.0, h.1, later_too e h.0 asked h.2, h.3, h.4)

  named_to_reply : (asked : List RipEntry) (x : RipEntry) (entries : List RipEntry) → AreAdvertisedOf IsAdvertised asked (x ∷ entries) → HasRouteToReply ports routes at asked
  named_to_reply [] x entries are = cc
  named_to_reply (e ∷ asked) x entries are = elim are [
    | inl first ↦ (e, first.0, here e asked, first.3, inr first.4)
    | inr none ↦ more_to_reply e asked (named_to_reply asked x entries none.1)
  ]

  entries_to_reply : (asked : List RipEntry) (x : RipEntry) (entries : List RipEntry) (all : Bool) → asks_all asked ≡ all → MatchBool all (AreAdvertisedRoutes ports routes at (x ∷ entries)) (AreAdvertisedOf IsAdvertised asked (x ∷ entries)) → HasRouteToReply ports routes at asked
  entries_to_reply asked x entries true all are =
      let w = Any-from_list_any (λ (e : RipEntry). e.network.0 == all_networks) asked all in
      (w.1, x, (w.0, w.2, w.3), (are.stands x).0 (here x entries), inl (eqb-true _ _ w.4))
  entries_to_reply asked x entries false all are = named_to_reply asked x entries are

  -- if a request asks for a list that is not empty, some route is to be sent
  pub has_to_reply : (asked entries : List RipEntry) → AreRoutesAsked ports routes at asked entries → 0 < length entries → HasRouteToReply ports routes at asked
  has_to_reply asked [] are some = absurd (omega arith)
  has_to_reply asked (x ∷ entries) are some = entries_to_reply asked x entries (asks_all asked) refl are
