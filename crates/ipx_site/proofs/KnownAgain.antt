-- The clients of before a restart are noted one after another.
use Rattle.std.proofs.Common.{◌≡◌, ◌<◌, ◌+◌, ℕ, Bool, true, false, List, [], ◌∷◌, ◌++◌, length, take, get_or, filter, map, cond, refl, sym, ap, ◌∙◌}
use Rattle.std.proofs.lemmas.List.{append-nil, map-append, take_more}
use Rattle.std.proofs.lemmas.List.Elements.{filter-append}
use Rattle.std.specs.declared.net.socket_addr.SocketAddrV4.{SocketAddrV4}
use Rattle.ipx_table_dump.specs.declared.client_places.ClientPlace.{ClientPlace}
use Rattle.ipx_wire.specs.declared.address.Network.{Network}
use Rattle.ipxnet_server.specs.ServerHears.{ServerView}
use Rattle.ipxnet_server.specs.Restarts.{server_noting_again, server_noting_all}
use Rattle.ipx_site.specs.KnownPlaces.{is_known_here, places_known}

one_after : (now : ℕ) (places : List SocketAddrV4) (place : SocketAddrV4) (l : ServerView) → server_noting_all now (places ++ place ∷ []) l ≡ server_noting_again place now (server_noting_all now places l)
one_after now [] place l = refl
one_after now (p ∷ places) place l = one_after now places place (server_noting_again p now l)

module _ (network : Network) (known : List ClientPlace) (i : ℕ) (d : ClientPlace) (lt : i < length known) (l : ServerView) where
  abbrev so_far : ℕ → List SocketAddrV4
  so_far n = places_known network (take n known)

  more_by : (b : Bool) → is_known_here network (get_or known i d) ≡ b → so_far (i + 1) ≡ so_far i ++ map (λ c. c.place) (cond b (get_or known i d ∷ []) [])
  more_by b is =
      let p = is_known_here network in
      ap (places_known network) (take_more known i d lt)
      ∙ ap (map (λ c. c.place)) (filter-append p (take i known) (get_or known i d ∷ []))
      ∙ map-append (λ (c : ClientPlace). c.place) (filter p (take i known)) (filter p (get_or known i d ∷ []))
      ∙ ap (λ (t : Bool). so_far i ++ map (λ c. c.place) (cond t (get_or known i d ∷ []) [])) is

  pub noted_more : (old new : ServerView) → old ≡ server_noting_all 0 (so_far i) l → is_known_here network (get_or known i d) ≡ true → new ≡ server_noting_again (get_or known i d).place 0 old
      → new ≡ server_noting_all 0 (so_far (i + 1)) l
  noted_more old new was is noted =
      noted ∙ ap (server_noting_again (get_or known i d).place 0) was ∙ sym (one_after 0 (so_far i) (get_or known i d).place l)
      ∙ ap (λ (places : List SocketAddrV4). server_noting_all 0 places l) (sym (more_by true is))

  pub noted_no_more : (old : ServerView) → old ≡ server_noting_all 0 (so_far i) l → is_known_here network (get_or known i d) ≡ false → old ≡ server_noting_all 0 (so_far (i + 1)) l
  noted_no_more old was isnt =
      was ∙ ap (λ (places : List SocketAddrV4). server_noting_all 0 places l) (sym (more_by false isnt ∙ append-nil (so_far i)))
