-- What a joined server learns of a packet of the core.
use Rattle.std.proofs.Common.{◌≡◌, ℕ, Bool, true, false, Option, Some, None, not, refl, ap, subst, ◌∙◌}
use Rattle.std.specs.Prelude.{Ok, ◌==◌, ◌&&◌, ◌||◌, nat_lt, if◌then◌else◌}
use Rattle.std.specs.declared.net.socket_addr.SocketAddrV4.{SocketAddrV4}
use Rattle.ipx_wire.specs.Assigned.{local_network}
use Rattle.ipx_wire.specs.declared.address.Network.{Network}
use Rattle.ipx_wire.specs.declared.address.Node.{Node}
use Rattle.ipx_wire.specs.declared.ipx.packet.IpxHeader.{IpxHeader}
use Rattle.ipxnet_server.specs.declared.clients.Client.{Client}
use Rattle.ipxnet_server.specs.declared.disposition.Disposition.{Disposition}
use Rattle.ipxnet_server.specs.declared.disposition.Disposition.TheVariants.{FromJoined}
use Rattle.ipxnet_server.specs.declared.recipients.Recipients.{Recipients}
use Rattle.ipxnet_server.specs.declared.recipients.Recipients.TheVariants.{Here, One}
use Rattle.ipxnet_server.specs.ServerClients.{are_one_place, client_of_node}
use Rattle.ipxnet_server.specs.ServerHears.{ServerView, all_hear_joined, is_for_server, is_from_server, is_joined_taker, is_not_behind, is_to_all_nodes, joined_hears, max_client_bytes, one_hears_joined, remote_source, server_gives, server_hearing, server_learned}
use Rattle.ipxnet_server.specs.PeerServers.{is_joined_place}
use Rattle.ipxnet_server.specs.JoinedLearns.{NoGivenPacketShowsAClient}
use Rattle.ipxnet_server.proofs.Hears.{either, either_by}
use Rattle.ipxnet_server.proofs.Still.{StaysHere, gives_stay}

module _ (there : ServerView) (from : SocketAddrV4) (size now : ℕ) (h : IpxHeader) (apart : is_from_server there.port h ≡ false) where
  abbrev Unlearned : Disposition → Type 0
  Unlearned heard = (server_hearing heard from now there).far ≡ there.far

  nothing_shown : remote_source there.port h ≡ None
  nothing_shown = ap (λ (b : Bool). if b then Some h.from.node else None) apart

  entering : (takers : Recipients) → Unlearned (FromJoined (remote_source there.port h) takers)
  entering takers = ap (λ (told : Option Node). (server_learned told from now there).far) nothing_shown

  one_enters : (o : Option Client) → Unlearned (one_hears_joined there.port from h size o)
  one_enters None = refl
  one_enters (Some c) =
      either Unlearned (are_one_place c.place from) _ _ refl
      (either Unlearned (nat_lt max_client_bytes size) _ _ refl (entering (One c.place)))

  all_enter : Unlearned (all_hear_joined there.port from h size)
  all_enter = either Unlearned (nat_lt max_client_bytes size) _ _ refl (entering (Here from))

  pub apart_shows_nothing : Unlearned (joined_hears there from h size)
  apart_shows_nothing =
      either Unlearned (not (is_for_server there.port h)) _ _ refl
      (either Unlearned (is_from_server there.port h && is_not_behind there.port there.clients h.from.node) _ _ refl
      (either Unlearned (is_to_all_nodes h) _ _ all_enter (one_enters (client_of_node h.to.node there.clients))))

given_apart : (b : Bool) (here : ServerView) (node : Node) (h : IpxHeader) (size : ℕ) (takers : Recipients) (to : SocketAddrV4) → is_from_server here.port h ≡ b → server_gives here node (Some h) size ≡ Ok takers → is_joined_taker takers to ≡ true → b ≡ false
given_apart true here node h size takers to is gives taker =
    let stays : (place : SocketAddrV4) → is_joined_taker takers place ≡ false = subst StaysHere gives (gives_stay here node h size is) in
    cc (taker, stays to)
given_apart false here node h size takers to is gives taker = refl

pub nothing_given_shows : NoGivenPacketShowsAClient
nothing_given_shows here there node p size now takers from to same gives taker joined =
    let h : IpxHeader = p.header in
    let there_too : is_from_server there.port h ≡ is_from_server here.port h = ap (λ (n : Network). (h.from.network.0 == local_network) || (h.from.network.0 == n.0)) same in
    let apart : is_from_server there.port h ≡ false = there_too ∙ given_apart (is_from_server here.port h) here node h size takers to refl gives taker in
    either_by (λ (heard : Disposition). (server_hearing heard from now there).far ≡ there.far) (is_joined_place from there.routers) _ _
    (λ e. apart_shows_nothing there from size now h apart) (λ e. cc (joined, e))
