use Rattle.std.proofs.Common.{◌≡◌, ◌∙◌, ℕ, refl, subst, sym}
use Rattle.ipx_carrier.specs.Turns.{peers_of}
use Rattle.ipx_wire.specs.declared.address.Address.{Address}
use Rattle.ipx_config.specs.Destinations.{dialed_ip, peer_address_of}
use Rattle.ipx_host.specs.HostPorts.{IsOpened}
use Rattle.ipx_host.specs.Midway.{around_of}
use Rattle.ipx_host.specs.SendRounds.{place}
use Rattle.ipx_host.specs.SendSteps.{noted}
use Rattle.ipx_host.specs.Sent.{SendsInput}
use Rattle.ipx_host.specs.Turning.{DrivesTurn}
use Rattle.ipx_host.proofs.Rounded.{on_ok, sends}
use Rattle.ipx_host.proofs.send.send_loaded.Goals as goal

-- what was sent to an address was sent to the same one by another name
sends_to : (Sent : Address → Type 0) (a b : Address) (r : ℕ) → a ≡ b → (r ≡ 0 → Sent a) → r ≡ 0 → Sent b
sends_to Sent a b r same sent zero = subst Sent same (sent zero)

pub returns-clause-sent : goal.returns-clause-sent
returns-clause-sent g c =
    let file = c.in-Ok.file in
    let to = c.peer_address_of-to.result in
    let known = g.I.Read.remaining c.args.reader.now in
    let left = g.I.Read.remaining c.send_opened.new.reader in
    on_ok _ c.args.loaded file c.in-Ok.is
    (sends_to (λ (a : Address). (w : SendsInput file a known left DrivesTurn) × IsOpened file (dialed_ip file a) w.start.around.port) to (peer_address_of file c.args.to) c.send_opened.result c.peer_address_of-to.ensures
    (sends (c.send_opened.new.reader ≡ c.args.reader.now) c.open-opened.result c.send_opened.result file to known left DrivesTurn (λ k. IsOpened file (dialed_ip file to) k.port)
    (λ s k. place (around_of s.station) s.station.core (noted s.joined s.left) s.input.read s.input.closed s.input.acked_bytes k) (λ s. peers_of s.station.host_socket.ports.peers.items) (λ s. s.id) (sym c.is_nowhere.ensures ∙ c.if-is_nowhere.false) (λ s k. refl) c.open-opened.ensures.dialing c.open-opened.ensures.opened c.send_opened.ensures.sent c.send_opened.ensures.unopened))
