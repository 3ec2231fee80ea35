use Rattle.std.proofs.Common.{◌≡◌, ◌⊎◌, Bool, List, true, Some, length, ap, refl, subst, sym, ◌∙◌}
use Rattle.std.specs.Prelude.{if◌then◌else◌, is_some}
use Rattle.ipxnet_server.specs.declared.clients.Client.{Client}
use Rattle.ipxnet_server.specs.declared.disposition.Disposition.{Disposition}
use Rattle.ipx_wire.specs.Ipx.{BeginsWith, PacketView}
use Rattle.ipxnet_server.specs.ServerClients.{client_at, client_heard, node_of_place}
use Rattle.ipxnet_server.specs.declared.drops.ServerDrop.TheVariants.{Malformed}
use Rattle.ipxnet_server.specs.ServerFloods.{limited_hears, server_limiting, server_unlimited, unlimited_hears}
use Rattle.ipxnet_server.specs.ServerHears.{BecameClient, ServerView, goes_to_core, is_of_client, may_reach_core, server_admitting, server_aged, server_dropping, server_hearing, server_hears, server_met}
use Rattle.ipxnet_server.specs.ServerInside.{IsSoundHearing, StaysAmongClients}
use Rattle.ipxnet_server.specs.PeerServers.{is_joined_place}
use Rattle.ipxnet_server.proofs.Hears.{core_law, registers_nobody, registers_no_client, told_joined}
use Rattle.ipxnet_server.proofs.Limits.{client_limited, core_limited, dropped_leaves, dropped_stays, limiting_keeps, sound_limited}
use Rattle.ipxnet_server.proofs.Remains.{met_remains, recent_left}
use Rattle.ipxnet_server.proofs.Still.{client_kept, far_later, hearing_clients, hearing_far, hearing_rest, met_far, met_heard, met_joined, met_rest, others_clients}
use Rattle.ipxnet_server.proofs.server.IpxnetServer.hear.Goals as goal

pub keep-requires : goal.keep-requires
keep-requires c = record {
  joined = λ told takers e. told_joined (is_joined_place c.args.from c.recognise.new.self.routers) c.decide-heard.result told takers c.decide-heard.ensures.sound.member e;
}

-- only its clients, those of joined routers, and who is noted, changed before the packet was judged
rest : (c : goal.After-limit) → record c.recognise.new.self { clients = c.age.new.self.clients; far = c.age.new.self.far; noted = c.age.new.self.noted } ≡ server_aged c.args.now c.args.self.now
rest c = met_rest c.args.from c.args.now c.age.new.self c.recognise.new.self c.recognise.ensures.known ∙ c.age.ensures.aged

-- the server has the routers that it had
routers : (c : goal.After-limit) → is_joined_place c.args.from c.recognise.new.self.routers ≡ is_joined_place c.args.from c.args.self.now.routers
routers c = ap (λ (v : ServerView). is_joined_place c.args.from v.routers) (rest c)

-- a packet finds the server with its sender, if it makes it a client
met : (c : goal.After-limit) (p : PacketView) → BeginsWith c.args.bytes.now p
    → c.recognise.new.self ≡ server_met c.args.from p.header (length c.args.bytes.now) c.args.now (server_aged c.args.now c.args.self.now)
met c p begins =
    c.recognise.ensures.packet p begins ∙ ap (server_met c.args.from p.header (length c.args.bytes.now) c.args.now) c.age.ensures.aged

-- without limits, what becomes of a packet, and what the server is then
judged : (c : goal.After-limit) (p : PacketView) → BeginsWith c.args.bytes.now p
    → c.decide-heard.result ≡ unlimited_hears c.args.self.now c.args.from p (length c.args.bytes.now) c.args.now
judged c p begins =
    c.decide-heard.ensures.packet p begins
    ∙ ap (λ (v : ServerView). server_hears v c.args.from p (length c.args.bytes.now) c.args.now) (met c p begins)

kept : (c : goal.After-limit) (p : PacketView) → BeginsWith c.args.bytes.now p
    → c.keep.new.self ≡ server_unlimited c.args.self.now c.args.from p (length c.args.bytes.now) c.args.now
kept c p begins =
    c.keep.ensures ∙ ap (server_hearing c.decide-heard.result c.args.from c.args.now) (met c p begins)
    ∙ ap (λ (heard : Disposition). server_hearing heard c.args.from c.args.now (server_met c.args.from p.header (length c.args.bytes.now) c.args.now (server_aged c.args.now c.args.self.now))) (judged c p begins)

-- limits drop it, or leave what becomes of it
sound : (c : goal.After-limit) → IsSoundHearing c.recognise.new.self c.args.from (length c.args.bytes.now) c.limit.result
sound c =
    subst (λ (heard : Disposition). IsSoundHearing c.recognise.new.self c.args.from (length c.args.bytes.now) heard) (sym c.limit.ensures.value)
    (sound_limited c.recognise.new.self c.keep.new.self c.decide-heard.result c.args.from (length c.args.bytes.now) c.args.now c.decide-heard.ensures.sound)

-- they leave the clients, and what is known of those of joined routers
clients : (c : goal.After-limit) → c.limit.new.self.clients ≡ c.keep.new.self.clients
clients c =
    ap (λ (v : ServerView). v.clients) c.limit.ensures.server
    ∙ limiting_keeps (λ (v : ServerView). v.clients) (λ l f k d n. refl) c.keep.new.self c.decide-heard.result c.args.from c.args.now

far : (c : goal.After-limit) → c.limit.new.self.far ≡ c.keep.new.self.far
far c =
    ap (λ (v : ServerView). v.far) c.limit.ensures.server
    ∙ limiting_keeps (λ (v : ServerView). v.far) (λ l f k d n. refl) c.keep.new.self c.decide-heard.result c.args.from c.args.now

pub returns-clause-malformed : goal.returns-clause-malformed
returns-clause-malformed c =
    λ f faulty.
    c.limit.ensures.value
    ∙ ap (λ (heard : Disposition). limited_hears c.keep.new.self heard c.args.from c.args.now) (c.decide-heard.ensures.malformed f faulty)
    ∙ dropped_stays c.keep.new.self (Malformed f) c.args.from c.args.now

pub returns-clause-packet : goal.returns-clause-packet
returns-clause-packet c =
    λ p begins.
    c.limit.ensures.value
    ∙ ap (λ (v : ServerView). limited_hears v c.decide-heard.result c.args.from c.args.now) (kept c p begins)
    ∙ ap (λ (heard : Disposition). limited_hears (server_unlimited c.args.self.now c.args.from p (length c.args.bytes.now) c.args.now) heard c.args.from c.args.now) (judged c p begins)

pub returns-clause-server : goal.returns-clause-server
returns-clause-server c =
    λ p begins.
    c.limit.ensures.server
    ∙ ap (λ (v : ServerView). server_limiting v c.decide-heard.result c.args.from c.args.now) (kept c p begins)
    ∙ ap (λ (heard : Disposition). server_limiting (server_unlimited c.args.self.now c.args.from p (length c.args.bytes.now) c.args.now) heard c.args.from c.args.now) (judged c p begins)

pub returns-clause-unread : goal.returns-clause-unread
returns-clause-unread c =
    λ f faulty.
    c.limit.ensures.server
    ∙ ap (λ (heard : Disposition). server_limiting c.keep.new.self heard c.args.from c.args.now) (c.decide-heard.ensures.malformed f faulty)
    ∙ dropped_leaves c.keep.new.self (Malformed f) c.args.from c.args.now
    ∙ c.keep.ensures
    ∙ ap (λ (heard : Disposition). server_hearing heard c.args.from c.args.now c.recognise.new.self) (c.decide-heard.ensures.malformed f faulty)
    ∙ ap (server_dropping (Malformed f)) (c.recognise.ensures.malformed f faulty ∙ c.age.ensures.aged)

pub returns-clause-stays : goal.returns-clause-stays
returns-clause-stays c =
    let heard = c.decide-heard.result in
    let limits = c.limit.ensures.server in
    let kept = hearing_rest heard c.args.from c.args.now c.recognise.new.self in (
      ap (λ (v : ServerView). v.port) limits ∙ limiting_keeps (λ (v : ServerView). v.port) (λ l f k d n. refl) c.keep.new.self heard c.args.from c.args.now
          ∙ ap (λ (v : ServerView). v.port) c.keep.ensures ∙ ap (λ r. r.0) kept ∙ ap (λ (v : ServerView). v.port) (rest c),
      ap (λ (v : ServerView). v.max_clients) limits ∙ limiting_keeps (λ (v : ServerView). v.max_clients) (λ l f k d n. refl) c.keep.new.self heard c.args.from c.args.now
          ∙ ap (λ (v : ServerView). v.max_clients) c.keep.ensures ∙ ap (λ r. r.1) kept ∙ ap (λ (v : ServerView). v.max_clients) (rest c),
      ap (λ (v : ServerView). v.routers) limits ∙ limiting_keeps (λ (v : ServerView). v.routers) (λ l f k d n. refl) c.keep.new.self heard c.args.from c.args.now
          ∙ ap (λ (v : ServerView). v.routers) c.keep.ensures ∙ ap (λ r. r.2) kept ∙ ap (λ (v : ServerView). v.routers) (rest c),
      ap (λ (v : ServerView). v.pinged) limits ∙ limiting_keeps (λ (v : ServerView). v.pinged) (λ l f k d n. refl) c.keep.new.self heard c.args.from c.args.now
          ∙ ap (λ (v : ServerView). v.pinged) c.keep.ensures ∙ ap (λ r. r.3) kept ∙ ap (λ (v : ServerView). v.pinged) (rest c),
    )

pub returns-clause-back : goal.returns-clause-back
returns-clause-back c = (sound c).back

pub returns-clause-as_many : goal.returns-clause-as_many
returns-clause-as_many c = (sound c).as_many

pub returns-clause-no_longer : goal.returns-clause-no_longer
returns-clause-no_longer c = (sound c).no_longer

stays : (c : goal.After-limit) → is_joined_place c.args.from c.args.self.now.routers ≡ true → StaysAmongClients c.limit.result
stays c is = (sound c).joined (routers c ∙ is)

pub returns-clause-registration : goal.returns-clause-registration
returns-clause-registration c =
    let from = c.args.from in
    let now = c.args.now in
    let size = length c.args.bytes.now in
    let heard = c.decide-heard.result in
    let l = c.recognise.new.self in
    let aged : ServerView = server_aged now c.args.self.now in
    λ p begins is.
    let nobody : l ≡ aged = met c p begins ∙ ap (λ (b : Bool). if b then server_admitting from now aged else aged) (registers_nobody aged from p.header size now is) in
    let of = ap is_of_client (c.decide-heard.ensures.packet p begins) ∙ registers_no_client l from p size now is in
    clients c ∙ ap (λ (v : ServerView). v.clients) c.keep.ensures ∙ others_clients heard from now l of ∙ ap (λ (v : ServerView). v.clients) nobody

pub returns-clause-sender : goal.returns-clause-sender
returns-clause-sender c =
    let from = c.args.from in
    let now = c.args.now in
    let heard = c.decide-heard.result in
    let l = c.recognise.new.self in
    λ passed.
    let sent : is_of_client heard ≡ true = client_limited c.keep.new.self heard from now (sym (ap is_of_client c.limit.ensures.value) ∙ passed) in
    ap (client_at from) (clients c)
    ∙ ap (λ (v : ServerView). client_at from v.clients) c.keep.ensures ∙ ap (client_at from) (hearing_clients heard from now l sent)
    ∙ met_heard from now c.age.new.self l c.recognise.ensures.known (c.decide-heard.ensures.sound.sender sent)
    ∙ ap (λ (v : ServerView). Some (client_heard (node_of_place v.port from) from now (client_at from v.clients))) c.age.ensures.aged

pub returns-clause-remains : goal.returns-clause-remains
returns-clause-remains c =
    let from = c.args.from in
    let now = c.args.now in
    let heard = c.decide-heard.result in
    let l = c.recognise.new.self in
    λ place k found late.
    let left : client_at place c.age.new.self.clients ≡ Some k = ap (λ (v : ServerView). client_at place v.clients) c.age.ensures.aged ∙ recent_left now place c.args.self.now.clients k found late in
    let met_too = met_remains from place now c.age.new.self l k c.recognise.ensures.known c.age.ensures.few c.age.ensures.once left late in
    ap (λ (known : List Client). is_some (client_at place known)) (clients c)
    ∙ ap (λ (v : ServerView). is_some (client_at place v.clients)) c.keep.ensures ∙ client_kept heard from place now l met_too

pub returns-clause-taker : goal.returns-clause-taker
returns-clause-taker c =
    λ place e.
    ap (λ (known : List Client). is_some (client_at place known)) (clients c)
    ∙ ap (λ (v : ServerView). is_some (client_at place v.clients)) c.keep.ensures
    ∙ client_kept c.decide-heard.result c.args.from place c.args.now c.recognise.new.self ((sound c).taker place e)

pub returns-clause-core : goal.returns-clause-core
returns-clause-core c =
    let l = c.recognise.new.self in
    λ p begins passed.
    let goes : goes_to_core c.decide-heard.result ≡ true = core_limited c.keep.new.self c.decide-heard.result c.args.from c.args.now (sym (ap goes_to_core c.limit.ensures.value) ∙ passed) in
    subst (λ (v : ServerView). may_reach_core v.port p ≡ true) (rest c)
    (core_law l c.args.from p (length c.args.bytes.now) c.args.now (subst (λ (heard : Disposition). goes_to_core heard ≡ true) (c.decide-heard.ensures.packet p begins) goes))

pub returns-clause-ring : goal.returns-clause-ring
returns-clause-ring c = λ is. (stays c is).ring

pub returns-clause-apart : goal.returns-clause-apart
returns-clause-apart c = λ is. (stays c is).core

pub returns-clause-unanswered : goal.returns-clause-unanswered
returns-clause-unanswered c = λ is. (stays c is).answer

before : (c : goal.After-limit) → is_joined_place c.args.from c.args.self.now.routers ≡ true → is_joined_place c.args.from c.age.new.self.routers ≡ true
before c is = ap (λ (v : ServerView). is_joined_place c.args.from v.routers) c.age.ensures.aged ∙ is

pub returns-clause-members : goal.returns-clause-members
returns-clause-members c =
    λ is.
    clients c ∙ ap (λ (v : ServerView). v.clients) c.keep.ensures
    ∙ others_clients c.decide-heard.result c.args.from c.args.now c.recognise.new.self (c.decide-heard.ensures.sound.joined (routers c ∙ is)).client
    ∙ ap (λ (v : ServerView). v.clients) (met_joined c.args.from c.args.now c.age.new.self c.recognise.new.self c.recognise.ensures.known (before c is) ∙ c.age.ensures.aged)

pub returns-clause-told : goal.returns-clause-told
returns-clause-told c =
    let from = c.args.from in
    let heard = c.decide-heard.result in
    let l = c.age.new.self in
    let m = c.recognise.new.self in
    let after = c.limit.new.self in
    λ apart.
    let same : after.far ≡ m.far = far c ∙ ap (λ (v : ServerView). v.far) c.keep.ensures ∙ hearing_far heard from c.args.now m (c.decide-heard.ensures.sound.member (routers c ∙ apart)) in
    subst (λ (v : ServerView). (after.far ≡ v.far) ⊎ BecameClient from v after) c.age.ensures.aged
    (far_later from l m after same
    (λ is. ap (λ (known : List Client). is_some (client_at from known)) (clients c) ∙ ap (λ (v : ServerView). is_some (client_at from v.clients)) c.keep.ensures ∙ client_kept heard from from c.args.now m is)
    (met_far from c.args.now l m c.recognise.ensures.known))
