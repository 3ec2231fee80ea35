use Rattle.std.proofs.Common.{◌≡◌, List, Option, Some, Result, Ok, length, true, sym, ap, refl, subst, ◌∙◌}
use Rattle.std.specs.Prelude.{is_some}
use Rattle.ipx_wire.specs.declared.ipx.packet.IpxHeader.{IpxHeader}
use Rattle.ipxnet_server.specs.declared.clients.Client.{Client}
use Rattle.ipxnet_server.specs.declared.drops.ServerDrop.{ServerDrop}
use Rattle.ipxnet_server.specs.declared.recipients.Recipients.{Recipients}
use Rattle.ipxnet_server.specs.declared.recipients.Recipients.TheVariants.{One}
use Rattle.ipxnet_server.specs.ServerClients.{client_at}
use Rattle.ipxnet_server.specs.ServerFloods.{limited_gives, server_giving}
use Rattle.ipxnet_server.specs.ServerHears.{ServerView, is_from_server, server_gives}
use Rattle.ipxnet_server.proofs.Limits.{given_limited, giving_keeps}
use Rattle.ipxnet_server.proofs.Still.{StaysHere, gives_client, gives_stay}
use Rattle.ipxnet_server.proofs.server.IpxnetServer.give.Goals as goal

pub returns-clause-packet : goal.returns-clause-packet
returns-clause-packet c =
    let node = c.args.node in
    let now = c.args.now in
    let size = length c.args.packet.now in
    λ p begins.
    c.limit_given-given.ensures.limited
    ∙ ap (λ (given : Result Recipients ServerDrop). limited_gives c.age.new.self given now)
    (c.takers-takers.ensures ∙ ap (λ (h : Option IpxHeader). server_gives c.age.new.self node h size) (c.header_of.ensures.packet p begins))
    ∙ ap (λ (v : ServerView). limited_gives v (server_gives v node (Some p.header) size) now) c.age.ensures.aged

pub returns-clause-server : goal.returns-clause-server
returns-clause-server c =
    c.keep_given.ensures ∙ ap (server_giving c.limit_given-given.result c.args.now) c.age.ensures.aged

pub returns-clause-taker : goal.returns-clause-taker
returns-clause-taker c =
    let l = c.age.new.self in
    let given = c.takers-takers.result in
    let now = c.args.now in
    λ place e.
    let to_one : given ≡ Ok (One place) = given_limited (λ (g : Result Recipients ServerDrop). g ≡ Ok (One place) → given ≡ Ok (One place)) l given now (λ drop f. cc) (λ f. f) (sym c.limit_given-given.ensures.limited ∙ e) in
    ap (λ (v : ServerView). is_some (client_at place v.clients)) c.keep_given.ensures
    ∙ ap (λ (known : List Client). is_some (client_at place known)) (giving_keeps (λ (v : ServerView). v.clients) (λ k f d m n. refl) c.limit_given-given.result now l)
    ∙ gives_client l c.args.node c.header_of.result (length c.args.packet.now) place (sym c.takers-takers.ensures ∙ to_one)

pub returns-clause-own : goal.returns-clause-own
returns-clause-own c =
    let l = c.age.new.self in
    let size = length c.args.packet.now in
    λ p begins here.
    let from : is_from_server l.port p.header ≡ true = ap (λ (v : ServerView). is_from_server v.port p.header) c.age.ensures.aged ∙ here in
    let given : c.takers-takers.result ≡ server_gives l c.args.node (Some p.header) size = c.takers-takers.ensures ∙ ap (λ (h : Option IpxHeader). server_gives l c.args.node h size) (c.header_of.ensures.packet p begins) in
    let stays : StaysHere c.takers-takers.result = subst StaysHere (sym given) (gives_stay l c.args.node p.header size from) in
    subst StaysHere (sym c.limit_given-given.ensures.limited) (given_limited StaysHere l c.takers-takers.result c.args.now (λ drop. tt) stays)
