use Rattle.std.proofs.Common.{◌≡◌, Bool, false, length, sym, true, ap, ◌∙◌}
use Rattle.std.specs.Prelude.{if◌then◌else◌}
use Rattle.ipx_wire.specs.declared.ipx.packet.IpxHeader.{IpxHeader}
use Rattle.ipxnet_server.specs.ServerHears.{ServerView, makes_client, server_admitting}
use Rattle.ipxnet_server.proofs.Once.{some_is}
use Rattle.ipxnet_server.proofs.server.IpxnetServer.recognise.Goals as goal

pub returns-in_default-clause-packet : goal.returns-in_default-clause-packet
returns-in_default-clause-packet c = λ p begins. cc (c.header_of.ensures.packet p begins, c.in_default.is)

pub returns-then-admits-clause-packet : goal.returns-then-admits-clause-packet
returns-then-admits-clause-packet c =
    let old : ServerView = c.args.self.now in
    let size = length c.args.bytes.now in
    let known : ServerView = server_admitting c.args.from c.args.now old in
    λ p begins.
    let same : c.in-Some.header ≡ p.header = some_is c.in-Some.header p.header (sym c.in-Some.is ∙ c.header_of.ensures.packet p begins) in
    let makes : makes_client old c.args.from p.header size c.args.now ≡ true =
    ap (λ (h : IpxHeader). makes_client old c.args.from h size c.args.now) (sym same) ∙ sym c.admits.ensures.admits ∙ c.if-admits.true in
    c.admit.ensures.admits ∙ sym (ap (λ (b : Bool). if b then known else old) makes)

pub returns-else-admits-clause-packet : goal.returns-else-admits-clause-packet
returns-else-admits-clause-packet c =
    let old : ServerView = c.args.self.now in
    let size = length c.args.bytes.now in
    let known : ServerView = server_admitting c.args.from c.args.now old in
    λ p begins.
    let same : c.in-Some.header ≡ p.header = some_is c.in-Some.header p.header (sym c.in-Some.is ∙ c.header_of.ensures.packet p begins) in
    let makes : makes_client old c.args.from p.header size c.args.now ≡ false =
    ap (λ (h : IpxHeader). makes_client old c.args.from h size c.args.now) (sym same) ∙ sym c.admits.ensures.admits ∙ c.if-admits.false in
    sym (ap (λ (b : Bool). if b then known else old) makes)
