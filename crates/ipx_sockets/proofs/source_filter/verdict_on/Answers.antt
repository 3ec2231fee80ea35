use Rattle.std.proofs.Common.{◌≡◌, ◌∙◌, true, subst, sym}
use Rattle.ipx_wire.specs.Ipx.{PacketView, packet_view}
use Rattle.ipx_sockets.specs.SourceFilter.{network_mismatch, source_matches_sender, may_originate}
use Rattle.ipx_sockets.proofs.source_filter.verdict_on.Goals as goal

pub returns-then-not-source_matches_sender : goal.returns-then-not-source_matches_sender
returns-then-not-source_matches_sender c = (
  sym c.is_listed.ensures ∙ c.if-not-is_listed.false,
  λ all.
      let said = c.source_matches_sender.ensures ∙ all (packet_view c.in-Ok.packet) c.in-Ok.ensures.found in
      let no = c.if-not-source_matches_sender.true in cc,
)

pub returns-then-may_originate : goal.returns-then-may_originate
returns-then-may_originate c =
    let own : PacketView → Type 0 = λ p. source_matches_sender c.args.access_list.now.network c.args.from p.header ≡ true in
    let may : PacketView → Type 0 = λ p. may_originate c.args.access_list.now.network c.args.access_list.now.routers c.args.from p ≡ true in (
      sym c.is_listed.ensures ∙ c.if-not-is_listed.false,
      (λ p begins. subst own (c.in-Ok.ensures.only p begins.0 begins.1) (sym c.source_matches_sender.ensures ∙ c.if-not-source_matches_sender.false)),
      λ p begins. subst may (c.in-Ok.ensures.only p begins.0 begins.1) (sym c.may_originate.ensures ∙ c.if-may_originate.true),
    )

pub returns-else-may_originate : goal.returns-else-may_originate
returns-else-may_originate c =
    let is_of : PacketView → Type 0 = λ p. c.network_mismatch.result ≡ network_mismatch c.args.access_list.now.network c.args.from p.header in
    let own : PacketView → Type 0 = λ p. source_matches_sender c.args.access_list.now.network c.args.from p.header ≡ true in (
      sym c.is_listed.ensures ∙ c.if-not-is_listed.false,
      (λ p begins. subst own (c.in-Ok.ensures.only p begins.0 begins.1) (sym c.source_matches_sender.ensures ∙ c.if-not-source_matches_sender.false)),
      (λ all.
          let said = c.may_originate.ensures ∙ all (packet_view c.in-Ok.packet) c.in-Ok.ensures.found in
          let no = c.if-may_originate.false in cc),
      λ p begins. subst is_of (c.in-Ok.ensures.only p begins.0 begins.1) c.network_mismatch.ensures,
    )
