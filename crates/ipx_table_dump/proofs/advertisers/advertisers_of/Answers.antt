use Rattle.std.proofs.Common.{◌≡◌, ◌∙◌, ◌<◌, ◌^◌, ap, refl, take, rules, cond, length, Option, Some, get_or}
use Rattle.std.specs.Option.{unwrap_or}
use Rattle.ipx_table_dump.specs.declared.advertisers.Advertiser.{Advertiser}
use Rattle.ipx_table_dump.specs.Advertisers.{is_advertisement_of, nothing_advertised, advertised_by, with_advertisement}
use Rattle.ipx_table_dump.proofs.Tellings.{few_told, advertiser_put, counted_before}
use Rattle.ipx_table_dump.proofs.advertisers.advertisers_of.Goals as goal

pub with_advertisement-requires-clause-networks : goal.with_advertisement-requires-clause-networks
with_advertisement-requires-clause-networks c =
    let said = c.args.said.now in
    let i = c.loop-saying.saying-index in
    let known = c.counted_before-before.ensures ∙ ap (λ o. unwrap_or o nothing_advertised) (c.loop-saying.invariant _) ∙ counted_before (take i said) _ in
    let small : length said < 2 ^ 64 = search rules in
    (few_told said i _ c.counted_before-before.result c.loop-saying-test.true small known).0

pub with_advertisement-requires-clause-services : goal.with_advertisement-requires-clause-services
with_advertisement-requires-clause-services c =
    let said = c.args.said.now in
    let i = c.loop-saying.saying-index in
    let known = c.counted_before-before.ensures ∙ ap (λ o. unwrap_or o nothing_advertised) (c.loop-saying.invariant _) ∙ counted_before (take i said) _ in
    let small : length said < 2 ^ 64 = search rules in
    (few_told said i _ c.counted_before-before.result c.loop-saying-test.true small known).1

pub loop-saying-preserved : goal.loop-saying-preserved
loop-saying-preserved c = λ s.
    let said = c.args.said.now in
    let i = c.loop-saying.saying-index in
    let saying = get_or said i _ in
    let before = c.counted_before-before.ensures ∙ ap (λ o. unwrap_or o nothing_advertised) (c.loop-saying.invariant saying.source) ∙ counted_before (take i said) saying.source in
    let next : c.with_advertisement.result ≡ with_advertisement (advertised_by (take i said) saying.source) saying = c.with_advertisement.ensures ∙ ap (λ t. with_advertisement t saying) before in
    c.in_ok-insert.ensures.updates.0 s
    ∙ ap (λ (o : Option Advertiser). cond (is_advertisement_of s saying) (Some c.with_advertisement.result) o) (c.loop-saying.invariant s)
    ∙ advertiser_put c.sources_are_distinct.ensures said i saying s c.loop-saying-test.true _ refl _ next
