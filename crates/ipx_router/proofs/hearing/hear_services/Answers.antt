use Rattle.std.proofs.Common.{◌≡◌, ◌+◌, ◌∙◌, ℕ, [], ◌∷◌, ◌++◌, length, ap, append_assoc, sym, subst, refl, arith}
use Rattle.std.proofs.lemmas.Grind.{common_steps}
use Rattle.std.proofs.lemmas.List.{length-append}
use Rattle.std.proofs.lemmas.Result.{err_from_is_err_and}
use Rattle.ipx_tables.specs.Service.{service_dead, service_key_cmp}
use Rattle.ipx_router.specs.Hearing.{GrowsByService, HeardServices, IsFullForService, after_services}
use Rattle.ipx_router.specs.Knowledge.{services_in}
use Rattle.ipx_router.proofs.HearingLemmas.{heard_none, hearing_stops, no_service, service_more, sources_more, walked_to}
use Rattle.ipx_router.proofs.hearing.hear_services.Goals as goal

pub loop-entry-init : goal.loop-entry-init
loop-entry-init c = record {
  all = c.into_iter-entry-iterator.ensures.into_iter_gives;
  count = refl;
  heard = heard_none service_key_cmp (after_services c.args.source c.args.now (services_in c.args.services.now)) c.args.entries c.args.services.now c.requires.table (λ p. refl);
  capacity = refl;
  valid = c.requires.table;
  sources = λ count port from. from;
}

pub returns-in_err-hear-clause-refused : goal.returns-in_err-hear-clause-refused
returns-in_err-hear-clause-refused c =
    let entries = c.args.entries in
    let ys = c.loop-entry.yielded in
    let e = c.in-Some.entry in
    let all : ys ++ (e ∷ c.next.new.self) ≡ entries = grind (arith, common_steps) in
    let at = walked_to ys e c.next.new.self entries no_service all in
    let p = err_from_is_err_and c.from_residual.result c.from_residual.ensures.1 in
    rw (p.1, p.2)
    (hearing_stops service_key_cmp (after_services c.args.source c.args.now (services_in c.args.services.now)) entries (IsFullForService c.args.source) (GrowsByService c.args.source) (length ys) no_service e c.loop-entry.services c.hear.new.self c.hear.result c.in_err-hear.field-0.0
    at.0 at.1 c.loop-entry.invariant.heard c.in_err-hear.ensures.refused c.in_err-hear.was c.hear.ensures.full.0 c.hear.ensures.out_of_memory)

pub returns-in_err-hear-clause-sources : goal.returns-in_err-hear-clause-sources
returns-in_err-hear-clause-sources c = rw c.in_err-hear.ensures.refused c.loop-entry.invariant.sources

pub loop-entry-preserved : goal.loop-entry-preserved
loop-entry-preserved c =
    let entries = c.args.entries in
    let ys = c.loop-entry.yielded in
    let e = c.in-Some.entry in
    let old = c.loop-entry.invariant in
    let all : ys ++ (e ∷ c.next.new.self) ≡ entries = grind (arith, common_steps) in
    let at = walked_to ys e c.next.new.self entries no_service all in
    let one_more : length (ys ++ e ∷ []) ≡ length ys + 1 = length-append ys (e ∷ []) in
    let heard = service_more c.args.source c.args.now entries (services_in c.args.services.now) (length ys) no_service e at.0 at.1 c.loop-entry.services old.heard c.hear.new.self c.hear.ensures.valid c.hear.ensures.capacity c.in_ok-hear.ensures.heard in
    record {
      all = append_assoc ys (e ∷ []) c.next.new.self ∙ all;
      count = ap (λ (n : ℕ). n + 1) old.count ∙ sym one_more;
      heard = subst (λ (n : ℕ). HeardServices c.args.source c.args.now entries (services_in c.args.services.now) n c.hear.new.self) (sym one_more) heard;
      capacity = c.hear.ensures.capacity ∙ old.capacity;
      valid = c.hear.ensures.valid;
      sources = λ count port from. sources_more service_key_cmp service_dead count c.args.source (services_in c.loop-entry.services) (services_in c.hear.new.self) _ _ c.args.now port (old.sources count port from) c.in_ok-hear.ensures.heard;
    }

pub returns-clause-heard : goal.returns-clause-heard
returns-clause-heard c =
    let entries = c.args.entries in
    let all : c.loop-entry.yielded ≡ entries = grind (arith, common_steps) in
    let long : length c.loop-entry.yielded ≡ length entries = ap length all in
    (c.loop-entry.invariant.count ∙ long, subst (λ (n : ℕ). HeardServices c.args.source c.args.now entries (services_in c.args.services.now) n c.loop-entry.services) long c.loop-entry.invariant.heard)
