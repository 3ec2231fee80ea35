use Rattle.std.proofs.Common.{◌≡◌, ◌∙◌, ◌+◌, ℕ, true, false, [], ◌∷◌, ◌++◌, length, ap, append_assoc, sym, subst, refl, arith}
use Rattle.std.proofs.lemmas.Grind.{common_steps}
use Rattle.std.proofs.lemmas.List.{length-append}
use Rattle.std.proofs.lemmas.Result.{err_from_is_err_and}
use Rattle.ipx_tables.specs.Route.{network_cmp}
use Rattle.ipx_router.specs.Knowledge.{routes_in}
use Rattle.ipx_router.specs.Hearing.{GrowsByRoute, HeardRoutes, IsFullForRoute, after_routes}
use Rattle.ipx_query.specs.QueryAnswers.{lone_port}
use Rattle.ipx_query.proofs.HearingSteps.{heard_more, heard_none, heard_skip, hearing_stops, no_entry, walked_to}
use Rattle.ipx_query.proofs.entries.hear_routes.Goals as goal

pub loop-entry-init : goal.loop-entry-init
loop-entry-init c = record {
  all = c.into_iter-entry-iterator.ensures.into_iter_gives;
  heard = heard_none network_cmp (after_routes (lone_port c.args.own) c.args.source c.args.now (routes_in c.args.routes.now)) c.args.entries c.args.routes.now c.requires (λ p. refl);
  capacity = refl;
  valid = c.requires;
}

pub returns-in_err-hear-clause-refused : goal.returns-in_err-hear-clause-refused
returns-in_err-hear-clause-refused c =
    let ports = lone_port c.args.own in
    let entries = c.args.entries in
    let ys = c.loop-entry.yielded in
    let e = c.in-Some.entry in
    let all : ys ++ (e ∷ c.next.new.self) ≡ entries = grind (arith, common_steps) in
    let at = walked_to ys e c.next.new.self entries no_entry all in
    let p = err_from_is_err_and c.from_residual.result c.from_residual.ensures.1 in
    let passes = sym c.is_route_heard.ensures ∙ c.if-is_route_heard.true in
    rw (p.1, p.2)
    (hearing_stops network_cmp (after_routes ports c.args.source c.args.now (routes_in c.args.routes.now)) entries (IsFullForRoute ports c.args.source) (GrowsByRoute ports c.args.source) (length ys) no_entry e c.loop-entry.routes c.hear.new.self c.hear.result c.in_err-hear.field-0.0
    at.0 at.1 c.loop-entry.invariant.heard c.in_err-hear.ensures.refused c.in_err-hear.was (λ e. (passes, c.hear.ensures.full.0 e)) (λ e. (passes, c.hear.ensures.out_of_memory e)))

pub loop-entry-preserved-in-Continue-1 : goal.loop-entry-preserved-in-Continue-1
loop-entry-preserved-in-Continue-1 c =
    let ports = lone_port c.args.own in
    let entries = c.args.entries in
    let ys = c.loop-entry.yielded in
    let e = c.in-Some.entry in
    let i = length ys in
    let old = c.loop-entry.invariant in
    let all : ys ++ (e ∷ c.next.new.self) ≡ entries = grind (arith, common_steps) in
    let at = walked_to ys e c.next.new.self entries no_entry all in
    let one_more : length (ys ++ e ∷ []) ≡ i + 1 = length-append ys (e ∷ []) in
    let passes = sym c.is_route_heard.ensures ∙ c.if-is_route_heard.true in
    let heard = heard_more ports c.args.source c.args.now entries (routes_in c.args.routes.now) i no_entry e at.0 at.1 c.loop-entry.routes old.heard c.hear.new.self c.hear.ensures.valid c.hear.ensures.capacity passes c.in_ok-hear.ensures.heard in
    record {
      all = append_assoc ys (e ∷ []) c.next.new.self ∙ all;
      heard = subst (λ (n : ℕ). HeardRoutes ports c.args.source c.args.now entries (routes_in c.args.routes.now) n c.hear.new.self) (sym one_more) heard;
      capacity = c.hear.ensures.capacity ∙ old.capacity;
      valid = c.hear.ensures.valid;
    }

pub loop-entry-preserved : goal.loop-entry-preserved
loop-entry-preserved c =
    let ports = lone_port c.args.own in
    let entries = c.args.entries in
    let ys = c.loop-entry.yielded in
    let e = c.in-Some.entry in
    let i = length ys in
    let old = c.loop-entry.invariant in
    let all : ys ++ (e ∷ c.next.new.self) ≡ entries = grind (arith, common_steps) in
    let at = walked_to ys e c.next.new.self entries no_entry all in
    let one_more : length (ys ++ e ∷ []) ≡ i + 1 = length-append ys (e ∷ []) in
    let fails = sym c.is_route_heard.ensures ∙ c.if-is_route_heard.false in
    let heard = heard_skip ports c.args.source c.args.now entries (routes_in c.args.routes.now) i no_entry e at.0 at.1 c.loop-entry.routes old.heard old.valid fails in
    record {
      all = append_assoc ys (e ∷ []) c.next.new.self ∙ all;
      heard = subst (λ (n : ℕ). HeardRoutes ports c.args.source c.args.now entries (routes_in c.args.routes.now) n c.loop-entry.routes) (sym one_more) heard;
      capacity = old.capacity;
      valid = old.valid;
    }

pub returns-clause-heard : goal.returns-clause-heard
returns-clause-heard c =
    let entries = c.args.entries in
    let all : c.loop-entry.yielded ≡ entries = grind (arith, common_steps) in
    let long : length c.loop-entry.yielded ≡ length entries = ap length all in
    subst (λ (n : ℕ). HeardRoutes (lone_port c.args.own) c.args.source c.args.now entries (routes_in c.args.routes.now) n c.loop-entry.routes) long c.loop-entry.invariant.heard
