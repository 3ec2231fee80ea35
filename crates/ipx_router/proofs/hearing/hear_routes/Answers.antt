use Rattle.std.proofs.Common.{◌≡◌, ◌∙◌, ◌+◌, ℕ, true, false, [], ◌∷◌, ◌++◌, length, take, ap, append_assoc, sym, subst, refl, arith}
use Rattle.std.specs.Prelude.{count_by}
use Rattle.std.proofs.lemmas.Grind.{common_steps}
use Rattle.std.proofs.lemmas.List.{length-append, take_all}
use Rattle.std.proofs.lemmas.List.Sums.{count_by_more_no, count_by_more_yes}
use Rattle.std.proofs.lemmas.Result.{err_from_is_err_and}
use Rattle.ipx_control.specs.declared.rip.packet.RipEntry.{RipEntry}
use Rattle.ipx_tables.specs.Route.{network_cmp, route_dead}
use Rattle.ipx_router.specs.Knowledge.{routes_in}
use Rattle.ipx_router.specs.Hearing.{GrowsByRoute, HeardRoutes, IsFullForRoute, after_routes, is_heard}
use Rattle.ipx_router.proofs.HearingLemmas.{heard_more, heard_none, heard_skip, hearing_stops, no_entry, sources_more, walked_to}
use Rattle.ipx_router.proofs.hearing.hear_routes.Goals as goal

pub loop-entry-init : goal.loop-entry-init
loop-entry-init c = record {
  all = c.into_iter-entry-iterator.ensures.into_iter_gives;
  count = refl;
  few = omega arith;
  heard = heard_none network_cmp (after_routes c.args.ports.now c.args.source c.args.now (routes_in c.args.routes.now)) c.args.entries c.args.routes.now c.requires.table (λ p. refl);
  capacity = refl;
  valid = c.requires.table;
  sources = λ count port from. from;
}

pub returns-in_err-hear-clause-refused : goal.returns-in_err-hear-clause-refused
returns-in_err-hear-clause-refused c =
    let entries = c.args.entries in
    let ys = c.loop-entry.yielded in
    let e = c.in-Some.entry in
    let all : ys ++ (e ∷ c.next.new.self) ≡ entries = grind (arith, common_steps) in
    let at = walked_to ys e c.next.new.self entries no_entry all in
    let p = err_from_is_err_and c.from_residual.result c.from_residual.ensures.1 in
    let passes = sym c.is_route_heard.ensures ∙ c.if-is_route_heard.true in
    rw (p.1, p.2)
    (hearing_stops network_cmp (after_routes c.args.ports.now c.args.source c.args.now (routes_in c.args.routes.now)) entries (IsFullForRoute c.args.ports.now c.args.source) (GrowsByRoute c.args.ports.now c.args.source) (length ys) no_entry e c.loop-entry.routes c.hear.new.self c.hear.result c.in_err-hear.field-0.0
    at.0 at.1 c.loop-entry.invariant.heard c.in_err-hear.ensures.refused c.in_err-hear.was (λ e. (passes, c.hear.ensures.full.0 e)) (λ e. (passes, c.hear.ensures.out_of_memory e)))

pub returns-in_err-hear-clause-sources : goal.returns-in_err-hear-clause-sources
returns-in_err-hear-clause-sources c = rw c.in_err-hear.ensures.refused c.loop-entry.invariant.sources

pub loop-entry-preserved-then-is_route_heard : goal.loop-entry-preserved-then-is_route_heard
loop-entry-preserved-then-is_route_heard c =
    let ports = c.args.ports.now in
    let entries = c.args.entries in
    let ys = c.loop-entry.yielded in
    let e = c.in-Some.entry in
    let i = length ys in
    let old = c.loop-entry.invariant in
    let all : ys ++ (e ∷ c.next.new.self) ≡ entries = grind (arith, common_steps) in
    let at = walked_to ys e c.next.new.self entries no_entry all in
    let one_more : length (ys ++ e ∷ []) ≡ i + 1 = length-append ys (e ∷ []) in
    let counted = ap (λ (n : ℕ). count_by (is_heard ports) (take n entries)) one_more in
    let passes = sym c.is_route_heard.ensures ∙ c.if-is_route_heard.true in
    let more = count_by_more_yes (is_heard ports) entries i no_entry at.0 (subst (λ (x : RipEntry). is_heard ports x ≡ true) (sym at.1) passes) in
    let heard = heard_more ports c.args.source c.args.now entries (routes_in c.args.routes.now) i no_entry e at.0 at.1 c.loop-entry.routes old.heard c.hear.new.self c.hear.ensures.valid c.hear.ensures.capacity passes c.in_ok-hear.ensures.heard in
    record {
      all = append_assoc ys (e ∷ []) c.next.new.self ∙ all;
      count = omega (arith, old.count, more, counted);
      few = omega (arith, old.few, one_more);
      heard = subst (λ (n : ℕ). HeardRoutes ports c.args.source c.args.now entries (routes_in c.args.routes.now) n c.hear.new.self) (sym one_more) heard;
      capacity = c.hear.ensures.capacity ∙ old.capacity;
      valid = c.hear.ensures.valid;
      sources = λ count port from. sources_more network_cmp route_dead count c.args.source (routes_in c.loop-entry.routes) (routes_in c.hear.new.self) _ _ c.args.now port (old.sources count port from) c.in_ok-hear.ensures.heard;
    }

pub loop-entry-preserved : goal.loop-entry-preserved
loop-entry-preserved c =
    let ports = c.args.ports.now in
    let entries = c.args.entries in
    let ys = c.loop-entry.yielded in
    let e = c.in-Some.entry in
    let i = length ys in
    let old = c.loop-entry.invariant in
    let all : ys ++ (e ∷ c.next.new.self) ≡ entries = grind (arith, common_steps) in
    let at = walked_to ys e c.next.new.self entries no_entry all in
    let one_more : length (ys ++ e ∷ []) ≡ i + 1 = length-append ys (e ∷ []) in
    let counted = ap (λ (n : ℕ). count_by (is_heard ports) (take n entries)) one_more in
    let fails = sym c.is_route_heard.ensures ∙ c.if-is_route_heard.false in
    let more = count_by_more_no (is_heard ports) entries i no_entry at.0 (subst (λ (x : RipEntry). is_heard ports x ≡ false) (sym at.1) fails) in
    let heard = heard_skip ports c.args.source c.args.now entries (routes_in c.args.routes.now) i no_entry e at.0 at.1 c.loop-entry.routes old.heard old.valid fails in
    record {
      all = append_assoc ys (e ∷ []) c.next.new.self ∙ all;
      count = old.count ∙ sym more ∙ sym counted;
      few = omega (arith, old.few, one_more);
      heard = subst (λ (n : ℕ). HeardRoutes ports c.args.source c.args.now entries (routes_in c.args.routes.now) n c.loop-entry.routes) (sym one_more) heard;
      capacity = old.capacity;
      valid = old.valid;
      sources = old.sources;
    }

pub returns-clause-heard : goal.returns-clause-heard
returns-clause-heard c =
    let entries = c.args.entries in
    let all : c.loop-entry.yielded ≡ entries = grind (arith, common_steps) in
    let long : length c.loop-entry.yielded ≡ length entries = ap length all in (
      c.loop-entry.invariant.count ∙ ap (count_by (is_heard c.args.ports.now)) (take_all (length c.loop-entry.yielded) entries (omega (arith, long))),
      subst (λ (n : ℕ). HeardRoutes c.args.ports.now c.args.source c.args.now entries (routes_in c.args.routes.now) n c.loop-entry.routes) long c.loop-entry.invariant.heard,
    )
