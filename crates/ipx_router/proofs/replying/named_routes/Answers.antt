use Rattle.std.proofs.Common.{◌≡◌, ◌∙◌, List, [], ◌∷◌, ◌++◌, Option, sym, subst, arith}
use Rattle.std.specs.List.{cons_option}
use Rattle.std.proofs.lemmas.Grind.{common_steps}
use Rattle.std.proofs.lemmas.List.{append-nil}
use Rattle.ipx_control.specs.declared.rip.packet.RipEntry.{RipEntry}
use Rattle.ipx_router.specs.Knowledge.{routes_in}
use Rattle.ipx_router.specs.AdvertisedEntries.{IsAdvertisedRoute}
use Rattle.ipx_router.specs.Replying.{AreAdvertisedOf}
use Rattle.ipx_router.specs.Picking.{IsAdvertisedOf}
use Rattle.ipx_router.proofs.Picked.{asked_more, asks_all_by, named_more}
use Rattle.ipx_router.proofs.SomeAdvertised.{any_err, asked_by_name}
use Rattle.ipx_router.proofs.replying.named_routes.Goals as goal

pub loop-entry-preserved-in-Continue-1 : goal.loop-entry-preserved-in-Continue-1
loop-entry-preserved-in-Continue-1 c =
    let ys = c.loop-entry.yielded in
    let e = c.in-Some.entry in
    let told = c.loop-entry.told.items in
    let IsAdvertised : RipEntry → Type 0 = IsAdvertisedRoute c.args.ports.now (routes_in c.args.routes.now) c.args.at in
    let more = asked_more IsAdvertised ys told e c.told_of.result c.loop-entry.invariant.told c.told_of.ensures in
    let one = subst (λ (o : Option RipEntry). AreAdvertisedOf IsAdvertised (ys ++ e ∷ []) (told ++ cons_option o [])) c.in-Some-told_of.is more in
    record {
      all = grind (arith, common_steps);
      named = named_more ys e c.loop-entry.invariant.named (sym c.eq.ensures ∙ c.if-eq.false);
      told = rw c.in_ok-push.ensures.items one;
    }

pub loop-entry-preserved : goal.loop-entry-preserved
loop-entry-preserved c =
    let ys = c.loop-entry.yielded in
    let e = c.in-Some.entry in
    let told = c.loop-entry.told.items in
    let IsAdvertised : RipEntry → Type 0 = IsAdvertisedRoute c.args.ports.now (routes_in c.args.routes.now) c.args.at in
    let more = asked_more IsAdvertised ys told e c.told_of.result c.loop-entry.invariant.told c.told_of.ensures in
    let none = subst (λ (o : Option RipEntry). AreAdvertisedOf IsAdvertised (ys ++ e ∷ []) (told ++ cons_option o [])) c.in_default.is more in
    record {
      all = grind (arith, common_steps);
      named = named_more ys e c.loop-entry.invariant.named (sym c.eq.ensures ∙ c.if-eq.false);
      told = subst (λ (es : List RipEntry). AreAdvertisedOf IsAdvertised (ys ++ e ∷ []) es) (append-nil told) none;
    }

pub returns-then-eq-clause-all : goal.returns-then-eq-clause-all
returns-then-eq-clause-all c =
    let ys = c.loop-entry.yielded in
    let e = c.in-Some.entry in
    let all : ys ++ (e ∷ c.next.new.self) ≡ c.args.asked = grind (arith, common_steps) in
    asks_all_by ys e c.next.new.self c.args.asked all (sym c.eq.ensures ∙ c.if-eq.true)

pub returns-in_err-push-clause-refused : goal.returns-in_err-push-clause-refused
returns-in_err-push-clause-refused c =
    let ys = c.loop-entry.yielded in
    let e = c.in-Some.entry in
    let later = c.next.new.self in
    let IsAdvertised : RipEntry → Type 0 = IsAdvertisedRoute c.args.ports.now (routes_in c.args.routes.now) c.args.at in
    let all : ys ++ (e ∷ later) ≡ c.args.asked = grind (arith, common_steps) in
    let told = subst (λ (o : Option RipEntry). IsAdvertisedOf IsAdvertised e.network o) c.in-Some-told_of.is c.told_of.ensures in
    any_err c.from_residual.result (asked_by_name c.args.ports.now (routes_in c.args.routes.now) c.args.at ys e later c.args.asked all c.in-Some-told_of.route told.0 told.1)
