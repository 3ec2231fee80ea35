use Rattle.std.proofs.Common.{inr, refl, subst, sym}
use Rattle.std.proofs.lemmas.Result.{IfOk-weaker, on_err_weaker}
use Rattle.ipx_router.specs.RouterPackets.{sendings}
use Rattle.ipx_static.specs.WithStatics.{WithStaticsView, HearsIfDue}
use Rattle.ipx_static.proofs.with_statics.WithStaticsCore.next.Goals as goal

pub returns-clause-given : goal.returns-clause-given
returns-clause-given g c =
    let i = c.self.inside in
    let heard : WithStaticsView g.row.C.Denot = record { core = i.core; advertisements = sendings i.advertisements.items; refreshed_at = i.refreshed_at } in
    let was = subst (λ (v : WithStaticsView g.row.C.Denot). HearsIfDue g.C.Core.hears c.args.self.now c.args.now v) (sym c.self.view_is) c.in_ok-refresh.ensures.heard in
    IfOk-weaker c.next.result _ _ (λ given h. (heard, was, h, refl)) c.next.ensures.given

pub returns-clause-refused : goal.returns-clause-refused
returns-clause-refused g c =
    let i = c.self.inside in
    let heard : WithStaticsView g.row.C.Denot = record { core = i.core; advertisements = sendings i.advertisements.items; refreshed_at = i.refreshed_at } in
    let was = subst (λ (v : WithStaticsView g.row.C.Denot). HearsIfDue g.C.Core.hears c.args.self.now c.args.now v) (sym c.self.view_is) c.in_ok-refresh.ensures.heard in
    on_err_weaker c.next.result (λ h. inr (heard, was, h, refl)) c.next.ensures.refused
