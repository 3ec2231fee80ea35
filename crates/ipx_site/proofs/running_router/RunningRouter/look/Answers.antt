use Rattle.std.proofs.Common.{◌∙◌, ap, refl, subst, sym, true≢false}
use Rattle.ipx_router.specs.RouterView.{RouterView}
use Rattle.ipx_sockets.specs.Moments.{HasPassed}
use Rattle.ipx_site.specs.KnownNow.{AreNetworksKnown, AreServicesKnown, LeavesKnown}
use Rattle.ipx_site.proofs.Worked.{on_refused, on_well}
use Rattle.ipx_site.proofs.running_router.RunningRouter.look.Goals as goal

pub returns-then-not-is_over-clause-known : goal.returns-then-not-is_over-clause-known
returns-then-not-is_over-clause-known g c =
    let self = c.args.self.now in (
      (λ no. (refl, refl, refl, refl)),
      λ due.
          let over = c.is_over.ensures.1 (subst (λ period. HasPassed period self.looked c.args.now) (sym c.look_period.ensures) due) in
          absurd (true≢false (sym over ∙ c.if-not-is_over.true)),
    )

pub returns-clause-known : goal.returns-clause-known
returns-clause-known g c =
    let self = c.args.self.now in
    let old = self.route_changes in
    let new = c.look.new.self in
    let r = c.look.result in
    let now = c.args.now in
    let due = subst (λ period. HasPassed period self.looked now) c.look_period.ensures (c.is_over.ensures.0 c.if-not-is_over.false) in
    let heard = ap (λ o. o.heard) (c.outcomes.ensures ∙ ap (λ k. k.outcomes) (c.core-3.ensures ∙ ap (λ k. k.core) (c.core-2.ensures ∙ ap (λ k. k.core) c.core.ensures))) in
    let router = c.router-router.ensures ∙ ap (λ k. k.router) (c.core-6.ensures ∙ ap (λ k. k.core) (c.core-5.ensures ∙ ap (λ k. k.core) c.core-4.ensures)) in (
      (λ no. absurd (no due)),
      λ it. (
        refl,
        heard,
        (λ well.
            let is = sym c.is_err.ensures.value ∙ well in (
              subst (λ (v : RouterView). AreNetworksKnown v now new.networks.items) router (on_well r c.look.ensures.networks is),
              subst (λ (v : RouterView). AreServicesKnown v now new.services.items) router (on_well r c.look.ensures.services is),
            )),
        λ refused. subst (λ (v : RouterView). LeavesKnown v now old new) router (on_refused r c.look.ensures.refused (sym c.is_err.ensures.value ∙ refused)),
      ),
    )
