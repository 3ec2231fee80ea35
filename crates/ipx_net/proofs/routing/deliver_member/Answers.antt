use Rattle.std.proofs.Common.{◌≡◌, All, List, length, subst, refl, sym, ap, ◌∙◌, inl, inr}
use Rattle.std.proofs.lemmas.Option.{slice_get_read}
use Rattle.ipx_router.specs.NewRouter.{IsOwnNetwork}
use Rattle.ipx_router.specs.OutcomeView.{router_outcome}
use Rattle.ipx_router.specs.declared.port.Port.{Port}
use Rattle.ipx_net.specs.RouterEvents.{routed_growth}
use Rattle.ipx_net.specs.declared.routers.RouterNow.{RouterNow}
use Rattle.ipx_net.proofs.routing.deliver_member.Goals as goal

pub returns-clause-reached : goal.returns-clause-reached
returns-clause-reached c =
    let r = c.index-routers-router.result in
    let rest = rw (← c.index-routers-router.is) at c.receive.ensures.rest in
    let ports : c.receive.new.self.ports ≡ r.router.ports = rest.ports in
    record {
      before = r;
      there = slice_get_read c.args.routers.now (length c.args.routers.now) c.args.router r refl c.requires.there c.index-routers-router.is;
      after = _;
      outcome = router_outcome c.in_ok-outcome.outcome;
      receives = rw (← c.index-routers-router.is) at c.in_ok-outcome.ensures.answer;
      on = rw (← c.index-routers-router.is) at c.in_ok-outcome.ensures.one_hop_on;
      own = c.in_ok-outcome.ensures.own;
      networks = subst (λ (ps : List Port). All IsOwnNetwork ps) ports c.receive.ensures.networks;
      started = ap (λ (x : RouterNow). x.started) (sym c.index-routers-router.is);
      grows = c.in_ok-growth.ensures.grows ∙ ap (λ (ps : List Port). routed_growth c.args.router ps c.args.parcel c.args.first (router_outcome c.in_ok-outcome.outcome)) (c.ports.ensures.ports ∙ ports);
      routers = refl;
    }

pub returns-in_err-outcome-clause-memory : goal.returns-in_err-outcome-clause-memory
returns-in_err-outcome-clause-memory c =
    let r = c.index-routers-router.result in
    λ made. (r, slice_get_read c.args.routers.now (length c.args.routers.now) c.args.router r refl c.requires.there c.index-routers-router.is, c.receive.new.self, inl (rw (← c.index-routers-router.is) at c.in_err-outcome.ensures.refused))

pub returns-in_err-growth-clause-memory : goal.returns-in_err-growth-clause-memory
returns-in_err-growth-clause-memory c =
    let r = c.index-routers-router.result in
    λ made. (
      r,
      slice_get_read c.args.routers.now (length c.args.routers.now) c.args.router r refl c.requires.there c.index-routers-router.is,
      c.receive.new.self,
      inr (router_outcome c.in_ok-outcome.outcome, rw (← c.index-routers-router.is) at c.in_ok-outcome.ensures.answer, c.in_err-growth.ensures.memory tt),
    )

pub returns-clause-memory : goal.returns-clause-memory
returns-clause-memory c =
    let r = c.index-routers-router.result in
    λ made. (
      r,
      slice_get_read c.args.routers.now (length c.args.routers.now) c.args.router r refl c.requires.there c.index-routers-router.is,
      c.receive.new.self,
      inr (router_outcome c.in_ok-outcome.outcome, rw (← c.index-routers-router.is) at c.in_ok-outcome.ensures.answer, c.in_ok-growth.ensures.memory made),
    )
