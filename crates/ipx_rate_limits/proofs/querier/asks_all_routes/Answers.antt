use Rattle.std.proofs.Common.{◌≡◌, ◌∙◌, ℕ, List, Bool, true, ap, subst, sym}
use Rattle.ipx_control.specs.declared.rip.packet.RipEntry.{RipEntry}
use Rattle.ipx_control.specs.Rip.{IsRip, RipView, rip_body_view}
use Rattle.ipx_control.specs.Rip as rip
use Rattle.ipx_router.specs.Replying.{asks_all}
use Rattle.ipx_rate_limits.specs.RateLimiter.{AsksAllRoutes}
use Rattle.ipx_rate_limits.proofs.querier.asks_all_routes.Goals as goal

-- the packet of a body asks for all exactly if its entries do
asks_so : (body : List ℕ) (m : RipView) (asked : List RipEntry) (r : Bool) → ((tail : List ℕ) × IsRip m body tail)
    → ((n : RipView) (tail : List ℕ) → IsRip n body tail → m ≡ n) → m ≡ rip.Request asked → r ≡ asks_all asked
    → (r ≡ true → AsksAllRoutes body) × (AsksAllRoutes body → r ≡ true)
asks_so body m asked r found only is by = (
  λ e. (asked, found.0, subst (λ (n : RipView). IsRip n body found.0) is found.1, sym by ∙ e),
  λ a.
      let same : rip.Request asked ≡ rip.Request a.0 = sym is ∙ only (rip.Request a.0) a.1 a.2 in
      let one : asked ≡ a.0 = cc in
      by ∙ ap asks_all one ∙ a.3,
)

pub returns-in-Ok-Request : goal.returns-in-Ok-Request
returns-in-Ok-Request c =
    asks_so c.args.body.now (rip_body_view c.in-Ok-Request.field-0) c.in-Ok-Request.asked c.names_all.result
    c.in-Ok-Request.ensures.found c.in-Ok-Request.ensures.only (ap rip_body_view c.in-Ok-Request.field-0-is) c.names_all.ensures

pub returns-in-Err : goal.returns-in-Err
returns-in-Err c = (λ e. absurd cc, λ a. absurd (c.in-Err.ensures.only (rip.Request a.0) a.1 a.2))
