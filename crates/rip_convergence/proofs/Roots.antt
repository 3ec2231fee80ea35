-- After 16 windows each route follows a path that exists.
use Rattle.std.proofs.Common.{ℕ, zero, suc, ◌+◌, ◌*◌, ◌<◌, ◌≤◌, ◌≡◌, ◌⊎◌, Some, min, ap, ◌∙◌, inl, inr, arith}
use Rattle.std.proofs.lemmas.Bool.{leb-false}
use Rattle.std.proofs.Math.Nat.{suc-mul}
use Rattle.ipx_wire.specs.declared.address.Network.{Network}
use Rattle.ipx_router.specs.declared.route.Route.{Route}
use Rattle.rip_convergence.specs.Histories.{Clock, Internet, TellsRoute, Routing, IsSourced}
use Rattle.rip_convergence.specs.Ways.{Way, own, over}

module _ (net : Internet) (d : Network) where
  -- an advertisement adds a hop, and fewer than 16 are learned
  pub hops_told : (s r : ℕ) (a b : Route) → TellsRoute net d s a r b
      → (b.metric.hops ≡ a.metric.hops + 1) × (b.metric.hops < 16)
  hops_told s r a b h =
      let is : b.metric.hops ≡ min (a.metric.hops + 1) 16 = ap (λ (c : Route). c.metric.hops) h.is ∙ ap (λ m. m.hops) h.metric in
      let low : h.best.1.hops < 16 = leb-false 16 h.best.1.hops h.alive in
      let same : b.metric.hops ≡ h.best.1.hops = ap (λ (c : Route). c.metric.hops) h.is in
      (omega (arith, is, low, same), omega (arith, low, same))

  module _ (window : ℕ) (clock : Clock) (x : Routing) (start : ℕ) (sourced : IsSourced net d window clock x start) where
    -- what is left of a forged route has a hop for each window
    pub rooted : (k t r : ℕ) (b : Route) → start + k * window ≤ clock t → x t r ≡ Some b
        → (k ≤ b.metric.hops) ⊎ Way net d r b
    rooted zero t r b late has = inl (omega arith)
    rooted (suc k) t r b late has =
        let step = suc-mul k window in
        elim (sourced t r b (omega (arith, step, late)) has) [
          | inl mine ↦ inr (own mine)
          | inr h ↦ elim (rooted k h.step h.who h.route (omega (arith, step, late, h.recent)) h.had) [
            | inl many ↦ inl (omega (arith, many, (hops_told h.who r h.route b h.tells).0))
            | inr way ↦ inr (over way h.tells)
          ]
        ]

    pub are_ways : (t r : ℕ) (b : Route) → start + 16 * window ≤ clock t → x t r ≡ Some b → Way net d r b
    are_ways t r b late has = elim (rooted 16 t r b late has) [
      | inr way ↦ way
      | inl many ↦ elim (sourced t r b (omega (arith, late)) has) [
        | inl mine ↦ own mine
        | inr h ↦ absurd (omega (arith, many, (hops_told h.who r h.route b h.tells).1))
      ]
    ]
