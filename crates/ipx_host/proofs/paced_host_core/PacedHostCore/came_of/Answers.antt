use Rattle.std.proofs.Common.{ℕ, subst, sym}
use Rattle.spx_messages.specs.Arrives.{Arrives}
use Rattle.spx_messages.specs.EndpointView.{EndpointView}
use Rattle.spx_messages.specs.declared.arrived.Arrived.{Arrived}
use Rattle.ipx_host.specs.Noting.{Notes}
use Rattle.ipx_host.proofs.paced_host_core.PacedHostCore.came_of.Goals as goal

pub returns-in-NoRoom : goal.returns-in-NoRoom
returns-in-NoRoom c =
    let after = c.args.self.now.endpoint in
    let bytes = c.args.bytes.now in
    subst (λ (a : Arrived). (old : EndpointView) → (now : ℕ) → Arrives old bytes now a after → Notes a after.heard bytes c.unlinked_by.result)
    (sym c.in-NoRoom.is) (λ old now arrives. c.unlinked_by.ensures old after now arrives)
