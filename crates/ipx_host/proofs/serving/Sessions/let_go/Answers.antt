use Rattle.std.proofs.Common.{◌≡◌, ◌∙◌, Bool, List, Some, ap, arith, length, refl, subst, sym}
use Rattle.std.proofs.lemmas.Option.{slice_get_read}
use Rattle.std.specs.Prelude.{slice_get}
use Rattle.ipx_host.specs.Sessions.{KeepsOne, raised_if}
use Rattle.ipx_host.specs.HostOutput.{left_of}
use Rattle.ipx_host.specs.declared.sessions.Session.{Session}
use Rattle.ipx_host.proofs.Holding.{keeps_removed}
use Rattle.ipx_host.proofs.serving.Sessions.let_go.Goals as goal

pub invariant_of-self : goal.invariant_of-self
invariant_of-self g c =
    let old = c.args.self.now in
    record {
      room = omega (arith, c.remove-session.ensures.capacity, old.room);
      one = subst (λ (l : List Session). KeepsOne old.once l (left_of old.output)) (sym c.remove-session.ensures.items)
          (keeps_removed old.once old.held.items (left_of old.output) c.args.place c.requires old.one);
    }

pub returns-clause-released : goal.returns-clause-released
returns-clause-released g c =
    let items = c.args.self.now.held.items in
    let k = c.remove-session.result in
    let at : slice_get items c.args.place ≡ Some k = slice_get_read items (length items) c.args.place k refl c.requires c.remove-session.ensures.value in
    rw at c.let_link_go.ensures

pub returns-clause-stops : goal.returns-clause-stops
returns-clause-stops g c =
    let items = c.args.self.now.held.items in
    let k = c.remove-session.result in
    let at : slice_get items c.args.place ≡ Some k = slice_get_read items (length items) c.args.place k refl c.requires c.remove-session.ensures.value in
    rw at c.stop_of.ensures.stops

pub returns-clause-counts : goal.returns-clause-counts
returns-clause-counts g c =
    let items = c.args.self.now.held.items in
    let k = c.remove-session.result in
    let at : slice_get items c.args.place ≡ Some k = slice_get_read items (length items) c.args.place k refl c.requires c.remove-session.ensures.value in
    rw at (c.count_if-self.ensures ∙ ap (λ (b : Bool). raised_if b c.args.self.now.never_heard) c.is_unheard.ensures)
