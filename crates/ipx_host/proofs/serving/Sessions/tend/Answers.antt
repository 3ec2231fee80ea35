use Rattle.std.proofs.Common.{◌≡◌, ◌∙◌, Option, Some, ap, subst, sym}
use Rattle.std.proofs.lemmas.Option.{slice_get-get_or}
use Rattle.std.specs.Prelude.{IfSome, slice_get}
use Rattle.ipx_host.specs.ListenOutcomes.{stop_in}
use Rattle.ipx_host.specs.SessionActions.{is_unheard}
use Rattle.ipx_host.specs.Midway.{counts_at}
use Rattle.ipx_host.specs.Sessions.{raised_if}
use Rattle.ipx_host.specs.Tending.{IsActionFor}
use Rattle.ipx_host.specs.declared.sessions.Session.{Session}
use Rattle.ipx_host.specs.declared.sessions.SessionAction.{SessionAction}
use Rattle.ipx_host.specs.declared.sessions.SessionAction.TheVariants as ActionsOfSessions
use Rattle.ipx_host.proofs.Unheard.{asks_tended, counts_gone, goes_tended, probed, removed}
use Rattle.ipx_host.proofs.serving.Sessions.tend.Goals as goal

pub returns-in-Asks-clause-counts : goal.returns-in-Asks-clause-counts
returns-in-Asks-clause-counts g c =
    let old = c.args.self.now in
    let core = c.args.station.now.core in
    probed old.held.items c.ask.new.self.held.items c.args.place core.moment old.never_heard c.ask.new.self.never_heard c.args.station.now.refused c.ask.new.station.refused core.endpoint c.ask.new.station.core.endpoint
    c.requires c.ask.ensures.asks c.ask.ensures.never_heard

pub returns-in_default-clause-counts : goal.returns-in_default-clause-counts
returns-in_default-clause-counts g c =
    let old = c.args.self.now in
    removed old.held.items c.let_go.new.self.held.items c.args.place old.never_heard c.let_go.new.self.never_heard
    c.requires c.let_go.ensures.goes c.let_go.ensures.counts

pub returns-in_default-clause-asked : goal.returns-in_default-clause-asked
returns-in_default-clause-asked g c =
    let items = c.args.self.now.held.items in
    let k = c.index.result.now in
    let there : slice_get items c.args.place ≡ Some k = slice_get-get_or items c.args.place k c.requires ∙ ap Some (sym c.index.ensures) in
    rw there (λ asks. absurd (c.in_default.not-Asks (c.action_in.ensures.asks asks)))

pub returns-in_default-clause-tends : goal.returns-in_default-clause-tends
returns-in_default-clause-tends g c =
    let old = c.args.self.now in
    let items = old.held.items in
    let k = c.index.result.now in
    let there : slice_get items c.args.place ≡ Some k = slice_get-get_or items c.args.place k c.requires ∙ ap Some (sym c.index.ensures) in
    let r = c.args.station.now.refused in
    let went : c.let_go.new.self.never_heard ≡ raised_if (is_unheard k.phase) old.never_heard =
    subst (λ (o : Option Session). IfSome o (λ j. c.let_go.new.self.never_heard ≡ raised_if (is_unheard j.phase) old.never_heard)) there c.let_go.ensures.counts in
    goes_tended old.once c.args.station.now.core c.let_go.new.endpoint items c.let_go.new.self.held.items c.args.place k c.action_in.result (counts_at r old) (counts_at r c.let_go.new.self) (stop_in c.let_go.result)
    there c.in_default.not-Stays c.in_default.not-Asks c.action_in.ensures.fate c.let_go.ensures.released c.let_go.ensures.goes c.let_go.ensures.stops
    (counts_gone k r old c.let_go.new.self went c.let_go.ensures.evicted c.let_go.ensures.turned_away c.let_go.ensures.logs)

pub returns-in-Asks-clause-tends : goal.returns-in-Asks-clause-tends
returns-in-Asks-clause-tends g c =
    let old = c.args.self.now in
    let core = c.args.station.now.core in
    let items = old.held.items in
    let k = c.index.result.now in
    let there : slice_get items c.args.place ≡ Some k = slice_get-get_or items c.args.place k c.requires ∙ ap Some (sym c.index.ensures) in
    let due : IfSome (slice_get items c.args.place) (λ j. IsActionFor core j ActionsOfSessions.Asks) =
    rw there (subst (λ (f : SessionAction). IsActionFor core k f) c.in-Asks.is c.action_in.ensures.fate) in
    asks_tended old.once core c.ask.new.station.core.endpoint items c.ask.new.self.held.items c.args.place c.args.station.now.refused c.ask.new.station.refused old c.ask.new.self c.requires due c.ask.ensures.asks c.ask.ensures.never_heard c.ask.ensures.evicted c.ask.ensures.turned_away c.ask.ensures.logs
