use Rattle.std.proofs.Common.{◌≡◌, ℕ, Some, ap, get_or, length, refl, subst, sym}
use Rattle.std.proofs.lemmas.Option.{slice_get_read}
use Rattle.std.specs.Prelude.{slice_get}
use Rattle.spx_messages.specs.EndpointView.{EndpointView}
use Rattle.ipx_host.specs.Sessions.{Asks, IsAskedUnless}
use Rattle.ipx_host.specs.HostOutput.{left_of}
use Rattle.ipx_host.specs.declared.sessions.Session.{Session}
use Rattle.ipx_host.proofs.Holding.{keeps_asks}
use Rattle.ipx_host.proofs.serving.Sessions.ask.Goals as goal

pub invariant_of-self : goal.invariant_of-self
invariant_of-self g c =
    let old = c.args.self.now in
    let core = c.args.station.now.core in
    let items = old.held.items in
    let k = c.index_mut-session.result.now in
    let asks : Asks c.moment-moment.result core.endpoint c.ask-is_refused.new.endpoint (get_or items c.args.place k) c.ask-is_refused.new.session =
    subst (λ (x : Session). Asks c.moment-moment.result core.endpoint c.ask-is_refused.new.endpoint x c.ask-is_refused.new.session) c.index_mut-session.ensures.value c.ask-is_refused.ensures.asks in
    record {
      room = old.room;
      one = keeps_asks old.once items (left_of old.output) c.args.place c.ask-is_refused.new.session k c.moment-moment.result core.endpoint c.ask-is_refused.new.endpoint c.requires asks old.one;
    }

pub returns-clause-asks : goal.returns-clause-asks
returns-clause-asks g c =
    let old = c.args.self.now in
    let core = c.args.station.now.core in
    let items = old.held.items in
    let k = c.index_mut-session.result.now in
    let at : slice_get items c.args.place ≡ Some k = slice_get_read items (length items) c.args.place k refl c.requires c.index_mut-session.ensures.value in
    let asks : Asks core.moment core.endpoint c.ask-is_refused.new.endpoint k c.ask-is_refused.new.session =
    subst (λ (m : ℕ). Asks m core.endpoint c.ask-is_refused.new.endpoint k c.ask-is_refused.new.session) c.moment-moment.ensures c.ask-is_refused.ensures.asks in
    let same : c.count_refusal.new.self.core.endpoint ≡ c.ask-is_refused.new.endpoint = ap (λ s. s.core.endpoint) c.count_refusal.ensures in
    let kept : Asks core.moment core.endpoint c.count_refusal.new.self.core.endpoint k c.ask-is_refused.new.session =
    subst (λ (e : EndpointView). Asks core.moment core.endpoint e k c.ask-is_refused.new.session) (sym same) asks in
    let asked : IsAskedUnless c.ask-is_refused.result core.endpoint c.count_refusal.new.self.core.endpoint k c.ask-is_refused.new.session =
    subst (λ (e : EndpointView). IsAskedUnless c.ask-is_refused.result core.endpoint e k c.ask-is_refused.new.session) (sym same) c.ask-is_refused.ensures.asked in
    rw at (c.ask-is_refused.new.session, kept, refl, c.ask-is_refused.result, asked, ap (λ s. s.refused) c.count_refusal.ensures)
