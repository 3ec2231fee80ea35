use Rattle.std.proofs.Common.{◌≡◌, ◌∙◌, ℕ, Bool, List, true, false, refl, sym, ap, subst}
use Rattle.ipx_sockets.specs.declared.throttled_log.ThrottledLog.{ThrottledLog}
use Rattle.ipx_sockets.specs.Moments.{IsLoggedIfDue}
use Rattle.ipx_host.specs.Hosting.{NotesIf}
use Rattle.ipx_host.specs.Sessions.{CountsRequest, NotesHeard, evicted_for, is_heard_one, is_unheard_one, raised_if}
use Rattle.ipx_host.specs.SessionLogs.{CountsIf, CountsNoted, ListenerCounts}
use Rattle.ipx_host.specs.Midway.{counts_at}
use Rattle.ipx_host.specs.declared.sessions.Session.{Session}
use Rattle.ipx_host.specs.declared.paced_host_core.PacedHostCore.{PacedHostCore}
use Rattle.ipx_host.proofs.listening.ListeningHost.hear.Goals as goal

noted_if : (h once once' : Bool) (a b : PacedHostCore) (cs cs' ds : List Session) → h ≡ true → once' ≡ once → cs' ≡ cs
    → NotesHeard once' a b cs' ds → NotesIf h once a b cs ds
noted_if h once once' a b cs cs' ds is same held notes =
    subst (λ (k : Bool). NotesIf k once a b cs ds) (sym is)
    (subst (λ (o : Bool). NotesHeard o a b cs ds) same (subst (λ (xs : List Session). NotesHeard once' a b xs ds) held notes))

noted_none : (h once : Bool) (a : PacedHostCore) (cs ds : List Session) → h ≡ false → ds ≡ cs → NotesIf h once a a cs ds
noted_none h once a cs ds is held = subst (λ (k : Bool). NotesIf k once a a cs ds) (sym is) (refl, held)

-- what was counted before the datagram is noted is as before the turn
counted_if : (h once once' : Bool) (core : PacedHostCore) (cs cs' : List Session) (old told new : ListenerCounts) → h ≡ true → once' ≡ once → cs' ≡ cs
    → (told.never_heard ≡ old.never_heard) × (told.evicted ≡ old.evicted) × (told.turned_away ≡ old.turned_away) → CountsNoted once' core cs' told new → CountsIf h once core cs old new
counted_if h once once' core cs cs' old told new is same held kept n =
    let here : CountsNoted once core cs told new =
    subst (λ (o : Bool). CountsNoted o core cs told new) same (subst (λ (xs : List Session). CountsNoted once' core xs told new) held n) in
    let mine : CountsNoted once core cs old new = record {
      never_heard = subst (λ (k : ℕ). new.never_heard ≡ raised_if (is_unheard_one (evicted_for once core.came core.endpoint.network core.endpoint core.moment cs)) k) kept.0 here.never_heard;
      evicted = subst (λ (k : ℕ). new.evicted ≡ raised_if (is_heard_one (evicted_for once core.came core.endpoint.network core.endpoint core.moment cs)) k) kept.1 here.evicted;
      turned_away = subst (λ (k : ℕ). CountsRequest once core.came core.endpoint.network core.endpoint core.moment cs k new.turned_away) kept.2 here.turned_away;
    } in
    subst (λ (k : Bool). CountsIf k once core cs old new) (sym is) mine

counted_none : (h once : Bool) (core : PacedHostCore) (cs : List Session) (old new : ListenerCounts) → h ≡ false
    → (new.never_heard ≡ old.never_heard) × (new.evicted ≡ old.evicted) × (new.turned_away ≡ old.turned_away) → CountsIf h once core cs old new
counted_none h once core cs old new is kept = subst (λ (k : Bool). CountsIf k once core cs old new) (sym is) kept

-- what was logged of a count stays, and so does the time
logged_then : (count m now : ℕ) (old told new : ThrottledLog) → m ≡ now → new ≡ told → IsLoggedIfDue count m old told → IsLoggedIfDue count now old new
logged_then count m now old told new same kept logged =
    subst (λ (t : ThrottledLog). IsLoggedIfDue count now old t) (sym kept) (subst (λ (n : ℕ). IsLoggedIfDue count n old told) same logged)

pub returns-then-turn-clause-hears : goal.returns-then-turn-clause-hears
returns-then-turn-clause-hears g c =
    let old = c.args.self.now in
    let seen = c.turn-turn.new.self.core in
    let refused = c.turn-turn.new.self.refused in
    let told = c.tell.new.self in
    let noted = c.note.new.self in
    let note = c.note.ensures in (
      record {
        seen = seen;
        turn = c.turn-turn.result;
        turned = c.turn-turn.ensures.core.0;
        noted = noted_if c.turn-turn.result.heard _ _ _ _ _ _ _ c.if-turn.true c.tell.ensures.once (ap (λ s. s.items) c.tell.ensures.held) note.notes;
        refused = c.turn-turn.ensures.core.1;
        logs = (
          logged_then old.sessions.never_heard c.moment.result seen.moment old.sessions.of_never_heard told.of_never_heard noted.of_never_heard c.moment.ensures note.logs.0 c.tell.ensures.silent,
          logged_then old.sessions.evicted c.moment.result seen.moment old.sessions.of_evicted told.of_evicted noted.of_evicted c.moment.ensures note.logs.1 c.tell.ensures.evicted,
          logged_then old.sessions.turned_away c.moment.result seen.moment old.sessions.of_turned_away told.of_turned_away noted.of_turned_away c.moment.ensures note.logs.2 c.tell.ensures.turned_away,
        );
        counted = counted_if c.turn-turn.result.heard old.sessions.once told.once seen old.sessions.held.items told.held.items (counts_at old.station.refused old.sessions) (counts_at refused told) (counts_at refused noted)
            c.if-turn.true c.tell.ensures.once (ap (λ s. s.items) c.tell.ensures.held) c.tell.ensures.counts (record { never_heard = note.never_heard; evicted = note.evicted; turned_away = note.turned_away });
      },
      refl,
      c.turn-turn.ensures.core.1,
    )

pub returns-else-turn-clause-hears : goal.returns-else-turn-clause-hears
returns-else-turn-clause-hears g c =
    let old = c.args.self.now in
    let seen = c.turn-turn.new.self.core in
    let refused = c.turn-turn.new.self.refused in
    let told = c.tell.new.self in (
      record {
        seen = seen;
        turn = c.turn-turn.result;
        turned = c.turn-turn.ensures.core.0;
        noted = noted_none c.turn-turn.result.heard _ _ _ _ c.if-turn.false (ap (λ s. s.items) c.tell.ensures.held);
        refused = c.turn-turn.ensures.core.1;
        logs = (
          logged_then old.sessions.never_heard c.moment.result seen.moment old.sessions.of_never_heard told.of_never_heard told.of_never_heard c.moment.ensures refl c.tell.ensures.silent,
          logged_then old.sessions.evicted c.moment.result seen.moment old.sessions.of_evicted told.of_evicted told.of_evicted c.moment.ensures refl c.tell.ensures.evicted,
          logged_then old.sessions.turned_away c.moment.result seen.moment old.sessions.of_turned_away told.of_turned_away told.of_turned_away c.moment.ensures refl c.tell.ensures.turned_away,
        );
        counted = counted_none c.turn-turn.result.heard old.sessions.once seen old.sessions.held.items (counts_at old.station.refused old.sessions) (counts_at refused told) c.if-turn.false c.tell.ensures.counts;
      },
      refl,
      c.turn-turn.ensures.core.1,
    )

pub returns-then-turn-clause-told : goal.returns-then-turn-clause-told
returns-then-turn-clause-told g c =
    let old = c.args.self.now.sessions in
    let told = c.tell.new.self in
    let noted = c.note.new.self in
    let now = c.note.new.core.moment in
    let logs = c.note.ensures.logs in
    let same : c.moment.result ≡ now = c.moment.ensures ∙ sym (ap (λ (k : PacedHostCore). k.moment) c.note.ensures.notes.0) in (
      logged_then old.never_heard c.moment.result now old.of_never_heard told.of_never_heard noted.of_never_heard same logs.0 c.tell.ensures.silent,
      logged_then old.evicted c.moment.result now old.of_evicted told.of_evicted noted.of_evicted same logs.1 c.tell.ensures.evicted,
      logged_then old.turned_away c.moment.result now old.of_turned_away told.of_turned_away noted.of_turned_away same logs.2 c.tell.ensures.turned_away,
    )
