-- A round of `ipx route`, and a run of rounds, as calls on its core.
use Rattle.std.proofs.Common.{ℕ, zero, suc, Bool, true, false, [], ◌++◌, length, refl, sym, ◌∙◌, inl, inr, ap}
use Rattle.ipx_sockets.specs.Steady.{NeverGoesBack}
use Rattle.ipx_site.specs.PortCalls.{FailsToReceiveAt, FailsToSendBy, ReceivesAtPort, SendsByPort}
use Rattle.ipx_site.specs.PortsView.{filtered_in_ports, ways_in}
use Rattle.ipx_site.specs.RouterRounds.{AsksAgain}
use Rattle.ipx_site.specs.RoutingRuns.{Rounds, RunsTo, TakesRound}
use Rattle.ipx_site.specs.SiteCore.{SiteCore}
use Rattle.ipx_site.specs.SiteMarks.{marks_of_ports}
use Rattle.ipx_site.specs.declared.running_router.RunningRouter.{RunningRouter}
use Rattle.theory_processes.specs.RouterCalls.{StartsAgain}
use Rattle.theory_processes.specs.Lives.{ports_in}
use Rattle.theory_processes.specs.Rounds.{RoundByCalls}
use Rattle.theory_processes.specs.SiteCalls.{SiteCallsLead}
use Rattle.theory_processes.proofs.Chaining.{batched}
use Rattle.theory_processes.proofs.RouterTurning.{Calls, after, nothing, one, runs_more}

asks : (now times times_after : ℕ) (x y : SiteCore) → AsksAgain now times times_after x y → Calls x y [] []
asks now times times_after x y a = elim a [
  | inl again ↦ one StartsAgain x y [] [] again.2 refl refl
  | inr not ↦ nothing x y not.2
]

pub a_round : {R : Type 0} (old new : RunningRouter R) (t : TakesRound old new) → RoundByCalls old new t.batch.fault
a_round old new t =
    let r = t.turns.1.0 in
    let b = r.8 in
    let batch = batched NeverGoesBack ReceivesAtPort SendsByPort FailsToReceiveAt FailsToSendBy filtered_in_ports marks_of_ports (length (ports_in old.core)) (ways_in old.ports) b.0 t.batch.fault r.3 b.1 t.turns.0 r.1 b.2 t.between r.2 b.3 new.core b.4 b.5 in
    let all = after old.core r.2 new.core [] batch.received [] _ (asks r.0 old.asked new.asked old.core r.2 r.6) batch.calls in
    record {
      calls = all.0;
      runs = all.1;
      whole = batch.first;
      broken = batch.last;
      ports = (t.turns.0, (r.0, r.3, r.7, batch.take), t.turns.2);
      lost = batch.lost;
      lost_at_fault = batch.none;
      of_memory = batch.memory;
      at_most_one = batch.few;
      heard = batch.are ∙ ap (λ xs. xs ++ batch.lost) (sym all.2);
      gave = all.3;
    }

lead_both : (x y z : SiteCore) → SiteCallsLead x y → SiteCallsLead y z → SiteCallsLead x z
lead_both x y z first later = (first.0 ++ later.0, runs_more first.0 later.0 x y z first.1 later.1)

round_leads : {R : Type 0} (old new : RunningRouter R) → TakesRound old new → SiteCallsLead old.core new.core
round_leads old new t = let r : RoundByCalls old new t.batch.fault = a_round old new t in (r.calls, r.runs)

rounds : {R : Type 0} (n : ℕ) (first last : RunningRouter R) → Rounds n first last → SiteCallsLead first.core last.core
rounds {R} zero first last same = ([], ap (λ (r : RunningRouter R). r.core) same)
rounds (suc n) first last r = lead_both first.core r.0.core last.core (rounds n first r.0 r.1) (round_leads r.0 last r.2)

pub a_run : {R : Type 0} (first last : RunningRouter R) (well : Bool) → RunsTo first last well → SiteCallsLead first.core last.core
a_run first last false r = lead_both first.core r.1.core last.core (rounds r.0 first r.1 r.2) (round_leads r.1 last r.3)
a_run first last true r = rounds r.0 first last r.2
