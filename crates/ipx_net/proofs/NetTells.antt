-- The summaries of ends are right after an event, and after memory ran out.
use Rattle.std.proofs.Common.{ℕ, ◌≡◌, ◌≤◌, List, [], true, false, Option, None, Some, length, take, refl, sym, ap, subst, ◌∙◌, arith, length-take}
use Rattle.std.proofs.lemmas.List.{length-map}
use Rattle.spx_theory.specs.EndsSummarized.{EndsAreSummarized}
use Rattle.spx_theory.specs.Note.{Note}
use Rattle.std.specs.Prelude.{slice_get}
use Rattle.spx_theory.specs.World.{EndNow, InOrder, World, scene_of, present_of}
use Rattle.ipx_net.specs.AnswerView.{AnswerView}
use Rattle.ipx_net.specs.Ends.{TellsEnds, TellsLog, TellsNext}
use Rattle.ipx_net.specs.NetEvents.{Happens}
use Rattle.ipx_net.specs.NetView.{NetView}
use Rattle.ipx_net.specs.EndSummaryChanges.{ChangesState, SameHostAndState, hosts_of, touched_by}
use Rattle.ipx_net.specs.declared.endinfo.EndInfo.{EndInfo}
use Rattle.ipx_net.specs.declared.event.Event.{Event}
use Rattle.ipx_net.proofs.TellingSteps.{happens_only, restood_log, tells_holds}

pub count_of : (w : World) (t : List EndInfo) → EndsAreSummarized (scene_of w) → TellsLog w.log t → length t ≡ length w.ends
count_of w t told log = log.count ∙ told.count ∙ length-map w.ends (present_of w.hosts)

pub tells_ok : (e : Event) (a : AnswerView) (v v' : NetView) (t0 t1 t1' t2 t3 : List EndInfo) → v.spent ≡ false → InOrder v.now.world → InOrder v'.now.world
    → EndsAreSummarized (scene_of v.now.world) → EndsAreSummarized (scene_of v'.now.world) → Happens e a v.now v'.now → TellsEnds v t0
    → ChangesState (hosts_of v.now.world) (touched_by v.now.world e) true t0 t1 → t1' ≡ t1 → SameHostAndState t1' t2 → TellsLog v'.now.world.log t2
    → ChangesState (hosts_of v'.now.world) (touched_by v.now.world e) false t2 t3 → TellsEnds v' t3
tells_ok e a v v' t0 t1 t1' t2 t3 going order order' told told' happens tells cleared same kept log settled =
    let w : World = v.now.world in
    let w' : World = v'.now.world in
    let k : Option ℕ = touched_by w e in
    record {
      log = restood_log (hosts_of w') k false t2 t3 w'.log settled log;
      stands = λ _. tells_holds k w w' t0 t1 t2 t3 (record {
        order = order;
        order' = order';
        count = count_of w t0 told tells.log;
        count' = count_of w' t2 told' log;
        only = happens_only e a v.now v'.now happens;
        before = tells.stands going;
        cleared = cleared;
        kept = subst (λ (t : List EndInfo). SameHostAndState t t2) same kept;
        settled = settled;
      });
    }

pub tells_err : (v v' : NetView) (k : Option ℕ) (t0 t1 t1' : List EndInfo) → TellsEnds v t0 → ChangesState (hosts_of v.now.world) k true t0 t1 → t1' ≡ t1
    → v'.now.world.log ≡ v.now.world.log → v'.spent ≡ true → TellsEnds v' t1'
tells_err v v' k t0 t1 t1' tells cleared same log spent =
    let old : TellsLog v.now.world.log t1 = restood_log (hosts_of v.now.world) k true t0 t1 v.now.world.log cleared tells.log in
    record {
      log = subst (λ (t : List EndInfo). TellsLog v'.now.world.log t) (sym same) (subst (λ (ns : List Note). TellsLog ns t1) (sym log) old);
      stands = λ going. let no : true ≡ false = sym spent ∙ going in cc;
    }

-- the summaries before the new entries are read
pub tells_before : (v : NetView) (k : Option ℕ) (t0 t1 t1' : List EndInfo) (log : List Note) → TellsEnds v t0 → ChangesState (hosts_of v.now.world) k true t0 t1 → t1' ≡ t1
    → log ≡ v.now.world.log → TellsLog log t1'
tells_before v k t0 t1 t1' log tells cleared same is =
    let old : TellsLog v.now.world.log t1 = restood_log (hosts_of v.now.world) k true t0 t1 v.now.world.log cleared tells.log in
    subst (λ (t : List EndInfo). TellsLog log t) (sym same) (subst (λ (ns : List Note). TellsLog ns t1) (sym is) old)

pub range_on : (log log' : List Note) → take (length log) log' ≡ log → length log ≤ length log'
range_on log log' is = omega (arith, ap length is, length-take (length log) log')

pub tells_next : (w : World) (t : List EndInfo) → EndsAreSummarized (scene_of w) → TellsLog w.log t → TellsNext w t
tells_next w t told log = λ who s l stands. (log.each who).next ∙ sym (told.next who s l stands)

-- a network in which nothing happened has no ends and no summaries
pub tells_new : (v : NetView) → v.now.world.log ≡ [] → v.now.world.ends ≡ [] → TellsEnds v []
tells_new v log ends =
    record {
      log = subst (λ (ns : List Note). TellsLog ns []) (sym log) (record { count = refl; each = λ who. record { given = refl; out = refl; next = refl; peer = refl } });
      stands = λ _ who n at. let no : None ≡ Some n = ap (λ (es : List EndNow). slice_get es who) (sym ends) ∙ at in cc;
    }
