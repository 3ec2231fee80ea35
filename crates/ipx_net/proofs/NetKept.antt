-- An event keeps what holds for every network.
use Rattle.std.proofs.Common.{ℕ, ◌≡◌, ◌<◌, ◌+◌, ◌++◌, ◌∙◌, ap, arith, length, map, List, [], ◌∷◌, Bool, true, false, cond, Option, None, Some, Result, Ok, Err, OnErr, OnOk, inl, refl, sym, subst}
use Rattle.std.specs.Result.{is_err}
use Rattle.std.proofs.lemmas.List.{length-map}
use Rattle.spx_theory.specs.Deeds.{Reached}
use Rattle.spx_theory.specs.WorldStep.{WorldStep}
use Rattle.spx_theory.specs.Scene.{PresentEnd}
use Rattle.spx_theory.specs.World.{EndNow, InOrder, World, bytes_of, held_of, scene_of, segment_of, present_of}
use Rattle.ipx_net_hosts.specs.Hosts.{FollowsMarks, HostsView, SameHomes, marks_of, world_of}
use Rattle.ipx_net.specs.EventMemory.{IsMade}
use Rattle.ipx_net.specs.LogEntries.{entry_note}
use Rattle.ipx_net.specs.Parcels.{parcel_view}
use Rattle.ipx_net.specs.IndexedLogView.{IndexedLogView, written_on}
use Rattle.ipx_net.specs.StepResultView.{StepResultView}
use Rattle.ipx_net.specs.NetEvents.{Happens, LeavesMarks}
use Rattle.ipx_net.specs.NetFaults.{first_fault}
use Rattle.ipx_net.specs.NetReach.{GoesOn, IsKept, IsAtRest}
use Rattle.ipx_net.specs.NetView.{NetView, net_of}
use Rattle.ipx_net.specs.declared.event.Event.{Event}
use Rattle.ipx_net.specs.declared.event.Event.TheVariants as Events
use Rattle.ipx_net.specs.declared.fault.NetFault.{NetFault}
use Rattle.ipx_net.specs.declared.fault.NetFault.TheVariants.{Spent}
use Rattle.ipx_net.specs.declared.place.Place.TheVariants as Places
use Rattle.ipx_net.specs.declared.routers.RouterNow.{RouterNow}
use Rattle.ipx_net.specs.declared.step_result.StepResult.{StepResult}
use Rattle.ipx_net.proofs.Holding.{overlong_of_stand}
use Rattle.ipx_net.proofs.NetSteps.{happens_step}

not_first : (b : Bool) (rest : Option NetFault) → cond b (Some Spent) rest ≡ None → b ≡ false
not_first true rest is = absurd (cc is)
not_first false rest is = refl

pub not_spent : (v : NetView) (e : Event) → first_fault v e ≡ None → v.spent ≡ false
not_spent v e is = not_first v.spent _ is

pub ok_holds : {T E : Type 0} (r : Result T E) (P : Type 0) → is_err r ≡ false → OnOk r P → P
ok_holds (Ok x) P is p = p
ok_holds (Err y) P is p = absurd (cc is)

pub err_holds : {T E : Type 0} (r : Result T E) (P : Type 0) → is_err r ≡ true → OnErr r P → P
err_holds (Ok x) P is p = absurd (cc is)
err_holds (Err y) P is p = p

kept_going : (w : World) (spent : Bool) → spent ≡ false → IsKept w spent → GoesOn w
kept_going w spent is kept = subst (IsKept w) is kept

pub goes_on : (hosts hosts' : HostsView) (routers routers' : List RouterNow) (b b' : IndexedLogView) (g : StepResultView) (now now' : ℕ) (spent : Bool) (e : Event)
    → ((old new : World) → InOrder old → WorldStep old new → InOrder new)
    → ((old new : World) → InOrder old → Reached (scene_of old) → WorldStep old new → Reached (scene_of new))
    → spent ≡ false → IsKept (world_of hosts b.parcels b.log now) spent
    → Happens e g.answer (net_of hosts routers b.parcels b.log now) (net_of hosts' routers' (b.parcels ++ g.parcels) (b.log ++ g.notes) now')
    → b' ≡ written_on b g.parcels g.notes → IsKept (world_of hosts' b'.parcels b'.log now') spent
goes_on hosts hosts' routers routers' b b' g now now' spent e order reached going kept happens written =
    let old : World = world_of hosts b.parcels b.log now in
    let new : World = world_of hosts' (b.parcels ++ g.parcels) (b.log ++ g.notes) now' in
    let was : GoesOn old = kept_going old spent going kept in
    let step : WorldStep old new = happens_step e g.answer (net_of hosts routers b.parcels b.log now) (net_of hosts' routers' (b.parcels ++ g.parcels) (b.log ++ g.notes) now') happens in
    let is : GoesOn new = record { order = order old new was.order step; reached = reached old new was.order was.reached step } in
    let there : GoesOn (world_of hosts' b'.parcels b'.log now') = subst (λ (x : IndexedLogView). GoesOn (world_of hosts' x.parcels x.log now')) (sym written) is in
    subst (IsKept (world_of hosts' b'.parcels b'.log now')) (sym going) there

-- ---- out of memory

-- an event made something if it made entries, or parcels or entries
pub entries_made : (g : StepResult) → 0 < length g.entries.items → IsMade (Ok g)
entries_made g some = omega (arith, some, length-map g.entries.items entry_note)

pub both_made : (g : StepResult) → 0 < length g.parcels.items + length g.entries.items → IsMade (Ok g)
both_made g some = omega (arith, some, length-map g.entries.items entry_note, length-map g.parcels.items parcel_view)

-- the marks of ends are those of the scene's ends
scene_marks : (w : World) → map (λ (e : PresentEnd). e.overlong) (scene_of w).ends ≡ marks_of w.ends
scene_marks w = of w.ends
  where
    of : (es : List EndNow) → map (λ (e : PresentEnd). e.overlong) (map (present_of w.hosts) es) ≡ marks_of es
    of [] = refl
    of (e ∷ es) = ap (λ b. b ∷ map (λ (x : PresentEnd). x.overlong) (map (present_of w.hosts) es)) (overlong_of_stand e (held_of w.hosts e)) ∙ ap (λ bs. e.overlong ∷ bs) (of es)

-- for any event, at most one end is new
follows_marks : (event : Event) (old new : List EndNow) → LeavesMarks event old new → FollowsMarks (marks_of old) (marks_of new)
follows_marks (Events.Dial host socket to buffers) old new leaves = leaves
follows_marks (Events.Send who message) old new leaves = inl leaves
follows_marks (Events.Take who) old new leaves = inl leaves
follows_marks (Events.Close who) old new leaves = inl leaves
follows_marks (Events.Pace who window manual) old new leaves = inl leaves
follows_marks (Events.Again who place) old new leaves = inl leaves
follows_marks (Events.Release who) old new leaves = inl leaves
follows_marks (Events.Tick now) old new leaves = inl leaves
follows_marks (Events.Poll member) old new leaves = inl leaves
follows_marks (Events.Deliver parcel (Places.Host host)) old new leaves = leaves
follows_marks (Events.Deliver parcel (Places.Port router port)) old new leaves = inl leaves
follows_marks (Events.Inject segment next bytes) old new leaves = inl leaves

-- the network stops, with its log and its parcels, and its hosts have the same addresses
pub holds_still : (event : Event) (hosts hosts' : HostsView) (b b' : IndexedLogView) (now now' : ℕ) (spent : Bool)
    → spent ≡ false → IsKept (world_of hosts b.parcels b.log now) spent
    → SameHomes hosts hosts' → LeavesMarks event hosts.ends hosts'.ends → b'.log ≡ b.log → b'.parcels ≡ b.parcels
    → IsAtRest (world_of hosts' b'.parcels b'.log now')
holds_still event hosts hosts' b b' now now' spent going kept homes marks log parcels =
    let old : World = world_of hosts b.parcels b.log now in
    let was : GoesOn old = kept_going old spent going kept in
    record {
      scene = scene_of old;
      reached = was.reached;
      homes = sym homes;
      log = sym log;
      parcels = ap (map bytes_of) (sym parcels);
      segments = ap (map segment_of) (sym parcels);
      marks = subst (λ ms. FollowsMarks ms (marks_of hosts'.ends)) (sym (scene_marks old)) (follows_marks event hosts.ends hosts'.ends marks);
    }
