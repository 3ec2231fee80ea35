-- Each call of a course by one clock, and whole courses: in the scene that is made call by call, what is read is recent.
use Rattle.std.proofs.Common.{◌≡◌, ◌<◌, ◌≤◌, ◌+◌, ◌⊎◌, ℕ, Bool, true, false, List, [], ◌∷◌, ◌++◌, length, set, drop, take, Option, Some, refl, sym, ◌∙◌, inl, inr, ap, subst, arith, length-append, cond}
use Rattle.std.specs.Prelude.{Result, Ok, Err, slice_get}
use Rattle.std.proofs.lemmas.List.{append-nil, append_assoc, take_all}
use Rattle.std.proofs.lemmas.Option.{slice_get_within}
use Rattle.ipx_router.specs.RouterPackets.{broadcast}
use Rattle.ipx_carrier.specs.Turns.{Given}
use Rattle.spx_link.specs.declared.outgoing.Sent.{Sent}
use Rattle.spx_messages.specs.Taking.{TakenView}
use Rattle.spx_messages.specs.Taking as takens
use Rattle.spx_messages.specs.declared.arrived.Arrived.{Arrived}
use Rattle.spx_messages.specs.declared.fault.EndFault.{EndFault}
use Rattle.spx_theory.specs.Deeds.{Reached, begun}
use Rattle.spx_theory.specs.Handed.{gathered, in_by, out_by}
use Rattle.spx_theory.specs.Note.{Note}
use Rattle.spx_theory.specs.Note as Notes
use Rattle.spx_theory.specs.Numbered.{NumbersAreInOrder}
use Rattle.spx_theory.specs.PacketsOnWay.{IsOneOn, note_of}
use Rattle.spx_theory.specs.Scan.{Each, Mark, Scan, mark_of, scan, seen, seen_all, times, unread}
use Rattle.spx_theory.specs.Scene.{Scene}
use Rattle.spx_theory.specs.World.{AtPort, ParcelView, World, scene_of}
use Rattle.spx_theory.specs.WorldStep.{Carried, WorldStep}
use Rattle.theory_processes.specs.Course.{AtHost, AtRouter, Call, Course, DoesAtHost, DoesAtRouter, DoesCall, accepted_by, connections_after, handing, host_mail, host_outside, is_now_at, on_connection, on_network, releasing, router_mail, router_outside, taking}
use Rattle.theory_processes.specs.HostCalls.{AsksAgain, Begins, ByACore, Closes, Dials, Fails, FromOutside, Gives, HandsIn, Hears, HostCall, Paces, Releases, Takes}
use Rattle.theory_processes.specs.RouterCalls.{RouterCall}
use Rattle.theory_processes.specs.Shows.{Agrees, AreParcels, IsParcel, Lies, Shows, injected_by, injected_in, sent_by, sent_in}
use Rattle.theory_processes.specs.Site.{Connection, Datagram, Site, connection_of}
use Rattle.theory_processes.specs.Timely.{AreSpaced, DoesInTime, HostReadsSoon, IsNewTimed, IsPassedOn, NewUnit, ReadsSoon, TimedCall, TimedSite, TimelyCourse, TimelyCoursesAreFresh, WasJustSent, further, given_at, is_read, itself, new_units, sent_moments, unit_of_host, unit_said, units_within, untimed}
use Rattle.theory_processes.proofs.Doing.{After-host, core_does, host_does, inside}
use Rattle.theory_processes.proofs.Hearing.{hears_parcel}
use Rattle.theory_processes.proofs.Lists.{get_before, get_last, get_map, get_past, get_set_here, map_length}
use Rattle.theory_processes.proofs.Notes.{gathered_more, gathered_none, took_on}
use Rattle.theory_processes.proofs.Parcels.{HasMore, IsLetter, are_parcels_on, letter_of_parcel, lies_on}
use Rattle.theory_processes.proofs.Saying.{AreAll, IsConnectionAt, IsGiving, IsHearing, IsSilent, Moves, SendsOne, silent_hearing, silent_more, silent_none, unit_of}
use Rattle.theory_processes.proofs.Showing.{agrees_new, begun_new, new_world, reached_all}
use Rattle.theory_processes.proofs.Steps.{After-by, StepLaws, no_deed, site_same, site_with, then}
use Rattle.theory_processes.proofs.Timing.{AreUnits, IsFine, IsKept, IsLast, IsSentParcel, OneUnit, all_kept, all_read, are_units_length, are_units_more, are_units_on, carried_mark, count_few, fine_on, last_given, none_read, one_unit, seen_more, sent_grows, sent_parcel, units_within_more}

abbrev Numbers : Type 0
Numbers = (s : Scene) → Reached s → NumbersAreInOrder s

-- as many marks as parcels
marks_count : Numbers → (w : World) → Reached (scene_of w) → length (scan w.log).marks ≡ length w.parcels
marks_count numbers w reached = (numbers (scene_of w) reached).parcels ∙ map_length (λ (p : ParcelView). p.bytes) w.parcels

reached_by : (P : List Note → Type 0) (old new : Scene) → Reached old → Moves old new P → Reached new
reached_by P old new reached m = reached_all m.deeds.0 old new reached m.deeds.1

scan_grows : (P : List Note → Type 0) (w x : World) (m : Moves (scene_of w) (scene_of x) P) → scan x.log ≡ seen_all (scan w.log) m.notes
scan_grows P w x m = ap scan m.log ∙ seen_more unread w.log m.notes

-- ---- what holds after each call

-- a parcel was made at this time: units that were counted after it were given later
pub record IsYoung (z : Scan) (units : List NewUnit) (now p since : ℕ) : Type 0 where
  pub there : p < length z.marks
  pub past : since ≤ now
  pub young : (j : ℕ) (u : NewUnit) → (mark_of z p).units ≤ j → slice_get units j ≡ Some u → since ≤ u.at

pub record Timed (w : World) (s : TimedSite) : Type 0 where
  pub agrees : Agrees w s.site
  pub reached : Reached (scene_of w)
  pub units : AreUnits s.site.connections (scan w.log).sent s.units
  pub past : (j : ℕ) (u : NewUnit) → slice_get s.units j ≡ Some u → u.at ≤ s.now
  pub young : (n p since : ℕ) → slice_get (sent_in w.log) n ≡ Some p → slice_get s.sent_at n ≡ Some since → IsYoung (scan w.log) s.units s.now p since
  pub even : length (sent_in w.log) ≡ length s.sent_at
  pub fine : Each (IsFine (scan w.log).sent) (scan w.log).readings

-- ---- a call without units and packets of hosts

module _ (P : List Note → Type 0) (w x : World) (s new : TimedSite) (t : Timed w s) (m : Moves (scene_of w) (scene_of x) P) (no_units : gathered unit_of m.notes ≡ []) (no_sends : sent_in m.notes ≡ []) where
  same_sent : (scan x.log).sent ≡ (scan w.log).sent
  same_sent =
      ap (λ (z : Scan). z.sent) (scan_grows P w x m) ∙ sent_grows m.notes (scan w.log) ∙ ap (λ us. (scan w.log).sent ++ us) no_units ∙ append-nil (scan w.log).sent

  same_sends : sent_in x.log ≡ sent_in w.log
  same_sends = ap sent_in m.log ∙ gathered_none sent_by w.log m.notes no_sends

  kept_mark : (p : ℕ) → p < length (scan w.log).marks → IsKept (scan w.log) (scan x.log) p
  kept_mark p there = subst (λ z. IsKept (scan w.log) z p) (sym (scan_grows P w x m)) (all_kept m.notes (scan w.log) p there)

  goes_on : Agrees x new.site → ((who host : ℕ) → IsConnectionAt s.site.connections who host → IsConnectionAt new.site.connections who host) → s.now ≤ new.now → new.units ≡ s.units → new.sent_at ≡ s.sent_at
      → Each (IsFine (scan w.log).sent) (scan x.log).readings → Timed x new
  goes_on agrees on later units sent_at fine =
      record {
        agrees = agrees;
        reached = reached_by P (scene_of w) (scene_of x) t.reached m;
        units = subst (λ ws. AreUnits new.site.connections ws new.units) (sym same_sent)
            (subst (AreUnits new.site.connections (scan w.log).sent) (sym units) (are_units_on s.site.connections new.site.connections on (scan w.log).sent s.units t.units));
        past = λ j u at. let before = t.past j u (ap (λ us. slice_get us j) (sym units) ∙ at) in omega (arith, before, later);
        young = λ n p since at then'.
            let y : IsYoung (scan w.log) s.units s.now p since = t.young n p since (ap (λ ks. slice_get ks n) (sym same_sends) ∙ at) (ap (λ ts. slice_get ts n) (sym sent_at) ∙ then') in
            let k : IsKept (scan w.log) (scan x.log) p = kept_mark p y.there in
            record {
              there = k.there;
              past = (let before = y.past in omega (arith, before, later));
              young = λ j u from at'. y.young j u (subst (λ (mk : Mark). mk.units ≤ j) k.same from) (ap (λ us. slice_get us j) (sym units) ∙ at');
            };
        even = ap length same_sends ∙ t.even ∙ ap length (sym sent_at);
        fine = λ k r at. subst (λ us. IsFine us r) (sym same_sent) (fine k r at);
      }

-- nothing is read either
quiet : (w x : World) (s new : TimedSite) → Timed w s → Moves (scene_of w) (scene_of x) IsSilent → Agrees x new.site → ((who host : ℕ) → IsConnectionAt s.site.connections who host → IsConnectionAt new.site.connections who host)
    → s.now ≤ new.now → new.units ≡ s.units → new.sent_at ≡ s.sent_at → Timed x new
quiet w x s new t m agrees on later units sent_at =
    goes_on IsSilent w x s new t m m.say.units_are m.say.sends_are agrees on later units sent_at
    (λ k r at. t.fine k r (ap (λ rs. slice_get rs k) (sym (ap (λ (z : Scan). z.readings) (scan_grows IsSilent w x m) ∙ none_read m.notes (scan w.log) m.say.gots_are)) ∙ at))

-- ---- a datagram on its way over routers

record Brought (w : World) (site : Site) (from : ℕ) (d : Datagram) : Type 0 where
  world : World
  moves : Moves (scene_of w) (scene_of world) IsSilent
  agrees : Agrees world site
  reached : Reached (scene_of world)
  parcel : ℕ
  is : IsParcel (scene_of world) parcel d
  there : parcel < length (scan world.log).marks
  units : (mark_of (scan world.log) parcel).units ≡ (mark_of (scan w.log) from).units

module _ (laws : StepLaws) (numbers : Numbers) (w : World) (site : Site) (agrees : Agrees w site) (reached : Reached (scene_of w)) where
  brings : (from : ℕ) (first : Datagram) → IsParcel (scene_of w) from first → from < length (scan w.log).marks → (d : Datagram) → IsPassedOn first d → Brought w site from d
  brings from first is there d itself = record { world = w; moves = no_deed (scene_of w) (scene_of w) refl; agrees = agrees; reached = reached; parcel = from; is = is; there = there; units = refl }
  brings from first is there d (further e network bytes passed on) =
      let b : Brought w site from e = brings from first is there e passed in
      let y : World = b.world in
      let a : Agrees y site = b.agrees in
      let it : IsLetter y b.parcel e = letter_of_parcel y b.parcel e b.is in
      let l : ParcelView = record { segment = network; next = broadcast; bytes = bytes; sent_by = Some (AtPort 0 0) } in
      let count : ℕ = length y.parcels in
      let n : Note = Notes.Carried b.parcel count in
      let x : World = record { hosts = y.hosts; ends = y.ends; parcels = y.parcels ++ l ∷ []; log = y.log ++ n ∷ []; moment = y.moment } in
      let hop : IsOneOn it.letter.segment it.letter.bytes bytes = subst (λ k. IsOneOn k it.letter.bytes bytes) (sym it.segment) (subst (λ bs. IsOneOn e.network bs bytes) (sym it.bytes) on) in
      let step : WorldStep y x = Carried b.parcel 0 0 network broadcast bytes (record { letter = it.letter; comes = it.comes; on = hop; hosts = refl; ends = refl; parcels = refl; log = refl; moment = refl }) in
      let grows : HasMore y x (l ∷ []) = record { are = refl } in
      let here : slice_get x.parcels count ≡ Some l = get_past y.parcels l [] in
      let moves : Moves (scene_of y) (scene_of x) IsSilent = record { deeds = laws.deeds y x a.order step; notes = n ∷ []; log = refl; say = record { units_are = refl; gots_are = refl; sends_are = refl } } in
      let seen_is : scan x.log ≡ seen (scan y.log) n = seen_more unread y.log (n ∷ []) in
      let marks : length (scan y.log).marks ≡ count = marks_count numbers y b.reached in
      let mark = carried_mark (scan y.log) b.parcel count in
      record {
        world = x;
        moves = then IsSilent IsSilent IsSilent (scene_of w) (scene_of y) (scene_of x) silent_more b.moves moves;
        agrees = record {
          order = laws.order y x a.order step;
          hosts = a.hosts;
          ends = a.ends;
          given = λ who c at. gathered_none (in_by who) y.log (n ∷ []) refl ∙ a.given who c at;
          taken = λ who c at. gathered_none (out_by who) y.log (n ∷ []) refl ∙ a.taken who c at;
          ended = λ who c at is'. took_on y.log (n ∷ []) who (a.ended who c at is');
          unmade = λ who past. (gathered_none (in_by who) y.log (n ∷ []) refl ∙ (a.unmade who past).0, gathered_none (out_by who) y.log (n ∷ []) refl ∙ (a.unmade who past).1);
          mail = λ f has. lies_on y x (l ∷ []) grows f (a.mail f has);
          sent = subst (λ ks. AreParcels (scene_of x) ks site.sent) (sym (gathered_none sent_by y.log (n ∷ []) refl)) (are_parcels_on y x (l ∷ []) grows (sent_in y.log) site.sent a.sent);
          outside = subst (λ ks. AreParcels (scene_of x) ks site.outside) (sym (gathered_none injected_by y.log (n ∷ []) refl)) (are_parcels_on y x (l ∷ []) grows (injected_in y.log) site.outside a.outside);
          networks = a.networks;
          waits = λ j core at s has. lies_on y x (l ∷ []) grows _ (a.waits j core at s has);
        };
        reached = reached_by IsSilent (scene_of y) (scene_of x) b.reached moves;
        parcel = count;
        is = record { bytes = get_map (λ (p : ParcelView). p.bytes) x.parcels count l here; network = get_map (λ (p : ParcelView). p.segment) x.parcels count l here };
        there = subst (λ k. k < length (scan x.log).marks) marks (subst (λ (z : Scan). length (scan y.log).marks < length z.marks) (sym seen_is) mark.1);
        units = ap (λ k. (mark_of (scan x.log) k).units) (sym marks) ∙ ap (λ z. (mark_of z (length (scan y.log).marks)).units) seen_is ∙ mark.0 ∙ b.units;
      }

-- ---- the hosts of connections stay

keeps_more : (cs more : List Connection) (who host : ℕ) → IsConnectionAt cs who host → IsConnectionAt (cs ++ more) who host
keeps_more cs more who host at = record { connection = at.connection; there = get_before cs more at.connection who at.there; host_is = at.host_is }

keeps_on : (k id : ℕ) (f : Connection → Connection) → ((c : Connection) → (f c).host ≡ c.host) → (cs : List Connection) (who host : ℕ) → IsConnectionAt cs who host → IsConnectionAt (on_connection k id f cs) who host
keeps_on k id f same cs who host at =
    let g : Connection → Connection = λ c. cond (is_now_at k id c) (f c) c in
    record { connection = g at.connection; there = get_map g cs who at.connection at.there; host_is = either (is_now_at k id at.connection) at.connection ∙ at.host_is }
  where
    either : (b : Bool) (c : Connection) → (cond b (f c) c).host ≡ c.host
    either true c = same c
    either false c = refl

taking_host : (answer : Result TakenView EndFault) (c : Connection) → (taking answer c).host ≡ c.host
taking_host (Ok takens.Nothing) c = refl
taking_host (Ok takens.Part) c = refl
taking_host (Ok (takens.Whole m)) c = refl
taking_host (Ok takens.PeerEnd) c = refl
taking_host (Err f) c = refl

keeps_hosts : (k : ℕ) (call : HostCall) (cs : List Connection) (who host : ℕ) → IsConnectionAt cs who host → IsConnectionAt (connections_after k call cs) who host
keeps_hosts k (Hears source bytes now answer) cs who host at = keeps_more cs (accepted_by answer k) who host at
keeps_hosts k (Gives now given) cs who host at = at
keeps_hosts k (Dials socket to buffers now id) cs who host at = keeps_more cs (connection_of k id ∷ []) who host at
keeps_hosts k (HandsIn id m) cs who host at = keeps_on k id (handing m) (λ c. refl) cs who host at
keeps_hosts k (Closes id) cs who host at = at
keeps_hosts k (Takes id answer) cs who host at = keeps_on k id (taking answer) (taking_host answer) cs who host at
keeps_hosts k (Paces id window manual) cs who host at = at
keeps_hosts k (AsksAgain id place) cs who host at = at
keeps_hosts k (Releases id) cs who host at = keeps_on k id releasing (λ c. refl) cs who host at
keeps_hosts k (Begins socket buffers) cs who host at = at
keeps_hosts k Fails cs who host at = at

-- ---- a call of a host

-- the site after it
host_site : (k : ℕ) (call : HostCall) (old new : Site) (d : DoesAtHost k call old new)
    → site_with (set old.hosts k d.after) old.routers (connections_after k call old.connections) (old.mail ++ host_mail call d.before.network) (old.sent ++ host_mail call d.before.network) (old.outside ++ host_outside call d.before.network) ≡ new
host_site k call old new d =
    site_same new (set old.hosts k d.after) old.routers (connections_after k call old.connections) (old.mail ++ host_mail call d.before.network) (old.sent ++ host_mail call d.before.network) (old.outside ++ host_outside call d.before.network)
    d.hosts d.routers d.connections d.mail d.sent d.outside

host_keeps : (k : ℕ) (call : HostCall) (old new : Site) → DoesAtHost k call old new → (who host : ℕ) → IsConnectionAt old.connections who host → IsConnectionAt new.connections who host
host_keeps k call old new d who host at = subst (λ cs. IsConnectionAt cs who host) (sym d.connections) (keeps_hosts k call old.connections who host at)

module _ (laws : StepLaws) (numbers : Numbers) (w : World) (s new : TimedSite) (t : Timed w s) (at : ℕ) (order : s.now ≤ at) (now_is : new.now ≡ at) where
  abbrev Done : Type 0
  Done = (x : World) × Timed x new

  later : s.now ≤ new.now
  later = subst (λ n. s.now ≤ n) (sym now_is) order

  quiet_host : (k : ℕ) (call : HostCall) (d : DoesAtHost k call s.site new.site)
      → After-by IsSilent w (site_with (set s.site.hosts k d.after) s.site.routers (connections_after k call s.site.connections) (s.site.mail ++ host_mail call d.before.network) (s.site.sent ++ host_mail call d.before.network) (s.site.outside ++ host_outside call d.before.network))
      → new.units ≡ s.units ++ [] → new.sent_at ≡ s.sent_at ++ [] → Done
  quiet_host k call d it units sent_at =
      (it.0, quiet w it.0 s new t it.1 (subst (Agrees it.0) (host_site k call s.site new.site d) it.2) (host_keeps k call s.site new.site d) later (units ∙ append-nil s.units) (sent_at ∙ append-nil s.sent_at))

  quiet_router : (r : ℕ) (call : RouterCall) → DoesAtRouter r call s.site new.site → new.units ≡ s.units ++ [] → new.sent_at ≡ s.sent_at ++ [] → Done
  quiet_router r call d units sent_at =
      let it = core_does laws w s.site r d.before d.after t.agrees d.there call d.heard d.does in
      let agrees : Agrees it.0 new.site = subst (Agrees it.0) (site_same new.site s.site.hosts (set s.site.routers r d.after) s.site.connections (s.site.mail ++ router_mail call d.before) s.site.sent (s.site.outside ++ router_outside call d.before)
      d.hosts d.routers d.connections d.mail d.sent d.outside) it.2 in
      (it.0, quiet w it.0 s new t it.1 agrees (λ who host is. subst (λ cs. IsConnectionAt cs who host) (sym d.connections) is) later (units ∙ append-nil s.units) (sent_at ∙ append-nil s.sent_at))

  -- ---- it hears

  -- what no connection reads
  overhears : (k : ℕ) (bytes : List ℕ) (now : ℕ) (answer : Arrived) (d : DoesAtHost k (Hears ByACore bytes now answer) s.site new.site) → is_read answer d.after ≡ false → new.units ≡ s.units ++ [] → new.sent_at ≡ s.sent_at ++ [] → Done
  overhears k bytes now answer d not units sent_at =
      let datagram : Datagram = on_network d.before.network bytes in
      let lies : Lies (scene_of w) datagram = t.agrees.mail datagram d.heard in
      let cs : List Connection = s.site.connections ++ accepted_by answer k in
      let it = hears_parcel laws w s.site k d.before d.after datagram now answer t.agrees d.there lies refl d.does in
      let m : Moves (scene_of w) (scene_of it.0) (IsHearing lies.0 (is_read answer d.after)) = it.1 in
      let silent : Moves (scene_of w) (scene_of it.0) IsSilent = record { deeds = m.deeds; notes = m.notes; log = m.log; say = silent_hearing lies.0 (is_read answer d.after) m.notes m.say not } in
      quiet_host k (Hears ByACore bytes now answer) d
      (inside IsSilent w (set s.site.hosts k d.after) s.site.routers cs (s.site.mail ++ []) (s.site.sent ++ []) s.site.outside (it.0, silent, it.2)) units sent_at

  -- what a connection reads
  hears : (k : ℕ) (bytes : List ℕ) (now : ℕ) (answer : Arrived) (d : DoesAtHost k (Hears ByACore bytes now answer) s.site new.site) → WasJustSent s at (on_network d.before.network bytes) → AreSpaced s
      → new.units ≡ s.units ++ [] → new.sent_at ≡ s.sent_at ++ [] → Done
  hears k bytes now answer d soon spaced units sent_at =
      let datagram : Datagram = on_network d.before.network bytes in
      let first : IsSentParcel (scene_of w) (sent_in w.log) soon.place soon.first = sent_parcel (scene_of w) (sent_in w.log) s.site.sent t.agrees.sent soon.place soon.first soon.sent in
      let y : IsYoung (scan w.log) s.units s.now first.parcel soon.since = t.young soon.place first.parcel soon.since first.there soon.sent_then in
      let b : Brought w s.site first.parcel datagram = brings laws numbers w s.site t.agrees t.reached first.parcel soon.first first.is y.there datagram soon.passed in
      let v : World = b.world in
      let tv : Timed v s = quiet w v s s t b.moves b.agrees (λ who host is. is) (omega arith) refl refl in
      let p : ℕ = b.parcel in
      let it = hears_parcel laws v s.site k d.before d.after datagram now answer b.agrees d.there (p, b.is) refl d.does in
      let x : World = it.0 in
      let read : Bool = is_read answer d.after in
      let m : Moves (scene_of v) (scene_of x) (IsHearing p read) = it.1 in
      let agrees : Agrees x new.site = subst (Agrees x)
      (site_same new.site (set s.site.hosts k d.after) s.site.routers (s.site.connections ++ accepted_by answer k) (s.site.mail ++ []) (s.site.sent ++ []) s.site.outside
      d.hosts d.routers d.connections d.mail d.sent (d.outside ∙ append-nil s.site.outside)) it.2 in
      let z : Scan = scan v.log in
      let few : (e : ℕ) → times e (drop (mark_of z p).units z.sent) < 32768 = λ e.
      count_few s.site.connections e soon.since (mark_of z p).units z.sent s.units tv.units
      (λ j u from there. y.young j u (subst (λ n. n ≤ j) b.units from) there)
      (λ j u there. let before = t.past j u there in let life : at ≤ soon.since + 1000 = soon.soon in omega (arith, before, life, order))
      spaced in
      let fine : Each (IsFine z.sent) (scan x.log).readings = λ j r there.
      elim (all_read m.notes z p (subst (AreAll p) (sym m.say.1.gots_are) m.say.2) m.say.1.units_are b.there j r (ap (λ (g : Scan). slice_get g.readings j) (sym (scan_grows (IsHearing p read) v x m)) ∙ there)) [
        | inl was ↦ tv.fine j r was
        | inr here ↦ record {
          to = (let to = here.to in omega (arith, to));
          few = λ e. subst (λ n. times e (drop n (take r.to z.sent)) < 32768) (sym here.from) (subst (λ us. times e (drop (mark_of z p).units us) < 32768) (sym (ap (λ n. take n z.sent) here.to ∙ take_all (length z.sent) z.sent (omega arith))) (few e));
        }
      ] in
      (x, goes_on (IsHearing p read) v x s new tv m m.say.1.units_are m.say.1.sends_are agrees (host_keeps k (Hears ByACore bytes now answer) s.site new.site d) later (units ∙ append-nil s.units) (sent_at ∙ append-nil s.sent_at) fine)

  hears_any : (k : ℕ) (bytes : List ℕ) (now : ℕ) (answer : Arrived) (d : DoesAtHost k (Hears ByACore bytes now answer) s.site new.site) → (is_read answer d.after ≡ true → WasJustSent s at (on_network d.before.network bytes)) → AreSpaced s
      → new.units ≡ s.units ++ [] → new.sent_at ≡ s.sent_at ++ [] → Done
  hears_any k bytes now answer d soon spaced units sent_at = when (is_read answer d.after) refl
    where
      when : (b : Bool) → is_read answer d.after ≡ b → Done
      when true is = hears k bytes now answer d (soon is) spaced units sent_at
      when false is = overhears k bytes now answer d is units sent_at

  -- ---- it gives

  -- a unit of the host that was given before, or now
  which : (k : ℕ) (more : List NewUnit) → ((more ≡ []) ⊎ (more ≡ record { host = k; at = at } ∷ [])) → (j : ℕ) (u : NewUnit) → slice_get (s.units ++ more) j ≡ Some u → (slice_get s.units j ≡ Some u) ⊎ (u.at ≡ at)
  which k more two j u there = elim two [
    | inl none ↦ inl (ap (λ us. slice_get us j) (sym (ap (λ us. s.units ++ us) none ∙ append-nil s.units)) ∙ there)
    | inr one ↦ elim (get_last s.units (record { host = k; at = at }) u j (ap (λ us. slice_get us j) (sym (ap (λ us. s.units ++ us) one)) ∙ there)) [
      | inl was ↦ inl was
      | inr here ↦ inr (ap (λ (v : NewUnit). v.at) (sym here.1))
    ]
  ]

  gave_one : (P : List Note → Type 0) (x : World) (m : Moves (scene_of w) (scene_of x) P) → Agrees x new.site → ((who host : ℕ) → IsConnectionAt s.site.connections who host → IsConnectionAt new.site.connections who host)
      → (k : ℕ) (given : Option Given) (said : Option (ℕ × Sent)) (one : SendsOne s.site.connections k (length w.parcels) given said m.notes) → new.units ≡ s.units ++ unit_said k at said → new.sent_at ≡ s.sent_at ++ at ∷ [] → Timed x new
  gave_one P x m agrees on k given said one units sent_at =
      let z : Scan = scan w.log in
      let count : ℕ = length w.parcels in
      let n : Note = note_of one.what one.who count in
      let u : OneUnit one.what k at one.who count one.id = one_unit one.what k at one.who count one.id in
      let marks : length z.marks ≡ count = marks_count numbers w t.reached in
      let scan_is : scan x.log ≡ seen z n = scan_grows P w x m ∙ ap (seen_all z) one.notes in
      let sent : (scan x.log).sent ≡ z.sent ++ u.units = ap (λ (g : Scan). g.sent) scan_is ∙ sent_grows (n ∷ []) z ∙ ap (λ us. z.sent ++ us) u.units_are in
      let sends : sent_in x.log ≡ sent_in w.log ++ count ∷ [] = ap sent_in (m.log ∙ ap (λ ns. w.log ++ ns) one.notes) ∙ gathered_more sent_by w.log (n ∷ []) ∙ ap (λ ks. sent_in w.log ++ ks) u.sends_are in
      let readings : (scan x.log).readings ≡ z.readings = ap (λ (g : Scan). g.readings) scan_is ∙ none_read (n ∷ []) z u.gots_are in
      let units_are : new.units ≡ s.units ++ u.new = units ∙ ap (λ o. s.units ++ unit_said k at o) one.said_is ∙ ap (λ us. s.units ++ us) u.new_are in
      let base : AreUnits new.site.connections z.sent s.units = are_units_on s.site.connections new.site.connections on z.sent s.units t.units in
      let all : AreUnits new.site.connections (z.sent ++ u.units) (s.units ++ u.new) = elim u.both [
        | inl none ↦ subst (λ ws. AreUnits new.site.connections (z.sent ++ ws) (s.units ++ u.new)) (sym none.0) (subst (λ us. AreUnits new.site.connections (z.sent ++ []) (s.units ++ us)) (sym none.1)
            (subst (λ ws. AreUnits new.site.connections ws (s.units ++ [])) (sym (append-nil z.sent)) (subst (AreUnits new.site.connections z.sent) (sym (append-nil s.units)) base)))
        | inr more ↦ subst (λ ws. AreUnits new.site.connections (z.sent ++ ws) (s.units ++ u.new)) (sym more.0) (subst (λ us. AreUnits new.site.connections (z.sent ++ one.who ∷ []) (s.units ++ us)) (sym more.1)
            (are_units_more new.site.connections z.sent s.units one.who (record { host = k; at = at }) base (on one.who k one.at)))
      ] in
      let are : AreUnits new.site.connections (scan x.log).sent new.units = subst (λ ws. AreUnits new.site.connections ws new.units) (sym sent) (subst (AreUnits new.site.connections (z.sent ++ u.units)) (sym units_are) all) in
      let new_are : (u.new ≡ []) ⊎ (u.new ≡ record { host = k; at = at } ∷ []) = elim u.both [ inl none ↦ inl none.1 | inr more ↦ inr more.1 ] in
      let which_is : (j : ℕ) (v : NewUnit) → slice_get new.units j ≡ Some v → (slice_get s.units j ≡ Some v) ⊎ (v.at ≡ at) = λ j v there.
      which k u.new new_are j v (ap (λ us. slice_get us j) (sym units_are) ∙ there) in
      let last : IsLast (seen z n) (length z.marks) = last_given z one.what one.who count in
      let last_is : IsLast (scan x.log) count = subst (IsLast (scan x.log)) marks (subst (λ g. IsLast g (length z.marks)) (sym scan_is) last) in
      let even : length (sent_in w.log) ≡ length s.sent_at = t.even in
      record {
        agrees = agrees;
        reached = reached_by P (scene_of w) (scene_of x) t.reached m;
        units = are;
        past = λ j v there. elim (which_is j v there) [
          | inl was ↦ (let before = t.past j v was in omega (arith, before, later))
          | inr here ↦ omega (arith, here, now_is)
        ];
        young = λ j p since there then'.
            elim (get_last (sent_in w.log) count p j (ap (λ ks. slice_get ks j) (sym sends) ∙ there)) [
              | inl was ↦ elim (get_last s.sent_at at since j (ap (λ ts. slice_get ts j) (sym sent_at) ∙ then')) [
                | inl was_then ↦
                    let y : IsYoung z s.units s.now p since = t.young j p since was was_then in
                    let kept : IsKept z (scan x.log) p = subst (λ g. IsKept z g p) (sym scan_is) (all_kept (n ∷ []) z p y.there) in
                    let past = y.past in
                    record {
                      there = kept.there;
                      past = omega (arith, past, later);
                      young = λ i v from at'. elim (which_is i v at') [
                        | inl old ↦ y.young i v (subst (λ (mk : Mark). mk.units ≤ i) kept.same from) old
                        | inr here ↦ omega (arith, past, order, here)
                      ];
                    }
                | inr here ↦ absurd (let within = slice_get_within (sent_in w.log) j p was in let end' = here.0 in omega (arith, within, end', even))
              ]
              | inr now' ↦ elim (get_last s.sent_at at since j (ap (λ ts. slice_get ts j) (sym sent_at) ∙ then')) [
                | inl was_then ↦ absurd (let within = slice_get_within s.sent_at j since was_then in let end' = now'.0 in omega (arith, within, end', even))
                | inr here ↦
                    let p_is : count ≡ p = now'.1 in
                    let since_is : at ≡ since = here.1 in
                    record {
                      there = subst (λ q. q < length (scan x.log).marks) p_is last_is.there;
                      past = omega (arith, since_is, now_is);
                      young = λ i v from at'. absurd (
                          let within = slice_get_within new.units i v at' in
                          let many = are_units_length new.site.connections (scan x.log).sent new.units are in
                          let from' : (mark_of (scan x.log) count).units ≤ i = subst (λ q. (mark_of (scan x.log) q).units ≤ i) (sym p_is) from in
                          let all_units = last_is.units in
                          omega (arith, within, many, from', all_units));
                    }
              ]
            ];
        even = (
            let one' = ap length sends in
            let two' = ap length sent_at in
            omega (arith, one', two', even, length-append (sent_in w.log) (count ∷ []), length-append s.sent_at (at ∷ [])));
        fine = λ j r there. subst (λ us. IsFine us r) (sym sent) (fine_on z.sent u.units r (t.fine j r (ap (λ rs. slice_get rs j) (sym readings) ∙ there)));
      }

  gives : (k now : ℕ) (given : Option Given) (d : DoesAtHost k (Gives now given) s.site new.site) → new.units ≡ s.units ++ new_units at (AtHost k (Gives now given)) new.site.hosts → new.sent_at ≡ s.sent_at ++ sent_moments at (AtHost k (Gives now given)) → Done
  gives k now given d units sent_at =
      let it = host_does laws w s.site k d.before d.after t.agrees d.there (Gives now given) d.heard d.does in
      let x : World = it.0 in
      let m : Moves (scene_of w) (scene_of x) (IsGiving s.site.connections k (length w.parcels) given d.after.said) = it.1 in
      let agrees : Agrees x new.site = subst (Agrees x) (host_site k (Gives now given) s.site new.site d) it.2 in
      let on : (who host : ℕ) → IsConnectionAt s.site.connections who host → IsConnectionAt new.site.connections who host = host_keeps k (Gives now given) s.site new.site d in
      let stands : slice_get new.site.hosts k ≡ Some d.after = ap (λ hs. slice_get hs k) d.hosts ∙ get_set_here s.site.hosts k d.before d.after d.there in
      let units_are : new.units ≡ s.units ++ unit_said k at d.after.said = units ∙ ap (λ o. s.units ++ unit_of_host k at o) stands in
      elim m.say [
        | inl none ↦ (
          x,
          quiet w x s new t (record { deeds = m.deeds; notes = m.notes; log = m.log; say = subst IsSilent (sym none.2) silent_none }) agrees on later
              (units_are ∙ ap (λ o. s.units ++ unit_said k at o) none.1 ∙ append-nil s.units)
              (sent_at ∙ ap (λ g. s.sent_at ++ given_at at (Gives now g)) none.0 ∙ append-nil s.sent_at),
        )
        | inr one ↦ (
          x,
          gave_one (IsGiving s.site.connections k (length w.parcels) given d.after.said) x m agrees on k given d.after.said one units_are (sent_at ∙ ap (λ g. s.sent_at ++ given_at at (Gives now g)) one.given_is),
        )
      ]

  -- ---- any call

  not_empty : {A : Type 0} (xs : List A) (y : A) → xs ++ y ∷ [] ≡ [] → ⊥
  not_empty xs y none = cc ((none_of xs (y ∷ []) none).1)
    where
      none_of : {A : Type 0} (xs ys : List A) → xs ++ ys ≡ [] → (xs ≡ []) × (ys ≡ [])
      none_of [] ys none = (refl, none)
      none_of (x ∷ xs) ys none = absurd (cc none)

  host_silent : (k : ℕ) (call : HostCall) (d : DoesAtHost k call s.site new.site) → After-host w s.site k d.before call d.after
  host_silent k call d = host_does laws w s.site k d.before d.after t.agrees d.there call d.heard d.does

  at_host : (k : ℕ) (call : HostCall) (d : DoesAtHost k call s.site new.site) → HostReadsSoon call d.before d.after s at → new.units ≡ s.units ++ new_units at (AtHost k call) new.site.hosts → new.sent_at ≡ s.sent_at ++ sent_moments at (AtHost k call)
      → AreSpaced s → new.site.outside ≡ [] → Done
  at_host k (Hears ByACore bytes now answer) d soon units sent_at spaced inside =
      hears_any k bytes now answer d soon spaced units sent_at
  at_host k (Hears FromOutside bytes now answer) d soon units sent_at spaced inside = absurd (not_empty s.site.outside (on_network d.before.network bytes) (sym d.outside ∙ inside))
  at_host k (Gives now given) d soon units sent_at spaced inside = gives k now given d units sent_at
  at_host k (Dials socket to buffers now id) d soon units sent_at spaced inside = quiet_host k (Dials socket to buffers now id) d (host_silent k (Dials socket to buffers now id) d) units sent_at
  at_host k (HandsIn id m) d soon units sent_at spaced inside = quiet_host k (HandsIn id m) d (host_silent k (HandsIn id m) d) units sent_at
  at_host k (Closes id) d soon units sent_at spaced inside = quiet_host k (Closes id) d (host_silent k (Closes id) d) units sent_at
  at_host k (Takes id answer) d soon units sent_at spaced inside = quiet_host k (Takes id answer) d (host_silent k (Takes id answer) d) units sent_at
  at_host k (Paces id window manual) d soon units sent_at spaced inside = quiet_host k (Paces id window manual) d (host_silent k (Paces id window manual) d) units sent_at
  at_host k (AsksAgain id place) d soon units sent_at spaced inside = quiet_host k (AsksAgain id place) d (host_silent k (AsksAgain id place) d) units sent_at
  at_host k (Releases id) d soon units sent_at spaced inside = quiet_host k (Releases id) d (host_silent k (Releases id) d) units sent_at
  at_host k (Begins socket buffers) d soon units sent_at spaced inside = quiet_host k (Begins socket buffers) d (host_silent k (Begins socket buffers) d) units sent_at
  at_host k Fails d soon units sent_at spaced inside = quiet_host k Fails d (host_silent k Fails d) units sent_at

  call_of : (call : Call) (d : DoesCall call s.site new.site) → ReadsSoon call s new.site d at → new.units ≡ s.units ++ new_units at call new.site.hosts → new.sent_at ≡ s.sent_at ++ sent_moments at call → AreSpaced s → new.site.outside ≡ [] → Done
  call_of (AtHost k call) d soon units sent_at spaced inside = at_host k call d soon units sent_at spaced inside
  call_of (AtRouter r call) d soon units sent_at spaced inside = quiet_router r call d units sent_at

-- ---- courses

record GrewTo (s last : TimedSite) : Type 0 where
  units : List NewUnit
  units_are : last.units ≡ s.units ++ units
  outside : List Datagram
  outside_is : last.site.outside ≡ s.site.outside ++ outside

more_outside : (call : Call) (old new : Site) → DoesCall call old new → (more : List Datagram) × (new.outside ≡ old.outside ++ more)
more_outside (AtHost k call) old new d = (host_outside call d.before.network, d.outside)
more_outside (AtRouter r call) old new d = (router_outside call d.before, d.outside)

grew : (calls : List TimedCall) (s last : TimedSite) → TimelyCourse calls s last → GrewTo s last
grew [] s last c =
    record { units = []; units_are = ap (λ (z : TimedSite). z.units) c ∙ sym (append-nil s.units); outside = []; outside_is = ap (λ (z : TimedSite). z.site.outside) c ∙ sym (append-nil s.site.outside) }
grew (t ∷ calls) s last c =
    let mid : TimedSite = c.0 in
    let d : DoesInTime t s mid = c.1 in
    let rest : GrewTo mid last = grew calls mid last c.2 in
    let out = more_outside t.call s.site mid.site d.does in
    let first : List NewUnit = new_units t.at t.call mid.site.hosts in
    record {
      units = first ++ rest.units;
      units_are = rest.units_are ∙ ap (λ us. us ++ rest.units) d.units ∙ append_assoc s.units first rest.units;
      outside = out.0 ++ rest.outside;
      outside_is = rest.outside_is ∙ ap (λ ds. ds ++ rest.outside) out.1 ∙ append_assoc s.site.outside out.0 rest.outside;
    }

none_before : {A : Type 0} (xs ys : List A) → xs ++ ys ≡ [] → xs ≡ []
none_before [] ys none = refl
none_before (x ∷ xs) ys none = absurd (cc none)

spaced_before : (s last : TimedSite) → GrewTo s last → AreSpaced last → AreSpaced s
spaced_before s last g spaced host from =
    let less = units_within_more host from s.units g.units in
    let few : units_within host from (s.units ++ g.units) < 32768 = subst (λ us. units_within host from us < 32768) g.units_are (spaced host from) in
    omega (arith, less, few)

along : StepLaws → Numbers → (calls : List TimedCall) (w : World) (s last : TimedSite) → Timed w s → TimelyCourse calls s last → AreSpaced last → last.site.outside ≡ [] → (x : World) × Timed x last
along laws numbers [] w s last t c spaced inside = (w, subst (Timed w) (sym c) t)
along laws numbers (call ∷ calls) w s last t c spaced inside =
    let mid : TimedSite = c.0 in
    let d : DoesInTime call s mid = c.1 in
    let rest : GrewTo mid last = grew calls mid last c.2 in
    let all : GrewTo s last = grew (call ∷ calls) s last c in
    let it = call_of laws numbers w s mid t call.at d.order d.now call.call d.does d.soon d.units d.sent_at (spaced_before s last all spaced) (none_before mid.site.outside rest.outside (sym rest.outside_is ∙ inside)) in
    along laws numbers calls it.0 mid last it.1 c.2 spaced inside

course_of : (calls : List TimedCall) (s last : TimedSite) → TimelyCourse calls s last → Course (untimed calls) s.site last.site
course_of [] s last c = ap (λ (z : TimedSite). z.site) c
course_of (t ∷ calls) s last c = (c.0.site, c.1.does, course_of calls c.0 last c.2)

timed_new : (s : TimedSite) → IsNewTimed s → Timed (new_world s.site) s
timed_new s n =
    record {
      agrees = agrees_new s.site n.site;
      reached = begun (begun_new s.site n.site);
      units = n.units;
      past = λ j u at. absurd (none_at s.units n.units j u at);
      young = λ j p since at then'. absurd (cc at);
      even = sym (ap length n.sent_at);
      fine = λ k r at. absurd (cc at);
    }
  where
    none_at : (us : List NewUnit) → us ≡ [] → (j : ℕ) (u : NewUnit) → slice_get us j ≡ Some u → ⊥
    none_at us none j u at = cc (subst (λ vs. slice_get vs j ≡ Some u) none at)

pub timely : StepLaws → Numbers → ((w : World) (site : Site) → Agrees w site → Shows (scene_of w) site) → TimelyCoursesAreFresh
timely laws numbers show start last calls new c spaced inside =
    let it = along laws numbers calls (new_world start.site) start last (timed_new start new) c spaced inside in
    let t : Timed it.0 last = it.1 in (
      course_of calls start last c,
      record {
        scene = scene_of it.0;
        reached = t.reached;
        shows = show it.0 last.site t.agrees;
        fresh = λ k r at d are made. let f = t.fine k r at in (f.few r.who, f.few d);
      },
    )
