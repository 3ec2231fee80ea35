-- The laws of scenes that can be reached, for a network.
use Rattle.std.proofs.Common.{ℕ, zero, suc, ◌≡◌, ◌≢◌, ◌≤◌, ◌⊎◌, arith, inl, inr, length, List, [], ◌∷◌, ◌++◌, Bool, true, false, map, None, Option, Some, refl, sym, ap, ◌∙◌, subst}
use Rattle.std.specs.Prelude.{slice_get}
use Rattle.std.proofs.lemmas.Bool.{cond-false}
use Rattle.std.proofs.lemmas.List.{length-map}
use Rattle.ipx_wire.specs.declared.address.Network.{Network}
use Rattle.spx_messages.specs.Joining.{joined}
use Rattle.spx_messages.specs.WrittenPackets.{Home}
use Rattle.spx_messages.specs.EndpointView.{Held}
use Rattle.spx_theory.specs.Addresses.{AddressesTellPeers}
use Rattle.spx_theory.specs.Allocation.{PeerlessReadsNothing}
use Rattle.spx_theory.specs.Carried.{RoutersAlterOnlyHops}
use Rattle.spx_theory.specs.Close.{AcknowledgedIsRead, ConfirmedIsRead, EndTakenIsWhole}
use Rattle.spx_theory.specs.Deeds.{Reached}
use Rattle.spx_theory.specs.EndsSummarized.{EndsAreSummarized}
use Rattle.spx_theory.specs.EntriesOfEnds.{EntriesTellEnds}
use Rattle.spx_theory.specs.Handed.{handed_out, taken_of}
use Rattle.spx_theory.specs.HandedOut.{AbsentHandsOutNothing, HandsOutWhatItTook, HoldsWhatIsLeft}
use Rattle.spx_theory.specs.InStep.{PeersAreInStep}
use Rattle.spx_theory.specs.InSteps.{PairsTakeSteps}
use Rattle.spx_theory.specs.LogHeadline.{LogHeadline}
use Rattle.spx_theory.specs.Note.{Note}
use Rattle.spx_theory.specs.Numbered.{NumbersAreInOrder}
use Rattle.spx_theory.specs.PremisesRead.{AreMadeOnce, BetweenIsRead, OriginsAreRead, PeersAreRead, PremisesAreRead}
use Rattle.spx_theory.specs.Scene.{Scene, PresentEnd}
use Rattle.spx_theory.specs.SentUnits.{LinksSendInOrder, UnitsAreSentInOrder}
use Rattle.spx_theory.specs.UnitsOfEnds.{UnitsAreCuts}
use Rattle.spx_theory.specs.Stuck.{NoPairIsStuck, NoStateIsStuck, NothingIsStuckByAddresses}
use Rattle.spx_theory.specs.World.{EndNow, InOrder, HostState, World, bytes_of, held_in, held_of, home_at, scene_of, segment_of, present_of, present_with}
use Rattle.ipx_net_hosts.specs.Hosts.{FollowsMarks, marks_of}
use Rattle.ipx_net.specs.NetReach.{GoesOn, IsKept}
use Rattle.ipx_net.specs.NetView.{NetView}
use Rattle.ipx_net.specs.Theorems.{AreNumbered, AreReleasedByLog, AreWhereOpened, LinkTheorems, Theorems}

abbrev pub IsLaw : (Scene → Type 0) → Type 0
IsLaw P = (s : Scene) → Reached s → P s

-- the laws of scenes, each one a clause of a function of `spx_theory` or `spx_theory`
pub record SceneLaws : Type 0 where
  pub carried : IsLaw RoutersAlterOnlyHops
  pub sent : IsLaw UnitsAreSentInOrder
  pub headline : (s : Scene) → Reached s → LogHeadline s.log
  pub made_once : (s : Scene) → Reached s → AreMadeOnce s.log
  pub origins : IsLaw OriginsAreRead
  pub peers : IsLaw PeersAreRead
  pub between : IsLaw BetweenIsRead
  pub premises : IsLaw PremisesAreRead
  pub in_step : IsLaw PeersAreInStep
  pub alone : IsLaw PeerlessReadsNothing
  pub addresses : IsLaw AddressesTellPeers
  pub machine : IsLaw PairsTakeSteps
  pub end_taken : IsLaw EndTakenIsWhole
  pub numbers : IsLaw NumbersAreInOrder
  pub cuts : IsLaw UnitsAreCuts
  pub told : IsLaw EndsAreSummarized
  pub entries : IsLaw EntriesTellEnds
  pub joined : IsLaw HandsOutWhatItTook
  pub left : IsLaw HoldsWhatIsLeft
  pub absent : IsLaw AbsentHandsOutNothing
  pub confirmed : IsLaw ConfirmedIsRead
  pub acknowledged : IsLaw AcknowledgedIsRead
  pub sends : IsLaw LinksSendInOrder
  pub not_stuck : IsLaw NoStateIsStuck
  pub not_stuck_both_ways : IsLaw NoPairIsStuck
  pub not_stuck_by_addresses : IsLaw NothingIsStuckByAddresses

-- ---- theorems of only log and parcels
abbrev pub lain : List (List ℕ) → List Network → List Note → Scene
lain parcels segments log = record { homes = []; ends = []; parcels = parcels; segments = segments; log = log }

always : (P : Scene → Type 0) → ((s : Scene) → Reached s → P (lain s.parcels s.segments s.log)) → (w : World) (spent : Bool) → IsKept w spent
    → P (lain (map bytes_of w.parcels) (map segment_of w.parcels) w.log)
always P law w false kept = law (scene_of w) kept.reached
always P law w true kept =
    let s : Scene = kept.scene in
    subst (λ l. P (lain (map bytes_of w.parcels) (map segment_of w.parcels) l)) kept.log
    (subst (λ g. P (lain (map bytes_of w.parcels) g s.log)) kept.segments
    (subst (λ p. P (lain p s.segments s.log)) kept.parcels (law s kept.reached)))

in_order : IsLaw UnitsAreSentInOrder → (w : World) (spent : Bool) → IsKept w spent → UnitsAreSentInOrder (scene_of w)
in_order law w spent kept =
    let at : UnitsAreSentInOrder (lain (map bytes_of w.parcels) (map segment_of w.parcels) w.log) = always UnitsAreSentInOrder (λ s r. record { first = (law s r).first; again = (law s r).again }) w spent kept in
    record { first = at.first; again = at.again }

origins : IsLaw OriginsAreRead → (w : World) (spent : Bool) → IsKept w spent → OriginsAreRead (scene_of w)
origins law w spent kept =
    let at : OriginsAreRead (lain (map bytes_of w.parcels) (map segment_of w.parcels) w.log) = always OriginsAreRead (λ s r. record { each = (law s r).each; one = (law s r).one; read = (law s r).read }) w spent kept in
    record { each = at.each; one = at.one; read = at.read }

peers : IsLaw PeersAreRead → (w : World) (spent : Bool) → IsKept w spent → PeersAreRead (scene_of w)
peers law w spent kept =
    let at : PeersAreRead (lain (map bytes_of w.parcels) (map segment_of w.parcels) w.log) = always PeersAreRead (λ s r. record { ends = (law s r).ends; one = (law s r).one; read = (law s r).read }) w spent kept in
    record { ends = at.ends; one = at.one; read = at.read }

premises : IsLaw PremisesAreRead → (w : World) (spent : Bool) → IsKept w spent → PremisesAreRead (scene_of w)
premises law w spent kept =
    let at : PremisesAreRead (lain (map bytes_of w.parcels) (map segment_of w.parcels) w.log) = always PremisesAreRead (λ s r. let p = law s r in record { injected = p.injected; own = p.own; recent = p.recent; all = p.all }) w spent kept in
    record { injected = at.injected; own = at.own; recent = at.recent; all = at.all }

-- ---- theorems of only addresses and log
abbrev pub addressed : List Home → List Note → Scene
addressed homes log = record { homes = homes; ends = []; parcels = []; segments = []; log = log }

addresses : IsLaw AddressesTellPeers → (w : World) (spent : Bool) → IsKept w spent → AddressesTellPeers (scene_of w)
addresses law w false kept = law (scene_of w) kept.reached
addresses law w true kept =
    let s : Scene = kept.scene in
    subst (λ l. AddressesTellPeers (addressed (map home_at w.hosts) l)) kept.log
    (subst (λ h. AddressesTellPeers (addressed h s.log)) kept.homes (law s kept.reached))

-- ---- an end of the scene and the end of the world

pub holds_there : (w : World) (who : ℕ) (n : EndNow) → slice_get w.ends who ≡ Some n → slice_get (scene_of w).ends who ≡ Some (present_of w.hosts n)
holds_there w who n at = there w.ends who at
  where
    there : (es : List EndNow) (k : ℕ) → slice_get es k ≡ Some n → slice_get (map (present_of w.hosts) es) k ≡ Some (present_of w.hosts n)
    there [] k is = cc is
    there (e ∷ es) zero is = let same : e ≡ n = cc is in ap (λ x. Some (present_of w.hosts x)) same
    there (e ∷ es) (suc k) is = there es k is

pub holds_of : (w : World) (who : ℕ) (e : PresentEnd) → slice_get (scene_of w).ends who ≡ Some e → (n : EndNow) × (slice_get w.ends who ≡ Some n) × (present_of w.hosts n ≡ e)
holds_of w who e at = of w.ends who at
  where
    of : (es : List EndNow) (k : ℕ) → slice_get (map (present_of w.hosts) es) k ≡ Some e → (n : EndNow) × (slice_get es k ≡ Some n) × (present_of w.hosts n ≡ e)
    of [] k is = cc is
    of (x ∷ es) zero is = (x, refl, cc is)
    of (x ∷ es) (suc k) is = of es k is

pub overlong_of_stand : (n : EndNow) (h : Option Held) → (present_with n h).overlong ≡ n.overlong
overlong_of_stand n None = refl
overlong_of_stand n (Some h) = refl

host_of_stand : (n : EndNow) (h : Option Held) → (present_with n h).host ≡ n.host
host_of_stand n None = refl
host_of_stand n (Some h) = refl

linkless : (n : EndNow) (h : Option Held) → h ≡ None → (present_with n h).link ≡ None
linkless n h is = ap (λ (x : Option Held). (present_with n x).link) is

link_there : (n : EndNow) (h : Held) (o : Option Held) → o ≡ Some h → (present_with n o).link ≢ None
link_there n h o is gone = let no : Some h.link ≡ None = sym (ap (λ (x : Option Held). (present_with n x).link) is) ∙ gone in cc no

where_opened : (w : World) → EntriesTellEnds (scene_of w) → AreWhereOpened w
where_opened w t who host buffers has =
    let e = t.opened who host buffers has in
    let n = holds_of w who e.0 e.1 in
    (n.0, n.1, sym (host_of_stand n.0 (held_of w.hosts n.0)) ∙ ap (λ (x : PresentEnd). x.host) n.2 ∙ e.2)

-- a released end has no link; one that is not has one
released_end : (w : World) (n : EndNow) → n.released ≡ true → (present_of w.hosts n).link ≡ None
released_end w n is = rw is refl

pub held_there : (w : World) (n : EndNow) {x : HostState} {h : Held} → n.released ≡ false → slice_get w.hosts n.host ≡ Some x → held_in (Some x) n.id ≡ Some h → held_of w.hosts n ≡ Some h
held_there w n is there live = cond-false n.released None (held_in (slice_get w.hosts n.host) n.id) is ∙ (ap (λ o. held_in o n.id) there ∙ live)

unreleased_end : (w : World) → InOrder w → (who : ℕ) (n : EndNow) → slice_get w.ends who ≡ Some n → (b : Bool) → n.released ≡ b → (present_of w.hosts n).link ≡ None → n.released ≡ true
unreleased_end w order who n at true is gone = is
unreleased_end w order who n at false is gone =
    let there = order.ends who n at is in
    absurd (link_there n there.held (held_of w.hosts n) (held_there w n is there.there there.live) gone)

released_by_log : (w : World) → InOrder w → EntriesTellEnds (scene_of w) → AreReleasedByLog w
released_by_log w order t who n at =
    let both = t.released who (present_of w.hosts n) (holds_there w who n at) in
    (λ is. both.0 (released_end w n is), λ has. unreleased_end w order who n at n.released refl (both.1 has))

-- ---- theorems of messages, by the log and the marks of ends

-- after more marks, each index has its old mark, or is that of at most one new mark
last_or_before : (old : List Bool) (who : ℕ) → slice_get (old ++ false ∷ []) who ≡ Some false → (length old ≤ who) ⊎ (slice_get old who ≡ Some false)
last_or_before [] who at = inl (omega arith)
last_or_before (x ∷ xs) zero at = inr at
last_or_before (x ∷ xs) (suc who) at = elim (last_or_before xs who at) [ inl past ↦ inl (omega (arith, past)) | inr there ↦ inr there ]

unmarked_before : (old new : List Bool) (who : ℕ) → FollowsMarks old new → slice_get new who ≡ Some false → (length old ≤ who) ⊎ (slice_get old who ≡ Some false)
unmarked_before old new who (inl same) at = inr (ap (λ l. slice_get l who) (sym same) ∙ at)
unmarked_before old new who (inr more) at = last_or_before old who (ap (λ l. slice_get l who) (sym more) ∙ at)

mark_there : (es : List EndNow) (who : ℕ) (n : EndNow) → slice_get es who ≡ Some n → n.overlong ≡ false → slice_get (marks_of es) who ≡ Some false
mark_there [] who n at well = absurd (cc at)
mark_there (e ∷ es) zero n at well = let same : e ≡ n = cc at in ap (λ (x : EndNow). Some x.overlong) same ∙ ap Some well
mark_there (e ∷ es) (suc who) n at well = mark_there es who n at well

stand_unmarked : (es : List PresentEnd) (who : ℕ) → slice_get (map (λ (e : PresentEnd). e.overlong) es) who ≡ Some false → (e : PresentEnd) × (slice_get es who ≡ Some e) × (e.overlong ≡ false)
stand_unmarked [] who at = absurd (cc at)
stand_unmarked (e ∷ es) zero at = (e, refl, cc at)
stand_unmarked (e ∷ es) (suc who) at = stand_unmarked es who at

was_unmarked : (s : Scene) (es : List EndNow) → FollowsMarks (map (λ (e : PresentEnd). e.overlong) s.ends) (marks_of es) → (who : ℕ) (n : EndNow) → slice_get es who ≡ Some n → n.overlong ≡ false
    → (length s.ends ≤ who) ⊎ ((e : PresentEnd) × (slice_get s.ends who ≡ Some e) × (e.overlong ≡ false))
was_unmarked s es follows who n at well =
    elim (unmarked_before (map (λ (e : PresentEnd). e.overlong) s.ends) (marks_of es) who follows (mark_there es who n at well)) [
      | inl past ↦ inl (omega (arith, past, length-map s.ends (λ (e : PresentEnd). e.overlong)))
      | inr there ↦ inr (stand_unmarked s.ends who there)
    ]

-- what an end handed out, by what held in a scene that can be reached with the same log
still_joined : IsLaw HandsOutWhatItTook → IsLaw AbsentHandsOutNothing → (s : Scene) → Reached s → (who : ℕ) → (length s.ends ≤ who) ⊎ ((e : PresentEnd) × (slice_get s.ends who ≡ Some e) × (e.overlong ≡ false))
    → handed_out who s.log ≡ (joined (taken_of who s.log)).messages
still_joined law absent s r who (inl past) =
    let none = absent s r who past in
    none.1 ∙ ap (λ us. (joined us).messages) (sym none.0)
still_joined law absent s r who (inr there) = law s r who there.0 there.1 there.2

joined_messages : IsLaw HandsOutWhatItTook → IsLaw AbsentHandsOutNothing → (w : World) (spent : Bool) → IsKept w spent → HandsOutWhatItTook (scene_of w)
joined_messages law absent w false kept = law (scene_of w) kept.reached
joined_messages law absent w true kept = λ who e at well.
    let n = holds_of w who e at in
    let marked : n.0.overlong ≡ false = sym (overlong_of_stand n.0 (held_of w.hosts n.0)) ∙ ap (λ (x : PresentEnd). x.overlong) n.2 ∙ well in
    subst (λ (log : List Note). handed_out who log ≡ (joined (taken_of who log)).messages) kept.log
    (still_joined law absent kept.scene kept.reached who (was_unmarked kept.scene w.ends kept.marks who n.0 n.1 marked))

-- ---- all of it

links : SceneLaws → (w : World) → GoesOn w → LinkTheorems w
links laws w going =
    let s : Scene = scene_of w in
    let r : Reached s = going.reached in
    let entries = laws.entries s r in
    record {
      order = going.order;
      numbers = laws.numbers s r;
      told = laws.told s r;
      opened = where_opened w entries;
      released = released_by_log w going.order entries;
      asked = entries.asked;
      in_step = laws.in_step s r;
      left = laws.left s r;
      alone = laws.alone s r;
      confirmed = laws.confirmed s r;
      acknowledged = laws.acknowledged s r;
      sends = laws.sends s r;
      not_stuck = laws.not_stuck s r;
      not_stuck_both_ways = laws.not_stuck_both_ways s r;
      not_stuck_by_addresses = laws.not_stuck_by_addresses s r;
    }

links_going : SceneLaws → (w : World) (spent : Bool) → IsKept w spent → spent ≡ false → LinkTheorems w
links_going laws w true kept is = absurd (cc is)
links_going laws w false kept is = links laws w kept

pub theorems : SceneLaws → (v : NetView) → IsKept v.now.world v.spent → Theorems v
theorems laws v kept =
    let w : World = v.now.world in
    record {
      alters = always RoutersAlterOnlyHops laws.carried w v.spent kept;
      in_order = in_order laws.sent w v.spent kept;
      headline = always (λ s. LogHeadline s.log) laws.headline w v.spent kept;
      made_once = always (λ s. AreMadeOnce s.log) laws.made_once w v.spent kept;
      origins = origins laws.origins w v.spent kept;
      peers = peers laws.peers w v.spent kept;
      between = always BetweenIsRead laws.between w v.spent kept;
      premises = premises laws.premises w v.spent kept;
      addresses = addresses laws.addresses w v.spent kept;
      machine = always PairsTakeSteps laws.machine w v.spent kept;
      end_taken = always EndTakenIsWhole laws.end_taken w v.spent kept;
      numbered = always (λ s. AreNumbered s.log) (λ s r. (laws.numbers s r).entries) w v.spent kept;
      cuts = always UnitsAreCuts laws.cuts w v.spent kept;
      joined = joined_messages laws.joined laws.absent w v.spent kept;
      links = links_going laws w v.spent kept;
    }
