-- A plan for the paced connection, as calls that set or release it.
use Rattle.std.proofs.Common.{◌≡◌, ℕ, Bool, true, false, List, [], ◌∷◌, Option, Some, None, refl, ap}
use Rattle.std.specs.Prelude.{All, flat_map}
use Rattle.std.proofs.lemmas.List.Elements.{All-cons, All-nil}
use Rattle.spx_congestion.specs.Pacing.{PacerView}
use Rattle.spx_congestion.specs.declared.plan.Plan.{Plan}
use Rattle.spx_link.specs.Offer.{again_link, pace_link}
use Rattle.spx_messages.specs.Changes.{ChangesEnd}
use Rattle.spx_messages.specs.EndpointView.{EndpointView, Held, held_at}
use Rattle.spx_messages.specs.declared.arrived.Arrived.{Arrived}
use Rattle.spx_link.specs.declared.numbers.Numbers.{Numbers}
use Rattle.ipx_host.specs.Paced.{FollowsPlan, NotesDatagram, NotesPoll, Plans, PlansLink, asked_again_at, is_given_up}
use Rattle.ipx_host.specs.declared.pacing.Paced.{Paced}
use Rattle.theory_processes.specs.HostCalls.{AsksAgain, HostCall, Paces, Releases}
use Rattle.theory_processes.specs.Loops.{HostRuns, host_gave, host_heard}
use Rattle.theory_processes.specs.TurnCalls.{IsOfTurn, paced_id}
use Rattle.theory_processes.proofs.Between.{later, makes, own_of_held, with_held}

-- calls of a turn that received and gave nothing
pub record Sets (paced : Option ℕ) (old new : EndpointView) : Type 0 where
  pub calls : List HostCall
  pub runs : HostRuns calls old new
  pub kinds : All (IsOfTurn paced) calls
  pub heard : flat_map host_heard calls ≡ []
  pub gave : flat_map host_gave calls ≡ []

sets_none : (paced : Option ℕ) (old new : EndpointView) → new ≡ old → Sets paced old new
sets_none paced old new same = record { calls = []; runs = same; kinds = All-nil (IsOfTurn paced); heard = refl; gave = refl }

-- the link is set, and perhaps asked for a unit again: the endpoint between the two calls is made
sets_link : (again : Option ℕ) (window id : ℕ) (held : Held) (old new : EndpointView) → held_at old id ≡ Some held
    → ChangesEnd old new id (record held { link = asked_again_at again (pace_link held.link window true) }) → Sets (Some id) old new
sets_link None window id held old new holds c = record {
  calls = Paces id window true ∷ [];
  runs = (new, record { held = held; holds = holds; changes = c }, refl);
  kinds = All-cons (IsOfTurn (Some id)) (Paces id window true) [] refl (All-nil (IsOfTurn (Some id)));
  heard = refl;
  gave = refl;
}
sets_link (Some place) window id held old new holds c =
    let set : Held = record held { link = pace_link held.link window true } in
    let mid : EndpointView = with_held old id set in
    let first : ChangesEnd old mid id set = makes old id held set holds (own_of_held old id held holds) in
    let second : ChangesEnd mid new id (record set { link = again_link set.link place }) = later old mid new id set (record set { link = again_link set.link place }) first c in
    let again : All (IsOfTurn (Some id)) (AsksAgain id place ∷ []) = All-cons (IsOfTurn (Some id)) (AsksAgain id place) [] refl (All-nil (IsOfTurn (Some id))) in
    record {
      calls = Paces id window true ∷ AsksAgain id place ∷ [];
      runs = (mid, record { held = held; holds = holds; changes = first }, (new, record { held = set; holds = first.held; changes = second }, refl));
      kinds = All-cons (IsOfTurn (Some id)) (Paces id window true) (AsksAgain id place ∷ []) refl again;
      heard = refl;
      gave = refl;
    }

follows : (b : Bool) (id : ℕ) (plan : Plan) (held : Held) (old new : EndpointView) → held_at old id ≡ Some held → FollowsPlan b id plan held old new → Sets (Some id) old new
follows true id plan held old new holds f = record {
  calls = Releases id ∷ [];
  runs = (new, record { held = held; holds = holds; releases = f }, refl);
  kinds = All-cons (IsOfTurn (Some id)) (Releases id) [] refl (All-nil (IsOfTurn (Some id)));
  heard = refl;
  gave = refl;
}
follows false id plan held old new holds f = sets_link plan.again plan.window id held old new holds f

plans_link : (id now : ℕ) (pacer pacer' : PacerView) (o : Option Held) (old new : EndpointView) → held_at old id ≡ o → PlansLink id now pacer pacer' o old new → Sets (Some id) old new
plans_link id now pacer pacer' None old new holds p = sets_none (Some id) old new p.1
plans_link id now pacer pacer' (Some held) old new holds p = follows (is_given_up pacer' held.link) id p.0 held old new holds p.2

pub plans : (o : Option Paced) (now : ℕ) (after : Option Paced) (old new : EndpointView) → Plans o now after old new → Sets (paced_id o) old new
plans None now after old new p = sets_none None old new p.1
plans (Some paced) now after old new p = plans_link paced.id now paced.pacer p.0 (held_at old paced.id) old new refl p.2

-- ---- the paced connection stays the same

pub plans_id : (o : Option Paced) (now : ℕ) (after : Option Paced) (old new : EndpointView) → Plans o now after old new → paced_id after ≡ paced_id o
plans_id None now after old new p = ap paced_id p.0
plans_id (Some paced) now after old new p = ap paced_id p.1

pub polls_id : (o : Option Paced) (e : EndpointView) (bytes : List ℕ) (now : ℕ) (after : Option Paced) → NotesPoll o e bytes now after → paced_id after ≡ paced_id o
polls_id None e bytes now after p = ap paced_id p
polls_id (Some paced) e bytes now after p = ap paced_id p.1

pub hears_id : (o : Option Paced) (arrived : Arrived) (before : Option Numbers) (now : ℕ) (e : EndpointView) (after : Option Paced) → NotesDatagram o arrived before now e after → paced_id after ≡ paced_id o
hears_id None arrived before now e after p = ap paced_id p
hears_id (Some paced) arrived before now e after p = ap paced_id p.1
