-- What events at routers do to a network, with their answers (Novell IPX Router Specification).
use Rattle.std.specs.Prelude.{ℕ, ◌≡◌, ◌+◌, map, List, [], ◌∷◌, length, set, Some, slice_get, All}
use Rattle.std.specs.List.{range_with_len}
use Rattle.ipx_router.specs.Answer.{Receives}
use Rattle.ipx_router.specs.Forwarded.{ForwardsOneHopOn}
use Rattle.ipx_router.specs.NewRouter.{IsOwnNetwork}
use Rattle.ipx_router.specs.OutcomeView.{OutcomeView, replies_of}
use Rattle.ipx_router.specs.OutcomeView as Outcomes
use Rattle.ipx_router.specs.RouterPackets.{AreOwn, SendingView}
use Rattle.ipx_router.specs.declared.port.Port.{Port}
use Rattle.spx_theory.specs.Note as Notes
use Rattle.spx_theory.specs.Routers.{CarriesOn, GivesOwnLetters, told_notes}
use Rattle.spx_theory.specs.World.{ParcelView, World}
use Rattle.ipx_net.specs.AnswerView.{AnswerView, Dropped, Heard, Parcels}
use Rattle.ipx_net.specs.StepResultView.{StepResultView}
use Rattle.ipx_net.specs.NetView.{NetNow}
use Rattle.ipx_net.specs.RouterMembers.{IsPolled, letter_of, letters_of, network_of, port_at}
use Rattle.ipx_net.specs.declared.routers.RouterNow.{RouterNow}

-- the numbers of as many parcels, from `first` on
abbrev pub numbers : ℕ → List SendingView → List ℕ
numbers first sent = map (λ k. first + k) (range_with_len 0 (length sent))

-- ---- what a router's packets add to the log

abbrev pub told_growth : ℕ → List Port → ℕ → List SendingView → StepResultView
told_growth router ports first sent =
    record {
      parcels = letters_of router ports sent;
      notes = told_notes router first (letters_of router ports sent);
      answer = Parcels (numbers first sent);
    }

abbrev pub routed_growth : ℕ → List Port → ℕ → ℕ → OutcomeView → StepResultView
routed_growth router ports parcel first (Outcomes.Forward port next bytes) =
    record {
      parcels = letter_of router ports (record { port = port; next = next; bytes = bytes }) ∷ [];
      notes = Notes.Carried parcel first ∷ [];
      answer = Parcels (first ∷ []);
    }
routed_growth router ports parcel first (Outcomes.Replies sent) =
    told_growth router ports first sent
routed_growth router ports parcel first (Outcomes.Heard n) =
    record { parcels = []; notes = []; answer = Heard n }
routed_growth router ports parcel first (Outcomes.Dropped reason) =
    record { parcels = []; notes = []; answer = Dropped reason }

-- a router of a list was polled, and the others stay
pub record MemberPolled (old : List RouterNow) (router first now : ℕ) (g : StepResultView)
    (new : List RouterNow) : Type 0 where
  pub before : RouterNow
  pub there : slice_get old router ≡ Some before
  pub after : RouterNow
  pub sent : List SendingView
  pub polled : IsPolled before after now sent
  pub own : AreOwn sent
  pub grows : g ≡ told_growth router before.router.ports first sent
  pub routers : new ≡ set old router after

-- bytes arrived at a port of a router of a list, and the other routers stay
pub record MemberReached (old : List RouterNow) (router port parcel : ℕ) (bytes : List ℕ)
    (first now : ℕ) (g : StepResultView) (new : List RouterNow) : Type 0 where
  pub before : RouterNow
  pub there : slice_get old router ≡ Some before
  pub after : RouterNow
  pub outcome : OutcomeView
  pub receives : Receives before.router port bytes now outcome after.router
  pub on : ForwardsOneHopOn before.router port bytes outcome
  pub own : AreOwn (replies_of outcome)
  pub networks : All IsOwnNetwork before.router.ports
  pub started : after.started ≡ before.started
  pub grows : g ≡ routed_growth router before.router.ports parcel first outcome
  pub routers : new ≡ set old router after

-- ---- what they do to a network

pub record PollingRouter (router : ℕ) (a : AnswerView) (old new : NetNow) : Type 0 where
  pub before : RouterNow
  pub there : slice_get old.routers router ≡ Some before
  pub after : RouterNow
  pub sent : List SendingView
  pub polled : IsPolled before after old.world.moment sent
  pub tells : GivesOwnLetters old.world router (letters_of router before.router.ports sent) new.world
  pub answer : a ≡ Parcels (numbers (length old.world.parcels) sent)
  pub routers : new.routers ≡ set old.routers router after

-- an outcome, as a change of the world
abbrev pub RouterDoes : ℕ → ℕ → List Port → OutcomeView → AnswerView → World → World → Type 0
RouterDoes parcel router ports (Outcomes.Forward port next bytes) a old new =
    (a ≡ Parcels (length old.parcels ∷ []))
    × CarriesOn old parcel router port (network_of (port_at ports port)) next bytes new
RouterDoes parcel router ports (Outcomes.Replies sent) a old new =
    (a ≡ Parcels (numbers (length old.parcels) sent))
    × GivesOwnLetters old router (letters_of router ports sent) new
RouterDoes parcel router ports (Outcomes.Heard n) a old new = (a ≡ Heard n) × (new ≡ old)
RouterDoes parcel router ports (Outcomes.Dropped reason) a old new =
    (a ≡ Dropped reason) × (new ≡ old)

pub record DeliveringToRouter (parcel router port : ℕ) (a : AnswerView)
    (old new : NetNow) : Type 0 where
  pub letter : ParcelView
  pub comes : slice_get old.world.parcels parcel ≡ Some letter
  pub before : RouterNow
  pub there : slice_get old.routers router ≡ Some before
  pub segment : network_of (port_at before.router.ports port) ≡ letter.segment
  pub after : RouterNow
  pub outcome : OutcomeView
  pub receives : Receives before.router port letter.bytes old.world.moment outcome after.router
  pub started : after.started ≡ before.started
  pub does : RouterDoes parcel router before.router.ports outcome a old.world new.world
  pub routers : new.routers ≡ set old.routers router after
