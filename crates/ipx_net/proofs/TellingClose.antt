-- What the summaries say of the hosts, the states and the close of ends, by the theorems.
use Rattle.std.proofs.Common.{ℕ, zero, suc, ◌≡◌, ◌<◌, List, [], ◌∷◌, Bool, true, false, None, Option, Some, length, refl, sym, ap, ◌∙◌, inl, inr, arith}
use Rattle.std.specs.Prelude.{slice_get}
use Rattle.spx_link.specs.declared.state.State.{State}
use Rattle.spx_link.specs.declared.state.State.TheVariants.{Confirmed}
use Rattle.spx_messages.specs.EndpointView.{Held}
use Rattle.spx_theory.specs.EndsSummarized.{PeerIsFound}
use Rattle.spx_theory.specs.Peers.{ArePeersIn}
use Rattle.spx_theory.specs.Scan.{Scan, scan}
use Rattle.spx_theory.specs.World.{EndNow, World, held_of, present_of, present_with}
use Rattle.ipx_net_hosts.specs.EndStates.{state_of}
use Rattle.ipx_net.specs.Ends.{TellsClosed, TellsEnded, TellsLog, TellsOpened, TellsReleased, SummariesHaveStates, told_of}
use Rattle.ipx_net.specs.NetView.{NetView}
use Rattle.ipx_net.specs.Theorems.{LinkTheorems, Theorems}
use Rattle.ipx_net.specs.declared.endinfo.EndInfo.{EndInfo}
use Rattle.ipx_net.proofs.Holding.{held_there, holds_there}

pub tells_opened : (w : World) (t : List EndInfo) → LinkTheorems w → SummariesHaveStates w t → TellsOpened w t
tells_opened w t th stands who host buffers has =
    let n = th.opened who host buffers has in
    (stands who n.0 n.1).host ∙ n.2

-- ---- ends with summaries

-- there is an end for the number of each summary
abbrev IsThere : World → ℕ → Type 0
IsThere w who = (n : EndNow) × (slice_get w.ends who ≡ Some n)

end_within : (ns : List EndNow) (k : ℕ) → k < length ns → (n : EndNow) × (slice_get ns k ≡ Some n)
end_within [] k within = absurd (omega (arith, within))
end_within (n ∷ ns) zero within = (n, refl)
end_within (n ∷ ns) (suc k) within = end_within ns k (omega (arith, within))

there : (w : World) (t : List EndInfo) (who : ℕ) → length t ≡ length w.ends → who < length t → IsThere w who
there w t who count within = end_within w.ends who (omega (arith, within, count))

told_within : (t : List EndInfo) (who : ℕ) (s : State) → (told_of t who).state ≡ Some s → who < length t
told_within [] who s is = cc is
told_within (x ∷ t) zero s is = omega arith
told_within (x ∷ t) (suc who) s is = let within = told_within t who s is in omega (arith, within)

-- ---- states

no_state : (w : World) (n : EndNow) (b : Bool) → n.released ≡ b → state_of (held_of w.hosts n) ≡ None → LinkTheorems w → (who : ℕ) → slice_get w.ends who ≡ Some n → n.released ≡ true
no_state w n true is none th who at = is
no_state w n false is none th who at =
    let live = th.order.ends who n at is in
    let held : held_of w.hosts n ≡ Some live.held = held_there w n is live.there live.live in
    let state : state_of (held_of w.hosts n) ≡ Some live.held.link.state = ap state_of held in
    let no : Some live.held.link.state ≡ None = sym state ∙ none in
    cc no

gone_state : (w : World) (n : EndNow) → n.released ≡ true → state_of (held_of w.hosts n) ≡ None
gone_state w n is = rw is refl

pub tells_released : (w : World) (t : List EndInfo) → length t ≡ length w.ends → LinkTheorems w → SummariesHaveStates w t → TellsReleased w t
tells_released w t count th stands who within =
    let e = there w t who count within in
    let told = (stands who e.0 e.1).state in
    let both = th.released who e.0 e.1 in
    (λ none. both.0 (no_state w e.0 e.0.released refl (sym told ∙ none) th who e.1), λ has. told ∙ gone_state w e.0 (both.1 has))

-- ---- the close

-- a state is that of a link that is held
held_with : (o : Option Held) (s : State) → state_of o ≡ Some s → (h : Held) × (o ≡ Some h) × (h.link.state ≡ s)
held_with None s is = cc is
held_with (Some h) s is = (h, refl, cc is)

pub tells_closed : ((s : Scan) (c d : ℕ) → PeerIsFound s c d) → (w : World) (t : List EndInfo) → length t ≡ length w.ends → LinkTheorems w → TellsLog w.log t → SummariesHaveStates w t → TellsClosed w t
tells_closed found w t count th log stands premises who is =
    let e = there w t who count (told_within t who Confirmed is) in
    let n : EndNow = e.0 in
    let h = held_with (held_of w.hosts n) Confirmed (sym (stands who n e.1).state ∙ is) in
    let link : (present_of w.hosts n).link ≡ Some h.0.link = ap (λ (o : Option Held). (present_with n o).link) h.1 in
    let closed = th.confirmed premises who (present_of w.hosts n) h.0.link (record { there = holds_there w who n e.1; link = link }) h.2 in
    record {
      peer = closed.0;
      peer_is = (log.each who).peer ∙ (found (scan w.log) who closed.0).there closed.3.peers;
      asked = closed.3.asked;
      two = closed.1;
      is = closed.2;
      all = closed.3.all;
      holds = closed.3.holds;
    }

other_way : (s : Scan) (c d : ℕ) → ArePeersIn s c d → ArePeersIn s d c
other_way s c d (inl j) = inr j
other_way s c d (inr j) = inl j

pub tells_ended : ((s : Scan) (c d : ℕ) → PeerIsFound s c d) → (v : NetView) (t : List EndInfo) → Theorems v → TellsLog v.now.world.log t → TellsEnded v.now.world t
tells_ended found v t th log premises who u has is =
    let s : Scan = scan v.now.world.log in
    let whole = th.end_taken premises who u has is in
    (whole.0, (log.each who).peer ∙ (found s who whole.0).there (other_way s whole.0 who whole.1), whole.2)
