-- An end whose summary says Confirmed, by the theorems of a network and the summaries of its ends.
use Rattle.std.proofs.Common.{ℕ, zero, suc, ◌≡◌, ◌≢◌, ◌<◌, List, [], ◌∷◌, true, false, None, Option, Some, length, map, refl, sym, ap, ◌∙◌, subst, arith}
use Rattle.std.specs.Prelude.{IfSome, nat_lt, slice_get, slice_index_or}
use Rattle.std.proofs.lemmas.Bool.{ltb-true}
use Rattle.std.proofs.lemmas.List.{get_or_default}
use Rattle.std.proofs.lemmas.List.{length-map}
use Rattle.spx_link.specs.declared.state.State.{State}
use Rattle.spx_link.specs.declared.state.State.TheVariants.{Confirmed}
use Rattle.spx_messages.specs.EndpointView.{Held}
use Rattle.spx_theory.specs.Close.{HoldsAll}
use Rattle.spx_theory.specs.Peers.{ArePeers, Premises}
use Rattle.spx_theory.specs.Scan.{scan}
use Rattle.spx_theory.specs.Scene.{PresentEnd}
use Rattle.spx_theory.specs.World.{EndNow, World, held_of, scene_of, present_of, present_with}
use Rattle.ipx_net_hosts.specs.EndStates.{state_of}
use Rattle.ipx_net.specs.Ends.{TellsClosed, TellsEnds, nobody, told_of}
use Rattle.ipx_net.specs.NetView.{NetView}
use Rattle.ipx_net.specs.Theorems.{LinkTheorems, Theorems}
use Rattle.ipx_net.specs.declared.endinfo.EndInfo.{EndInfo}

end_within : (ns : List EndNow) (k : ℕ) → k < length ns → (n : EndNow) × (slice_get ns k ≡ Some n)
end_within [] k within = absurd (omega (arith, within))
end_within (n ∷ ns) zero within = (n, refl)
end_within (n ∷ ns) (suc k) within = end_within ns k (omega (arith, within))

told_within : (t : List EndInfo) (who : ℕ) (s : State) → (told_of t who).state ≡ Some s → who < length t
told_within [] who s is = cc is
told_within (x ∷ t) zero s is = omega arith
told_within (x ∷ t) (suc who) s is = let within = told_within t who s is in omega (arith, within)

-- a state is that of a link that is held
held_with : (o : Option Held) (s : State) → state_of o ≡ Some s → (h : Held) × (o ≡ Some h) × (h.link.state ≡ s)
held_with None s is = cc is
held_with (Some h) s is = (h, refl, cc is)

holds_there : (hosts : List _) (ns : List EndNow) (k : ℕ) (n : EndNow) → slice_get ns k ≡ Some n → slice_get (map (present_of hosts) ns) k ≡ Some (present_of hosts n)
holds_there hosts [] k n is = cc is
holds_there hosts (m ∷ ns) zero n is = let same : m ≡ n = cc is in ap (λ x. Some (present_of hosts x)) same
holds_there hosts (m ∷ ns) (suc k) n is = holds_there hosts ns k n is

pub have_peers : (v : NetView) → Theorems v → v.spent ≡ false → Premises v.now.world.log → (told : List EndInfo) → TellsEnds v told
    → (who : ℕ) → (told_of told who).state ≡ Some Confirmed → (peer : ℕ) × ArePeers v.now.world.log who peer
have_peers v th going premises told tells who is =
    let w : World = v.now.world in
    let links = th.links going in
    let count : length (scan w.log).roles ≡ length w.ends = links.told.count ∙ length-map w.ends (present_of w.hosts) in
    let within : who < length told = told_within told who Confirmed is in
    let e = end_within w.ends who (omega (arith, within, tells.log.count, count)) in
    let n : EndNow = e.0 in
    let h = held_with (held_of w.hosts n) Confirmed (sym (tells.stands going who n e.1).state ∙ is) in
    let link : (present_of w.hosts n).link ≡ Some h.0.link = ap (λ (o : Option Held). (present_with n o).link) h.1 in
    let closed = links.confirmed premises who (present_of w.hosts n) h.0.link (record { there = holds_there w.hosts w.ends who n e.1; link = link }) h.2 in
    (closed.0, closed.3.peers)

-- ---- the summary of one end

pub told_at : (t : List EndInfo) (k : ℕ) (x d : EndInfo) → true ≡ nat_lt k (length t) → x ≡ slice_index_or t k d → told_of t k ≡ x
told_at t k x d within is = get_or_default t k nobody d (ltb-true k (length t) (sym within)) ∙ sym is

-- the peer in the summary of a confirmed end holds everything
pub peer_holds : (v : NetView) (t : List EndInfo) (end : ℕ) (x : EndInfo) → told_of t end ≡ x → x.state ≡ Some Confirmed → (v.spent ≡ false → TellsClosed v.now.world t)
    → v.spent ≡ false → Premises v.now.world.log → IfSome x.peer (HoldsAll (scene_of v.now.world) end)
peer_holds v t end x told is closing going premises =
    let closed = closing going premises end (ap (λ (e : EndInfo). e.state) told ∙ is) in
    let peer : x.peer ≡ Some closed.peer = ap (λ (e : EndInfo). e.peer) (sym told) ∙ closed.peer_is in
    subst (λ o. IfSome o (HoldsAll (scene_of v.now.world) end)) (sym peer) closed.holds
