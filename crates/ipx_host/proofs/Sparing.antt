-- A node that is at its limit evicts only its own connections.
use Rattle.std.proofs.Common.{◌&&◌, ◌≡◌, ◌∙◌, ◌<◌, ◌==◌, ◌||◌, inl, inr, ℕ, zero, suc, Bool, true, false, not, cond, List, [], ◌∷◌, ◌++◌, length, get_or, is_some, Option, Some, None, refl, sym, ap, subst, arith, append-nil}
use Rattle.std.proofs.lemmas.Cmp.{nat_list_eq_equiv, nat_eq_equiv}
use Rattle.std.proofs.lemmas.List.Elements.{filter-append}
use Rattle.std.proofs.lemmas.List.Quantifiers.{position-Some}
use Rattle.std.specs.Cmp.Lexicographic.{pointwise}
use Rattle.std.specs.List.{list_any, position}
use Rattle.std.specs.Prelude.{IfSome, IsTrue, MatchOption, filter, if◌then◌else◌, nat_eq, remove}
use Rattle.spx_messages.specs.EndpointView.{EndpointView}
use Rattle.ipx_config.specs.AllowedPeers.{home_network}
use Rattle.ipx_wire.specs.declared.address.Address.{Address}
use Rattle.ipx_wire.specs.declared.address.Network.{Network}
use Rattle.ipx_host.specs.Sessions.{Admits, AdmitsRequest, Evicts, MakesSpace, SparesOthers, is_at_limit, is_first_own, is_of_node, is_own_silent, is_unanswered, is_unheard_of, of_others, place_of_any, place_of_own, place_of_own_unanswered, place_to_free, session_of}
use Rattle.ipx_host.specs.declared.paced_host_core.Accepted.{Accepted}
use Rattle.ipx_host.specs.declared.sessions.Phase.TheVariants as Standings
use Rattle.ipx_host.specs.declared.sessions.Session.{Session}

left_of_both : (a b : Bool) → (a && b) ≡ true → a ≡ true
left_of_both true b h = refl
left_of_both false b h = h

right_of_both : (a b : Bool) → (a && b) ≡ true → b ≡ true
right_of_both true b h = h
right_of_both false b h = absurd (cc)

-- without a connection that is left out anyway, the same ones are left
left_out : (p : Session → Bool) (cs : List Session) (place : ℕ) (d : Session) → place < length cs → p (get_or cs place d) ≡ false → filter p (remove cs place) ≡ filter p cs
left_out p [] place d within off = absurd (omega arith)
left_out p (c ∷ cs) zero d within off = sym (ap (λ b. cond b (c ∷ filter p cs) (filter p cs)) off)
left_out p (c ∷ cs) (suc n) d within off = ap (λ l. cond (p c) (c ∷ l) l) (left_out p cs n d (omega arith) off)

-- a connection of a node at a place
abbrev IsOfNodeAt : Network → Address → List Session → ℕ → Session → Type 0
IsOfNodeAt own from cs k d = (k < length cs) × (is_of_node own from (get_or cs k d) ≡ true)

own_by : (a b u : Bool) (own : Network) (e : EndpointView) (now : ℕ) (from : Address) (cs : List Session) (k : ℕ) (d : Session)
    → (if a then None else (if b then place_of_own_unanswered own now from cs else (if u then None else position (is_first_own own e now from cs) cs))) ≡ Some k
    → IsOfNodeAt own from cs k d
own_by true b u own e now from cs k d is = absurd (cc)
own_by false true u own e now from cs k d is =
    let at = position-Some (λ (c : Session). is_unanswered now c && is_of_node own from c) cs k d is in
    (at.0, right_of_both (is_unanswered now (get_or cs k d)) (is_of_node own from (get_or cs k d)) at.1)
own_by false false true own e now from cs k d is = absurd (cc)
own_by false false false own e now from cs k d is =
    let at = position-Some (is_first_own own e now from cs) cs k d is in
    let one = get_or cs k d in
    (at.0, right_of_both _ (is_of_node own from one) (left_of_both (is_own_silent own e now from one) _ at.1))

own_at : (once : Bool) (own : Network) (e : EndpointView) (now : ℕ) (from : Address) (cs : List Session) (k : ℕ) (d : Session) → place_of_own once own e now from cs ≡ Some k → IsOfNodeAt own from cs k d
own_at once own e now from cs k d is =
    own_by (not (is_at_limit own from cs)) (once || is_some (place_of_own_unanswered own now from cs)) (list_any (is_unheard_of own from) cs) own e now from cs k d is

own_goes : (once : Bool) (now : ℕ) (from : Address) (old new : EndpointView) (cs cs' : List Session) (found : Option ℕ) → place_of_own once old.network old now from cs ≡ found
    → Evicts found old new cs cs' → of_others old.network from cs' ≡ of_others old.network from cs
own_goes once now from old new cs cs' None is evicts = ap (of_others old.network from) evicts.0
own_goes once now from old new [] cs' (Some k) is evicts =
    absurd (omega (arith, (own_at once old.network old now from [] k (record { id = 0; from = from; heard = 0; phase = Standings.New }) is).0))
own_goes once now from old new (c ∷ cs) cs' (Some k) is evicts =
    let at = own_at once old.network old now from (c ∷ cs) k c is in
    ap (of_others old.network from) evicts.0 ∙ left_out (λ (s : Session). not (is_of_node old.network from s)) (c ∷ cs) k c at.0 (ap not at.1)

pub spares_room : (once : Bool) (now : ℕ) (asker : Address) (old new : EndpointView) (cs cs' : List Session) → MakesSpace once now asker old new cs cs' → SparesOthers old.network asker cs cs'
spares_room once now asker old new cs cs' makes limit =
    own_goes once now asker old new cs cs' (place_of_own once old.network old now asker cs) refl
    (subst (λ (b : Bool). Evicts (if b then place_of_own once old.network old now asker cs else place_of_any once old.network old now asker cs) old new cs cs') limit makes)

-- a connection is of the node that it is from
own_itself : (own : Network) (from : Address) (c : Session) → c.from ≡ from → is_of_node own from c ≡ true
own_itself own from c is =
    let nets : (home_network own from == home_network own from) ≡ true = nat_eq_equiv.refl (home_network own from) in
    let nodes : pointwise nat_eq from.node.0 from.node.0 ≡ true = nat_list_eq_equiv.refl from.node.0 in
    subst (λ (a : Address). ((home_network own a == home_network own from) && pointwise nat_eq a.node.0 from.node.0) ≡ true) (sym is)
    (ap (λ b. b && pointwise nat_eq from.node.0 from.node.0) nets ∙ nodes)

own_comes : (once : Bool) (from : Address) (c : Session) (own : Network) (old new : EndpointView) (cs cs' : List Session) → is_of_node own from c ≡ true → Admits once c old new cs cs' → of_others own from cs' ≡ of_others own from cs
own_comes once from c own old new cs cs' is (inl p) =
    ap (of_others own from) p.1 ∙ filter-append (λ (s : Session). not (is_of_node own from s)) cs (c ∷ [])
    ∙ ap (λ b. of_others own from cs ++ cond (not b) (c ∷ []) []) is ∙ append-nil (of_others own from cs)
own_comes once from c own old new cs cs' is (inr p) = ap (of_others own from) p.1

pub spares_admitted : (once : Bool) (now : ℕ) (a : Accepted) (old new : EndpointView) (cs cs' : List Session) → AdmitsRequest once now a old new cs cs' → SparesOthers old.network a.from cs cs'
spares_admitted once now a old new cs cs' (mid, between, evicts, admits) limit =
    own_comes once a.from (session_of a now) old.network mid new between cs' (own_itself old.network a.from (session_of a now) refl) admits
    ∙ own_goes once now a.from old mid cs between (place_of_own once old.network old now a.from cs) refl evicts
