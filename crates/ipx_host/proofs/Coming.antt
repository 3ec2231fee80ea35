-- What is noted of a new connection, and of a request that found no link.
use Rattle.std.proofs.Common.{◌≡◌, ◌∙◌, ℕ, Bool, List, Option, Some, None, ap, subst, sym}
use Rattle.ipx_wire.specs.declared.address.Address.{Address}
use Rattle.std.specs.Prelude.{IfSome}
use Rattle.spx_messages.specs.EndpointView.{EndpointView}
use Rattle.ipx_host.specs.Sessions.{AdmitsRequest, CountsRequest, CountsTurnedAway, DoesNoted, MakesSpace, NotesHeard, SparesOthers, asker_of, evicted_for, is_heard_one, is_unheard_one, place_of_own, place_to_free, raised_if, session_at, without}
use Rattle.ipx_host.specs.declared.sessions.Session.{Session}
use Rattle.ipx_host.specs.declared.paced_host_core.Accepted.{Accepted}
use Rattle.ipx_host.specs.declared.paced_host_core.Arrival.{Arrival}
use Rattle.ipx_host.specs.declared.paced_host_core.Arrival.TheVariants as Cames
use Rattle.ipx_host.specs.declared.paced_host_core.PacedHostCore.{PacedHostCore}

pub noted_accepted : (once : Bool) (a : Accepted) (came : Option Arrival) (m : ℕ) (old mid new : PacedHostCore) (cs cs' : List Session) → came ≡ old.came → came ≡ Some (Cames.Accepted a) → m ≡ old.moment
    → mid ≡ record old { came = None } → new ≡ record mid { endpoint = new.endpoint } → AdmitsRequest once m a mid.endpoint new.endpoint cs cs' → NotesHeard once old new cs cs'
noted_accepted once a came m old mid new cs cs' told is same cleared core admits =
    let at : AdmitsRequest once old.moment a mid.endpoint new.endpoint cs cs' = subst (λ (k : ℕ). AdmitsRequest once k a mid.endpoint new.endpoint cs cs') same admits in
    let here : AdmitsRequest once old.moment a old.endpoint new.endpoint cs cs' = subst (λ (e : EndpointView). AdmitsRequest once old.moment a e new.endpoint cs cs') (ap (λ (k : PacedHostCore). k.endpoint) cleared) at in
    let does : DoesNoted once old.came old.moment old.endpoint new.endpoint cs cs' = subst (λ (o : Option Arrival). DoesNoted once o old.moment old.endpoint new.endpoint cs cs') (sym is ∙ told) here in
    (core ∙ ap (λ (k : PacedHostCore). record k { endpoint = new.endpoint }) cleared, does)

-- and whether it is counted
pub counted_accepted : (once : Bool) (a : Accepted) (came : Option Arrival) (k : ℕ) (old mid : PacedHostCore) (cs : List Session) (n m : ℕ) → came ≡ old.came → came ≡ Some (Cames.Accepted a)
    → k ≡ old.moment
    → mid ≡ record old { came = None } → CountsTurnedAway once mid.endpoint.network a.from (without (place_of_own once mid.endpoint.network mid.endpoint k a.from cs) cs) n m
    → CountsRequest once old.came old.endpoint.network old.endpoint old.moment cs n m
counted_accepted once a came k old mid cs n m told is same cleared counts =
    let at = subst (λ (j : ℕ). CountsTurnedAway once mid.endpoint.network a.from (without (place_of_own once mid.endpoint.network mid.endpoint j a.from cs) cs) n m) same counts in
    let here : CountsRequest once (Some (Cames.Accepted a)) old.endpoint.network old.endpoint old.moment cs n m =
    subst (λ (e : EndpointView). CountsTurnedAway once e.network a.from (without (place_of_own once e.network e old.moment a.from cs) cs) n m) (ap (λ (k : PacedHostCore). k.endpoint) cleared) at in
    subst (λ (o : Option Arrival). CountsRequest once o old.endpoint.network old.endpoint old.moment cs n m) (sym is ∙ told) here

-- and which connection is evicted for it: so is what a count says of that one
pub evicted_accepted : (of : Option Session → Bool) (once : Bool) (a : Accepted) (came : Option Arrival) (k : ℕ) (old mid : PacedHostCore) (cs : List Session) (n m : ℕ) → came ≡ old.came → came ≡ Some (Cames.Accepted a)
    → k ≡ old.moment
    → mid ≡ record old { came = None } → m ≡ raised_if (of (session_at (place_of_own once mid.endpoint.network mid.endpoint k a.from cs) cs)) n
    → m ≡ raised_if (of (evicted_for once old.came old.endpoint.network old.endpoint old.moment cs)) n
evicted_accepted of once a came k old mid cs n m told is same cleared counts =
    let at = subst (λ (j : ℕ). m ≡ raised_if (of (session_at (place_of_own once mid.endpoint.network mid.endpoint j a.from cs) cs)) n) same counts in
    let here : m ≡ raised_if (of (evicted_for once (Some (Cames.Accepted a)) old.endpoint.network old.endpoint old.moment cs)) n =
    subst (λ (e : EndpointView). m ≡ raised_if (of (session_at (place_of_own once e.network e old.moment a.from cs) cs)) n) (ap (λ (k : PacedHostCore). k.endpoint) cleared) at in
    subst (λ (o : Option Arrival). m ≡ raised_if (of (evicted_for once o old.endpoint.network old.endpoint old.moment cs)) n) (sym is ∙ told) here

-- the same for a request that found no link
pub noted_no_room : (once : Bool) (asker : Address) (came : Option Arrival) (m : ℕ) (old mid new : PacedHostCore) (cs cs' : List Session) → came ≡ old.came → came ≡ Some (Cames.NoRoom asker) → m ≡ old.moment
    → mid ≡ record old { came = None } → new ≡ record mid { endpoint = new.endpoint } → MakesSpace once m asker mid.endpoint new.endpoint cs cs' → NotesHeard once old new cs cs'
noted_no_room once asker came m old mid new cs cs' told is same cleared core makes =
    let at : MakesSpace once old.moment asker mid.endpoint new.endpoint cs cs' = subst (λ (k : ℕ). MakesSpace once k asker mid.endpoint new.endpoint cs cs') same makes in
    let here : MakesSpace once old.moment asker old.endpoint new.endpoint cs cs' = subst (λ (e : EndpointView). MakesSpace once old.moment asker e new.endpoint cs cs') (ap (λ (k : PacedHostCore). k.endpoint) cleared) at in
    let does : DoesNoted once old.came old.moment old.endpoint new.endpoint cs cs' = subst (λ (o : Option Arrival). DoesNoted once o old.moment old.endpoint new.endpoint cs cs') (sym is ∙ told) here in
    (core ∙ ap (λ (k : PacedHostCore). record k { endpoint = new.endpoint }) cleared, does)

pub evicted_no_room : (of : Option Session → Bool) (once : Bool) (asker : Address) (came : Option Arrival) (k : ℕ) (old mid : PacedHostCore) (cs : List Session) (n m : ℕ) → came ≡ old.came → came ≡ Some (Cames.NoRoom asker)
    → k ≡ old.moment
    → mid ≡ record old { came = None } → m ≡ raised_if (of (session_at (place_to_free once mid.endpoint.network mid.endpoint k asker cs) cs)) n
    → m ≡ raised_if (of (evicted_for once old.came old.endpoint.network old.endpoint old.moment cs)) n
evicted_no_room of once asker came k old mid cs n m told is same cleared counts =
    let at = subst (λ (j : ℕ). m ≡ raised_if (of (session_at (place_to_free once mid.endpoint.network mid.endpoint j asker cs) cs)) n) same counts in
    let here : m ≡ raised_if (of (evicted_for once (Some (Cames.NoRoom asker)) old.endpoint.network old.endpoint old.moment cs)) n =
    subst (λ (e : EndpointView). m ≡ raised_if (of (session_at (place_to_free once e.network e old.moment asker cs) cs)) n) (ap (λ (k : PacedHostCore). k.endpoint) cleared) at in
    subst (λ (o : Option Arrival). m ≡ raised_if (of (evicted_for once o old.endpoint.network old.endpoint old.moment cs)) n) (sym is ∙ told) here

-- those of other nodes stay for either, if its node is at its limit
pub spared_for : (asker : Address) (came : Option Arrival) (arrival : Arrival) (old mid : PacedHostCore) (cs cs' : List Session) → came ≡ old.came → came ≡ Some arrival → asker_of (Some arrival) ≡ Some asker
    → mid ≡ record old { came = None } → SparesOthers mid.endpoint.network asker cs cs'
    → IfSome (asker_of old.came) (λ a. SparesOthers old.endpoint.network a cs cs')
spared_for asker came arrival old mid cs cs' told is from cleared spares =
    let here : SparesOthers old.endpoint.network asker cs cs' = subst (λ (e : EndpointView). SparesOthers e.network asker cs cs') (ap (λ (k : PacedHostCore). k.endpoint) cleared) spares in
    let it : IfSome (asker_of (Some arrival)) (λ a. SparesOthers old.endpoint.network a cs cs') = subst (λ (o : Option Address). IfSome o (λ a. SparesOthers old.endpoint.network a cs cs')) (sym from) here in
    subst (λ (o : Option Arrival). IfSome (asker_of o) (λ a. SparesOthers old.endpoint.network a cs cs')) (sym is ∙ told) it
