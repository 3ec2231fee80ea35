-- Takes of one connection, one after another: the endpoints between them are made.
use Rattle.std.proofs.Common.{◌≡◌, ◌≢◌, ℕ, zero, suc, Bool, true, false, cond, List, [], ◌∷◌, map, Option, Some, None, Result, Ok, Err, inl, inr, refl, sym, ◌∙◌, ap, subst}
use Rattle.std.specs.Prelude.{All}
use Rattle.std.proofs.lemmas.Bool.{cases_eq}
use Rattle.std.proofs.lemmas.List.{map-append}
use Rattle.std.proofs.lemmas.List.Elements.{All-append, All-cons, All-nil}
use Rattle.spx_link.specs.declared.unit.Unit.{Unit as Piece}
use Rattle.spx_link.specs.LinkView.{LinkView, is_end}
use Rattle.spx_link.specs.Links.{count_of}
use Rattle.spx_link.specs.Offer.{first_of, take_held, take_link}
use Rattle.spx_messages.specs.Changes.{ChangesEnd, SameBut, SameSelf}
use Rattle.spx_messages.specs.EndpointView.{EndpointView, Held, held_at}
use Rattle.spx_messages.specs.Joining.{added, is_overlong}
use Rattle.spx_messages.specs.Taking.{PeerEnd, Part, TakenView, Whole, joins_on, overlong, overrun, take_end, taken_held, takes_data, takes_first}
use Rattle.spx_messages.specs.declared.fault.EndFault.{EndFault}
use Rattle.ipx_host.specs.Dropping.{Drops, DropsCame, DropsFrom}
use Rattle.ipx_host.specs.Passing.{PassesFrom, PassesOne, SameOthers, Take, held_after, takes_after, takes_from}
use Rattle.ipx_host.specs.declared.sessions.Session.{Session}
use Rattle.theory_processes.specs.HostCalls.{Fails, Takes}
use Rattle.theory_processes.specs.Loops.{HostRuns}
use Rattle.theory_processes.specs.BetweenTurns.{TakesAre, TakesOf, take_call}
use Rattle.theory_processes.proofs.Between.{both, later, makes, own_of_held, with_held}
use Rattle.theory_processes.proofs.HostTurning.{runs_more}

-- ---- a take keeps the id of the link, and its address

pub either : {A : Type 0} (P : A → Type 0) (b : Bool) (x y : A) → P x → P y → P (cond b x y)
either P true x y px py = px
either P false x y px py = py

-- the id and the address are the same
abbrev KeepsNames : LinkView → LinkView → Type 0
KeepsNames l k = (k.own ≡ l.own) × (k.remote ≡ l.remote)

names_taken : (l : LinkView) (us : List Piece) → KeepsNames l (take_held l us).1
names_taken l [] = (refl, refl)
names_taken l (u ∷ us) = (refl, refl)

abbrev Keeps : Held → (Result TakenView EndFault × Held) → Type 0
Keeps h x = KeepsNames h.link x.1.link

names_of_first : (h : Held) (o : Option Piece) → Keeps h (takes_first h o)
names_of_first h None = (refl, refl)
names_of_first h (Some u) =
    let kept : KeepsNames h.link (take_link h.link).1 = names_taken h.link h.link.held in
    let joined : Keeps h (joins_on h u) =
    either (Keeps h) u.last (Ok (Whole (added h.rest u)), record (taken_held h) { rest = None }) (Ok Part, record (taken_held h) { rest = Some (added h.rest u) }) kept kept in
    let given : Keeps h (takes_data h u) = either (Keeps h) (is_overlong h.rest u) (Err overlong, overrun h) (joins_on h u) kept joined in
    either (Keeps h) (is_end u) (Ok PeerEnd, taken_held h) (takes_data h u) kept given

own_of_take : (h : Held) → (take_end h).1.link.own ≡ h.link.own
own_of_take h = (names_of_first h (first_of h.link.held)).0

pub remote_of_take : (h : Held) → (take_end h).1.link.remote ≡ h.link.remote
remote_of_take h = (names_of_first h (first_of h.link.held)).1

-- ---- takes

-- the first takes of what an id holds
record Took (e : EndpointView) (id n : ℕ) (h : Held) : Type 0 where
  mid : EndpointView
  runs : HostRuns (map take_call (takes_after id n h)) e mid
  changes : ChangesEnd e mid id (held_after n h)
  own : (held_after n h).link.own ≡ id

took : (e : EndpointView) (id n : ℕ) (h : Held) → held_at e id ≡ Some h → Took e id n h
took e id zero h holds = record {
  mid = e;
  runs = refl;
  changes = record { held = holds; others = λ q apart. refl; last = refl; count = refl; self = record { network = refl; node = refl; router = refl; buffers = λ s. refl } };
  own = own_of_held e id h holds;
}
took e id (suc n) h holds =
    let t : Took e id n h = took e id n h holds in
    let own : (held_after (suc n) h).link.own ≡ id = own_of_take (held_after n h) ∙ t.own in
    let next : EndpointView = with_held t.mid id (held_after (suc n) h) in
    let c : ChangesEnd t.mid next id (held_after (suc n) h) = makes t.mid id (held_after n h) (held_after (suc n) h) t.changes.held own in
    let last : Take = record { id = id; gave = (take_end (held_after n h)).0 } in
    record {
      mid = next;
      runs = subst (λ calls. HostRuns calls e next) (sym (map-append take_call (takes_after id n h) (last ∷ [])))
          (runs_more (map take_call (takes_after id n h)) (Takes id (take_end (held_after n h)).0 ∷ []) e t.mid next t.runs
          (next, record { held = held_after n h; holds = t.changes.held; answers = refl; changes = c }, refl));
      changes = both e t.mid next id (held_after n h) (held_after (suc n) h) t.changes c;
      own = own;
    }

-- what an id holds does not change
unchanged : (mid new : EndpointView) (id : ℕ) (h : Held) → held_at mid id ≡ Some h → ChangesEnd mid new id h → SameBut mid new
unchanged mid new id h holds c = record {
  held = λ q. elim (cases_eq q id) [
    | inl same ↦ ap (held_at new) same ∙ c.held ∙ sym holds ∙ ap (held_at mid) (sym same)
    | inr apart ↦ c.others q apart
  ];
  last = c.last;
  count = c.count;
  self = c.self;
}

-- an endpoint that differs only at this id, which holds what is left after these takes
takes_then : (e new : EndpointView) (id n : ℕ) (h : Held) → held_at e id ≡ Some h → ChangesEnd e new id (held_after n h) → TakesAre (takes_after id n h) e new
takes_then e new id n h holds c =
    let t : Took e id n h = took e id n h holds in
    runs_more (map take_call (takes_after id n h)) (Fails ∷ []) e t.mid new t.runs
    (new, unchanged t.mid new id (held_after n h) t.changes.held (later e t.mid new id (held_after n h) (held_after n h) t.changes c), refl)

-- an id that holds nothing still holds nothing
none_then : (e new : EndpointView) (id : ℕ) → held_at e id ≡ None → held_at new id ≡ None → ((q : ℕ) → q ≢ id → held_at new q ≡ held_at e q)
    → new.links.last ≡ e.links.last → count_of new.links ≡ count_of e.links → SameSelf e new → TakesAre [] e new
none_then e new id none still others last count self = (
  new,
  record {
    held = λ q. elim (cases_eq q id) [
      | inl same ↦ ap (held_at new) same ∙ still ∙ sym none ∙ ap (held_at e) (sym same)
      | inr apart ↦ others q apart
    ];
    last = last;
    count = count;
    self = self;
  },
  refl,
)

-- ---- what a sender drops

pub all_of : (id n : ℕ) (h : Held) → All (λ (t : Take). t.id ≡ id) (takes_after id n h)
all_of id zero h = All-nil (λ (t : Take). t.id ≡ id)
all_of id (suc n) h =
    let last : Take = record { id = id; gave = (take_end (held_after n h)).0 } in
    All-append (λ (t : Take). t.id ≡ id) (takes_after id n h) (last ∷ []) (all_of id n h) (All-cons (λ (t : Take). t.id ≡ id) last [] refl (All-nil (λ (t : Take). t.id ≡ id)))

module _ (old new : EndpointView) (id : ℕ) (d : DropsCame old new id) where
  changed : (h after : Held) → held_at new id ≡ Some after → ChangesEnd old new id after
  changed h after is = record { held = is; others = d.others; last = d.last; count = d.count; self = d.self }

  dropped : (n : ℕ) (h : Held) → held_at old id ≡ Some h → held_at new id ≡ Some (held_after n h) → TakesOf id old new
  dropped n h holds is = (takes_after id n h, all_of id n h, takes_then old new id n h holds (changed h (held_after n h) is))

  drops_by : (h : Held) → held_at old id ≡ Some h → Drops 65535 h (held_at new id) → TakesOf id old new
  drops_by h holds p = elim p.1 [
    | inl stops ↦ elim stops.1 [
      | inl empty ↦ dropped p.0 h holds empty.1
      | inr more ↦ elim more [
        | inl kept ↦ dropped p.0 h holds kept.1
        | inr long ↦ dropped (suc p.0) h holds long.1
      ]
    ]
    | inr all ↦ dropped p.0 h holds all.1
  ]

  drops_from : (o : Option Held) → held_at old id ≡ o → DropsFrom 65535 o (held_at new id) → TakesOf id old new
  drops_from None holds p = ([], All-nil (λ (t : Take). t.id ≡ id), none_then old new id holds p d.others d.last d.count d.self)
  drops_from (Some h) holds p = drops_by h holds p

  pub drops : TakesOf id old new
  drops = drops_from (held_at old id) refl d.drops

-- ---- what passes from a connection of a listening host

module _ (old new : EndpointView) (waiting left : List ℕ) (written writes : Option (List ℕ)) (c c' : Session) (s : SameOthers old new c.id) where
  passes_from : (o : Option Held) → held_at old c.id ≡ o → (p : PassesFrom o (held_at new c.id) waiting left written writes c c')
      → TakesAre (takes_from o (held_at new c.id) waiting left written writes c c' p) old new
  passes_from None holds p = none_then old new c.id holds p.0 s.others s.last s.count s.self
  passes_from (Some h) holds p = takes_then old new c.id p.0 h holds (record { held = p.1; others = s.others; last = s.last; count = s.count; self = s.self })

pub passes : (old new : EndpointView) (waiting left : List ℕ) (written writes : Option (List ℕ)) (c c' : Session) → (p : PassesOne old new waiting left written writes c c')
    → TakesAre (takes_from (held_at old c.id) (held_at new c.id) waiting left written writes c c' p.from) old new
passes old new waiting left written writes c c' p = passes_from old new waiting left written writes c c' p.others (held_at old c.id) refl p.from
