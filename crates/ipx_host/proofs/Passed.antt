-- What passed from a connection to an outlet, a take after another.
use Rattle.std.proofs.Common.{◌≡◌, ◌≢◌, ◌⊎◌, ℕ, ◌+◌, suc, true, false, List, [], ◌∷◌, ◌++◌, length, length-append, inl, inr, Option, Some, None, Ok, Err, refl, sym, ap, ◌∙◌, subst, append_assoc, append-nil}
use Rattle.std.specs.Prelude.{IfSome, Result}
use Rattle.spx_messages.specs.Changes.{SameSelf}
use Rattle.spx_messages.specs.EndpointView.{EndpointView, Held, held_at}
use Rattle.spx_messages.specs.Taking.{TakenView, Nothing, Part, PeerEnd, Whole, overlong, take_end}
use Rattle.spx_messages.specs.declared.fault.EndFault.{EndFault}
use Rattle.spx_messages.specs.declared.message.Message.{Message}
use Rattle.spx_messages.specs.declared.taken.Taken.{Taken}
use Rattle.spx_messages.specs.declared.taken.Taken.TheVariants as Takens
use Rattle.ipx_host.specs.SessionActions.{is_unheard}
use Rattle.ipx_host.specs.HostOutput.{Writes, left_of}
use Rattle.ipx_host.specs.Passing.{GivesNoMore, PassesHeld, PassesEach, PassesFrom, PassesOne, SameOthers, Takes, TakesNothing, TurnEnds, bodies_after, held_after, left_with, max_takes, phase_with, takes_after, takes_from}
use Rattle.ipx_host.specs.declared.sessions.Session.{Session}
use Rattle.ipx_host.specs.declared.sessions.Phase.{Phase}
use Rattle.ipx_host.specs.declared.sessions.Phase.TheVariants as Standings
use Rattle.ipx_host.specs.declared.output.Outlet.{Outlet}
use Rattle.ipx_host.proofs.Dropped.{Refuses, Takes as TakesOf, fault_of, given_first}
use Rattle.ipx_host.proofs.Fed.{for_memory}
use Rattle.ipx_host.proofs.Written.{writes_none, writes_nothing, writes_on}

same_self_on : (a b c : EndpointView) → SameSelf a b → SameSelf b c → SameSelf a c
same_self_on a b c p q = record {
  network = q.network ∙ p.network;
  node = q.node ∙ p.node;
  router = q.router ∙ p.router;
  buffers = λ socket. q.buffers socket ∙ p.buffers socket;
}

same_others : (e : EndpointView) (id : ℕ) → SameOthers e e id
same_others e id = record {
  others = λ q ne. refl;
  last = refl;
  count = refl;
  self = record { network = refl; node = refl; router = refl; buffers = λ socket. refl };
  heard = refl;
}

pub same_others_on : (a b c : EndpointView) (id : ℕ) → SameOthers a b id → SameOthers b c id → SameOthers a c id
same_others_on a b c id p q = record {
  others = λ k ne. q.others k ne ∙ p.others k ne;
  last = q.last ∙ p.last;
  count = q.count ∙ p.count;
  self = same_self_on a b c p.self q.self;
  heard = q.heard ∙ p.heard;
}

-- the id is that of the caller, whatever passed
pub from_id : (o after : Option Held) (x y : List ℕ) (a b : Option (List ℕ)) (c c' : Session) → PassesFrom o after x y a b c c' → c'.id ≡ c.id
from_id None after x y a b c c' p = ap (λ (k : Session). k.id) p.2
from_id (Some h) after x y a b c c' p = ap (λ (k : Session). k.id) p.3

-- nothing passed yet
pub from_start : (o : Option Held) (x : List ℕ) (a : Option (List ℕ)) (c : Session) → PassesFrom o o x x a a c c
from_start None x a c = (refl, writes_none x a, refl)
from_start (Some h) x a c =
    (0, refl, subst (λ (l : List ℕ). Writes l x a a) (sym (append-nil x)) (writes_none x a), refl, tt)

takes_start : (o : Option Held) (x : List ℕ) (a : Option (List ℕ)) (c : Session) → takes_from o o x x a a c c (from_start o x a c) ≡ []
unfolding from_start
takes_start None x a c = refl
takes_start (Some h) x a c = refl

-- what passed so far in the turn of a connection, by this many takes. The turn goes on
pub record PassesSoFar (old new : EndpointView) (waiting left : List ℕ)
    (written writes : Option (List ℕ)) (session session' : Session) (count : ℕ) : Type 0 where
  pub from : PassesFrom (held_at old session.id) (held_at new session.id) waiting left written writes session session'
  pub taken : length (takes_from (held_at old session.id) (held_at new session.id) waiting left written writes session session' from) ≡ count
  pub others : SameOthers old new session.id
  pub heard : is_unheard session.phase ≡ false
  pub behind : (session.phase ≡ Standings.Ended → waiting ≡ [])
      → session'.phase ≡ Standings.Ended → left ≡ []

pub so_far_start : (e : EndpointView) (x : List ℕ) (a : Option (List ℕ)) (c : Session) → is_unheard c.phase ≡ false → PassesSoFar e e x x a a c c 0
so_far_start e x a c heard = record {
  from = from_start (held_at e c.id) x a c;
  taken = ap length (takes_start (held_at e c.id) x a c);
  others = same_others e c.id;
  heard = heard;
  behind = λ none ended. none ended;
}

-- nothing passes from a connection that was not heard from
pub one_unheard : (e : EndpointView) (x : List ℕ) (a : Option (List ℕ)) (c : Session) → is_unheard c.phase ≡ true → PassesOne e e x x a a c c
one_unheard e x a c unheard = record {
  from = from_start (held_at e c.id) x a c;
  others = same_others e c.id;
  unheard = λ is. (refl, refl, takes_start (held_at e c.id) x a c);
  behind = λ none ended. none ended;
  ends = inl unheard;
}

-- why the turn of one that was heard from ends
abbrev pub HeardEnds : (after : Option Held) (left : List ℕ) (session' : Session) (count : ℕ) → Type 0
HeardEnds after left session' count =
    (session'.phase ≡ Standings.Ended) ⊎ ((left ≢ []) ⊎ ((count ≡ max_takes) ⊎ GivesNoMore after))

-- the turn ends
pub one_ends : (old new : EndpointView) (x y : List ℕ) (a b : Option (List ℕ)) (c c' : Session) (count : ℕ) → PassesSoFar old new x y a b c c' count
    → HeardEnds (held_at new c.id) y c' count → PassesOne old new x y a b c c'
one_ends old new x y a b c c' count p why = record {
  from = p.from;
  others = p.others;
  unheard = λ is. absurd (cc (is, p.heard));
  behind = p.behind;
  ends = inr (subst (HeardEnds (held_at new c.id) y c') (sym p.taken) why);
}

-- more was written
pub from_written : (o after : Option Held) (x y z : List ℕ) (a b d : Option (List ℕ)) (c c' : Session) → PassesFrom o after x y a b c c' → Writes y z b d → PassesFrom o after x z a d c c'
from_written None after x y z a b d c c' p wrote = (p.0, writes_on x y z a b d p.1 wrote, p.2)
from_written (Some h) after x y z a b d c c' p wrote =
    (p.0, p.1, writes_on (x ++ bodies_after p.0 h) y z a b d p.2 wrote, p.3, p.4)

takes_written : (o after : Option Held) (x y z : List ℕ) (a b d : Option (List ℕ)) (c c' : Session) (p : PassesFrom o after x y a b c c') (wrote : Writes y z b d)
    → takes_from o after x z a d c c' (from_written o after x y z a b d c c' p wrote) ≡ takes_from o after x y a b c c' p
unfolding from_written
takes_written None after x y z a b d c c' p wrote = refl
takes_written (Some h) after x y z a b d c c' p wrote = refl

pub so_far_written : (old new : EndpointView) (x y z : List ℕ) (a b d : Option (List ℕ)) (c c' : Session) (n : ℕ) → PassesSoFar old new x y a b c c' n → Writes y z b d → PassesSoFar old new x z a d c c' n
so_far_written old new x y z a b d c c' n p wrote = record {
  from = from_written (held_at old c.id) (held_at new c.id) x y z a b d c c' p.from wrote;
  taken = ap length (takes_written (held_at old c.id) (held_at new c.id) x y z a b d c c' p.from wrote) ∙ p.taken;
  others = p.others;
  heard = p.heard;
  behind = λ none ended. writes_nothing y z b d wrote (p.behind none ended);
}

-- a take that gives nothing, or is refused for another reason than a message that is too long, comes where
-- nothing more can be taken
none_given : (old new : EndpointView) (id : ℕ) (o : Option Held) → TakesOf old new id (Ok Takens.Nothing) o → GivesNoMore o
none_given old new id None takes = tt
none_given old new id (Some h) takes = inl (sym (takes (λ e. cc)).0)

fault_given : (old new : EndpointView) (id : ℕ) (f : EndFault) (o : Option Held) → f ≢ overlong → TakesOf old new id (Err f) o → Refuses old new (Err f) o → GivesNoMore o
fault_given old new id f None other takes refuses = tt
fault_given old new id f (Some h) other takes refuses =
    elim (for_memory (Err f)) [
      | inl e ↦ inr (refuses e).0
      | inr e ↦
          let is = (takes e).0 in
          let long : (take_end h).0 ≡ Err overlong = fault_of h.link.held (take_end h).0 f (given_first h h.link.held) (sym is) in
          absurd (other (let same : ◌≡◌ {A = Result TakenView EndFault} (Err f) (Err overlong) = is ∙ long in cc))
    ]

pub gives_no_more : (old new : EndpointView) (id : ℕ) (r : Result Taken EndFault) → r ≢ Ok Takens.Part → ((m : Message) → r ≢ Ok (Takens.Whole m)) → r ≢ Ok Takens.PeerEnd → r ≢ Err overlong
    → TakesOf old new id r (held_at old id) → Refuses old new r (held_at old id) → GivesNoMore (held_at old id)
gives_no_more old new id (Ok Takens.Nothing) part whole end long takes refuses = none_given old new id (held_at old id) takes
gives_no_more old new id (Ok Takens.Part) part whole end long takes refuses = absurd (part refl)
gives_no_more old new id (Ok (Takens.Whole m)) part whole end long takes refuses = absurd (whole m refl)
gives_no_more old new id (Ok Takens.PeerEnd) part whole end long takes refuses = absurd (end refl)
gives_no_more old new id (Err f) part whole end long takes refuses =
    fault_given old new id f (held_at old id) (λ e. long (ap (λ k. Err k) e)) takes refuses

-- a take that ends a connection that was not ended leaves what was left to write
ends_left : (r : Result TakenView EndFault) (phase : Phase) (left : List ℕ) → phase ≢ Standings.Ended → phase_with r phase ≡ Standings.Ended → left_with r left ≡ left
ends_left (Ok Nothing) phase left not ended = refl
ends_left (Ok Part) phase left not ended = refl
ends_left (Ok (Whole m)) phase left not ended = absurd (not ended)
ends_left (Ok PeerEnd) phase left not ended = refl
ends_left (Err f) phase left not ended = refl

-- what passes by this many takes
abbrev PassesBy : Option Held → Option Held → List ℕ → List ℕ → Option (List ℕ) → Option (List ℕ) → Session → Session → ℕ → Type 0
PassesBy o after x y a b c c' n = (p : PassesFrom o after x y a b c c') × (length (takes_from o after x y a b c c' p) ≡ n)

-- one more was taken where nothing was left to write
from_taken : (o : Option Held) (old new : EndpointView) (output output' : Outlet) (x : List ℕ) (a b : Option (List ℕ)) (c c' c'' : Session) (n : ℕ)
    → left_of output ≡ [] → c'.phase ≢ Standings.Ended → PassesBy o (held_at old c'.id) x (left_of output) a b c c' n
    → (held_at old c'.id ≡ None → ⊥) → IfSome (held_at old c'.id) (λ h. Takes h old new output output' c' c'')
    → PassesBy o (held_at new c'.id) x (left_of output') a b c c'' (n + 1)
from_taken None old new output output' x a b c c' c'' n none not q there took = absurd (there q.0.0)
from_taken (Some h) old new output output' x a b c c' c'' n none not q there took =
    let p = q.0 in
    let count = p.0 in
    let now = held_after count h in
    let takes : Takes now old new output output' c' c'' = subst (λ (k : Option Held). IfSome k (λ k. Takes k old new output output' c' c'')) p.1 took in
    let body = left_with (take_end now).0 [] in
    let front = p.2.0 in
    let all : x ++ bodies_after count h ≡ front = p.2.1 ∙ ap (λ l. front ++ l) none ∙ append-nil front in
    let is : left_of output' ≡ body = takes.left ∙ ap (λ l. left_with (take_end now).0 l) none in (
      (
        suc count,
        takes.held.held,
        (front, sym (append_assoc x (bodies_after count h) body) ∙ ap (λ l. l ++ body) all ∙ ap (λ l. front ++ l) (sym is), p.2.2),
        takes.noted ∙ ap (λ (k : Session). record k { phase = phase_with (take_end now).0 k.phase }) p.3,
        (p.4, subst (λ (k : Session). k.phase ≢ Standings.Ended) p.3 not, takes.something),
      ),
      length-append (takes_after c.id count h) (record { id = c.id; gave = (take_end now).0 } ∷ []) ∙ ap (λ k. k + 1) q.1,
    )

after_taken : (o : Option Held) (old new : EndpointView) (output output' : Outlet) (c c' : Session)
    → left_of output ≡ [] → c.phase ≢ Standings.Ended → (o ≡ None → ⊥) → IfSome o (λ h. Takes h old new output output' c c')
    → c'.phase ≡ Standings.Ended → left_of output' ≡ []
after_taken None old new output output' c c' none not there took ended = absurd (there refl)
after_taken (Some h) old new output output' c c' none not there took ended =
    took.left ∙ ends_left (take_end h).0 c.phase (left_of output) not (sym (ap (λ (k : Session). k.phase) took.noted) ∙ ended) ∙ none

pub so_far_taken : (old mid new : EndpointView) (output output' : Outlet) (x : List ℕ) (a b : Option (List ℕ)) (c c' c'' : Session) (n : ℕ)
    → left_of output ≡ [] → c'.phase ≢ Standings.Ended → c'.id ≡ c.id → PassesSoFar old mid x (left_of output) a b c c' n
    → (held_at mid c'.id ≡ None → ⊥) → IfSome (held_at mid c'.id) (λ h. Takes h mid new output output' c' c'') → SameOthers mid new c'.id
    → PassesSoFar old new x (left_of output') a b c c'' (n + 1)
so_far_taken old mid new output output' x a b c c' c'' n none not same p there took others =
    let q : PassesBy (held_at old c.id) (held_at new c.id) x (left_of output') a b c c'' (n + 1) =
    subst (λ (k : ℕ). PassesBy (held_at old c.id) (held_at new k) x (left_of output') a b c c'' (n + 1)) same
    (from_taken (held_at old c.id) mid new output output' x a b c c' c'' n none not
    (subst (λ (k : ℕ). PassesBy (held_at old c.id) (held_at mid k) x (left_of output) a b c c' n) (sym same) (p.from, p.taken)) there took) in
    record {
      from = q.0;
      taken = q.1;
      others = same_others_on old mid new c.id p.others (subst (λ (k : ℕ). SameOthers mid new k) same others);
      heard = p.heard;
      behind = λ before ended. after_taken (held_at mid c'.id) mid new output output' c' c'' none not there took ended;
    }

-- nothing more was taken, which ends the turn
pub one_idle : (old mid new : EndpointView) (output output' : Outlet) (x : List ℕ) (a b : Option (List ℕ)) (c c' c'' : Session) (n : ℕ)
    → c'.id ≡ c.id → PassesSoFar old mid x (left_of output) a b c c' n → TakesNothing mid new output output' c' c'' → SameOthers mid new c'.id
    → GivesNoMore (held_at mid c'.id) → PassesOne old new x (left_of output') a b c c''
one_idle old mid new output output' x a b c c' c'' n same p idle others gone =
    let none : GivesNoMore (held_at new c.id) = subst GivesNoMore (sym (idle.held.held c.id)) (subst (λ (k : ℕ). GivesNoMore (held_at mid k)) same gone) in
    let q : PassesBy (held_at old c.id) (held_at new c.id) x (left_of output) a b c c' n =
    subst (λ (k : Option Held). PassesBy (held_at old c.id) k x (left_of output) a b c c' n) (sym (idle.held.held c.id)) (p.from, p.taken) in
    subst (λ (k : Session). PassesOne old new x (left_of output') a b c k) (sym idle.same)
    (subst (λ (k : Outlet). PassesOne old new x (left_of k) a b c c') (sym idle.kept)
    (one_ends old new x (left_of output) a b c c' n (record {
      from = q.0;
      taken = q.1;
      others = same_others_on old mid new c.id p.others (subst (λ (k : ℕ). SameOthers mid new k) same others);
      heard = p.heard;
      behind = p.behind;
    }) (inr (inr (inr none)))))

-- what passed, without how the connection stands
pub from_passes : (o after : Option Held) (x y : List ℕ) (a b : Option (List ℕ)) (c c' : Session) → PassesFrom o after x y a b c c' → IfSome o (λ h. PassesHeld h after x y a b)
from_passes None after x y a b c c' p = tt
from_passes (Some h) after x y a b c c' p = (p.0, p.1, p.2)

-- one more connection behind the others
pub each_on : (old mid new : EndpointView) (x y z : List ℕ) (a b d : Option (List ℕ)) (cs cs' : List Session) (c c' : Session)
    → PassesEach old mid x y a b cs cs' → PassesOne mid new y z b d c c' → y ≡ [] → PassesEach old new x z a d (cs ++ c ∷ []) (cs' ++ c' ∷ [])
each_on old mid new x y z a b d [] cs' c c' p one empty =
    let same : PassesOne old new x z a d c c' =
    subst (λ (e : EndpointView). PassesOne e new x z a d c c') p.1
    (subst (λ (l : List ℕ). PassesOne mid new l z a d c c') p.2
    (subst (λ (w : Option (List ℕ)). PassesOne mid new y z w d c c') p.3 one)) in
    (new, z, d, c', [], ap (λ (l : List Session). l ++ c' ∷ []) p.0, same, (refl, refl, refl, refl), sym p.2 ∙ empty)
each_on old mid new x y z a b d (k ∷ ks) cs' c c' p one empty =
    (p.0, p.1, p.2, p.3, p.4 ++ c' ∷ [], ap (λ (l : List Session). l ++ c' ∷ []) p.5, p.6, each_on p.0 mid new p.1 y z p.2 b d ks p.4 c c' p.7 one empty, p.8)
