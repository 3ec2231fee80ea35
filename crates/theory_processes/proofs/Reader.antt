-- What a host took at an id of its own is what one connection took, if no two connections have one id there.
use Rattle.std.proofs.Common.{◌≡◌, ◌≢◌, ◌⊎◌, ◌==◌, ◌&&◌, ℕ, zero, suc, Bool, true, false, not, cond, List, [], ◌∷◌, ◌++◌, map, Some, Result, Ok, Err, refl, sym, ◌∙◌, inl, inr, ap, subst, arith}
use Rattle.std.specs.Prelude.{All, flat_map, slice_get}
use Rattle.std.proofs.lemmas.Bool.{and_from, and_parts, cases_eq, cond-false, cond-true, false_from_ne_true, ne_eqb}
use Rattle.std.proofs.lemmas.Bool.Decides.{Decides-eqb}
use Rattle.std.proofs.lemmas.Grind.{flat_map-append}
use Rattle.std.proofs.lemmas.List.{append-nil, append_assoc}
use Rattle.std.proofs.lemmas.List.Elements.{All-head, All-tail}
use Rattle.spx_messages.specs.EndpointView.{EndpointView, Held, held_at}
use Rattle.spx_messages.specs.Message.{MessageView}
use Rattle.spx_messages.specs.Taking.{TakenView}
use Rattle.spx_messages.specs.Taking as takens
use Rattle.spx_messages.specs.declared.arrived.Arrived.{Arrived}
use Rattle.spx_messages.specs.declared.arrived.Arrived.TheVariants as Arriveds
use Rattle.spx_messages.specs.declared.fault.EndFault.{EndFault}
use Rattle.ipx_host.specs.Passing.{Take, bodies_of, left_with}
use Rattle.ipx_host.specs.Hosting.{end_of}
use Rattle.theory_processes.specs.Course.{AtHost, AtRouter, Call, Course, DoesAtHost, DoesCall, accepted_by, connections_after, handing, is_now_at, on_connection, releasing, taking}
use Rattle.theory_processes.specs.HostCalls.{AsksAgain, Begins, Closes, Dials, DoesHostCall, Fails, Gives, HandsIn, Hears, HostCall, Paces, Releases, Takes, TakesAt}
use Rattle.theory_processes.specs.Loops.{host_calls}
use Rattle.theory_processes.specs.Processes.{IdsDiffer}
use Rattle.theory_processes.specs.Shows.{AllAreConnections}
use Rattle.theory_processes.specs.Site.{Connection, Site, connection_of}
use Rattle.theory_processes.specs.ListeningCalls.{take_in}
use Rattle.theory_processes.proofs.Lists.{get_before, get_map, map_got, same_some}

-- ---- lists

flat_same : {A B : Type 0} (g : A → List B) (h : A → A) → ((x : A) → g (h x) ≡ g x) → (xs : List A) → flat_map g (map h xs) ≡ flat_map g xs
flat_same g h same [] = refl
flat_same g h same (x ∷ xs) = ap (λ l. l ++ flat_map g (map h xs)) (same x) ∙ ap (λ l. g x ++ l) (flat_same g h same xs)

-- ---- what a take gives

abbrev pub out_of : Result TakenView EndFault → List MessageView
out_of (Ok takens.Nothing) = []
out_of (Ok takens.Part) = []
out_of (Ok (takens.Whole m)) = m ∷ []
out_of (Ok takens.PeerEnd) = []
out_of (Err f) = []

-- the messages that calls of a host took at an id
abbrev pub message_out : ℕ → HostCall → List MessageView
message_out id (Takes j answer) = cond (j == id) (out_of answer) []
message_out id call = []

-- what a call changes of a connection: never its host and its id, and its end is never undone
pub record KeepsName (x y : Connection) : Type 0 where
  pub host : y.host ≡ x.host
  pub id : y.id ≡ x.id
  pub ended : x.ended ≡ true → y.ended ≡ true

taking_keeps : (a : Result TakenView EndFault) (x : Connection) → KeepsName x (taking a x)
taking_keeps (Ok takens.Nothing) x = record { host = refl; id = refl; ended = λ e. e }
taking_keeps (Ok takens.Part) x = record { host = refl; id = refl; ended = λ e. e }
taking_keeps (Ok (takens.Whole m)) x = record { host = refl; id = refl; ended = λ e. e }
taking_keeps (Ok takens.PeerEnd) x = record { host = refl; id = refl; ended = λ e. refl }
taking_keeps (Err f) x = record { host = refl; id = refl; ended = λ e. e }

taking_takes : (a : Result TakenView EndFault) (x : Connection) → (taking a x).taken ≡ x.taken ++ out_of a
taking_takes (Ok takens.Nothing) x = sym (append-nil x.taken)
taking_takes (Ok takens.Part) x = sym (append-nil x.taken)
taking_takes (Ok (takens.Whole m)) x = refl
taking_takes (Ok takens.PeerEnd) x = sym (append-nil x.taken)
taking_takes (Err f) x = sym (append-nil x.taken)

-- ---- connections of one host and id

module _ (k id : ℕ) where
  abbrev is_ours : Connection → Bool
  is_ours c = (c.host == k) && (c.id == id)

  abbrev taken_of : Connection → List MessageView
  taken_of c = cond (is_ours c) c.taken []

  ours : (c : Connection) → c.host ≡ k → c.id ≡ id → is_ours c ≡ true
  ours c host id' = and_from (c.host == k) (c.id == id) ((Decides-eqb c.host k).1 host) ((Decides-eqb c.id id).1 id')

  -- a connection with the same name, which took the same
  same_taken : (x y : Connection) → KeepsName x y → y.taken ≡ x.taken → taken_of y ≡ taken_of x
  same_taken x y n taken = ap (λ h. cond ((h == k) && (y.id == id)) y.taken []) n.host ∙ ap (λ i. cond ((x.host == k) && (i == id)) y.taken []) n.id ∙ ap (λ ms. cond (is_ours x) ms []) taken

  -- what is changed is not of this host and id
  not_ours : (j i : ℕ) → (j ≢ k) ⊎ (i ≢ id) → (c : Connection) → is_now_at j i c ≡ true → is_ours c ≡ false
  not_ours j i apart c now =
      let both' = and_parts ((c.host == j) && (c.id == i)) (not c.released) now in
      let names = and_parts (c.host == j) (c.id == i) both'.0 in
      when (is_ours c) refl names
    where
      when : (b : Bool) → is_ours c ≡ b → ((c.host == j) ≡ true) × ((c.id == i) ≡ true) → is_ours c ≡ false
      when false is names = is
      when true is names =
          let mine = and_parts (c.host == k) (c.id == id) is in
          elim apart [
            | inl hosts ↦ absurd (hosts (sym ((Decides-eqb c.host j).0 names.0) ∙ (Decides-eqb c.host k).0 mine.0))
            | inr ids ↦ absurd (ids (sym ((Decides-eqb c.id i).0 names.1) ∙ (Decides-eqb c.id id).0 mine.1))
          ]

  on_other : (j i : ℕ) (f : Connection → Connection) → ((c : Connection) → KeepsName c (f c)) → (j ≢ k) ⊎ (i ≢ id) → (c : Connection) → taken_of (cond (is_now_at j i c) (f c) c) ≡ taken_of c
  on_other j i f keeps apart c = when (is_now_at j i c) refl
    where
      when : (b : Bool) → is_now_at j i c ≡ b → taken_of (cond b (f c) c) ≡ taken_of c
      when false is = refl
      when true is =
          let none : is_ours c ≡ false = not_ours j i apart c is in
          let names : is_ours (f c) ≡ is_ours c = ap (λ h. (h == k) && ((f c).id == id)) (keeps c).host ∙ ap (λ i. (c.host == k) && (i == id)) (keeps c).id in
          cond-false (is_ours (f c)) (f c).taken [] (names ∙ none) ∙ sym (cond-false (is_ours c) c.taken [] none)

  -- the messages are the same after a change that takes nothing
  on_same : (j i : ℕ) (f : Connection → Connection) → ((c : Connection) → KeepsName c (f c)) → ((c : Connection) → (f c).taken ≡ c.taken) → (c : Connection) → taken_of (cond (is_now_at j i c) (f c) c) ≡ taken_of c
  on_same j i f keeps taken c = when (is_now_at j i c)
    where
      when : (b : Bool) → taken_of (cond b (f c) c) ≡ taken_of c
      when false = refl
      when true = same_taken c (f c) (keeps c) (taken c)

  -- ---- if there is one of this host and id, and no other

  abbrev pub IsOnly : List Connection → ℕ → Type 0
  IsOnly cs d = (n : ℕ) (c : Connection) → slice_get cs n ≡ Some c → is_ours c ≡ true → n ≡ d

  none_else : (cs : List Connection) → ((n : ℕ) (c : Connection) → slice_get cs n ≡ Some c → is_ours c ≡ false) → flat_map taken_of cs ≡ []
  none_else [] none = refl
  none_else (c ∷ cs) none = ap (λ l. l ++ flat_map taken_of cs) (cond-false (is_ours c) c.taken [] (none 0 c refl)) ∙ none_else cs (λ n x at. none (suc n) x at)

  pub all_taken : (cs : List Connection) (d : ℕ) (c : Connection) → slice_get cs d ≡ Some c → is_ours c ≡ true → IsOnly cs d → flat_map taken_of cs ≡ c.taken
  all_taken [] d c at own only = absurd (cc at)
  all_taken (x ∷ cs) zero c at own only =
      let is : x ≡ c = same_some x c at in
      ap (λ l. taken_of x ++ l) (none_else cs (λ n y there. false_from_ne_true (is_ours y) (λ e. cc (only (suc n) y there e)))) ∙ append-nil (taken_of x)
      ∙ ap taken_of is ∙ cond-true (is_ours c) c.taken [] own
  all_taken (x ∷ cs) (suc d) c at own only =
      ap (λ l. l ++ flat_map taken_of cs) (cond-false (is_ours x) x.taken [] (false_from_ne_true (is_ours x) (λ e. cc (only 0 x refl e))))
      ∙ all_taken cs d c at own (λ n y there e. (let it : suc n ≡ suc d = only (suc n) y there e in omega (arith, it)))

  -- the one of this host and id, which is not released
  pub record HasOnly (cs : List Connection) : Type 0 where
    pub place : ℕ
    pub connection : Connection
    pub there : slice_get cs place ≡ Some connection
    pub now : is_now_at k id connection ≡ true
    pub only : IsOnly cs place

  pub own_now : (c : Connection) → is_now_at k id c ≡ true → is_ours c ≡ true
  own_now c now = (and_parts ((c.host == k) && (c.id == id)) (not c.released) now).0

  takes_on : (a : Result TakenView EndFault) → Connection → Connection
  takes_on a c = cond (is_now_at k id c) (taking a c) c

  same_ours : (x y : Connection) → KeepsName x y → is_ours y ≡ is_ours x
  same_ours x y n = ap (λ h. (h == k) && (y.id == id)) n.host ∙ ap (λ i. (x.host == k) && (i == id)) n.id

  takes_keep : (a : Result TakenView EndFault) (c : Connection) → KeepsName c (takes_on a c)
  unfolding takes_on
  takes_keep a c = when (is_now_at k id c)
    where
      when : (b : Bool) → KeepsName c (cond b (taking a c) c)
      when true = taking_keeps a c
      when false = record { host = refl; id = refl; ended = λ e. e }

  on_own : (a : Result TakenView EndFault) (cs : List Connection) → HasOnly cs → flat_map taken_of (map (takes_on a) cs) ≡ flat_map taken_of cs ++ out_of a
  unfolding takes_on
  on_own a cs o =
      let c : Connection = o.connection in
      let own : is_ours c ≡ true = own_now c o.now in
      let after : Connection = taking a c in
      let at : slice_get (map (takes_on a) cs) o.place ≡ Some after = get_map (takes_on a) cs o.place c o.there ∙ ap Some (cond-true (is_now_at k id c) after c o.now) in
      let own' : is_ours after ≡ true = same_ours c after (taking_keeps a c) ∙ own in
      let only : IsOnly (map (takes_on a) cs) o.place = λ n y there mine.
      (let got = map_got (takes_on a) cs n y there in
      o.only n got.0 got.1 (sym (same_ours got.0 (takes_on a got.0) (takes_keep a got.0)) ∙ ap is_ours got.2 ∙ mine)) in
      all_taken (map (takes_on a) cs) o.place after at own' only ∙ taking_takes a c ∙ ap (λ ms. ms ++ out_of a) (sym (all_taken cs o.place c o.there own o.only))

  -- ---- a call

  nothing_if : (b : Bool) → ◌≡◌ {A = List MessageView} (cond b [] []) []
  nothing_if true = refl
  nothing_if false = refl

  -- what a call at a host adds to the messages taken
  abbrev adds : ℕ → HostCall → List MessageView
  adds j call = cond (j == k) (message_out id call) []

  -- a call that adds nothing
  quiet : (j : ℕ) (cs cs' : List Connection) → flat_map taken_of cs' ≡ flat_map taken_of cs → flat_map taken_of cs' ≡ flat_map taken_of cs ++ cond (j == k) [] []
  quiet j cs cs' same = same ∙ sym (append-nil (flat_map taken_of cs)) ∙ ap (λ ms. flat_map taken_of cs ++ ms) (sym (nothing_if (j == k)))

  new_none : (j i : ℕ) → flat_map taken_of (connection_of j i ∷ []) ≡ []
  new_none j i = append-nil (taken_of (connection_of j i)) ∙ nothing_if (is_ours (connection_of j i))

  grown : (cs ds : List Connection) → flat_map taken_of ds ≡ [] → flat_map taken_of (cs ++ ds) ≡ flat_map taken_of cs
  grown cs ds none = flat_map-append taken_of cs ds ∙ ap (λ ms. flat_map taken_of cs ++ ms) none ∙ append-nil (flat_map taken_of cs)

  accepted_none : (a : Arrived) (j : ℕ) → flat_map taken_of (accepted_by a j) ≡ []
  accepted_none (Arriveds.Bad f) j = refl
  accepted_none Arriveds.NotOurs j = refl
  accepted_none (Arriveds.BadSpx f) j = refl
  accepted_none Arriveds.NoListener j = refl
  accepted_none Arriveds.NoRoom j = refl
  accepted_none Arriveds.Stranger j = refl
  accepted_none (Arriveds.Accepted i) j = new_none j i
  accepted_none (Arriveds.Link i r) j = refl

  handing_keeps : (m : MessageView) (c : Connection) → KeepsName c (handing m c)
  handing_keeps m c = record { host = refl; id = refl; ended = λ e. e }

  releasing_keeps : (c : Connection) → KeepsName c (releasing c)
  releasing_keeps c = record { host = refl; id = refl; ended = λ e. e }

  -- a take of this host and id needs the one connection
  abbrev Needs : ℕ → HostCall → List Connection → Type 0
  Needs j call cs = (answer : Result TakenView EndFault) → j ≡ k → call ≡ Takes id answer → HasOnly cs

  takes_elsewhere : (j i : ℕ) (a : Result TakenView EndFault) (cs : List Connection) → (j ≢ k) ⊎ (i ≢ id) → flat_map taken_of (on_connection j i (taking a) cs) ≡ flat_map taken_of cs
  takes_elsewhere j i a cs apart = flat_same taken_of (λ c. cond (is_now_at j i c) (taking a c) c) (on_other j i (taking a) (taking_keeps a) apart) cs

  none_added : (j i : ℕ) (a : Result TakenView EndFault) → (j ≢ k) ⊎ (i ≢ id) → adds j (Takes i a) ≡ []
  none_added j i a apart = elim apart [
    | inl hosts ↦ cond-false (j == k) (cond (i == id) (out_of a) []) [] (ne_eqb j k hosts)
    | inr ids ↦ ap (λ ms. cond (j == k) ms []) (cond-false (i == id) (out_of a) [] (ne_eqb i id ids)) ∙ nothing_if (j == k)
  ]

  take_elsewhere : (j i : ℕ) (a : Result TakenView EndFault) (cs : List Connection) → (j ≢ k) ⊎ (i ≢ id) → flat_map taken_of (on_connection j i (taking a) cs) ≡ flat_map taken_of cs ++ adds j (Takes i a)
  take_elsewhere j i a cs apart =
      takes_elsewhere j i a cs apart ∙ sym (append-nil (flat_map taken_of cs)) ∙ ap (λ ms. flat_map taken_of cs ++ ms) (sym (none_added j i a apart))

  take_here : (j i : ℕ) (a : Result TakenView EndFault) (cs : List Connection) → j ≡ k → i ≡ id → HasOnly cs → flat_map taken_of (on_connection j i (taking a) cs) ≡ flat_map taken_of cs ++ adds j (Takes i a)
  unfolding takes_on
  take_here j i a cs host id' o =
      let added : adds j (Takes i a) ≡ out_of a = cond-true (j == k) (cond (i == id) (out_of a) []) [] ((Decides-eqb j k).1 host) ∙ cond-true (i == id) (out_of a) [] ((Decides-eqb i id).1 id') in
      ap (λ x. flat_map taken_of (on_connection x i (taking a) cs)) host ∙ ap (λ x. flat_map taken_of (on_connection k x (taking a) cs)) id'
      ∙ on_own a cs o ∙ ap (λ ms. flat_map taken_of cs ++ ms) (sym added)

  call_taken : (j : ℕ) (call : HostCall) (cs : List Connection) → Needs j call cs → flat_map taken_of (connections_after j call cs) ≡ flat_map taken_of cs ++ adds j call
  call_taken j (Hears source bytes now answer) cs needs = quiet j cs (cs ++ accepted_by answer j) (grown cs (accepted_by answer j) (accepted_none answer j))
  call_taken j (Gives now given) cs needs = quiet j cs cs refl
  call_taken j (Dials socket to buffers now i) cs needs = quiet j cs (cs ++ connection_of j i ∷ []) (grown cs (connection_of j i ∷ []) (new_none j i))
  call_taken j (HandsIn i m) cs needs =
      quiet j cs (on_connection j i (handing m) cs) (flat_same taken_of (λ c. cond (is_now_at j i c) (handing m c) c) (on_same j i (handing m) (handing_keeps m) (λ c. refl)) cs)
  call_taken j (Closes i) cs needs = quiet j cs cs refl
  call_taken j (Takes i answer) cs needs = elim (cases_eq j k) [
    | inr hosts ↦ take_elsewhere j i answer cs (inl hosts)
    | inl host ↦ elim (cases_eq i id) [
      | inr ids ↦ take_elsewhere j i answer cs (inr ids)
      | inl same ↦ take_here j i answer cs host same (needs answer host (ap (λ x. Takes x answer) same))
    ]
  ]
  call_taken j (Paces i window manual) cs needs = quiet j cs cs refl
  call_taken j (AsksAgain i place) cs needs = quiet j cs cs refl
  call_taken j (Releases i) cs needs =
      quiet j cs (on_connection j i releasing cs) (flat_same taken_of (λ c. cond (is_now_at j i c) (releasing c) c) (on_same j i releasing releasing_keeps (λ c. refl)) cs)
  call_taken j (Begins socket buffers) cs needs = quiet j cs cs refl
  call_taken j Fails cs needs = quiet j cs cs refl

-- ---- connections stay, with their names

pub record Stays (cs : List Connection) (n : ℕ) (x : Connection) : Type 0 where
  pub connection : Connection
  pub there : slice_get cs n ≡ Some connection
  pub keeps : KeepsName x connection

itself : (x : Connection) → KeepsName x x
itself x = record { host = refl; id = refl; ended = λ e. e }

stays_map : (j i : ℕ) (f : Connection → Connection) → ((c : Connection) → KeepsName c (f c)) → (cs : List Connection) (n : ℕ) (x : Connection) → slice_get cs n ≡ Some x → Stays (on_connection j i f cs) n x
stays_map j i f keeps cs n x at = record {
  connection = cond (is_now_at j i x) (f x) x;
  there = get_map (λ c. cond (is_now_at j i c) (f c) c) cs n x at;
  keeps = when (is_now_at j i x);
}
  where
    when : (b : Bool) → KeepsName x (cond b (f x) x)
    when true = keeps x
    when false = itself x

stays_more : (cs ds : List Connection) (n : ℕ) (x : Connection) → slice_get cs n ≡ Some x → Stays (cs ++ ds) n x
stays_more cs ds n x at = record { connection = x; there = get_before cs ds x n at; keeps = itself x }

stays_same : (cs : List Connection) (n : ℕ) (x : Connection) → slice_get cs n ≡ Some x → Stays cs n x
stays_same cs n x at = record { connection = x; there = at; keeps = itself x }

call_stays : (j : ℕ) (call : HostCall) (cs : List Connection) (n : ℕ) (x : Connection) → slice_get cs n ≡ Some x → Stays (connections_after j call cs) n x
call_stays j (Hears source bytes now answer) cs n x at = stays_more cs (accepted_by answer j) n x at
call_stays j (Gives now given) cs n x at = stays_same cs n x at
call_stays j (Dials socket to buffers now i) cs n x at = stays_more cs (connection_of j i ∷ []) n x at
call_stays j (HandsIn i m) cs n x at = stays_map j i (handing m) (λ c. record { host = refl; id = refl; ended = λ e. e }) cs n x at
call_stays j (Closes i) cs n x at = stays_same cs n x at
call_stays j (Takes i answer) cs n x at = stays_map j i (taking answer) (taking_keeps answer) cs n x at
call_stays j (Paces i window manual) cs n x at = stays_same cs n x at
call_stays j (AsksAgain i place) cs n x at = stays_same cs n x at
call_stays j (Releases i) cs n x at = stays_map j i releasing (λ c. record { host = refl; id = refl; ended = λ e. e }) cs n x at
call_stays j (Begins socket buffers) cs n x at = stays_same cs n x at
call_stays j Fails cs n x at = stays_same cs n x at

and_then : (cs : List Connection) (n : ℕ) (x y : Connection) → KeepsName x y → Stays cs n y → Stays cs n x
and_then cs n x y a s = record {
  connection = s.connection;
  there = s.there;
  keeps = record { host = s.keeps.host ∙ a.host; id = s.keeps.id ∙ a.id; ended = λ e. s.keeps.ended (a.ended e) };
}

stays : (calls : List Call) (a b : Site) → Course calls a b → (n : ℕ) (x : Connection) → slice_get a.connections n ≡ Some x → Stays b.connections n x
stays [] a b course n x at = stays_same b.connections n x (ap (λ (s : Site). slice_get s.connections n) course ∙ at)
stays (AtRouter j call ∷ calls) a b course n x at = stays calls course.0 b course.2 n x (ap (λ cs. slice_get cs n) course.1.connections ∙ at)
stays (AtHost j call ∷ calls) a b course n x at =
    let s : Stays (connections_after j call a.connections) n x = call_stays j call a.connections n x at in
    and_then b.connections n x s.connection s.keeps (stays calls course.0 b course.2 n s.connection (ap (λ cs. slice_get cs n) course.1.connections ∙ s.there))

course_more : (done : List Call) (call : Call) (a b c : Site) → Course done a b → DoesCall call b c → Course (done ++ call ∷ []) a c
course_more [] call a b c course does = (c, subst (λ s. DoesCall call s c) course does, refl)
course_more (x ∷ done) call a b c course does = (course.0, course.1, course_more done call course.0 b c course.2 does)

-- ---- a course in which no two connections have one id at this host

module _ (k id : ℕ) (begin final : Site) (e : EndpointView) (differ : IdsDiffer final) (there : slice_get final.hosts k ≡ Some e)
    (shown : (mid : Site) (done : List Call) → Course done begin mid → AllAreConnections mid) where
  ours_of : (c : Connection) → is_ours k id c ≡ true → (c.host ≡ k) × (c.id ≡ id)
  ours_of c own = let p = and_parts (c.host == k) (c.id == id) own in ((Decides-eqb c.host k).0 p.0, (Decides-eqb c.id id).0 p.1)

  at_most_one : (calls : List Call) (a : Site) → Course calls a final → (d : ℕ) (c : Connection) → slice_get a.connections d ≡ Some c → is_ours k id c ≡ true → IsOnly k id a.connections d
  at_most_one calls a course d c at own n x there' own' =
      let s : Stays final.connections d c = stays calls a final course d c at in
      let t : Stays final.connections n x = stays calls a final course n x there' in
      let c-is = ours_of c own in
      let x-is = ours_of x own' in
      differ n d t.connection s.connection e e t.there s.there (ap (slice_get final.hosts) (t.keeps.host ∙ x-is.0) ∙ there) (ap (slice_get final.hosts) (s.keeps.host ∙ c-is.0) ∙ there) refl
      (t.keeps.id ∙ x-is.1 ∙ sym (s.keeps.id ∙ c-is.1))

  now_of : (c : Connection) → c.host ≡ k → c.id ≡ id → c.released ≡ false → is_now_at k id c ≡ true
  now_of c host id' open' = and_from ((c.host == k) && (c.id == id)) (not c.released) (ours k id c host id') (ap not open')

  -- what holds something has its connection
  the_one : (done calls : List Call) (a : Site) → Course done begin a → Course calls a final → (before : EndpointView) (h : Held) → slice_get a.hosts k ≡ Some before → held_at before id ≡ Some h → HasOnly k id a.connections
  the_one done calls a came course before h at holds =
      let it = shown a done came k id before h at holds in
      let now : is_now_at k id it.1 ≡ true = now_of it.1 it.3 it.4 it.5 in
      record { place = it.0; connection = it.1; there = it.2; now = now; only = at_most_one calls a course it.0 it.1 it.2 (own_now k id it.1 now) }

  needs_of : (done calls : List Call) (j : ℕ) (call : HostCall) (a b : Site) → Course done begin a → DoesCall (AtHost j call) a b → Course calls b final → Needs k id j call a.connections
  needs_of done calls j call a b came does course answer host is =
      let takes : TakesAt does.before id answer does.after = subst (λ c. DoesHostCall c does.before does.after) is does.does in
      the_one done (AtHost j call ∷ calls) a came (b, does, course) does.before takes.held (ap (slice_get a.hosts) (sym host) ∙ does.there) takes.holds

  -- the calls of this host, one more or one of another
  one_more : (b : Bool) (call : HostCall) (rest : List HostCall) → flat_map (message_out id) (cond b (call ∷ rest) rest) ≡ cond b (message_out id call) [] ++ flat_map (message_out id) rest
  one_more true call rest = refl
  one_more false call rest = refl

  taken_on : (calls done : List Call) (a : Site) → Course done begin a → Course calls a final
      → flat_map (taken_of k id) final.connections ≡ flat_map (taken_of k id) a.connections ++ flat_map (message_out id) (host_calls k calls)
  taken_on [] done a came course = ap (λ (s : Site). flat_map (taken_of k id) s.connections) course ∙ sym (append-nil (flat_map (taken_of k id) a.connections))
  taken_on (AtRouter j call ∷ calls) done a came course =
      taken_on calls (done ++ AtRouter j call ∷ []) course.0 (course_more done (AtRouter j call) begin a course.0 came course.1) course.2
      ∙ ap (λ cs. flat_map (taken_of k id) cs ++ flat_map (message_out id) (host_calls k calls)) course.1.connections
  taken_on (AtHost j call ∷ calls) done a came course =
      let rest : List MessageView = flat_map (message_out id) (host_calls k calls) in
      taken_on calls (done ++ AtHost j call ∷ []) course.0 (course_more done (AtHost j call) begin a course.0 came course.1) course.2
      ∙ ap (λ cs. flat_map (taken_of k id) cs ++ rest) course.1.connections
      ∙ ap (λ ms. ms ++ rest) (call_taken k id j call a.connections (needs_of done calls j call a course.0 came course.1 course.2))
      ∙ append_assoc (flat_map (taken_of k id) a.connections) (adds k id j call) rest
      ∙ ap (λ ms. flat_map (taken_of k id) a.connections ++ ms) (sym (one_more (j == k) call (host_calls k calls)))

  -- ---- the end of the peer was taken

  pub record Ended : Type 0 where
    pub place : ℕ
    pub connection : Connection
    pub at : slice_get final.connections place ≡ Some connection
    pub host : connection.host ≡ k
    pub id_is : connection.id ≡ id
    pub ended : connection.ended ≡ true

  abbrev IsTake : HostCall → Type 0
  IsTake call = (take_in call ≡ []) ⊎ ((i : ℕ) × (a : Result TakenView EndFault) × (call ≡ Takes i a))

  is_take : (call : HostCall) → IsTake call
  is_take (Hears source bytes now answer) = inl refl
  is_take (Gives now given) = inl refl
  is_take (Dials socket to buffers now i) = inl refl
  is_take (HandsIn i m) = inl refl
  is_take (Closes i) = inl refl
  is_take (Takes i answer) = inr (i, answer, refl)
  is_take (Paces i window manual) = inl refl
  is_take (AsksAgain i place) = inl refl
  is_take (Releases i) = inl refl
  is_take (Begins socket buffers) = inl refl
  is_take Fails = inl refl

  taken_end : (done calls : List Call) (j : ℕ) (call : HostCall) (a b : Site) → Course done begin a → DoesAtHost j call a b → Course calls b final → j ≡ k → call ≡ Takes id (Ok takens.PeerEnd) → Ended
  taken_end done calls j call a b came does course host is =
      let o : HasOnly k id a.connections = needs_of done calls j call a b came does course (Ok takens.PeerEnd) host is in
      let c : Connection = o.connection in
      let after : Connection = taking (Ok takens.PeerEnd) c in
      let own = ours_of c (own_now k id c o.now) in
      let here : slice_get b.connections o.place ≡ Some after =
      ap (λ cs. slice_get cs o.place) (does.connections ∙ ap (λ x. connections_after j x a.connections) is ∙ ap (λ x. on_connection x id (taking (Ok takens.PeerEnd)) a.connections) host)
      ∙ get_map (λ x. cond (is_now_at k id x) (taking (Ok takens.PeerEnd) x) x) a.connections o.place c o.there ∙ ap Some (cond-true (is_now_at k id c) after c o.now) in
      let s : Stays final.connections o.place after = stays calls b final course o.place after here in
      record { place = o.place; connection = s.connection; at = s.there; host = s.keeps.host ∙ own.0; id_is = s.keeps.id ∙ own.1; ended = s.keeps.ended refl }

  no_takes : (earlier : List Take) → ◌≡◌ {A = List Take} [] (earlier ++ end_of id ∷ []) → ⊥
  no_takes [] is = cc is
  no_takes (t ∷ ts) is = cc is

  ended : (calls done : List Call) (a : Site) → Course done begin a → Course calls a final → (earlier : List Take) → flat_map take_in (host_calls k calls) ≡ earlier ++ end_of id ∷ [] → Ended
  ended [] done a came course earlier is = absurd (no_takes earlier is)
  ended (AtRouter j call ∷ calls) done a came course earlier is = ended calls (done ++ AtRouter j call ∷ []) course.0 (course_more done (AtRouter j call) begin a course.0 came course.1) course.2 earlier is
  ended (AtHost j call ∷ calls) done a came course earlier is =
      let on : (before : List Take) → flat_map take_in (host_calls k calls) ≡ before ++ end_of id ∷ [] → Ended =
      λ before same. ended calls (done ++ AtHost j call ∷ []) course.0 (course_more done (AtHost j call) begin a course.0 came course.1) course.2 before same in
      elim (cases_eq j k) [
        | inr apart ↦ on earlier (sym (ap (flat_map take_in) (cond-false (j == k) (call ∷ host_calls k calls) (host_calls k calls) (ne_eqb j k apart))) ∙ is)
        | inl host ↦
            let now : take_in call ++ flat_map take_in (host_calls k calls) ≡ earlier ++ end_of id ∷ [] =
            sym (ap (flat_map take_in) (cond-true (j == k) (call ∷ host_calls k calls) (host_calls k calls) ((Decides-eqb j k).1 host))) ∙ is in
            elim (is_take call) [
              | inl none ↦ on earlier (sym (ap (λ ts. ts ++ flat_map take_in (host_calls k calls)) none) ∙ now)
              | inr take ↦ at on earlier host take (sym (ap (λ c. take_in c ++ flat_map take_in (host_calls k calls)) take.2) ∙ now)
            ]
      ]
    where
      at : ((before : List Take) → flat_map take_in (host_calls k calls) ≡ before ++ end_of id ∷ [] → Ended) → (earlier : List Take) → j ≡ k
          → (take : (i : ℕ) × (x : Result TakenView EndFault) × (call ≡ Takes i x)) → record { id = take.0; gave = take.1 } ∷ flat_map take_in (host_calls k calls) ≡ earlier ++ end_of id ∷ [] → Ended
      at on [] host take now =
          let same : ◌≡◌ {A = Take} (record { id = take.0; gave = take.1 }) (end_of id) = cc now in
          let call-is : call ≡ Takes id (Ok takens.PeerEnd) = take.2 ∙ ap (λ (t : Take). Takes t.id t.gave) same in
          taken_end done calls j call a course.0 came course.1 course.2 host call-is
      at on (t ∷ ts) host take now = on ts (cc now)

  -- ---- the reader

  pub record ReadsOut (calls : List Call) : Type 0 where
    pub last : Ended
    pub taken : last.connection.taken ≡ flat_map (message_out id) (host_calls k calls)

  pub reads_out : (calls : List Call) → Course calls begin final → begin.connections ≡ [] → (earlier : List Take) → flat_map take_in (host_calls k calls) ≡ earlier ++ end_of id ∷ [] → ReadsOut calls
  reads_out calls course none earlier is =
      let last : Ended = ended calls [] begin refl course earlier is in
      let c : Connection = last.connection in
      let own : is_ours k id c ≡ true = ours k id c last.host last.id_is in
      record {
        last = last;
        taken = sym (all_taken k id final.connections last.place c last.at own (at_most_one [] final refl last.place c last.at own))
            ∙ taken_on calls [] begin refl course ∙ ap (λ cs. flat_map (taken_of k id) cs ++ flat_map (message_out id) (host_calls k calls)) none;
      }

-- ---- the bodies

bodies_of_one : (answer : Result TakenView EndFault) (more : List ℕ) → left_with answer [] ++ more ≡ flat_map (λ (m : MessageView). m.body) (out_of answer) ++ more
bodies_of_one (Ok takens.Nothing) more = refl
bodies_of_one (Ok takens.Part) more = refl
bodies_of_one (Ok (takens.Whole m)) more = ap (λ bs. bs ++ more) (sym (append-nil m.body))
bodies_of_one (Ok takens.PeerEnd) more = refl
bodies_of_one (Err f) more = refl

-- the bodies of takes are those of the messages that the calls took, if all takes are of one id
pub bodies_are : (id : ℕ) (calls : List HostCall) → All (λ (t : Take). t.id ≡ id) (flat_map take_in calls)
    → bodies_of (flat_map take_in calls) ≡ flat_map (λ (m : MessageView). m.body) (flat_map (message_out id) calls)
bodies_are id [] all = refl
bodies_are id (Hears source bytes now answer ∷ calls) all = bodies_are id calls all
bodies_are id (Gives now given ∷ calls) all = bodies_are id calls all
bodies_are id (Dials socket to buffers now i ∷ calls) all = bodies_are id calls all
bodies_are id (HandsIn i m ∷ calls) all = bodies_are id calls all
bodies_are id (Closes i ∷ calls) all = bodies_are id calls all
bodies_are id (Takes i answer ∷ calls) all =
    let P : Take → Type 0 = λ t. t.id ≡ id in
    let first : i ≡ id = All-head P (record { id = i; gave = answer }) (flat_map take_in calls) all in
    let rest = bodies_are id calls (All-tail P (record { id = i; gave = answer }) (flat_map take_in calls) all) in
    let body : MessageView → List ℕ = λ m. m.body in
    ap (λ bs. left_with answer [] ++ bs) rest ∙ bodies_of_one answer (flat_map body (flat_map (message_out id) calls))
    ∙ ap (λ ms. flat_map body ms ++ flat_map body (flat_map (message_out id) calls)) (sym (cond-true (i == id) (out_of answer) [] ((Decides-eqb i id).1 first)))
    ∙ sym (flat_map-append body (message_out id (Takes i answer)) (flat_map (message_out id) calls))
bodies_are id (Paces i window manual ∷ calls) all = bodies_are id calls all
bodies_are id (AsksAgain i place ∷ calls) all = bodies_are id calls all
bodies_are id (Releases i ∷ calls) all = bodies_are id calls all
bodies_are id (Begins socket buffers ∷ calls) all = bodies_are id calls all
bodies_are id (Fails ∷ calls) all = bodies_are id calls all
