-- What grows by one element: rows of a text, IP addresses, routers that answered, the width of a column, and
-- turns. It also shows where an exit status of 0 comes from.
use Rattle.std.proofs.Common.{◌≡◌, ◌≤◌, ◌<◌, ◌⊎◌, inl, inr, ℕ, ◌+◌, Bool, true, false, List, ◌++◌, [], ◌∷◌, length, map, max, take, get_or, sym, subst, ap, ◌∙◌, refl, arith, if◌then◌else◌}
use Rattle.std.specs.Prelude.{filter}
use Rattle.std.specs.List.{flat_map}
use Rattle.std.proofs.lemmas.List.{append-nil, append_assoc, flat_map_more, map-append, take_more}
use Rattle.ipx_wire.specs.declared.address.Node.{Node}
use Rattle.ipx_carrier.specs.Device.{TellsMoments}
use Rattle.ipx_carrier.specs.Turns.{Turn, Turns, moments_of}
use Rattle.ipx_query.specs.AskQueries.{AskGives}
use Rattle.ipx_query.specs.QueryEnds.{is_ask_over}
use Rattle.ipx_query.specs.QueryView.{AskView, IsNewAsk}
use Rattle.ipx_query.specs.declared.queried_router.QueriedRouter.{QueriedRouter}
use Rattle.ipx_query.specs.declared.question.TableQuery.{TableQuery}
use Rattle.ipx_config.specs.Values.{is_peer}
use Rattle.ipx_config.specs.declared.host.HostConfig.{HostConfig}
use Rattle.ipx_sockets.specs.PortTurns.{HostPort}
use Rattle.ipx_sockets.specs.Steady.{NeverGoesBack}
use Rattle.ipx_sockets.specs.declared.clock.SteadyClock.{SteadyClock}
use Rattle.ipx_query_cmd.specs.QueryPorts.{IsOpened}
use Rattle.ipx_query_cmd.specs.QueryRuns.{AsksOn, HasAsked, PassBetween, hears_answer}
use Rattle.ipx_query_cmd.specs.OperatorLines.{answering_nodes, widest}
use Rattle.ipx_query_cmd.specs.QueryTargets.{asked_nodes, guarded_querier, new_ips, querier_address}
use Rattle.ipx_query_cmd.proofs.Driven.{drives_after}

-- one more text after those of the elements before
pub texts_more : {X : Type 0} (f : X → List ℕ) (xs : List X) (i : ℕ) (d : X) (old part : List ℕ) → i < length xs → old ≡ flat_map f (take i xs) → part ≡ f (get_or xs i d)
    → old ++ part ≡ flat_map f (take (i + 1) xs)
texts_more f xs i d old part lt was is =
    rw (was, is) (flat_map_more f [] (take i xs) (get_or xs i d) ∙ ap (flat_map f) (sym (take_more xs i d lt)))

-- the text of one more element, by its words
flat_map_twice : {X W : Type 0} (f : W → List ℕ) (g : X → W) (xs : List X) → flat_map f (map g xs) ≡ flat_map (λ x. f (g x)) xs
flat_map_twice f g [] = refl
flat_map_twice f g (x ∷ xs) = ap (λ t. f (g x) ++ t) (flat_map_twice f g xs)

pub words_more : {X W : Type 0} (f : W → List ℕ) (g : X → W) (xs : List X) (i : ℕ) (d : X) (old part : List ℕ) → i < length xs → old ≡ flat_map f (map g (take i xs)) → part ≡ f (g (get_or xs i d))
    → old ++ part ≡ flat_map f (map g (take (i + 1) xs))
words_more f g xs i d old part lt was is =
    texts_more (λ x. f (g x)) xs i d old part lt (was ∙ flat_map_twice f g (take i xs)) is ∙ sym (flat_map_twice f g (take (i + 1) xs))

-- one more element that is kept, and one that is not
kept_last : {X W : Type 0} (p : W → Bool) (g : X → W) (xs : List X) (x : X) → filter p (map g (xs ++ x ∷ [])) ≡ filter p (map g xs) ++ (if p (g x) then g x ∷ [] else [])
kept_last p g [] x = elim (p (g x)) as (λ b. (if b then g x ∷ [] else []) ≡ (if b then g x ∷ [] else [])) [ true ↦ refl | false ↦ refl ]
kept_last p g (y ∷ xs) x =
    let later = kept_last p g xs x in
    elim (p (g y)) as (λ b. (if b then g y ∷ filter p (map g (xs ++ x ∷ [])) else filter p (map g (xs ++ x ∷ []))) ≡ (if b then g y ∷ filter p (map g xs) else filter p (map g xs)) ++ (if p (g x) then g x ∷ [] else [])) [
      | true ↦ ap (λ t. g y ∷ t) later
      | false ↦ later
    ]

module _ {X W : Type 0} (p : W → Bool) (g : X → W) (xs : List X) (i : ℕ) (d : X) (lt : i < length xs) (items : List X) (was : map g items ≡ filter p (map g (take i xs))) where
  kept_more : filter p (map g (take (i + 1) xs)) ≡ map g items ++ (if p (g (get_or xs i d)) then g (get_or xs i d) ∷ [] else [])
  kept_more =
      ap (λ ys. filter p (map g ys)) (take_more xs i d lt) ∙ kept_last p g (take i xs) (get_or xs i d)
      ∙ ap (λ l. l ++ (if p (g (get_or xs i d)) then g (get_or xs i d) ∷ [] else [])) (sym was)

  pub pushed_kept : (new : List X) → p (g (get_or xs i d)) ≡ true → new ≡ items ++ get_or xs i d ∷ [] → map g new ≡ filter p (map g (take (i + 1) xs))
  pushed_kept new is more =
      ap (map g) more ∙ map-append g items (get_or xs i d ∷ [])
      ∙ sym (kept_more ∙ ap (λ b. map g items ++ (if b then g (get_or xs i d) ∷ [] else [])) is)

  pub passed_kept : p (g (get_or xs i d)) ≡ false → map g items ≡ filter p (map g (take (i + 1) xs))
  passed_kept is = sym (kept_more ∙ ap (λ b. map g items ++ (if b then g (get_or xs i d) ∷ [] else [])) is ∙ append-nil (map g items))

-- whether one more IP address is new
abbrev pub if_new : List (List ℕ) → List ℕ → List (List ℕ)
if_new earlier ip = if is_peer earlier ip then [] else ip ∷ []

news_more : (earlier ips : List (List ℕ)) (ip : List ℕ) → new_ips earlier (ips ++ ip ∷ []) ≡ new_ips earlier ips ++ if_new (earlier ++ ips) ip
news_more earlier [] ip = append-nil (if_new earlier ip) ∙ ap (λ t. if_new t ip) (sym (append-nil earlier))
news_more earlier (y ∷ ys) ip =
    ap (λ t. if_new earlier y ++ t) (news_more (earlier ++ y ∷ []) ys ip)
    ∙ rw (append_assoc earlier (y ∷ []) ys) (sym (append_assoc (if_new earlier y) (new_ips (earlier ++ y ∷ []) ys) (if_new (earlier ++ y ∷ ys) ip)))

pub ips_more : (ips : List (List ℕ)) (i : ℕ) (d : List ℕ) (old new : List (List ℕ)) → i < length ips → old ≡ new_ips [] (take i ips)
    → new ≡ old ++ if_new (take i ips) (get_or ips i d) → new ≡ new_ips [] (take (i + 1) ips)
ips_more ips i d old new lt was is =
    is ∙ ap (λ t. t ++ if_new (take i ips) (get_or ips i d)) was ∙ sym (news_more [] (take i ips) (get_or ips i d)) ∙ ap (new_ips []) (sym (take_more ips i d lt))

-- whether one more router answered
abbrev pub if_answered : QueriedRouter → List Node
if_answered r = if r.answered then r.node ∷ [] else []

by_answer : (answered : Bool) (r : QueriedRouter) (kept : List QueriedRouter) → map (λ r. r.node) (if answered then r ∷ kept else kept) ≡ (if answered then r.node ∷ [] else []) ++ map (λ r. r.node) kept
by_answer true r kept = refl
by_answer false r kept = refl

answered_first : (r : QueriedRouter) (rs : List QueriedRouter) → answering_nodes (r ∷ rs) ≡ if_answered r ++ answering_nodes rs
answered_first r rs = by_answer r.answered r (filter (λ r. r.answered) rs)

answered_more : (rs : List QueriedRouter) (r : QueriedRouter) → answering_nodes (rs ++ r ∷ []) ≡ answering_nodes rs ++ if_answered r
answered_more [] r = answered_first r [] ∙ append-nil (if_answered r)
answered_more (q ∷ rs) r =
    answered_first q (rs ++ r ∷ []) ∙ ap (λ t. if_answered q ++ t) (answered_more rs r)
    ∙ sym (append_assoc (if_answered q) (answering_nodes rs) (if_answered r)) ∙ ap (λ t. t ++ if_answered r) (sym (answered_first q rs))

pub answers_more : (rs : List QueriedRouter) (i : ℕ) (d : QueriedRouter) (old new : List Node) → i < length rs → old ≡ answering_nodes (take i rs)
    → new ≡ old ++ if_answered (get_or rs i d) → new ≡ answering_nodes (take (i + 1) rs)
answers_more rs i d old new lt was is =
    is ∙ ap (λ t. t ++ if_answered (get_or rs i d)) was ∙ sym (answered_more (take i rs) (get_or rs i d)) ∙ ap answering_nodes (sym (take_more rs i d lt))

-- a column is as wide as one more text needs
wide_more : {X : Type 0} (f : X → List ℕ) (xs : List X) (x : X) → widest f (xs ++ x ∷ []) ≡ max (widest f xs) (length (f x))
wide_more f [] x = omega arith
wide_more f (y ∷ xs) x = omega (arith, wide_more f xs x)

pub width_more : {X : Type 0} (f : X → List ℕ) (xs : List X) (i : ℕ) (d : X) (old wide : ℕ) → i < length xs → old ≡ widest f (take i xs)
    → wide ≡ length (f (get_or xs i d)) → max old wide ≡ widest f (take (i + 1) xs)
width_more f xs i d old wide lt was is =
    rw (was, is) (sym (wide_more f (take i xs) (get_or xs i d)) ∙ ap (widest f) (sym (take_more xs i d lt)))

pub known_width_more : {X W : Type 0} (f : W → List ℕ) (g : X → W) (xs : List X) (i : ℕ) (d : X) (old wide : ℕ) → i < length xs → old ≡ widest f (map g (take i xs))
    → wide ≡ length (f (g (get_or xs i d))) → max old wide ≡ widest f (map g (take (i + 1) xs))
known_width_more f g xs i d old wide lt was is =
    rw (was, is) (sym (wide_more f (map g (take i xs)) (g (get_or xs i d)))
    ∙ ap (widest f) (sym (map-append g (take i xs) (get_or xs i d ∷ [])) ∙ ap (map g) (sym (take_more xs i d lt))))

-- times, and later ones
between_on : (from : ℕ) (ms ns : List ℕ) (mid to : ℕ) → PassBetween from ms mid → PassBetween mid ns to → PassBetween from (ms ++ ns) to
between_on from [] [] mid to h k = omega (arith, h, k)
between_on from [] (n ∷ ns) mid to h k = (omega (arith, h, k.0), k.1)
between_on from (m ∷ ms) ns mid to h k = (h.0, between_on m ms ns mid to h.1 k)

pub between_later : (from : ℕ) (ms : List ℕ) (mid to : ℕ) → PassBetween from ms mid → mid ≤ to → PassBetween from ms to
between_later from [] mid to h k = omega (arith, h, k)
between_later from (m ∷ ms) mid to h k = (h.0, between_later m ms mid to h.1 k)

-- the times that a clock returned lie between the one that it returned before and its last
pub told_between : {R : Type 0} (old new : SteadyClock R) (ms : List ℕ) → TellsMoments NeverGoesBack old new ms → PassBetween old.last ms new.last
told_between {R} old new [] h = omega (arith, ap (λ (c : SteadyClock R). c.last) h)
told_between old new (m ∷ ms) h = (h.1.0, subst (λ (from : ℕ). PassBetween from ms new.last) h.1.1 (told_between h.0 new ms h.2))

-- turns, followed by more turns, and a time after them
turns_after : (ts us : List Turn) (a b c : AskView) → Turns hears_answer AskGives 1 ts a b → Turns hears_answer AskGives 1 us b c → Turns hears_answer AskGives 1 (ts ++ us) a c
turns_after [] us a b c h k = subst (λ a. Turns hears_answer AskGives 1 us a c) h k
turns_after (t ∷ ts) us a b c h k = (h.0, h.1, turns_after ts us h.0 b c h.2 k)

pub turns_on : (ts us : List Turn) (from mid to : ℕ) (x y z : HostPort) (a b c : AskView) → AsksOn ts from mid x y a b → AsksOn us mid to y z b c → AsksOn (ts ++ us) from to x z a c
turns_on ts us from mid to x y z a b c h k = (
  turns_after ts us a b c h.0 k.0,
  subst (λ (ms : List ℕ). PassBetween from ms to) (sym (map-append (λ (t : Turn). t.moment) ts us)) (between_on from (moments_of ts) (moments_of us) mid to h.1 k.1),
  drives_after ts us x y z h.2 k.2,
)

pub turns_later : (ts : List Turn) (from mid to : ℕ) (x y : HostPort) (a b : AskView) → AsksOn ts from mid x y a b → mid ≤ to → AsksOn ts from to x y a b
turns_later ts from mid to x y a b h k = (h.0, between_later from (moments_of ts) mid to h.1 k, h.2)

-- what a host has done that was opened, and then asked until it was over
pub has_asked : (file : HostConfig) (question : TableQuery) (ts : List Turn) (x y : HostPort) (old new : AskView) (from last now : ℕ) → IsNewAsk (querier_address file) question (asked_nodes file) old
    → IsOpened file (guarded_querier file) x → from ≡ 0 → AsksOn ts from last x y old new → now ≡ last → is_ask_over new now ≡ true → HasAsked file question new now
has_asked file question ts x y old new from last now begins opens none asks is over = record {
  fresh = old;
  port = x;
  port_after = y;
  turns = ts;
  begins = begins;
  opens = opens;
  asks = subst (λ (n : ℕ). AsksOn ts 0 n x y old new) (sym is) (subst (λ (n : ℕ). AsksOn ts n last x y old new) none asks);
  over = over;
}

-- a command that succeeds ends with the status of the host that asked
pub status_of_host : (result status : ℕ) → (result ≡ 1) ⊎ (result ≡ status) → result ≡ 0 → status ≡ 0
status_of_host result status (inl one) zero = absurd (omega (arith, one, zero))
status_of_host result status (inr is) zero = sym is ∙ zero
