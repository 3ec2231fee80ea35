-- What grows as a host pings: the turns, the events after them, and the times of answers.
use Rattle.std.proofs.Common.{◌≡◌, ◌<◌, ◌≤◌, ℕ, ◌+◌, List, ◌++◌, [], ◌∷◌, length, take, get_or, min, max, sym, subst, ap, ◌∙◌, refl, arith, Option, true}
use Rattle.std.specs.Io.KnownBytes.{Appends}
use Rattle.std.proofs.KnownBytes.{Appends-nil, Appends-trans}
use Rattle.std.proofs.lemmas.List.{append-nil, append_assoc, flat_map_more, length-take, take_more}
use Rattle.ipx_wire.specs.declared.address.Address.{Address}
use Rattle.ipx_carrier.specs.Mapping.{node_at}
use Rattle.ipx_carrier.specs.Turns.{IsTurn}
use Rattle.ipx_query.specs.PingEnds.{is_ping_over, new_ping}
use Rattle.ipx_query.specs.PingRequests.{PingGives}
use Rattle.ipx_query.specs.declared.ping_core.PingCore.{PingCore}
use Rattle.ipx_config.specs.declared.host.HostConfig.{HostConfig}
use Rattle.ipx_sockets.specs.PortTurns.{DrivesPort, HostPort}
use Rattle.ipx_query_cmd.specs.PingLines.{least_time, most_time, news_text, news_times, ping_end_text, ping_news, whole_time}
use Rattle.ipx_query_cmd.specs.PingRuns.{HasPinged, IsPingTurn, PingTurn, PingsOn, hears_reply, lines_printed, ping_id, pinged_lines, times_printed}
use Rattle.ipx_query_cmd.specs.PingTargets.{guarded_pinger}
use Rattle.ipx_query_cmd.specs.QueryPorts.{IsOpened}
use Rattle.ipx_query_cmd.specs.QueryTargets.{querier_address}
use Rattle.ipx_query_cmd.specs.declared.ping_event.PingEvent.{PingEvent}

-- one more turn of a host that pings
pings_more : (ts : List PingTurn) (t : PingTurn) (from mid to : ℕ) (x y z : HostPort) (a b c : PingCore) → PingsOn ts from mid x y a b → IsPingTurn t mid to y z b c → PingsOn (ts ++ t ∷ []) from to x z a c
pings_more [] t from mid to x y z a b c h k = (
  c,
  to,
  z,
  record {
    turns = subst (λ (p : PingCore). IsTurn hears_reply PingGives 1 t.turn p c) h.0 k.turns;
    drives = subst (λ (p : HostPort). DrivesPort p t.turn z) h.2 k.drives;
    after = omega (arith, h.1, k.after);
    before = k.before;
    tenths = k.tenths;
    news = subst (λ (p : PingCore). t.news ≡ ping_news p c k.tenths) h.0 k.news;
  },
  (refl, omega arith, refl),
)
pings_more (u ∷ us) t from mid to x y z a b c h k = (h.0, h.1, h.2, h.3, pings_more us t h.1 mid to h.2 y z h.0 b c h.4 k)

-- a turn, its line and its time, at a later time
pub turn_told : (t : PingTurn) (news : Option PingEvent) (from mid now : ℕ) (x y : HostPort) (a b : PingCore) (times kept more : List ℕ) (to at : Address) (w v : Option (List ℕ)) → news ≡ t.news
    → IsPingTurn t from mid x y a b → mid ≤ now → kept ≡ times → more ≡ kept ++ news_times news → at ≡ to → Appends w v (news_text at news)
    → IsPingTurn t from now x y a b × (more ≡ times ++ news_times t.news) × Appends w v (news_text to t.news)
turn_told t news from mid now x y a b times kept more to at w v is turn later same grows there told = (
  record {
    turns = turn.turns;
    drives = turn.drives;
    after = turn.after;
    before = omega (arith, turn.before, later);
    tenths = turn.tenths;
    news = turn.news;
  },
  grows ∙ ap (λ ts. ts ++ news_times news) same ∙ ap (λ (n : Option PingEvent). times ++ news_times n) is,
  subst (λ (n : Option PingEvent). Appends w v (news_text to n)) is (subst (λ (it : Address). Appends w v (news_text it news)) there told),
)

-- from one state of such a host to another these turns were taken, their times recorded and their lines
-- written
pub record PingsSoFar (to : Address) (ts : List PingTurn) (from now : ℕ) (x y : HostPort) (a b : PingCore) (times more : List ℕ) (w v : Option (List ℕ)) : Type 0 where
  pub pings : PingsOn ts from now x y a b
  pub kept : more ≡ times ++ times_printed ts
  pub told : Appends w v (lines_printed to ts)

pub none_so_far : (to : Address) (from : ℕ) (x : HostPort) (a : PingCore) (times : List ℕ) (w : Option (List ℕ)) → PingsSoFar to [] from from x x a a times times w w
none_so_far to from x a times w = record { pings = (refl, omega arith, refl); kept = sym (append-nil times); told = Appends-nil w }

pub one_more_turn : (to : Address) (ts : List PingTurn) (t : PingTurn) (from mid now : ℕ) (x y z : HostPort) (a b c : PingCore) (times some more : List ℕ) (w v u : Option (List ℕ))
    → PingsSoFar to ts from mid x y a b times some w v → IsPingTurn t mid now y z b c → more ≡ some ++ news_times t.news → Appends v u (news_text to t.news)
    → PingsSoFar to (ts ++ t ∷ []) from now x z a c times more w u
one_more_turn to ts t from mid now x y z a b c times some more w v u h k kept told = record {
  pings = pings_more ts t from mid now x y z a b c h.pings k;
  kept =
      kept ∙ ap (λ xs. xs ++ news_times t.news) h.kept ∙ append_assoc times (times_printed ts) (news_times t.news)
      ∙ ap (λ xs. times ++ xs) (flat_map_more (λ (p : PingTurn). news_times p.news) [] ts t);
  told = subst (Appends w u) (flat_map_more (λ (p : PingTurn). news_text to p.news) [] ts t) (Appends-trans w v u (lines_printed to ts) (news_text to t.news) h.told told);
}

-- what a host has done that was opened, and then pinged until it was over
pub has_pinged : (file : HostConfig) (to : Address) (count : ℕ) (ts : List PingTurn) (x y : HostPort) (old new : PingCore) (from last now : ℕ) → IsOpened file (guarded_pinger file to) x
    → old ≡ new_ping (querier_address file) (node_at file.router) to ping_id count
    → from ≡ 0 → PingsOn ts from last x y old new → now ≡ last → is_ping_over new now ≡ true → HasPinged file to count ts new now
has_pinged file to count ts x y old new from last now opens fresh none pings is over =
    let begun = subst (λ (p : PingCore). PingsOn ts from last x y p new) fresh pings in
    let at_first = subst (λ (n : ℕ). PingsOn ts n last x y (new_ping (querier_address file) (node_at file.router) to ping_id count) new) none begun in
    record {
      port = x;
      port_after = y;
      opens = opens;
      pings = subst (λ (n : ℕ). PingsOn ts 0 n x y (new_ping (querier_address file) (node_at file.router) to ping_id count) new) (sym is) at_first;
      over = over;
    }

-- and all that is printed of it
pub all_lines : (to old new : Address) (ts : List PingTurn) (core : PingCore) (before times : List ℕ) (w v u : Option (List ℕ)) → old ≡ to → new ≡ old → before ≡ []
    → times ≡ before ++ times_printed ts → Appends w v (lines_printed old ts) → Appends v u (ping_end_text new core times) → Appends w u (pinged_lines to ts core)
all_lines to old new ts core before times w v u same again none kept told ended =
    let all : times ≡ times_printed ts = kept ∙ ap (λ xs. xs ++ times_printed ts) none in
    let first = subst (λ (at : Address). Appends w v (lines_printed at ts)) same told in
    let last = subst (λ (at : Address). Appends v u (ping_end_text at core times)) (again ∙ same) ended in
    Appends-trans w v u (lines_printed to ts) (ping_end_text to core (times_printed ts)) first (subst (λ (xs : List ℕ). Appends v u (ping_end_text to core xs)) all last)

-- one more time
min_three : (a b c : ℕ) → min a (min b c) ≡ min (min a b) c
min_three a b c = omega arith

least_more : (xs : List ℕ) (x : ℕ) → 0 < length xs → least_time (xs ++ x ∷ []) ≡ min (least_time xs) x
least_more [] x some = absurd (omega (arith, some))
least_more (y ∷ []) x some = refl
least_more (y ∷ z ∷ zs) x some = ap (λ n. min y n) (least_more (z ∷ zs) x (omega arith)) ∙ min_three y (least_time (z ∷ zs)) x

pub least_first : (xs : List ℕ) (i d new : ℕ) → i < length xs → i ≡ 0 → new ≡ get_or xs i d → new ≡ least_time (take (i + 1) xs)
least_first xs i d new lt none is =
    is ∙ sym (ap (λ n. least_time (take n xs ++ get_or xs i d ∷ [])) none) ∙ ap least_time (sym (take_more xs i d lt))

pub least_next : (xs : List ℕ) (i d old new : ℕ) → i < length xs → 0 < i → old ≡ least_time (take i xs) → new ≡ min old (get_or xs i d) → new ≡ least_time (take (i + 1) xs)
least_next xs i d old new lt some was is =
    is ∙ ap (λ n. min n (get_or xs i d)) was ∙ sym (least_more (take i xs) (get_or xs i d) (omega (arith, length-take i xs, lt, some)))
    ∙ ap least_time (sym (take_more xs i d lt))

most_more : (xs : List ℕ) (x : ℕ) → most_time (xs ++ x ∷ []) ≡ max (most_time xs) x
most_more [] x = omega arith
most_more (y ∷ xs) x = omega (arith, most_more xs x)

pub most_step : (xs : List ℕ) (i d old new : ℕ) → i < length xs → old ≡ most_time (take i xs) → new ≡ max old (get_or xs i d) → new ≡ most_time (take (i + 1) xs)
most_step xs i d old new lt was is = is ∙ ap (λ n. max n (get_or xs i d)) was ∙ sym (most_more (take i xs) (get_or xs i d)) ∙ ap most_time (sym (take_more xs i d lt))

whole_more : (xs : List ℕ) (x : ℕ) → whole_time (xs ++ x ∷ []) ≡ whole_time xs + x
whole_more [] x = omega arith
whole_more (y ∷ xs) x = omega (arith, whole_more xs x)

pub whole_step : (xs : List ℕ) (i d old : ℕ) → i < length xs → old ≡ whole_time (take i xs) → old + get_or xs i d ≡ whole_time (take (i + 1) xs)
whole_step xs i d old lt was = ap (λ n. n + get_or xs i d) was ∙ sym (whole_more (take i xs) (get_or xs i d)) ∙ ap whole_time (sym (take_more xs i d lt))
