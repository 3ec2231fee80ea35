-- A call of receive with a recent packet of the peer is one `get` of the machine.
use Rattle.std.proofs.Common.{ℕ, ◌+◌, ◌-◌, ◌<◌, ◌≤◌, ◌≡◌, ◌≢◌, ◌==◌, Bool, true, false, cond, not, ◌&&◌, nat_le, nat_lt, max, List, [], ◌++◌, Option, Some, None, is_some, slice_get, length, map, drop, take, arith, refl, sym, ap, ◌∙◌, subst, leb-true, leb-false, ltb-true, ltb-false, lt-ltb, le-ltb, length-append, inl, inr, ⊎_elim, eqb-true, length-take}
use Rattle.std.proofs.lemmas.Bool.{not-true, cond_both, and_parts, and_cases, lt-leb, cond-true, cond-false, false_from_ne_true, cases_lt, cases_Bool, and_left, and_right}
use Rattle.std.proofs.lemmas.Bool.Decides.{nat_tests}
use Rattle.std.proofs.lemmas.List.{drop-append-le, drop-map, drop_all, length-map, drop-drop}
use Rattle.std.proofs.lemmas.Option.{slice_get_within}
use Rattle.ipx_wire.specs.declared.spx.packet.SpxHeader.{SpxHeader}
use Rattle.spx_link.specs.declared.unit.Unit.{Unit}
use Rattle.spx_link.specs.declared.state.State.{State}
use Rattle.spx_link.specs.declared.received.Received.{Received}
use Rattle.spx_link.specs.Limits.{most_units}
use Rattle.spx_link.specs.SequenceMarks.{mark, distance, acknowledged, room_after}
use Rattle.spx_link.specs.LinkView.{LinkView, free}
use Rattle.spx_link.specs.Units.{unit_in, unit_of}
use Rattle.spx_link.specs.Receive.{read_ack, read_limit, read_numbers, read_system, read_unit, read_packet, is_system, is_own, is_reply, joined_link, receive_at, receive_link, beyond_expected, put, is_taken, leading, any_end, keep_end, keep_units, settle}
use Rattle.spx_link.specs.Fresh.{IsRecentPacket}
use Rattle.spx_link.specs.Machine.{End, Packet, IsChain, IsWithin, WasSent, got, learned, risen, put_mark, is_marked, lead, is_awaited, AreSound}
use Rattle.spx_theory.specs.Tracks.{Tracks, Formed, core}
use Rattle.spx_theory.specs.Spelling.{Spells, Carries}
use Rattle.spx_theory.specs.PairSteps.{IsReadNow}
use Rattle.spx_theory.proofs.Slots.{length-put_mark, Fill, FormedUnits, lead-drop, map-put, marked-map, fill_put, fill_drop, leading_units, leading_end, lead_leading}
use Rattle.spx_link.specs.declared.state.State.TheVariants as S
use Rattle.spx_link.specs.declared.received.Received.TheVariants as R
use Rattle.spx_link.specs.Machine as M

abbrev pub based : ℕ → End → End
based ack c = record c { base = max c.base ack }

abbrev pub limited : ℕ → End → End
limited allows c = record c { limit = max c.limit allows }

taken_is : (next out number base ack sent : ℕ) → next ≡ mark sent → number ≡ mark ack → base + out ≡ sent → out ≤ 8192 → ack ≤ sent → sent < ack + 65536 - 8192 → base + acknowledged next out number ≡ max base ack
taken_is next out number base ack sent n m o w high near =
    cond_both (nat_le (distance number (distance next out)) out) (distance number (distance next out)) 0 (λ k. base + k ≡ max base ack)
    (λ yes. let le = leb-true _ _ yes in omega (arith, n, m, o, w, high, near, le))
    (λ no. let lt = leb-false _ _ no in omega (arith, n, m, o, w, high, near, lt))

pub taken_le : (next out number : ℕ) → acknowledged next out number ≤ out
taken_le next out number = cond_both (nat_le (distance number (distance next out)) out) (distance number (distance next out)) 0 (λ k. k ≤ out) (λ yes. leb-true _ _ yes) (λ no. omega arith)

pub ack_tracks : (l : LinkView) (c d : End) (ack number : ℕ) → Tracks (core l) c d → number ≡ mark ack → ack ≤ c.sent → c.sent < ack + 65536 - 8192
    → Tracks (core (read_ack number l)) (based ack c) d
ack_tracks l c d ack number t e high near =
    let k : ℕ = acknowledged l.next l.out number in
    let place : c.base + k ≡ max c.base ack = taken_is l.next l.out number c.base ack c.sent t.counts.next e t.counts.out t.counts.window high near in
    let le : k ≤ l.out = taken_le l.next l.out number in
    record {
      counts = record {
        next = t.counts.next;
        expected = t.counts.expected;
        out = omega (arith, place, le, t.counts.out);
        room = t.counts.room;
        held = t.counts.held;
        buffers = t.counts.buffers;
        window = omega (arith, t.counts.window);
        small = t.counts.small;
      };
      queue = sym (drop-map unit_of k l.queue) ∙ (ap (drop k) t.queue ∙ (drop-drop k c.base c.units ∙ ap (λ j. drop j c.units) place));
      held = t.held;
      kept = t.kept;
      open' = t.open';
      ahead = t.ahead;
      ended = t.ended;
      formed = t.formed;
    }

room_is : (next room number sent limit allows : ℕ) → next ≡ mark sent → number ≡ mark (allows + 65535) → sent + room ≡ limit → allows ≤ sent + 8192 → sent ≤ allows + 32767
    → sent + room_after next room number ≡ max limit allows
room_is next room number sent limit allows n m r high near =
    cond_both (nat_lt room (distance (number + 1) next) && nat_le (distance (number + 1) next) 16383) (distance (number + 1) next) room (λ k. sent + k ≡ max limit allows)
    (λ yes.
    let parts = and_parts _ _ yes in
    let lt : room < distance (number + 1) next = ltb-true _ _ parts.0 in
    let le : distance (number + 1) next ≤ 16383 = leb-true _ _ parts.1 in
    omega (arith, n, m, r, high, near, lt, le))
    (λ no. elim (and_cases _ _ no) [
      | inl x ↦ let le : distance (number + 1) next ≤ room = ltb-false _ _ x in omega (arith, n, m, r, high, near, le)
      | inr y ↦ let lt : 16383 < distance (number + 1) next = leb-false _ _ y in omega (arith, n, m, r, high, near, lt)
    ])

pub limit_tracks : (l : LinkView) (c d : End) (allows number : ℕ) → Tracks (core l) c d → number ≡ mark (allows + 65535) → allows ≤ c.sent + 8192 → c.sent ≤ allows + 32767
    → Tracks (core (read_limit number l)) (limited allows c) d
limit_tracks l c d allows number t e high near =
    record {
      counts = record {
        next = t.counts.next;
        expected = t.counts.expected;
        out = t.counts.out;
        room = room_is l.next l.room number c.sent c.limit allows t.counts.next e t.counts.room high near;
        held = t.counts.held;
        buffers = t.counts.buffers;
        window = t.counts.window;
        small = t.counts.small;
      };
      queue = t.queue;
      held = t.held;
      kept = t.kept;
      open' = t.open';
      ahead = t.ahead;
      ended = t.ended;
      formed = t.formed;
    }

pub hears : (l : LinkView) (h : SpxHeader) (c d : End) (p : Packet) → Tracks (core l) c d → IsChain c d → WasSent d c p → d.buffers ≤ most_units → IsRecentPacket c d p → Spells p h
    → Tracks (core (read_numbers l h)) (learned p c) d
hears l h c d p t chain was small fresh says =
    let one : Tracks (core (read_ack h.ack l)) (based p.read c) d = ack_tracks l c d p.read h.ack t says.ack (omega (arith, was.reads_sent, was.receiver_sent)) (omega (arith, was.spread, was.allows_sent, was.reads_sent, fresh.receiver, small)) in
    limit_tracks (read_ack h.ack l) (based p.read c) d p.allows h.limit one says.limit (omega (arith, was.spread, was.reads_sent, was.receiver_sent, small)) (omega (arith, was.allows_sent, fresh.receiver))

-- ---- units
formed_units : (d : End) (closed : Bool) → Formed d.units closed → FormedUnits d.units closed
formed_units d closed f k u at = (f.stream k u at, λ e. f.end k u at e)

pub unit_same : (h : SpxHeader) (body : List ℕ) (n : ℕ) (d : End) (closed : Bool) → Formed d.units closed → slice_get d.units n ≡ Some (record { stream = h.stream; last = h.last; body = record { items = body } })
    → slice_get d.units n ≡ Some (unit_in h body)
unit_same h body n d closed shut is =
    let u : Unit = record { stream = h.stream; last = h.last; body = record { items = body } } in
    cond_both (h.stream == 254) [] body (λ bs. slice_get d.units n ≡ Some (record { stream = h.stream; last = h.last; body = record { items = bs } }))
    (λ yes.
    let same = (shut.end n u is (eqb-true _ _ yes)).2 in
    let empty : body ≡ [] = ap (λ (w : Unit). w.body.items) same in
    is ∙ ap (λ bs. Some (record { stream = h.stream; last = h.last; body = record { items = bs } })) empty)
    (λ other. is)

pub record Filled (l : LinkView) (ahead : List (Option Unit)) (c d : End) (closed : Bool) : Type 0 where
  pub tracks : Tracks (core l) c d
  pub fill : Fill ahead d.units c.read
  pub fits : c.read + length ahead ≤ length d.units
  pub shut : Formed d.units closed
  pub open' : l.peer_ended ≡ false

pub settled_tracks : (l : LinkView) (ahead : List (Option Unit)) (c d : End) (closed : Bool) → Filled l ahead c d closed
    → Tracks (core (settle l ahead).1) (risen (map is_some ahead) c) d
settled_tracks l ahead c d closed f =
    let t : Tracks (core l) c d = f.tracks in
    let us : List Unit = leading ahead in
    let fu : FormedUnits d.units closed = formed_units d closed f.shut in
    let n : lead (map is_some ahead) ≡ length us = lead_leading ahead d.units closed c.read f.fill fu f.fits in
    let upto : take (c.read + lead (map is_some ahead)) d.units ≡ take c.read d.units ++ us = ap (λ k. take (c.read + k) d.units) n ∙ leading_units ahead d.units c.read f.fill in
    let le : c.taken ≤ length (take c.read d.units) = omega (arith, length-take c.read d.units, t.counts.held, f.fits) in
    let held : l.held ++ us ≡ drop c.taken (take (c.read + lead (map is_some ahead)) d.units) =
    ap (λ xs. xs ++ us) t.held ∙ (sym (drop-append-le c.taken (take c.read d.units) us le) ∙ ap (drop c.taken) (sym upto)) in
    let more : length (l.held ++ us) ≡ length l.held + length us = length-append l.held us in
    let expected : mark (l.expected + length us) ≡ mark (c.read + lead (map is_some ahead)) = omega (arith, t.counts.expected, n) in
    let counts = t.counts in
    cond_both {A = Received × LinkView} (any_end us) (R.PeerEnded, keep_end l us) (R.Kept, keep_units l us ahead) (λ r. Tracks (core r.1) (risen (map is_some ahead) c) d)
    (λ yes.
    let facts = leading_end ahead d.units closed c.read f.fill fu yes in
    record {
      counts = record { next = counts.next; expected = expected; out = counts.out; room = counts.room; held = omega (arith, counts.held, more, n); buffers = counts.buffers; window = counts.window; small = counts.small };
      queue = t.queue;
      held = held;
      kept = drop_all (lead (map is_some ahead)) (map is_some ahead) (omega (arith, facts.1, f.fits, n, length-map ahead is_some));
      open' = lead-drop (map is_some ahead);
      ahead = λ k u at. absurd (cc at);
      ended = λ e. (subst (λ b. Formed d.units b) facts.0 f.shut, omega (arith, facts.1, n));
      formed = t.formed;
    })
    (λ other.
    record {
      counts = record { next = counts.next; expected = expected; out = counts.out; room = counts.room; held = omega (arith, counts.held, more, n); buffers = counts.buffers; window = counts.window; small = counts.small };
      queue = t.queue;
      held = held;
      kept = ap (λ k. drop k (map is_some ahead)) n ∙ drop-map is_some (length us) ahead;
      open' = lead-drop (map is_some ahead);
      ahead = λ k u at. ap (λ i. slice_get d.units (c.read + i + k)) n ∙ fill_drop (length us) ahead d.units c.read f.fill k u at;
      ended = λ e. absurd (cc (e, f.open'));
      formed = t.formed;
    })

pub unkept : (l : LinkView) (h : SpxHeader) (body : List ℕ) → ((nat_lt (beyond_expected l h) (free l) && not (is_taken (beyond_expected l h) l.ahead)) ≡ false) → core (read_unit l h body).1 ≡ core l
unkept l h body out = grind (arith, nat_tests)

pub kept_here : (l : LinkView) (h : SpxHeader) (body : List ℕ) (k : ℕ) → beyond_expected l h ≡ k → k < 32768 → l.peer_ended ≡ false → k < free l → is_taken k l.ahead ≡ false
    → read_unit l h body ≡ settle l (put k (unit_in h body) l.ahead)
kept_here l h body k e small open' room gap =
    let not_back : nat_le 32768 (beyond_expected l h) ≡ false = lt-leb 32768 (beyond_expected l h) (omega arith) in
    let within : nat_lt (beyond_expected l h) (free l) ≡ true = lt-ltb _ _ (omega arith) in
    let free' : is_taken (beyond_expected l h) l.ahead ≡ false = ap (λ i. is_taken i l.ahead) e ∙ gap in
    cond-false _ _ _ not_back ∙ (cond-false _ _ _ open' ∙ (cond-true _ _ _ within ∙ (cond-false _ _ _ free' ∙ ap (λ i. settle l (put i (unit_in h body) l.ahead)) e)))

pub reads_unit : (l : LinkView) (h : SpxHeader) (body : List ℕ) (n : ℕ) (c d : End) (closed : Bool) → Tracks (core l) c d → Formed d.units closed → c.read + length c.kept ≤ length d.units
    → Carries (Some n) d.units h body → c.read ≤ n + 8192 + 32767 → n < c.read + 32768
    → Tracks (core (read_unit l h body).1) (M.read_unit (Some n) c) d
reads_unit l h body n c d closed t shut fits has low high =
    let k : ℕ = n - c.read in
    let marked : is_marked k c.kept ≡ is_taken k l.ahead = ap (is_marked k) t.kept ∙ marked-map k l.ahead in
    ⊎_elim
    (λ (yes : is_awaited c n ≡ true).
    let parts = and_parts _ _ yes in
    let above : c.read ≤ n = leb-true _ _ parts.0 in
    let roomy : n < c.taken + c.buffers = ltb-true _ _ (and_parts _ _ parts.1).0 in
    let gap : is_marked k c.kept ≡ false = not-true (is_marked k c.kept) (and_parts (nat_lt n (c.taken + c.buffers)) (not (is_marked k c.kept)) parts.1).1 in
    let is : slice_get d.units (c.read + k) ≡ Some (unit_in h body) = ap (slice_get d.units) (omega arith) ∙ unit_same h body n d closed shut has.2 in
    let within : n < length d.units = slice_get_within d.units n _ has.2 in
    let open' : l.peer_ended ≡ false = false_from_ne_true l.peer_ended (λ ended. absurd (omega (arith, within, above, (t.ended ended).1))) in
    let place : beyond_expected l h ≡ k = omega (arith, has.1, t.counts.expected, above, high) in
    let small : k < 32768 = omega (arith, above, high) in
    let room : k < free l = omega (arith, t.counts.held, t.counts.buffers, above, roomy) in
    let put' : List (Option Unit) = put k (unit_in h body) l.ahead in
    let same : map is_some put' ≡ put_mark k c.kept = map-put k (unit_in h body) l.ahead ∙ ap (put_mark k) (sym t.kept) in
    let long : length put' ≡ max (k + 1) (length c.kept) = sym (length-map put' is_some) ∙ (ap length same ∙ length-put_mark k c.kept) in
    let f : Filled l put' c d closed = record { tracks = t; fill = fill_put k (unit_in h body) l.ahead d.units c.read t.ahead is; fits = omega (arith, long, within, above, fits); shut = shut; open' = open' } in
    subst (λ r. Tracks (core r.1) (M.read_unit (Some n) c) d) (sym (kept_here l h body k place small open' room (sym marked ∙ gap)))
    (subst (λ x. Tracks (core (settle l put').1) x d) (sym (cond-true _ _ _ yes))
    (subst (λ ks. Tracks (core (settle l put').1) (risen ks c) d) same (settled_tracks l put' c d closed f))))
    (λ (other : is_awaited c n ≡ false).
    let out : (nat_lt (beyond_expected l h) (free l) && not (is_taken (beyond_expected l h) l.ahead)) ≡ false =
    ⊎_elim
    (λ (behind : n < c.read).
    let far : free l ≤ beyond_expected l h = omega (arith, has.1, t.counts.expected, t.counts.small, t.counts.buffers, behind, low) in
    and_left _ _ (le-ltb _ _ far))
    (λ (above : c.read ≤ n).
    let place : beyond_expected l h ≡ k = omega (arith, has.1, t.counts.expected, above, high) in
    ⊎_elim
    (λ (roomy : n < c.taken + c.buffers).
    let kept : is_marked k c.kept ≡ true = grind (arith, nat_tests) in
    and_right _ _ (ap not (ap (λ i. is_taken i l.ahead) place ∙ (sym marked ∙ kept))))
    (λ (past : c.taken + c.buffers ≤ n).
    let far : free l ≤ beyond_expected l h = omega (arith, place, t.counts.held, t.counts.buffers, past, above) in
    and_left _ _ (le-ltb _ _ far))
    (cases_lt n (c.taken + c.buffers)))
    (cases_lt n c.read) in
    subst (λ x. Tracks x (M.read_unit (Some n) c) d) (sym (unkept l h body out))
    (subst (λ x. Tracks (core l) x d) (sym (cond-false _ _ _ other)) t))
    (cases_Bool (is_awaited c n))

-- ---- a packet
pub system_stays : (l : LinkView) (h : SpxHeader) → core (read_system l h).1 ≡ core l
system_stays l h = grind (arith, nat_tests)

pub plain_got : (h : SpxHeader) (body : List ℕ) (units : List Unit) (o : Option ℕ) (c : End) → Carries o units h body → is_system h ≡ true → M.read_unit o c ≡ c
plain_got h body units None c has sys = refl
plain_got h body units (Some n) c has sys = absurd (cc (has.0, sys))

pub reads_rest : (l : LinkView) (h : SpxHeader) (body : List ℕ) (o : Option ℕ) (own : ℕ) (c d : End) (closed : Bool) → Tracks (core l) c d → Formed d.units closed
    → IsChain d c → IsWithin c d → IsWithin d c → d.buffers ≤ 8192 → c.buffers ≤ 8192
    → Carries o d.units h body → own ≤ d.sent → d.sent < own + 32768 → ((n : ℕ) → o ≡ Some n → n < own) → ((n : ℕ) → o ≡ Some n → own ≤ n + c.buffers)
    → Tracks (core (cond {A = Received × LinkView} (is_system h) (read_system l h) (read_unit l h body)).1) (M.read_unit o c) d
reads_rest l h body None own c d closed t shut chain within peer small small' has past fresh below near =
    subst (λ r. Tracks (core r.1) c d) (sym (cond-true (is_system h) (read_system l h) (read_unit l h body) has))
    (subst (λ x. Tracks x c d) (sym (system_stays l h)) t)
reads_rest l h body (Some n) own c d closed t shut chain within peer small small' has past fresh below near =
    let b : n < own = below n refl in
    let close : own ≤ n + c.buffers = near n refl in
    subst (λ r. Tracks (core r.1) (M.read_unit (Some n) c) d) (sym (cond-false (is_system h) (read_system l h) (read_unit l h body) has.0))
    (reads_unit l h body n c d closed t shut (omega (arith, within.kept, peer.sent)) has (omega (arith, chain.read, past, fresh, close, small'))
    (omega (arith, b, past, chain.sent, chain.limit, within.taken, small')))

pub reads_all : (l : LinkView) (h : SpxHeader) (body : List ℕ) (q : Packet) (c d : End) → IsReadNow l h body q c d → (t : Tracks (core l) c d) → Tracks (core (read_packet l h body).1) (got q c) d
reads_all l h body q c d r t =
    let now : Tracks (core (read_numbers l h)) (learned q c) d = hears l h c d q t r.line.there r.was r.small r.fresh r.spells in
    let chain : IsChain d (learned q c) = record { base = r.line.back.base; read = r.line.back.read; sent = r.line.back.sent; limit = r.line.back.limit } in
    let within : IsWithin (learned q c) d = record { limit = omega (arith, r.line.within, r.was.spread, r.was.read); taken = r.line.within.taken; held = r.line.within.held; sent = r.line.within.sent; read = r.line.within.read; kept = r.line.within.kept } in
    let peer : IsWithin d (learned q c) = record { limit = r.line.peer_within.limit; taken = r.line.peer_within.taken; held = r.line.peer_within.held; sent = r.line.peer_within.sent; read = r.line.peer_within.read; kept = r.line.peer_within.kept } in
    reads_rest (read_numbers l h) h body q.position q.sender_sent (learned q c) d r.formed.0 now r.formed.1 chain within peer r.small t.counts.small
    r.carries r.was.sender_sent r.fresh.sender r.was.position r.was.outstanding

pub joins_all : (l : LinkView) (h : SpxHeader) (body : List ℕ) (q : Packet) (c d : End) → IsReadNow l h body q c d → is_reply l h ≡ true → Tracks (core (read_numbers (joined_link l h) h)) (got q c) d
joins_all l h body q c d r j =
    let t : Tracks (core (joined_link l h)) c d = r.follows.tracks in
    let now : Tracks (core (read_numbers (joined_link l h) h)) (learned q c) d = hears (joined_link l h) h c d q t r.line.there r.was r.small r.fresh r.spells in
    subst (λ x. Tracks (core (read_numbers (joined_link l h) h)) x d) (sym (plain_got h body d.units q.position (learned q c) r.carries (reply_system l h j))) now
  where
    reply_system : (m : LinkView) (k : SpxHeader) → is_reply m k ≡ true → is_system k ≡ true
    reply_system m k is = grind (arith, nat_tests)

where_read : (P : Received × LinkView → Type 0) (b : Bool) (x : Received × LinkView) (l : LinkView) → ((cond {A = Received × LinkView} b x (R.Stranger, l)).0 ≡ R.Stranger → ⊥) → (b ≡ true → P x) → P (cond b x (R.Stranger, l))
where_read P true x l read holds = holds refl
where_read P false x l read holds = absurd (read refl)

pub receives_at : (s : State) (l : LinkView) (h : SpxHeader) (body : List ℕ) (q : Packet) (c d : End) → IsReadNow l h body q c d
    → ((receive_at s l h body).0 ≡ R.Stranger → ⊥) → Tracks (core (receive_at s l h body).1) (got q c) d
receives_at S.Opening l h body q c d r read = where_read (λ x. Tracks (core x.1) (got q c) d) (is_reply l h) (R.Joined, read_numbers (joined_link l h) h) l read (λ j. joins_all l h body q c d r j)
receives_at S.Live l h body q c d r read = where_read (λ x. Tracks (core x.1) (got q c) d) (is_own l h) (read_packet l h body) l read (λ o. reads_all l h body q c d r r.follows.tracks)
receives_at S.Ending l h body q c d r read = where_read (λ x. Tracks (core x.1) (got q c) d) (is_own l h) (read_packet l h body) l read (λ o. reads_all l h body q c d r r.follows.tracks)
receives_at S.PeerEnded l h body q c d r read = where_read (λ x. Tracks (core x.1) (got q c) d) (is_own l h) (read_packet l h body) l read (λ o. reads_all l h body q c d r r.follows.tracks)
receives_at S.Confirmed l h body q c d r read = where_read (λ x. Tracks (core x.1) (got q c) d) (is_own l h) (read_packet l h body) l read (λ o. reads_all l h body q c d r r.follows.tracks)
receives_at S.Lost l h body q c d r read = absurd (read refl)

pub receives_tracks : (l : LinkView) (h : SpxHeader) (body : List ℕ) (q : Packet) (c d : End) → IsReadNow l h body q c d
    → (receive_link l h body).0 ≢ R.Stranger → Tracks (core (receive_link l h body).1) (got q c) d
receives_tracks l h body q c d r read = receives_at l.state l h body q c d r read
