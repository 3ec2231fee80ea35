-- During the packets that a paced link gives at one time and its peer reads at once: what is true from packet to
-- packet, whatever the plans are.
use Rattle.std.proofs.Common.{ℕ, ◌+◌, ◌-◌, ◌<◌, ◌≤◌, ◌≡◌, ◌⊎◌, ◌&&◌, ◌==◌, true, false, length, take, Some, Option, sym, ap, ◌∙◌, subst, inl, inr, ⊎_elim, arith, slice_get}
use Rattle.std.proofs.lemmas.Bool.{cases_Bool, cases_lt, cond-true, eq-eqb}
use Rattle.ipx_wire.specs.declared.spx.packet.SpxHeader.{SpxHeader}
use Rattle.spx_link.specs.declared.queue.Queued.{Queued}
use Rattle.spx_link.specs.declared.outgoing.Sent.{Sent}
use Rattle.spx_link.specs.declared.outgoing.Sent.TheVariants as Sents
use Rattle.spx_link.specs.ByClock.{IsUnpaced}
use Rattle.spx_link.specs.Limits.{most_manual_probes, most_sends}
use Rattle.spx_link.specs.LinkView.{LinkView}
use Rattle.spx_link.specs.LinkTurns.{is_joined}
use Rattle.spx_link.specs.Machine.{End, Packet, AreSound, learned, read_unit, got, packet_now}
use Rattle.spx_link.specs.Poll.{OutgoingView, count_again}
use Rattle.spx_link.specs.Receive.{is_own, is_system, receive_link}
use Rattle.spx_theory.specs.LinkLaws.{LinkLaws}
use Rattle.spx_theory.specs.Named.{AreNamed}
use Rattle.spx_theory.specs.Tracks.{Follows, IsOpen}
use Rattle.spx_theory.proofs.Amid.{Unread, unpaced_as}
use Rattle.spx_theory.proofs.Entries.{Told, carries_unit, owes_on, position_low}
use Rattle.spx_theory.proofs.Having.{Has, has_got}
use Rattle.spx_theory.proofs.Hearers.{Fed, HeardBy, fed_got, heard_on}
use Rattle.spx_theory.proofs.Hearing.{HoldsMore, MoreHeld, Owes, Reads, StateAfter, no_end, owes_by_confirm, reads, stays_joined}
use Rattle.spx_theory.proofs.RoundLists.{get_set, slice_get-behind, slice_get-drop, slice_get-take}
use Rattle.spx_theory.proofs.RoundPackets.{Grew, Spoken, PositionIs, Heard, heard, peer_follows}
use Rattle.spx_theory.proofs.RoundPolls.{Gave, KindOf, Owed}
use Rattle.theory_processes.proofs.Unpacing.{paced, unpaced}

-- no outstanding unit was sent ten times
abbrev pub SentFew : LinkView → Type 0
SentFew l = (k : ℕ) (q : Queued) → k < l.out → slice_get l.queue k ≡ Some q → q.count < most_sends

-- during what a0 gives at a time, which b0 reads
pub record Amid (now : ℕ) (a0 b0 : LinkView) (c0 d0 : End) (a b : LinkView) (c d : End) : Type 0 where
  pub first : Follows a c d
  pub second : Follows b d c
  pub line : AreSound c d
  pub grew : Grew c0 c
  pub fed : Fed d0 d
  pub state : a.state ≡ a0.state
  pub own : a.own ≡ a0.own
  pub peer : a.peer ≡ a0.peer
  pub queued : a.end_queued ≡ a0.end_queued
  pub ended_a : a.peer_ended ≡ a0.peer_ended
  pub spoke : a.spoke ≤ now
  pub hears : HeardBy b0 b
  pub joined : is_joined b.state ≡ true
  pub counts : SentFew a
  pub probes : (a.probes < most_manual_probes) ⊎ ((a.spoke ≡ now) × Owes b)
  pub ended : b.peer_ended ≡ true → Owes b ⊎ (length c.units ≤ c.base)
  pub gave : ((unpaced a ≡ unpaced a0) × (b ≡ b0)) ⊎ Told c b d
  pub owed : Owed a → Owed a0
  pub asks : (unpaced a ≡ unpaced a0) ⊎ Owes b ⊎ Owed a0
  pub unread : Unread b0 c0 d0 → Unread b c d
  pub pace_b : IsUnpaced b

pub follows_as : (a k : LinkView) (c d : End) → unpaced k ≡ unpaced a → Follows a c d → Follows k c d
follows_as a k c d same f =
    let g : Follows (unpaced a) c d = record { tracks = f.tracks; open' = f.open' } in
    let h : Follows (unpaced k) c d = subst (λ (l : LinkView). Follows l c d) (sym same) g in
    record { tracks = h.tracks; open' = h.open' }

-- a plan changes nothing of it
pub planned : (now : ℕ) (a0 b0 : LinkView) (c0 d0 : End) (a b : LinkView) (c d : End) (window : ℕ) (place : Option ℕ) → Amid now a0 b0 c0 d0 a b c d → Amid now a0 b0 c0 d0 (paced window place a) b c d
planned now a0 b0 c0 d0 a b c d window place mid =
    record {
      first = record { tracks = mid.first.tracks; open' = mid.first.open' };
      second = mid.second;
      line = mid.line;
      grew = mid.grew;
      fed = mid.fed;
      state = mid.state;
      own = mid.own;
      peer = mid.peer;
      queued = mid.queued;
      ended_a = mid.ended_a;
      spoke = mid.spoke;
      hears = mid.hears;
      joined = mid.joined;
      counts = mid.counts;
      probes = mid.probes;
      ended = mid.ended;
      gave = mid.gave;
      owed = mid.owed;
      asks = mid.asks;
      unread = mid.unread;
      pace_b = mid.pace_b;
    }

-- ---- a packet

probes_on : (what : Sent) (now : ℕ) (a m b b' : LinkView) (g : OutgoingView) → Gave a now g m → KindOf what a now g m → (Owes b → Owes b') → (g.header.wants_ack ≡ true → is_system g.header ≡ true → Owes b')
    → (a.probes < most_manual_probes) ⊎ ((a.spoke ≡ now) × Owes b) → (m.probes < most_manual_probes) ⊎ ((m.spoke ≡ now) × Owes b')
probes_on what now a m b b' g gave kind on answers was = by what kind
  where
    on_same : m.probes ≡ a.probes → (m.probes < most_manual_probes) ⊎ ((m.spoke ≡ now) × Owes b')
    on_same same = elim was [ inl few ↦ inl (omega (arith, few, same)) | inr owes ↦ inr (gave.spoke, on owes.1) ]

    by : (what : Sent) → KindOf what a now g m → (m.probes < most_manual_probes) ⊎ ((m.spoke ≡ now) × Owes b')
    by Sents.Request kind = absurd kind
    by Sents.Reply kind = on_same kind.probes
    by Sents.Confirm kind = on_same kind.probes
    by Sents.Unit kind = on_same kind.probes
    by Sents.Again kind = on_same kind.probes
    by Sents.Ack kind = on_same kind.probes
    by Sents.Probe kind = inr (gave.spoke, answers kind.asks kind.system)

grew_on : (c d e : End) → Grew c d → Grew d e → Grew c e
grew_on c d e one two =
    record { base = two.base ∙ one.base; sent = omega (arith, one.sent, two.sent); limit = two.limit ∙ one.limit; read = two.read ∙ one.read; taken = two.taken ∙ one.taken; buffers = two.buffers ∙ one.buffers; units = two.units ∙ one.units }

fed_on : (c d e : End) → Fed c d → Fed d e → Fed c e
fed_on c d e one two =
    record { sent = two.sent ∙ one.sent; taken = two.taken ∙ one.taken; buffers = two.buffers ∙ one.buffers; units = two.units ∙ one.units; base = omega (arith, one.base, two.base); limit = omega (arith, one.limit, two.limit); read = omega (arith, one.read, two.read) }

-- a manual link does not count what it sends again
few_same : (a m : LinkView) → m.queue ≡ a.queue → m.out ≡ a.out → SentFew a → SentFew m
few_same a m queue out few k q below is = few k q (omega (arith, below, out)) (ap (λ qs. slice_get qs k) (sym queue) ∙ is)

few_on : (what : Sent) (now : ℕ) (a m : LinkView) (g : OutgoingView) → a.manual ≡ true → KindOf what a now g m → SentFew a → SentFew m
few_on Sents.Request now a m g manual kind few = absurd kind
few_on Sents.Reply now a m g manual kind few = few_same a m kind.queue kind.out few
few_on Sents.Confirm now a m g manual kind few = few_same a m kind.queue kind.out few
few_on Sents.Unit now a m g manual kind few =
    λ k q below is.
    elim (get_set a.queue a.out k (record { unit = kind.unit.unit; at = now; count = 1 }) q (ap (λ qs. slice_get qs k) (sym kind.queue) ∙ is)) [
      | inl here ↦ let count : 1 ≡ q.count = ap (λ (x : Queued). x.count) here.1 in omega (arith, count)
      | inr other ↦ few k q (omega (arith, kind.out, below, other.0)) other.1
    ]
few_on Sents.Again now a m g manual kind few =
    λ k q below is.
    elim (get_set a.queue kind.place k (record { unit = kind.unit.unit; at = now; count = count_again a kind.unit.count }) q (ap (λ qs. slice_get qs k) (sym kind.queue) ∙ is)) [
      | inl here ↦
          let same : count_again a kind.unit.count ≡ kind.unit.count = cond-true a.manual kind.unit.count (kind.unit.count + 1) manual in
          let count : count_again a kind.unit.count ≡ q.count = ap (λ (x : Queued). x.count) here.1 in
          omega (arith, count, same, few kind.place kind.unit kind.below kind.there)
      | inr other ↦ few k q (omega (arith, kind.out, below)) other.1
    ]
few_on Sents.Ack now a m g manual kind few = few_same a m kind.queue kind.out few
few_on Sents.Probe now a m g manual kind few = few_same a m kind.queue kind.out few

unread_on : (b m : LinkView) (c e d d' : End) → Follows b d c → Follows m d' e → Fed d d' → Grew c e → StateAfter b m → MoreHeld b m → Unread b c d → Unread m e d'
unread_on b m c e d d' f g fed grew state more was open' k u below is =
    ⊎_elim
    (λ (old : k < d.read). was (open_before state) k u old (ap (λ us. slice_get us k) (sym grew.units) ∙ is))
    (λ (new : d.read ≤ k).
    let h : HoldsMore b m = more open' in
    let front : slice_get m.held (k - d'.taken) ≡ Some u =
    ap (λ us. slice_get us (k - d'.taken)) g.tracks.held
    ∙ (slice_get-drop d'.taken (k - d'.taken) (take d'.read e.units)
    ∙ (ap (slice_get (take d'.read e.units)) (omega (arith, new, f.tracks.counts.held, fed.taken)) ∙ (slice_get-take d'.read e.units k below ∙ is))) in
    let place : length b.held + (k - d.read) ≡ k - d'.taken = omega (arith, new, f.tracks.counts.held, fed.taken) in
    no_end h.units (k - d.read) u h.none
    (sym (slice_get-behind b.held h.units (k - d.read)) ∙ (ap (λ us. slice_get us (length b.held + (k - d.read))) (sym h.held) ∙ (ap (slice_get m.held) place ∙ front))))
    (cases_lt k d.read)
  where
    open_before : StateAfter b m → b.peer_ended ≡ false
    open_before (inl same) = sym same.1 ∙ open'
    open_before (inr (inl done)) = sym done.3 ∙ open'
    open_before (inr (inr ended)) = absurd (cc (sym ended.1 ∙ open'))

-- after a packet, with what it carried
pub record Stepped (now : ℕ) (a0 b0 : LinkView) (c0 d0 : End) (b m b' : LinkView) (e d' : End) (position : Option ℕ) : Type 0 where
  pub next : Amid now a0 b0 c0 d0 m b' e d'
  pub met : (n : ℕ) → position ≡ Some n → Has d' n × Owes b'
  pub owes : Owes b → Owes b'

pub step : (laws : LinkLaws) (now : ℕ) (a0 b0 : LinkView) (c0 d0 : End) → AreNamed a0 b0 → (a b : LinkView) (c d : End) → a.manual ≡ true → Amid now a0 b0 c0 d0 a b c d
    → (g : OutgoingView) (m : LinkView) → Gave a now g m → (s : Spoken g.what m g c d) → IsOpen m
    → Stepped now a0 b0 c0 d0 b m (receive_link b g.header g.body).1 s.after (got (packet_now s.position s.after d) d) s.position
step laws now a0 b0 c0 d0 names a b c d manual mid g m gave s open' =
    let h : SpxHeader = g.header in
    let q : Packet = packet_now s.position s.after d in
    let e : End = s.after in
    let b' : LinkView = (receive_link b h g.body).1 in
    let d' : End = got q d in
    let to : h.to_id ≡ b.own = gave.to ∙ (mid.peer ∙ (names.peer ∙ sym mid.hears.own)) in
    let from : h.from_id ≡ b.peer = gave.from ∙ (mid.own ∙ (sym names.peer_back ∙ sym mid.hears.peer)) in
    let mine : is_own b h ≡ true = ap (λ x. x && (h.from_id == b.peer)) (eq-eqb h.to_id b.own to) ∙ eq-eqb h.from_id b.peer from in
    let r : Reads b h (receive_link b h g.body) = reads b h g.body mid.joined mine in
    let here : Heard b' e d' = heard laws g.what m b g c d s mid.second r.read in
    let fed = fed_got q d in
    let on : (Owes b → Owes b') = (λ owes. owes_on b b' r.acks r.confirms owes) in
    record {
      next = record {
        first = peer_follows m e d d' fed.0.units (record { tracks = s.tracks; open' = open' });
        second = here.follows;
        line = here.line;
        grew = grew_on c0 c e mid.grew s.grew;
        fed = fed_on d0 d d' mid.fed fed.0;
        state = gave.state ∙ mid.state;
        own = gave.own ∙ mid.own;
        peer = gave.peer ∙ mid.peer;
        queued = gave.queued ∙ mid.queued;
        ended_a = gave.ended ∙ mid.ended_a;
        spoke = omega (arith, gave.spoke);
        hears = heard_on b0 b h (receive_link b h g.body) mid.hears r;
        joined = stays_joined b b' mid.joined r.state;
        counts = few_on g.what now a m g manual gave.kind mid.counts;
        probes = probes_on g.what now a m b b' g gave gave.kind on r.answers mid.probes;
        ended = λ is. ended_on r is;
        gave = inr (record { base = omega (arith, fed.1.base); limit = omega (arith, fed.1.limit); probes = r.probes });
        owed = λ o. mid.owed (gave.marks o);
        asks = inr (asked_on r g.what gave.kind s.at);
        unread = λ z. unread_on b b' c e d d' mid.second here.follows fed.0 s.grew r.state r.more (mid.unread z);
        pace_b = unpaced_as b b' (laws.paces b h g.body) mid.pace_b;
      };
      met = λ n there. has_met r n there;
      owes = on;
    }
  where
    ended_on : Reads b g.header (receive_link b g.header g.body) → (receive_link b g.header g.body).1.peer_ended ≡ true → Owes (receive_link b g.header g.body).1 ⊎ (length s.after.units ≤ s.after.base)
    ended_on r is =
        let was : (b.peer_ended ≡ true → Owes (receive_link b g.header g.body).1 ⊎ (length s.after.units ≤ s.after.base)) = (λ (then' : b.peer_ended ≡ true). elim (mid.ended then') [
          | inl owes ↦ inl (owes_on b (receive_link b g.header g.body).1 r.acks r.confirms owes)
          | inr none ↦ inr (omega (arith, none, s.grew.base, ap length s.grew.units))
        ]) in
        elim r.state [
          | inl same ↦ was (sym same.1 ∙ is)
          | inr (inl done) ↦ was (sym done.3 ∙ is)
          | inr (inr ends) ↦ inl (owes_by_confirm (receive_link b g.header g.body).1 ends.2)
        ]

    has_met : Reads b g.header (receive_link b g.header g.body) → (n : ℕ) → s.position ≡ Some n → Has (got (packet_now s.position s.after d) d) n × Owes (receive_link b g.header g.body).1
    has_met r n there =
        let unit = carries_unit s.position n s.after.units g.header g.body there s.carries in
        let high : n < s.after.sent = s.was.position n there in
        let low : c.base ≤ n = position_low g.what c d s.position n mid.line s.at there in
        let room : n < d.taken + d.buffers = omega (arith, high, s.line.there.sent, s.line.there.limit) in
        let owed_open : b.peer_ended ≡ true → Owes b = (λ is. elim (mid.ended is) [
          | inl owes ↦ owes
          | inr none ↦ absurd (omega (arith, none, low, high, s.line.within.sent, ap length s.grew.units))
        ]) in (
          subst (λ o. Has (read_unit o (learned (packet_now s.position s.after d) d)) n) (sym there) (has_got (learned (packet_now s.position s.after d) d) n room),
          ⊎_elim
              (λ (ended : b.peer_ended ≡ true). owes_on b (receive_link b g.header g.body).1 r.acks r.confirms (owed_open ended))
              (λ (goes_on : b.peer_ended ≡ false). r.keeps unit.0 goes_on)
              (cases_Bool b.peer_ended),
        )

    asked_on : Reads b g.header (receive_link b g.header g.body) → (what : Sent) → KindOf what a now g m → PositionIs what c s.position → Owes (receive_link b g.header g.body).1 ⊎ Owed a0
    asked_on r Sents.Request kind at = absurd kind
    asked_on r Sents.Reply kind at = inr (mid.owed kind.owed)
    asked_on r Sents.Confirm kind at = inr (mid.owed kind.owed)
    asked_on r Sents.Unit kind at = inl (has_met r c.sent at).1
    asked_on r Sents.Again kind at = inl (has_met r at.0 at.1).1
    asked_on r Sents.Ack kind at = inr (mid.owed kind.owed)
    asked_on r Sents.Probe kind at = inl (r.answers kind.asks kind.system)
