-- During the packets that a link gives at one time and its peer reads at once: the invariant from packet to
-- packet.
use Rattle.std.proofs.Common.{ℕ, ◌+◌, ◌-◌, ◌<◌, ◌≤◌, ◌≡◌, ◌⊎◌, ◌&&◌, ◌==◌, Bool, true, false, length, length-drop, take, Some, sym, ap, ◌∙◌, subst, inl, inr, ⊎_elim, arith, slice_get}
use Rattle.std.proofs.lemmas.Bool.{cases_Bool, cases_lt, eq-eqb}
use Rattle.spx_link.specs.declared.queue.Queued.{Queued}
use Rattle.spx_link.specs.declared.outgoing.Sent.{Sent}
use Rattle.spx_link.specs.declared.outgoing.Sent.TheVariants as Sents
use Rattle.spx_link.specs.declared.state.State.TheVariants as S
use Rattle.spx_link.specs.Limits.{most_sends}
use Rattle.spx_link.specs.ByClock.{IsUnpaced, pace_of}
use Rattle.spx_link.specs.LinkView.{LinkView, is_end, is_working}
use Rattle.spx_link.specs.declared.unit.Unit.{Unit}
use Rattle.ipx_wire.specs.declared.spx.packet.SpxHeader.{SpxHeader}
use Rattle.spx_link.specs.Machine.{End, Packet, AreSound, learned, read_unit, got, packet_now}
use Rattle.spx_link.specs.Poll.{OutgoingView}
use Rattle.spx_link.specs.Receive.{is_own, is_system, after_end, receive_link}
use Rattle.spx_link.specs.LinkTurns.{is_joined}
use Rattle.spx_theory.specs.Tracks.{Follows, IsOpen}
use Rattle.spx_theory.specs.LinkLaws.{LinkLaws}
use Rattle.spx_link.specs.Units.{unit_of}
use Rattle.spx_link.specs.Poll.{late}
use Rattle.std.proofs.lemmas.List.{length-map}
use Rattle.spx_theory.proofs.Having.{Has, has_on, has_got}
use Rattle.spx_theory.proofs.RoundPackets.{Grew, Spoken, PositionIs, Heard, heard, peer_follows, swapped}
use Rattle.spx_theory.proofs.Hearing.{HoldsMore, MoreHeld, Owes, Reads, StateAfter, no_end, owes_by_confirm, reads, stays_joined}
use Rattle.spx_theory.proofs.RoundPolls.{Gave, KindOf, Owed}
use Rattle.spx_theory.proofs.Entries.{Entry, IsMet, Told, carries_unit, entry, owes_on, position_low}
use Rattle.spx_theory.proofs.Hearers.{Fed, HeardBy, fed_got, heard_on}
use Rattle.spx_theory.proofs.RoundLists.{slice_get-behind, slice_get-drop, slice_get-take}
use Rattle.spx_theory.specs.Named.{AreNamed}

-- unless the peer ended, no unit that was read is its end
abbrev pub Unread : LinkView → End → End → Type 0
Unread b c d = b.peer_ended ≡ false → (k : ℕ) (u : Unit) → k < d.read → slice_get c.units k ≡ Some u → is_end u ≡ false

-- during what a0 gives at a time, which b0 reads
pub record Mid (now : ℕ) (a0 b0 : LinkView) (c0 d0 : End) (a b : LinkView) (c d : End) : Type 0 where
  pub first : Follows a c d
  pub second : Follows b d c
  pub line : AreSound c d
  pub grew : Grew c0 c
  pub fed : Fed d0 d
  pub state : a.state ≡ a0.state
  pub own : a.own ≡ a0.own
  pub peer : a.peer ≡ a0.peer
  pub queued : a.end_queued ≡ a0.end_queued
  pub ended_a : a.peer_ended ≡ a0.peer_ended
  pub spoke : a.spoke ≤ now
  pub by : (k : ℕ) (q : Queued) → k < a.out → slice_get a.queue k ≡ Some q → q.at ≤ now
  pub hears : HeardBy b0 b
  pub joined : is_joined b.state ≡ true
  pub met : is_working a0.state ≡ true → (k : ℕ) (q : Queued) → k < a.out → slice_get a.queue k ≡ Some q → IsMet now b c d k q
  pub probes : is_working a0.state ≡ true → (a.probes < most_sends) ⊎ ((a.spoke ≡ now) × Owes b)
  pub ended : b.peer_ended ≡ true → Owes b ⊎ (length c.units ≤ c.base)
  pub gave : ((a ≡ a0) × (b ≡ b0)) ⊎ Told c b d
  pub owed : Owed a → Owed a0
  pub asks : (a ≡ a0) ⊎ Owes b ⊎ Owed a0
  pub closes : a0.owes_confirm ≡ true → b0.end_queued ≡ true → length d0.units ≤ c0.read → (a.owes_confirm ≡ true) ⊎ (b.state ≡ S.Confirmed)
  pub unread : Unread b0 c0 d0 → Unread b c d
  -- both links have the window and the retransmission of a new link
  pub pace : IsUnpaced a
  pub pace_b : IsUnpaced b

-- a link with the same window and way of retransmission
pub unpaced_as : (l k : LinkView) → pace_of k ≡ pace_of l → IsUnpaced l → IsUnpaced k
unpaced_as l k same u = record { window = ap (λ (p : ℕ × Bool). p.0) same ∙ u.window; manual = ap (λ (p : ℕ × Bool). p.1) same ∙ u.manual }

probes_on : (what : Sent) (now : ℕ) (a m b b' : LinkView) (g : OutgoingView) → Gave a now g m → KindOf what a now g m → (Owes b → Owes b') → (g.header.wants_ack ≡ true → is_system g.header ≡ true → Owes b')
    → (a.probes < most_sends) ⊎ ((a.spoke ≡ now) × Owes b) → (m.probes < most_sends) ⊎ ((m.spoke ≡ now) × Owes b')
probes_on what now a m b b' g gave kind on answers was = by what kind
  where
    on_same : m.probes ≡ a.probes → (m.probes < most_sends) ⊎ ((m.spoke ≡ now) × Owes b')
    on_same same = elim was [ inl few ↦ inl (omega (arith, few, same)) | inr owes ↦ inr (gave.spoke, on owes.1) ]

    by : (what : Sent) → KindOf what a now g m → (m.probes < most_sends) ⊎ ((m.spoke ≡ now) × Owes b')
    by Sents.Request kind = absurd kind
    by Sents.Reply kind = on_same kind.probes
    by Sents.Confirm kind = on_same kind.probes
    by Sents.Unit kind = on_same kind.probes
    by Sents.Again kind = on_same kind.probes
    by Sents.Ack kind = on_same kind.probes
    by Sents.Probe kind = inr (gave.spoke, answers kind.asks kind.system)

grew_on : (c d e : End) → Grew c d → Grew d e → Grew c e
grew_on c d e one two =
    record { base = two.base ∙ one.base; sent = omega (arith, one.sent, two.sent); limit = two.limit ∙ one.limit; read = two.read ∙ one.read; taken = two.taken ∙ one.taken; buffers = two.buffers ∙ one.buffers; units = two.units ∙ one.units }

fed_on : (c d e : End) → Fed c d → Fed d e → Fed c e
fed_on c d e one two =
    record { sent = two.sent ∙ one.sent; taken = two.taken ∙ one.taken; buffers = two.buffers ∙ one.buffers; units = two.units ∙ one.units; base = omega (arith, one.base, two.base); limit = omega (arith, one.limit, two.limit); read = omega (arith, one.read, two.read) }

-- the queue has at least as many units as are outstanding
pub outstanding_there : (a : LinkView) (c d : End) → Follows a c d → AreSound c d → (a.out ≤ length a.queue) × (length a.queue ≡ length c.units - c.base)
outstanding_there a c d f s =
    let long : length a.queue ≡ length c.units - c.base = sym (length-map a.queue unit_of) ∙ (ap length f.tracks.queue ∙ length-drop c.base c.units) in
    (omega (arith, long, f.tracks.counts.out, s.within.sent), long)

-- a confirmed link stays confirmed
confirmed_on : (l m : LinkView) → l.state ≡ S.Confirmed → StateAfter l m → m.state ≡ S.Confirmed
confirmed_on l m was (inl same) = same.0 ∙ was
confirmed_on l m was (inr (inl done)) = done.0
confirmed_on l m was (inr (inr ended)) = ended.0 ∙ ap after_end was

unread_on : (b m : LinkView) (c e d d' : End) → Follows b d c → Follows m d' e → Fed d d' → Grew c e → StateAfter b m → MoreHeld b m → Unread b c d → Unread m e d'
unread_on b m c e d d' f g fed grew state more was open' k u below is =
    ⊎_elim
    (λ (old : k < d.read). was (open_before state) k u old (ap (λ us. slice_get us k) (sym grew.units) ∙ is))
    (λ (new : d.read ≤ k).
    let h : HoldsMore b m = more open' in
    let front : slice_get m.held (k - d'.taken) ≡ Some u =
    ap (λ us. slice_get us (k - d'.taken)) g.tracks.held
    ∙ (slice_get-drop d'.taken (k - d'.taken) (take d'.read e.units)
    ∙ (ap (slice_get (take d'.read e.units)) (omega (arith, new, f.tracks.counts.held, fed.taken)) ∙ (slice_get-take d'.read e.units k below ∙ is))) in
    let place : length b.held + (k - d.read) ≡ k - d'.taken = omega (arith, new, f.tracks.counts.held, fed.taken) in
    no_end h.units (k - d.read) u h.none
    (sym (slice_get-behind b.held h.units (k - d.read)) ∙ (ap (λ us. slice_get us (length b.held + (k - d.read))) (sym h.held) ∙ (ap (slice_get m.held) place ∙ front))))
    (cases_lt k d.read)
  where
    open_before : StateAfter b m → b.peer_ended ≡ false
    open_before (inl same) = sym same.1 ∙ open'
    open_before (inr (inl done)) = sym done.3 ∙ open'
    open_before (inr (inr ended)) = absurd (cc (sym ended.1 ∙ open'))

pub step : (laws : LinkLaws) (now : ℕ) (a0 b0 : LinkView) (c0 d0 : End) → AreNamed a0 b0 → (a b : LinkView) (c d : End) → Mid now a0 b0 c0 d0 a b c d
    → (g : OutgoingView) (m : LinkView) → Gave a now g m → (s : Spoken g.what m g c d) → IsOpen m
    → Mid now a0 b0 c0 d0 m (receive_link b g.header g.body).1 s.after (got (packet_now s.position s.after d) d)
step laws now a0 b0 c0 d0 names a b c d mid g m gave s open' =
    let h : SpxHeader = g.header in
    let q : Packet = packet_now s.position s.after d in
    let e : End = s.after in
    let b' : LinkView = (receive_link b h g.body).1 in
    let d' : End = got q d in
    let to : h.to_id ≡ b.own = gave.to ∙ (mid.peer ∙ (names.peer ∙ sym mid.hears.own)) in
    let from : h.from_id ≡ b.peer = gave.from ∙ (mid.own ∙ (sym names.peer_back ∙ sym mid.hears.peer)) in
    let mine : is_own b h ≡ true = ap (λ x. x && (h.from_id == b.peer)) (eq-eqb h.to_id b.own to) ∙ eq-eqb h.from_id b.peer from in
    let r : Reads b h (receive_link b h g.body) = reads b h g.body mid.joined mine in
    let here : Heard b' e d' = heard laws g.what m b g c d s mid.second r.read in
    let fed = fed_got q d in
    let on : (Owes b → Owes b') = (λ owes. owes_on b b' r.acks r.confirms owes) in
    record {
      first = peer_follows m e d d' fed.0.units (record { tracks = s.tracks; open' = open' });
      second = here.follows;
      line = here.line;
      grew = grew_on c0 c e mid.grew s.grew;
      fed = fed_on d0 d d' mid.fed fed.0;
      state = gave.state ∙ mid.state;
      own = gave.own ∙ mid.own;
      peer = gave.peer ∙ mid.peer;
      queued = gave.queued ∙ mid.queued;
      ended_a = gave.ended ∙ mid.ended_a;
      spoke = omega (arith, gave.spoke);
      by = λ k x below is. elim (at_entry k x below is) [ inl was ↦ mid.by k x was.0 was.1 | inr new ↦ omega (arith, new.0) ];
      hears = heard_on b0 b h (receive_link b h g.body) mid.hears r;
      joined = stays_joined b b' mid.joined r.state;
      met = λ works k x below is. elim (at_entry k x below is) [
        | inl was ↦ elim (mid.met works k x was.0 was.1) [
          | inl late ↦ inl late
          | inr got' ↦ inr (got'.0, subst (λ i. Has d' (i + k)) (sym s.grew.base) (has_on s.position _ (c.base + k) got'.1), on got'.2)
        ]
        | inr new ↦ let both = has_met r (c.base + k) new.1 in inr (new.0, subst (λ i. Has d' (i + k)) (sym s.grew.base) both.0, both.1)
      ];
      probes = λ works. probes_on g.what now a m b b' g gave gave.kind on r.answers (mid.probes works);
      ended = λ is. ended_on r is;
      gave = inr (record { base = omega (arith, fed.1.base); limit = omega (arith, fed.1.limit); probes = r.probes });
      owed = λ o. mid.owed (gave.marks o);
      asks = inr (asked_on r g.what gave.kind s.at);
      closes = λ owes ends all. elim (mid.closes owes ends all) [
        | inl still ↦ elim gave.confirm [
          | inl same ↦ inl (same ∙ still)
          | inr stream ↦
              let there = outstanding_there b' d' e here.follows (swapped e d' here.line) in
              inr (r.confirmed stream (mid.hears.queued ∙ ends) (omega (arith, there.1, fed.1.base, s.grew.read, mid.grew.read, all, ap length fed.0.units, ap length mid.fed.units)))
        ]
        | inr done ↦ inr (confirmed_on b b' done r.state)
      ];
      unread = λ z. unread_on b b' c e d d' mid.second here.follows fed.0 s.grew r.state r.more (mid.unread z);
      pace = unpaced_as a m gave.pace mid.pace;
      pace_b = unpaced_as b b' (laws.paces b h g.body) mid.pace_b;
    }
  where
    at_entry : (k : ℕ) (x : Queued) → k < m.out → slice_get m.queue k ≡ Some x → Entry a now c s.position k x
    at_entry k x below is = entry g.what a m now g c d s.position mid.first gave.kind s.at (λ n there. (carries_unit s.position n s.after.units g.header g.body there s.carries).1) k x below is

    ended_on : Reads b g.header (receive_link b g.header g.body) → (receive_link b g.header g.body).1.peer_ended ≡ true → Owes (receive_link b g.header g.body).1 ⊎ (length s.after.units ≤ s.after.base)
    ended_on r is =
        let was : (b.peer_ended ≡ true → Owes (receive_link b g.header g.body).1 ⊎ (length s.after.units ≤ s.after.base)) = (λ (then' : b.peer_ended ≡ true). elim (mid.ended then') [
          | inl owes ↦ inl (owes_on b (receive_link b g.header g.body).1 r.acks r.confirms owes)
          | inr none ↦ inr (omega (arith, none, s.grew.base, ap length s.grew.units))
        ]) in
        elim r.state [
          | inl same ↦ was (sym same.1 ∙ is)
          | inr (inl done) ↦ was (sym done.3 ∙ is)
          | inr (inr ends) ↦ inl (owes_by_confirm (receive_link b g.header g.body).1 ends.2)
        ]

    has_met : Reads b g.header (receive_link b g.header g.body) → (n : ℕ) → s.position ≡ Some n → Has (got (packet_now s.position s.after d) d) n × Owes (receive_link b g.header g.body).1
    has_met r n there =
        let unit = carries_unit s.position n s.after.units g.header g.body there s.carries in
        let high : n < s.after.sent = s.was.position n there in
        let low : c.base ≤ n = position_low g.what c d s.position n mid.line s.at there in
        let room : n < d.taken + d.buffers = omega (arith, high, s.line.there.sent, s.line.there.limit) in
        let owed_open : b.peer_ended ≡ true → Owes b = (λ is. elim (mid.ended is) [
          | inl owes ↦ owes
          | inr none ↦ absurd (omega (arith, none, low, high, s.line.within.sent, ap length s.grew.units))
        ]) in (
          subst (λ o. Has (read_unit o (learned (packet_now s.position s.after d) d)) n) (sym there) (has_got (learned (packet_now s.position s.after d) d) n room),
          ⊎_elim
              (λ (ended : b.peer_ended ≡ true). owes_on b (receive_link b g.header g.body).1 r.acks r.confirms (owed_open ended))
              (λ (goes_on : b.peer_ended ≡ false). r.keeps unit.0 goes_on)
              (cases_Bool b.peer_ended),
        )

    asked_on : Reads b g.header (receive_link b g.header g.body) → (what : Sent) → KindOf what a now g m → PositionIs what c s.position → Owes (receive_link b g.header g.body).1 ⊎ Owed a0
    asked_on r Sents.Request kind at = absurd kind
    asked_on r Sents.Reply kind at = inr (mid.owed kind.owed)
    asked_on r Sents.Confirm kind at = inr (mid.owed kind.owed)
    asked_on r Sents.Unit kind at = inl (has_met r c.sent at).1
    asked_on r Sents.Again kind at = inl (has_met r at.0 at.1).1
    asked_on r Sents.Ack kind at = inr (mid.owed kind.owed)
    asked_on r Sents.Probe kind at = inl (r.answers kind.asks kind.system)
