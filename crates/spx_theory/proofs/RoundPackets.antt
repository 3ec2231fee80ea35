-- A packet that one link gives and the other reads at once, for the two ends of the machine.
use Rattle.std.proofs.Common.{ℕ, ◌+◌, ◌<◌, ◌≤◌, ◌≡◌, ◌≢◌, length, take, drop, Option, Some, None, true, refl, sym, ap, ◌∙◌, subst, arith, slice_get}
use Rattle.spx_link.specs.declared.outgoing.Sent.{Sent}
use Rattle.spx_link.specs.declared.outgoing.Sent.TheVariants as Sents
use Rattle.spx_link.specs.declared.received.Received.TheVariants.{Stranger}
use Rattle.spx_link.specs.LinkView.{LinkView}
use Rattle.spx_link.specs.Poll.{OutgoingView}
use Rattle.spx_link.specs.Receive.{receive_link}
use Rattle.spx_link.specs.Machine.{End, Packet, WasSent, AreSound, mailed, sent_next, one_more_sent, packet_now, got}
use Rattle.spx_link.specs.Machine.Act.{Sends, SendsAgain, SendsNoUnit}
use Rattle.spx_link.specs.Machine.Step.{One}
use Rattle.spx_theory.specs.Tracks.{Core, Tracks, Follows, Formed, core}
use Rattle.spx_theory.specs.Spelling.{Spells, Carries, Says, Spoke}
use Rattle.spx_theory.specs.LinkLaws.{LinkLaws}

pub swapped : (c d : End) → AreSound c d → AreSound d c
swapped c d s =
    record { there = s.back; back = s.there; within = s.peer_within; peer_within = s.within; bag = s.peer_bag; peer_bag = s.bag }

-- an end that sent: it may have sent one more unit, and nothing else changed
pub record Grew (old new : End) : Type 0 where
  pub base : new.base ≡ old.base
  pub sent : old.sent ≤ new.sent
  pub limit : new.limit ≡ old.limit
  pub read : new.read ≡ old.read
  pub taken : new.taken ≡ old.taken
  pub buffers : new.buffers ≡ old.buffers
  pub units : new.units ≡ old.units

-- the position that the packet of a poll carries, for its kind
abbrev pub PositionIs : Sent → End → Option ℕ → Type 0
PositionIs Sents.Request c o = o ≡ None
PositionIs Sents.Reply c o = o ≡ None
PositionIs Sents.Confirm c o = o ≡ None
PositionIs Sents.Unit c o = o ≡ Some c.sent
PositionIs Sents.Again c o = (n : ℕ) × (o ≡ Some n) × (c.base ≤ n) × (n < c.sent)
PositionIs Sents.Ack c o = o ≡ None
PositionIs Sents.Probe c o = o ≡ None

-- the packet that a link gave when it became m; c was its end, and d is its peer's
pub record Spoken (what : Sent) (m : LinkView) (g : OutgoingView) (c d : End) : Type 0 where
  pub after : End
  pub position : Option ℕ
  pub at : PositionIs what c position
  pub line : AreSound after d
  pub tracks : Tracks (core m) after d
  pub spells : Spells (packet_now position after d) g.header
  pub carries : Carries position after.units g.header g.body
  pub was : WasSent after d (packet_now position after d)
  pub grew : Grew c after

mailed_tracks : (l : Core) (o : Option ℕ) (c e d : End) → Tracks l c d → Tracks l (mailed o c e) d
mailed_tracks l o c e d t =
    record {
      counts = record { next = t.counts.next; expected = t.counts.expected; out = t.counts.out; room = t.counts.room; held = t.counts.held; buffers = t.counts.buffers; window = t.counts.window; small = t.counts.small };
      queue = t.queue;
      held = t.held;
      kept = t.kept;
      open' = t.open';
      ahead = t.ahead;
      ended = t.ended;
      formed = t.formed;
    }

-- what an end says now is true
was_now : (c d : End) (o : Option ℕ) → AreSound c d → ((n : ℕ) → o ≡ Some n → (c.base ≤ n) × (n < c.sent)) → WasSent c d (packet_now o c d)
was_now c d o s at =
    record {
      read = omega arith;
      allows = omega arith;
      sender_sent = omega arith;
      receiver_sent = omega arith;
      reads_sent = s.back.read;
      allows_sent = omega (arith, s.back.sent, s.back.limit);
      spread = omega (arith, s.within.taken);
      position = λ n e. (at n e).1;
      outstanding = λ n e. omega (arith, (at n e).0, s.there.sent, s.within.limit);
    }

same_grew : (c : End) (o : Option ℕ) (d : End) → Grew c (mailed o c d)
same_grew c o d = record { base = refl; sent = omega arith; limit = refl; read = refl; taken = refl; buffers = refl; units = refl }

plain_spoken : (laws : LinkLaws) (what : Sent) (m : LinkView) (g : OutgoingView) (c d : End) → PositionIs what c None → AreSound c d → Says (core m) g None c d → Spoken what m g c d
plain_spoken laws what m g c d at s says =
    let line : AreSound (mailed None c d) d = laws.step (One SendsNoUnit) (record { one = c; two = d }) (record { one = mailed None c d; two = d }) (refl, refl) s in
    record {
      after = mailed None c d;
      position = None;
      at = at;
      line = line;
      tracks = mailed_tracks (core m) None c d d says.tracks;
      spells = record { ack = says.spells.ack; limit = says.spells.limit };
      carries = says.carries;
      was = was_now (mailed None c d) d None line (λ n e. absurd (cc e));
      grew = same_grew c None d;
    }

again_spoken : (laws : LinkLaws) (m : LinkView) (g : OutgoingView) (c d : End) (n : ℕ) → AreSound c d → c.base ≤ n → n < c.sent → Says (core m) g (Some n) c d → Spoken Sents.Again m g c d
again_spoken laws m g c d n s low high says =
    let line : AreSound (mailed (Some n) c d) d = laws.step (One (SendsAgain n)) (record { one = c; two = d }) (record { one = mailed (Some n) c d; two = d }) ((low, high, refl), refl) s in
    record {
      after = mailed (Some n) c d;
      position = Some n;
      at = (n, refl, low, high);
      line = line;
      tracks = mailed_tracks (core m) (Some n) c d d says.tracks;
      spells = record { ack = says.spells.ack; limit = says.spells.limit };
      carries = says.carries;
      was = was_now (mailed (Some n) c d) d (Some n) line (λ k e. let same : n ≡ k = cc e in (omega (arith, low, same), omega (arith, high, same)));
      grew = same_grew c (Some n) d;
    }

next_spoken : (laws : LinkLaws) (m : LinkView) (g : OutgoingView) (c d : End) → AreSound c d → c.sent < c.limit → c.sent < length c.units → Says (core m) g (Some c.sent) (one_more_sent c) d → Spoken Sents.Unit m g c d
next_spoken laws m g c d s room unit says =
    let line : AreSound (sent_next c d) d = laws.step (One Sends) (record { one = c; two = d }) (record { one = sent_next c d; two = d }) ((room, unit, refl), refl) s in
    record {
      after = sent_next c d;
      position = Some c.sent;
      at = refl;
      line = line;
      tracks = mailed_tracks (core m) (Some c.sent) (one_more_sent c) d d says.tracks;
      spells = record { ack = says.spells.ack; limit = says.spells.limit };
      carries = says.carries;
      was = was_now (sent_next c d) d (Some c.sent) line (λ k e. let same : c.sent ≡ k = cc e in (omega (arith, s.there.base, s.there.read, same), omega (arith, same)));
      grew = record { base = refl; sent = omega arith; limit = refl; read = refl; taken = refl; buffers = refl; units = refl };
    }

pub spoken : (laws : LinkLaws) (what : Sent) (m : LinkView) (g : OutgoingView) (c d : End) → AreSound c d → Spoke what (core m) g c d → Spoken what m g c d
spoken laws Sents.Request m g c d s says = plain_spoken laws Sents.Request m g c d refl s says
spoken laws Sents.Reply m g c d s says = plain_spoken laws Sents.Reply m g c d refl s says
spoken laws Sents.Confirm m g c d s says = plain_spoken laws Sents.Confirm m g c d refl s says
spoken laws Sents.Unit m g c d s (room, unit, says) = next_spoken laws m g c d s room unit says
spoken laws Sents.Again m g c d s (n, low, high, says) = again_spoken laws m g c d n s low high says
spoken laws Sents.Ack m g c d s says = plain_spoken laws Sents.Ack m g c d refl s says
spoken laws Sents.Probe m g c d s says = plain_spoken laws Sents.Probe m g c d refl s says

-- ---- the link that reads it at once

-- of its peer, a link follows only the units
pub peer_tracks : (l : Core) (c d e : End) → e.units ≡ d.units → Tracks l c d → Tracks l c e
peer_tracks l c d e same t =
    record {
      counts = t.counts;
      queue = t.queue;
      held = subst (λ us. l.held ≡ drop c.taken (take c.read us)) (sym same) t.held;
      kept = t.kept;
      open' = t.open';
      ahead = λ k u at. ap (λ us. slice_get us (c.read + k)) same ∙ t.ahead k u at;
      ended = λ e. subst (λ us. Formed us true × (length us ≤ c.read)) (sym same) (t.ended e);
      formed = t.formed;
    }

pub peer_follows : (l : LinkView) (c d e : End) → e.units ≡ d.units → Follows l c d → Follows l c e
peer_follows l c d e same f = record { tracks = peer_tracks (core l) c d e same f.tracks; open' = f.open' }

pub record Heard (b : LinkView) (c d : End) : Type 0 where
  pub follows : Follows b d c
  pub line : AreSound c d

pub heard : (laws : LinkLaws) (what : Sent) (m b : LinkView) (g : OutgoingView) (c d : End) (s : Spoken what m g c d) → Follows b d c
    → (receive_link b g.header g.body).0 ≢ Stranger → Heard (receive_link b g.header g.body).1 s.after (got (packet_now s.position s.after d) d)
heard laws what m b g c d s f reads =
    let q : Packet = packet_now s.position s.after d in
    let back : AreSound d s.after = swapped s.after d s.line in
    let f' : Follows b d s.after = peer_follows b d c s.after s.grew.units f in
    record {
      follows = laws.steps.receives b g.header g.body q d s.after (record {
        follows = f';
        line = back;
        was = s.was;
        fresh = record { sender = omega arith; receiver = omega arith };
        small = omega (arith, s.tracks.counts.small);
        formed = (m.end_queued, s.tracks.formed);
        spells = s.spells;
        carries = s.carries;
      }) reads;
      line = swapped (got q d) s.after (laws.gets d s.after q back s.was);
    }
