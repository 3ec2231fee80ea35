-- A packet that an end gives is one that its machine sends.
use Rattle.std.proofs.Common.{◌≡◌, ◌≢◌, ℕ, List, [], ◌∷◌, ◌++◌, length, take, set, Option, Some, None, refl, sym, ◌∙◌, inl, inr, ap, subst, arith, length-append}
use Rattle.std.proofs.Math.Seq.{take-length}
use Rattle.std.proofs.lemmas.List.Elements.{All-head}
use Rattle.std.proofs.lemmas.Option.{slice_get_within}
use Rattle.spx_link.specs.LinkView.{LinkView}
use Rattle.spx_link.specs.Poll.{OutgoingView}
use Rattle.spx_link.specs.Machine.{End, Packet, WasSent, packet_now, mailed, AreSound}
use Rattle.std.specs.Prelude.{Contains}
use Rattle.spx_theory.proofs.Running.{Runs, after_one, in_front}
use Rattle.spx_theory.proofs.Stepping.{Later}
use Rattle.spx_theory.specs.SentUnits.{SaysOnly}
use Rattle.ipx_wire.specs.Connection.{IsConnectionPacket}
use Rattle.spx_theory.specs.Scan.{Mark, times}
use Rattle.spx_theory.specs.Peers.{end_of}
use Rattle.spx_theory.specs.PairLog.{Half, not_mine}
use Rattle.spx_theory.specs.Tracks.{core, Follows, IsOpen}
use Rattle.spx_theory.specs.Spelling.{Spells, Carries, Says}
use Rattle.spx_theory.specs.Scene.{PresentEnd, linked}
use Rattle.spx_theory.proofs.Lists.{get_last}
use Rattle.spx_theory.proofs.Tied.{mark_at, Letter, Whole}
use Rattle.spx_theory.proofs.Moving.{sees_same, other_end, this_link}
use Rattle.spx_theory.proofs.Adding.{adds, mark_here}

-- the bag does not matter
pub with_bag : (l : LinkView) (c d : End) (bag : List Packet) → Follows l c d → Follows l (record c { bag = bag }) d
with_bag l c d bag f =
    let t = f.tracks in
    record {
      tracks = record {
        counts = record { next = t.counts.next; expected = t.counts.expected; out = t.counts.out; room = t.counts.room; held = t.counts.held; buffers = t.counts.buffers; window = t.counts.window; small = t.counts.small };
        queue = t.queue;
        held = t.held;
        kept = t.kept;
        open' = t.open';
        ahead = t.ahead;
        ended = t.ended;
        formed = t.formed;
      };
      open' = f.open';
    }

-- the half that sent a packet of this position
abbrev pub with_mail : Option ℕ → End → Half → End → Half
with_mail position e x d = record { end = mailed position e d; mail = x.mail ++ Some (packet_now position e d) ∷ [] }

module _ (c d : ℕ) (differ : c ≢ d) (ends : List PresentEnd) (parcels : List (List ℕ)) (marks : List Mark) (sent more : List ℕ) (x y : Half) where
  -- the end e of c, as it is just before the packet is sent
  pub record Gave (position : Option ℕ) (e : End) (w : PresentEnd) (l : LinkView) (g : OutgoingView) (bytes : List ℕ) (m : Mark) : Type 0 where
    pub sound : AreSound (mailed position e y.end) y.end
    pub run : Runs (mailed position e y.end) y.end
    pub bag : e.bag ≡ x.end.bag
    pub later : Later x.end y.end (mailed position e y.end) y.end
    pub back : Later y.end x.end y.end (mailed position e y.end)
    pub units : e.units ≡ x.end.units
    pub buffers : e.buffers ≡ x.end.buffers
    pub says : Says (core l) g position e y.end
    pub open' : IsOpen l
    pub only : SaysOnly g.header g.body bytes
    pub by : end_of m.maker ≡ Some c
    pub at : m.units ≡ length (sent ++ more)
    pub count : e.sent ≡ times c (sent ++ more)
    pub peer_count : y.end.sent ≡ times d (sent ++ more)

  pub gives_whole : Whole c d ends parcels marks sent x y → (position : Option ℕ) (e : End) (w : PresentEnd) (l : LinkView) (g : OutgoingView) (bytes : List ℕ) (m : Mark)
      → Gave position e w l g bytes m
      → Whole c d (set ends c (linked w l)) (parcels ++ bytes ∷ []) (marks ++ m ∷ []) (sent ++ more) (with_mail position e x y.end) (not_mine y)
  gives_whole whole position e w l g bytes m a =
      let q : Packet = packet_now position e y.end in
      let x' : Half = with_mail position e x y.end in
      let y' : Half = not_mine y in
      let here : mark_at (marks ++ m ∷ []) (length marks) ≡ m = mark_here marks m in
      let upto : take (mark_at (marks ++ m ∷ []) (length marks)).units (sent ++ more) ≡ sent ++ more =
      ap (λ (n : Mark). take n.units (sent ++ more)) here ∙ ap (λ k. take k (sent ++ more)) a.at ∙ take-length (sent ++ more) in
      let ends' : List PresentEnd = set ends c (linked w l) in
      let follows : Follows l e y.end = record { tracks = a.says.tracks; open' = a.open' } in
      record {
        sound = a.sound;
        run = a.run;
        one = adds c d ends ends' parcels bytes marks m sent more x y x' y' whole.count
            (record {
              later = a.later;
              units = a.units;
              buffers = a.buffers;
              bag = λ p there. after_one q p e.bag (subst (λ ps. Contains ps p) (sym a.bag) there);
              mine = Some q;
              mail = refl;
              count = a.count;
              by = λ is. (q, refl);
              letter = λ p is.
                  let same : q ≡ p = cc in
                  subst (λ r. Letter c d (parcels ++ bytes ∷ []) (marks ++ m ∷ []) (sent ++ more) x' y' (length marks) r) same
                  (record {
                    was = All-head (WasSent (mailed position e y.end) y.end) q e.bag a.sound.bag;
                    posted = in_front q e.bag;
                    maker = ap (λ (n : Mark). end_of n.maker) here ∙ a.by;
                    own = a.count ∙ sym (ap (times c) upto);
                    other = a.peer_count ∙ sym (ap (times d) upto);
                    within = omega (arith, ap (λ (n : Mark). n.units) here, a.at);
                    says = λ bs at p' h body reads.
                        let last : bs ≡ bytes = elim (get_last parcels bytes bs (length marks) at) [
                          | inl before ↦ absurd (omega (arith, slice_get_within parcels (length marks) bs before, whole.count))
                          | inr there ↦ sym there.1
                        ] in
                        let spelled = a.only p' h body (subst (IsConnectionPacket p' h body) last reads) in
                        let spells : Spells q h = subst (Spells q) (sym spelled.0) a.says.spells in
                        let carries : Carries position e.units h body = subst (λ k. Carries position e.units k body) (sym spelled.0) (subst (λ b. Carries position e.units g.header b) (sym spelled.1) a.says.carries) in
                        (spells, carries);
                  });
              link = λ f k at is. subst (λ n. Follows n (mailed position e y.end) y.end) (sym (this_link ends c w l f k at is)) (with_bag l e y.end (q ∷ e.bag) follows);
            }) whole.one;
        two = adds d c ends ends' parcels bytes marks m sent more y x y' x' whole.count
            (record {
              later = a.back;
              units = refl;
              buffers = refl;
              bag = λ p there. there;
              mine = None;
              mail = refl;
              count = a.peer_count;
              by = λ is. let same : Some c ≡ Some d = sym a.by ∙ is in absurd (differ (cc same));
              letter = λ p is. absurd (cc is);
              link = λ f k at is. sees_same k y.end x.end (mailed position e y.end) a.units (whole.two.link f k (other_end ends c d (linked w l) f differ at) is);
            }) whole.two;
        count = omega (arith, whole.count, length-append marks (m ∷ []), length-append parcels (bytes ∷ []));
      }
