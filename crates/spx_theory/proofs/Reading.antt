-- A parcel that an end reads is a packet that its machine receives.
use Rattle.std.proofs.Common.{◌≡◌, ◌≢◌, ◌-◌, ◌<◌, ℕ, Bool, List, [], drop, set, Option, Some, None, refl, sym, ◌∙◌, subst, arith}
use Rattle.std.specs.Prelude.{slice_get}
use Rattle.std.proofs.lemmas.Bool.{cond_both}
use Rattle.std.proofs.lemmas.Option.{slice_get_within}
use Rattle.ipx_wire.specs.declared.spx.packet.SpxHeader.{SpxHeader}
use Rattle.ipx_wire.specs.Ipx.{PacketView}
use Rattle.spx_link.specs.declared.received.Received.TheVariants.{Stranger}
use Rattle.spx_link.specs.LinkView.{LinkView}
use Rattle.spx_link.specs.Receive.{receive_link}
use Rattle.spx_link.specs.Fresh.{IsRecentPacket}
use Rattle.spx_link.specs.Machine.{End, Packet, got, learned, read_unit, is_awaited, risen, put_mark}
use Rattle.std.specs.Prelude.{Contains}
use Rattle.spx_theory.proofs.Running.{got_runs}
use Rattle.spx_theory.proofs.Stepping.{Later}
use Rattle.ipx_wire.specs.Connection.{IsConnectionPacket}
use Rattle.spx_theory.specs.Scan.{Mark, times}
use Rattle.spx_theory.specs.Peers.{end_of}
use Rattle.spx_theory.specs.PairLog.{Half, mail_of, got_mail}
use Rattle.spx_theory.specs.Tracks.{Formed, Follows}
use Rattle.spx_theory.specs.Scene.{PresentEnd, linked}
use Rattle.spx_theory.proofs.Lists.{read_there, times-parts}
use Rattle.std.proofs.lemmas.List.{append-nil}
use Rattle.spx_theory.proofs.Tied.{mark_at, Letter, Whole}
use Rattle.spx_theory.proofs.Moving.{moves, sees_same, other_end, this_link}
use Rattle.spx_theory.specs.Below.{LawsBelow}

-- what a received packet does not change
pub got_same : {A : Type 0} (f : End → A) (q : Packet) (c : End)
    → ((b l : ℕ) (e : End) → f (record e { base = b; limit = l }) ≡ f e) → ((r : ℕ) (ks : List Bool) (e : End) → f (record e { read = r; kept = ks }) ≡ f e)
    → f (got q c) ≡ f c
got_same f q c a b = read_same q.position (learned q c) ∙ a _ _ c
  where
    read_same : (o : Option ℕ) (e : End) → f (read_unit o e) ≡ f e
    read_same None e = refl
    read_same (Some n) e =
        cond_both (is_awaited e n) (risen (put_mark (n - e.read) e.kept) e) e (λ x. f x ≡ f e) (λ yes. b _ _ e) (λ no. refl)

-- the numbers of an end that got a packet are later ones
pub got_later : (c d : End) (q : Packet) → Later c d (got q c) d
got_later c d q = read_later q.position (learned q c) (record { read = omega arith; taken = omega arith; buffers = refl; peer_buffers = refl; sent = omega arith; peer_sent = omega arith })
  where
    read_later : (o : Option ℕ) (e : End) → Later c d e d → Later c d (read_unit o e) d
    read_later None e later = later
    read_later (Some n) e later =
        cond_both (is_awaited e n) (risen (put_mark (n - e.read) e.kept) e) e (λ x. Later c d x d)
        (λ yes. record { read = omega (arith, later.read); taken = later.taken; buffers = later.buffers; peer_buffers = later.peer_buffers; sent = later.sent; peer_sent = later.peer_sent })
        (λ no. later)

pub got_later_back : (c d : End) (q : Packet) → Later d c d (got q c)
got_later_back c d q =
    let sent : (got q c).sent ≡ c.sent = got_same (λ (e : End). e.sent) q c (λ b l e. refl) (λ r ks e. refl) in
    let buffers : (got q c).buffers ≡ c.buffers = got_same (λ (e : End). e.buffers) q c (λ b l e. refl) (λ r ks e. refl) in
    record { read = omega arith; taken = omega arith; buffers = refl; peer_buffers = sym buffers; sent = omega arith; peer_sent = omega arith }

module _ (laws : LawsBelow) (c d : ℕ) (differ : c ≢ d) (ends : List PresentEnd) (parcels : List (List ℕ)) (marks : List Mark) (sent : List ℕ) (x y : Half) where
  -- the end c reads the parcel k, which is recent, and whose origin d sent
  pub reads_whole : Whole c d ends parcels marks sent x y
      → (e : PresentEnd) (l : LinkView) (k : ℕ) (bytes : List ℕ) (p : PacketView) (h : SpxHeader) (body : List ℕ)
      → slice_get ends c ≡ Some e → e.link ≡ Some l → slice_get parcels k ≡ Some bytes → IsConnectionPacket p h body bytes
      → (receive_link l h body).0 ≢ Stranger
      → end_of (mark_at marks k).maker ≡ Some d
      → times c (drop (mark_at marks k).units sent) < 32768 → times d (drop (mark_at marks k).units sent) < 32768
      → Whole c d (set ends c (linked e (receive_link l h body).1)) parcels marks sent (got_mail (mail_of y k) x) y
  reads_whole w e l k bytes p h body at is comes reads read by near near' =
      let found = w.two.all k (omega (arith, slice_get_within parcels k bytes comes, w.count)) by in
      let q : Packet = found.0 in
      let mail : mail_of y k ≡ Some q = read_there y.mail k (Some q) None found.1 in
      let letter : Letter d c parcels marks sent y x k q = w.two.letters k q found.1 in
      let says = letter.says bytes comes p h body reads in
      let c_now = times-parts c (mark_at marks k).units sent in
      let d_now = times-parts d (mark_at marks k).units sent in
      let fresh : IsRecentPacket x.end y.end q = record { sender = omega (arith, letter.own, w.two.count, d_now, near'); receiver = omega (arith, letter.other, w.one.count, c_now, near) } in
      let follows : Follows (receive_link l h body).1 (got q x.end) y.end =
      laws.steps.receives l h body q x.end y.end
      (record {
        follows = w.one.link e l at is;
        line = w.sound;
        was = letter.was;
        fresh = fresh;
        small = w.two.small;
        formed = w.two.formed;
        spells = says.0;
        carries = says.1;
      })
      read in
      let x' : Half = record x { end = got q x.end } in
      let units : (got q x.end).units ≡ x.end.units = got_same (λ (e : End). e.units) q x.end (λ b l e. refl) (λ r ks e. refl) in
      let e' : PresentEnd = linked e (receive_link l h body).1 in
      let ends' : List PresentEnd = set ends c e' in
      let done : Whole c d ends' parcels marks sent x' y = record {
        sound = laws.gets x.end y.end q w.sound letter.was;
        run = got_runs x.end y.end w.run q letter.posted;
        one = moves c d ends ends' parcels marks sent x y x' y
            (record {
              later = got_later x.end y.end q;
              more = [];
              units = units ∙ sym (append-nil x.end.units);
              mail = refl;
              sent = got_same (λ (e : End). e.sent) q x.end (λ b l e. refl) (λ r ks e. refl);
              buffers = got_same (λ (e : End). e.buffers) q x.end (λ b l e. refl) (λ r ks e. refl);
              bag = λ p there. subst (λ ps. Contains ps p) (sym (got_same (λ (e : End). e.bag) q x.end (λ b l e. refl) (λ r ks e. refl))) there;
              formed = (w.one.formed.0, subst (λ us. Formed us w.one.formed.0) (sym units) w.one.formed.1);
              link = λ f m at' is'. subst (λ n. Follows n (got q x.end) y.end) (sym (this_link ends c e (receive_link l h body).1 f m at' is')) follows;
            }) w.one;
        two = moves d c ends ends' parcels marks sent y x y x'
            (record {
              later = got_later_back x.end y.end q;
              more = [];
              units = sym (append-nil y.end.units);
              mail = refl;
              sent = refl;
              buffers = refl;
              bag = λ p there. there;
              formed = w.two.formed;
              link = λ f m at' is'. sees_same m y.end x.end (got q x.end) units (w.two.link f m (other_end ends c d e' f differ at') is');
            }) w.two;
        count = w.count;
      } in
      subst (λ o. Whole c d ends' parcels marks sent (got_mail o x) y) (sym mail) done
