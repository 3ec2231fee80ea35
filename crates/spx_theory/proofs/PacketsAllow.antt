-- Every end, also a released one: what its packets allow is what it had taken then, plus its buffers.
use Rattle.std.proofs.Common.{◌≡◌, ◌≢◌, ◌⊎◌, ◌+◌, ◌≤◌, ◌<◌, ◌==◌, ℕ, true, false, List, [], ◌∷◌, ◌++◌, length, set, Option, Some, None, refl, sym, ◌∙◌, inl, inr, ap, subst, arith, length-append, length-set, ne_eqb}
use Rattle.std.specs.Prelude.{slice_get}
use Rattle.std.proofs.lemmas.List.{append-nil}
use Rattle.std.proofs.lemmas.Bool.{cond-true, cond-false}
use Rattle.std.proofs.lemmas.Option.{slice_get_within}
use Rattle.ipx_wire.specs.declared.spx.packet.SpxHeader.{SpxHeader}
use Rattle.ipx_wire.specs.Ipx.{PacketView}
use Rattle.spx_link.specs.declared.outgoing.Sent.{Sent}
use Rattle.spx_link.specs.declared.received.Received.{Received}
use Rattle.spx_link.specs.LinkView.{LinkView}
use Rattle.spx_link.specs.SequenceMarks.{mark}
use Rattle.spx_link.specs.Offer.{refusal, offer_link, end_link, take_link, owe_reply_link, pace_link, again_link, lose_link}
use Rattle.spx_link.specs.Poll.{OutgoingView, poll_link}
use Rattle.spx_link.specs.Receive.{receive_link}
use Rattle.spx_messages.specs.Cut.{cut_of}
use Rattle.ipx_wire.specs.Connection.{IsConnectionPacket}
use Rattle.spx_theory.specs.Note.{Note, Opened, Accepted, HandsIn, TakesUnit, AsksEnd, Got, Released, Told, Carried, Injected}
use Rattle.spx_theory.specs.Scan.{Scan, Mark, Role, FromOutside, seen, seen_all, scan, unread, mark_of, role_of, no_role, one_further}
use Rattle.spx_theory.specs.Handed.{taken_by, taken_of, handed_out}
use Rattle.spx_theory.specs.Scene.{Scene, PresentEnd, IsPresent, linked}
use Rattle.spx_theory.specs.Deeds.{Deed, DoesDeed, DoesGive, Dials, Accepts, Reads, OwesReply, Paces, AsksAgain, Gives, Rests, Sends, Takes, Overruns, Closes, Releases, Carries, Tells, Injects, IsBegun, Reached, begun, happened}
use Rattle.spx_theory.specs.PacketsOnWay.{note_of, notes_of, out_notes}
use Rattle.spx_theory.specs.LogPremises.{IsMadeBy}
use Rattle.spx_theory.proofs.Lists.{get_last, get_here, read_there}
use Rattle.spx_theory.proofs.Tied.{mark_at}
use Rattle.spx_theory.proofs.Adding.{mark_before, mark_here}
use Rattle.spx_theory.proofs.Bytes.{written_says, carried_reads}
use Rattle.spx_theory.proofs.Folding.{seen_all-append}
use Rattle.spx_theory.proofs.Held.{outs_seen}
use Rattle.spx_theory.proofs.Gathering.{gathered-append}
use Rattle.spx_theory.proofs.Speaking.{eqb_same}
use Rattle.spx_theory.proofs.NextFacts.{FactsAt}
use Rattle.spx_theory.proofs.Along.{facts_along}
use Rattle.spx_theory.proofs.Growing.{IsPosted, posted_more, role_stays}
use Rattle.spx_theory.specs.Allowances.{HasTakenAndFits, SameReceived, GivesAs, Took}
use Rattle.spx_link.specs.declared.outgoing.Sent.TheVariants as Sents
use Rattle.spx_link.specs.declared.received.Received.TheVariants as R
use Rattle.spx_link.specs.declared.state.State.TheVariants as S
use Rattle.spx_theory.specs.Below.{LawsBelow}
use Rattle.spx_link.specs.declared.unit.Unit.{Unit}
use Rattle.spx_theory.proofs.Fields.{at_scene, ends_of, log_of, parcels_of}
use Rattle.spx_theory.proofs.Telling.{outs_taken}
use Rattle.spx_theory.proofs.EachLink.{links_put, links_come}

-- ---- entries by which an end takes nothing and hands out nothing
pub record IsSilent (e : ℕ) (ns : List Note) : Type 0 where
  pub taken : taken_of e ns ≡ []
  pub out : handed_out e ns ≡ []

pub read_silent : (r : Received) (who k e : ℕ) → IsSilent e (notes_of r who k)
read_silent R.Joined who k e = record { taken = refl; out = refl }
read_silent R.Kept who k e = record { taken = refl; out = refl }
read_silent R.Repeat who k e = record { taken = refl; out = refl }
read_silent R.Ahead who k e = record { taken = refl; out = refl }
read_silent R.OverAllocation who k e = record { taken = refl; out = refl }
read_silent R.System who k e = record { taken = refl; out = refl }
read_silent R.PeerEnded who k e = record { taken = refl; out = refl }
read_silent R.Confirmed who k e = record { taken = refl; out = refl }
read_silent R.Stranger who k e = record { taken = refl; out = refl }

pub record ReadScan (s : Scan) (ns : List Note) : Type 0 where
  pub marks : (seen_all s ns).marks ≡ s.marks
  pub sent : (seen_all s ns).sent ≡ s.sent

pub read_scan : (s : Scan) (r : Received) (who k : ℕ) → ReadScan s (notes_of r who k)
read_scan s R.Joined who k = record { marks = refl; sent = refl }
read_scan s R.Kept who k = record { marks = refl; sent = refl }
read_scan s R.Repeat who k = record { marks = refl; sent = refl }
read_scan s R.Ahead who k = record { marks = refl; sent = refl }
read_scan s R.OverAllocation who k = record { marks = refl; sent = refl }
read_scan s R.System who k = record { marks = refl; sent = refl }
read_scan s R.PeerEnded who k = record { marks = refl; sent = refl }
read_scan s R.Confirmed who k = record { marks = refl; sent = refl }
read_scan s R.Stranger who k = record { marks = refl; sent = refl }

-- the entry of a packet that is sent
pub record Posting (s : Scan) (what : Sent) (who k : ℕ) : Type 0 where
  pub mark : Mark
  pub marks : (seen s (note_of what who k)).marks ≡ s.marks ++ mark ∷ []
  pub origin : mark.origin ≡ length s.marks
  pub by : IsMadeBy (note_of what who k) who k
  pub silent : (e : ℕ) → IsSilent e (note_of what who k ∷ [])

pub posting : (s : Scan) (what : Sent) (who k : ℕ) → Posting s what who k
posting s Sents.Request who k = record { mark = _; marks = refl; origin = refl; by = inr (inr refl); silent = λ e. record { taken = refl; out = refl } }
posting s Sents.Reply who k = record { mark = _; marks = refl; origin = refl; by = inr (inr refl); silent = λ e. record { taken = refl; out = refl } }
posting s Sents.Confirm who k = record { mark = _; marks = refl; origin = refl; by = inr (inr refl); silent = λ e. record { taken = refl; out = refl } }
posting s Sents.Unit who k = record { mark = _; marks = refl; origin = refl; by = inl refl; silent = λ e. record { taken = refl; out = refl } }
posting s Sents.Again who k = record { mark = _; marks = refl; origin = refl; by = inr (inl refl); silent = λ e. record { taken = refl; out = refl } }
posting s Sents.Ack who k = record { mark = _; marks = refl; origin = refl; by = inr (inr refl); silent = λ e. record { taken = refl; out = refl } }
posting s Sents.Probe who k = record { mark = _; marks = refl; origin = refl; by = inr (inr refl); silent = λ e. record { taken = refl; out = refl } }

-- only units that are taken are counted
pub same_kept : (taken : ℕ) (l k : LinkView) → SameReceived l k → HasTakenAndFits taken l → HasTakenAndFits taken k
same_kept taken l k same t =
    record {
      expected = same.expected ∙ t.expected ∙ ap (λ (us : List Unit). mark (taken + length us)) (sym same.held);
      fits = omega (arith, t.fits, ap length same.held, ap length same.ahead, same.buffers);
    }

pub took_kept : (taken : ℕ) (l k : LinkView) (u : Unit) → Took l u k → HasTakenAndFits taken l → HasTakenAndFits (taken + 1) k
took_kept taken l k u t was =
    record {
      expected = t.expected ∙ was.expected ∙ ap mark (omega (arith, ap length t.held));
      fits = omega (arith, was.fits, ap length t.held, ap length t.ahead, t.buffers);
    }

-- ---- the invariant
pub record LinkSide (e : ℕ) (l : LinkView) (log : List Note) : Type 0 where
  pub taken : ℕ
  pub kept : HasTakenAndFits taken l
  pub is : l.state ≢ S.Lost → taken ≡ length (taken_of e log)
  pub buffers : l.buffers ≡ (role_of (scan log) e).buffers

pub record Sender (log : List Note) (m : Mark) (h : SpxHeader) : Type 0 where
  pub sender : ℕ
  pub allows : ℕ
  pub posted : IsPosted sender m.origin allows (role_of (scan log) sender).buffers log
  pub within : sender < length (scan log).roles
  pub limit : h.limit ≡ mark (allows + 65535)

abbrev pub ComesFrom : List Note → Mark → SpxHeader → Type 0
ComesFrom log m h = (m.maker ≡ FromOutside) ⊎ Sender log m h

abbrev pub LinkSides : List PresentEnd → List Note → Type 0
LinkSides ends log = (e : ℕ) (w : PresentEnd) (l : LinkView) → slice_get ends e ≡ Some w → w.link ≡ Some l → LinkSide e l log

abbrev pub ParcelSides : List (List ℕ) → List Mark → List Note → Type 0
ParcelSides parcels marks log =
    (k : ℕ) (bytes : List ℕ) (p : PacketView) (h : SpxHeader) (body : List ℕ) → slice_get parcels k ≡ Some bytes → IsConnectionPacket p h body bytes → ComesFrom log (mark_at marks k) h

pub record Sides (ends : List PresentEnd) (parcels : List (List ℕ)) (log : List Note) : Type 0 where
  pub links : LinkSides ends log
  pub unmade : (e : ℕ) → length ends ≤ e → length (taken_of e log) ≡ 0
  pub parcels_say : ParcelSides parcels (scan log).marks log

abbrev pub SidesAt : Scene → Type 0
SidesAt s = Sides s.ends s.parcels s.log

-- ---- growth
taken_then : (e : ℕ) (log ns : List Note) → length (taken_of e (log ++ ns)) ≡ length (taken_of e log) + length (taken_of e ns)
taken_then e log ns = ap length (gathered-append (taken_by e) log ns) ∙ length-append (taken_of e log) (taken_of e ns)

side_more : (e : ℕ) (l : LinkView) (log ns : List Note) → e < length (scan log).roles → taken_of e ns ≡ [] → LinkSide e l log → LinkSide e l (log ++ ns)
side_more e l log ns within none t =
    record {
      taken = t.taken;
      kept = t.kept;
      is = λ open'. omega (arith, t.is open', taken_then e log ns, ap length none);
      buffers = t.buffers ∙ sym (role_stays log ns e within).buffers;
    }

comes_more : (log ns : List Note) (m : Mark) (h : SpxHeader) → ComesFrom log m h → ComesFrom (log ++ ns) m h
comes_more log ns m h (inl out) = inl out
comes_more log ns m h (inr f) =
    let r = role_stays log ns f.sender f.within in
    inr (record {
      sender = f.sender;
      allows = f.allows;
      posted = subst (λ b. IsPosted f.sender m.origin f.allows b (log ++ ns)) (sym r.buffers) (posted_more f.sender m.origin f.allows _ log ns f.posted);
      within = r.within;
      limit = f.limit;
    })

scan_then : (log ns : List Note) → scan (log ++ ns) ≡ seen_all (scan log) ns
scan_then log ns = seen_all-append unread log ns

say_same : (parcels : List (List ℕ)) (log ns : List Note) → (seen_all (scan log) ns).marks ≡ (scan log).marks → ParcelSides parcels (scan log).marks log → ParcelSides parcels (scan (log ++ ns)).marks (log ++ ns)
say_same parcels log ns marks say k bytes p h body at reads =
    let is : (scan (log ++ ns)).marks ≡ (scan log).marks = ap (λ (t : Scan). t.marks) (scan_then log ns) ∙ marks in
    subst (λ ms. ComesFrom (log ++ ns) (mark_at ms k) h) (sym is) (comes_more log ns _ h (say k bytes p h body at reads))

say_more : (parcels : List (List ℕ)) (bytes : List ℕ) (log ns : List Note) (m : Mark) → length (scan log).marks ≡ length parcels → (seen_all (scan log) ns).marks ≡ (scan log).marks ++ m ∷ []
    → ((p : PacketView) (h : SpxHeader) (body : List ℕ) → IsConnectionPacket p h body bytes → ComesFrom (log ++ ns) m h)
    → ParcelSides parcels (scan log).marks log → ParcelSides (parcels ++ bytes ∷ []) (scan (log ++ ns)).marks (log ++ ns)
say_more parcels bytes log ns m count marks here say k bs p h body at reads =
    let is : (scan (log ++ ns)).marks ≡ (scan log).marks ++ m ∷ [] = ap (λ (t : Scan). t.marks) (scan_then log ns) ∙ marks in
    subst (λ ms. ComesFrom (log ++ ns) (mark_at ms k) h) (sym is)
    (elim (get_last parcels bytes bs k at) [
      | inl before ↦
          subst (λ (z : Mark). ComesFrom (log ++ ns) z h) (sym (mark_before (scan log).marks m k (omega (arith, slice_get_within parcels k bs before, count))))
          (comes_more log ns _ h (say k bs p h body before reads))
      | inr last ↦
          subst (λ (z : Mark). ComesFrom (log ++ ns) z h) (sym (ap (mark_at ((scan log).marks ++ m ∷ [])) (last.0 ∙ sym count) ∙ mark_here (scan log).marks m))
          (here p h body (subst (IsConnectionPacket p h body) (sym last.1) reads))
    ])

module _ (s : Scene) (f : FactsAt s) (t : SidesAt s) where
  there : (e : ℕ) (w : PresentEnd) → slice_get s.ends e ≡ Some w → e < length (scan s.log).roles
  there e w at = omega (arith, slice_get_within s.ends e w at, f.roles)

  -- the ends are unchanged
  links_same : (ns : List Note) → ((e : ℕ) → taken_of e ns ≡ []) → LinkSides s.ends (s.log ++ ns)
  links_same ns none e w l at is = side_more e l s.log ns (there e w at) (none e) (t.links e w l at is)

  -- one end is replaced
  links_set : (ns : List Note) (who : ℕ) (v : PresentEnd) → ((e : ℕ) → e ≢ who → taken_of e ns ≡ []) → ((l : LinkView) → v.link ≡ Some l → LinkSide who l (s.log ++ ns)) → LinkSides (set s.ends who v) (s.log ++ ns)
  links_set ns who v none new =
      links_put (λ e l. LinkSide e l s.log) (λ e l. LinkSide e l (s.log ++ ns)) s.ends v t.links who
      (λ e w l at ne side. side_more e l s.log ns (there e w at) (none e ne) side) new

  unmade_still : (ends : List PresentEnd) (ns : List Note) → length s.ends ≤ length ends → ((e : ℕ) → length s.ends ≤ e → taken_of e ns ≡ []) → (e : ℕ) → length ends ≤ e → length (taken_of e (s.log ++ ns)) ≡ 0
  unmade_still ends ns le none e past =
      let before : length s.ends ≤ e = omega (arith, le, past) in
      omega (arith, taken_then e s.log ns, t.unmade e before, ap length (none e before))

  -- an end is replaced, and no parcel is made
  writes : (ns : List Note) (who : ℕ) (w v : PresentEnd) → slice_get s.ends who ≡ Some w → ((e : ℕ) → e ≢ who → taken_of e ns ≡ []) → (seen_all (scan s.log) ns).marks ≡ (scan s.log).marks
      → ((l : LinkView) → v.link ≡ Some l → LinkSide who l (s.log ++ ns)) → Sides (set s.ends who v) s.parcels (s.log ++ ns)
  writes ns who w v at none marks new =
      record {
        links = links_set ns who v none new;
        unmade = unmade_still (set s.ends who v) ns (omega (arith, length-set s.ends who v)) (λ e past. none e (λ z. absurd (omega (arith, past, z, slice_get_within s.ends who w at))));
        parcels_say = say_same s.parcels s.log ns marks t.parcels_say;
      }

  -- a link changes in parts that do not matter here
  side_same : (ns : List Note) (who : ℕ) (w : PresentEnd) (l k : LinkView) → IsPresent s who w l → taken_of who ns ≡ [] → SameReceived l k → (k.state ≢ S.Lost → l.state ≢ S.Lost) → (m : LinkView) → (linked w k).link ≡ Some m → LinkSide who m (s.log ++ ns)
  side_same ns who w l k stands none same open' m is =
      let old = side_more who l s.log ns (there who w stands.there) none (t.links who w l stands.there stands.link) in
      let new : k ≡ m = cc is in
      subst (λ x. LinkSide who x (s.log ++ ns)) new
      (record { taken = old.taken; kept = same_kept old.taken l k same old.kept; is = λ o. old.is (open' o); buffers = same.buffers ∙ old.buffers })

  -- an end is added
  comes : (ns : List Note) (v : PresentEnd) (l : LinkView) (r : Role) → v.link ≡ Some l → ((e : ℕ) → taken_of e ns ≡ []) → (seen_all (scan s.log) ns).marks ≡ (scan s.log).marks
      → (seen_all (scan s.log) ns).roles ≡ (scan s.log).roles ++ r ∷ [] → l.buffers ≡ r.buffers → l.expected ≡ 0 → l.held ≡ [] → l.ahead ≡ [] → Sides (s.ends ++ v ∷ []) s.parcels (s.log ++ ns)
  comes ns v l r link none marks roles buffers expected held ahead =
      let role : role_of (scan (s.log ++ ns)) (length s.ends) ≡ r =
      ap (λ (z : Scan). role_of z (length s.ends)) (scan_then s.log ns)
      ∙ read_there (seen_all (scan s.log) ns).roles (length s.ends) r no_role (ap (λ rs. slice_get rs (length s.ends)) roles ∙ ap (slice_get ((scan s.log).roles ++ r ∷ [])) (sym f.roles) ∙ get_here (scan s.log).roles r) in
      let zero' : length (taken_of (length s.ends) (s.log ++ ns)) ≡ 0 = omega (arith, taken_then (length s.ends) s.log ns, t.unmade (length s.ends) (omega arith), ap length (none (length s.ends))) in
      let side : LinkSide (length s.ends) l (s.log ++ ns) = record {
        taken = 0;
        kept = record { expected = omega (arith, expected, ap length held); fits = omega (arith, ap length held, ap length ahead) };
        is = λ o. sym zero';
        buffers = buffers ∙ ap (λ (z : Role). z.buffers) (sym role);
      } in
      record {
        links = links_come (λ e m. LinkSide e m s.log) (λ e m. LinkSide e m (s.log ++ ns)) s.ends v t.links
            (λ e w m at old. side_more e m s.log ns (there e w at) (none e) old)
            (λ m is. let same : Some l ≡ Some m = sym link ∙ is in let new : l ≡ m = cc same in subst (λ x. LinkSide (length s.ends) x (s.log ++ ns)) new side);
        unmade = unmade_still (s.ends ++ v ∷ []) ns (omega (arith, length-append s.ends (v ∷ []))) (λ e past. none e);
        parcels_say = say_same s.parcels s.log ns marks t.parcels_say;
      }

  -- a parcel is added that no end made
  adds_parcel : (n : Note) (bytes : List ℕ) (m : Mark) → ((e : ℕ) → taken_of e (n ∷ []) ≡ []) → (seen (scan s.log) n).marks ≡ (scan s.log).marks ++ m ∷ []
      → ((p : PacketView) (h : SpxHeader) (body : List ℕ) → IsConnectionPacket p h body bytes → ComesFrom (s.log ++ n ∷ []) m h)
      → Sides s.ends (s.parcels ++ bytes ∷ []) (s.log ++ n ∷ [])
  adds_parcel n bytes m none marks here =
      record {
        links = links_same (n ∷ []) none;
        unmade = unmade_still s.ends (n ∷ []) (omega arith) (λ e past. none e);
        parcels_say = say_more s.parcels bytes s.log (n ∷ []) m f.count marks here t.parcels_say;
      }

  -- an end sends a packet
  gives_sides : (laws : LawsBelow) (who now : ℕ) (segment : _) (bytes : List ℕ) (s' : Scene) (does : DoesGive who now segment bytes s s')
      → Sides (set s.ends who (linked does.stand (poll_link does.link now).1)) (s.parcels ++ bytes ∷ []) (s.log ++ note_of does.given.what who (length s.parcels) ∷ [])
  gives_sides laws who now segment bytes s' does =
      let l : LinkView = does.link in
      let k : LinkView = (poll_link l now).1 in
      let n : Note = note_of does.given.what who (length s.parcels) in
      let ns : List Note = n ∷ [] in
      let p = posting (scan s.log) does.given.what who (length s.parcels) in
      let open' : l.state ≢ S.Lost = λ lost. absurd (cc (sym (ap (λ (r : Option OutgoingView × LinkView). r.0) (laws.allowances.lost_polls l now lost)) ∙ does.gives)) in
      let le = laws.allowances.polls l now in
      let here : who < length (scan s.log).roles = there who does.stand does.stands.there in
      let old : LinkSide who l s.log = t.links who does.stand l does.stands.there does.stands.link in
      let given : GivesAs l (Some does.given) k = subst (λ o. GivesAs l o k) does.gives le.gives in
      let role = role_stays s.log ns who here in
      let taken : old.taken ≡ length (taken_of who s.log) = old.is open' in
      let allows : ℕ = old.taken + l.buffers in
      let limit : does.given.header.limit ≡ mark (allows + 65535) = given.0 ∙ omega (arith, old.kept.expected, old.kept.fits) in
      let posted : IsPosted who p.mark.origin allows (role_of (scan (s.log ++ ns)) who).buffers (s.log ++ ns) = record {
        making = n;
        past = s.log;
        later = [];
        made = refl;
        by = subst (IsMadeBy n who) (sym (p.origin ∙ f.count)) p.by;
        known = role.within;
        allows_is = omega (arith, taken, old.buffers, role.buffers);
      } in
      record {
        links = links_set ns who (linked does.stand k) (λ e ne. (p.silent e).taken) (side_same ns who does.stand l k does.stands (p.silent who).taken le.same (λ o. open'));
        unmade = unmade_still (set s.ends who (linked does.stand k)) ns (omega (arith, length-set s.ends who (linked does.stand k))) (λ e past. (p.silent e).taken);
        parcels_say = say_more s.parcels bytes s.log ns p.mark f.count p.marks
            (λ q h body reads.
            let only = written_says laws does.home l does.given bytes does.written q h body reads in
            inr (record { sender = who; allows = allows; posted = posted; within = role.within; limit = ap (λ (x : SpxHeader). x.limit) only.0 ∙ limit }))
            t.parcels_say;
      }

-- there is no entry, and one end's link changes in parts that do not matter here
silent_sides : (s s' : Scene) (who : ℕ) (w : PresentEnd) (l k : LinkView) → FactsAt s → SidesAt s → IsPresent s who w l → s'.ends ≡ set s.ends who (linked w k) → s'.parcels ≡ s.parcels → s'.log ≡ s.log
    → SameReceived l k → (k.state ≢ S.Lost → l.state ≢ S.Lost) → SidesAt s'
silent_sides s s' who w l k f t stands ends parcels log same open' =
    at_scene Sides s' _ _ (s.log ++ []) ends parcels (log ∙ sym (append-nil s.log))
    (writes s f t [] who w (linked w k) stands.there (λ e ne. refl) refl (side_same s f t [] who w l k stands refl same open'))

live_open : (l : LinkView) → refusal l.state ≡ None → l.state ≢ S.Lost
live_open l live lost = absurd (cc (sym live ∙ ap refusal lost))

pub next_sides : (laws : LawsBelow) (s s' : Scene) (deed : Deed) → DoesDeed deed s s' → FactsAt s → SidesAt s → SidesAt s'
next_sides laws s s' (Dials host id socket to buffers now) does f t =
    at_scene Sides s' _ _ _ (ap ends_of does.after) (ap parcels_of does.after) (ap log_of does.after)
    (comes s f t (Opened (length s.ends) host buffers ∷ []) _ _ (record { buffers = buffers; called = true; joined = false; partner = None }) refl (λ e. refl) refl refl refl refl refl refl)
next_sides laws s s' (Accepts host id socket parcel buffers now) does f t =
    at_scene Sides s' _ _ _ (ap ends_of does.after) (ap parcels_of does.after) (ap log_of does.after)
    (comes s f t (Accepted (length s.ends) parcel buffers ∷ Got (length s.ends) parcel ∷ []) _ _ _ refl (λ e. refl) refl refl refl refl refl refl)
next_sides laws s s' (Reads who parcel) does f t =
    let r : Received = (receive_link does.link does.header does.body).0 in
    let k : LinkView = (receive_link does.link does.header does.body).1 in
    let ns : List Note = notes_of r who parcel in
    let old = side_more who does.link s.log ns (there s f t who does.stand does.stands.there) (read_silent r who parcel who).taken (t.links who does.stand does.link does.stands.there does.stands.link) in
    at_scene Sides s' _ _ _ (ap ends_of does.after) (ap parcels_of does.after) (ap log_of does.after)
    (writes s f t ns who does.stand (linked does.stand k) does.stands.there (λ e ne. (read_silent r who parcel e).taken) (read_scan (scan s.log) r who parcel).marks
    (λ m is.
    let new : k ≡ m = cc is in
    subst (λ x. LinkSide who x (s.log ++ ns)) new
    (record {
      taken = old.taken;
      kept = laws.allowances.receives does.link does.header does.body old.taken old.kept;
      is = λ o. old.is (λ lost. does.read (laws.allowances.lost_reads does.link does.header does.body lost));
      buffers = laws.allowances.buffers does.link does.header does.body ∙ old.buffers;
    })))
next_sides laws s s' (OwesReply who) does f t =
    silent_sides s s' who does.stand does.link (owe_reply_link does.link) f t does.stands (ap ends_of does.after) (ap parcels_of does.after) (ap log_of does.after) (record { expected = refl; held = refl; ahead = refl; buffers = refl }) (λ o. o)
next_sides laws s s' (Paces who window manual) does f t =
    silent_sides s s' who does.stand does.link (pace_link does.link window manual) f t does.stands (ap ends_of does.after) (ap parcels_of does.after) (ap log_of does.after) (record { expected = refl; held = refl; ahead = refl; buffers = refl }) (λ o. o)
next_sides laws s s' (AsksAgain who place) does f t =
    silent_sides s s' who does.stand does.link (again_link does.link place) f t does.stands (ap ends_of does.after) (ap parcels_of does.after) (ap log_of does.after) (record { expected = refl; held = refl; ahead = refl; buffers = refl }) (λ o. o)
next_sides laws s s' (Gives who now segment bytes) does f t =
    at_scene Sides s' _ _ _ (ap ends_of does.after) (ap parcels_of does.after) (ap log_of does.after) (gives_sides s f t laws who now segment bytes s' does)
next_sides laws s s' (Rests who now) does f t =
    silent_sides s s' who does.stand does.link (poll_link does.link now).1 f t does.stands (ap ends_of does.after) (ap parcels_of does.after) (ap log_of does.after) (laws.allowances.polls does.link now).same
    (λ o lost. o (ap (λ (r : Option OutgoingView × LinkView). r.1.state) (laws.allowances.lost_polls does.link now lost) ∙ lost))
next_sides laws s s' (Sends who m) does f t =
    at_scene Sides s' _ _ _ (ap ends_of does.after) (ap parcels_of does.after) (ap log_of does.after)
    (writes s f t (HandsIn who m ∷ []) who does.stand _ does.stands.there (λ e ne. refl) refl
    (side_same s f t (HandsIn who m ∷ []) who does.stand does.link (offer_link does.link (cut_of m)) does.stands refl (record { expected = refl; held = refl; ahead = refl; buffers = refl }) (λ o. o)))
next_sides laws s s' (Takes who u) does f t =
    let l : LinkView = does.link in
    let k : LinkView = (take_link l).1 in
    let ns : List Note = TakesUnit who u ∷ out_notes who does.joins.messages in
    let old = t.links who does.stand l does.stands.there does.stands.link in
    let took : Took l u k = laws.allowances.takes l u does.gives in
    let one : length (taken_of who ns) ≡ 1 = ap (λ us. length (us ++ taken_of who (out_notes who does.joins.messages))) (cond-true (who == who) (u ∷ []) [] (eqb_same who)) ∙ ap (λ us. length (u ∷ us)) (outs_taken who who does.joins.messages) in
    let role = role_stays s.log ns who (there s f t who does.stand does.stands.there) in
    at_scene Sides s' _ _ _ (ap ends_of does.after) (ap parcels_of does.after) (ap log_of does.after)
    (writes s f t ns who does.stand _ does.stands.there
    (λ e ne. ap (λ us. us ++ taken_of e (out_notes who does.joins.messages)) (cond-false (who == e) (u ∷ []) [] (ne_eqb who e (λ z. ne (sym z)))) ∙ outs_taken e who does.joins.messages)
    (ap (λ (z : Scan). z.marks) (outs_seen (scan s.log) who does.joins.messages))
    (λ m is.
    let new : k ≡ m = cc is in
    subst (λ x. LinkSide who x (s.log ++ ns)) new
    (record {
      taken = old.taken + 1;
      kept = took_kept old.taken l k u took old.kept;
      is = λ o. omega (arith, old.is (λ lost. o (took.state ∙ lost)), taken_then who s.log ns, one);
      buffers = took.buffers ∙ old.buffers ∙ sym role.buffers;
    })))
next_sides laws s s' (Overruns who u) does f t =
    let l : LinkView = does.link in
    let k : LinkView = (take_link l).1 in
    let old = t.links who does.stand l does.stands.there does.stands.link in
    let took : Took l u k = laws.allowances.takes l u does.gives in
    let kept = took_kept old.taken l k u took old.kept in
    let role = role_stays s.log [] who (there s f t who does.stand does.stands.there) in
    at_scene Sides s' _ _ (s.log ++ []) (ap ends_of does.after) (ap parcels_of does.after) (ap log_of does.after ∙ sym (append-nil s.log))
    (writes s f t [] who does.stand _ does.stands.there (λ e ne. refl) refl
    (λ m is.
    let new : lose_link k ≡ m = cc is in
    subst (λ x. LinkSide who x (s.log ++ [])) new
    (record {
      taken = old.taken + 1;
      kept = record { expected = kept.expected; fits = kept.fits };
      is = λ o. absurd (o refl);
      buffers = took.buffers ∙ old.buffers ∙ sym role.buffers;
    })))
next_sides laws s s' (Closes who) does f t =
    at_scene Sides s' _ _ _ (ap ends_of does.after) (ap parcels_of does.after) (ap log_of does.after)
    (writes s f t (AsksEnd who ∷ []) who does.stand _ does.stands.there (λ e ne. refl) refl
    (side_same s f t (AsksEnd who ∷ []) who does.stand does.link (end_link does.link) does.stands refl (record { expected = refl; held = refl; ahead = refl; buffers = refl }) (λ o. live_open does.link does.live)))
next_sides laws s s' (Releases who) does f t =
    at_scene Sides s' _ _ _ (ap ends_of does.after) (ap parcels_of does.after) (ap log_of does.after)
    (writes s f t (Released who ∷ []) who does.stand _ does.stands.there (λ e ne. refl) refl (λ m is. absurd (cc is)))
next_sides laws s s' (Carries from network segment bytes) does f t =
    at_scene Sides s' _ _ _ (ap ends_of does.after) (ap parcels_of does.after) (ap log_of does.after)
    (adds_parcel s f t (Carried from (length s.parcels)) bytes (one_further (mark_of (scan s.log) from)) (λ e. refl) refl
    (λ p h body reads.
    let back = carried_reads laws network does.old bytes does.on p h body reads in
    further (s.log ++ Carried from (length s.parcels) ∷ []) (mark_of (scan s.log) from) h
    (comes_more s.log (Carried from (length s.parcels) ∷ []) (mark_of (scan s.log) from) h (t.parcels_say from does.old back.0 h body does.comes back.1))))
  where
    further : (log : List Note) (m : Mark) (h : SpxHeader) → ComesFrom log m h → ComesFrom log (one_further m) h
    further log m h (inl out) = inl out
    further log m h (inr x) = inr (record { sender = x.sender; allows = x.allows; posted = x.posted; within = x.within; limit = x.limit })
next_sides laws s s' (Tells router segment bytes) does f t =
    at_scene Sides s' _ _ _ (ap ends_of does.after) (ap parcels_of does.after) (ap log_of does.after)
    (adds_parcel s f t (Told router (length s.parcels)) bytes _ (λ e. refl) refl
    (λ p h body reads.
    let same : p ≡ does.packet = (laws.one_packet p does.packet bytes reads.tail [] reads.packet does.is).0 in
    absurd (does.kind (ap (λ (d : PacketView). d.header.kind) (sym same) ∙ reads.kind))))
next_sides laws s s' (Injects segment bytes) does f t =
    at_scene Sides s' _ _ _ (ap ends_of does) (ap parcels_of does) (ap log_of does)
    (adds_parcel s f t (Injected (length s.parcels)) bytes _ (λ e. refl) refl (λ p h body reads. inl refl))

sides_begun : (s : Scene) → IsBegun s → SidesAt s
sides_begun s is =
    at_scene Sides s [] [] [] is.ends is.parcels is.log
    (record { links = λ e w l at. absurd (cc at); unmade = λ e past. refl; parcels_say = λ k bytes p h body at. absurd (cc at) })

pub sides_along : (laws : LawsBelow) {s : Scene} → Reached s → SidesAt s
sides_along laws {s} (begun is) = sides_begun s is
sides_along laws {s} (happened old deed reached does) = next_sides laws old s deed does (facts_along laws reached) (sides_along laws reached)
