-- Each parcel is its origin, or was forwarded from it by routers.
use Rattle.std.proofs.Common.{◌≡◌, ◌≢◌, ◌⊎◌, ◌<◌, ◌+◌, ◌==◌, ℕ, Bool, true, false, cond, List, [], ◌∷◌, ◌++◌, length, Some, refl, sym, ◌∙◌, ap, subst, arith, inl, inr, length-append, add_assoc}
use Rattle.std.specs.Prelude.{slice_get}
use Rattle.std.proofs.lemmas.Option.{slice_get_within}
use Rattle.std.proofs.lemmas.Bool.Decides.{nat_tests}
use Rattle.ipx_wire.specs.declared.address.Network.{Network}
use Rattle.ipx_wire.specs.Ipx.{PacketView, IsIpx}
use Rattle.spx_link.specs.declared.outgoing.Sent.{Sent}
use Rattle.spx_link.specs.declared.received.Received.{Received}
use Rattle.spx_link.specs.Receive.{receive_link}
use Rattle.spx_theory.specs.Note.{Note, Opened, Accepted, Got, HandsIn, AsksEnd, TakesUnit, Released, Told, Carried, Injected}
use Rattle.spx_theory.specs.Scan.{Scan, Mark, seen, seen_all, scan, unread, one_further}
use Rattle.spx_theory.specs.Scene.{Scene}
use Rattle.spx_theory.specs.PacketsOnWay.{IsOneOn, one_on, note_of, notes_of, out_notes}
use Rattle.spx_theory.specs.Deeds.{Deed, DoesDeed, Dials, Accepts, Reads, OwesReply, Paces, AsksAgain, Gives, Rests, Sends, Takes, Overruns, Closes, Releases, Carries, Tells, Injects, Reached, begun, happened}
use Rattle.spx_theory.specs.Carried.{after_routers, IsCarried, RoutersAlterOnlyHops}
use Rattle.spx_theory.proofs.Lists.{get_last, get_before, get_here}
use Rattle.spx_theory.proofs.Tied.{mark_at}
use Rattle.spx_theory.proofs.Adding.{mark_before, mark_here}
use Rattle.spx_theory.proofs.Folding.{seen_all-append}
use Rattle.spx_theory.proofs.Held.{outs_seen}
use Rattle.spx_link.specs.declared.outgoing.Sent.TheVariants as Sents
use Rattle.spx_link.specs.declared.received.Received.TheVariants as Rs
use Rattle.spx_theory.specs.Below.{LawsBelow}
use Rattle.spx_theory.proofs.Fields.{log_of, parcels_of}

-- ---- one more router

not_zero : (n : ℕ) → n ≢ 0 → (n == 0) ≡ false
not_zero n h = grind (arith, nat_tests)

-- if the source network is set, another router does not change it
net_twice : (own n here : Network) → n.0 ≢ 0 → (b : Bool) → b ≡ (own.0 == 0) → cond ((cond b n own).0 == 0) here (cond b n own) ≡ cond b n own
net_twice own n here h true e = rw (not_zero n.0 h) refl
net_twice own n here h false e = rw (sym e) refl

twice : (network here : Network) (passed : ℕ) (p : PacketView) → network.0 ≢ 0 → one_on here (after_routers passed network p) ≡ after_routers (passed + 1) network p
twice network here passed p h =
    rw (add_assoc p.header.hops passed 1, net_twice p.header.from.network network here h (p.header.from.network.0 == 0) refl) refl

-- the parcel k with this mark: the network of its origin, and what was forwarded
pub record Comes (parcels : List (List ℕ)) (segments : List Network) (k : ℕ) (bytes : List ℕ) (m : Mark) : Type 0 where
  pub origin : List ℕ
  pub network : Network
  pub there : slice_get parcels m.origin ≡ Some origin
  pub lies : slice_get segments m.origin ≡ Some network
  pub from : ((m.passed ≡ 0) × (bytes ≡ origin) × (m.origin ≡ k)) ⊎ ((0 < m.passed) × (network.0 ≢ 0) × IsCarried network m.passed origin bytes)

carried : (laws : LawsBelow) (parcels : List (List ℕ)) (segments : List Network) (from k : ℕ) (network : Network) (old new : List ℕ) (m : Mark)
    → Comes parcels segments from old m → slice_get segments from ≡ Some network → IsOneOn network old new → Comes parcels segments k new (one_further m)
carried laws parcels segments from k network old new m c at on =
    record {
      origin = c.origin;
      network = c.network;
      there = c.there;
      lies = c.lies;
      from = elim c.from [
        | inl own ↦
            let same : network ≡ c.network = cc (sym at ∙ ap (slice_get segments) (sym own.2) ∙ c.lies) in
            let one : m.passed + 1 ≡ 1 = omega (arith, own.0) in
            let becomes : IsIpx (after_routers 1 c.network on.packet) new [] = subst (λ (n : Network). IsIpx (one_on n on.packet) new []) same on.becomes in
            inr (
              omega arith,
              (λ zero'. on.network_is (ap (λ (n : Network). n.0) same ∙ zero')),
              record {
                packet = on.packet;
                tail = on.tail;
                is = subst (λ bs. IsIpx on.packet bs on.tail) own.1 on.is;
                becomes = subst (λ n. IsIpx (after_routers n c.network on.packet) new []) (sym one) becomes;
                most = omega (arith, on.hops, own.0);
              },
            )
        | inr far ↦
            let before = far.2 in
            let same : on.packet ≡ after_routers m.passed c.network before.packet = (laws.one_packet on.packet (after_routers m.passed c.network before.packet) old on.tail [] on.is before.becomes).0 in
            let becomes : IsIpx (one_on network (after_routers m.passed c.network before.packet)) new [] = subst (λ (p : PacketView). IsIpx (one_on network p) new []) same on.becomes in
            inr (
              omega arith,
              far.1,
              record {
                packet = before.packet;
                tail = before.tail;
                is = before.is;
                becomes = subst (λ (p : PacketView). IsIpx p new []) (twice c.network network m.passed before.packet far.1) becomes;
                most = omega (arith, on.hops, ap (λ (p : PacketView). p.header.hops) same);
              },
            )
      ];
    }

-- ---- every parcel

pub record Origins (parcels : List (List ℕ)) (segments : List Network) (marks : List Mark) : Type 0 where
  pub count : length marks ≡ length parcels
  pub places : length segments ≡ length parcels
  pub each : (k : ℕ) (bytes : List ℕ) → slice_get parcels k ≡ Some bytes → Comes parcels segments k bytes (mark_at marks k)

stays : (parcels : List (List ℕ)) (bytes : List ℕ) (segments : List Network) (segment : Network) (k : ℕ) (old : List ℕ) (m : Mark)
    → Comes parcels segments k old m → Comes (parcels ++ bytes ∷ []) (segments ++ segment ∷ []) k old m
stays parcels bytes segments segment k old m c =
    record {
      origin = c.origin;
      network = c.network;
      there = get_before parcels (bytes ∷ []) c.origin m.origin c.there;
      lies = get_before segments (segment ∷ []) c.network m.origin c.lies;
      from = c.from;
    }

added : (parcels : List (List ℕ)) (bytes : List ℕ) (segments : List Network) (segment : Network) (marks : List Mark) (m : Mark)
    → Comes (parcels ++ bytes ∷ []) (segments ++ segment ∷ []) (length parcels) bytes m → Origins parcels segments marks
    → Origins (parcels ++ bytes ∷ []) (segments ++ segment ∷ []) (marks ++ m ∷ [])
added parcels bytes segments segment marks m new o =
    record {
      count = omega (arith, o.count, length-append marks (m ∷ []), length-append parcels (bytes ∷ []));
      places = omega (arith, o.places, length-append segments (segment ∷ []), length-append parcels (bytes ∷ []));
      each = λ k bs at. elim (get_last parcels bytes bs k at) [
        | inl before ↦
            let within : k < length marks = omega (arith, slice_get_within parcels k bs before, o.count) in
            subst (λ n. Comes (parcels ++ bytes ∷ []) (segments ++ segment ∷ []) k bs n) (sym (mark_before marks m k within))
            (stays parcels bytes segments segment k bs (mark_at marks k) (o.each k bs before))
        | inr here ↦
            let last : mark_at (marks ++ m ∷ []) k ≡ m = ap (mark_at (marks ++ m ∷ [])) (here.0 ∙ sym o.count) ∙ mark_here marks m in
            subst (λ n. Comes (parcels ++ bytes ∷ []) (segments ++ segment ∷ []) k bs n) (sym last)
            (subst (λ i. Comes (parcels ++ bytes ∷ []) (segments ++ segment ∷ []) i bs m) (sym here.0)
            (subst (λ b. Comes (parcels ++ bytes ∷ []) (segments ++ segment ∷ []) (length parcels) b m) here.1 new))
      ];
    }

-- a parcel that no router forwarded is its own origin
itself : (parcels : List (List ℕ)) (bytes : List ℕ) (segments : List Network) (segment : Network) (m : Mark) → length segments ≡ length parcels → m.origin ≡ length parcels → m.passed ≡ 0
    → Comes (parcels ++ bytes ∷ []) (segments ++ segment ∷ []) (length parcels) bytes m
itself parcels bytes segments segment m places origin passed =
    record {
      origin = bytes;
      network = segment;
      there = ap (slice_get (parcels ++ bytes ∷ [])) origin ∙ get_here parcels bytes;
      lies = ap (slice_get (segments ++ segment ∷ [])) (origin ∙ sym places) ∙ get_here segments segment;
      from = inl (passed, refl, origin);
    }

-- ---- each deed

abbrev pub OriginsAt : Scene → Type 0
OriginsAt s = Origins s.parcels s.segments (scan s.log).marks

pub read_marks : (r : Received) (who k : ℕ) (s : Scan) → (seen_all s (notes_of r who k)).marks ≡ s.marks
read_marks Rs.Joined who k s = refl
read_marks Rs.Kept who k s = refl
read_marks Rs.Repeat who k s = refl
read_marks Rs.Ahead who k s = refl
read_marks Rs.OverAllocation who k s = refl
read_marks Rs.System who k s = refl
read_marks Rs.PeerEnded who k s = refl
read_marks Rs.Confirmed who k s = refl
read_marks Rs.Stranger who k s = refl

-- the mark of a parcel that no router forwarded
pub record IsMarked (s : Scan) (n : Note) : Type 0 where
  pub mark : Mark
  pub marks : (seen s n).marks ≡ s.marks ++ mark ∷ []
  pub origin : mark.origin ≡ length s.marks
  pub passed : mark.passed ≡ 0

pub given_marked : (s : Scan) (what : Sent) (who k : ℕ) → IsMarked s (note_of what who k)
given_marked s Sents.Request who k = record { mark = _; marks = refl; origin = refl; passed = refl }
given_marked s Sents.Reply who k = record { mark = _; marks = refl; origin = refl; passed = refl }
given_marked s Sents.Confirm who k = record { mark = _; marks = refl; origin = refl; passed = refl }
given_marked s Sents.Unit who k = record { mark = _; marks = refl; origin = refl; passed = refl }
given_marked s Sents.Again who k = record { mark = _; marks = refl; origin = refl; passed = refl }
given_marked s Sents.Ack who k = record { mark = _; marks = refl; origin = refl; passed = refl }
given_marked s Sents.Probe who k = record { mark = _; marks = refl; origin = refl; passed = refl }

-- entries that make no parcel
unmoved : (s s' : Scene) (ns : List Note) → s'.parcels ≡ s.parcels → s'.segments ≡ s.segments → s'.log ≡ s.log ++ ns → (seen_all (scan s.log) ns).marks ≡ (scan s.log).marks → OriginsAt s → OriginsAt s'
unmoved s s' ns parcels segments log same o =
    let marks : (scan s'.log).marks ≡ (scan s.log).marks = ap (λ l. (scan l).marks) log ∙ ap (λ (t : Scan). t.marks) (seen_all-append unread s.log ns) ∙ same in
    record {
      count = ap length marks ∙ o.count ∙ sym (ap length parcels);
      places = ap length segments ∙ o.places ∙ sym (ap length parcels);
      each = λ k bytes at.
          let c = o.each k bytes (ap (λ ps. slice_get ps k) (sym parcels) ∙ at) in
          subst (λ ps. Comes ps s'.segments k bytes (mark_at (scan s'.log).marks k)) (sym parcels)
          (subst (λ gs. Comes s.parcels gs k bytes (mark_at (scan s'.log).marks k)) (sym segments)
          (subst (λ ms. Comes s.parcels s.segments k bytes (mark_at ms k)) (sym marks) c));
    }

unnoted : (s s' : Scene) → s'.parcels ≡ s.parcels → s'.segments ≡ s.segments → s'.log ≡ s.log → OriginsAt s → OriginsAt s'
unnoted s s' parcels segments log o =
    subst (λ ps. Origins ps s'.segments (scan s'.log).marks) (sym parcels)
    (subst (λ gs. Origins s.parcels gs (scan s'.log).marks) (sym segments) (subst (λ l. Origins s.parcels s.segments (scan l).marks) (sym log) o))

-- an entry that makes a parcel
moved : (s : Scene) (bytes : List ℕ) (segment : Network) (n : Note) (m : Mark) → (seen (scan s.log) n).marks ≡ (scan s.log).marks ++ m ∷ []
    → Comes (s.parcels ++ bytes ∷ []) (s.segments ++ segment ∷ []) (length s.parcels) bytes m → OriginsAt s
    → Origins (s.parcels ++ bytes ∷ []) (s.segments ++ segment ∷ []) (scan (s.log ++ n ∷ [])).marks
moved s bytes segment n m adds new o =
    subst (λ ms. Origins (s.parcels ++ bytes ∷ []) (s.segments ++ segment ∷ []) ms)
    (sym (ap (λ (t : Scan). t.marks) (seen_all-append unread s.log (n ∷ [])) ∙ adds))
    (added s.parcels bytes s.segments segment (scan s.log).marks m new o)

abbrev segments_of : Scene → List Network
segments_of z = z.segments

next_origins : (laws : LawsBelow) (s s' : Scene) (deed : Deed) → DoesDeed deed s s' → OriginsAt s → OriginsAt s'
next_origins laws s s' (Dials host id socket to buffers now) does o =
    unmoved s s' (Opened (length s.ends) host buffers ∷ []) (ap parcels_of does.after) (ap segments_of does.after) (ap log_of does.after) refl o
next_origins laws s s' (Accepts host id socket parcel buffers now) does o =
    unmoved s s' (Accepted (length s.ends) parcel buffers ∷ Got (length s.ends) parcel ∷ []) (ap parcels_of does.after) (ap segments_of does.after) (ap log_of does.after) refl o
next_origins laws s s' (Reads who parcel) does o =
    unmoved s s' (notes_of (receive_link does.link does.header does.body).0 who parcel) (ap parcels_of does.after) (ap segments_of does.after) (ap log_of does.after)
    (read_marks (receive_link does.link does.header does.body).0 who parcel (scan s.log)) o
next_origins laws s s' (OwesReply who) does o = unnoted s s' (ap parcels_of does.after) (ap segments_of does.after) (ap log_of does.after) o
next_origins laws s s' (Paces who window manual) does o = unnoted s s' (ap parcels_of does.after) (ap segments_of does.after) (ap log_of does.after) o
next_origins laws s s' (AsksAgain who place) does o = unnoted s s' (ap parcels_of does.after) (ap segments_of does.after) (ap log_of does.after) o
next_origins laws s s' (Gives who now segment bytes) does o =
    let g = given_marked (scan s.log) does.given.what who (length s.parcels) in
    subst OriginsAt (sym does.after)
    (moved s bytes segment (note_of does.given.what who (length s.parcels)) g.mark g.marks
    (itself s.parcels bytes s.segments segment g.mark o.places (g.origin ∙ o.count) g.passed) o)
next_origins laws s s' (Rests who now) does o = unnoted s s' (ap parcels_of does.after) (ap segments_of does.after) (ap log_of does.after) o
next_origins laws s s' (Sends who m) does o = unmoved s s' (HandsIn who m ∷ []) (ap parcels_of does.after) (ap segments_of does.after) (ap log_of does.after) refl o
next_origins laws s s' (Takes who u) does o =
    unmoved s s' (TakesUnit who u ∷ out_notes who does.joins.messages) (ap parcels_of does.after) (ap segments_of does.after) (ap log_of does.after)
    (ap (λ (t : Scan). t.marks) (outs_seen (scan s.log) who does.joins.messages)) o
next_origins laws s s' (Overruns who u) does o = unnoted s s' (ap parcels_of does.after) (ap segments_of does.after) (ap log_of does.after) o
next_origins laws s s' (Closes who) does o = unmoved s s' (AsksEnd who ∷ []) (ap parcels_of does.after) (ap segments_of does.after) (ap log_of does.after) refl o
next_origins laws s s' (Releases who) does o = unmoved s s' (Released who ∷ []) (ap parcels_of does.after) (ap segments_of does.after) (ap log_of does.after) refl o
next_origins laws s s' (Carries from network segment bytes) does o =
    let m : Mark = mark_at (scan s.log).marks from in
    subst OriginsAt (sym does.after)
    (moved s bytes segment (Carried from (length s.parcels)) (one_further m) refl
    (stays s.parcels bytes s.segments segment (length s.parcels) bytes (one_further m)
    (carried laws s.parcels s.segments from (length s.parcels) network does.old bytes m (o.each from does.old does.comes) does.at does.on)) o)
next_origins laws s s' (Tells router segment bytes) does o =
    subst OriginsAt (sym does.after)
    (moved s bytes segment (Told router (length s.parcels)) _ refl (itself s.parcels bytes s.segments segment _ o.places o.count refl) o)
next_origins laws s s' (Injects segment bytes) does o =
    subst OriginsAt (sym does)
    (moved s bytes segment (Injected (length s.parcels)) _ refl (itself s.parcels bytes s.segments segment _ o.places o.count refl) o)

pub origins : (laws : LawsBelow) {s : Scene} → Reached s → OriginsAt s
origins laws {s} (begun is) =
    subst (λ ps. Origins ps s.segments (scan s.log).marks) (sym is.parcels)
    (subst (λ gs. Origins [] gs (scan s.log).marks) (sym is.segments)
    (subst (λ l. Origins [] [] (scan l).marks) (sym is.log) (record { count = refl; places = refl; each = λ k bytes at. absurd (cc at) })))
origins laws {s} (happened old deed reached does) = next_origins laws old s deed does (origins laws reached)

pub routers_alter_only_hops : (laws : LawsBelow) (s : Scene) → Reached s → RoutersAlterOnlyHops s
routers_alter_only_hops laws s reached k bytes at =
    let c = (origins laws reached).each k bytes at in
    (c.origin, c.network, c.there, c.lies, elim c.from [ inl own ↦ inl (own.0, own.1) | inr far ↦ inr (far.0, far.2) ])
