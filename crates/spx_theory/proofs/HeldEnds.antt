-- An end is opened, or made by a request.
use Rattle.std.proofs.Common.{◌≡◌, ◌≢◌, ◌+◌, ◌≤◌, ◌==◌, ℕ, zero, suc, max, true, false, List, [], ◌∷◌, ◌++◌, length, drop, Option, Some, None, refl, sym, ◌∙◌, inl, inr, ap, subst, arith, length-append, ne_eqb}
use Rattle.std.specs.Prelude.{slice_get}
use Rattle.std.proofs.lemmas.List.{append-nil}
use Rattle.std.proofs.lemmas.Bool.{cases_eq, cond-true, cond-false}
use Rattle.std.proofs.lemmas.Bool.Decides.{nat_tests}
use Rattle.std.proofs.lemmas.Option.{slice_get_within}
use Rattle.ipx_wire.specs.declared.address.Socket.{Socket}
use Rattle.ipx_wire.specs.declared.address.Address.{Address}
use Rattle.ipx_wire.specs.declared.spx.packet.SpxHeader.{SpxHeader}
use Rattle.ipx_wire.specs.Ipx.{PacketView}
use Rattle.spx_link.specs.declared.unit.Unit.{Unit}
use Rattle.spx_link.specs.Limits.{most_units}
use Rattle.spx_link.specs.LinkView.{LinkView}
use Rattle.spx_link.specs.SequenceMarks.{mark, room_after}
use Rattle.spx_link.specs.Receive.{is_system}
use Rattle.spx_link.specs.Offer.{dialed, accepted_from}
use Rattle.spx_link.specs.Machine.{End, Packet, got, learned, read_unit}
use Rattle.std.specs.Prelude.{Contains}
use Rattle.spx_theory.proofs.Running.{got_runs, runs_over}
use Rattle.spx_theory.proofs.Stepping.{swapped}
use Rattle.ipx_wire.specs.Connection.{IsConnectionPacket}
use Rattle.spx_theory.specs.Note.{Opened, Accepted, Got}
use Rattle.spx_theory.specs.Scan.{Scan, Role, seen, seen_all, mark_of, asker}
use Rattle.spx_theory.specs.Peers.{end_of}
use Rattle.spx_theory.proofs.OfTwo.{AreRoles}
use Rattle.spx_theory.specs.PairLog.{Half, Pair, half_after, pair_from, got_mail, mail_of}
use Rattle.spx_theory.specs.Tracks.{Formed, Follows}
use Rattle.spx_theory.specs.Spelling.{Carries}
use Rattle.spx_theory.specs.States.{is_quiet}
use Rattle.spx_theory.specs.Scene.{PresentEnd}
use Rattle.spx_messages.specs.WrittenPackets.{IsRequestFor}
use Rattle.spx_theory.proofs.Lists.{get_last, get_before, get_here, read_there}
use Rattle.spx_theory.proofs.Tied.{mark_at, Letter}
use Rattle.spx_theory.proofs.Moving.{moves, sees_same}
use Rattle.spx_theory.proofs.Reading.{got_same, got_later, got_later_back}
use Rattle.spx_theory.proofs.Speaking.{eqb_same}
use Rattle.spx_theory.proofs.Others.{elsewhere}
use Rattle.spx_theory.proofs.HeldReads.{asker_end}
use Rattle.spx_theory.proofs.Held.{Held, IsNew, IsUnjoined}
use Rattle.spx_theory.specs.Below.{LawsBelow}

pub formed_none : Formed [] false
formed_none = record { stream = λ k u at. absurd (cc at); end = λ k u at. absurd (cc at); there = λ e. absurd (cc e) }

-- a new link is a new end
pub dialed_follows : (id : ℕ) (socket : Socket) (to : Address) (buffers now a : ℕ) (x y : End) → IsNew a x → buffers ≡ a → buffers ≤ most_units → Follows (dialed id socket to buffers now) x y
dialed_follows id socket to buffers now a x y n same small =
    record {
      tracks = record {
        counts = record {
          next = sym (ap mark n.sent);
          expected = sym (ap mark n.read);
          out = omega (arith, n.base, n.sent);
          room = omega (arith, n.sent, n.limit);
          held = omega (arith, n.taken, n.read);
          buffers = same ∙ sym n.buffers;
          window = omega arith;
          small = omega (arith, n.buffers, same, small);
        };
        queue = rw (n.base, n.units) refl;
        held = rw (n.taken, n.read) refl;
        kept = n.kept;
        open' = rw n.kept refl;
        ahead = λ k u at. absurd (cc at);
        ended = λ e. absurd (cc e);
        formed = rw n.units formed_none;
      };
      open' = λ e. refl;
    }

pub accepted_follows : (id : ℕ) (socket : Socket) (from : Address) (h : SpxHeader) (buffers now b : ℕ) (x y : End) (q : Packet) → IsNew b y → buffers ≡ b → buffers ≤ most_units
    → q.position ≡ None → q.read ≡ 0 → q.allows ≤ most_units → h.limit ≡ mark (q.allows + 65535)
    → Follows (accepted_from id socket from h buffers now) (got q y) x
accepted_follows id socket from h buffers now b x y q n same small none read allows limit =
    let is : got q y ≡ learned q y = ap (λ o. read_unit o (learned q y)) none in
    let room : room_after 0 0 h.limit ≡ q.allows = ap (room_after 0 0) limit ∙ room_is q.allows allows in
    subst (λ e. Follows (accepted_from id socket from h buffers now) e x) (sym is)
    (record {
      tracks = record {
        counts = record {
          next = sym (ap mark n.sent);
          expected = sym (ap mark n.read);
          out = omega (arith, n.base, n.sent, read);
          room = omega (arith, n.sent, n.limit, room);
          held = omega (arith, n.taken, n.read);
          buffers = same ∙ sym n.buffers;
          window = omega arith;
          small = omega (arith, n.buffers, same, small);
        };
        queue = rw (n.units) (sym (drop-nil (max y.base q.read)));
        held = rw (n.taken, n.read) refl;
        kept = n.kept;
        open' = rw n.kept refl;
        ahead = λ k u at. absurd (cc at);
        ended = λ e. absurd (cc e);
        formed = rw n.units formed_none;
      };
      open' = λ e. refl;
    })
  where
    room_is : (k : ℕ) → k ≤ 8192 → room_after 0 0 (mark (k + 65535)) ≡ k
    room_is k within = grind (arith, nat_tests)

    drop-nil : (k : ℕ) → drop {A = Unit} k [] ≡ []
    drop-nil zero = refl
    drop-nil (suc k) = refl

module _ (c d a b : ℕ) (differ : c ≢ d) (ends : List PresentEnd) (parcels : List (List ℕ)) (s : Scan) (p : Pair) where
  -- an end that is neither of the two is added
  pub other_comes : (e : PresentEnd) (r : Role) (t : Scan) (q : Pair) → length s.roles ≡ length ends → length ends ≢ c → length ends ≢ d
      → t.marks ≡ s.marks → t.sent ≡ s.sent → t.roles ≡ s.roles ++ r ∷ [] → q.one ≡ p.one → q.two ≡ p.two
      → Held c d a b ends parcels s p → Held c d a b (ends ++ e ∷ []) parcels t q
  other_comes e r t q count not_c not_d marks sent roles one two h =
      let before : (k : ℕ) → length ends ≢ k → (f : PresentEnd) → slice_get (ends ++ e ∷ []) k ≡ Some f → slice_get ends k ≡ Some f =
      λ k ne f at. elim (get_last ends e f k at) [ inl was ↦ was | inr new ↦ absurd (ne (sym new.0)) ] in
      let u : IsUnjoined t.roles c → IsUnjoined s.roles c = λ v g at. v g (ap (λ rs. slice_get rs c) roles ∙ get_before s.roles (r ∷ []) g c at) in
      record {
        whole = rw (marks, sent, one, two) (elsewhere c d ends (ends ++ e ∷ []) parcels s.marks s.sent p.one p.two (before c not_c) (before d not_d) h.whole);
        early = λ v. rw one (h.early (u v));
        quiet = λ v f m there link. h.quiet (u v) f m (before c not_c f there) link;
        unmade = λ past. rw two (h.unmade (omega (arith, past, length-append ends (e ∷ []))));
      }

  -- an end dials
  pub dials_held : (host id : ℕ) (socket : Socket) (to : Address) (buffers now : ℕ) → length s.roles ≡ length ends → buffers ≤ most_units
      → AreRoles c d a b (seen s (Opened (length ends) host buffers))
      → Held c d a b ends parcels s p
      → Held c d a b (ends ++ record { host = host; own = id; link = Some (dialed id socket to buffers now); rest = None; overlong = false } ∷ []) parcels
      (seen s (Opened (length ends) host buffers)) p
  dials_held host id socket to buffers now count small roles h =
      let e : PresentEnd = record { host = host; own = id; link = Some (dialed id socket to buffers now); rest = None; overlong = false } in
      let r : Role = record { buffers = buffers; called = true; joined = false; partner = None } in
      let t : Scan = seen s (Opened (length ends) host buffers) in
      elim (cases_eq (length ends) c) [
        | inl one ↦
            let role : slice_get (s.roles ++ r ∷ []) c ≡ Some r = subst (λ k. slice_get (s.roles ++ r ∷ []) k ≡ Some r) (count ∙ one) (get_here s.roles r) in
            let same : buffers ≡ a = (roles.caller r role).0 in
            let new : IsNew a p.one.end = h.early (λ g at. absurd (omega (arith, slice_get_within s.roles c g at, count, one))) in
            record {
              whole = record {
                sound = h.whole.sound;
                run = h.whole.run;
                count = h.whole.count;
                one = moves c d ends (ends ++ e ∷ []) parcels s.marks s.sent p.one p.two p.one p.two
                    (record {
                      later = omega arith;
                      more = [];
                      units = sym (append-nil p.one.end.units);
                      mail = refl;
                      sent = refl;
                      buffers = refl;
                      bag = λ g there. there;
                      formed = h.whole.one.formed;
                      link = λ f m at is. elim (get_last ends e f c at) [
                        | inl was ↦ absurd (omega (arith, slice_get_within ends c f was, one))
                        | inr here ↦
                            let link : Some (dialed id socket to buffers now) ≡ Some m = ap (λ (z : PresentEnd). z.link) here.1 ∙ is in
                            let is' : dialed id socket to buffers now ≡ m = cc link in
                            subst (λ n. Follows n p.one.end p.two.end) is' (dialed_follows id socket to buffers now a p.one.end p.two.end new same small)
                      ];
                    }) h.whole.one;
                two = moves d c ends (ends ++ e ∷ []) parcels s.marks s.sent p.two p.one p.two p.one
                    (record {
                      later = omega arith;
                      more = [];
                      units = sym (append-nil p.two.end.units);
                      mail = refl;
                      sent = refl;
                      buffers = refl;
                      bag = λ g there. there;
                      formed = h.whole.two.formed;
                      link = λ f m at is. elim (get_last ends e f d at) [ inl was ↦ h.whole.two.link f m was is | inr here ↦ absurd (differ (sym one ∙ sym here.0)) ];
                    }) h.whole.two;
              };
              early = λ u. new;
              quiet = λ u f m at is. elim (get_last ends e f c at) [
                | inl was ↦ absurd (omega (arith, slice_get_within ends c f was, one))
                | inr here ↦
                    let link : Some (dialed id socket to buffers now) ≡ Some m = ap (λ (z : PresentEnd). z.link) here.1 ∙ is in
                    let is' : dialed id socket to buffers now ≡ m = cc link in
                    subst (λ (n : LinkView). is_quiet n.state ≡ true) is' refl
              ];
              unmade = λ past. h.unmade (omega (arith, past, length-append ends (e ∷ [])));
            }
        | inr not_c ↦ elim (cases_eq (length ends) d) [
          | inl two ↦
              let role : slice_get (s.roles ++ r ∷ []) d ≡ Some r = subst (λ k. slice_get (s.roles ++ r ∷ []) k ≡ Some r) (count ∙ two) (get_here s.roles r) in
              absurd (cc (roles.callee r role).1)
          | inr not_d ↦ other_comes e r t p count not_c not_d refl refl refl refl refl h
        ]
      ]

  -- a request makes an end
  pub accepts_held : (laws : LawsBelow) (host id : ℕ) (socket : Socket) (from : Address) (k buffers now : ℕ) (bytes : List ℕ) (g : PacketView) (h : SpxHeader) (body : List ℕ)
      → length s.roles ≡ length ends → buffers ≤ most_units → slice_get parcels k ≡ Some bytes → IsConnectionPacket g h body bytes → IsRequestFor h
      → AreRoles c d a b (seen_all s (Accepted (length ends) k buffers ∷ Got (length ends) k ∷ []))
      → Held c d a b ends parcels s p
      → Held c d a b (ends ++ record { host = host; own = id; link = Some (accepted_from id socket from h buffers now); rest = None; overlong = false } ∷ []) parcels
      (seen_all s (Accepted (length ends) k buffers ∷ Got (length ends) k ∷ [])) (pair_from parcels c d p (Accepted (length ends) k buffers ∷ Got (length ends) k ∷ []))
  accepts_held laws host id socket from k buffers now bytes g h body count small comes reads request roles held =
      let l : LinkView = accepted_from id socket from h buffers now in
      let e : PresentEnd = record { host = host; own = id; link = Some l; rest = None; overlong = false } in
      let r : Role = record { buffers = buffers; called = false; joined = true; partner = asker (mark_of s k).maker } in
      let t : Scan = seen_all s (Accepted (length ends) k buffers ∷ Got (length ends) k ∷ []) in
      let ends' : List PresentEnd = ends ++ e ∷ [] in
      let still_c : length ends ≢ c → half_after parcels c p.one p.two (Got (length ends) k) ≡ p.one = λ ne. cond-false (length ends == c) (got_mail (mail_of p.two k) p.one) p.one (ne_eqb (length ends) c ne) in
      let still_d : length ends ≢ d → half_after parcels d p.two p.one (Got (length ends) k) ≡ p.two = λ ne. cond-false (length ends == d) (got_mail (mail_of p.one k) p.two) p.two (ne_eqb (length ends) d ne) in
      elim (cases_eq (length ends) c) [
        | inl one ↦
            let role : slice_get (s.roles ++ r ∷ []) c ≡ Some r = subst (λ j. slice_get (s.roles ++ r ∷ []) j ≡ Some r) (count ∙ one) (get_here s.roles r) in
            absurd (cc (roles.caller r role).1)
        | inr not_c ↦ elim (cases_eq (length ends) d) [
          | inl two ↦
              let role : slice_get (s.roles ++ r ∷ []) d ≡ Some r = subst (λ j. slice_get (s.roles ++ r ∷ []) j ≡ Some r) (count ∙ two) (get_here s.roles r) in
              let facts = roles.callee r role in
              let by : end_of (mark_at s.marks k).maker ≡ Some c = asker_end (mark_of s k).maker c (facts.3) in
              let found = held.whole.one.all k (omega (arith, slice_get_within parcels k bytes comes, held.whole.count)) by in
              let q : Packet = found.0 in
              let mail : mail_of p.one k ≡ Some q = read_there p.one.mail k (Some q) None found.1 in
              let letter : Letter c d parcels s.marks s.sent p.one p.two k q = held.whole.one.letters k q found.1 in
              let says = letter.says bytes comes g h body reads in
              let new : IsNew b p.two.end = held.unmade (omega (arith, two)) in
              let system : is_system h ≡ true = system_request h request in
              let none : q.position ≡ None = no_unit q.position p.one.end.units h body says.1 system in
              let read : q.read ≡ 0 = omega (arith, letter.was.reads_sent, letter.was.receiver_sent, new.sent) in
              let allows : q.allows ≤ most_units = omega (arith, letter.was.spread, read, held.whole.one.small) in
              let y' : Half = record p.two { end = got q p.two.end } in
              let follows : Follows l y'.end p.one.end = accepted_follows id socket from h buffers now b p.one.end p.two.end q new facts.0 small none read allows says.0.limit in
              let units : y'.end.units ≡ p.two.end.units = got_same (λ (x : End). x.units) q p.two.end (λ i j x. refl) (λ i j x. refl) in
              let is_d : half_after parcels d p.two p.one (Got (length ends) k) ≡ y' = cond-true (length ends == d) (got_mail (mail_of p.one k) p.two) p.two (subst (λ j. (length ends == j) ≡ true) two (eqb_same (length ends))) ∙ ap (λ o. got_mail o p.two) mail in
              subst (λ x. Held c d a b ends' parcels t (record { one = x; two = half_after parcels d p.two p.one (Got (length ends) k) })) (sym (still_c not_c))
              (subst (λ y. Held c d a b ends' parcels t (record { one = p.one; two = y })) (sym is_d)
              (record {
                whole = record {
                  run = runs_over y'.end p.one.end (got_runs p.two.end p.one.end (runs_over p.one.end p.two.end held.whole.run) q letter.posted);
                  sound = swapped y'.end p.one.end (laws.gets p.two.end p.one.end q (swapped p.one.end p.two.end held.whole.sound) letter.was);
                  count = held.whole.count;
                  one = moves c d ends ends' parcels s.marks s.sent p.one p.two p.one y'
                      (record {
                        later = got_later_back p.two.end p.one.end q;
                        more = [];
                        units = sym (append-nil p.one.end.units);
                        mail = refl;
                        sent = refl;
                        buffers = refl;
                        bag = λ g there. there;
                        formed = held.whole.one.formed;
                        link = λ f m at is. elim (get_last ends e f c at) [
                          | inl was ↦ sees_same m p.one.end p.two.end y'.end units (held.whole.one.link f m was is)
                          | inr here ↦ absurd (not_c (sym here.0))
                        ];
                      }) held.whole.one;
                  two = moves d c ends ends' parcels s.marks s.sent p.two p.one y' p.one
                      (record {
                        later = got_later p.two.end p.one.end q;
                        more = [];
                        units = units ∙ sym (append-nil p.two.end.units);
                        mail = refl;
                        sent = got_same (λ (x : End). x.sent) q p.two.end (λ i j x. refl) (λ i j x. refl);
                        buffers = got_same (λ (x : End). x.buffers) q p.two.end (λ i j x. refl) (λ i j x. refl);
                        bag = λ g there. subst (λ gs. Contains gs g) (sym (got_same (λ (x : End). x.bag) q p.two.end (λ i j x. refl) (λ i j x. refl))) there;
                        formed = (held.whole.two.formed.0, subst (λ us. Formed us held.whole.two.formed.0) (sym units) held.whole.two.formed.1);
                        link = λ f m at is. elim (get_last ends e f d at) [
                          | inl was ↦ absurd (omega (arith, slice_get_within ends d f was, two))
                          | inr here ↦
                              let link : Some l ≡ Some m = ap (λ (z : PresentEnd). z.link) here.1 ∙ is in
                              let is' : l ≡ m = cc link in
                              subst (λ n. Follows n y'.end p.one.end) is' follows
                        ];
                      }) held.whole.two;
                };
                early = λ u. held.early (λ f at. u f (get_before s.roles (r ∷ []) f c at));
                quiet = λ u f m at is. elim (get_last ends e f c at) [
                  | inl was ↦ held.quiet (λ f' at'. u f' (get_before s.roles (r ∷ []) f' c at')) f m was is
                  | inr here ↦ absurd (not_c (sym here.0))
                ];
                unmade = λ past. absurd (omega (arith, past, two, length-append ends (e ∷ [])));
              }))
          | inr not_d ↦ other_comes e r t (pair_from parcels c d p (Accepted (length ends) k buffers ∷ Got (length ends) k ∷ [])) count not_c not_d refl refl refl (still_c not_c) (still_d not_d) held
        ]
      ]
    where
      system_request : (h' : SpxHeader) → IsRequestFor h' → is_system h' ≡ true
      system_request h' req =
          let low : (h'.stream == 254) ≡ false = ne_eqb h'.stream 254 (λ z. omega (arith, z, req.stream)) in
          rw (req.system, low) refl

      no_unit : (o : Option ℕ) (us : List Unit) (h' : SpxHeader) (body' : List ℕ) → Carries o us h' body' → is_system h' ≡ true → o ≡ None
      no_unit None us h' body' carries system = refl
      no_unit (Some n) us h' body' carries system = absurd (cc (sym carries.0 ∙ system))
