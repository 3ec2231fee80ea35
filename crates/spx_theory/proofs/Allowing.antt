-- In the machine of a log every limit was allowed by a packet that was read: a fact of the fold only.
use Rattle.std.proofs.Common.{◌≡◌, ◌⊎◌, ◌+◌, ◌-◌, ◌<◌, ◌==◌, ℕ, max, Bool, true, false, cond, List, [], ◌∷◌, ◌++◌, length, Option, Some, None, refl, sym, ◌∙◌, inl, inr, ap, subst, arith, length-append, eqb-true}
use Rattle.std.specs.Prelude.{slice_get}
use Rattle.std.proofs.lemmas.List.{append-nil, append_assoc}
use Rattle.std.proofs.lemmas.Bool.{cases_lt, cond_both}
use Rattle.std.proofs.lemmas.Option.{slice_get_within}
use Rattle.spx_link.specs.Machine.{End, Packet, got, learned, read_unit, is_awaited, risen, put_mark}
use Rattle.spx_theory.specs.Note.{Note, HandsIn, TakesUnit, AsksEnd, Got, SendsUnit, SendsAgain, SendsSystem, Told, Carried, Injected}
use Rattle.spx_theory.specs.Scan.{Scan, Mark, seen, scan, unread}
use Rattle.spx_theory.specs.Handed.{taken_by, taken_of}
use Rattle.spx_theory.specs.PairLog.{Half, Pair, half_after, pair_after, pair_from, pair_between, new_half, got_mail, mail_of, not_mine, posted, posted_next}
use Rattle.spx_theory.specs.LogPremises.{IsMadeBy}
use Rattle.spx_theory.proofs.Lists.{get_last}
use Rattle.spx_theory.proofs.Tied.{mark_at}
use Rattle.spx_theory.proofs.Reading.{got_same}
use Rattle.spx_theory.proofs.Adding.{mark_before, mark_here}
use Rattle.spx_theory.proofs.Folding.{seen_all-append}
use Rattle.spx_theory.proofs.Gathering.{taken_after, gathered-append}
use Rattle.spx_theory.proofs.Growing.{IsPosted, posted_more, IsAllowing, allowing_more, mark_stays, role_stays}
use Rattle.spx_theory.proofs.Placing.{Numbered, AllNumbered}
use Rattle.spx_theory.proofs.Others.{mail_there}

-- what is added to the mail of the half x of c, and its mark
pub record Comes (c : ℕ) (s : Scan) (x : Half) (n : Note) (o : Option Packet) (m : Mark) : Type 0 where
  pub each : (q : Packet) → o ≡ Some q
      → (IsMadeBy n c m.origin × (q.allows ≡ x.end.taken + x.end.buffers) × (c < length s.roles)) ⊎ ((from : ℕ) × (slice_get x.mail from ≡ Some (Some q)) × (m.origin ≡ (mark_at s.marks from).origin))

abbrev Mails : ℕ → Scan → Half → Half → Note → Type 0
Mails c s x x' n =
    ((x'.mail ≡ x.mail) × ((seen s n).marks ≡ s.marks))
    ⊎ ((o : Option Packet) × (m : Mark) × (x'.mail ≡ x.mail ++ o ∷ []) × ((seen s n).marks ≡ s.marks ++ m ∷ []) × Comes c s x n o m)

pub record Steps (c : ℕ) (s : Scan) (x x' : Half) (n : Note) : Type 0 where
  pub buffers : x'.end.buffers ≡ x.end.buffers
  pub mails : Mails c s x x' n

got_buffers : (o : Option Packet) (x : Half) → (got_mail o x).end.buffers ≡ x.end.buffers
got_buffers None x = refl
got_buffers (Some q) x = got_same (λ (e : End). e.buffers) q x.end (λ b l e. refl) (λ r ks e. refl)

got_mails : (o : Option Packet) (x : Half) → (got_mail o x).mail ≡ x.mail
got_mails None x = refl
got_mails (Some q) x = refl

nothing_comes : (c : ℕ) (s : Scan) (x : Half) (n : Note) (m : Mark) → Comes c s x n None m
nothing_comes c s x n m = record { each = λ q is. absurd (cc is) }

-- an entry that makes no parcel
quiet : (c : ℕ) (s : Scan) (x : Half) (n : Note) (b : Bool) (y : Half) → (seen s n).marks ≡ s.marks → y.end.buffers ≡ x.end.buffers → y.mail ≡ x.mail → Steps c s x (cond b y x) n
quiet c s x n true y marks buffers mail = record { buffers = buffers; mails = inl (mail, marks) }
quiet c s x n false y marks buffers mail = record { buffers = refl; mails = inl (refl, marks) }

-- an entry by which c, or another end, makes a parcel
makes : (c who : ℕ) (s : Scan) (x : Half) (n : Note) (m : Mark) (y : Half) (q : Packet) → (seen s n).marks ≡ s.marks ++ m ∷ [] → y.end.buffers ≡ x.end.buffers → y.mail ≡ x.mail ++ Some q ∷ []
    → (who ≡ c → IsMadeBy n c m.origin) → q.allows ≡ x.end.taken + x.end.buffers → who < length s.roles → Steps c s x (cond (who == c) y (not_mine x)) n
makes c who s x n m y q marks buffers mail by allows known =
    cond_both {A = Half} (who == c) y (not_mine x) (λ z. Steps c s x z n)
    (λ yes. record { buffers = buffers; mails = inr (Some q, m, mail, marks, record { each = λ r is. inl (by (eqb-true who c yes), (let same : q ≡ r = cc is in ap (λ (z : Packet). z.allows) (sym same) ∙ allows), omega (arith, known, eqb-true who c yes)) }) })
    (λ no. record { buffers = refl; mails = inr (None, m, refl, marks, nothing_comes c s x n m) })

pub steps : (parcels : List (List ℕ)) (c : ℕ) (s : Scan) (x y : Half) (n : Note) → Numbered s n → Steps c s x (half_after parcels c x y n) n
steps parcels c s x y (HandsIn who m) is = quiet c s x (HandsIn who m) (who == c) _ refl refl refl
steps parcels c s x y (TakesUnit who u) is = quiet c s x (TakesUnit who u) (who == c) _ refl refl refl
steps parcels c s x y (AsksEnd who) is = quiet c s x (AsksEnd who) (who == c) _ refl refl refl
steps parcels c s x y (Got who parcel) is = quiet c s x (Got who parcel) (who == c) (got_mail (mail_of y parcel) x) refl (got_buffers (mail_of y parcel) x) (got_mails (mail_of y parcel) x)
steps parcels c s x y (SendsUnit who parcel) is =
    makes c who s x (SendsUnit who parcel) _ (posted_next x y) _ refl refl refl (λ same. inl (ap (λ k. SendsUnit k parcel) same ∙ ap (SendsUnit c) is.0)) refl is.1
steps parcels c s x y (SendsAgain who parcel) is =
    makes c who s x (SendsAgain who parcel) _ _ _ refl refl refl (λ same. inr (inl (ap (λ k. SendsAgain k parcel) same ∙ ap (SendsAgain c) is.0))) refl is.1
steps parcels c s x y (SendsSystem who parcel) is =
    makes c who s x (SendsSystem who parcel) _ (posted None x y) _ refl refl refl (λ same. inr (inr (ap (λ k. SendsSystem k parcel) same ∙ ap (SendsSystem c) is.0))) refl is.1
steps parcels c s x y (Told router parcel) is = record { buffers = refl; mails = inr (None, _, refl, refl, nothing_comes c s x (Told router parcel) _) }
steps parcels c s x y (Carried from parcel) is =
    record { buffers = refl; mails = inr (mail_of x from, _, refl, refl, record { each = λ q at. inr (from, mail_there x from q at, refl) }) }
steps parcels c s x y (Injected parcel) is = record { buffers = refl; mails = inr (None, _, refl, refl, nothing_comes c s x (Injected parcel) _) }
steps parcels c s x y n is = record { buffers = refl; mails = inl (refl, refl) }

-- ---- the limit
abbrev Limits : ℕ → Half → Half → Half → Note → Type 0
Limits c x y x' n = (x'.end.limit ≡ x.end.limit) ⊎ ((parcel : ℕ) × (q : Packet) × (n ≡ Got c parcel) × (mail_of y parcel ≡ Some q) × (x'.end.limit ≡ max x.end.limit q.allows))

same_limit : (b : Bool) (x y z : Half) → y.end.limit ≡ x.end.limit → z.end.limit ≡ x.end.limit → (cond b y z).end.limit ≡ x.end.limit
same_limit true x y z e f = e
same_limit false x y z e f = f

learned_limit : (q : Packet) (x : End) → (got q x).limit ≡ max x.limit q.allows
learned_limit q x = same q.position (learned q x)
  where
    same : (o : Option ℕ) (e : End) → (read_unit o e).limit ≡ e.limit
    same None e = refl
    same (Some n) e = cond_both (is_awaited e n) (risen (put_mark (n - e.read) e.kept) e) e (λ (z : End). z.limit ≡ e.limit) (λ yes. refl) (λ no. refl)

got_limit : (c parcel : ℕ) (x y : Half) (o : Option Packet) → mail_of y parcel ≡ o → Limits c x y (got_mail o x) (Got c parcel)
got_limit c parcel x y None is = inl refl
got_limit c parcel x y (Some q) is = inr (parcel, q, refl, is, learned_limit q x.end)

pub limits : (parcels : List (List ℕ)) (c : ℕ) (x y : Half) (n : Note) → Limits c x y (half_after parcels c x y n) n
limits parcels c x y (HandsIn who m) = inl (same_limit (who == c) x _ x refl refl)
limits parcels c x y (TakesUnit who u) = inl (same_limit (who == c) x _ x refl refl)
limits parcels c x y (AsksEnd who) = inl (same_limit (who == c) x _ x refl refl)
limits parcels c x y (Got who parcel) =
    cond_both {A = Half} (who == c) (got_mail (mail_of y parcel) x) x (λ z. Limits c x y z (Got who parcel))
    (λ yes. subst (λ k. Limits c x y (got_mail (mail_of y parcel) x) (Got k parcel)) (sym (eqb-true who c yes)) (got_limit c parcel x y (mail_of y parcel) refl)) (λ no. inl refl)
limits parcels c x y (SendsUnit who parcel) = inl (same_limit (who == c) x (posted_next x y) (not_mine x) refl refl)
limits parcels c x y (SendsAgain who parcel) = inl (same_limit (who == c) x _ (not_mine x) refl refl)
limits parcels c x y (SendsSystem who parcel) = inl (same_limit (who == c) x (posted None x y) (not_mine x) refl refl)
limits parcels c x y n = inl refl

-- ---- over a log
pub record Posts (c b : ℕ) (log : List Note) (x : Half) : Type 0 where
  pub length_is : length x.mail ≡ length (scan log).marks
  pub taken : x.end.taken ≡ length (taken_of c log)
  pub buffers : x.end.buffers ≡ b
  pub mail : (k : ℕ) (q : Packet) → slice_get x.mail k ≡ Some (Some q) → IsPosted c (mark_at (scan log).marks k).origin q.allows b log

seen_last : (log : List Note) (n : Note) → scan (log ++ n ∷ []) ≡ seen (scan log) n
seen_last log n = seen_all-append unread log (n ∷ [])

posts_next : (parcels : List (List ℕ)) (c b : ℕ) (log : List Note) (x y : Half) (n : Note) → Numbered (scan log) n → Posts c b log x → Posts c b (log ++ n ∷ []) (half_after parcels c x y n)
posts_next parcels c b log x y n is p =
    let s : Scan = scan log in
    let x' : Half = half_after parcels c x y n in
    let st = steps parcels c s x y n is in
    let marks : (scan (log ++ n ∷ [])).marks ≡ (seen s n).marks = ap (λ (t : Scan). t.marks) (seen_last log n) in
    let taken : x'.end.taken ≡ length (taken_of c (log ++ n ∷ [])) =
    omega (arith, taken_after parcels c x y n, p.taken, ap length (gathered-append (taken_by c) log (n ∷ [])), length-append (taken_of c log) (taken_of c (n ∷ [])), length-append (taken_by c n) []) in
    elim st.mails [
      | inl still ↦
          record {
            length_is = ap length still.0 ∙ p.length_is ∙ sym (ap length (marks ∙ still.1));
            taken = taken;
            buffers = st.buffers ∙ p.buffers;
            mail = λ k q at.
                subst (λ ms. IsPosted c (mark_at ms k).origin q.allows b (log ++ n ∷ [])) (sym (marks ∙ still.1))
                (posted_more c _ q.allows b log (n ∷ []) (p.mail k q (ap (λ zs. slice_get zs k) (sym still.0) ∙ at)));
          }
      | inr one ↦
          let o : Option Packet = one.0 in
          let m : Mark = one.1 in
          let here : (scan (log ++ n ∷ [])).marks ≡ s.marks ++ m ∷ [] = marks ∙ one.3 in
          record {
            length_is = omega (arith, ap length one.2, length-append x.mail (o ∷ []), ap length here, length-append s.marks (m ∷ []), p.length_is);
            taken = taken;
            buffers = st.buffers ∙ p.buffers;
            mail = λ k q at.
                subst (λ ms. IsPosted c (mark_at ms k).origin q.allows b (log ++ n ∷ [])) (sym here)
                (elim (get_last x.mail o (Some q) k (ap (λ zs. slice_get zs k) (sym one.2) ∙ at)) [
                  | inl before ↦
                      let within : k < length s.marks = omega (arith, slice_get_within x.mail k (Some q) before, p.length_is) in
                      subst (λ (z : Mark). IsPosted c z.origin q.allows b (log ++ n ∷ [])) (sym (mark_before s.marks m k within)) (posted_more c _ q.allows b log (n ∷ []) (p.mail k q before))
                  | inr last ↦
                      let now : mark_at (s.marks ++ m ∷ []) k ≡ m = ap (mark_at (s.marks ++ m ∷ [])) (last.0 ∙ p.length_is) ∙ mark_here s.marks m in
                      subst (λ (z : Mark). IsPosted c z.origin q.allows b (log ++ n ∷ [])) (sym now)
                      (elim (one.4.each q last.1) [
                        | inl own ↦ record { making = n; past = log; later = []; made = refl; by = own.0; known = (role_stays log (n ∷ []) c own.2).within; allows_is = omega (arith, own.1, p.taken, p.buffers) }
                        | inr copy ↦ subst (λ i. IsPosted c i q.allows b (log ++ n ∷ [])) (sym copy.2) (posted_more c _ q.allows b log (n ∷ []) (p.mail copy.0 q copy.1))
                      ])
                ]);
          }
    ]

abbrev pub LimitsAllowed : ℕ → ℕ → ℕ → List Note → Half → Type 0
LimitsAllowed c d b log x = (n : ℕ) → n < x.end.limit → IsAllowing c d b n log

allowed_next : (parcels : List (List ℕ)) (c d b : ℕ) (log : List Note) (x y : Half) (n : Note) → Posts d b log y → LimitsAllowed c d b log x → LimitsAllowed c d b (log ++ n ∷ []) (half_after parcels c x y n)
allowed_next parcels c d b log x y n p a i low =
    elim (limits parcels c x y n) [
      | inl same ↦ allowing_more c d b i log (n ∷ []) (a i (omega (arith, low, same)))
      | inr reads ↦
          let parcel : ℕ = reads.0 in
          let q : Packet = reads.1 in
          elim (cases_lt i x.end.limit) [
            | inl before ↦ allowing_more c d b i log (n ∷ []) (a i before)
            | inr past ↦
                let there : slice_get y.mail parcel ≡ Some (Some q) = mail_there y parcel q reads.3 in
                let within : parcel < length (scan log).marks = omega (arith, slice_get_within y.mail parcel (Some q) there, p.length_is) in
                let m = mark_stays log (n ∷ []) parcel within in
                record {
                  parcel = parcel;
                  older = log;
                  newer = [];
                  read = ap (λ k. log ++ k ∷ []) reads.2;
                  within = m.within;
                  allows = q.allows;
                  posted = subst (λ (z : Mark). IsPosted d z.origin q.allows b (log ++ n ∷ [])) (sym m.mark) (posted_more d _ q.allows b log (n ∷ []) (p.mail parcel q there));
                  over = omega (arith, low, past, reads.4);
                }
          ]
    ]

pub record Allows (c d a b : ℕ) (log : List Note) (p : Pair) : Type 0 where
  pub one : Posts c a log p.one
  pub two : Posts d b log p.two
  pub limit : LimitsAllowed c d b log p.one
  pub limit_back : LimitsAllowed d c a log p.two

allows_from : (parcels : List (List ℕ)) (c d a b : ℕ) (past : List Note) (p : Pair) (ns : List Note) → AllNumbered (scan past) ns → Allows c d a b past p → Allows c d a b (past ++ ns) (pair_from parcels c d p ns)
allows_from parcels c d a b past p [] are h = subst (λ log. Allows c d a b log p) (sym (append-nil past)) h
allows_from parcels c d a b past p (n ∷ ns) are h =
    let q : Pair = pair_after parcels c d p n in
    let next : Allows c d a b (past ++ n ∷ []) q = record {
      one = posts_next parcels c a past p.one p.two n are.0 h.one;
      two = posts_next parcels d b past p.two p.one n are.0 h.two;
      limit = allowed_next parcels c d b past p.one p.two n h.two h.limit;
      limit_back = allowed_next parcels d c a past p.two p.one n h.one h.limit_back;
    } in
    subst (λ log. Allows c d a b log (pair_from parcels c d q ns)) (append_assoc past (n ∷ []) ns)
    (allows_from parcels c d a b (past ++ n ∷ []) q ns (subst (λ t. AllNumbered t ns) (sym (seen_last past n)) are.1) next)

pub allows_log : (parcels : List (List ℕ)) (c d a b : ℕ) (log : List Note) → AllNumbered unread log → Allows c d a b log (pair_between c d a b parcels log)
allows_log parcels c d a b log are =
    allows_from parcels c d a b [] (record { one = new_half a; two = new_half b }) log are
    (record {
      one = record { length_is = refl; taken = refl; buffers = refl; mail = λ k q at. absurd (cc at) };
      two = record { length_is = refl; taken = refl; buffers = refl; mail = λ k q at. absurd (cc at) };
      limit = λ n low. absurd (omega (arith, low));
      limit_back = λ n low. absurd (omega (arith, low));
    })
