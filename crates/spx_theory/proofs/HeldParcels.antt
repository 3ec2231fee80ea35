-- A parcel is made.
use Rattle.std.proofs.Common.{◌≡◌, ◌≢◌, ◌+◌, ◌==◌, ℕ, true, cond, List, [], ◌∷◌, ◌++◌, length, set, Some, None, refl, sym, ◌∙◌, inl, inr, ap, subst, arith, length-set, ne_eqb}
use Rattle.std.specs.Prelude.{slice_get}
use Rattle.std.proofs.lemmas.List.{append-nil}
use Rattle.std.proofs.lemmas.Bool.{cases_eq, cond-true, cond-false}
use Rattle.std.proofs.lemmas.Option.{slice_get_within}
use Rattle.spx_link.specs.declared.outgoing.Sent.{Sent}
use Rattle.spx_link.specs.LinkView.{LinkView}
use Rattle.spx_link.specs.Poll.{OutgoingView, poll_link}
use Rattle.spx_link.specs.Machine.{End, mailed}
use Rattle.spx_theory.specs.SentUnits.{SaysOnly}
use Rattle.ipx_wire.specs.Connection.{sequence_in}
use Rattle.spx_theory.specs.Note.{Note, SendsUnit, SendsAgain, SendsSystem}
use Rattle.spx_theory.specs.Scan.{Scan, Mark, seen, ByUnit, BySystem}
use Rattle.spx_theory.specs.Peers.{end_of}
use Rattle.spx_theory.specs.PairLog.{Half, Pair, half_after, not_mine, posted, pair_after}
use Rattle.spx_theory.specs.Spelling.{Spoke, PolledTo}
use Rattle.spx_theory.specs.Tracks.{core}
use Rattle.spx_theory.specs.States.{is_quiet}
use Rattle.spx_theory.specs.Scene.{PresentEnd, linked}
use Rattle.spx_theory.specs.PacketsOnWay.{note_of}
use Rattle.spx_theory.proofs.Tied.{Whole}
use Rattle.spx_theory.proofs.Moving.{other_end, this_link}
use Rattle.spx_theory.proofs.Speaking.{WholeAfter, eqb_same, speaks_whole}
use Rattle.spx_theory.proofs.Others.{elsewhere, foreign_whole}
use Rattle.spx_theory.proofs.Held.{Held, IsNew, IsUnjoined, turned}
use Rattle.spx_link.specs.declared.outgoing.Sent.TheVariants as Sents
use Rattle.spx_theory.specs.Below.{LawsBelow}

pub given_roles : (s : Scan) (what : Sent) (who k : ℕ) → (seen s (note_of what who k)).roles ≡ s.roles
given_roles s Sents.Request who k = refl
given_roles s Sents.Reply who k = refl
given_roles s Sents.Confirm who k = refl
given_roles s Sents.Unit who k = refl
given_roles s Sents.Again who k = refl
given_roles s Sents.Ack who k = refl
given_roles s Sents.Probe who k = refl

-- another end's packet
pub other_half : (parcels : List (List ℕ)) (c : ℕ) (x y : Half) (what : Sent) (who k : ℕ) → who ≢ c → half_after parcels c x y (note_of what who k) ≡ not_mine x
other_half parcels c x y Sents.Request who k differ = cond-false _ _ _ (ne_eqb who c differ)
other_half parcels c x y Sents.Reply who k differ = cond-false _ _ _ (ne_eqb who c differ)
other_half parcels c x y Sents.Confirm who k differ = cond-false _ _ _ (ne_eqb who c differ)
other_half parcels c x y Sents.Unit who k differ = cond-false _ _ _ (ne_eqb who c differ)
other_half parcels c x y Sents.Again who k differ = cond-false _ _ _ (ne_eqb who c differ)
other_half parcels c x y Sents.Ack who k differ = cond-false _ _ _ (ne_eqb who c differ)
other_half parcels c x y Sents.Probe who k differ = cond-false _ _ _ (ne_eqb who c differ)

abbrev pub end_after : List (List ℕ) → ℕ → Half → Half → Note → End
end_after parcels c x y n = (half_after parcels c x y n).end

pub other_still : (parcels : List (List ℕ)) (c : ℕ) (x y : Half) (what : Sent) (who k : ℕ) → who ≢ c → end_after parcels c x y (note_of what who k) ≡ x.end
other_still parcels c x y what who k differ = ap (λ (h : Half). h.end) (other_half parcels c x y what who k differ)

module _ (c d a b : ℕ) (differ : c ≢ d) (ends : List PresentEnd) (parcels : List (List ℕ)) (s : Scan) (p : Pair) where
  -- the packet of an end that is neither
  pub unknown_gives : (what : Sent) (who : ℕ) (bytes : List ℕ) → who ≢ c → who ≢ d → Whole c d ends parcels s.marks s.sent p.one p.two
      → WholeAfter c d ends (parcels ++ bytes ∷ []) s p.one p.two (note_of what who (length parcels))
  unknown_gives what who bytes not_c not_d w =
      subst (λ h. Whole c d ends (parcels ++ bytes ∷ []) (seen s n).marks (seen s n).sent h (half_after (parcels ++ bytes ∷ []) d p.two p.one n)) (sym (other_half (parcels ++ bytes ∷ []) c p.one p.two what who (length parcels) not_c))
      (subst (λ h. Whole c d ends (parcels ++ bytes ∷ []) (seen s n).marks (seen s n).sent (not_mine p.one) h) (sym (other_half (parcels ++ bytes ∷ []) d p.two p.one what who (length parcels) not_d))
      (by_kind what))
    where
      n : Note
      n = note_of what who (length parcels)

      not_some : (e : ℕ) → who ≢ e → Some who ≢ Some e
      not_some e ne is = ne (cc is)

      unit : Whole c d ends (parcels ++ bytes ∷ []) (seen s (SendsUnit who (length parcels))).marks (seen s (SendsUnit who (length parcels))).sent (not_mine p.one) (not_mine p.two)
      unit = foreign_whole c d ends parcels bytes s.marks (record { origin = length s.marks; maker = ByUnit who; passed = 0; units = length (s.sent ++ who ∷ []) }) s.sent (who ∷ []) p.one p.two
          (not_some c not_c) (not_some d not_d) (ap (λ t. cond t 1 0 + 0) (ne_eqb who c not_c)) (ap (λ t. cond t 1 0 + 0) (ne_eqb who d not_d)) w

      again : Whole c d ends (parcels ++ bytes ∷ []) (seen s (SendsAgain who (length parcels))).marks (seen s (SendsAgain who (length parcels))).sent (not_mine p.one) (not_mine p.two)
      again = subst (λ ns. Whole c d ends (parcels ++ bytes ∷ []) (seen s (SendsAgain who (length parcels))).marks ns (not_mine p.one) (not_mine p.two)) (append-nil s.sent)
          (foreign_whole c d ends parcels bytes s.marks (record { origin = length s.marks; maker = ByUnit who; passed = 0; units = length s.sent }) s.sent [] p.one p.two (not_some c not_c) (not_some d not_d) refl refl w)

      system : Whole c d ends (parcels ++ bytes ∷ []) (seen s (SendsSystem who (length parcels))).marks (seen s (SendsSystem who (length parcels))).sent (not_mine p.one) (not_mine p.two)
      system = subst (λ ns. Whole c d ends (parcels ++ bytes ∷ []) (seen s (SendsSystem who (length parcels))).marks ns (not_mine p.one) (not_mine p.two)) (append-nil s.sent)
          (foreign_whole c d ends parcels bytes s.marks (record { origin = length s.marks; maker = BySystem who; passed = 0; units = length s.sent }) s.sent [] p.one p.two (not_some c not_c) (not_some d not_d) refl refl w)

      by_kind : (kind : Sent) → Whole c d ends (parcels ++ bytes ∷ []) (seen s (note_of kind who (length parcels))).marks (seen s (note_of kind who (length parcels))).sent (not_mine p.one) (not_mine p.two)
      by_kind Sents.Request = system
      by_kind Sents.Reply = system
      by_kind Sents.Confirm = system
      by_kind Sents.Unit = unit
      by_kind Sents.Again = again
      by_kind Sents.Ack = system
      by_kind Sents.Probe = system

  -- nobody's packet: a router's, or one from outside
  pub nobody_gives : (m : Mark) (bytes : List ℕ) → end_of m.maker ≡ None → Whole c d ends parcels s.marks s.sent p.one p.two
      → Whole c d ends (parcels ++ bytes ∷ []) (s.marks ++ m ∷ []) s.sent (not_mine p.one) (not_mine p.two)
  nobody_gives m bytes nobody w =
      subst (λ ns. Whole c d ends (parcels ++ bytes ∷ []) (s.marks ++ m ∷ []) ns (not_mine p.one) (not_mine p.two)) (append-nil s.sent)
      (foreign_whole c d ends parcels bytes s.marks m s.sent [] p.one p.two (λ is. cc (sym nobody ∙ is)) (λ is. cc (sym nobody ∙ is)) refl refl w)

  pub gives_held : (laws : LawsBelow) (who now : ℕ) (e : PresentEnd) (l : LinkView) (g : OutgoingView) (bytes : List ℕ)
      → length s.roles ≡ length ends → slice_get ends who ≡ Some e → e.link ≡ Some l → (poll_link l now).0 ≡ Some g → SaysOnly g.header g.body bytes → sequence_in bytes ≡ g.header.seq
      → Held c d a b ends parcels s p
      → let n : Note = note_of g.what who (length parcels) in
      Held c d a b (set ends who (linked e (poll_link l now).1)) (parcels ++ bytes ∷ []) (seen s n) (pair_after (parcels ++ bytes ∷ []) c d p n)
  gives_held laws who now e l g bytes count at is gives only number h =
      let n : Note = note_of g.what who (length parcels) in
      let l' : LinkView = (poll_link l now).1 in
      let ends' : List PresentEnd = set ends who (linked e l') in
      let parcels' : List (List ℕ) = parcels ++ bytes ∷ [] in
      let same : (seen s n).roles ≡ s.roles = given_roles s g.what who (length parcels) in
      let before : IsUnjoined (seen s n).roles c → IsUnjoined s.roles c = λ u. subst (λ rs. IsUnjoined rs c) same u in
      elim (cases_eq who c) [
        | inl one ↦
            let at' : slice_get ends c ≡ Some e = subst (λ k. slice_get ends k ≡ Some e) one at in
            let polled = laws.steps.polls l now p.one.end p.two.end (h.whole.one.link e l at' is) h.whole.sound in
            let spoke : Spoke g.what (core l') g p.one.end p.two.end = subst (λ o. PolledTo o (core l') p.one.end p.two.end) gives polled.to in
            let w = speaks_whole laws c d differ ends parcels s p.one p.two h.whole g.what e l' g bytes only number polled.open' spoke in
            subst (λ k. Held c d a b (set ends k (linked e l')) parcels' (seen s (note_of g.what k (length parcels))) (pair_after parcels' c d p (note_of g.what k (length parcels)))) (sym one)
            (record {
              whole = w;
              early = λ u.
                  let u' : IsUnjoined s.roles c = subst (λ rs. IsUnjoined rs c) (given_roles s g.what c (length parcels)) u in
                  let asks : g.what ≡ Sents.Request = laws.states.quiet_asks l now g (h.quiet u' e l at' is) gives in
                  let new : IsNew a p.one.end = h.early u' in
                  let mail : IsNew a (mailed None p.one.end p.two.end) = record { base = new.base; sent = new.sent; limit = new.limit; read = new.read; taken = new.taken; buffers = new.buffers; kept = new.kept; units = new.units } in
                  subst (λ kind. IsNew a (end_after parcels' c p.one p.two (note_of kind c (length parcels)))) (sym asks)
                  (subst (λ (t : Half). IsNew a t.end) (sym (cond-true (c == c) (posted None p.one p.two) (not_mine p.one) (eqb_same c))) mail);
              quiet = λ u f m there link.
                  let u' : IsUnjoined s.roles c = subst (λ rs. IsUnjoined rs c) (given_roles s g.what c (length parcels)) u in
                  let same' : m ≡ l' = this_link ends c e l' f m there link in
                  subst (λ (k : LinkView). is_quiet k.state ≡ true) (sym same') (laws.states.quiet_stays l now (h.quiet u' e l at' is));
              unmade = λ past.
                  subst (IsNew b) (sym (other_still parcels' d p.two p.one g.what c (length parcels) differ)) (h.unmade (omega (arith, past, length-set ends c (linked e l'))));
            })
        | inr not_c ↦ elim (cases_eq who d) [
          | inl two ↦
              let at' : slice_get ends d ≡ Some e = subst (λ k. slice_get ends k ≡ Some e) two at in
              let back : d ≢ c = λ z. differ (sym z) in
              let polled = laws.steps.polls l now p.two.end p.one.end (h.whole.two.link e l at' is) ((turned c d ends parcels s.marks s.sent p.one p.two h.whole).sound) in
              let spoke : Spoke g.what (core l') g p.two.end p.one.end = subst (λ o. PolledTo o (core l') p.two.end p.one.end) gives polled.to in
              let w = speaks_whole laws d c back ends parcels s p.two p.one (turned c d ends parcels s.marks s.sent p.one p.two h.whole) g.what e l' g bytes only number polled.open' spoke in
              subst (λ k. Held c d a b (set ends k (linked e l')) parcels' (seen s (note_of g.what k (length parcels))) (pair_after parcels' c d p (note_of g.what k (length parcels)))) (sym two)
              (record {
                whole = turned d c _ _ _ _ _ _ w;
                early = λ u. subst (IsNew a) (sym (other_still parcels' c p.one p.two g.what d (length parcels) back)) (h.early (subst (λ rs. IsUnjoined rs c) (given_roles s g.what d (length parcels)) u));
                quiet = λ u f m there link. h.quiet (subst (λ rs. IsUnjoined rs c) (given_roles s g.what d (length parcels)) u) f m (other_end ends d c (linked e l') f back there) link;
                unmade = λ past. absurd (omega (arith, past, slice_get_within ends d e at', length-set ends d (linked e l')));
              })
          | inr not_d ↦
              record {
                whole = elsewhere c d ends ends' parcels' (seen s n).marks (seen s n).sent (half_after parcels' c p.one p.two n) (half_after parcels' d p.two p.one n)
                    (λ f there. other_end ends who c (linked e l') f not_c there) (λ f there. other_end ends who d (linked e l') f not_d there)
                    (unknown_gives g.what who bytes not_c not_d h.whole);
                early = λ u. subst (IsNew a) (sym (other_still parcels' c p.one p.two g.what who (length parcels) not_c)) (h.early (before u));
                quiet = λ u f m there link. h.quiet (before u) f m (other_end ends who c (linked e l') f not_c there) link;
                unmade = λ past. subst (IsNew b) (sym (other_still parcels' d p.two p.one g.what who (length parcels) not_d)) (h.unmade (omega (arith, past, length-set ends who (linked e l'))));
              }
        ]
      ]
