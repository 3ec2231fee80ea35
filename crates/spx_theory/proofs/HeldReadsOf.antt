-- A parcel is read by the callee, or by another end.
use Rattle.std.proofs.Common.{◌≡◌, ◌≢◌, ◌==◌, ℕ, Bool, false, List, length, set, Some, None, refl, sym, ◌∙◌, inl, inr, ap, subst, arith, length-set, ne_eqb}
use Rattle.std.specs.Prelude.{slice_get}
use Rattle.std.proofs.lemmas.Bool.{cond-false}
use Rattle.std.proofs.lemmas.Option.{slice_get_within, slice_get-get_or}
use Rattle.ipx_wire.specs.declared.spx.packet.SpxHeader.{SpxHeader}
use Rattle.ipx_wire.specs.Ipx.{PacketView}
use Rattle.spx_link.specs.declared.received.Received.{Received}
use Rattle.spx_link.specs.LinkView.{LinkView}
use Rattle.spx_link.specs.Receive.{receive_link}
use Rattle.ipx_wire.specs.Connection.{IsConnectionPacket}
use Rattle.spx_theory.specs.Note.{Note, Got}
use Rattle.spx_theory.specs.Scan.{Scan, Role, Reading, seen_all, mark_of, role_of, joined_by, no_role, is_now}
use Rattle.spx_theory.proofs.OfTwo.{AreRoles, ReadsOf}
use Rattle.spx_theory.specs.PairLog.{Half, Pair, half_after, got_mail, mail_of, pair_from}
use Rattle.spx_theory.specs.Scene.{PresentEnd, linked}
use Rattle.spx_theory.specs.PacketsOnWay.{notes_of}
use Rattle.spx_theory.proofs.Lists.{get_here}
use Rattle.spx_theory.proofs.Moving.{other_end}
use Rattle.spx_theory.proofs.Others.{elsewhere}
use Rattle.spx_theory.proofs.Facts.{Facts}
use Rattle.spx_theory.proofs.HeldReads.{notes_cases, reading_now, got_whole, Premised}
use Rattle.spx_theory.proofs.Held.{Held, IsNew, turned, set_other}
use Rattle.spx_theory.specs.Below.{LawsBelow}
use Rattle.spx_link.specs.declared.received.Received.TheVariants as Rs

module _ (c d a b : ℕ) (differ : c ≢ d) (laws : LawsBelow) (ends : List PresentEnd) (parcels : List (List ℕ)) (s : Scan) (p : Pair) where
  pub callee_reads : (log : List Note) → Facts ends parcels s log → AreRoles c d a b s → Held c d a b ends parcels s p
      → (e : PresentEnd) (l : LinkView) (k : ℕ) (bytes : List ℕ) (q : PacketView) (h : SpxHeader) (body : List ℕ)
      → slice_get ends d ≡ Some e → e.link ≡ Some l → slice_get parcels k ≡ Some bytes → IsConnectionPacket q h body bytes → (receive_link l h body).0 ≢ Rs.Stranger
      → let t : Scan = seen_all s (notes_of (receive_link l h body).0 d k) in
      Premised c d a b differ laws ends parcels s p t.roles t.readings
      → Held c d a b (set ends d (linked e (receive_link l h body).1)) parcels (seen_all s (notes_of (receive_link l h body).0 d k)) (pair_from parcels c d p (notes_of (receive_link l h body).0 d k))
  callee_reads log f roles held e l k bytes q h body at is comes reads read =
      elim (notes_cases (receive_link l h body).0 d k read) [
        | inl joins ↦
            let there : slice_get s.roles d ≡ Some (role_of s d) = slice_get-get_or s.roles d no_role (omega (arith, slice_get_within ends d e at, f.roles)) in
            let unjoined : (role_of s d).joined ≡ false = f.opening d e l (role_of s d) at is (laws.states.joins l h body joins.0) there in
            absurd (cc (sym (roles.callee (role_of s d) there).2 ∙ unjoined))
        | inr gets ↦ subst (λ ns. Premised c d a b differ laws ends parcels s p (seen_all s ns).roles (seen_all s ns).readings → Held c d a b (set ends d e') parcels (seen_all s ns) (pair_from parcels c d p ns)) (sym gets.1)
            (λ premise.
            let first : Bool = is_now s.newest d in
            let no : first ≡ false = ap (λ o. is_now o d) f.newest in
            let last : ReadsOf d c s.sent (reading_now s d k first) = premise.2 (length s.readings) (reading_now s d k first) (get_here s.readings (reading_now s d k first)) in
            let back : d ≢ c = λ z. differ (sym z) in
            let still : half_after parcels c p.one p.two (Got d k) ≡ p.one = cond-false (d == c) (got_mail (mail_of p.two k) p.one) p.one (ne_eqb d c back) in
            record {
              whole = turned d c (set ends d e') parcels s.marks s.sent (half_after parcels d p.two p.one (Got d k)) (half_after parcels c p.one p.two (Got d k))
                  (got_whole d c b a back laws ends parcels s (record { one = p.two; two = p.one }) (turned c d ends parcels s.marks s.sent p.one p.two held.whole) e l k bytes q h body at is comes reads read first last (last.own refl no));
              early = λ u. subst (λ (t : Half). IsNew a t.end) (sym still) (held.early u);
              quiet = λ u g m there link. held.quiet u g m (other_end ends d c e' g back there) link;
              unmade = λ past. absurd (omega (arith, past, slice_get_within ends d e at, length-set ends d e'));
            })
      ]
    where
      e' : PresentEnd
      e' = linked e (receive_link l h body).1

  pub other_reads : (log : List Note) → Held c d a b ends parcels s p
      → (who : ℕ) (e : PresentEnd) (w : PresentEnd) (k : ℕ) (r : Received) → who ≢ c → who ≢ d → slice_get ends who ≡ Some e → r ≢ Rs.Stranger
      → Held c d a b (set ends who w) parcels (seen_all s (notes_of r who k)) (pair_from parcels c d p (notes_of r who k))
  other_reads log held who e w k r not_c not_d at read =
      elim (notes_cases r who k read) [
        | inl joins ↦ subst (λ ns. Held c d a b (set ends who w) parcels (seen_all s ns) (pair_from parcels c d p ns)) (sym joins.1)
            (both (set s.roles who (joined_by (mark_of s k).maker (role_of s who))) (λ r' there. set_other s.roles who c _ r' not_c there) _)
        | inr gets ↦ subst (λ ns. Held c d a b (set ends who w) parcels (seen_all s ns) (pair_from parcels c d p ns)) (sym gets.1)
            (both s.roles (λ r' there. there) _)
      ]
    where
      one : half_after parcels c p.one p.two (Got who k) ≡ p.one
      one = cond-false (who == c) (got_mail (mail_of p.two k) p.one) p.one (ne_eqb who c not_c)

      two : half_after parcels d p.two p.one (Got who k) ≡ p.two
      two = cond-false (who == d) (got_mail (mail_of p.one k) p.two) p.two (ne_eqb who d not_d)

      both : (roles : List Role) → ((r' : Role) → slice_get s.roles c ≡ Some r' → slice_get roles c ≡ Some r') → (readings : List Reading)
          → Held c d a b (set ends who w) parcels (record s { roles = roles; readings = readings; newest = None }) (record { one = half_after parcels c p.one p.two (Got who k); two = half_after parcels d p.two p.one (Got who k) })
      both roles keeps readings =
          subst (λ x. Held c d a b (set ends who w) parcels (record s { roles = roles; readings = readings; newest = None }) (record { one = x; two = half_after parcels d p.two p.one (Got who k) })) (sym one)
          (subst (λ y. Held c d a b (set ends who w) parcels (record s { roles = roles; readings = readings; newest = None }) (record { one = p.one; two = y })) (sym two)
          (record {
            whole = elsewhere c d ends (set ends who w) parcels s.marks s.sent p.one p.two (λ f there. other_end ends who c w f not_c there) (λ f there. other_end ends who d w f not_d there) held.whole;
            early = λ u. held.early (λ r' there. u r' (keeps r' there));
            quiet = λ u f m there link. held.quiet (λ r' at'. u r' (keeps r' at')) f m (other_end ends who c w f not_c there) link;
            unmade = λ past. held.unmade (omega (arith, past, length-set ends who w));
          }))
