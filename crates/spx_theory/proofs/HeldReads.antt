-- A parcel is read.
use Rattle.std.proofs.Common.{◌≡◌, ◌≢◌, ◌⊎◌, ◌<◌, ◌==◌, ℕ, Bool, true, false, List, [], ◌∷◌, length, take, drop, set, Some, refl, sym, ◌∙◌, inl, inr, ap, subst, arith, length-set, ne_eqb}
use Rattle.std.specs.Prelude.{slice_get}
use Rattle.std.proofs.Math.Seq.{take-length}
use Rattle.std.proofs.lemmas.Bool.{cond-true, cond-false}
use Rattle.std.proofs.lemmas.Option.{slice_get_within, slice_get-get_or}
use Rattle.ipx_wire.specs.declared.spx.packet.SpxHeader.{SpxHeader}
use Rattle.ipx_wire.specs.Ipx.{PacketView}
use Rattle.spx_link.specs.declared.received.Received.{Received}
use Rattle.spx_link.specs.LinkView.{LinkView}
use Rattle.spx_link.specs.Receive.{receive_link}
use Rattle.ipx_wire.specs.Connection.{IsConnectionPacket}
use Rattle.spx_theory.specs.Note.{Note, Joined, Got}
use Rattle.spx_theory.specs.Scan.{Scan, Maker, Role, Reading, Each, times, seen_all, mark_of, role_of, joined_by, asker, ByUnit, BySystem, ByRouter, FromOutside, no_role, is_now}
use Rattle.spx_theory.specs.Peers.{end_of}
use Rattle.spx_theory.proofs.OfTwo.{AreRoles, ReadsOf}
use Rattle.spx_theory.specs.PairLog.{Half, Pair, half_after, got_mail, mail_of, pair_from}
use Rattle.spx_theory.specs.Scene.{PresentEnd, linked}
use Rattle.spx_theory.specs.PacketsOnWay.{notes_of}
use Rattle.spx_theory.proofs.Lists.{get_here}
use Rattle.spx_theory.proofs.Tied.{Whole}
use Rattle.spx_theory.proofs.Reading.{reads_whole}
use Rattle.spx_theory.proofs.Speaking.{eqb_same}
use Rattle.spx_theory.proofs.Facts.{Facts}
use Rattle.spx_theory.proofs.Held.{Held, IsNew, set_here}
use Rattle.spx_theory.specs.Below.{LawsBelow}
use Rattle.spx_link.specs.declared.received.Received.TheVariants as Rs

pub asker_end : (m : Maker) (d : ℕ) → asker m ≡ Some d → end_of m ≡ Some d
asker_end (ByUnit who) d is = absurd (cc is)
asker_end (BySystem who) d is = is
asker_end (ByRouter router) d is = absurd (cc is)
asker_end FromOutside d is = absurd (cc is)

-- a packet that joins makes two entries, and any other one
pub notes_cases : (r : Received) (who k : ℕ) → r ≢ Rs.Stranger
    → ((r ≡ Rs.Joined) × (notes_of r who k ≡ Joined who k ∷ Got who k ∷ [])) ⊎ ((r ≢ Rs.Joined) × (notes_of r who k ≡ Got who k ∷ []))
notes_cases Rs.Joined who k read = inl (refl, refl)
notes_cases Rs.Kept who k read = inr ((λ h. cc), refl)
notes_cases Rs.Repeat who k read = inr ((λ h. cc), refl)
notes_cases Rs.Ahead who k read = inr ((λ h. cc), refl)
notes_cases Rs.OverAllocation who k read = inr ((λ h. cc), refl)
notes_cases Rs.System who k read = inr ((λ h. cc), refl)
notes_cases Rs.PeerEnded who k read = inr ((λ h. cc), refl)
notes_cases Rs.Confirmed who k read = inr ((λ h. cc), refl)
notes_cases Rs.Stranger who k read = absurd (read refl)

-- the units between are those that both ends sent after the mark
upto_now : (e from : ℕ) (sent : List ℕ) → times e (drop from (take (length sent) sent)) < 32768 → times e (drop from sent) < 32768
upto_now e from sent near = subst (λ xs. times e (drop from xs) < 32768) (take-length sent) near

abbrev pub reading_now : Scan → ℕ → ℕ → Bool → Reading
reading_now s who k first = record { who = who; maker = (mark_of s k).maker; from = (mark_of s k).units; to = length s.sent; first = first }

module _ (c d a b : ℕ) (differ : c ≢ d) (laws : LawsBelow) (ends : List PresentEnd) (parcels : List (List ℕ)) (s : Scan) (p : Pair) where
  -- the roles and the readings are the same
  abbrev pub Premised : List Role → List Reading → Type 0
  Premised roles readings =
      (AreRoles c d a b (record s { roles = roles })) × Each (ReadsOf c d s.sent) readings × Each (ReadsOf d c s.sent) readings

  -- a packet that this end reads, with the other end
  pub got_whole : Whole c d ends parcels s.marks s.sent p.one p.two → (e : PresentEnd) (l : LinkView) (k : ℕ) (bytes : List ℕ) (q : PacketView) (h : SpxHeader) (body : List ℕ)
      → slice_get ends c ≡ Some e → e.link ≡ Some l → slice_get parcels k ≡ Some bytes → IsConnectionPacket q h body bytes → (receive_link l h body).0 ≢ Rs.Stranger
      → (first : Bool) → ReadsOf c d s.sent (reading_now s c k first) → end_of (mark_of s k).maker ≡ Some d
      → Whole c d (set ends c (linked e (receive_link l h body).1)) parcels s.marks s.sent (half_after parcels c p.one p.two (Got c k)) (half_after parcels d p.two p.one (Got c k))
  got_whole w e l k bytes q h body at is comes reads read first of by =
      let near = of.fresh refl by in
      let done = reads_whole laws c d differ ends parcels s.marks s.sent p.one p.two w e l k bytes q h body at is comes reads read by
      (upto_now c (mark_of s k).units s.sent near.0) (upto_now d (mark_of s k).units s.sent near.1) in
      let ends' : List PresentEnd = set ends c (linked e (receive_link l h body).1) in
      subst (λ x. Whole c d ends' parcels s.marks s.sent x (half_after parcels d p.two p.one (Got c k))) (sym (cond-true (c == c) (got_mail (mail_of p.two k) p.one) p.one (eqb_same c)))
      (subst (λ y. Whole c d ends' parcels s.marks s.sent (got_mail (mail_of p.two k) p.one) y) (sym (cond-false (c == d) (got_mail (mail_of p.one k) p.two) p.two (ne_eqb c d differ))) done)

  -- ---- the caller reads
  pub caller_reads : (log : List Note) → Facts ends parcels s log → Held c d a b ends parcels s p
      → (e : PresentEnd) (l : LinkView) (k : ℕ) (bytes : List ℕ) (q : PacketView) (h : SpxHeader) (body : List ℕ)
      → slice_get ends c ≡ Some e → e.link ≡ Some l → slice_get parcels k ≡ Some bytes → IsConnectionPacket q h body bytes → (receive_link l h body).0 ≢ Rs.Stranger
      → let ns : List Note = notes_of (receive_link l h body).0 c k in
      let t : Scan = seen_all s ns in
      Premised t.roles t.readings
      → Held c d a b (set ends c (linked e (receive_link l h body).1)) parcels (seen_all s (notes_of (receive_link l h body).0 c k)) (pair_from parcels c d p (notes_of (receive_link l h body).0 c k))
  caller_reads log f held e l k bytes q h body at is comes reads read =
      elim (notes_cases (receive_link l h body).0 c k read) [
        | inl joins ↦ subst (λ ns. Premised (seen_all s ns).roles (seen_all s ns).readings → Held c d a b ends' parcels (seen_all s ns) (pair_from parcels c d p ns)) (sym joins.1)
            (λ premise.
            let role : Role = role_of s c in
            let there : slice_get s.roles c ≡ Some role = role_there c (slice_get_within ends c e at) in
            let unjoined : role.joined ≡ false = f.opening c e l role at is (laws.states.joins l h body joins.0) there in
            let new : Role = joined_by (mark_of s k).maker role in
            let now : slice_get (set s.roles c new) c ≡ Some new = set_here s.roles c new role there in
            let new_is : new ≡ record role { joined = true; partner = asker (mark_of s k).maker } = cond-false role.joined role (record role { joined = true; partner = asker (mark_of s k).maker }) unjoined in
            let joined : new.joined ≡ true = ap (λ (r : Role). r.joined) new_is in
            let partner : asker (mark_of s k).maker ≡ Some d = ap (λ (r : Role). r.partner) (sym new_is) ∙ (premise.0.caller new now).2 joined in
            let by : end_of (mark_of s k).maker ≡ Some d = asker_end (mark_of s k).maker d partner in
            let last : ReadsOf c d s.sent (reading_now s c k (c == c)) = premise.1 (length s.readings) (reading_now s c k (c == c)) (get_here s.readings (reading_now s c k (c == c))) in
            record {
              whole = got_whole held.whole e l k bytes q h body at is comes reads read (c == c) last by;
              early = λ u. absurd (cc (sym joined ∙ u new now));
              quiet = λ u. absurd (cc (sym joined ∙ u new now));
              unmade = λ past. subst (λ (t : Half). IsNew b t.end) (sym (cond-false (c == d) (got_mail (mail_of p.one k) p.two) p.two (ne_eqb c d differ))) (held.unmade (omega (arith, past, length-set ends c e')));
            })
        | inr gets ↦ subst (λ ns. Premised (seen_all s ns).roles (seen_all s ns).readings → Held c d a b ends' parcels (seen_all s ns) (pair_from parcels c d p ns)) (sym gets.1)
            (λ premise.
            let first : Bool = is_now s.newest c in
            let no : first ≡ false = ap (λ o. is_now o c) f.newest in
            let last : ReadsOf c d s.sent (reading_now s c k first) = premise.1 (length s.readings) (reading_now s c k first) (get_here s.readings (reading_now s c k first)) in
            record {
              whole = got_whole held.whole e l k bytes q h body at is comes reads read first last (last.own refl no);
              early = λ u. absurd (gets.0 (laws.states.quiet_joins l h body (held.quiet u e l at is) read));
              quiet = λ u. absurd (gets.0 (laws.states.quiet_joins l h body (held.quiet u e l at is) read));
              unmade = λ past. subst (λ (t : Half). IsNew b t.end) (sym (cond-false (c == d) (got_mail (mail_of p.one k) p.two) p.two (ne_eqb c d differ))) (held.unmade (omega (arith, past, length-set ends c e')));
            })
      ]
    where
      e' : PresentEnd
      e' = linked e (receive_link l h body).1

      ends' : List PresentEnd
      ends' = set ends c (linked e (receive_link l h body).1)

      role_there : (j : ℕ) → j < length ends → slice_get s.roles j ≡ Some (role_of s j)
      role_there j within = slice_get-get_or s.roles j no_role (omega (arith, within, f.roles))
