-- The identities of all ends, the packets that carry them, and how they change with new ends, packets and
-- readings.
use Rattle.std.proofs.Common.{ℕ, ◌≡◌, true, false, List, [], ◌∷◌, ◌++◌, length, set, get_or, Option, Some, None, refl, sym, ◌∙◌, ap, subst, inl, inr, arith, length-append, length-set}
use Rattle.std.specs.Prelude.{slice_get}
use Rattle.std.proofs.lemmas.Bool.{cases_eq}
use Rattle.std.proofs.lemmas.Option.{slice_get_within, slice_get-get_or}
use Rattle.ipx_wire.specs.declared.spx.packet.SpxHeader.{SpxHeader}
use Rattle.ipx_wire.specs.Ipx.{PacketView}
use Rattle.spx_link.specs.LinkView.{LinkView}
use Rattle.spx_theory.specs.Scan.{Mark, Role, Reading, no_role}
use Rattle.ipx_wire.specs.Connection.{IsConnectionPacket}
use Rattle.spx_theory.specs.Scene.{PresentEnd}
use Rattle.spx_messages.specs.WrittenPackets.{Home}
use Rattle.spx_theory.proofs.Lists.{get_before, get_last, get_here, get_set}
use Rattle.spx_theory.proofs.Held.{set_other, set_here}
use Rattle.spx_theory.proofs.Tied.{mark_at}
use Rattle.spx_theory.proofs.Adding.{mark_before, mark_here}
use Rattle.spx_theory.specs.Names.{names}
use Rattle.spx_theory.proofs.Identities.{Identity, Shows, IdentityIs, AreIdentities, IsFromOrOutside, AreFrom, IsAdvertised, AreAdvertised, IdentityLater, IdentitiesLater, identity_comes, identity_joins, are_from_later, are_told_later, identity_is_later}
use Rattle.spx_theory.proofs.Lists.{same_element}

pub record Identified (homes : List Home) (ends : List PresentEnd) (parcels : List (List ℕ)) (marks : List Mark) (roles : List Role) (readings : List Reading) : Type 0 where
  pub identities : List Identity
  pub count : length identities ≡ length ends
  pub shows : (k : ℕ) (c : Identity) → slice_get identities k ≡ Some c → Shows ends roles k c
  pub are : AreIdentities homes identities
  pub from : AreFrom homes identities parcels marks
  pub told : AreAdvertised identities readings

same_link : (o : Option LinkView) (k m : LinkView) → o ≡ Some k → o ≡ Some m → k ≡ m
same_link o k m is is' = cc

-- the identity of an end that is not released
pub record IdentityOf (identities : List Identity) (roles : List Role) (who : ℕ) (e : PresentEnd) (l : LinkView) : Type 0 where
  pub identity : Identity
  pub at : slice_get identities who ≡ Some identity
  pub host : identity.host ≡ e.host
  pub own : identity.names.own ≡ e.own
  pub named : identity.names ≡ names l
  pub role : slice_get roles who ≡ Some identity.role

module _ (homes : List Home) (ends : List PresentEnd) (parcels : List (List ℕ)) (marks : List Mark) (roles : List Role) (readings : List Reading) (f : Identified homes ends parcels marks roles readings) where
  pub shown_is : (k : ℕ) (c : Identity) (e : PresentEnd) (l : LinkView) → slice_get ends k ≡ Some e → e.link ≡ Some l → (s : Shows ends roles k c) → (c.host ≡ e.host) × (c.names.own ≡ e.own) × (c.names ≡ names l)
  shown_is k c e l there is s =
      let stand : s.stand ≡ e = same_element ends k s.stand e s.there there in
      (s.host ∙ ap (λ (x : PresentEnd). x.host) stand, s.own ∙ ap (λ (x : PresentEnd). x.own) stand, s.named l (ap (λ (x : PresentEnd). x.link) stand ∙ is))

  pub identity_of : (who : ℕ) (e : PresentEnd) (l : LinkView) → slice_get ends who ≡ Some e → e.link ≡ Some l → IdentityOf f.identities roles who e l
  identity_of who e l there is =
      let none : Identity = record { host = 0; names = names l; role = no_role } in
      let c : Identity = get_or f.identities who none in
      let at : slice_get f.identities who ≡ Some c = slice_get-get_or f.identities who none (omega (arith, f.count, slice_get_within ends who e there)) in
      let s : Shows ends roles who c = f.shows who c at in
      let same = shown_is who c e l there is s in
      record { identity = c; at = at; host = same.0; own = same.1; named = same.2; role = s.role }

  -- a link changes and keeps its names
  pub identified_put : (who : ℕ) (e w : PresentEnd) (l k : LinkView) → slice_get ends who ≡ Some e → e.link ≡ Some l → w.link ≡ Some k → w.host ≡ e.host → w.own ≡ e.own → names k ≡ names l
      → Identified homes (set ends who w) parcels marks roles readings
  identified_put who e w l k there is is' host own keeps =
      record {
        identities = f.identities;
        count = f.count ∙ sym (length-set ends who w);
        are = f.are;
        from = f.from;
        told = f.told;
        shows = λ j c at. let s : Shows ends roles j c = f.shows j c at in
            elim (cases_eq who j) [
              | inl same ↦
                  let same' = shown_is j c e l (ap (slice_get ends) (sym same) ∙ there) is s in
                  record {
                    stand = w;
                    there = ap (slice_get (set ends who w)) (sym same) ∙ set_here ends who w e there;
                    role = s.role;
                    host = same'.0 ∙ sym host;
                    own = same'.1 ∙ sym own;
                    named = λ m is''. same'.2 ∙ sym keeps ∙ ap names (same_link w.link k m is' is'');
                  }
              | inr ne ↦ record { stand = s.stand; there = set_other ends who j w s.stand ne s.there; role = s.role; host = s.host; own = s.own; named = s.named }
            ];
      }

  -- a link is released
  pub identified_gone : (who : ℕ) (e w : PresentEnd) → slice_get ends who ≡ Some e → w.link ≡ None → w.host ≡ e.host → w.own ≡ e.own → Identified homes (set ends who w) parcels marks roles readings
  identified_gone who e w there gone host own =
      record {
        identities = f.identities;
        count = f.count ∙ sym (length-set ends who w);
        are = f.are;
        from = f.from;
        told = f.told;
        shows = λ j c at. let s : Shows ends roles j c = f.shows j c at in
            elim (cases_eq who j) [
              | inl same ↦
                  let stand : s.stand ≡ e = same_element ends j s.stand e s.there (ap (slice_get ends) (sym same) ∙ there) in
                  record {
                    stand = w;
                    there = ap (slice_get (set ends who w)) (sym same) ∙ set_here ends who w e there;
                    role = s.role;
                    host = s.host ∙ ap (λ (x : PresentEnd). x.host) stand ∙ sym host;
                    own = s.own ∙ ap (λ (x : PresentEnd). x.own) stand ∙ sym own;
                    named = λ m is. absurd (cc (sym gone ∙ is));
                  }
              | inr ne ↦ record { stand = s.stand; there = set_other ends who j w s.stand ne s.there; role = s.role; host = s.host; own = s.own; named = s.named }
            ];
      }

  -- a packet is read
  pub identified_got : (r : Reading) → (r.first ≡ false → IsAdvertised f.identities r) → Identified homes ends parcels marks roles (readings ++ r ∷ [])
  identified_got r told =
      record {
        identities = f.identities;
        count = f.count;
        shows = f.shows;
        are = f.are;
        from = f.from;
        told = λ k x at. elim (get_last readings r x k at) [
          | inl was ↦ f.told k x was
          | inr new ↦ subst (λ (y : Reading). y.first ≡ false → IsAdvertised f.identities y) new.1 told
        ];
      }

  -- the packet that made or joined an end is read
  pub identified_first : (r : Reading) → r.first ≡ true → Identified homes ends parcels marks roles (readings ++ r ∷ [])
  identified_first r is = identified_got r (λ not. absurd (cc (sym is ∙ not)))

  -- a packet is added
  pub identified_sent : (bytes : List ℕ) (m : Mark) → length marks ≡ length parcels
      → ((p : PacketView) (h : SpxHeader) (body : List ℕ) → IsConnectionPacket p h body bytes → IsFromOrOutside homes f.identities m.maker p h)
      → Identified homes ends (parcels ++ bytes ∷ []) (marks ++ m ∷ []) roles readings
  identified_sent bytes m count made =
      record {
        identities = f.identities;
        count = f.count;
        shows = f.shows;
        are = f.are;
        told = f.told;
        from = λ k bs at p h body reads. elim (get_last parcels bytes bs k at) [
          | inl was ↦ subst (λ (n : Mark). IsFromOrOutside homes f.identities n.maker p h)
              (sym (mark_before marks m k (omega (arith, count, slice_get_within parcels k bs was)))) (f.from k bs was p h body reads)
          | inr new ↦ subst (λ (n : Mark). IsFromOrOutside homes f.identities n.maker p h)
              (sym (ap (mark_at (marks ++ m ∷ [])) (new.0 ∙ sym count) ∙ mark_here marks m)) (made p h body (subst (IsConnectionPacket p h body) (sym new.1) reads))
        ];
      }

  -- an end is added
  pub identified_new : (e : PresentEnd) (l : LinkView) (r : Role) → length roles ≡ length ends → e.link ≡ Some l → e.own ≡ l.own
      → IdentityIs homes f.identities (length ends) (record { host = e.host; names = names l; role = r })
      → Identified homes (ends ++ e ∷ []) parcels marks (roles ++ r ∷ []) readings
  identified_new e l r count is own identity =
      let c : Identity = record { host = e.host; names = names l; role = r } in
      let later : IdentitiesLater f.identities (f.identities ++ c ∷ []) = identity_comes f.identities c in
      record {
        identities = f.identities ++ c ∷ [];
        count = omega (arith, f.count, length-append f.identities (c ∷ []), length-append ends (e ∷ []));
        shows = λ k x at. elim (get_last f.identities c x k at) [
          | inl was ↦ let s : Shows ends roles k x = f.shows k x was in
              record {
                stand = s.stand;
                there = get_before ends (e ∷ []) s.stand k s.there;
                role = get_before roles (r ∷ []) x.role k s.role;
                host = s.host;
                own = s.own;
                named = s.named;
              }
          | inr new ↦ subst (Shows (ends ++ e ∷ []) (roles ++ r ∷ []) k) new.1
              (record {
                stand = e;
                there = ap (slice_get (ends ++ e ∷ [])) (new.0 ∙ f.count) ∙ get_here ends e;
                role = ap (slice_get (roles ++ r ∷ [])) (new.0 ∙ f.count ∙ sym count) ∙ get_here roles r;
                host = refl;
                own = sym own;
                named = λ m is'. ap names (same_link e.link l m is is');
              })
        ];
        are = λ k x at. elim (get_last f.identities c x k at) [
          | inl was ↦ identity_is_later homes f.identities (f.identities ++ c ∷ []) later k x (f.are k x was)
          | inr new ↦ identity_is_later homes f.identities (f.identities ++ c ∷ []) later k x
              (subst (IdentityIs homes f.identities k) new.1 (subst (λ j. IdentityIs homes f.identities j c) (sym (new.0 ∙ f.count)) identity))
        ];
        from = are_from_later homes f.identities (f.identities ++ c ∷ []) parcels marks later f.from;
        told = are_told_later f.identities (f.identities ++ c ∷ []) readings later f.told;
      }

  -- an end joins
  pub identified_joined : (who : ℕ) (e w : PresentEnd) (x y : Identity) (k : LinkView) → slice_get ends who ≡ Some e → w.link ≡ Some k → slice_get f.identities who ≡ Some x
      → w.host ≡ y.host → y.names.own ≡ w.own → y.names ≡ names k → IdentityLater x y → IdentityIs homes f.identities who y → Identified homes (set ends who w) parcels marks (set roles who y.role) readings
  identified_joined who e w x y k there is at host own named changed identity =
      let later : IdentitiesLater f.identities (set f.identities who y) = identity_joins f.identities who x y at changed in
      record {
        identities = set f.identities who y;
        count = length-set f.identities who y ∙ f.count ∙ sym (length-set ends who w);
        shows = λ j c at'. elim (get_set f.identities who j y c at') [
          | inl here ↦ subst (Shows (set ends who w) (set roles who y.role) j) here.1
              (record {
                stand = w;
                there = ap (slice_get (set ends who w)) (sym here.0) ∙ set_here ends who w e there;
                role = ap (slice_get (set roles who y.role)) (sym here.0) ∙ set_here roles who y.role x.role (f.shows who x at).role;
                host = sym host;
                own = own;
                named = λ m is'. named ∙ ap names (same_link w.link k m is is');
              })
          | inr other ↦ let s : Shows ends roles j c = f.shows j c other.1 in
              record {
                stand = s.stand;
                there = set_other ends who j w s.stand other.0 s.there;
                role = set_other roles who j y.role c.role other.0 s.role;
                host = s.host;
                own = s.own;
                named = s.named;
              }
        ];
        are = λ j c at'. elim (get_set f.identities who j y c at') [
          | inl here ↦ identity_is_later homes f.identities (set f.identities who y) later j c
              (subst (IdentityIs homes f.identities j) here.1 (subst (λ i. IdentityIs homes f.identities i y) here.0 identity))
          | inr other ↦ identity_is_later homes f.identities (set f.identities who y) later j c (f.are j c other.1)
        ];
        from = are_from_later homes f.identities (set f.identities who y) parcels marks later f.from;
        told = are_told_later f.identities (set f.identities who y) readings later f.told;
      }
