-- Deeds of others leave a pair tied, and their parcels are none of the pair's; a parcel that a router
-- forwarded is the packet that it was.
use Rattle.std.proofs.Common.{◌≡◌, ◌≢◌, ◌≤◌, ◌<◌, ℕ, zero, suc, List, [], ◌∷◌, ◌++◌, length, take, Option, Some, None, refl, sym, ◌∙◌, inl, inr, ap, subst, arith, length-append}
use Rattle.std.specs.Prelude.{slice_get, slice_index_or}
use Rattle.std.proofs.lemmas.List.{append-nil}
use Rattle.std.proofs.lemmas.Bool.{cases_lt}
use Rattle.std.proofs.lemmas.Option.{slice_get_within, slice_get-get_or}
use Rattle.ipx_wire.specs.declared.address.Network.{Network}
use Rattle.spx_link.specs.Machine.{Packet}
use Rattle.ipx_wire.specs.Connection.{IsConnectionPacket}
use Rattle.spx_theory.specs.Note.{Carried}
use Rattle.spx_theory.specs.Scan.{Scan, Mark, times, seen, one_further}
use Rattle.spx_theory.specs.Peers.{end_of}
use Rattle.spx_theory.specs.PairLog.{Half, half_after, not_mine, mail_of}
use Rattle.spx_theory.specs.Scene.{PresentEnd}
use Rattle.spx_theory.specs.PacketsOnWay.{IsOneOn}
use Rattle.spx_theory.proofs.Lists.{times-append, read_there, get_last}
use Rattle.spx_theory.proofs.Tied.{mark_at, Tied, Whole}
use Rattle.spx_theory.proofs.Bytes.{carried_reads}
use Rattle.spx_theory.proofs.Adding.{adds, mark_here}
use Rattle.spx_theory.specs.Below.{LawsBelow}

-- the ends are others, except these two
pub retied : (c d : ℕ) (ends ends' : List PresentEnd) (parcels : List (List ℕ)) (marks : List Mark) (sent : List ℕ) (x y : Half)
    → ((e : PresentEnd) → slice_get ends' c ≡ Some e → slice_get ends c ≡ Some e) → Tied c d ends parcels marks sent x y → Tied c d ends' parcels marks sent x y
retied c d ends ends' parcels marks sent x y same t =
    record { link = λ e l at is. t.link e l (same e at) is; letters = t.letters; all = t.all; mail = t.mail; count = t.count; formed = t.formed; small = t.small }

pub elsewhere : (c d : ℕ) (ends ends' : List PresentEnd) (parcels : List (List ℕ)) (marks : List Mark) (sent : List ℕ) (x y : Half)
    → ((e : PresentEnd) → slice_get ends' c ≡ Some e → slice_get ends c ≡ Some e) → ((e : PresentEnd) → slice_get ends' d ≡ Some e → slice_get ends d ≡ Some e)
    → Whole c d ends parcels marks sent x y → Whole c d ends' parcels marks sent x y
elsewhere c d ends ends' parcels marks sent x y one two w =
    record {
      sound = w.sound;
      run = w.run;
      count = w.count;
      one = retied c d ends ends' parcels marks sent x y one w.one;
      two = retied d c ends ends' parcels marks sent y x two w.two;
    }

-- a parcel that neither of the two made
pub foreign_half : (c d : ℕ) (ends : List PresentEnd) (parcels : List (List ℕ)) (bytes : List ℕ) (marks : List Mark) (m : Mark) (sent more : List ℕ) (x y : Half)
    → length marks ≡ length parcels → end_of m.maker ≢ Some c → times c more ≡ 0 → Tied c d ends parcels marks sent x y
    → Tied c d ends (parcels ++ bytes ∷ []) (marks ++ m ∷ []) (sent ++ more) (not_mine x) (not_mine y)
foreign_half c d ends parcels bytes marks m sent more x y same other none t =
    adds c d ends ends parcels bytes marks m sent more x y (not_mine x) (not_mine y) same
    (record {
      later = omega arith;
      units = refl;
      buffers = refl;
      bag = λ q there. there;
      mine = None;
      mail = refl;
      count = omega (arith, t.count, times-append c sent more, none);
      by = λ is. absurd (other is);
      letter = λ q is. absurd (cc is);
      link = t.link;
    }) t

pub foreign_whole : (c d : ℕ) (ends : List PresentEnd) (parcels : List (List ℕ)) (bytes : List ℕ) (marks : List Mark) (m : Mark) (sent more : List ℕ) (x y : Half)
    → end_of m.maker ≢ Some c → end_of m.maker ≢ Some d → times c more ≡ 0 → times d more ≡ 0 → Whole c d ends parcels marks sent x y
    → Whole c d ends (parcels ++ bytes ∷ []) (marks ++ m ∷ []) (sent ++ more) (not_mine x) (not_mine y)
foreign_whole c d ends parcels bytes marks m sent more x y not_c not_d none none' w =
    record {
      sound = w.sound;
      run = w.run;
      one = foreign_half c d ends parcels bytes marks m sent more x y w.count not_c none w.one;
      two = foreign_half d c ends parcels bytes marks m sent more y x w.count not_d none' w.two;
      count = omega (arith, w.count, length-append marks (m ∷ []), length-append parcels (bytes ∷ []));
    }

-- ---- a parcel that a router forwarded
pub mail_there : (x : Half) (k : ℕ) (q : Packet) → mail_of x k ≡ Some q → slice_get x.mail k ≡ Some (Some q)
mail_there x k q is = elim (cases_lt k (length x.mail)) [
  | inl within ↦ slice_get-get_or x.mail k None within ∙ ap Some is
  | inr past ↦ absurd (cc (sym (index_past x.mail k past) ∙ is))
]
  where
    index_past : (xs : List (Option Packet)) (k : ℕ) → length xs ≤ k → slice_index_or xs k None ≡ None
    index_past [] k past = refl
    index_past (z ∷ zs) zero past = absurd (omega (arith, past))
    index_past (z ∷ zs) (suc k) past = index_past zs k (omega (arith, past))

abbrev pub copied : Half → ℕ → Half
copied x from = record x { mail = x.mail ++ mail_of x from ∷ [] }

pub carried_half : (laws : LawsBelow) (c d : ℕ) (ends : List PresentEnd) (parcels : List (List ℕ)) (marks : List Mark) (sent : List ℕ) (x y : Half)
    (from : ℕ) (network : Network) (old bytes : List ℕ) → length marks ≡ length parcels → slice_get parcels from ≡ Some old → IsOneOn network old bytes
    → Tied c d ends parcels marks sent x y
    → Tied c d ends (parcels ++ bytes ∷ []) (marks ++ one_further (mark_at marks from) ∷ []) (sent ++ []) (copied x from) (copied y from)
carried_half laws c d ends parcels marks sent x y from network old bytes same comes on t =
    let m : Mark = one_further (mark_at marks from) in
    let here : mark_at (marks ++ m ∷ []) (length marks) ≡ m = mark_here marks m in
    let none : sent ++ [] ≡ sent = append-nil sent in
    let within : from < length marks = omega (arith, slice_get_within parcels from old comes, same) in
    let upto : take (mark_at (marks ++ m ∷ []) (length marks)).units (sent ++ []) ≡ take (mark_at marks from).units sent =
    ap (λ (n : Mark). take n.units (sent ++ [])) here ∙ ap (take (mark_at marks from).units) none in
    adds c d ends ends parcels bytes marks m sent [] x y (copied x from) (copied y from) same
    (record {
      later = omega arith;
      units = refl;
      buffers = refl;
      bag = λ q there. there;
      mine = mail_of x from;
      mail = refl;
      count = t.count ∙ ap (times c) (sym none);
      by = λ is. let found = t.all from within is in (found.0, read_there x.mail from (Some found.0) None found.1);
      letter = λ q is.
          let letter = t.letters from q (mail_there x from q is) in
          record {
            was = letter.was;
            posted = letter.posted;
            maker = ap (λ (n : Mark). end_of n.maker) here ∙ letter.maker;
            own = letter.own ∙ sym (ap (times c) upto);
            other = letter.other ∙ sym (ap (times d) upto);
            within = omega (arith, ap (λ (n : Mark). n.units) here, letter.within, ap length none);
            says = λ bs at p h body reads.
                let last : bs ≡ bytes = elim (get_last parcels bytes bs (length marks) at) [
                  | inl before ↦ absurd (omega (arith, slice_get_within parcels (length marks) bs before, same))
                  | inr there ↦ sym there.1
                ] in
                let back = carried_reads laws network old bytes on p h body (subst (λ (zs : List ℕ). IsConnectionPacket p h body zs) last reads) in
                letter.says old comes back.0 h body back.1;
          };
      link = t.link;
    }) t

pub carried_whole : (laws : LawsBelow) (c d : ℕ) (ends : List PresentEnd) (parcels : List (List ℕ)) (s : Scan) (x y : Half)
    (from : ℕ) (network : Network) (old bytes : List ℕ) → slice_get parcels from ≡ Some old → IsOneOn network old bytes
    → Whole c d ends parcels s.marks s.sent x y
    → Whole c d ends (parcels ++ bytes ∷ []) (seen s (Carried from (length parcels))).marks (seen s (Carried from (length parcels))).sent
    (half_after (parcels ++ bytes ∷ []) c x y (Carried from (length parcels))) (half_after (parcels ++ bytes ∷ []) d y x (Carried from (length parcels)))
carried_whole laws c d ends parcels s x y from network old bytes comes on w =
    let m : Mark = one_further (mark_at s.marks from) in
    let done : Whole c d ends (parcels ++ bytes ∷ []) (s.marks ++ m ∷ []) (s.sent ++ []) (copied x from) (copied y from) =
    record {
      sound = w.sound;
      run = w.run;
      one = carried_half laws c d ends parcels s.marks s.sent x y from network old bytes w.count comes on w.one;
      two = carried_half laws d c ends parcels s.marks s.sent y x from network old bytes w.count comes on w.two;
      count = omega (arith, w.count, length-append s.marks (m ∷ []), length-append parcels (bytes ∷ []));
    } in
    subst (λ (ns : List ℕ). Whole c d ends (parcels ++ bytes ∷ []) (s.marks ++ m ∷ []) ns (copied x from) (copied y from)) (append-nil s.sent) done
