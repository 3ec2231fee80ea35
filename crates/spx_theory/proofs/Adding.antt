-- What stays tied when a parcel is made.
use Rattle.std.proofs.Common.{◌≡◌, ◌<◌, ℕ, List, [], ◌∷◌, ◌++◌, length, take, Option, Some, sym, ◌∙◌, inl, inr, ap, subst, arith, length-append}
use Rattle.std.specs.Prelude.{Contains, slice_get}
use Rattle.std.proofs.lemmas.List.{take-append-le}
use Rattle.std.proofs.lemmas.Option.{slice_get_within, slice_get-get_or}
use Rattle.std.proofs.lemmas.Bool.{cases_lt}
use Rattle.spx_link.specs.LinkView.{LinkView}
use Rattle.spx_link.specs.Machine.{Packet}
use Rattle.spx_theory.proofs.Stepping.{Later, was_later}
use Rattle.spx_theory.specs.Scan.{Mark, times, nowhere}
use Rattle.spx_theory.specs.Peers.{end_of}
use Rattle.spx_theory.specs.PairLog.{Half}
use Rattle.spx_theory.specs.Tracks.{Formed, Follows}
use Rattle.spx_theory.specs.Spelling.{Carries}
use Rattle.spx_theory.specs.Scene.{PresentEnd}
use Rattle.spx_theory.proofs.Lists.{get_before, get_last, get_here, read_there}
use Rattle.spx_theory.proofs.Tied.{mark_at, Letter, Tied}

-- an old mark stays, and a new one is the last
pub mark_before : (marks : List Mark) (m : Mark) (k : ℕ) → k < length marks → mark_at (marks ++ m ∷ []) k ≡ mark_at marks k
mark_before marks m k within =
    let at : slice_get marks k ≡ Some (mark_at marks k) = slice_get-get_or marks k nowhere within in
    read_there (marks ++ m ∷ []) k (mark_at marks k) nowhere (get_before marks (m ∷ []) (mark_at marks k) k at)

pub mark_here : (marks : List Mark) (m : Mark) → mark_at (marks ++ m ∷ []) (length marks) ≡ m
mark_here marks m = read_there (marks ++ m ∷ []) (length marks) m nowhere (get_here marks m)

-- of one half: a parcel is added, which is one of its own (o) or another's
pub record Adds (c d : ℕ) (ends : List PresentEnd) (parcels : List (List ℕ)) (bytes : List ℕ) (marks : List Mark) (m : Mark) (sent more : List ℕ) (x y x' y' : Half) : Type 0 where
  pub later : Later x.end y.end x'.end y'.end
  pub units : x'.end.units ≡ x.end.units
  pub buffers : x'.end.buffers ≡ x.end.buffers
  pub bag : (p : Packet) → Contains x.end.bag p → Contains x'.end.bag p
  pub mine : Option Packet
  pub mail : x'.mail ≡ x.mail ++ mine ∷ []
  pub count : x'.end.sent ≡ times c (sent ++ more)
  pub by : end_of m.maker ≡ Some c → (q : Packet) × (mine ≡ Some q)
  pub letter : (q : Packet) → mine ≡ Some q → Letter c d (parcels ++ bytes ∷ []) (marks ++ m ∷ []) (sent ++ more) x' y' (length marks) q
  pub link : (e : PresentEnd) (l : LinkView) → slice_get ends c ≡ Some e → e.link ≡ Some l → Follows l x'.end y'.end

pub letter_stays : (c d : ℕ) (parcels : List (List ℕ)) (bytes : List ℕ) (marks : List Mark) (m : Mark) (sent more : List ℕ) (x y x' y' : Half)
    → length marks ≡ length parcels → Later x.end y.end x'.end y'.end → x'.end.units ≡ x.end.units → ((p : Packet) → Contains x.end.bag p → Contains x'.end.bag p)
    → (k : ℕ) (q : Packet) → k < length marks → Letter c d parcels marks sent x y k q → Letter c d (parcels ++ bytes ∷ []) (marks ++ m ∷ []) (sent ++ more) x' y' k q
letter_stays c d parcels bytes marks m sent more x y x' y' same later units bag k q within letter =
    let at : mark_at (marks ++ m ∷ []) k ≡ mark_at marks k = mark_before marks m k within in
    let front : take (mark_at marks k).units (sent ++ more) ≡ take (mark_at marks k).units sent = take-append-le (mark_at marks k).units sent more letter.within in
    record {
      was = was_later x.end y.end x'.end y'.end later q letter.was;
      posted = bag q letter.posted;
      maker = ap (λ (n : Mark). end_of n.maker) at ∙ letter.maker;
      own = letter.own ∙ sym (ap (λ (n : Mark). times c (take n.units (sent ++ more))) at ∙ ap (times c) front);
      other = letter.other ∙ sym (ap (λ (n : Mark). times d (take n.units (sent ++ more))) at ∙ ap (times d) front);
      within = omega (arith, ap (λ (n : Mark). n.units) at, letter.within, length-append sent more);
      says = λ bs there p h body reads.
          let old : slice_get parcels k ≡ Some bs = elim (get_last parcels bytes bs k there) [ inl before ↦ before | inr here ↦ absurd (omega (arith, here.0, within, same)) ] in
          let s = letter.says bs old p h body reads in
          (s.0, subst (λ us. Carries q.position us h body) (sym units) s.1);
    }

pub adds : (c d : ℕ) (ends ends' : List PresentEnd) (parcels : List (List ℕ)) (bytes : List ℕ) (marks : List Mark) (m : Mark) (sent more : List ℕ) (x y x' y' : Half)
    → length marks ≡ length parcels → Adds c d ends' parcels bytes marks m sent more x y x' y' → Tied c d ends parcels marks sent x y
    → Tied c d ends' (parcels ++ bytes ∷ []) (marks ++ m ∷ []) (sent ++ more) x' y'
adds c d ends ends' parcels bytes marks m sent more x y x' y' same a t =
    record {
      link = a.link;
      letters = λ k q at. elim (get_last x.mail a.mine (Some q) k (ap (λ ms. slice_get ms k) (sym a.mail) ∙ at)) [
        | inl before ↦ letter_stays c d parcels bytes marks m sent more x y x' y' same a.later a.units a.bag k q
            (omega (arith, slice_get_within x.mail k (Some q) before, t.mail)) (t.letters k q before)
        | inr here ↦ subst (λ i. Letter c d (parcels ++ bytes ∷ []) (marks ++ m ∷ []) (sent ++ more) x' y' i q) (sym (here.0 ∙ t.mail)) (a.letter q here.1)
      ];
      all = λ k within by. elim (cases_lt k (length marks)) [
        | inl before ↦
            let found = t.all k before (ap (λ (n : Mark). end_of n.maker) (sym (mark_before marks m k before)) ∙ by) in
            (found.0, ap (λ ms. slice_get ms k) a.mail ∙ get_before x.mail (a.mine ∷ []) (Some found.0) k found.1)
        | inr past ↦
            let here : k ≡ length marks = omega (arith, within, past, length-append marks (m ∷ [])) in
            let last : mark_at (marks ++ m ∷ []) k ≡ m = ap (mark_at (marks ++ m ∷ [])) here ∙ mark_here marks m in
            let found = a.by (ap (λ (n : Mark). end_of n.maker) (sym last) ∙ by) in
            (found.0, ap (λ ms. slice_get ms k) a.mail ∙ ap (slice_get (x.mail ++ a.mine ∷ [])) (here ∙ sym t.mail) ∙ get_here x.mail a.mine ∙ ap Some found.1)
      ];
      mail = ap length a.mail ∙ omega (arith, length-append x.mail (a.mine ∷ []), length-append marks (m ∷ []), t.mail);
      count = a.count;
      formed = (t.formed.0, subst (λ us. Formed us t.formed.0) (sym a.units) t.formed.1);
      small = omega (arith, a.buffers, t.small);
    }
