-- A log that grows: the index of an entry in it, its marks and roles, and what a packet allowed.
use Rattle.std.proofs.Common.{◌≡◌, ◌⊎◌, ◌+◌, ◌<◌, ℕ, List, [], ◌∷◌, ◌++◌, length, Some, refl, sym, ◌∙◌, inl, inr, ap, subst, arith, length-append}
use Rattle.std.specs.Prelude.{slice_get}
use Rattle.std.proofs.lemmas.List.{append-nil, append_assoc}
use Rattle.std.proofs.lemmas.Option.{slice_get_within, slice_get-get_or}
use Rattle.spx_theory.specs.Note.{Note, Got, SendsUnit, SendsAgain, SendsSystem, Told, Carried, Injected}
use Rattle.spx_theory.specs.Scan.{Scan, Mark, Role, seen, seen_all, scan, unread, mark_of, role_of, nowhere, no_role}
use Rattle.spx_theory.specs.Handed.{taken_of}
use Rattle.spx_theory.specs.Allocation.{IsAllowed}
use Rattle.spx_theory.specs.LogPremises.{IsMadeBy}
use Rattle.spx_theory.proofs.Lists.{get_before, read_there}
use Rattle.spx_theory.proofs.Tied.{mark_at}
use Rattle.spx_theory.proofs.Folding.{seen_all-append}
use Rattle.spx_theory.proofs.PairPremises.{all_grew, RolesLater}

-- an entry of a log that grew is an old one or a new one
pub splits : {A : Type 0} (xs ys before after : List A) (x : A) → xs ++ ys ≡ before ++ x ∷ after
    → ((mid : List A) × (xs ≡ before ++ x ∷ mid)) ⊎ ((pre : List A) × (before ≡ xs ++ pre) × (ys ≡ pre ++ x ∷ after))
splits [] ys before after x is = inr (before, refl, is)
splits (y ∷ xs) ys [] after x is = let same : y ≡ x = cc is in inl (xs, ap (λ z. z ∷ xs) same)
splits (y ∷ xs) ys (b ∷ before) after x is =
    let same : y ≡ b = cc is in
    let rest : xs ++ ys ≡ before ++ x ∷ after = cc is in
    elim (splits xs ys before after x rest) [
      | inl in' ↦ inl (in'.0, ap (λ z. z ∷ xs) same ∙ ap (λ zs. b ∷ zs) in'.1)
      | inr out ↦ inr (out.0, ap (λ zs. b ∷ zs) out.1 ∙ ap (λ z. z ∷ (xs ++ out.0)) (sym same), out.2)
    ]

-- marks are only added
pub marks_after : (s : Scan) (n : Note) → (more : List Mark) × ((seen s n).marks ≡ s.marks ++ more)
marks_after s (SendsUnit who parcel) = (_, refl)
marks_after s (SendsAgain who parcel) = (_, refl)
marks_after s (SendsSystem who parcel) = (_, refl)
marks_after s (Told router parcel) = (_, refl)
marks_after s (Carried from parcel) = (_, refl)
marks_after s (Injected parcel) = (_, refl)
marks_after s n = ([], sym (append-nil s.marks))

pub marks_grow : (s : Scan) (ns : List Note) → (more : List Mark) × ((seen_all s ns).marks ≡ s.marks ++ more)
marks_grow s [] = ([], sym (append-nil s.marks))
marks_grow s (n ∷ ns) =
    let one = marks_after s n in
    let rest = marks_grow (seen s n) ns in
    (one.0 ++ rest.0, rest.1 ∙ ap (λ ms. ms ++ rest.0) one.1 ∙ append_assoc s.marks one.0 rest.0)

pub mark_in : (ms more : List Mark) (k : ℕ) → k < length ms → mark_at (ms ++ more) k ≡ mark_at ms k
mark_in ms more k within =
    let at : slice_get ms k ≡ Some (mark_at ms k) = slice_get-get_or ms k nowhere within in
    read_there (ms ++ more) k (mark_at ms k) nowhere (get_before ms more (mark_at ms k) k at)

pub record MarkStays (log ns : List Note) (k : ℕ) : Type 0 where
  pub mark : mark_at (scan (log ++ ns)).marks k ≡ mark_at (scan log).marks k
  pub within : k < length (scan (log ++ ns)).marks

pub mark_stays : (log ns : List Note) (k : ℕ) → k < length (scan log).marks → MarkStays log ns k
mark_stays log ns k within =
    let g = marks_grow (scan log) ns in
    let is : (scan (log ++ ns)).marks ≡ (scan log).marks ++ g.0 = ap (λ (t : Scan). t.marks) (seen_all-append unread log ns) ∙ g.1 in
    record {
      mark = ap (λ ms. mark_at ms k) is ∙ mark_in (scan log).marks g.0 k within;
      within = omega (arith, ap length is, length-append (scan log).marks g.0, within);
    }

pub record RoleStays (log ns : List Note) (k : ℕ) : Type 0 where
  pub buffers : (role_of (scan (log ++ ns)) k).buffers ≡ (role_of (scan log) k).buffers
  pub within : k < length (scan (log ++ ns)).roles

pub role_stays : (log ns : List Note) (k : ℕ) → k < length (scan log).roles → RoleStays log ns k
role_stays log ns k within =
    let s : Scan = scan log in
    let at : slice_get s.roles k ≡ Some (role_of s k) = slice_get-get_or s.roles k no_role within in
    let later : RolesLater s.roles (scan (log ++ ns)).roles = subst (λ (t : Scan). RolesLater s.roles t.roles) (sym (seen_all-append unread log ns)) ((all_grew s ns).roles) in
    let found = later k (role_of s k) at in
    record {
      buffers = ap (λ (r : Role). r.buffers) (read_there (scan (log ++ ns)).roles k found.0 no_role found.1) ∙ found.2.buffers;
      within = slice_get_within (scan (log ++ ns)).roles k found.0 found.1;
    }

-- the end c, of b buffers, made the parcel `origin` while it allowed so many
pub record IsPosted (c origin allows b : ℕ) (log : List Note) : Type 0 where
  pub making : Note
  pub past : List Note
  pub later : List Note
  pub made : log ≡ past ++ making ∷ later
  pub by : IsMadeBy making c origin
  pub known : c < length (scan log).roles
  pub allows_is : allows ≡ length (taken_of c past) + b

pub posted_more : (c origin allows b : ℕ) (log ns : List Note) → IsPosted c origin allows b log → IsPosted c origin allows b (log ++ ns)
posted_more c origin allows b log ns p =
    record {
      making = p.making;
      past = p.past;
      later = p.later ++ ns;
      made = ap (λ xs. xs ++ ns) p.made ∙ append_assoc p.past (p.making ∷ p.later) ns;
      by = p.by;
      known = (role_stays log ns c p.known).within;
      allows_is = p.allows_is;
    }

-- c read a packet of d, of b buffers, which allowed the position n
pub record IsAllowing (c d b n : ℕ) (log : List Note) : Type 0 where
  pub parcel : ℕ
  pub older : List Note
  pub newer : List Note
  pub read : log ≡ older ++ Got c parcel ∷ newer
  pub within : parcel < length (scan log).marks
  pub allows : ℕ
  pub posted : IsPosted d (mark_of (scan log) parcel).origin allows b log
  pub over : n < allows

pub allowing_more : (c d b n : ℕ) (log ns : List Note) → IsAllowing c d b n log → IsAllowing c d b n (log ++ ns)
allowing_more c d b n log ns a =
    let m = mark_stays log ns a.parcel a.within in
    record {
      parcel = a.parcel;
      older = a.older;
      newer = a.newer ++ ns;
      read = ap (λ xs. xs ++ ns) a.read ∙ append_assoc a.older (Got c a.parcel ∷ a.newer) ns;
      within = m.within;
      allows = a.allows;
      posted = subst (λ (x : Mark). IsPosted d x.origin a.allows b (log ++ ns)) (sym m.mark) (posted_more d _ a.allows b log ns a.posted);
      over = a.over;
    }

pub is_allowed : (c d b n : ℕ) (log : List Note) → (role_of (scan log) d).buffers ≡ b → IsAllowing c d b n log → IsAllowed log c n
is_allowed c d b n log role a =
    record {
      parcel = a.parcel;
      sender = d;
      making = a.posted.making;
      past = a.posted.past;
      later = a.posted.later;
      older = a.older;
      newer = a.newer;
      read = a.read;
      made = a.posted.made;
      by = a.posted.by;
      allows = omega (arith, a.over, a.posted.allows_is, role);
    }
