-- The invariant of two ends c and d of a scene, c with a buffers and d with b.
use Rattle.std.proofs.Common.{◌≡◌, ◌≢◌, ◌≤◌, ℕ, zero, suc, true, false, List, [], ◌∷◌, ◌++◌, length, set, Some, None, refl, sym, ap, subst}
use Rattle.std.specs.Prelude.{slice_get}
use Rattle.spx_link.specs.LinkView.{LinkView}
use Rattle.spx_link.specs.Machine.{End}
use Rattle.spx_theory.proofs.Running.{runs_over}
use Rattle.spx_theory.proofs.Stepping.{swapped}
use Rattle.spx_messages.specs.Message.{MessageView}
use Rattle.spx_theory.specs.Note.{Note}
use Rattle.spx_theory.specs.Scan.{Scan, Mark, Role, seen, seen_all, scan, unread}
use Rattle.spx_theory.specs.PairLog.{Half, Pair, pair_after, pair_from, pair_between}
use Rattle.spx_theory.specs.States.{is_quiet}
use Rattle.spx_theory.specs.Scene.{Scene, PresentEnd}
use Rattle.spx_theory.specs.PacketsOnWay.{out_notes}
use Rattle.spx_theory.proofs.Tied.{Whole}
use Rattle.spx_theory.proofs.Folding.{AreIn, seen_all-append, pair_noted, pair_grows}

abbrev pub IsUnjoined : List Role → ℕ → Type 0
IsUnjoined roles c = (r : Role) → slice_get roles c ≡ Some r → r.joined ≡ false

-- an end of the machine that has only sent packets without units
pub record IsNew (a : ℕ) (e : End) : Type 0 where
  pub base : e.base ≡ 0
  pub sent : e.sent ≡ 0
  pub limit : e.limit ≡ 0
  pub read : e.read ≡ 0
  pub taken : e.taken ≡ 0
  pub buffers : e.buffers ≡ a
  pub kept : e.kept ≡ []
  pub units : e.units ≡ []

abbrev pub IsQuiet : List PresentEnd → ℕ → Type 0
IsQuiet ends c = (e : PresentEnd) (l : LinkView) → slice_get ends c ≡ Some e → e.link ≡ Some l → is_quiet l.state ≡ true

pub record Held (c d a b : ℕ) (ends : List PresentEnd) (parcels : List (List ℕ)) (s : Scan) (p : Pair) : Type 0 where
  pub whole : Whole c d ends parcels s.marks s.sent p.one p.two
  -- until it joined
  pub early : IsUnjoined s.roles c → IsNew a p.one.end
  pub quiet : IsUnjoined s.roles c → IsQuiet ends c
  -- until it is made
  pub unmade : length ends ≤ d → IsNew b p.two.end

pub turned : (c d : ℕ) (ends : List PresentEnd) (parcels : List (List ℕ)) (marks : List Mark) (sent : List ℕ) (x y : Half) → Whole c d ends parcels marks sent x y → Whole d c ends parcels marks sent y x
turned c d ends parcels marks sent x y w = record { sound = swapped x.end y.end w.sound; run = runs_over x.end y.end w.run; one = w.two; two = w.one; count = w.count }

module _ (c d a b : ℕ) where
  abbrev pub HeldAt : Scene → Type 0
  HeldAt s = Held c d a b s.ends s.parcels (scan s.log) (pair_between c d a b s.parcels s.log)

  pub at_noted : (s : Scene) (ends : List PresentEnd) (ns : List Note)
      → Held c d a b ends s.parcels (seen_all (scan s.log) ns) (pair_from s.parcels c d (pair_between c d a b s.parcels s.log) ns)
      → Held c d a b ends s.parcels (scan (s.log ++ ns)) (pair_between c d a b s.parcels (s.log ++ ns))
  at_noted s ends ns h =
      subst (λ t. Held c d a b ends s.parcels t (pair_between c d a b s.parcels (s.log ++ ns))) (sym (seen_all-append unread s.log ns))
      (subst (λ p. Held c d a b ends s.parcels (seen_all (scan s.log) ns) p) (sym (pair_noted c d a b s.parcels s.log ns)) h)

  pub at_sent : (s : Scene) (ends : List PresentEnd) (bytes : List ℕ) (n : Note) → AreIn (length s.parcels) s.log
      → Held c d a b ends (s.parcels ++ bytes ∷ []) (seen (scan s.log) n) (pair_after (s.parcels ++ bytes ∷ []) c d (pair_between c d a b s.parcels s.log) n)
      → Held c d a b ends (s.parcels ++ bytes ∷ []) (scan (s.log ++ n ∷ [])) (pair_between c d a b (s.parcels ++ bytes ∷ []) (s.log ++ n ∷ []))
  at_sent s ends bytes n are h =
      subst (λ t. Held c d a b ends (s.parcels ++ bytes ∷ []) t (pair_between c d a b (s.parcels ++ bytes ∷ []) (s.log ++ n ∷ []))) (sym (seen_all-append unread s.log (n ∷ [])))
      (subst (λ p. Held c d a b ends (s.parcels ++ bytes ∷ []) (seen (scan s.log) n) p) (sym (pair_grows c d a b s.parcels (bytes ∷ []) s.log (n ∷ []) are)) h)

-- ---- entries that do not matter here
abbrev pub calmed : Scan → Scan
calmed s = record s { newest = None }

pub outs_seen : (s : Scan) (who : ℕ) (ms : List MessageView) → seen_all (calmed s) (out_notes who ms) ≡ calmed s
outs_seen s who [] = refl
outs_seen s who (m ∷ ms) = outs_seen s who ms

pub outs_paired : (parcels : List (List ℕ)) (c d : ℕ) (p : Pair) (who : ℕ) (ms : List MessageView) → pair_from parcels c d p (out_notes who ms) ≡ p
outs_paired parcels c d p who [] = refl
outs_paired parcels c d p who (m ∷ ms) = outs_paired parcels c d p who ms

pub outs_are : (count who : ℕ) (ms : List MessageView) → AreIn count (out_notes who ms)
outs_are count who [] = tt
outs_are count who (m ∷ ms) = (tt, outs_are count who ms)

-- ---- other ends
pub set_other : {A : Type 0} (xs : List A) (j k : ℕ) (x y : A) → j ≢ k → slice_get xs k ≡ Some y → slice_get (set xs j x) k ≡ Some y
set_other [] j k x y differ e = e
set_other (z ∷ zs) zero zero x y differ e = absurd (differ refl)
set_other (z ∷ zs) zero (suc k) x y differ e = e
set_other (z ∷ zs) (suc j) zero x y differ e = e
set_other (z ∷ zs) (suc j) (suc k) x y differ e = set_other zs j k x y (λ h. differ (ap suc h)) e

pub set_here : {A : Type 0} (xs : List A) (j : ℕ) (x y : A) → slice_get xs j ≡ Some y → slice_get (set xs j x) j ≡ Some x
set_here [] j x y e = absurd (cc e)
set_here (z ∷ zs) zero x y e = refl
set_here (z ∷ zs) (suc j) x y e = set_here zs j x y e
