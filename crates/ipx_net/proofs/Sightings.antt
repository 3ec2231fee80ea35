-- What an entry adds to the index of a log.
use Rattle.std.proofs.Common.{◌≡◌, ◌<◌, ◌≤◌, ◌+◌, ℕ, zero, suc, List, [], ◌∷◌, ◌++◌, length, get_or, drop, map, set, refl, sym, ◌∙◌, ap, arith, All, subst}
use Rattle.std.specs.Prelude.{slice_index_or}
use Rattle.std.proofs.lemmas.List.{map-append, map-set, length_push, get_or_default, drop_more}
use Rattle.std.proofs.lemmas.List.Elements.{All-push}
use Rattle.spx_theory.specs.Note.{Note}
use Rattle.spx_theory.specs.Scan.{Scan, joined_by, no_role, scan, seen, seen_all, unread}
use Rattle.spx_theory.specs.Scan as Scans
use Rattle.ipx_net.specs.LogEntries.{entry_note, entry_notes}
use Rattle.ipx_net.specs.Sights.{role_view}
use Rattle.ipx_net.specs.declared.entry.Entry.{Entry}
use Rattle.ipx_net.specs.declared.parcel_origin.ParcelOrigin.{ParcelOrigin}
use Rattle.ipx_net.specs.declared.role.Role.{Role}

-- an element of a list of views
pub view_at : {A B : Type 0} (f : A → B) (xs : List A) (k : ℕ) (x : A) (d : B) → k < length xs → x ≡ get_or xs k x → get_or (map f xs) k d ≡ f x
view_at f [] k x d h is = absurd (omega arith)
view_at f (y ∷ ys) zero x d h is = ap f (sym is)
view_at f (y ∷ ys) (suc k) x d h is = view_at f ys k x d (omega arith) is

-- the role of an end that joins
pub joins_there : (roles : List Role) (who : ℕ) (maker : Scans.Maker) (d new : Role) → who < length roles → role_view new ≡ joined_by maker (role_view (get_or roles who d))
    → map role_view (set roles who new) ≡ set (map role_view roles) who (joined_by maker (slice_index_or (map role_view roles) who no_role))
joins_there roles who maker d new h joins =
    let old : Role = get_or roles who d in
    let same : get_or (map role_view roles) who no_role ≡ role_view old = view_at role_view roles who old no_role h (get_or_default roles who d old h) in
    map-set role_view roles who new ∙ ap (set (map role_view roles) who) (joins ∙ ap (joined_by maker) (sym same))

-- one more entry is read
pub one_seen : (s t : Scan) (entries : List Entry) (at : ℕ) (e : Entry) → at < length entries → e ≡ get_or entries at e → t ≡ seen s (entry_note e)
    → seen_all s (entry_notes (drop at entries)) ≡ seen_all t (entry_notes (drop (at + 1) entries))
one_seen s t entries at e h is step =
    ap (λ (es : List Entry). seen_all s (entry_notes es)) (drop_more entries at e h ∙ ap (λ (x : Entry). x ∷ drop (at + 1) entries) (sym is))
    ∙ ap (λ (u : Scan). seen_all u (entry_notes (drop (at + 1) entries))) (sym step)

pub seen_all-append : (s : Scan) (ns more : List Note) → seen_all s (ns ++ more) ≡ seen_all (seen_all s ns) more
seen_all-append s [] more = refl
seen_all-append s (n ∷ ns) more = seen_all-append (seen s n) ns more

-- more entries are read
pub goes_on : (old added all : List Entry) (s t : Scan) → scan (entry_notes old) ≡ s → all ≡ old ++ added → t ≡ seen_all s (entry_notes added) → scan (entry_notes all) ≡ t
goes_on old added all s t before is after =
    ap (λ (es : List Entry). scan (entry_notes es)) is ∙ ap scan (map-append entry_note old added) ∙ seen_all-append unread (entry_notes old) (entry_notes added)
    ∙ ap (λ (u : Scan). seen_all u (entry_notes added)) before ∙ sym after

more : (n : ℕ) (marks : List ParcelOrigin) → All (λ m. m.passed ≤ n) marks → All (λ m. m.passed ≤ n + 1) marks
more n marks h k d w = let a = h k d w in omega arith

-- a mark with at most one more router than any before
pub one_more_passed : (marks : List ParcelOrigin) (m : ParcelOrigin) → All (λ x. x.passed ≤ length marks) marks → m.passed ≤ length marks + 1 → All (λ x. x.passed ≤ length (marks ++ m ∷ [])) (marks ++ m ∷ [])
one_more_passed marks m old new =
    subst (λ n. All (λ x. x.passed ≤ n) (marks ++ m ∷ [])) (sym (length_push marks m)) (All-push (λ x. x.passed ≤ length marks + 1) marks m (more (length marks) marks old) new)
