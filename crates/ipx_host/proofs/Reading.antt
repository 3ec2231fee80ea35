-- What one read gives, and what is done with it.
use Rattle.std.proofs.Common.{◌≡◌, ◌≢◌, ◌∙◌, ◌<◌, ℕ, Bool, true, false, List, [], ◌∷◌, length, take, Option, Some, None, Result, Ok, Err, inl, inr, sym, ap, subst}
use Rattle.std.proofs.lemmas.Bool.{cases_eq}
use Rattle.std.specs.Prelude.{IfErr, IfOk, IsOk, OnErr, OnOk}
use Rattle.std.specs.Io.KnownBytes.{Consumes, Keeps, ReadConsumes}
use Rattle.spx_messages.specs.EndpointView.{EndpointView}
use Rattle.ipx_host.specs.Books.{Enters, EntersRead}
use Rattle.ipx_host.specs.Feeding.{HandsIn, HandsOn, ReadsOn, feed_state}
use Rattle.ipx_host.specs.declared.acked_bytes.Ledger.{Ledger}
use Rattle.ipx_host.specs.declared.send_outcome.SendOutcome.{SendOutcome}
use Rattle.ipx_host.specs.declared.send_outcome.SendOutcome.TheVariants as Verdicts

kept_bytes : (k k' : Option (List ℕ)) → Keeps k k' → Consumes k k' []
kept_bytes None k' kept = tt
kept_bytes (Some xs) None kept = absurd kept
kept_bytes (Some xs) (Some ys) kept = sym kept

pub read_on : {E : Type 0} (r : Result ℕ E) (answer : Result Bool SendOutcome) (e e' : EndpointView) (read read' closed closed' : Bool) (l l' : Ledger) (k k' : Option (List ℕ)) (buf room : List ℕ) (id : ℕ)
    → read ≡ false → closed' ≡ closed → ReadConsumes k k' r buf → 0 < length buf
    → IfOk r (λ n. OnOk answer (HandsOn e e' id (take n room) × EntersRead l l' (take n room)))
    → IfOk r (λ n. n ≡ 0 → (answer ≡ Ok true) × (read' ≡ true)) → IfOk r (λ n. n ≢ 0 → read' ≡ read)
    → OnErr r ((e' ≡ e) × (read' ≡ read) × (l' ≡ l)) → room ≡ buf
    → OnOk answer ((bytes : List ℕ) × ReadsOn (feed_state e read closed l k) (feed_state e' read' closed' l' k') id bytes)
read_on r (Err v) e e' read read' closed closed' l l' k k' buf room id unread same consumes roomy came over more still filled = tt
read_on (Ok n) (Ok b) e e' read read' closed closed' l l' k k' buf room id unread same consumes roomy came over more still filled = (
  take n room,
  record {
    unread = unread;
    taken = subst (λ xs. Consumes k k' (take n xs)) (sym filled) consumes.0;
    handed = came.0;
    entered = came.1;
    same = same;
    all = λ is. elim (cases_eq n 0) [
      | inl zero ↦ (ap (λ m. take m room) zero, consumes.1 zero roomy)
      | inr other ↦ absurd (let no = sym (more other ∙ unread) ∙ is in cc)
    ];
  },
)
read_on (Err x) (Ok b) e e' read read' closed closed' l l' k k' buf room id unread same consumes roomy came over more still filled = (
  [],
  record {
    unread = unread;
    taken = kept_bytes k k' consumes;
    handed = still.0;
    entered = still.2;
    same = same;
    all = λ is. absurd (let no = sym (still.1 ∙ unread) ∙ is in cc);
  },
)

-- if it can't be read, nothing was read
pub unread_on : {E : Type 0} (r : Result ℕ E) (answer : Result Bool SendOutcome) (e e' : EndpointView) (read read' : Bool) (l l' : Ledger) (k k' : Option (List ℕ)) (room : List ℕ)
    → ReadConsumes k k' r room → IfOk r (λ n. IfErr answer (λ v. v ≡ Verdicts.OutOfMemory))
    → OnErr r ((e' ≡ e) × (read' ≡ read) × (l' ≡ l)) → answer ≡ Err Verdicts.Unread → Keeps k k' × (e' ≡ e)
unread_on (Ok n) (Ok b) e e' read read' l l' k k' room consumes memory still is = absurd (cc)
unread_on (Ok n) (Err v) e e' read read' l l' k k' room consumes memory still is = absurd (cc)
unread_on (Err x) answer e e' read read' l l' k k' room consumes memory still is = (consumes, still.0)

-- what was read and queued
pub on_some : (e e' : EndpointView) (id : ℕ) (l l' : Ledger) (xs : List ℕ) (n : ℕ) → length xs ≡ n → n ≢ 0 → HandsIn e e' id xs → Enters l l' n → HandsOn e e' id xs × EntersRead l l' xs
on_some e e' id l l' [] n len some h en = absurd (some (sym len))
on_some e e' id l l' (b ∷ bs) n len some h en = (h, subst (λ m. Enters l l' m) (sym len) en)

-- what holds if a call succeeds, which it did
pub by_ok : {T E : Type 0} (P : Type 0) (r : Result T E) → IsOk r → OnOk r P → P
by_ok P (Ok x) is p = p
by_ok P (Err e) is p = absurd (cc)
