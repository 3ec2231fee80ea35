-- An end stays at its host, and a released one sends no more.
use Rattle.std.proofs.Common.{◌≡◌, ◌+◌, ℕ, List, [], ◌∷◌, ◌++◌, length, set, Some, None, refl, sym, ◌∙◌, ap, subst, arith, inl, inr}
use Rattle.std.specs.Prelude.{slice_get}
use Rattle.std.proofs.lemmas.List.{append-nil}
use Rattle.std.proofs.lemmas.Bool.{cases_eq}
use Rattle.spx_link.specs.declared.outgoing.Sent.{Sent}
use Rattle.spx_link.specs.LinkView.{LinkView}
use Rattle.spx_link.specs.Poll.{poll_link}
use Rattle.spx_link.specs.Receive.{receive_link}
use Rattle.spx_theory.specs.Note.{Note, Opened, Accepted, Got, HandsIn, AsksEnd, TakesUnit, Released, Told, Carried, Injected}
use Rattle.spx_theory.specs.Scan.{Scan, times, seen, seen_all, scan, unread}
use Rattle.spx_theory.specs.Scene.{Scene, PresentEnd, IsPresent, linked}
use Rattle.spx_theory.specs.Deeds.{Deed, DoesDeed, Dials, Accepts, Reads, OwesReply, Paces, AsksAgain, Gives, Rests, Sends, Takes, Overruns, Closes, Releases, Carries, Tells, Injects}
use Rattle.spx_theory.specs.PacketsOnWay.{note_of, notes_of, out_notes}
use Rattle.spx_theory.specs.SentUnits.{sent_by}
use Rattle.spx_theory.specs.EndsSummarized.{StaysAtHost}
use Rattle.spx_theory.proofs.Lists.{get_before, times-append}
use Rattle.spx_theory.proofs.Folding.{seen_all-append}
use Rattle.spx_theory.proofs.Held.{outs_seen, set_other, set_here}
use Rattle.spx_theory.proofs.EndStateLemmas.{SentBy, given_more, given_sent, read_sent}
use Rattle.spx_theory.proofs.Fields.{log_of}

-- ---- a released end sends no more

quiet : (s s' : Scene) (ns : List Note) (who : ℕ) → s'.log ≡ s.log ++ ns → (seen_all (scan s.log) ns).sent ≡ (scan s.log).sent → sent_by who s'.log ≡ sent_by who s.log
quiet s s' ns who log same = ap (λ l. sent_by who l) log ∙ ap (λ (t : Scan). times who t.sent) (seen_all-append unread s.log ns) ∙ ap (times who) same

silent : (s s' : Scene) (who : ℕ) → s'.log ≡ s.log → sent_by who s'.log ≡ sent_by who s.log
silent s s' who log = ap (λ l. sent_by who l) log

no_more : (s : Scene) (j : ℕ) (old new : PresentEnd) (k : LinkView) (more : List ℕ) (n : Note) → slice_get s.ends j ≡ Some old → new.link ≡ Some k → SentBy j more (scan s.log) (seen (scan s.log) n)
    → (who : ℕ) (e : PresentEnd) → slice_get (set s.ends j new) who ≡ Some e → e.link ≡ None → sent_by who (s.log ++ n ∷ []) ≡ sent_by who s.log
no_more s j old new k more n there is by who e at gone =
    elim (cases_eq j who) [
      | inl same ↦
          let here : slice_get (set s.ends j new) j ≡ Some new = set_here s.ends j new old there in
          let found : new ≡ e = cc (sym here ∙ ap (slice_get (set s.ends j new)) same ∙ at) in
          absurd (cc (sym is ∙ ap (λ (x : PresentEnd). x.link) found ∙ gone))
      | inr other ↦
          let none : times who more ≡ 0 = by.others who other in
          let counts : times who (seen (scan s.log) n).sent ≡ times who (scan s.log).sent + times who more = ap (times who) by.sent ∙ times-append who (scan s.log).sent more in
          let now : sent_by who (s.log ++ n ∷ []) ≡ times who (seen (scan s.log) n).sent = ap (λ (t : Scan). times who t.sent) (seen_all-append unread s.log (n ∷ [])) in
          now ∙ omega (arith, counts, none)
    ]

pub gone_sends_nothing : (s s' : Scene) (deed : Deed) → DoesDeed deed s s' → (who : ℕ) (e : PresentEnd) → slice_get s'.ends who ≡ Some e → e.link ≡ None → sent_by who s'.log ≡ sent_by who s.log
gone_sends_nothing s s' (Dials host id socket to buffers now) does j e at gone = quiet s s' (Opened (length s.ends) host buffers ∷ []) j (ap log_of does.after) refl
gone_sends_nothing s s' (Accepts host id socket parcel buffers now) does j e at gone = quiet s s' (Accepted (length s.ends) parcel buffers ∷ Got (length s.ends) parcel ∷ []) j (ap log_of does.after) refl
gone_sends_nothing s s' (Reads who parcel) does j e at gone =
    let by = read_sent (receive_link does.link does.header does.body).0 who parcel (scan s.log) in
    quiet s s' (notes_of (receive_link does.link does.header does.body).0 who parcel) j (ap log_of does.after) (by.sent ∙ append-nil (scan s.log).sent)
gone_sends_nothing s s' (OwesReply who) does j e at gone = silent s s' j (ap log_of does.after)
gone_sends_nothing s s' (Paces who window manual) does j e at gone = silent s s' j (ap log_of does.after)
gone_sends_nothing s s' (AsksAgain who place) does j e at gone = silent s s' j (ap log_of does.after)
gone_sends_nothing s s' (Gives who now segment bytes) does j e at gone =
    let k : LinkView = (poll_link does.link now).1 in
    let what : Sent = does.given.what in
    ap (λ z. sent_by j (log_of z)) does.after
    ∙ no_more s who does.stand (linked does.stand k) k (given_more what who) (note_of what who (length s.parcels)) does.stands.there refl (given_sent (scan s.log) what who (length s.parcels)) j e
    (ap (λ (z : Scene). slice_get z.ends j) (sym does.after) ∙ at) gone
gone_sends_nothing s s' (Rests who now) does j e at gone = silent s s' j (ap log_of does.after)
gone_sends_nothing s s' (Sends who m) does j e at gone = quiet s s' (HandsIn who m ∷ []) j (ap log_of does.after) refl
gone_sends_nothing s s' (Takes who u) does j e at gone =
    quiet s s' (TakesUnit who u ∷ out_notes who does.joins.messages) j (ap log_of does.after) (ap (λ (t : Scan). t.sent) (outs_seen (scan s.log) who does.joins.messages))
gone_sends_nothing s s' (Overruns who u) does j e at gone = silent s s' j (ap log_of does.after)
gone_sends_nothing s s' (Closes who) does j e at gone = quiet s s' (AsksEnd who ∷ []) j (ap log_of does.after) refl
gone_sends_nothing s s' (Releases who) does j e at gone = quiet s s' (Released who ∷ []) j (ap log_of does.after) refl
gone_sends_nothing s s' (Carries from network segment bytes) does j e at gone = quiet s s' (Carried from (length s.parcels) ∷ []) j (ap log_of does.after) refl
gone_sends_nothing s s' (Tells router segment bytes) does j e at gone = quiet s s' (Told router (length s.parcels) ∷ []) j (ap log_of does.after) refl
gone_sends_nothing s s' (Injects segment bytes) does j e at gone = quiet s s' (Injected (length s.parcels) ∷ []) j (ap log_of does) refl

-- ---- ends stay

abbrev IsStill : List PresentEnd → ℕ → PresentEnd → Type 0
IsStill ends who e = (f : PresentEnd) × (slice_get ends who ≡ Some f) × StaysAtHost e f

stays_same : (ends : List PresentEnd) (who : ℕ) (e : PresentEnd) → slice_get ends who ≡ Some e → IsStill ends who e
stays_same ends who e at = (e, at, record { host = refl; own = refl; gone = λ is. refl })

stays_before : (ends : List PresentEnd) (new : PresentEnd) (who : ℕ) (e : PresentEnd) → slice_get ends who ≡ Some e → IsStill (ends ++ new ∷ []) who e
stays_before ends new who e at = (e, get_before ends (new ∷ []) e who at, record { host = refl; own = refl; gone = λ is. refl })

stays_set : (s : Scene) (j : ℕ) (old new : PresentEnd) (l : LinkView) → IsPresent s j old l → new.host ≡ old.host → new.own ≡ old.own → (who : ℕ) (e : PresentEnd) → slice_get s.ends who ≡ Some e → IsStill (set s.ends j new) who e
stays_set s j old new l stands host own who e at =
    elim (cases_eq j who) [
      | inl same ↦
          let is : old ≡ e = cc (sym stands.there ∙ ap (slice_get s.ends) same ∙ at) in (
            new,
            ap (slice_get (set s.ends j new)) (sym same) ∙ set_here s.ends j new old stands.there,
            record { host = host ∙ ap (λ (x : PresentEnd). x.host) is; own = own ∙ ap (λ (x : PresentEnd). x.own) is; gone = λ gone. absurd (cc (sym stands.link ∙ ap (λ (x : PresentEnd). x.link) is ∙ gone)) },
          )
      | inr other ↦ (e, set_other s.ends j who new e other at, record { host = refl; own = refl; gone = λ is. refl })
    ]

abbrev IsStillIn : ℕ → PresentEnd → Scene → Type 0
IsStillIn who e z = IsStill z.ends who e

pub ends_stay : (s s' : Scene) (deed : Deed) → DoesDeed deed s s' → (who : ℕ) (e : PresentEnd) → slice_get s.ends who ≡ Some e → (f : PresentEnd) × (slice_get s'.ends who ≡ Some f) × StaysAtHost e f
ends_stay s s' (Dials host id socket to buffers now) does j e at = subst (IsStillIn j e) (sym does.after) (stays_before s.ends _ j e at)
ends_stay s s' (Accepts host id socket parcel buffers now) does j e at = subst (IsStillIn j e) (sym does.after) (stays_before s.ends _ j e at)
ends_stay s s' (Reads who parcel) does j e at = subst (IsStillIn j e) (sym does.after) (stays_set s who does.stand _ does.link does.stands refl refl j e at)
ends_stay s s' (OwesReply who) does j e at = subst (IsStillIn j e) (sym does.after) (stays_set s who does.stand _ does.link does.stands refl refl j e at)
ends_stay s s' (Paces who window manual) does j e at = subst (IsStillIn j e) (sym does.after) (stays_set s who does.stand _ does.link does.stands refl refl j e at)
ends_stay s s' (AsksAgain who place) does j e at = subst (IsStillIn j e) (sym does.after) (stays_set s who does.stand _ does.link does.stands refl refl j e at)
ends_stay s s' (Gives who now segment bytes) does j e at = subst (IsStillIn j e) (sym does.after) (stays_set s who does.stand _ does.link does.stands refl refl j e at)
ends_stay s s' (Rests who now) does j e at = subst (IsStillIn j e) (sym does.after) (stays_set s who does.stand _ does.link does.stands refl refl j e at)
ends_stay s s' (Sends who m) does j e at = subst (IsStillIn j e) (sym does.after) (stays_set s who does.stand _ does.link does.stands refl refl j e at)
ends_stay s s' (Takes who u) does j e at = subst (IsStillIn j e) (sym does.after) (stays_set s who does.stand _ does.link does.stands refl refl j e at)
ends_stay s s' (Overruns who u) does j e at = subst (IsStillIn j e) (sym does.after) (stays_set s who does.stand _ does.link does.stands refl refl j e at)
ends_stay s s' (Closes who) does j e at = subst (IsStillIn j e) (sym does.after) (stays_set s who does.stand _ does.link does.stands refl refl j e at)
ends_stay s s' (Releases who) does j e at = subst (IsStillIn j e) (sym does.after) (stays_set s who does.stand _ does.link does.stands refl refl j e at)
ends_stay s s' (Carries from network segment bytes) does j e at = subst (IsStillIn j e) (sym does.after) (stays_same s.ends j e at)
ends_stay s s' (Tells router segment bytes) does j e at = subst (IsStillIn j e) (sym does.after) (stays_same s.ends j e at)
ends_stay s s' (Injects segment bytes) does j e at = subst (IsStillIn j e) (sym does) (stays_same s.ends j e at)
