-- In every scene that can be reached: an end has read a packet after the one that made or joined it, if it
-- took a unit, holds one, or queued its end and has an empty queue. One that queued its end was asked to. One
-- that is confirmed has an empty queue.
use Rattle.std.proofs.Common.{◌≡◌, ◌≢◌, ◌⊎◌, ◌==◌, ℕ, true, false, List, [], ◌∷◌, ◌++◌, length, map, length-append, set, Option, Some, None, refl, sym, ◌∙◌, inl, inr, ap, subst, arith, ne_eqb}
use Rattle.std.specs.Prelude.{slice_get, Contains}
use Rattle.std.proofs.lemmas.List.{append-nil}
use Rattle.std.proofs.lemmas.List.Elements.{Contains-append_left, Contains-append_right}
use Rattle.std.proofs.lemmas.Bool.{cases_eq, cond-false}
use Rattle.spx_link.specs.declared.unit.Unit.{Unit}
use Rattle.spx_link.specs.declared.outgoing.Sent.{Sent}
use Rattle.spx_link.specs.declared.state.State.{State}
use Rattle.spx_link.specs.LinkView.{LinkView}
use Rattle.spx_link.specs.Poll.{poll_link}
use Rattle.spx_link.specs.Receive.{receive_link}
use Rattle.spx_link.specs.Offer.{queued, the_end, refusal, take_link, end_link, offer_link, owe_reply_link, pace_link, again_link, lose_link, dialed, accepted_from}
use Rattle.spx_messages.specs.Message.{MessageView}
use Rattle.spx_messages.specs.Cut.{cut_of}
use Rattle.spx_theory.specs.Note.{Note, Opened, Accepted, Joined, Got, HandsIn, AsksEnd, TakesUnit, Released, Told, Carried, Injected}
use Rattle.spx_theory.specs.Scan.{Scan, Reading, seen, seen_all, scan, unread, is_now}
use Rattle.spx_theory.specs.Handed.{taken_by, gathered, taken_of}
use Rattle.spx_theory.specs.Scene.{Scene, PresentEnd, IsPresent, linked}
use Rattle.spx_theory.specs.Deeds.{Deed, DoesDeed, Dials, Accepts, Reads, OwesReply, Paces, AsksAgain, Gives, Rests, Sends, Takes, Overruns, Closes, Releases, Carries, Tells, Injects, Reached, begun, happened}
use Rattle.spx_theory.specs.PacketsOnWay.{note_of, out_notes}
use Rattle.spx_theory.proofs.Lists.{get_last, get_set, get_here, get_before}
use Rattle.spx_theory.proofs.Folding.{seen_all-append}
use Rattle.spx_theory.proofs.Gathering.{gathered-append}
use Rattle.spx_theory.proofs.PairPremises.{all_grew}
use Rattle.spx_theory.proofs.HeldReads.{notes_cases}
use Rattle.spx_theory.proofs.NextFacts.{FactsAt}
use Rattle.spx_theory.proofs.Along.{LogGrows, facts_along}
use Rattle.spx_theory.specs.Confirmed.{ConfirmedIsDone, PollLeaves}
use Rattle.spx_theory.specs.Tracks.{IsOpen, may_end}
use Rattle.spx_link.specs.declared.received.Received.TheVariants as R
use Rattle.spx_theory.proofs.SenderScenes.{senders_along}
use Rattle.spx_link.specs.declared.outgoing.Sent.TheVariants as Sents
use Rattle.spx_link.specs.declared.state.State.TheVariants as S
use Rattle.spx_theory.specs.Below.{LawsBelow}
use Rattle.spx_theory.proofs.Fields.{ends_of, log_of}

-- a packet was read that neither made the end nor joined it
pub record HasRead (readings : List Reading) (who : ℕ) : Type 0 where
  pub place : ℕ
  pub reading : Reading
  pub there : slice_get readings place ≡ Some reading
  pub own : reading.who ≡ who
  pub later : reading.first ≡ false

pub record LinkOk (s : Scene) (who : ℕ) (l : LinkView) : Type 0 where
  pub read : HasRead (scan s.log).readings who ⊎ ((l.held ≡ []) × (l.end_queued ≡ true → length l.queue ≢ 0))
  pub right : ConfirmedIsDone l
  pub asked : l.end_queued ≡ true → Contains s.log (AsksEnd who)

abbrev pub LinksOk : Scene → Type 0
LinksOk s = (who : ℕ) (e : PresentEnd) (l : LinkView) → IsPresent s who e l → LinkOk s who l

abbrev pub TakersRead : Scene → Type 0
TakersRead s = (who : ℕ) → HasRead (scan s.log).readings who ⊎ (taken_of who s.log ≡ [])

pub record Heard (s : Scene) : Type 0 where
  pub links : LinksOk s
  pub took : TakersRead s

-- ---- the log grows
read_on : (readings more : List Reading) (who : ℕ) → HasRead readings who → HasRead (readings ++ more) who
read_on readings more who h = record { place = h.place; reading = h.reading; there = get_before readings more h.reading h.place h.there; own = h.own; later = h.later }

read_grows : (s s' : Scene) (who : ℕ) → LogGrows s s' → HasRead (scan s.log).readings who → HasRead (scan s'.log).readings who
read_grows s s' who g h =
    let is : scan s'.log ≡ seen_all (scan s.log) g.more = ap scan g.is ∙ seen_all-append unread s.log g.more in
    let grew = all_grew (scan s.log) g.more in
    subst (λ rs. HasRead rs who) (sym (ap (λ (t : Scan). t.readings) is ∙ grew.readings_is)) (read_on (scan s.log).readings grew.readings who h)

asked_grows : (s s' : Scene) (n : Note) → LogGrows s s' → Contains s.log n → Contains s'.log n
asked_grows s s' n g h = subst (λ log. Contains log n) (sym g.is) (Contains-append_left s.log g.more n h)

-- the link stays as it was, or becomes lost
stays_ok : (s s' : Scene) (who : ℕ) (l k : LinkView) → LogGrows s s' → PollLeaves l k → LinkOk s who l → LinkOk s' who k
stays_ok s s' who l k g stays ok =
    record {
      read = elim ok.read [
        | inl h ↦ inl (read_grows s s' who g h)
        | inr none ↦ inr (stays.held ∙ none.0, λ ended empty. none.1 (sym stays.queued ∙ ended) (sym stays.queue ∙ empty))
      ];
      right = λ is. elim stays.state [
        | inl same ↦ let done = ok.right (sym same ∙ is) in (stays.queued ∙ done.0, stays.queue ∙ done.1)
        | inr gone ↦ absurd (cc (sym gone ∙ is))
      ];
      asked = λ ended. asked_grows s s' (AsksEnd who) g (ok.asked (sym stays.queued ∙ ended));
    }

same_stays : (l : LinkView) → PollLeaves l l
same_stays l = record { held = refl; queued = refl; queue = refl; state = inl refl }

-- ---- the links of the next scene
links_set : (s s' : Scene) (who : ℕ) (w : PresentEnd) → LogGrows s s' → s'.ends ≡ set s.ends who w → ((l : LinkView) → w.link ≡ Some l → LinkOk s' who l) → LinksOk s → LinksOk s'
links_set s s' who w g ends now before j e l stands =
    elim (get_set s.ends who j w e (ap (λ es. slice_get es j) (sym ends) ∙ stands.there)) [
      | inl here ↦ subst (λ i. LinkOk s' i l) here.0 (now l (ap (λ (x : PresentEnd). x.link) here.1 ∙ stands.link))
      | inr other ↦ stays_ok s s' j l l g (same_stays l) (before j e l (record { there = other.1; link = stands.link }))
    ]

links_more : (s s' : Scene) (w : PresentEnd) → LogGrows s s' → s'.ends ≡ s.ends ++ w ∷ [] → ((l : LinkView) → w.link ≡ Some l → LinkOk s' (length s.ends) l) → LinksOk s → LinksOk s'
links_more s s' w g ends now before j e l stands =
    elim (get_last s.ends w e j (ap (λ es. slice_get es j) (sym ends) ∙ stands.there)) [
      | inl was ↦ stays_ok s s' j l l g (same_stays l) (before j e l (record { there = was; link = stands.link }))
      | inr new ↦ subst (λ i. LinkOk s' i l) (sym new.0) (now l (ap (λ (x : PresentEnd). x.link) new.1 ∙ stands.link))
    ]

links_same : (s s' : Scene) → LogGrows s s' → s'.ends ≡ s.ends → LinksOk s → LinksOk s'
links_same s s' g ends before j e l stands =
    stays_ok s s' j l l g (same_stays l) (before j e l (record { there = ap (λ es. slice_get es j) (sym ends) ∙ stands.there; link = stands.link }))

-- one link is replaced
link_set : (s s' : Scene) (who : ℕ) (e : PresentEnd) (k : LinkView) → LogGrows s s' → s'.ends ≡ set s.ends who (linked e k) → LinkOk s' who k → LinksOk s → LinksOk s'
link_set s s' who e k g ends ok before = links_set s s' who (linked e k) g ends (λ l is. let same : k ≡ l = cc is in subst (LinkOk s' who) same ok) before

-- ---- no unit is taken
abbrev pub NoneTaken : List Note → Type 0
NoneTaken ns = (who : ℕ) → gathered (taken_by who) ns ≡ []

took_on : (s s' : Scene) (g : LogGrows s s') (who : ℕ) → gathered (taken_by who) g.more ≡ [] → HasRead (scan s.log).readings who ⊎ (taken_of who s.log ≡ [])
    → HasRead (scan s'.log).readings who ⊎ (taken_of who s'.log ≡ [])
took_on s s' g who none before =
    elim before [
      | inl h ↦ inl (read_grows s s' who g h)
      | inr nothing ↦ inr (ap (taken_of who) g.is ∙ gathered-append (taken_by who) s.log g.more ∙ ap (λ us. taken_of who s.log ++ us) none ∙ append-nil (taken_of who s.log) ∙ nothing)
    ]

took_grows : (s s' : Scene) (g : LogGrows s s') → NoneTaken g.more → TakersRead s → TakersRead s'
took_grows s s' g none before who = took_on s s' g who (none who) (before who)

given_none : (what : Sent) (who k : ℕ) → NoneTaken (note_of what who k ∷ [])
given_none Sents.Request who k e = refl
given_none Sents.Reply who k e = refl
given_none Sents.Confirm who k e = refl
given_none Sents.Unit who k e = refl
given_none Sents.Again who k e = refl
given_none Sents.Ack who k e = refl
given_none Sents.Probe who k e = refl

outs_none : (who : ℕ) (ms : List MessageView) → NoneTaken (out_notes who ms)
outs_none who [] e = refl
outs_none who (m ∷ ms) e = outs_none who ms e

-- ---- what grows
abbrev pub grows_by : (s s' : Scene) (ns : List Note) → s'.log ≡ s.log ++ ns → LogGrows s s'
grows_by s s' ns is = record { more = ns; is = is }

abbrev pub grows_not : (s s' : Scene) → s'.log ≡ s.log → LogGrows s s'
grows_not s s' is = record { more = []; is = is ∙ sym (append-nil s.log) }

-- a packet is read that does not join
has_read : (s s' : Scene) (who parcel : ℕ) → s'.log ≡ s.log ++ Got who parcel ∷ [] → (scan s.log).newest ≡ None → HasRead (scan s'.log).readings who
has_read s s' who parcel is newest =
    let t : Scan = scan s.log in
    let now : scan s'.log ≡ seen t (Got who parcel) = ap scan is ∙ seen_all-append unread s.log (Got who parcel ∷ []) in
    subst (λ (x : Scan). HasRead x.readings who) (sym now)
    (record { place = length t.readings; reading = _; there = get_here t.readings _; own = refl; later = first t.newest newest })
  where
    first : (o : Option ℕ) → o ≡ None → is_now o who ≡ false
    first None e = refl
    first (Some k) e = absurd (cc e)

live_only : (st : State) → refusal st ≡ None → st ≡ S.Live
live_only S.Opening is = absurd (cc is)
live_only S.Live is = refl
live_only S.Ending is = absurd (cc is)
live_only S.PeerEnded is = absurd (cc is)
live_only S.Confirmed is = absurd (cc is)
live_only S.Lost is = absurd (cc is)

-- a link that gives a unit has read
gives_read : (laws : LawsBelow) (s : Scene) (who : ℕ) (l : LinkView) (u : Unit) → LinkOk s who l → (take_link l).0 ≡ Some u → HasRead (scan s.log).readings who
gives_read laws s who l u ok gives = elim ok.read [ inl h ↦ h | inr none ↦ absurd (laws.close.takes_held l u gives none.0) ]

-- no end of the scene queued its end too early
abbrev pub AreOpen : Scene → Type 0
AreOpen s = (who : ℕ) (e : PresentEnd) (l : LinkView) → IsPresent s who e l → IsOpen l

pub next_heard : (laws : LawsBelow) (s s' : Scene) (deed : Deed) → DoesDeed deed s s' → FactsAt s → AreOpen s → Heard s → Heard s'
next_heard laws s s' (Dials host id socket to buffers now) does f open' h =
    let g : LogGrows s s' = grows_by s s' (Opened (length s.ends) host buffers ∷ []) (ap log_of does.after) in
    record {
      links = links_more s s' _ g (ap ends_of does.after)
          (λ l is. record {
            read = inr (sym (ap (λ (o : LinkView). o.held) (same l is)), λ ended. absurd (cc (ap (λ (o : LinkView). o.end_queued) (same l is) ∙ ended)));
            right = λ confirmed. absurd (cc (ap (λ (o : LinkView). o.state) (same l is) ∙ confirmed));
            asked = λ ended. absurd (cc (ap (λ (o : LinkView). o.end_queued) (same l is) ∙ ended));
          }) h.links;
      took = took_grows s s' g (λ e. refl) h.took;
    }
  where
    same : (l : LinkView) → Some (dialed id socket to buffers now) ≡ Some l → dialed id socket to buffers now ≡ l
    same l is = cc is
next_heard laws s s' (Accepts host id socket parcel buffers now) does f open' h =
    let g : LogGrows s s' = grows_by s s' (Accepted (length s.ends) parcel buffers ∷ Got (length s.ends) parcel ∷ []) (ap log_of does.after) in
    record {
      links = links_more s s' _ g (ap ends_of does.after)
          (λ l is. record {
            read = inr (sym (ap (λ (o : LinkView). o.held) (same l is)), λ ended. absurd (cc (ap (λ (o : LinkView). o.end_queued) (same l is) ∙ ended)));
            right = λ confirmed. absurd (cc (ap (λ (o : LinkView). o.state) (same l is) ∙ confirmed));
            asked = λ ended. absurd (cc (ap (λ (o : LinkView). o.end_queued) (same l is) ∙ ended));
          }) h.links;
      took = took_grows s s' g (λ e. refl) h.took;
    }
  where
    made : LinkView
    made = accepted_from id socket does.packet.header.from does.header buffers now

    same : (l : LinkView) → Some made ≡ Some l → made ≡ l
    same l is = cc is
next_heard laws s s' (Reads who parcel) does f open' h =
    let k : LinkView = (receive_link does.link does.header does.body).1 in
    let goes = laws.close.receives does.link does.header does.body in
    let ok = h.links who does.stand does.link does.stands in
    let unasked = (λ (joins : (receive_link does.link does.header does.body).0 ≡ R.Joined).
    open' who does.stand does.link does.stands (ap may_end (laws.states.joins does.link does.header does.body joins))) in
    let asked = (λ (g : LogGrows s s') (ended : k.end_queued ≡ true). asked_grows s s' (AsksEnd who) g (ok.asked (sym goes.queued ∙ ended))) in
    elim (notes_cases (receive_link does.link does.header does.body).0 who parcel does.read) [
      | inl joins ↦
          let g : LogGrows s s' = grows_by s s' (Joined who parcel ∷ Got who parcel ∷ []) (ap log_of does.after ∙ ap (λ ns. s.log ++ ns) joins.1) in
          let by = goes.joins joins.0 in
          record {
            links = link_set s s' who does.stand k g (ap ends_of does.after)
                (record {
                  read = elim ok.read [
                    | inl was ↦ inl (read_grows s s' who g was)
                    | inr none ↦ inr (by.0 ∙ none.0, λ ended. absurd (cc (sym (sym goes.queued ∙ ended) ∙ unasked joins.0)))
                  ];
                  right = goes.right ok.right;
                  asked = asked g;
                }) h.links;
            took = took_grows s s' g (λ e. refl) h.took;
          }
      | inr gets ↦
          let log : s'.log ≡ s.log ++ Got who parcel ∷ [] = ap log_of does.after ∙ ap (λ ns. s.log ++ ns) gets.1 in
          let g : LogGrows s s' = grows_by s s' (Got who parcel ∷ []) log in
          record {
            links = link_set s s' who does.stand k g (ap ends_of does.after)
                (record { read = inl (has_read s s' who parcel log f.newest); right = goes.right ok.right; asked = asked g }) h.links;
            took = took_grows s s' g (λ e. refl) h.took;
          }
    ]
next_heard laws s s' (OwesReply who) does f open' h =
    let g : LogGrows s s' = grows_not s s' (ap log_of does.after) in
    let l : LinkView = does.link in
    record {
      links = link_set s s' who does.stand (owe_reply_link l) g (ap ends_of does.after)
          (stays_ok s s' who l (owe_reply_link l) g (record { held = refl; queued = refl; queue = refl; state = inl refl }) (h.links who does.stand l does.stands)) h.links;
      took = took_grows s s' g (λ e. refl) h.took;
    }
next_heard laws s s' (Paces who window manual) does f open' h =
    let g : LogGrows s s' = grows_not s s' (ap log_of does.after) in
    let l : LinkView = does.link in
    record {
      links = link_set s s' who does.stand (pace_link l window manual) g (ap ends_of does.after)
          (stays_ok s s' who l (pace_link l window manual) g (record { held = refl; queued = refl; queue = refl; state = inl refl }) (h.links who does.stand l does.stands)) h.links;
      took = took_grows s s' g (λ e. refl) h.took;
    }
next_heard laws s s' (AsksAgain who place) does f open' h =
    let g : LogGrows s s' = grows_not s s' (ap log_of does.after) in
    let l : LinkView = does.link in
    record {
      links = link_set s s' who does.stand (again_link l place) g (ap ends_of does.after)
          (stays_ok s s' who l (again_link l place) g (record { held = refl; queued = refl; queue = refl; state = inl refl }) (h.links who does.stand l does.stands)) h.links;
      took = took_grows s s' g (λ e. refl) h.took;
    }
next_heard laws s s' (Gives who now segment bytes) does f open' h =
    let g : LogGrows s s' = grows_by s s' (note_of does.given.what who (length s.parcels) ∷ []) (ap log_of does.after) in
    record {
      links = link_set s s' who does.stand (poll_link does.link now).1 g (ap ends_of does.after)
          (stays_ok s s' who does.link (poll_link does.link now).1 g (laws.close.polls does.link now) (h.links who does.stand does.link does.stands)) h.links;
      took = took_grows s s' g (given_none does.given.what who (length s.parcels)) h.took;
    }
next_heard laws s s' (Rests who now) does f open' h =
    let g : LogGrows s s' = grows_not s s' (ap log_of does.after) in
    record {
      links = link_set s s' who does.stand (poll_link does.link now).1 g (ap ends_of does.after)
          (stays_ok s s' who does.link (poll_link does.link now).1 g (laws.close.polls does.link now) (h.links who does.stand does.link does.stands)) h.links;
      took = took_grows s s' g (λ e. refl) h.took;
    }
next_heard laws s s' (Sends who m) does f open' h =
    let g : LogGrows s s' = grows_by s s' (HandsIn who m ∷ []) (ap log_of does.after) in
    let l : LinkView = does.link in
    let ok = h.links who does.stand l does.stands in
    let live : l.state ≡ S.Live = live_only l.state does.live in
    record {
      links = link_set s s' who does.stand (offer_link l (cut_of m)) g (ap ends_of does.after)
          (record {
            read = elim ok.read [
              | inl was ↦ inl (read_grows s s' who g was)
              | inr none ↦ inr (none.0, λ ended empty. none.1 ended (omega (arith, empty, length-append l.queue (map queued (cut_of m)))))
            ];
            right = λ confirmed. absurd (cc (sym live ∙ confirmed));
            asked = λ ended. asked_grows s s' (AsksEnd who) g (ok.asked ended);
          }) h.links;
      took = took_grows s s' g (λ e. refl) h.took;
    }
next_heard laws s s' (Takes who u) does f open' h =
    let ms : List MessageView = does.joins.messages in
    let g : LogGrows s s' = grows_by s s' (TakesUnit who u ∷ out_notes who ms) (ap log_of does.after) in
    let l : LinkView = does.link in
    let ok = h.links who does.stand l does.stands in
    let leaves = laws.close.takes l in
    let has : HasRead (scan s'.log).readings who = read_grows s s' who g (gives_read laws s who l u ok does.gives) in
    record {
      links = links_set s s' who _ g (ap ends_of does.after)
          (λ k is. let same : (take_link l).1 ≡ k = cc is in
          subst (LinkOk s' who) same
          (record {
            read = inl has;
            right = λ confirmed. let done = ok.right (sym leaves.state ∙ confirmed) in (leaves.queued ∙ done.0, ap length leaves.queue ∙ done.1);
            asked = λ ended. asked_grows s s' (AsksEnd who) g (ok.asked (sym leaves.queued ∙ ended));
          })) h.links;
      took = λ e. elim (cases_eq who e) [
        | inl here ↦ inl (subst (HasRead (scan s'.log).readings) here has)
        | inr other ↦ took_on s s' g e (ap (λ us. us ++ gathered (taken_by e) (out_notes who ms)) (cond-false (who == e) (u ∷ []) [] (ne_eqb who e other)) ∙ outs_none who ms e) (h.took e)
      ];
    }
next_heard laws s s' (Overruns who u) does f open' h =
    let g : LogGrows s s' = grows_not s s' (ap log_of does.after) in
    let l : LinkView = does.link in
    let ok = h.links who does.stand l does.stands in
    let leaves = laws.close.takes l in
    record {
      links = links_set s s' who _ g (ap ends_of does.after)
          (λ k is. let same : lose_link (take_link l).1 ≡ k = cc is in
          subst (LinkOk s' who) same
          (record {
            read = inl (read_grows s s' who g (gives_read laws s who l u ok does.gives));
            right = λ confirmed. absurd (cc confirmed);
            asked = λ ended. asked_grows s s' (AsksEnd who) g (ok.asked (sym leaves.queued ∙ ended));
          })) h.links;
      took = took_grows s s' g (λ e. refl) h.took;
    }
next_heard laws s s' (Closes who) does f open' h =
    let g : LogGrows s s' = grows_by s s' (AsksEnd who ∷ []) (ap log_of does.after) in
    let l : LinkView = does.link in
    let ok = h.links who does.stand l does.stands in
    record {
      links = link_set s s' who does.stand (end_link l) g (ap ends_of does.after)
          (record {
            read = elim ok.read [
              | inl was ↦ inl (read_grows s s' who g was)
              | inr none ↦ inr (none.0, λ ended empty. omega (arith, empty, length-append l.queue (queued the_end ∷ [])))
            ];
            right = λ confirmed. absurd (cc confirmed);
            asked = λ ended. subst (λ log. Contains log (AsksEnd who)) (sym g.is) (Contains-append_right s.log (AsksEnd who ∷ []) (AsksEnd who) (0, omega arith, refl));
          }) h.links;
      took = took_grows s s' g (λ e. refl) h.took;
    }
next_heard laws s s' (Releases who) does f open' h =
    let g : LogGrows s s' = grows_by s s' (Released who ∷ []) (ap log_of does.after) in
    record { links = links_set s s' who _ g (ap ends_of does.after) (λ k is. absurd (cc is)) h.links; took = took_grows s s' g (λ e. refl) h.took }
next_heard laws s s' (Carries from network segment bytes) does f open' h =
    let g : LogGrows s s' = grows_by s s' (Carried from (length s.parcels) ∷ []) (ap log_of does.after) in
    record { links = links_same s s' g (ap ends_of does.after) h.links; took = took_grows s s' g (λ e. refl) h.took }
next_heard laws s s' (Tells router segment bytes) does f open' h =
    let g : LogGrows s s' = grows_by s s' (Told router (length s.parcels) ∷ []) (ap log_of does.after) in
    record { links = links_same s s' g (ap ends_of does.after) h.links; took = took_grows s s' g (λ e. refl) h.took }
next_heard laws s s' (Injects segment bytes) does f open' h =
    let g : LogGrows s s' = grows_by s s' (Injected (length s.parcels) ∷ []) (ap log_of does) in
    record { links = links_same s s' g (ap ends_of does) h.links; took = took_grows s s' g (λ e. refl) h.took }

pub heard_along : (laws : LawsBelow) {s : Scene} → Reached s → Heard s
heard_along laws {s} (begun is) =
    record {
      links = λ who e l stands. absurd (cc (sym (ap (λ es. slice_get es who) is.ends) ∙ stands.there));
      took = λ who. inr (ap (taken_of who) is.log);
    }
heard_along laws {s} (happened old deed reached does) = next_heard laws old s deed does (facts_along laws reached) (λ who e l stands. ((senders_along laws reached).links who e l stands.there stands.link).open') (heard_along laws reached)
