-- The peers of ends, by the entries that made and joined them, are those of their roles.
use Rattle.std.proofs.Common.{◌≡◌, ◌<◌, ◌⊎◌, ℕ, zero, Bool, true, false, List, [], ◌∷◌, ◌++◌, length, set, Option, Some, None, refl, sym, ◌∙◌, ap, subst, arith, inl, inr, length-append}
use Rattle.std.specs.Prelude.{Contains, slice_get}
use Rattle.std.proofs.lemmas.Bool.{cond-true, cond-false}
use Rattle.std.proofs.lemmas.List.Elements.{Contains-append_right}
use Rattle.std.proofs.lemmas.Option.{slice_get-get_or, slice_get_within}
use Rattle.spx_link.specs.declared.outgoing.Sent.{Sent}
use Rattle.spx_link.specs.declared.outgoing.Sent.TheVariants as Sents
use Rattle.spx_link.specs.Receive.{receive_link}
use Rattle.spx_messages.specs.Message.{MessageView}
use Rattle.spx_theory.specs.Below.{LawsBelow}
use Rattle.spx_theory.specs.Deeds.{Deed, DoesDeed, Dials, Accepts, Reads, OwesReply, Paces, AsksAgain, Gives, Rests, Sends, Takes, Overruns, Closes, Releases, Carries, Tells, Injects, Reached, begun, happened}
use Rattle.spx_theory.specs.LogPremises.{AreConnected, IsMadeWith, IsSystemOf, MakesEnd}
use Rattle.spx_theory.specs.Note.{Note, Opened, Accepted, Joined, HandsOut, TakesUnit, Got, SendsUnit, SendsAgain, SendsSystem, Told, Carried, Injected}
use Rattle.spx_theory.specs.Numbered.{IsNumbered}
use Rattle.spx_theory.specs.PacketsOnWay.{note_of, out_notes}
use Rattle.spx_theory.specs.Peers.{AreJoined}
use Rattle.spx_theory.specs.Scan.{ByRouter, BySystem, ByUnit, FromOutside, Maker, Mark, Role, Scan, asker, joined_by, mark_of, no_role, role_of, scan, seen, seen_all, unread}
use Rattle.spx_theory.specs.Scene.{Scene}
use Rattle.spx_theory.proofs.Along.{facts_along}
use Rattle.spx_theory.proofs.Fields.{log_of}
use Rattle.spx_theory.proofs.Growing.{mark_in, marks_after}
use Rattle.spx_theory.proofs.Held.{set_here}
use Rattle.spx_theory.proofs.HeldReads.{notes_cases}
use Rattle.spx_theory.proofs.Lists.{get_here, get_last, get_set}
use Rattle.spx_theory.proofs.LogOrigins.{all_sourced, later, mark_later, mark_maker, numbered_in, parts, system_holds}
use Rattle.spx_theory.proofs.NextFacts.{FactsAt}
use Rattle.spx_theory.proofs.Numbering.{AllNumbered, are_numbered}
use Rattle.spx_theory.proofs.PairPremises.{all_grew, joins_later}
use Rattle.spx_theory.proofs.Tied.{mark_at}

-- ---- from roles to entries

pub record Waits (r : Role) : Type 0 where
  pub called : r.called ≡ true
  pub joined : r.joined ≡ false
  pub partner : r.partner ≡ None

pub record WasJoined (log : List Note) (marks : List Mark) (who : ℕ) (r : Role) : Type 0 where
  pub parcel : ℕ
  pub called : r.called ≡ true
  pub joined : r.joined ≡ true
  pub stands : Contains log (Joined who parcel)
  pub within : parcel < length marks
  pub partner : r.partner ≡ asker (mark_at marks parcel).maker

pub record WasAccepted (log : List Note) (marks : List Mark) (who : ℕ) (r : Role) : Type 0 where
  pub parcel : ℕ
  pub called : r.called ≡ false
  pub joined : r.joined ≡ true
  pub stands : Contains log (Accepted who parcel r.buffers)
  pub within : parcel < length marks
  pub partner : r.partner ≡ asker (mark_at marks parcel).maker

abbrev pub RoleSays : List Note → List Mark → ℕ → Role → Type 0
RoleSays log marks who r = Waits r ⊎ WasJoined log marks who r ⊎ WasAccepted log marks who r

abbrev pub RolesSay : List Note → List Mark → List Role → Type 0
RolesSay log marks roles = (who : ℕ) (r : Role) → slice_get roles who ≡ Some r → RoleSays log marks who r

says_later : (log : List Note) (marks more : List Mark) (who : ℕ) (r : Role) → RoleSays log marks who r → RoleSays log (marks ++ more) who r
says_later log marks more who r says =
    elim says [
      | inl w ↦ inl w
      | inr others ↦ elim others [
        | inl j ↦ inr (inl (record {
          parcel = j.parcel;
          called = j.called;
          joined = j.joined;
          stands = j.stands;
          within = omega (arith, j.within, length-append marks more);
          partner = j.partner ∙ ap (λ (m : Mark). asker m.maker) (sym (mark_in marks more j.parcel j.within));
        }))
        | inr a ↦ inr (inr (record {
          parcel = a.parcel;
          called = a.called;
          joined = a.joined;
          stands = a.stands;
          within = omega (arith, a.within, length-append marks more);
          partner = a.partner ∙ ap (λ (m : Mark). asker m.maker) (sym (mark_in marks more a.parcel a.within));
        }))
      ]
    ]

joins_now : (m : Maker) (r : Role) → r.joined ≡ false → joined_by m r ≡ record r { joined = true; partner = asker m }
joins_now m r unjoined = cond-false r.joined r (record r { joined = true; partner = asker m }) unjoined

joined_still : (m : Maker) (r : Role) → r.joined ≡ true → joined_by m r ≡ r
joined_still m r joined = cond-true r.joined r (record r { joined = true; partner = asker m }) joined

role_there : (roles : List Role) (s : Scan) (who : ℕ) → who < length s.roles → slice_get s.roles who ≡ Some (role_of s who)
role_there roles s who within = slice_get-get_or s.roles who no_role within

joins_says : (log : List Note) (s : Scan) (who parcel : ℕ) → Contains log (Joined who parcel) → parcel < length s.marks → (r : Role) → RoleSays log s.marks who r
    → RoleSays log s.marks who (joined_by (mark_of s parcel).maker r)
joins_says log s who parcel has within r says =
    let m : Maker = (mark_of s parcel).maker in
    elim says [
      | inl w ↦ subst (RoleSays log s.marks who) (sym (joins_now m r w.joined))
          (inr (inl (record { parcel = parcel; called = w.called; joined = refl; stands = has; within = within; partner = refl })))
      | inr others ↦ elim others [
        | inl j ↦ subst (RoleSays log s.marks who) (sym (joined_still m r j.joined)) (inr (inl j))
        | inr a ↦ subst (RoleSays log s.marks who) (sym (joined_still m r a.joined)) (inr (inr a))
      ]
    ]

more_say : (log : List Note) (s : Scan) (n : Note) → (seen s n).roles ≡ s.roles → RolesSay log s.marks s.roles → RolesSay log (seen s n).marks (seen s n).roles
more_say log s n same old who r at =
    let g = marks_after s n in
    subst (λ ms. RoleSays log ms who r) (sym g.1) (says_later log s.marks g.0 who r (old who r (ap (λ rs. slice_get rs who) (sym same) ∙ at)))

says_on : (log : List Note) (s : Scan) (n : Note) → Contains log n → IsNumbered s n → RolesSay log s.marks s.roles → RolesSay log (seen s n).marks (seen s n).roles
says_on log s (Opened who host buffers) has is old k r at =
    elim (get_last s.roles _ r k at) [
      | inl was ↦ old k r was
      | inr new ↦ subst (RoleSays log s.marks k) new.1 (inl (record { called = refl; joined = refl; partner = refl }))
    ]
says_on log s (Accepted who parcel buffers) has is old k r at =
    elim (get_last s.roles _ r k at) [
      | inl was ↦ old k r was
      | inr new ↦
          let here : who ≡ k = is.0 ∙ sym new.0 in
          subst (RoleSays log s.marks k) new.1
          (inr (inr (record { parcel = parcel; called = refl; joined = refl; stands = subst (λ j. Contains log (Accepted j parcel buffers)) here has; within = is.1; partner = refl })))
    ]
says_on log s (Joined who parcel) has is old k r at =
    elim (get_set s.roles who k _ r at) [
      | inl here ↦ subst (λ j. RoleSays log s.marks j r) here.0
          (subst (RoleSays log s.marks who) here.1 (joins_says log s who parcel has is.1 (role_of s who) (old who (role_of s who) (role_there s.roles s who is.0))))
      | inr other ↦ old k r other.1
    ]
says_on log s (SendsUnit who parcel) has is old k r at = more_say log s (SendsUnit who parcel) refl old k r at
says_on log s (SendsAgain who parcel) has is old k r at = more_say log s (SendsAgain who parcel) refl old k r at
says_on log s (SendsSystem who parcel) has is old k r at = more_say log s (SendsSystem who parcel) refl old k r at
says_on log s (Told router parcel) has is old k r at = more_say log s (Told router parcel) refl old k r at
says_on log s (Carried from parcel) has is old k r at = more_say log s (Carried from parcel) refl old k r at
says_on log s (Injected parcel) has is old k r at = more_say log s (Injected parcel) refl old k r at
says_on log s n has is old k r at = old k r at

says_all : (log : List Note) (s : Scan) (ns : List Note) → ((n : Note) → Contains ns n → Contains log n) → AllNumbered s ns → RolesSay log s.marks s.roles
    → RolesSay log (seen_all s ns).marks (seen_all s ns).roles
says_all log s [] there all old = old
says_all log s (n ∷ ns) there all old =
    says_all log (seen s n) ns (λ m has. there m (Contains-append_right (n ∷ []) ns m has)) all.1 (says_on log s n (there n (zero, omega arith, refl)) all.0 old)

all_say : (log : List Note) → AllNumbered unread log → RolesSay log (scan log).marks (scan log).roles
all_say log all = says_all log unread log (λ n has. has) all (λ who r at. absurd (cc at))

asks : (m : Maker) (d : ℕ) → asker m ≡ Some d → m ≡ BySystem d
asks (ByUnit who) d is = absurd (cc is)
asks (BySystem who) d is = (let same : who ≡ d = cc is in ap BySystem same)
asks (ByRouter router) d is = absurd (cc is)
asks FromOutside d is = absurd (cc is)

system_of : (log : List Note) → AllNumbered unread log → (parcel e : ℕ) (p : Option ℕ) → parcel < length (scan log).marks → p ≡ asker (mark_at (scan log).marks parcel).maker → p ≡ Some e → IsSystemOf log e parcel
system_of log all parcel e p within by is =
    let m : Mark = mark_at (scan log).marks parcel in
    let comes = all_sourced log all parcel within in
    record { origin = m.origin; passed = m.passed; comes = comes; stands = system_holds log all m.origin parcel m.passed e comes (asks m.maker e (sym by ∙ is)) }

pub joined_connected : (log : List Note) → AllNumbered unread log → (c d : ℕ) → AreJoined (scan log) c d → AreConnected log c d
joined_connected log all c d j =
    elim (all_say log all c j.caller j.caller_is) [
      | inl w ↦ absurd (cc (w.partner, j.answered))
      | inr called ↦ elim called [
        | inr a ↦ absurd (cc (a.called, j.called))
        | inl one ↦ elim (all_say log all d j.callee j.callee_is) [
          | inl w ↦ absurd (cc (w.called, j.accepted))
          | inr others ↦ elim others [
            | inl one' ↦ absurd (cc (one'.called, j.accepted))
            | inr two ↦ record {
              request = two.parcel;
              buffers = j.callee.buffers;
              reply = one.parcel;
              accepted = two.stands;
              asked = system_of log all two.parcel c j.callee.partner two.within two.partner j.asked;
              joined = one.stands;
              answered = system_of log all one.parcel d j.caller.partner one.within one.partner j.answered;
            }
          ]
        ]
      ]
    ]

-- ---- an end joins once

abbrev pub JoinsOnce : Scan → Note → Type 0
JoinsOnce s (Joined who parcel) = (role_of s who).joined ≡ false
JoinsOnce s n = Unit {0}

abbrev pub AllOnce : Scan → List Note → Type 0
AllOnce s [] = Unit {0}
AllOnce s (n ∷ ns) = JoinsOnce s n × AllOnce (seen s n) ns

once-append : (s : Scan) (xs ys : List Note) → AllOnce s xs → AllOnce (seen_all s xs) ys → AllOnce s (xs ++ ys)
once-append s [] ys one two = two
once-append s (x ∷ xs) ys one two = (one.0, once-append (seen s x) xs ys one.1 two)

once_at : (s : Scan) (before after : List Note) (n : Note) → AllOnce s (before ++ n ∷ after) → JoinsOnce (seen_all s before) n
once_at s [] after n all = all.0
once_at s (x ∷ before) after n all = once_at (seen s x) before after n all.1

once_more : (s s' : Scene) (ns : List Note) → s'.log ≡ s.log ++ ns → AllOnce (scan s.log) ns → AllOnce unread s.log → AllOnce unread s'.log
once_more s s' ns log new old = subst (AllOnce unread) (sym log) (once-append unread s.log ns old new)

once_same : (s s' : Scene) → s'.log ≡ s.log → AllOnce unread s.log → AllOnce unread s'.log
once_same s s' log old = subst (AllOnce unread) (sym log) old

outs_once : (s : Scan) (who : ℕ) (ms : List MessageView) → AllOnce s (out_notes who ms)
outs_once s who [] = tt
outs_once s who (m ∷ ms) = (tt, outs_once (seen s (HandsOut who m)) who ms)

given_once : (what : Sent) (s : Scan) (who k : ℕ) → JoinsOnce s (note_of what who k)
given_once Sents.Request s who k = tt
given_once Sents.Reply s who k = tt
given_once Sents.Confirm s who k = tt
given_once Sents.Unit s who k = tt
given_once Sents.Again s who k = tt
given_once Sents.Ack s who k = tt
given_once Sents.Probe s who k = tt

next_once : (laws : LawsBelow) (s s' : Scene) (deed : Deed) → DoesDeed deed s s' → FactsAt s → AllNumbered unread s'.log → AllOnce unread s.log → AllOnce unread s'.log
next_once laws s s' (Dials host id socket to buffers now) does f all old = once_more s s' _ (ap log_of does.after) (tt, tt) old
next_once laws s s' (Accepts host id socket parcel buffers now) does f all old = once_more s s' _ (ap log_of does.after) (tt, (tt, tt)) old
next_once laws s s' (Reads who parcel) does f all old =
    elim (notes_cases (receive_link does.link does.header does.body).0 who parcel does.read) [
      | inl joins ↦
          let log : s'.log ≡ s.log ++ Joined who parcel ∷ Got who parcel ∷ [] = ap log_of does.after ∙ ap (λ ns. s.log ++ ns) joins.1 in
          let within = (numbered_in s'.log s.log (Got who parcel ∷ []) (Joined who parcel) all log).0 in
          once_more s s' _ log
          (f.opening who does.stand does.link (role_of (scan s.log) who) does.stands.there does.stands.link (laws.states.joins does.link does.header does.body joins.0) (role_there [] (scan s.log) who within), (tt, tt)) old
      | inr gets ↦ once_more s s' (Got who parcel ∷ []) (ap log_of does.after ∙ ap (λ ns. s.log ++ ns) gets.1) (tt, tt) old
    ]
next_once laws s s' (OwesReply who) does f all old = once_same s s' (ap log_of does.after) old
next_once laws s s' (Paces who window manual) does f all old = once_same s s' (ap log_of does.after) old
next_once laws s s' (AsksAgain who place) does f all old = once_same s s' (ap log_of does.after) old
next_once laws s s' (Gives who now segment bytes) does f all old =
    once_more s s' _ (ap log_of does.after) (given_once does.given.what (scan s.log) who (length s.parcels), tt) old
next_once laws s s' (Rests who now) does f all old = once_same s s' (ap log_of does.after) old
next_once laws s s' (Sends who m) does f all old = once_more s s' _ (ap log_of does.after) (tt, tt) old
next_once laws s s' (Takes who u) does f all old =
    once_more s s' _ (ap log_of does.after) (tt, outs_once (seen (scan s.log) (TakesUnit who u)) who does.joins.messages) old
next_once laws s s' (Overruns who u) does f all old = once_same s s' (ap log_of does.after) old
next_once laws s s' (Closes who) does f all old = once_more s s' _ (ap log_of does.after) (tt, tt) old
next_once laws s s' (Releases who) does f all old = once_more s s' _ (ap log_of does.after) (tt, tt) old
next_once laws s s' (Carries from network segment bytes) does f all old = once_more s s' _ (ap log_of does.after) (tt, tt) old
next_once laws s s' (Tells router segment bytes) does f all old = once_more s s' _ (ap log_of does.after) (tt, tt) old
next_once laws s s' (Injects segment bytes) does f all old = once_more s s' _ (ap log_of does) (tt, tt) old

-- ---- from entries to roles

-- a role that is joined after an entry is the same at the end
role_last : (log before after : List Note) (n : Note) (who : ℕ) (r : Role) → log ≡ before ++ n ∷ after → slice_get (seen (scan before) n).roles who ≡ Some r → r.joined ≡ true → slice_get (scan log).roles who ≡ Some r
role_last log before after n who r is at joined =
    let g = (all_grew (seen (scan before) n) after).roles who r at in
    ap (λ (z : Scan). slice_get z.roles who) (later log before after n is) ∙ g.1 ∙ ap Some (g.2.settled joined)

system_partner : (log before after : List Note) (n : Note) (parcel e : ℕ) → AllNumbered unread log → log ≡ before ++ n ∷ after → parcel < length (scan before).marks → IsSystemOf log e parcel
    → asker (mark_of (scan before) parcel).maker ≡ Some e
system_partner log before after n parcel e all is within by =
    let p = parts log (SendsSystem e by.origin) by.stands in
    let maker : (mark_at (scan log).marks parcel).maker ≡ BySystem e = mark_maker log all p.0 p.1 (SendsSystem e by.origin) by.origin parcel by.passed by.comes p.2 refl in
    ap (λ (m : Mark). asker m.maker) (sym (mark_later log before after n parcel is within).0) ∙ ap asker maker

record HasRole (log : List Note) (who : ℕ) (called : Bool) (other : ℕ) : Type 0 where
  pub role : Role
  pub there : slice_get (scan log).roles who ≡ Some role
  pub called_is : role.called ≡ called
  pub partner : role.partner ≡ Some other

accepted_role : (log : List Note) → AllNumbered unread log → (c d request buffers : ℕ) → Contains log (Accepted d request buffers) → IsSystemOf log c request → HasRole log d false c
accepted_role log all c d request buffers has by =
    let p = parts log (Accepted d request buffers) has in
    let s : Scan = scan p.0 in
    let is = numbered_in log p.0 p.1 (Accepted d request buffers) all p.2 in
    let r : Role = record { buffers = buffers; called = false; joined = true; partner = asker (mark_of s request).maker } in
    let at : slice_get (s.roles ++ r ∷ []) d ≡ Some r = ap (slice_get (s.roles ++ r ∷ [])) is.0 ∙ get_here s.roles r in
    record {
      role = r;
      there = role_last log p.0 p.1 (Accepted d request buffers) d r p.2 at refl;
      called_is = refl;
      partner = system_partner log p.0 p.1 (Accepted d request buffers) request c all p.2 is.1 by;
    }

-- an end that is not joined dialled
unjoined_called : (log : List Note) (marks : List Mark) (who : ℕ) (r : Role) → RoleSays log marks who r → r.joined ≡ false → r.called ≡ true
unjoined_called log marks who r says unjoined =
    elim says [
      | inl w ↦ w.called
      | inr others ↦ elim others [ inl j ↦ j.called | inr a ↦ absurd (cc (a.joined, unjoined)) ]
    ]

pub numbered_front : (s : Scan) (xs ys : List Note) → AllNumbered s (xs ++ ys) → AllNumbered s xs
numbered_front s [] ys all = tt
numbered_front s (x ∷ xs) ys all = (all.0, numbered_front (seen s x) xs ys all.1)

joined_role : (log : List Note) → AllNumbered unread log → AllOnce unread log → (c d reply : ℕ) → Contains log (Joined c reply) → IsSystemOf log d reply → HasRole log c true d
joined_role log all once c d reply has by =
    let p = parts log (Joined c reply) has in
    let s : Scan = scan p.0 in
    let is = numbered_in log p.0 p.1 (Joined c reply) all p.2 in
    let m : Maker = (mark_of s reply).maker in
    let old : Role = role_of s c in
    let was : slice_get s.roles c ≡ Some old = role_there [] s c is.0 in
    let unjoined : old.joined ≡ false = once_at unread p.0 p.1 (Joined c reply) (subst (AllOnce unread) p.2 once) in
    let called : old.called ≡ true = unjoined_called p.0 s.marks c old (all_say p.0 (numbered_front unread p.0 (Joined c reply ∷ p.1) (subst (AllNumbered unread) p.2 all)) c old was) unjoined in
    let r : Role = record old { joined = true; partner = asker m } in
    let at : slice_get (set s.roles c (joined_by m old)) c ≡ Some r = set_here s.roles c (joined_by m old) old was ∙ ap Some (joins_now m old unjoined) in
    record {
      role = r;
      there = role_last log p.0 p.1 (Joined c reply) c r p.2 at refl;
      called_is = called;
      partner = system_partner log p.0 p.1 (Joined c reply) reply d all p.2 is.1 by;
    }

pub connected_joined : (log : List Note) → AllNumbered unread log → AllOnce unread log → (c d : ℕ) → AreConnected log c d → AreJoined (scan log) c d
connected_joined log all once c d a =
    let one = joined_role log all once c d a.reply a.joined a.answered in
    let two = accepted_role log all c d a.request a.buffers a.accepted a.asked in
    record {
      caller = one.role;
      callee = two.role;
      caller_is = one.there;
      callee_is = two.there;
      called = one.called_is;
      accepted = two.called_is;
      answered = one.partner;
      asked = two.partner;
    }

pub are_once : (laws : LawsBelow) {s : Scene} → Reached s → AllOnce unread s.log
are_once laws {s} (begun is) = subst (AllOnce unread) (sym is.log) tt
are_once laws {s} (happened old deed reached does) =
    next_once laws old s deed does (facts_along laws reached) (are_numbered laws (happened old deed reached does)).all (are_once laws reached)

-- ---- the entries that make ends

abbrev pub EndsMade : List Note → List Role → Type 0
EndsMade log roles = (who : ℕ) (r : Role) → slice_get roles who ≡ Some r → IsMadeWith log who r.buffers

made_on : (log : List Note) (s : Scan) (n : Note) → Contains log n → IsNumbered s n → EndsMade log s.roles → EndsMade log (seen s n).roles
made_on log s (Opened who host buffers) has is old k r at =
    elim (get_last s.roles _ r k at) [
      | inl was ↦ old k r was
      | inr new ↦ subst (λ (x : Role). IsMadeWith log k x.buffers) new.1 (record { making = Opened who host buffers; stands = has; makes = inl (host, ap (λ j. Opened j host buffers) (is ∙ sym new.0)) })
    ]
made_on log s (Accepted who parcel buffers) has is old k r at =
    elim (get_last s.roles _ r k at) [
      | inl was ↦ old k r was
      | inr new ↦ subst (λ (x : Role). IsMadeWith log k x.buffers) new.1 (record { making = Accepted who parcel buffers; stands = has; makes = inr (parcel, ap (λ j. Accepted j parcel buffers) (is.0 ∙ sym new.0)) })
    ]
made_on log s (Joined who parcel) has is old k r at =
    elim (get_set s.roles who k _ r at) [
      | inl here ↦
          let m : Maker = (mark_of s parcel).maker in
          let was : IsMadeWith log who (role_of s who).buffers = old who (role_of s who) (role_there s.roles s who is.0) in
          let same : r.buffers ≡ (role_of s who).buffers = ap (λ (x : Role). x.buffers) (sym here.1) ∙ (joins_later m (role_of s who)).buffers in
          subst (λ j. IsMadeWith log j r.buffers) here.0 (subst (IsMadeWith log who) (sym same) was)
      | inr other ↦ old k r other.1
    ]
made_on log s n has is old k r at = old k r at

made_all : (log : List Note) (s : Scan) (ns : List Note) → ((n : Note) → Contains ns n → Contains log n) → AllNumbered s ns → EndsMade log s.roles → EndsMade log (seen_all s ns).roles
made_all log s [] there all old = old
made_all log s (n ∷ ns) there all old =
    made_all log (seen s n) ns (λ m has. there m (Contains-append_right (n ∷ []) ns m has)) all.1 (made_on log s n (there n (zero, omega arith, refl)) all.0 old)

pub end_made : (log : List Note) → AllNumbered unread log → (who : ℕ) → who < length (scan log).roles → IsMadeWith log who (role_of (scan log) who).buffers
end_made log all who within =
    made_all log unread log (λ n has. has) all (λ k r at. absurd (cc at)) who (role_of (scan log) who) (role_there [] (scan log) who within)

-- an entry's end is there at the end
role_at_last : (log before after : List Note) (n : Note) (who : ℕ) (r : Role) → log ≡ before ++ n ∷ after → slice_get (seen (scan before) n).roles who ≡ Some r → who < length (scan log).roles
role_at_last log before after n who r is at =
    let g = (all_grew (seen (scan before) n) after).roles who r at in
    slice_get_within (scan log).roles who g.0 (ap (λ (z : Scan). slice_get z.roles who) (later log before after n is) ∙ g.1)

made_there : (s : Scan) (n : Note) (who buffers : ℕ) → IsNumbered s n → MakesEnd n who buffers → (r : Role) × (slice_get (seen s n).roles who ≡ Some r)
made_there s (Opened e host buffers') who buffers is makes =
    let same : e ≡ who = elim makes [ inl opens ↦ cc opens.1 | inr accepts ↦ absurd (cc accepts.1) ] in
    (_, ap (slice_get (seen s (Opened e host buffers')).roles) (sym same ∙ is) ∙ get_here s.roles _)
made_there s (Accepted e parcel buffers') who buffers is makes =
    let same : e ≡ who = elim makes [ inl opens ↦ absurd (cc opens.1) | inr accepts ↦ cc accepts.1 ] in
    (_, ap (slice_get (seen s (Accepted e parcel buffers')).roles) (sym same ∙ is.0) ∙ get_here s.roles _)
made_there s n who buffers is makes = absurd (elim makes [ inl opens ↦ cc opens.1 | inr accepts ↦ cc accepts.1 ])

pub end_there : (log : List Note) → AllNumbered unread log → (who buffers : ℕ) → IsMadeWith log who buffers → who < length (scan log).roles
end_there log all who buffers e =
    let p = parts log e.making e.stands in
    let r = made_there (scan p.0) e.making who buffers (numbered_in log p.0 p.1 e.making all p.2) e.makes in
    role_at_last log p.0 p.1 e.making who r.0 p.2 r.1
