-- No end sends a unit that was not allowed, and an end without a peer reads no unit.
use Rattle.std.proofs.Common.{◌≡◌, ◌≢◌, ◌⊎◌, ℕ, Bool, true, false, List, ◌++◌, Option, Some, None, refl, sym, ◌∙◌, inl, inr, ap, subst, arith}
use Rattle.std.specs.Prelude.{slice_get}
use Rattle.std.proofs.lemmas.Bool.{cases_eq, cases_Bool}
use Rattle.spx_link.specs.LinkView.{LinkView}
use Rattle.spx_link.specs.Poll.{poll_link}
use Rattle.spx_theory.specs.Note.{Note}
use Rattle.spx_theory.specs.Scan.{Scan, Role, scan, role_of}
use Rattle.spx_theory.specs.Peers.{AreJoined, ArePeersIn, Premises}
use Rattle.spx_theory.specs.Scene.{Scene}
use Rattle.spx_theory.specs.Deeds.{Reached}
use Rattle.spx_theory.specs.Allocation.{IsAllowed, WithinAllocation, PeerlessReadsNothing}
use Rattle.spx_theory.specs.SentUnits.{sent_by}
use Rattle.spx_theory.proofs.Growing.{IsAllowing, is_allowed, role_stays}
use Rattle.spx_theory.proofs.GivenUnits.{GaveUnit, cut}
use Rattle.spx_theory.proofs.WithPeers.{caller_within, callee_within}
use Rattle.spx_theory.specs.Allowances.{GivesAs, SendsAs}
use Rattle.spx_theory.proofs.WithoutPeers.{AloneReads, AloneAt, alone_before, alone_along}
use Rattle.spx_link.specs.declared.outgoing.Sent.TheVariants as Sents
use Rattle.spx_theory.specs.Below.{LawsBelow}

-- ---- whether an end has a peer
abbrev Found : Scan → ℕ → Type 0
Found s who = ((d : ℕ) × ArePeersIn s who d) ⊎ ((d : ℕ) → ArePeersIn s who d → ⊥)

same_option : (o : Option ℕ) (n : ℕ) → (o ≡ Some n) ⊎ (o ≢ Some n)
same_option None n = inr (λ is. cc)
same_option (Some m) n = elim (cases_eq m n) [ inl same ↦ inl (ap Some same) | inr other ↦ inr (λ is. other (cc is)) ]

are_joined : (s : Scan) (c d : ℕ) → AreJoined s c d ⊎ (AreJoined s c d → ⊥)
are_joined s c d = roles (slice_get s.roles c) (slice_get s.roles d) refl refl
  where
    all : (r q : Role) → slice_get s.roles c ≡ Some r → slice_get s.roles d ≡ Some q → (b e : Bool) → r.called ≡ b → q.called ≡ e → AreJoined s c d ⊎ (AreJoined s c d → ⊥)
    all r q one two true false called accepted =
        elim (same_option r.partner d) [
          | inl answered ↦ elim (same_option q.partner c) [
            | inl asked ↦ inl (record { caller = r; callee = q; caller_is = one; callee_is = two; called = called; accepted = accepted; answered = answered; asked = asked })
            | inr other ↦ inr (λ j. let same : Some j.callee ≡ Some q = sym j.callee_is ∙ two in let role : j.callee ≡ q = cc same in other (ap (λ (x : Role). x.partner) (sym role) ∙ j.asked))
          ]
          | inr other ↦ inr (λ j. let same : Some j.caller ≡ Some r = sym j.caller_is ∙ one in let role : j.caller ≡ r = cc same in other (ap (λ (x : Role). x.partner) (sym role) ∙ j.answered))
        ]
    all r q one two false e called accepted =
        inr (λ j. let same : Some j.caller ≡ Some r = sym j.caller_is ∙ one in let role : j.caller ≡ r = cc same in absurd (cc (sym called ∙ ap (λ (x : Role). x.called) (sym role) ∙ j.called)))
    all r q one two true true called accepted =
        inr (λ j. let same : Some j.callee ≡ Some q = sym j.callee_is ∙ two in let role : j.callee ≡ q = cc same in absurd (cc (sym accepted ∙ ap (λ (x : Role). x.called) (sym role) ∙ j.accepted)))

    roles : (o p : Option Role) → slice_get s.roles c ≡ o → slice_get s.roles d ≡ p → AreJoined s c d ⊎ (AreJoined s c d → ⊥)
    roles None p one two = inr (λ j. absurd (cc (sym one ∙ j.caller_is)))
    roles (Some r) None one two = inr (λ j. absurd (cc (sym two ∙ j.callee_is)))
    roles (Some r) (Some q) one two = all r q one two r.called q.called refl refl

peer_of : (s : Scan) (who : ℕ) → Found s who
peer_of s who = with_role (slice_get s.roles who) refl
  where
    with_partner : (r : Role) → slice_get s.roles who ≡ Some r → (o : Option ℕ) → r.partner ≡ o → Found s who
    with_partner r at None none =
        inr (λ d p. elim p [
          | inl j ↦ let same : Some j.caller ≡ Some r = sym j.caller_is ∙ at in let role : j.caller ≡ r = cc same in absurd (cc (sym none ∙ ap (λ (x : Role). x.partner) (sym role) ∙ j.answered))
          | inr j ↦ let same : Some j.callee ≡ Some r = sym j.callee_is ∙ at in let role : j.callee ≡ r = cc same in absurd (cc (sym none ∙ ap (λ (x : Role). x.partner) (sym role) ∙ j.asked))
        ])
    with_partner r at (Some e) some =
        elim (are_joined s who e) [
          | inl j ↦ inl (e, inl j)
          | inr not_caller ↦ elim (are_joined s e who) [
            | inl j ↦ inl (e, inr j)
            | inr not_callee ↦ inr (λ d p. elim p [
              | inl j ↦
                  let same : Some j.caller ≡ Some r = sym j.caller_is ∙ at in
                  let role : j.caller ≡ r = cc same in
                  let both : Some d ≡ Some e = sym j.answered ∙ ap (λ (x : Role). x.partner) role ∙ some in
                  let is : d ≡ e = cc both in not_caller (subst (AreJoined s who) is j)
              | inr j ↦
                  let same : Some j.callee ≡ Some r = sym j.callee_is ∙ at in
                  let role : j.callee ≡ r = cc same in
                  let both : Some d ≡ Some e = sym j.asked ∙ ap (λ (x : Role). x.partner) role ∙ some in
                  let is : d ≡ e = cc both in not_callee (subst (λ k. AreJoined s k who) is j)
            ])
          ]
        ]

    with_role : (o : Option Role) → slice_get s.roles who ≡ o → Found s who
    with_role None at = inr (λ d p. elim p [ inl j ↦ absurd (cc (sym at ∙ j.caller_is)) | inr j ↦ absurd (cc (sym at ∙ j.callee_is)) ])
    with_role (Some r) at = with_partner r at r.partner refl

alone_reads : (log : List Note) (who : ℕ) → Premises log → ((d : ℕ) → ArePeersIn (scan log) who d → ⊥) → AloneReads who log
alone_reads log who p none =
    record {
      only = λ k r at own. elim (cases_Bool r.first) [
        | inl is_first ↦ is_first
        | inr not_first ↦
            let found = p.from_own_peer k r at not_first in
            absurd (none found.0 (subst (λ e. ArePeersIn (scan log) e found.0) own found.1))
      ];
      inside = λ k r at. p.nothing_injected k r at;
    }

-- the sender's buffers are those that it has at the end
settled : (c d : ℕ) (before later log : List Note) (n : ℕ) → log ≡ before ++ later → IsAllowing c d (role_of (scan log) d).buffers n before → IsAllowed before c n
settled c d before later log n is a =
    let stays = role_stays before later d a.posted.known in
    is_allowed c d (role_of (scan log) d).buffers n before (sym (ap (λ xs. (role_of (scan xs) d).buffers) is ∙ stays.buffers)) a

alone_within : (laws : LawsBelow) {s : Scene} → Reached s → (who : ℕ) → AloneReads who s.log → (before : List Note) → GaveUnit s.log before who → IsAllowed before who (sent_by who before)
alone_within laws {s} reached who premise before g =
    let now : s.log ≡ g.old.log ++ g.later = g.whole ∙ ap (λ xs. xs ++ g.later) g.log_is in
    let a : AloneAt who g.old = alone_along laws who g.reached (alone_before who g.old.log g.later (subst (AloneReads who) now premise)) in
    let l : LinkView = g.does.link in
    let k : LinkView = (poll_link l g.now).1 in
    let given : GivesAs l (Some g.does.given) k = subst (λ o. GivesAs l o k) g.does.gives (laws.allowances.polls l g.now).gives in
    let unit : SendsAs Sents.Unit l k = subst (λ w. SendsAs w l k) g.what given.1 in
    let link = a.link g.does.stand l g.does.stands.there g.does.stands.link in
    let here = link.limit (sent_by who g.old.log) (omega (arith, unit)) in
    subst (λ log. IsAllowed log who (sent_by who log)) (sym g.log_is)
    (is_allowed who here.sender (role_of (scan g.old.log) here.sender).buffers (sent_by who g.old.log) g.old.log refl here.allowing)

pub within_allocation : (laws : LawsBelow) (s : Scene) → Reached s → WithinAllocation s
within_allocation laws s reached premises before after who parcel is =
    let g : GaveUnit s.log before who = cut reached before after who parcel is in
    elim (peer_of (scan s.log) who) [
      | inl found ↦ elim found.1 [
        | inl j ↦ settled who found.0 before g.later s.log (sent_by who before) g.whole (caller_within laws reached premises who found.0 j before g)
        | inr j ↦ settled who found.0 before g.later s.log (sent_by who before) g.whole (callee_within laws reached premises found.0 who j before g)
      ]
      | inr none ↦ alone_within laws reached who (alone_reads s.log who premises none) before g
    ]

pub peerless_reads_nothing : (laws : LawsBelow) (s : Scene) → Reached s → PeerlessReadsNothing s
peerless_reads_nothing laws s reached premises who none =
    let a : AloneAt who s = alone_along laws who reached (alone_reads s.log who premises none) in
    (a.taken, a.out, λ e l stands. let link = a.link e l stands.there stands.link in (link.expected, link.held))
