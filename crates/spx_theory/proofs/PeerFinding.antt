-- Each end has at most one peer, which is found from the two ends' roles.
use Rattle.std.proofs.Common.{◌≡◌, ◌⊎◌, ℕ, Bool, true, false, cond, ◌&&◌, Option, Some, None, refl, sym, ◌∙◌, ap, inl, inr, eqb-true}
use Rattle.std.specs.Prelude.{slice_get}
use Rattle.std.proofs.lemmas.Bool.{cond-true, and_parts}
use Rattle.spx_theory.specs.Scan.{Scan, Role, is_now}
use Rattle.spx_theory.specs.Peers.{ArePeersIn}
use Rattle.spx_theory.specs.EndsSummarized.{is_other, peer_back, peer_with, peer_by, peer_in, PeerIsFound}
use Rattle.spx_theory.proofs.Speaking.{eqb_same}

found : (s : Scan) (c d : ℕ) (r q : Role) → slice_get s.roles c ≡ Some r → slice_get s.roles d ≡ Some q → r.partner ≡ Some d → q.partner ≡ Some c → is_other r.called q.called ≡ true → peer_in s c ≡ Some d
found s c d r q one two there back differ =
    let test : (is_now q.partner c && is_other r.called q.called) ≡ true = ap (λ o. is_now o c && is_other r.called q.called) back ∙ ap (λ b. b && is_other r.called q.called) (eqb_same c) ∙ differ in
    ap (peer_by s c) one ∙ ap (peer_with s c r) there ∙ ap (peer_back c r d) two ∙ cond-true (is_now q.partner c && is_other r.called q.called) (Some d) None test

pub now_is : (o : Option ℕ) (c : ℕ) → is_now o c ≡ true → o ≡ Some c
now_is None c e = absurd (cc e)
now_is (Some e) c is = ap Some (eqb-true e c is)

others : (a b : Bool) → is_other a b ≡ true → ((a ≡ true) × (b ≡ false)) ⊎ ((a ≡ false) × (b ≡ true))
others true true e = absurd (cc e)
others true false e = inl (refl, refl)
others false true e = inr (refl, refl)
others false false e = absurd (cc e)

only_both : (s : Scan) (c d e : ℕ) (r q : Role) → slice_get s.roles c ≡ Some r → slice_get s.roles e ≡ Some q → r.partner ≡ Some e → (b : Bool) → (is_now q.partner c && is_other r.called q.called) ≡ b
    → cond b (Some e) None ≡ Some d → ArePeersIn s c d
only_both s c d e r q one two there false test is = absurd (cc is)
only_both s c d e r q one two there true test is =
    let same : e ≡ d = cc is in
    let parts = and_parts (is_now q.partner c) (is_other r.called q.called) test in
    let back : q.partner ≡ Some c = now_is q.partner c parts.0 in
    let two' : slice_get s.roles d ≡ Some q = ap (slice_get s.roles) (sym same) ∙ two in
    let there' : r.partner ≡ Some d = there ∙ ap Some same in
    elim (others r.called q.called parts.1) [
      | inl one-called ↦ inl (record { caller = r; callee = q; caller_is = one; callee_is = two'; called = one-called.0; accepted = one-called.1; answered = there'; asked = back })
      | inr other-called ↦ inr (record { caller = q; callee = r; caller_is = two'; callee_is = one; called = other-called.1; accepted = other-called.0; answered = back; asked = there' })
    ]

only_back : (s : Scan) (c d e : ℕ) (r : Role) → slice_get s.roles c ≡ Some r → r.partner ≡ Some e → (o : Option Role) → slice_get s.roles e ≡ o → peer_back c r e o ≡ Some d → ArePeersIn s c d
only_back s c d e r one there None two is = absurd (cc is)
only_back s c d e r one there (Some q) two is = only_both s c d e r q one two there (is_now q.partner c && is_other r.called q.called) refl is

only_with : (s : Scan) (c d : ℕ) (r : Role) → slice_get s.roles c ≡ Some r → (p : Option ℕ) → r.partner ≡ p → peer_with s c r p ≡ Some d → ArePeersIn s c d
only_with s c d r one None there is = absurd (cc is)
only_with s c d r one (Some e) there is = only_back s c d e r one there (slice_get s.roles e) refl is

only_by : (s : Scan) (c d : ℕ) (o : Option Role) → slice_get s.roles c ≡ o → peer_by s c o ≡ Some d → ArePeersIn s c d
only_by s c d None one is = absurd (cc is)
only_by s c d (Some r) one is = only_with s c d r one r.partner refl is

pub peer_is_found : (s : Scan) (c d : ℕ) → PeerIsFound s c d
peer_is_found s c d =
    record {
      there = λ peers. elim peers [
        | inl j ↦ found s c d j.caller j.callee j.caller_is j.callee_is j.answered j.asked (ap (λ b. is_other b j.callee.called) j.called ∙ ap (λ b. is_other true b) j.accepted)
        | inr j ↦ found s c d j.callee j.caller j.callee_is j.caller_is j.asked j.answered (ap (λ b. is_other b j.caller.called) j.accepted ∙ ap (λ b. is_other false b) j.called)
      ];
      only = only_by s c d (slice_get s.roles c) refl;
    }
