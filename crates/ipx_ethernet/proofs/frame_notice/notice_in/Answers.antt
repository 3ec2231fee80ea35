use Rattle.std.proofs.Common.{◌≡◌, ◌∙◌, Bool, true, false, ap, not, refl, subst, sym}
use denote.Enum.Bare.{sameb}
use Rattle.ipx_ethernet.specs.contracts.encapsulation.Encapsulation.{the_type}
use Rattle.ipx_ethernet.specs.declared.encapsulation.Encapsulation.{Encapsulation}
use Rattle.ipx_ethernet.specs.declared.encapsulation.Encapsulation.TheVariants.{Raw, Llc, Snap, EthernetII}
use Rattle.ipx_ethernet.specs.Frame.{IsFrame, frame_view}
use Rattle.ipx_ethernet.proofs.Noticed.{claim_is_in, none_in, other_in}
use Rattle.ipx_ethernet.proofs.frame_notice.notice_in.Goals as goal

-- what `!=` says of two encapsulations
same_if : (d e : Encapsulation) (b : Bool) → b ≡ not (sameb the_type d e) → b ≡ false → d ≡ e
same_if Raw Raw b is off = refl
same_if Raw Llc b is off = cc
same_if Raw Snap b is off = cc
same_if Raw EthernetII b is off = cc
same_if Llc Raw b is off = cc
same_if Llc Llc b is off = refl
same_if Llc Snap b is off = cc
same_if Llc EthernetII b is off = cc
same_if Snap Raw b is off = cc
same_if Snap Llc b is off = cc
same_if Snap Snap b is off = refl
same_if Snap EthernetII b is off = cc
same_if EthernetII Raw b is off = cc
same_if EthernetII Llc b is off = cc
same_if EthernetII Snap b is off = cc
same_if EthernetII EthernetII b is off = refl

same_self : (d : Encapsulation) → sameb the_type d d ≡ true
same_self Raw = refl
same_self Llc = refl
same_self Snap = refl
same_self EthernetII = refl

apart_if : (d e : Encapsulation) (b : Bool) → b ≡ not (sameb the_type d e) → b ≡ true → d ≡ e → ⊥
apart_if d e b is on same =
    let self : sameb the_type d e ≡ true = ap (sameb the_type d) (sym same) ∙ same_self d in
    let off : b ≡ false = is ∙ ap not self in
    cc

pub returns-then-ne : goal.returns-then-ne
returns-then-ne c =
    let found = c.in-Ok.ensures.found in
    let apart = apart_if c.in-Ok.encapsulation c.args.port.encapsulation c.ne.result c.ne.ensures c.if-ne.true in
    sym (other_in c.args.port c.in-Ok.encapsulation (frame_view c.in-Ok.frame) c.args.bytes.now found.0 c.args.end c.in-Ok.ensures.whole found.1 apart)

pub returns-then-not-is_claim : goal.returns-then-not-is_claim
returns-then-not-is_claim c =
    let found = c.in-Ok.ensures.found in
    let same = same_if c.in-Ok.encapsulation c.args.port.encapsulation c.ne.result c.ne.ensures c.if-ne.false in
    let P : Encapsulation → Type 0 = λ e. IsFrame e (frame_view c.in-Ok.frame) c.args.bytes.now found.0 in
    sym (none_in c.args.port (frame_view c.in-Ok.frame) c.args.bytes.now found.0 c.args.end c.in-Ok.ensures.whole (subst P same found.1) (sym c.is_claim.ensures ∙ c.if-not-is_claim.true))

pub returns-else-not-is_claim : goal.returns-else-not-is_claim
returns-else-not-is_claim c =
    let found = c.in-Ok.ensures.found in
    let same = same_if c.in-Ok.encapsulation c.args.port.encapsulation c.ne.result c.ne.ensures c.if-ne.false in
    let P : Encapsulation → Type 0 = λ e. IsFrame e (frame_view c.in-Ok.frame) c.args.bytes.now found.0 in
    sym (claim_is_in c.args.port (frame_view c.in-Ok.frame) c.args.bytes.now found.0 c.args.end c.source_network-network.result c.in-Ok.ensures.whole (subst P same found.1)
    (sym c.is_claim.ensures ∙ c.if-not-is_claim.false) c.source_network-network.ensures)
