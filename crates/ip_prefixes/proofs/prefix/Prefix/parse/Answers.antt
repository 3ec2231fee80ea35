use Rattle.std.proofs.Common.{◌∙◌, ◌+◌, List, ℕ, subst, sym}
use Rattle.std.specs.Net.Grammar.{IsDotted}
use Rattle.ip_prefixes.specs.Prefixes.{WritesBits, is_slash}
use Rattle.ip_prefixes.proofs.Parts.{after_place, before_place, whole_rest}
use Rattle.ip_prefixes.proofs.prefix.Prefix.parse.Goals as goal

pub returns-in_default-parse_ascii : goal.returns-in_default-parse_ascii
returns-in_default-parse_ascii c = λ p writes.
    let before = before_place is_slash c.args.text.now c.in-Some.slash c.in-Some.ensures.place in
    c.in_default-parse_ascii.ensures (record { octets = p.address }) (subst (λ (it : List ℕ). IsDotted it p.address) before writes.0)

pub returns-in_default-bits_in : goal.returns-in_default-bits_in
returns-in_default-bits_in c = λ p writes.
    let after = after_place is_slash c.args.text.now c.in-Some.slash c.in-Some.ensures.place in
    c.in_default-bits_in.ensures p.bits
    (subst (λ (it : List ℕ). WritesBits it p.bits) (after ∙ sym (whole_rest c.args.text.now (c.in-Some.slash + 1))) writes.1)
