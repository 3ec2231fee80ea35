use Rattle.std.proofs.Common.{◌≡◌, ◌+◌, ◌-◌, List, ℕ, Some, None, Option, arith, drop, take, subst, sym, ap, ◌∙◌}
use Rattle.std.proofs.lemmas.List.{take_rest}
use Rattle.ipx_wire.specs.Ipx.{number}
use Rattle.ipx_ethernet.specs.declared.encapsulation.Encapsulation.{Encapsulation}
use Rattle.ipx_ethernet.specs.Frame.{length_or_type}
use Rattle.ipx_ethernet.specs.FrameFault.{encapsulation_in}
use Rattle.ipx_ethernet.proofs.Faults.{counted_kind}
use Rattle.ipx_ethernet.proofs.reading.kind_of.Goals as goal

-- what a length counts, as the code and as the definition cut it
cut_alike : (bytes : List ℕ) (n : ℕ) (k : Option Encapsulation) → length_or_type bytes ≡ n → k ≡ encapsulation_in (take (14 + n - 14) (drop 14 bytes))
    → encapsulation_in (take (length_or_type bytes) (drop 14 bytes)) ≡ k
cut_alike bytes n k said is =
    let same : length_or_type bytes ≡ 14 + n - 14 = omega (arith, said) in
    ap (λ (i : ℕ). encapsulation_in (take i (drop 14 bytes))) same ∙ sym is

pub returns-in-Some-clause-whole : goal.returns-in-Some-clause-whole
returns-in-Some-clause-whole c =
    let bytes = c.args.bytes.now in
    let n = c.read_u16-kind.result in
    let said : length_or_type bytes ≡ n = sym (subst (λ t. n ≡ number 2 0 t) (take_rest bytes 12) c.read_u16-kind.ensures) in
    counted_kind (Some c.in-Some.encapsulation) bytes (omega (arith, said)) (omega (arith, said)) (cut_alike bytes n (Some c.in-Some.encapsulation) said c.in-Some.ensures.value)

pub returns-in-None-clause-fault : goal.returns-in-None-clause-fault
returns-in-None-clause-fault c =
    let bytes = c.args.bytes.now in
    let n = c.read_u16-kind.result in
    let said : length_or_type bytes ≡ n = sym (subst (λ t. n ≡ number 2 0 t) (take_rest bytes 12) c.read_u16-kind.ensures) in
    counted_kind None bytes (omega (arith, said)) (omega (arith, said)) (cut_alike bytes n None said c.in-None.ensures.value)
