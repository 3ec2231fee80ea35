use Rattle.std.proofs.Common.{◌≡◌, ◌<◌, List, ℕ, length, arith, inl, inr, sym, ◌∙◌, subst}
use Rattle.std.proofs.lemmas.List.{take_rest}
use Rattle.ipx_control.specs.Entries.{AreEntries}
use Rattle.ipx_control.specs.Rip.{IsRipEntry, Request, Response}
use Rattle.ipx_control.proofs.RipPackets.{rip_count, rip_found, same_rip}
use Rattle.ipx_control.proofs.rip.reading.read_rip.Goals as goal

pub returns-then-count-gt-RIP_MAX_ENTRIES-clause-only : goal.returns-then-count-gt-RIP_MAX_ENTRIES-clause-only
returns-then-count-gt-RIP_MAX_ENTRIES-clause-only c = λ m tail x. absurd (omega (arith, x.limit, rip_count m c.args.bytes.now tail x, c.if-count-gt-RIP_MAX_ENTRIES.true))

pub returns-then-operation-eq1-clause-found : goal.returns-then-operation-eq1-clause-found
returns-then-operation-eq1-clause-found c =
    let bytes = c.args.bytes.now in
    let entries = c.rip_entries_of-entries.result in
    let got = subst (λ (b : List ℕ). (tail : List ℕ) × AreEntries IsRipEntry 8 entries b tail × (length tail < 8)) (take_rest bytes 2) c.rip_entries_of-entries.ensures in
    (got.0, rip_found (Request entries) bytes got.0 c.if-bytes-lt2.false (sym c.read_u16-operation.ensures ∙ c.if-operation-eq1.true) got.1 got.2 c.if-count-gt-RIP_MAX_ENTRIES.false)

pub returns-then-operation-eq1-clause-only : goal.returns-then-operation-eq1-clause-only
returns-then-operation-eq1-clause-only c =
    let found = returns-then-operation-eq1-clause-found c in
    λ m tail x. (same_rip (Request c.rip_entries_of-entries.result) m c.args.bytes.now found.0 tail found.1 x).0

pub returns-clause-found : goal.returns-clause-found
returns-clause-found c =
    let bytes = c.args.bytes.now in
    let entries = c.rip_entries_of-entries.result in
    let got = subst (λ (b : List ℕ). (tail : List ℕ) × AreEntries IsRipEntry 8 entries b tail × (length tail < 8)) (take_rest bytes 2) c.rip_entries_of-entries.ensures in
    let two : c.read_u16-operation.result ≡ 2 = elim c.else-operation-ne1.either [ inl ne ↦ ne.1 | inr one ↦ absurd (c.if-operation-eq1.false one) ] in
    (got.0, rip_found (Response entries) bytes got.0 c.if-bytes-lt2.false (sym c.read_u16-operation.ensures ∙ two) got.1 got.2 c.if-count-gt-RIP_MAX_ENTRIES.false)

pub returns-clause-only : goal.returns-clause-only
returns-clause-only c =
    let found = returns-clause-found c in
    λ m tail x. (same_rip (Response c.rip_entries_of-entries.result) m c.args.bytes.now found.0 tail found.1 x).0
