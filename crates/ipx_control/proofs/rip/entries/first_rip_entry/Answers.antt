use Rattle.std.proofs.Common.{◌≡◌, ◌∷◌, List, ℕ, subst, sym}
use Rattle.std.proofs.lemmas.List.{take_rest}
use Rattle.ipx_control.specs.Lent.{rip_entries_in}
use Rattle.ipx_control.proofs.RipPackets.{rip_entries_more}
use Rattle.ipx_control.proofs.rip.entries.first_rip_entry.Goals as goal

pub returns-clause-some : goal.returns-clause-some
returns-clause-some c =
    let bytes = c.args.bytes.now in
    let e = c.rip_entry_at.result in
    subst (λ (rest : List ℕ). rip_entries_in bytes ≡ e ∷ rip_entries_in rest) (sym (take_rest bytes 8)) (rip_entries_more e bytes c.if-bytes-lt-RIP_ENTRY_SIZE.false c.rip_entry_at.ensures)
