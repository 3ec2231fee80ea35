use Rattle.std.proofs.Common.{◌≡◌, ◌≤◌, ◌+◌, ◌*◌, ◌++◌, [], List, ℕ, length, take, ap, sym, ◌∙◌, subst}
use Rattle.std.specs.Prelude.{All}
use Rattle.std.specs.List.{flat_map}
use Rattle.byteorder.specs.Endian.{big_bytes}
use Rattle.ipx_wire.specs.Ipx.{IsWritten}
use Rattle.ipx_control.specs.declared.rip.packet.Rip.{Rip}
use Rattle.ipx_control.specs.declared.rip.packet.RipEntry.{RipEntry}
use Rattle.ipx_control.specs.Rip.{IsRip, IsRipEntryInRange, Request, Response, rip_entries, rip_entry_bytes, rip_view}
use Rattle.ipx_control.proofs.RipPackets.{rip_written}
use Rattle.ipx_control.proofs.rip.writing.encode_rip_into.Goals as goal

pub returns-in-Request-clause-written : goal.returns-in-Request-clause-written
returns-in-Request-clause-written c =
    let out = c.put_rip.new.out in
    let entries = c.in-Request.entries.items in
    let same = c.deref.ensures.value in
    let was = subst (λ (es : List RipEntry). IsWritten c.args.out.now (big_bytes 2 1 ++ flat_map rip_entry_bytes es) out (2 + 8 * length es)) same c.put_rip.ensures.written in
    let limit = subst (λ (r : Rip). length (rip_entries (rip_view r)) ≤ 50) c.in-Request.is c.requires.limit in
    let is = rip_written (Request entries) c.args.out.now out _ (record { entries = subst (All IsRipEntryInRange) same c.put_rip.ensures.range; limit = limit }) was in
    let count : c.len.result ≡ length entries = c.len.ensures ∙ sym c.deref.ensures.len ∙ ap length same in
    subst (λ (r : Rip). IsRip (rip_view r) (take (2 + 8 * c.len.result) out) []) (sym c.in-Request.is)
    (subst (λ (n : ℕ). IsRip (Request entries) (take (2 + 8 * n) out) []) (sym count) is)

pub returns-in-Response-clause-written : goal.returns-in-Response-clause-written
returns-in-Response-clause-written c =
    let out = c.put_rip-in-Response.new.out in
    let entries = c.in-Response.entries.items in
    let same = c.deref-in-Response.ensures.value in
    let was = subst (λ (es : List RipEntry). IsWritten c.args.out.now (big_bytes 2 2 ++ flat_map rip_entry_bytes es) out (2 + 8 * length es)) same c.put_rip-in-Response.ensures.written in
    let limit = subst (λ (r : Rip). length (rip_entries (rip_view r)) ≤ 50) c.in-Response.is c.requires.limit in
    let is = rip_written (Response entries) c.args.out.now out _ (record { entries = subst (All IsRipEntryInRange) same c.put_rip-in-Response.ensures.range; limit = limit }) was in
    let count : c.len-in-Response.result ≡ length entries = c.len-in-Response.ensures ∙ sym c.deref-in-Response.ensures.len ∙ ap length same in
    subst (λ (r : Rip). IsRip (rip_view r) (take (2 + 8 * c.len-in-Response.result) out) []) (sym c.in-Response.is)
    (subst (λ (n : ℕ). IsRip (Response entries) (take (2 + 8 * n) out) []) (sym count) is)
