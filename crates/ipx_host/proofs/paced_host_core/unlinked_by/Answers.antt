use Rattle.std.proofs.Common.{◌≡◌, ◌∙◌, Some, None, ap, sym, rules}
use Rattle.std.proofs.lemmas.Option.{same_Some}
use Rattle.ipx_wire.specs.declared.address.Address.{Address}
use Rattle.ipx_host.specs.declared.paced_host_core.Arrival.{Arrival}
use Rattle.ipx_host.specs.declared.paced_host_core.Arrival.TheVariants as Cames
use Rattle.ipx_host.proofs.Noted.{unlinked_from}
use Rattle.ipx_host.proofs.paced_host_core.unlinked_by.Goals as goal

pub returns-in_err-from : goal.returns-in_err-from
returns-in_err-from c = λ old new now a.
    let made = unlinked_from old new c.args.bytes.now now c.sender_of.result c.sender_of.ensures a in
    let some : c.sender_of.result ≡ Some made.0 = made.2 in
    let none : c.sender_of.result ≡ None = first_of (search rules, cc) in
    absurd (cc)

pub returns : goal.returns
returns c = λ old new now a.
    let made = unlinked_from old new c.args.bytes.now now c.sender_of.result c.sender_of.ensures a in
    let was : c.sender_of.result ≡ Some c.in_ok-from.from = first_of (search rules, cc) in
    let same : made.0 ≡ c.in_ok-from.from = same_Some made.0 c.in_ok-from.from (sym made.2 ∙ was) in
    let came : Address → Arrival = λ k. Cames.NoRoom k in
    (made.0, made.1, ap (λ (k : Address). Some (came k)) (sym same))
