use Rattle.std.proofs.Common.{ℕ, List, Option, Some, length, slice_get, refl, subst, sym}
use Rattle.std.proofs.lemmas.Option.{slice_get_past, slice_get_read}
use Rattle.ipx_sockets.specs.declared.source_filter.AccessList.{AccessList}
use Rattle.ipx_sockets.specs.declared.source_filter.Verdict.TheVariants.{UnknownSender}
use Rattle.ipx_sockets.specs.SourceFilter.{IsVerdictOn}
use Rattle.ipx_sockets.proofs.source_filter.SourceFilter.word.Goals as goal

pub returns-in-Some : goal.returns-in-Some
returns-in-Some g c =
    let lent = c.deref.result.now in
    let word = c.verdict_on.result in
    let bytes = c.args.bytes.now in
    let from = g.D.Senders.last_sender c.args.self.now.device in
    let there = slice_get_read lent (length lent) c.args.port c.in-Some.access_list.now refl c.in-Some.ensures.lookup.3.0 c.in-Some.ensures.lookup.1 in
    let said = subst (λ (it : Option (List ℕ)). IsVerdictOn (Some c.in-Some.access_list.now) it bytes word) c.sender.ensures c.verdict_on.ensures in
    let by_lent = subst (λ (it : Option AccessList). IsVerdictOn it from bytes word) (sym there) said in
    subst (λ (it : List AccessList). IsVerdictOn (slice_get it c.args.port) from bytes word) c.deref.ensures.value by_lent

pub returns-in-None : goal.returns-in-None
returns-in-None g c =
    let lent = c.deref.result.now in
    let bytes = c.args.bytes.now in
    let from = g.D.Senders.last_sender c.args.self.now.device in
    let none = slice_get_past lent c.args.port c.in-None.ensures.lookup.3 in
    let by_lent = subst (λ (it : Option AccessList). IsVerdictOn it from bytes UnknownSender) (sym none) refl in
    subst (λ (it : List AccessList). IsVerdictOn (slice_get it c.args.port) from bytes UnknownSender) c.deref.ensures.value by_lent
