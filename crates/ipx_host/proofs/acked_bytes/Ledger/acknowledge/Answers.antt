use Rattle.std.proofs.Common.{◌≡◌, ◌∙◌, true, arith, inl, inr, rules, subst, sym}
use Rattle.ipx_host.specs.AckedBytes.{IsFirstOpen}
use Rattle.ipx_host.proofs.Acknowledged.{counts_closed, few_closed, one_unit}
use Rattle.ipx_host.proofs.acked_bytes.Ledger.acknowledge.Goals as goal

pub loop-preserved : goal.loop-preserved
loop-preserved c =
    let old = c.loop.self in
    let new = c.close_first.new.self in
    let yes : c.close_first.result ≡ true = search rules in
    let closed = c.close_first.ensures.closed yes in
    record {
      base = search rules;
      ahead = search rules;
      given = search rules;
      counts = λ given units counts. counts_closed given units closed.0 old.messages.items new.messages.items old.units new.units old.whole new.whole closed.1 closed.2 closed.3 (c.loop.invariant.counts given units counts);
      few = λ unclosed. inr (elim (c.loop.invariant.few unclosed) [
        | inl same ↦ omega (arith, same.2, few_closed c.args.self.now.units closed.0 c.from-count.result old.units new.units old.messages.items new.messages.items closed.1 (subst (λ l. IsFirstOpen l c.args.self.now.units) (sym same.0) unclosed) (same.1 ∙ c.saturating_add-self.ensures) closed.2)
        | inr less ↦ omega (arith, less, closed.2, one_unit closed.0)
      ]);
    }
