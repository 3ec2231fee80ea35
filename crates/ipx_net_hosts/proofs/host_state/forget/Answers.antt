use Rattle.std.proofs.Common.{◌≡◌, ◌≢◌, ℕ, List, not, ◌==◌, rules, subst, sym, None}
use Rattle.std.proofs.lemmas.Fn.{filter_same}
use Rattle.spx_theory.specs.World.{end_at}
use Rattle.ipx_net_hosts.proofs.Known.{gone, stays, without}
use Rattle.ipx_net_hosts.proofs.host_state.forget.Goals as goal

kept : (c : goal.After-retain) → c.retain.new.self.items ≡ without c.args.id c.args.here.now.items
kept c =
    let remains = λ (x : ℕ × ℕ). not (x.0 == c.args.id) in
    filter_same _ remains _ (λ x b f' k. search rules) _ _ c.retain.ensures.filtered

pub returns-clause-kept : goal.returns-clause-kept
returns-clause-kept c = kept c

pub returns-clause-forgotten : goal.returns-clause-forgotten
returns-clause-forgotten c =
    let P : List (ℕ × ℕ) → Type 0 = λ xs. end_at xs c.args.id ≡ None in
    subst P (sym (kept c)) (gone c.args.id c.args.here.now.items)

pub returns-clause-known : goal.returns-clause-known
returns-clause-known c =
    let P : List (ℕ × ℕ) → Type 0 = λ xs. (q : ℕ) → q ≢ c.args.id → end_at xs q ≡ end_at c.args.here.now.items q in
    subst P (sym (kept c)) (λ q apart. stays c.args.id q c.args.here.now.items apart)
