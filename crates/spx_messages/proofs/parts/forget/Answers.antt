use Rattle.std.proofs.Common.{◌≡◌, ◌≢◌, ℕ, List, not, ◌==◌, rules, subst, sym, None}
use Rattle.std.proofs.lemmas.Fn.{filter_same}
use Rattle.spx_messages.specs.declared.parts.Part.{Part}
use Rattle.spx_messages.specs.EndpointView.{rest_in}
use Rattle.spx_messages.proofs.Rests.{rest_gone, rest_stays, rests_without}
use Rattle.spx_messages.proofs.parts.forget.Goals as goal

kept : (c : goal.After-retain) → c.retain.new.self.items ≡ rests_without c.args.id c.args.parts.now.items
kept c =
    let remains = λ (p : Part). not (p.id == c.args.id) in
    filter_same _ remains _ (λ x b f' k. search rules) _ _ c.retain.ensures.filtered

pub returns-clause-kept : goal.returns-clause-kept
returns-clause-kept c = kept c

pub returns-clause-gone : goal.returns-clause-gone
returns-clause-gone c =
    let P : List Part → Type 0 = λ ps. rest_in ps c.args.id ≡ None in
    subst P (sym (kept c)) (rest_gone c.args.id c.args.parts.now.items)

pub returns-clause-others : goal.returns-clause-others
returns-clause-others c =
    let P : List Part → Type 0 = λ ps. (q : ℕ) → q ≢ c.args.id → rest_in ps q ≡ rest_in c.args.parts.now.items q in
    subst P (sym (kept c)) (λ q apart. rest_stays c.args.id q c.args.parts.now.items apart)
