use Rattle.std.proofs.Common.{◌≡◌, ◌∙◌, ◌++◌, ◌∷◌, [], true, false, ap, rules, sym, take, if◌then◌else◌}
use Rattle.std.specs.Prelude.{slice_index_or}
use Rattle.std.proofs.lemmas.List.{append-nil}
use Rattle.ipx_config.specs.Values.{is_peer}
use Rattle.ipx_query_cmd.proofs.Rows.{ips_more}
use Rattle.ipx_query_cmd.proofs.query_target.new_ips.Goals.{then-not-contains+in_ok-push, else-not-contains}
use Rattle.ipx_query_cmd.proofs.query_target.new_ips.Goals as goal

pub loop-place-preserved : goal.loop-place-preserved
loop-place-preserved c =
    let ips = c.args.ips.now in
    let i = c.loop-place.place in
    let ip = slice_index_or ips i [] in
    let old = c.loop-place.found.items in
    let new = c.if-not-contains.found.items in
    elim c.if-not-contains.branch [
      | then-not-contains+in_ok-push w ↦
          let none : is_peer (take i ips) ip ≡ false = search rules in
          let pushed : new ≡ old ++ ip ∷ [] = ap (λ v. v.items) w.found-is ∙ w.in_ok-push.ensures.items in
          ips_more ips i [] old new c.loop-place-test.true c.loop-place.invariant (pushed ∙ ap (λ b. old ++ (if b then [] else ip ∷ [])) (sym none))
      | else-not-contains w ↦
          let there : is_peer (take i ips) ip ≡ true = search rules in
          let same : new ≡ old = ap (λ v. v.items) w.found-is in
          ips_more ips i [] old new c.loop-place-test.true c.loop-place.invariant (same ∙ sym (append-nil old) ∙ ap (λ b. old ++ (if b then [] else ip ∷ [])) (sym there))
    ]
