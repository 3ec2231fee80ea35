use Rattle.std.proofs.Common.{[], ◌∷◌, ◌++◌, ◌∙◌, ap, map}
use Rattle.std.proofs.lemmas.List.{map-append}
use Rattle.std.proofs.lemmas.Result.{err_from_is_err_and}
use Rattle.ipx_carrier.proofs.Waiting.{waits_last, waits_still}
use Rattle.ipx_carrier.proofs.memory.MemoryDatagrams.put.Goals as goal

pub returns-in_err-push_back-clause-refused : goal.returns-in_err-push_back-clause-refused
returns-in_err-push_back-clause-refused c =
    let p = err_from_is_err_and c.from_residual-in_err-push_back.result c.from_residual-in_err-push_back.ensures.1 in
    rw p.1
    (waits_still c.args.self.now.waiting.items (λ q. map (λ v. v.items) q.items) c.args.port c.index_mut.result.now c.push_back.new.self c.index_mut.ensures.value (ap (map (λ v. v.items)) c.in_err-push_back.ensures.items))

pub returns-clause-put : goal.returns-clause-put
returns-clause-put c =
    let d = c.in_ok-datagram.datagram in
    let q = c.index_mut.result.now in
    let copied = c.in_ok-datagram.ensures.items_if_clones_equal (λ x y h. h) in
    waits_last c.args.self.now.waiting.items (λ q. map (λ v. v.items) q.items) c.args.port q c.push_back.new.self c.args.bytes.now c.requires c.index_mut.ensures.value
    (ap (map (λ v. v.items)) c.in_ok-push_back.ensures.items ∙ map-append (λ v. v.items) q.items (d ∷ []) ∙ ap (λ bs. map (λ v. v.items) q.items ++ bs ∷ []) copied)
