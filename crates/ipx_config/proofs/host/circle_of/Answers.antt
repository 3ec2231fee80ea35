use Rattle.std.proofs.Common.{ℕ, List, [], inl, inr, subst, sym}
use Rattle.std.proofs.lemmas.Result.{err_from_is_err_and}
use Rattle.toml.specs.View.{table_view}
use Rattle.ipx_config.specs.declared.key.Key.TheVariants as Key
use Rattle.ipx_config.specs.Fields.{HoldsOr}
use Rattle.ipx_config.specs.Neighbours.{AreAmong, AreNeighbours}
use Rattle.ipx_config.specs.AllowedPeers.{AreOrigins}
use Rattle.ipx_config.proofs.Faults.{or_memory, right_if, right_or}
use Rattle.ipx_config.proofs.host.circle_of.Goals as goal

pub returns-in_err-routers-clause-fault : goal.returns-in_err-routers-clause-fault
returns-in_err-routers-clause-fault c =
    let p = err_from_is_err_and c.from_residual-in_err-routers.result c.from_residual-in_err-routers.ensures.1 in
    let named = subst (λ (l : List (List ℕ)). HoldsOr AreNeighbours Key.Peers (table_view c.args.table.now) [] l) (sym c.deref.ensures.value) c.in_ok-peers.ensures in
    rw (p.1, p.2)
    (or_memory _ (λ fault. inr (c.deref.result.now, named, inl fault)) c.in_err-routers.ensures)

pub returns-in_err-from-clause-fault : goal.returns-in_err-from-clause-fault
returns-in_err-from-clause-fault c =
    let p = err_from_is_err_and c.from_residual-in_err-from.result c.from_residual-in_err-from.ensures.1 in
    let named = subst (λ (l : List (List ℕ)). HoldsOr AreNeighbours Key.Peers (table_view c.args.table.now) [] l) (sym c.deref.ensures.value) c.in_ok-peers.ensures in
    rw (p.1, p.2)
    (or_memory _ (λ fault. inr (c.deref.result.now, named, inr (right_or (AreAmong c.deref.result.now) Key.Routers (table_view c.args.table.now) [] c.in_ok-routers.routers.items c.in_ok-routers.ensures, inl fault)))
    c.in_err-from.ensures)

pub returns-in_err-accept-clause-fault : goal.returns-in_err-accept-clause-fault
returns-in_err-accept-clause-fault c =
    let p = err_from_is_err_and c.from_residual-in_err-accept.result c.from_residual-in_err-accept.ensures.1 in
    let named = subst (λ (l : List (List ℕ)). HoldsOr AreNeighbours Key.Peers (table_view c.args.table.now) [] l) (sym c.deref.ensures.value) c.in_ok-peers.ensures in
    rw (p.1, p.2)
    (or_memory _ (λ fault. inr (c.deref.result.now, named, inr (right_or (AreAmong c.deref.result.now) Key.Routers (table_view c.args.table.now) [] c.in_ok-routers.routers.items c.in_ok-routers.ensures, inr (right_if AreOrigins Key.Allow (table_view c.args.table.now) c.in_ok-from.from c.in_ok-from.ensures, fault))))
    c.in_err-accept.ensures)
