use Rattle.std.proofs.Common.{Vec, Global, ℕ, arith}
use Rattle.ipx_net.proofs.Listing.{set_same_view}
use Rattle.ipx_net.proofs.places.reserve_for.Goals as goal

pub returns-then-end-len : goal.returns-then-end-len
returns-then-end-len c =
    set_same_view (λ (v : Vec ℕ Global). v.items) c.args.lists.now.items _ c.index_mut.result.now c.reserve.new.self (omega (arith, c.len.ensures, c.args.lists.now.ok.0)) c.index_mut.ensures.value c.reserve.ensures.items
