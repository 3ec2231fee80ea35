use Rattle.std.proofs.Common.{◌≡◌, ◌∙◌, None, Option, Some, arith, false, length, nat_eq, subst, sym, true, ℕ}
use Rattle.std.specs.Prelude.{IfNone, IfSome, vec_len}
use Rattle.std.proofs.lemmas.Result.{IfOk-weaker, on_err_weaker}
use Rattle.ipx_router.specs.Knowledge.{routes_in}
use Rattle.ipx_router.specs.Replying.{AreRoutesAsked, asks_all}
use Rattle.ipx_router.specs.RouterPackets.{AreRoutePackets}
use Rattle.ipx_router.proofs.AllRoutes.{all_asked_for, some_asked_for}
use Rattle.ipx_router.proofs.Cuts.{added_alone, none_left, some_left}
use Rattle.ipx_router.proofs.SomeAdvertised.{any_err, has_to_reply}
use Rattle.ipx_router.proofs.replying.reply_routes.Goals as goal

IfNone_at : {A P : Type 0} (o : Option A) → o ≡ None → IfNone o P → P
IfNone_at {A} {P} o is p = subst (λ (q : Option A). IfNone q P) is p

IfSome_at : {A : Type 0} (P : A → Type 0) (o : Option A) (x : A) → o ≡ Some x → IfSome o P → P x
IfSome_at {A} P o x is p = subst (λ (q : Option A). IfSome q P) is p

pub returns-in_default-clause-replies : goal.returns-in_default-clause-replies
returns-in_default-clause-replies c =
    let all : asks_all c.args.asked ≡ true = IfNone_at c.in_ok-named.named c.in_default.is c.in_ok-named.ensures.all in
    IfOk-weaker c.route_replies.result _ _ (λ v h. record {
      entries = h.0;
      are = all_asked_for c.args.ports.now (routes_in c.args.routes.now) c.args.at c.args.asked all h.0 h.1;
      packets = h.2;
    }) c.route_replies.ensures.replies

pub returns-in_default-clause-refused : goal.returns-in_default-clause-refused
returns-in_default-clause-refused c =
    let all : asks_all c.args.asked ≡ true = IfNone_at c.in_ok-named.named c.in_default.is c.in_ok-named.ensures.all in
    on_err_weaker c.route_replies.result (some_asked_for c.args.ports.now (routes_in c.args.routes.now) c.args.at c.args.asked all) c.route_replies.ensures.refused

pub returns-then-is_empty-clause-replies : goal.returns-then-is_empty-clause-replies
returns-then-is_empty-clause-replies c =
    let entries = c.in-Some.entries.items in
    let count : vec_len c.in-Some.entries ≡ length entries = omega (arith, c.in-Some.entries.ok) in
    let asked : AreRoutesAsked c.args.ports.now (routes_in c.args.routes.now) c.args.at c.args.asked entries = IfSome_at _ c.in_ok-named.named c.in-Some.entries c.in-Some.is c.in_ok-named.ensures.named in
    rw c.new-replies.ensures.items
    record {
      entries = entries;
      are = asked;
      packets = none_left entries (subst (λ (n : ℕ). nat_eq n 0 ≡ true) count (sym c.is_empty.ensures ∙ c.if-is_empty.true));
    }

pub returns-in_err-add_route_packets-clause-refused : goal.returns-in_err-add_route_packets-clause-refused
returns-in_err-add_route_packets-clause-refused c =
    let entries = c.in-Some.entries.items in
    let count : vec_len c.in-Some.entries ≡ length entries = omega (arith, c.in-Some.entries.ok) in
    let asked : AreRoutesAsked c.args.ports.now (routes_in c.args.routes.now) c.args.at c.args.asked entries = IfSome_at _ c.in_ok-named.named c.in-Some.entries c.in-Some.is c.in_ok-named.ensures.named in
    any_err c.from_residual-in_err-add_route_packets.result
    (has_to_reply c.args.ports.now (routes_in c.args.routes.now) c.args.at c.args.asked entries asked (some_left entries (subst (λ (n : ℕ). nat_eq n 0 ≡ false) count (sym c.is_empty.ensures ∙ c.if-is_empty.false))))

pub returns-clause-replies : goal.returns-clause-replies
returns-clause-replies c =
    let entries = c.in-Some.entries.items in
    let asked : AreRoutesAsked c.args.ports.now (routes_in c.args.routes.now) c.args.at c.args.asked entries = IfSome_at _ c.in_ok-named.named c.in-Some.entries c.in-Some.is c.in_ok-named.ensures.named in
    let packets = rw (c.deref.ensures.value, c.new-replies.ensures.items) at c.in_ok-add_route_packets.ensures in
    record {
      entries = entries;
      are = asked;
      packets = added_alone (AreRoutePackets c.args.to entries) c.add_route_packets.new.replies.items packets;
    }
