use Rattle.std.proofs.Common.{◌+◌, ◌<◌, ◌≡◌, ◌∙◌, ◌∷◌, [], Bool, false, true, ℕ, List, Option, ap, get_or, length, refl, subst, sym, take}
use Rattle.std.specs.Prelude.{◌||◌}
use Rattle.std.specs.List.{list_any}
use Rattle.std.proofs.lemmas.List.{take_more}
use Rattle.std.proofs.lemmas.List.Folds.{list_any-append}
use Rattle.ipxnet_server.specs.Pings.{IsNextPing, earlier}
use Rattle.ipxnet_server.specs.ServerHears.{ServerView, is_ping_due}
use Rattle.ipxnet_server.proofs.PingTimes.{by_past, is_past, of_past, past_earlier}
use Rattle.ipx_ipxnet_ports.specs.OnServers.{is_any_pinged}
use Rattle.ipx_ipxnet_ports.proofs.server_ports.Servers.next_pings.Goals as goal

or_none : (b : Bool) → (b || false) ≡ b
or_none true = refl
or_none false = refl

one_more : (i : ℕ) (d : ServerView) (ls : List ServerView) (a b : Option ℕ) → i < length ls → IsNextPing (is_any_pinged (take i ls)) a
    → IsNextPing (is_ping_due (get_or ls i d)) b → IsNextPing (is_any_pinged (take (i + 1) ls)) (earlier a b)
one_more i d ls a b less first one = of_past (is_any_pinged (take (i + 1) ls)) (earlier a b) (λ now lt.
    let p : ServerView → Bool = λ l. is_ping_due l now in
    ap (list_any p) (take_more ls i d less) ∙ list_any-append p (take i ls) (get_or ls i d ∷ [])
    ∙ ap (λ (t : Bool). list_any p (take i ls) || t) (or_none (p (get_or ls i d)))
    ∙ ap (λ (t : Bool). t || p (get_or ls i d)) (by_past (is_any_pinged (take i ls)) a first now lt)
    ∙ ap (λ (t : Bool). is_past a now || t) (by_past (is_ping_due (get_or ls i d)) b one now lt) ∙ past_earlier a b now)

by_server : (l m : ServerView) (b : Option ℕ) → l ≡ m → IsNextPing (is_ping_due l) b → IsNextPing (is_ping_due m) b
by_server l m b same next = subst (λ (v : ServerView). IsNextPing (is_ping_due v) b) same next

pub loop-server-init : goal.loop-server-init
loop-server-init g c = λ now lt. refl

pub loop-server-preserved : goal.loop-server-preserved
loop-server-preserved g c =
    let ls = c.servers-servers.result.now in
    let i = c.loop-server.server-index in
    let server = c.server-item.result in
    subst (λ (o : Option ℕ). IsNextPing (is_any_pinged (take (i + 1) ls)) o) (sym c.sooner-next.ensures)
    (one_more i server ls c.loop-server.next c.next_pings.result c.loop-server-test.true c.loop-server.invariant
    (by_server server (get_or ls i server) c.next_pings.result c.server-item.is c.next_pings.ensures))
