use Rattle.std.proofs.Common.{◌≡◌, ◌∷◌, ◌++◌, [], ℕ, List, Some, ap, drop, filter, length, not, rules, subst, sym, take, ◌∙◌}
use Rattle.std.specs.Vec.{vec_capacity}
use Rattle.ipxnet_server.specs.declared.clients.Client.{Client}
use Rattle.ipxnet_server.specs.ServerClients.{client_at, clients_heard, clients_moved, is_client_at}
use Rattle.ipxnet_server.specs.ServerInside.{AreClients, ClientsView}
use Rattle.ipxnet_server.proofs.Once.{after_all, once_heard}
use Rattle.ipxnet_server.proofs.clients.Clients.hear.Goals as goal

-- the client is the last one then
heard : (c : goal.After-unwrap) → c.insert.new.self.items ≡ clients_heard c.args.place c.args.now c.self.inside.known.items
heard c =
    let place = c.args.place in
    let known : List Client = c.self.inside.known.items in
    let kept : List Client = filter (λ k. not (is_client_at place k)) known in
    let d : Client = record c.in-Some.client { heard = c.args.now } in
    let room : List Client = c.leave_out_known.new.known.items in
    let inserted : c.insert.new.self.items ≡ take c.len-last.result room ++ d ∷ drop c.len-last.result room = search rules in
    let last : c.len-last.result ≡ length room = search rules in
    let is_known : c.args.self.now.known ≡ known = sym (ap (λ (v : ClientsView). v.known) c.self.view_is) in
    let found : client_at place known ≡ Some c.in-Some.client = sym (ap (client_at place) is_known) ∙ sym c.at.ensures ∙ c.in-Some.is in
    inserted ∙ ap (λ (i : ℕ). take i room ++ d ∷ drop i room) last ∙ after_all room d ∙ ap (λ (l : List Client). l ++ d ∷ []) c.leave_out_known.ensures.items
    ∙ sym (ap (clients_moved place c.args.now known) found)

pub invariant_of-self : goal.invariant_of-self
invariant_of-self c =
    let most = c.self.inside.max_clients in
    let room = vec_capacity c.self.inside.known in
    let all = subst (λ (l : List Client). AreClients most l room) (sym (heard c)) (once_heard most room c.args.now c.args.place c.self.inside.known.items c.self.invariant) in
    let capacity : vec_capacity c.insert.new.self ≡ room = search rules in
    subst (λ (n : ℕ). AreClients most c.insert.new.self.items n) (sym capacity) all

pub returns-clause-heard : goal.returns-clause-heard
returns-clause-heard c =
    let is_view : c.args.self.now ≡ record { max_clients = c.self.inside.max_clients; known = c.self.inside.known.items } = sym c.self.view_is in
    subst (λ (v : ClientsView). record { max_clients = c.self.inside.max_clients; known = c.insert.new.self.items } ≡ record { max_clients = v.max_clients; known = clients_heard c.args.place c.args.now v.known }) c.self.view_is
    (ap (λ (l : List Client). record { max_clients = c.self.inside.max_clients; known = l }) (heard c))
