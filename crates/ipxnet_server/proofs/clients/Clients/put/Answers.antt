use Rattle.std.proofs.Common.{◌≡◌, ◌+◌, ◌-◌, ℕ, List, [], ◌∷◌, ◌++◌, None, length, take, drop, sym, ap, subst, ◌∙◌, rules}
use Rattle.std.specs.Vec.{vec_capacity}
use Rattle.ipxnet_server.specs.declared.clients.Client.{Client}
use Rattle.ipxnet_server.specs.ServerClients.{client_at, client_of_node, client_that_goes, clients_but, clients_with, new_client}
use Rattle.ipxnet_server.specs.ServerInside.{AreClients, ClientsView}
use Rattle.ipxnet_server.proofs.Once.{after_all, once_with}
use Rattle.ipxnet_server.proofs.clients.Clients.put.Goals as goal

pub invariant_of-self : goal.invariant_of-self
invariant_of-self c =
    let place = c.args.place in
    let now = c.args.now in
    let most = c.self.inside.max_clients in
    let known : List Client = c.self.inside.known.items in
    let is_known : c.args.self.now.known ≡ known = sym (ap (λ (v : ClientsView). v.known) c.self.view_is) in
    let node = c.args.node in
    let kept : List Client = clients_but (client_that_goes place known) known in
    let d : Client = new_client node place now in
    let left : c.leave_out_one.new.known.items ≡ kept = search rules in
    let room : List Client = c.make_space.new.known.items in
    let made : room ≡ drop (length kept + 1 - most) kept = c.make_space.ensures.items ∙ ap (λ (l : List Client). drop (length l + 1 - most) l) left in
    let inserted : c.insert.new.self.items ≡ take c.len-last.result room ++ d ∷ drop c.len-last.result room = search rules in
    let last : c.len-last.result ≡ length room = search rules in
    let behind : c.insert.new.self.items ≡ room ++ d ∷ [] = inserted ∙ ap (λ (i : ℕ). take i room ++ d ∷ drop i room) last ∙ after_all room d in
    let put : c.insert.new.self.items ≡ clients_with most node place now known = behind ∙ ap (λ (l : List Client). l ++ d ∷ []) made in
    let no_client : client_at place known ≡ None = subst (λ (l : List Client). client_at place l ≡ None) is_known c.requires.no_client in
    let free : client_of_node node known ≡ None = subst (λ (l : List Client). client_of_node node l ≡ None) is_known c.requires.free in
    let once = once_with most (vec_capacity c.self.inside.known) now node place known c.self.invariant no_client free in
    let all = subst (λ (l : List Client). AreClients most l (vec_capacity c.self.inside.known)) (sym put) once in
    let capacity : vec_capacity c.insert.new.self ≡ vec_capacity c.self.inside.known = search rules in
    subst (λ (n : ℕ). AreClients most c.insert.new.self.items n) (sym capacity) all
