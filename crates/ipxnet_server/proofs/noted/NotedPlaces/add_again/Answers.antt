use Rattle.std.proofs.Common.{◌≡◌, ℕ, true, List, ◌∷◌, ◌++◌, length, take, drop, sym, ap, subst, ◌∙◌, rules}
use Rattle.std.specs.Vec.{vec_capacity}
use Rattle.ipxnet_server.specs.declared.ask_times.NoteCause.TheVariants.{Restart}
use Rattle.ipxnet_server.specs.declared.noted.Noted.{Noted}
use Rattle.ipxnet_server.specs.NotedPlaces.{has_note_room, noted_again}
use Rattle.ipxnet_server.specs.ServerInside.{AreNoted}
use Rattle.ipxnet_server.proofs.Notes.{few_again}
use Rattle.ipxnet_server.proofs.Once.{after_all}
use Rattle.ipxnet_server.proofs.noted.NotedPlaces.add_again.Goals as goal

pub invariant_of-self : goal.invariant_of-self
invariant_of-self c =
    let place = c.args.place in
    let now = c.args.now in
    let known : List Noted = c.self.inside.known.items in
    let room : ℕ = vec_capacity c.self.inside.known in
    let d : ℕ → Noted = λ (n : ℕ). record { place = place; since = now; cause = Restart n } in
    let last : c.len-before.result ≡ length known = search rules in
    let inserted : c.insert.new.self.items ≡ take c.len-before.result known ++ d c.len-before.result ∷ drop c.len-before.result known = search rules in
    let put : c.insert.new.self.items ≡ noted_again place now known = inserted ∙ ap (λ (i : ℕ). take i known ++ d i ∷ drop i known) last ∙ after_all known (d (length known)) in
    let same : known ≡ c.args.self.now = search rules in
    let has : has_note_room place known ≡ true = ap (has_note_room place) same ∙ c.requires in
    let few = few_again room now place known c.self.invariant has in
    let all = subst (λ (l : List Noted). AreNoted l room) (sym put) few in
    let capacity : vec_capacity c.insert.new.self ≡ room = search rules in
    subst (λ (n : ℕ). AreNoted c.insert.new.self.items n) (sym capacity) all
