use Rattle.std.proofs.Common.{◌≡◌, ◌+◌, ◌-◌, ℕ, List, [], ◌∷◌, ◌++◌, length, take, drop, sym, ap, subst, ◌∙◌, rules}
use Rattle.std.specs.Vec.{vec_capacity}
use Rattle.ipxnet_server.specs.declared.ask_times.NoteCause.TheVariants.{Registration}
use Rattle.ipxnet_server.specs.declared.noted.Noted.{Noted}
use Rattle.ipxnet_server.specs.NotedPlaces.{max_noted, note_that_goes, noted_but, noted_with}
use Rattle.ipxnet_server.specs.ServerInside.{AreNoted}
use Rattle.ipxnet_server.proofs.Notes.{few_with}
use Rattle.ipxnet_server.proofs.Once.{after_all}
use Rattle.ipxnet_server.proofs.noted.NotedPlaces.add.Goals as goal

pub invariant_of-self : goal.invariant_of-self
invariant_of-self c =
    let place = c.args.place in
    let now = c.args.now in
    let known : List Noted = c.self.inside.known.items in
    let kept : List Noted = noted_but (note_that_goes place known) known in
    let d : Noted = record { place = place; since = now; cause = Registration } in
    let without : c.leave_out_one.new.known.items ≡ kept = search rules in
    let room : List Noted = c.make_space.new.known.items in
    let made : room ≡ drop (length kept + 1 - max_noted) kept = c.make_space.ensures.items ∙ ap (λ (l : List Noted). drop (length l + 1 - max_noted) l) without in
    let inserted : c.insert.new.self.items ≡ take c.len-last.result room ++ d ∷ drop c.len-last.result room = search rules in
    let last : c.len-last.result ≡ length room = search rules in
    let after : c.insert.new.self.items ≡ room ++ d ∷ [] = inserted ∙ ap (λ (i : ℕ). take i room ++ d ∷ drop i room) last ∙ after_all room d in
    let put : c.insert.new.self.items ≡ noted_with place now known = after ∙ ap (λ (l : List Noted). l ++ d ∷ []) made in
    let few = few_with (vec_capacity c.self.inside.known) now place known c.self.invariant in
    let all = subst (λ (l : List Noted). AreNoted l (vec_capacity c.self.inside.known)) (sym put) few in
    let capacity : vec_capacity c.insert.new.self ≡ vec_capacity c.self.inside.known = search rules in
    subst (λ (n : ℕ). AreNoted c.insert.new.self.items n) (sym capacity) all
