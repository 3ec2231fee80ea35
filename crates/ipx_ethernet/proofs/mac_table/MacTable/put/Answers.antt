use Rattle.std.proofs.Common.{◌≡◌, ◌+◌, ◌-◌, ℕ, List, [], ◌∷◌, ◌++◌, length, take, drop, filter, not, ap, ◌∙◌, rules}
use Rattle.ipx_ethernet.specs.declared.mac_table.Station.{Station}
use Rattle.ipx_ethernet.specs.SwitchEnds.{is_at, max_stations}
use Rattle.ipx_ethernet.proofs.Room.{after_all, last_with}
use Rattle.ipx_ethernet.proofs.mac_table.MacTable.put.Goals as goal

pub returns : goal.returns
returns c =
    let s = c.args.station in
    let known : List Station = c.self.inside.known.items in
    let is_known : known ≡ c.args.self.now = c.self.view_is in
    let kept : List Station = filter (λ k. not (is_at s.node k)) c.args.self.now in
    let rest : c.forget.new.known.items ≡ kept = c.forget.ensures.items ∙ ap (λ (l : List Station). filter (λ k. not (is_at s.node k)) l) is_known in
    let room : List Station = c.make_space.new.known.items in
    let inserted : c.insert.new.self.items ≡ take c.len-last.result room ++ s ∷ drop c.len-last.result room = search rules in
    let behind : c.len-last.result ≡ length room = search rules in
    let put : c.insert.new.self.items ≡ room ++ s ∷ [] = inserted ∙ ap (λ (i : ℕ). take i room ++ s ∷ drop i room) behind ∙ after_all room s in
    let made : c.make_space.new.known.items ≡ drop (length kept + 1 - max_stations) kept = c.make_space.ensures.items ∙ ap (λ (l : List Station). drop (length l + 1 - max_stations) l) rest in
    put ∙ ap (λ (l : List Station). l ++ s ∷ []) made ∙ last_with kept s
