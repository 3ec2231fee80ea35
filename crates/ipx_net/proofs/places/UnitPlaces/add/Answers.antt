use Rattle.std.proofs.Common.{◌≡◌, ◌<◌, ◌++◌, ◌∷◌, [], ℕ, Vec, Global, length, true, sym, ◌∙◌, ap, arith, subst, not, map}
use Rattle.std.specs.Result.{is_ok}
use Rattle.ipx_net.specs.Places.{PlacesView, places_from, list_of}
use Rattle.ipx_net.proofs.Listing.{listed_on}
use Rattle.ipx_net.proofs.places.UnitPlaces.add.Goals as goal

pub returns-else-is_err : goal.returns-else-is_err
returns-else-is_err c = λ sent next before whole e.
    let lists = c.self.inside.lists in
    let listed : (n : ℕ) → list_of (record { lists = map (λ (v : Vec ℕ Global). v.items) lists.items; whole = c.self.inside.whole }) n ≡ places_from 0 n sent =
    subst (λ (p : PlacesView). p.whole ≡ true → (n : ℕ) → list_of p n ≡ places_from 0 n sent) (sym c.self.view_is) before whole in
    let within : c.args.who < length lists.items = omega (arith, c.len.ensures, lists.ok.0) in
    let pushed : is_ok c.push.result ≡ true = c.is_err.ensures.negation ∙ ap not c.if-is_err.false in
    let added : c.push.new.self.items ≡ c.index_mut.result.now.items ++ c.args.place ∷ [] = rw pushed at c.push.ensures.items in
    listed_on (λ (v : Vec ℕ Global). v.items) lists.items c.args.who c.args.place c.index_mut.result.now c.push.new.self sent within c.index_mut.ensures.value added next listed e
