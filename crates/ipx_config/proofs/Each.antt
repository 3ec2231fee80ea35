-- the items of a list that are left to read, each with what it means
use Rattle.std.proofs.Common.{◌≡◌, ℕ, suc, ◌+◌, ◌<◌, List, [], ◌∷◌, length, drop, refl, sym, ap, ◌∙◌, subst}
use Rattle.std.specs.Prelude.{get_or}
use Rattle.toml.specs.Data.{Data, Items, item}
use Rattle.toml.specs.View.{items_view, view}
use Rattle.toml.specs.declared.value.Value.{Value}
use Rattle.toml.proofs.Views.{items_view-drop}
use Rattle.ipx_config.specs.Values.{AreEach}

-- the first item that is left, and those after it
pub item_left : (vs : List Value) (i : ℕ) (v : Value) → v ≡ get_or vs i v → i < length vs
    → items_view (drop i vs) ≡ item (view v) (items_view (drop (i + 1) vs))
item_left vs i v is there =
    let P : Value → Type 0 = λ w. items_view (drop i vs) ≡ item (view w) (items_view (drop (i + 1) vs)) in
    subst P (sym is) (items_view-drop vs i v there)

-- if one item gives nothing, neither does the whole
pub none_there : {A : Type 0} (Means : Data → A → Type 0) (ds : Items) (d : Data) (left : Items) → ds ≡ item d left
    → ((a : A) → Means d a → ⊥) → (all : List A) → AreEach Means ds all → ⊥
none_there Means ds d left is wrong all are =
    let (a, rest, both, means, more) = rw is at are in wrong a means

-- what it means, and those after it
pub one_more : {A : Type 0} (Means : Data → A → Type 0) (ds : Items) (d : Data) (left : Items) → ds ≡ item d left
    → (a : A) → Means d a → (rest : List A) → AreEach Means left rest → AreEach Means ds (a ∷ rest)
one_more Means ds d left is a means rest are = rw is (a, rest, refl, means, are)

pub one_less : {A : Type 0} (Means : Data → A → Type 0) (ds : Items) (d : Data) (left : Items) → ds ≡ item d left
    → (all : List A) → AreEach Means ds all → (rest : List A) × AreEach Means left rest
one_less Means ds d left is all are =
    let (a, rest, both, means, more) = rw is at are in (rest, more)

-- there are as many as values
pub as_many : {A : Type 0} (Means : Data → A → Type 0) (vs : List Value) (all : List A)
    → AreEach Means (items_view vs) all → length all ≡ length vs
as_many Means [] all are = ap length are
as_many Means (v ∷ vs) all are = ap length are.2 ∙ ap suc (as_many Means vs are.1 are.4)
