-- An endpoint whose id holds something else, and is otherwise unchanged: what a host has between two calls that
-- it makes at once.
use Rattle.std.proofs.Common.{◌≡◌, ◌≢◌, ◌==◌, ℕ, Bool, true, false, cond, List, [], ◌∷◌, map, Option, Some, None, refl, sym, ◌∙◌, ap}
use Rattle.std.proofs.lemmas.Bool.Decides.{Decides-eqb}
use Rattle.std.proofs.lemmas.List.{length-map}
use Rattle.std.proofs.lemmas.Bool.{ne_eqb}
use Rattle.spx_link.specs.LinkView.{LinkView}
use Rattle.spx_link.specs.Links.{link_at, link_of}
use Rattle.spx_messages.specs.Changes.{ChangesEnd, SameSelf}
use Rattle.spx_messages.specs.EndpointView.{EndpointView, Held, held_at, held_with, rest_in, rest_of, part_in}
use Rattle.spx_messages.specs.Message.{MessageView}
use Rattle.spx_messages.specs.declared.parts.Part.{Part}
use Rattle.theory_processes.proofs.Lists.{same_some}

-- ---- a link is replaced

relinked : ℕ → LinkView → LinkView → LinkView
relinked id y x = cond (x.own == id) y x

own_step : (x y : LinkView) (id : ℕ) (b : Bool) (rest : Option LinkView) → (rest ≡ Some y → y.own ≡ id) → (x.own == id) ≡ b → cond b (Some x) rest ≡ Some y → y.own ≡ id
own_step x y id true rest below test e = ap (λ (l : LinkView). l.own) (sym (same_some x y e)) ∙ (Decides-eqb x.own id).0 test
own_step x y id false rest below test e = below e

own_of : (ls : List LinkView) (id : ℕ) (y : LinkView) → link_of ls id ≡ Some y → y.own ≡ id
own_of [] id y e = cc
own_of (x ∷ ls) id y e = own_step x y id (x.own == id) (link_of ls id) (own_of ls id y) refl e

here_step : (x y l : LinkView) (ls more : List LinkView) (id : ℕ) (b : Bool) → (x.own == id) ≡ b → y.own ≡ id → (link_of ls id ≡ Some l → link_of more id ≡ Some y)
    → cond b (Some x) (link_of ls id) ≡ Some l → link_of (cond b y x ∷ more) id ≡ Some y
here_step x y l ls more id true test own below e = ap (λ c. cond c (Some y) (link_of more id)) ((Decides-eqb y.own id).1 own)
here_step x y l ls more id false test own below e = ap (λ c. cond c (Some x) (link_of more id)) test ∙ below e

link_here : (ls : List LinkView) (id : ℕ) (l y : LinkView) → y.own ≡ id → link_of ls id ≡ Some l → link_of (map (relinked id y) ls) id ≡ Some y
unfolding relinked
link_here [] id l y own e = cc
link_here (x ∷ ls) id l y own e = here_step x y l ls (map (relinked id y) ls) id (x.own == id) refl own (link_here ls id l y own) e

other_step : (x y : LinkView) (ls more : List LinkView) (id q : ℕ) (b : Bool) → (x.own == id) ≡ b → y.own ≡ id → q ≢ id → link_of more q ≡ link_of ls q
    → link_of (cond b y x ∷ more) q ≡ cond (x.own == q) (Some x) (link_of ls q)
other_step x y ls more id q true test own apart below =
    ap (λ c. cond c (Some y) (link_of more q)) (ne_eqb y.own q (λ e. apart (sym e ∙ own))) ∙ below
    ∙ ap (λ c. cond c (Some x) (link_of ls q)) (sym (ne_eqb x.own q (λ e. apart (sym e ∙ (Decides-eqb x.own id).0 test))))
other_step x y ls more id q false test own apart below = ap (λ o. cond (x.own == q) (Some x) o) below

link_others : (ls : List LinkView) (id q : ℕ) (y : LinkView) → y.own ≡ id → q ≢ id → link_of (map (relinked id y) ls) q ≡ link_of ls q
unfolding relinked
link_others [] id q y own apart = refl
link_others (x ∷ ls) id q y own apart = other_step x y ls (map (relinked id y) ls) id q (x.own == id) refl own apart (link_others ls id q y own apart)

-- ---- what an id holds is replaced

linked_with : (o : Option LinkView) (rest : Option MessageView) (h : Held) → held_with o rest ≡ Some h → o ≡ Some h.link
linked_with None rest h is = cc
linked_with (Some l) rest h is = ap (λ (x : Held). Some x.link) (same_some (record { link = l; rest = rest }) h is)

pub own_of_held : (e : EndpointView) (id : ℕ) (h : Held) → held_at e id ≡ Some h → h.link.own ≡ id
own_of_held e id h is = own_of e.links.links id h.link (linked_with (link_at e.links id) (rest_in e.parts id) h is)

pub with_held : EndpointView → ℕ → Held → EndpointView
with_held e id h = record e {
  links = record e.links { links = map (relinked id h.link) e.links.links };
  parts = record { id = id; inbox = h.rest } ∷ e.parts;
}

rest_here : (id : ℕ) (rest : Option MessageView) (parts : List Part) → rest_in (record { id = id; inbox = rest } ∷ parts) id ≡ rest
rest_here id rest parts = ap (λ c. rest_of (cond c (Some (record { id = id; inbox = rest })) (part_in parts id))) ((Decides-eqb id id).1 refl)

rest_others : (id q : ℕ) (rest : Option MessageView) (parts : List Part) → q ≢ id → rest_in (record { id = id; inbox = rest } ∷ parts) q ≡ rest_in parts q
rest_others id q rest parts apart = ap (λ c. rest_of (cond c (Some (record { id = id; inbox = rest })) (part_in parts q))) (ne_eqb id q (λ e. apart (sym e)))

pub makes : (e : EndpointView) (id : ℕ) (h after : Held) → held_at e id ≡ Some h → after.link.own ≡ id → ChangesEnd e (with_held e id after) id after
unfolding with_held
makes e id h after holds own = record {
  held = ap (λ o. held_with o (rest_in (record { id = id; inbox = after.rest } ∷ e.parts) id)) (link_here e.links.links id h.link after.link own (linked_with (link_at e.links id) (rest_in e.parts id) h holds))
      ∙ ap (λ r. held_with (Some after.link) r) (rest_here id after.rest e.parts);
  others = λ q apart. ap (λ o. held_with o (rest_in (record { id = id; inbox = after.rest } ∷ e.parts) q)) (link_others e.links.links id q after.link own apart)
      ∙ ap (λ r. held_with (link_at e.links q) r) (rest_others id q after.rest e.parts apart);
  last = refl;
  count = length-map e.links.links (relinked id after.link);
  self = record { network = refl; node = refl; router = refl; buffers = λ s. refl };
}

-- ---- one change after another, at the same id

same_selves : (e mid new : EndpointView) → SameSelf e mid → SameSelf e new → SameSelf mid new
same_selves e mid new a b = record {
  network = b.network ∙ sym a.network;
  node = b.node ∙ sym a.node;
  router = b.router ∙ sym a.router;
  buffers = λ s. b.buffers s ∙ sym (a.buffers s);
}

-- what changed since the start changed since the first of the two
pub later : (e mid new : EndpointView) (id : ℕ) (first second : Held) → ChangesEnd e mid id first → ChangesEnd e new id second → ChangesEnd mid new id second
later e mid new id first second a b = record {
  held = b.held;
  others = λ q apart. b.others q apart ∙ sym (a.others q apart);
  last = b.last ∙ sym a.last;
  count = b.count ∙ sym a.count;
  self = same_selves e mid new a.self b.self;
}

-- both changes are one
pub both : (e mid new : EndpointView) (id : ℕ) (first second : Held) → ChangesEnd e mid id first → ChangesEnd mid new id second → ChangesEnd e new id second
both e mid new id first second a b = record {
  held = b.held;
  others = λ q apart. b.others q apart ∙ a.others q apart;
  last = b.last ∙ a.last;
  count = b.count ∙ a.count;
  self = record {
    network = b.self.network ∙ a.self.network;
    node = b.self.node ∙ a.self.node;
    router = b.self.router ∙ a.self.router;
    buffers = λ s. b.self.buffers s ∙ a.self.buffers s;
  };
}
