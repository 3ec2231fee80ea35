-- Static entries: how the remaining items join the entries read so far, and the ports of the entries.
use Rattle.std.proofs.Common.{All, ◌≡◌, ℕ, ◌+◌, ◌≤◌, List, [], ◌∷◌, ◌++◌, length, Some, None, inl, inr, refl, arith, sym, subst}
use Rattle.std.specs.Prelude.{zero, suc, slice_get}
use Rattle.std.proofs.lemmas.List.Elements.{All-append, All-cons, All-nil}
use Rattle.toml.specs.Data.{Data, Items, Members, no_items, item}
use Rattle.ipx_router.specs.Ports.{IsPortNumber}
use Rattle.ipx_config.specs.declared.fault.ConfigError.{ConfigError}
use Rattle.ipx_config.specs.declared.statics.StaticEntry.{StaticEntry}
use Rattle.ipx_config.specs.declared.statics.StaticKind.{StaticKind}
use Rattle.ipx_config.specs.declared.statics.StaticKind.TheVariants as Of
use Rattle.ipx_config.specs.declared.static_fields.NextHop.{NextHop}
use Rattle.ipx_config.specs.declared.site.PortConfig.{PortConfig}
use Rattle.ipx_config.specs.StaticFields.{IsNear, numbered_port}
use Rattle.ipx_config.specs.StaticLists.{AreStatics, AreEntriesOf, AreStaticEntries, IsAgain, IsEntryItem, IsEntryItemFault, IsFirstEntryFault, again_place, entry_number}
use Rattle.ipx_config.specs.StaticTables.{IsEntryTable}

module _ (kind : StaticKind) (ports : List PortConfig) where
  -- The first of the remaining items is at fault. The entries so far are those before it.
  pub entry_fault : (earlier : List StaticEntry) (number : ℕ) → number ≡ entry_number kind earlier
      → (ds : Items) (d : Data) (left : Items) → ds ≡ item d left
      → (f : ConfigError) → IsEntryItemFault kind ports number d f → IsFirstEntryFault kind ports earlier ds f
  entry_fault earlier number counted ds d left is f fault =
      rw is (inl (subst (λ (n : ℕ). IsEntryItemFault kind ports n d f) counted fault))

  pub again_fault : (earlier seen : List StaticEntry) → seen ≡ earlier → (ds : Items) (d : Data) (left : Items)
      → ds ≡ item d left → (e : StaticEntry) → IsEntryItem kind ports d e → (f : ConfigError) → IsAgain kind seen e f
      → IsFirstEntryFault kind ports earlier ds f
  again_fault earlier seen same ds d left is e entry f again =
      rw is (inr (e, entry, inl (subst (λ (l : List StaticEntry). IsAgain kind l e f) same again)))

  -- or one after it is
  pub later_entry_fault : (earlier seen new : List StaticEntry) → seen ≡ earlier → (e : StaticEntry) → new ≡ earlier ++ e ∷ []
      → (ds : Items) (d : Data) (left : Items) → ds ≡ item d left → IsEntryItem kind ports d e
      → again_place seen e ≡ None → (f : ConfigError) → IsFirstEntryFault kind ports new left f
      → IsFirstEntryFault kind ports earlier ds f
  later_entry_fault earlier seen new same e more ds d left is entry alone f fault =
      let behind = subst (λ (l : List StaticEntry). IsFirstEntryFault kind ports l left f) more fault in
      let first = subst (λ (l : List StaticEntry). again_place l e ≡ None) same alone in
      rw is (inr (e, entry, inr (first, behind)))

  -- an entry, and those after it
  pub one_more_entry : (earlier seen new : List StaticEntry) → seen ≡ earlier → (e : StaticEntry) → new ≡ earlier ++ e ∷ []
      → (ds : Items) (d : Data) (left : Items) → ds ≡ item d left → IsEntryItem kind ports d e
      → again_place seen e ≡ None → (rest : List StaticEntry) → AreStaticEntries kind ports new left rest
      → AreStaticEntries kind ports earlier ds (e ∷ rest)
  one_more_entry earlier seen new same e more ds d left is entry alone rest are =
      let behind = subst (λ (l : List StaticEntry). AreStaticEntries kind ports l left rest) more are in
      let first = subst (λ (l : List StaticEntry). again_place l e ≡ None) same alone in
      rw is (e, rest, refl, entry, first, behind)

-- ---- the ports of the entries

abbrev pub IsHeardAt : List PortConfig → StaticEntry → Type 0
IsHeardAt ports e = IsPortNumber (length ports) e.by.port

-- a port with a number exists
got : {X : Type 0} (xs : List X) (i : ℕ) (x : X) → slice_get xs i ≡ Some x → i + 1 ≤ length xs
got [] i x is = absurd (cc)
got (y ∷ ys) zero x is = omega arith
got (y ∷ ys) (suc i) x is = let ih = got ys i x is in omega arith

numbered : (ports : List PortConfig) (n : ℕ) (p : PortConfig) → numbered_port ports n ≡ Some p → IsPortNumber (length ports) n
numbered ports zero p is = absurd (cc)
numbered ports (suc i) p is = let there = got ports i p is in (omega arith, omega arith)

near_there : (ports : List PortConfig) (ms : Members) (near : NextHop) → IsNear ports ms near → IsPortNumber (length ports) near.by.port
near_there ports ms near (holds, (p, there, node, cost)) = numbered ports near.by.port p there

entry_there : (kind : StaticKind) (ports : List PortConfig) (ms : Members) (e : StaticEntry) → IsEntryTable kind ports ms e → IsHeardAt ports e
entry_there Of.Route ports ms e table =
    let (near, route, is_near, path, is) = table.says in
    subst (IsHeardAt ports) (sym is) (near_there ports ms near is_near)
entry_there Of.Service ports ms e table =
    let (near, service, is_near, offered, is) = table.says in
    subst (IsHeardAt ports) (sym is) (near_there ports ms near is_near)

each_there : (kind : StaticKind) (ports : List PortConfig) (earlier : List StaticEntry) (ds : Items) (es : List StaticEntry)
    → AreStaticEntries kind ports earlier ds es → All (IsHeardAt ports) es
each_there kind ports earlier no_items es h = subst (All (IsHeardAt ports)) (sym h) (All-nil (IsHeardAt ports))
each_there kind ports earlier (item d ds) es h =
    let (ms, is, table) = h.3 in
    subst (All (IsHeardAt ports)) (sym h.2)
    (All-cons (IsHeardAt ports) h.0 h.1 (entry_there kind ports ms h.0 table) (each_there kind ports (earlier ++ h.0 ∷ []) ds h.1 h.5))

of_kind_there : (kind : StaticKind) (ports : List PortConfig) (ms : Members) (es : List StaticEntry)
    → AreEntriesOf kind ports ms es → All (IsHeardAt ports) es
of_kind_there kind ports ms es (inl none) = subst (All (IsHeardAt ports)) (sym none.1) (All-nil (IsHeardAt ports))
of_kind_there kind ports ms es (inr some) = each_there kind ports [] some.0 es some.2

pub statics_there : (ports : List PortConfig) (ms : Members) (es : List StaticEntry) → AreStatics ports ms es → All (IsHeardAt ports) es
statics_there ports ms es (routes, services, is, of_routes, of_services) =
    subst (All (IsHeardAt ports)) (sym is)
    (All-append (IsHeardAt ports) routes services (of_kind_there Of.Route ports ms routes of_routes) (of_kind_there Of.Service ports ms services of_services))
