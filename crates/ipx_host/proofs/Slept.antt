-- How long a host waits, and how long its connections need no action.
use Rattle.std.proofs.Common.{◌≡◌, ℕ, ◌+◌, ◌<◌, ◌≤◌, ◌^◌, Bool, List, length, take, get_or, min, Option, Some, inl, inr, sym, ap, subst, arith}
use Rattle.std.proofs.lemmas.Bool.{cases_lt}
use Rattle.std.proofs.lemmas.List.{take_all}
use Rattle.std.proofs.lemmas.List.Elements.{All-more}
use Rattle.std.proofs.lemmas.Option.{slice_get-get_or}
use Rattle.std.specs.Prelude.{All, slice_get}
use Rattle.ipx_sockets.specs.declared.poller.Poller.{Poller}
use Rattle.ipx_sockets.specs.Polling.{WaitsOnce}
use Rattle.ipx_host.specs.Sleeping.{AllStayFor, IsSleep, MayRest, MayWait, JustStaysAt, StaysFor, longest_wait}
use Rattle.ipx_host.specs.declared.sessions.Session.{Session}
use Rattle.ipx_host.specs.declared.paced_host_core.PacedHostCore.{PacedHostCore}

-- what the first so many of these do
pub record StayUpTo (core : PacedHostCore) (items : List Session) (i least : ℕ) : Type 0 where
  pub most : least ≤ 10000
  pub stay : (t : ℕ) → core.moment ≤ t → t < core.moment + least → t < 2 ^ 64
      → All (JustStaysAt core t) (take i items)
  pub over : least < 10000 → (place : ℕ) × (c : Session) × (slice_get items place ≡ Some c)
      × (JustStaysAt core (core.moment + least) c → ⊥)

-- one more
pub up_to_more : (core : PacedHostCore) (items xs : List Session) (i : ℕ) (d : Session) (least stay least' : ℕ) → xs ≡ items → i < length xs
    → StayUpTo core items i least → StaysFor core (get_or xs i d) stay → least' ≡ min least stay → StayUpTo core items (i + 1) least'
up_to_more core items xs i d least stay least' same within all one' e =
    let inside : i < length items = omega (arith, within, ap length same) in
    let one : StaysFor core (get_or items i d) stay = subst (λ (l : List Session). StaysFor core (get_or l i d) stay) same one' in
    record {
      most = omega (arith, all.most, e);
      stay = λ t from to shown. All-more (JustStaysAt core t) items i d inside
          (all.stay t from (omega (arith, to, e)) shown) (one.stays t from (omega (arith, to, e)) shown);
      over = λ less. elim (cases_lt least stay) [
        | inl first ↦
            let is : least ≡ least' = omega (arith, first, e) in
            subst (λ (n : ℕ). (place : ℕ) × (c : Session) × (slice_get items place ≡ Some c) × (JustStaysAt core (core.moment + n) c → ⊥)) is
            (all.over (omega (arith, less, is)))
        | inr last ↦
            let is : stay ≡ least' = omega (arith, last, e) in (
              i,
              get_or items i d,
              slice_get-get_or items i d inside,
              subst (λ (n : ℕ). JustStaysAt core (core.moment + n) (get_or items i d) → ⊥) is (one.over (omega (arith, less, is))),
            )
      ];
    }

-- all of them
pub up_to_all : (core : PacedHostCore) (items : List Session) (i least : ℕ) → length items ≤ i → StayUpTo core items i least → AllStayFor core items least
up_to_all core items i least past all = record {
  most = all.most;
  stay = λ t from to shown. subst (λ (l : List Session). All (JustStaysAt core t) l) (take_all i items past) (all.stay t from to shown);
  over = all.over;
}

-- a wait after a step
pub may_wait : (shows : Bool) (left : Option ℕ) (core core' : PacedHostCore) (old mid new : Poller) (most : ℕ) → most ≡ longest_wait shows left → core' ≡ core → mid ≡ old
    → ((time : ℕ) × IsSleep core most time × WaitsOnce time mid new) → MayWait shows left core' old new
may_wait shows left core core' old mid new most e same still (time, sleep, once) =
    inr (
      time,
      subst (λ (k : PacedHostCore). IsSleep k (longest_wait shows left) time) (sym same)
          (subst (λ m. IsSleep core m time) e sleep),
      subst (λ (p : Poller). WaitsOnce time p new) still once,
    )

-- and a rest
pub may_rest : (core core' : PacedHostCore) (cs : List Session) (old mid new : Poller) (rest : ℕ) → AllStayFor core cs rest → core' ≡ core → mid ≡ old
    → ((time : ℕ) × IsSleep core rest time × WaitsOnce time mid new) → MayRest core' cs old new
may_rest core core' cs old mid new rest stay same still (time, sleep, once) =
    inr (
      rest,
      time,
      subst (λ (k : PacedHostCore). AllStayFor k cs rest) (sym same) stay,
      subst (λ (k : PacedHostCore). IsSleep k rest time) (sym same) sleep,
      subst (λ (p : Poller). WaitsOnce time p new) still once,
    )
