-- When one of several things is to be done.
use Rattle.std.proofs.Common.{◌≡◌, ◌⊎◌, ◌↔◌, ◌<◌, ◌≤◌, ◌+◌, ◌^◌, ◌∙◌, ℕ, Bool, true, Option, Some, None, inl, inr, refl, sym, subst}
use Rattle.std.proofs.lemmas.Bool.{le-leb, leb-true}
use Rattle.ipx_router.specs.Advertisements.{IsNextAdvertisement, is_due}
use Rattle.ipxnet_server.specs.Pings.{IsNextPing}
use Rattle.ipx_sockets.specs.Moments.{IsTimeUntilDue, IsReached}

forth : {A B C D : Type 0} → (A → C) → (B → D) → A ⊎ B → C ⊎ D
forth f g (inl a) = inl (f a)
forth f g (inr b) = inr (g b)

pub both : {A B C D E : Type 0} → (E ↔ (A ⊎ B)) → (A ↔ C) → (B ↔ D) → E ↔ (C ⊎ D)
both e f g = (λ h. forth f.0 g.0 (e.0 h), λ h. e.1 (forth f.1 g.1 h))

pub then : {A B C : Type 0} → (A ↔ B) → (B ↔ C) → A ↔ C
then f g = (λ a. g.0 (f.0 a), λ c. f.1 (g.1 c))

on : {A B C : Type 0} → (A ⊎ B) ⊎ C → A ⊎ (B ⊎ C)
on (inl (inl a)) = inl a
on (inl (inr b)) = inr (inl b)
on (inr c) = inr (inr c)

off : {A B C : Type 0} → A ⊎ (B ⊎ C) → (A ⊎ B) ⊎ C
off (inl a) = inl (inl a)
off (inr (inl b)) = inl (inr b)
off (inr (inr c)) = inr c

-- of three, whichever two come first
pub regrouped : {A B C : Type 0} → ((A ⊎ B) ⊎ C) ↔ (A ⊎ (B ⊎ C))
regrouped = (on, off)

pub same : {A : Type 0} → A ↔ A
same = (λ a. a, λ a. a)

-- the same on both sides of a sum
pub beside : {A B C D : Type 0} → (A ↔ C) → (B ↔ D) → (A ⊎ B) ↔ (C ⊎ D)
beside f g = (forth f.0 g.0, forth f.1 g.1)

-- an optional time is reached exactly if it is there and has passed
pub reached : (o : Option ℕ) (t : ℕ) → IsReached o t ↔ ((moment : ℕ) × (o ≡ Some moment) × (moment ≤ t))
reached None t = (λ h. absurd h, λ (m, e, h). absurd (cc))
reached (Some n) t = (λ h. (n, refl, h), λ (m, e, h). subst (λ o. IsReached o t) (sym e) h)

-- it is time to advertise exactly if the time of the next advertisement is reached
pub telling : (last o : Option ℕ) (t : ℕ) → IsNextAdvertisement last o → t < 2 ^ 64 → IsReached o t ↔ (is_due last t ≡ true)
telling last None t h less = (λ k. absurd k, λ e. absurd (cc (sym e ∙ h t less)))
telling last (Some m) t h less = (λ k. h t ∙ le-leb m t k, λ e. leb-true m t (sym (h t) ∙ e))

-- it is time to ping exactly if the time of the next pings is reached
pub pinging : (pings : ℕ → Bool) (o : Option ℕ) (t : ℕ) → IsNextPing pings o → t < 2 ^ 64 → IsReached o t ↔ (pings t ≡ true)
pinging pings None t h less = (λ k. absurd k, λ e. absurd (cc (sym e ∙ h t less)))
pinging pings (Some m) t h less = (λ k. h t less ∙ le-leb m t k, λ e. leb-true m t (sym (h t less) ∙ e))

-- the time with nothing to do is the same for two conditions that agree at each time that a clock can show
pub as_long : (P Q : ℕ → Type 0) (now time : ℕ) → ((t : ℕ) → t < 2 ^ 64 → P t ↔ Q t) → IsTimeUntilDue P now time → IsTimeUntilDue Q now time
as_long P Q now time e l = record {
  most = l.most;
  nothing = λ t a b h q. l.nothing t a b h ((e t h).1 q);
  something = λ h. let s = l.something h in (s.0, (e (now + time) s.0).0 s.1);
}
