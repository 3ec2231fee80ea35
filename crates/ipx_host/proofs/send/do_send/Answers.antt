use Rattle.std.proofs.Common.{◌≡◌, ◌<◌, ◌≤◌, ◌⊎◌, ℕ, Bool, true, false, List, Option, Result, Ok, Err, inl, inr, refl, arith}
use Rattle.std.specs.Prelude.{IfErr, IfOk}
use Rattle.ipx_carrier.specs.Turns.{Turn}
use Rattle.ipx_config.specs.Host.{IsHostText}
use Rattle.ipx_config.specs.Loading.{IsFileText}
use Rattle.ipx_config.specs.declared.host.HostConfig.{HostConfig}
use Rattle.ipx_wire.specs.declared.address.Address.{Address}
use Rattle.ipx_config.specs.Destinations.{dialed_ip, peer_address_of, is_nowhere}
use Rattle.ipx_host.specs.HostPorts.{IsOpened}
use Rattle.ipx_host.specs.Turning.{DrivesTurn}
use Rattle.ipx_host.specs.Sent.{HasBuffers, SendsInput, SendsWholeInput}
use Rattle.ipx_config.specs.Target.{NamesAddress}
use Rattle.ipx_config.specs.declared.target.Target.{Target}
use Rattle.ipx_host.proofs.send.do_send.Goals as goal

-- arguments that were read name an address
pub returns-clause-words : goal.returns-clause-words
returns-clause-words g c = λ nothing. absurd (nothing c.in-Ok.to c.in-Ok.ensures.named)

-- if the address can be reached from the host, the status is 0 or 1, and otherwise 2
few_from : (X : Type 0) (nowhere : Bool) (r : ℕ) → (nowhere ≡ true → (r ≡ 2) × X) → (nowhere ≡ false → r < 2) → r ≤ 2
few_from X true r told few = omega (arith, (told refl).0)
few_from X false r told few = omega (arith, few refl)

-- the status of a file that can't be loaded is 1 or 2
few_of : {T : Type 0} (X : Type 0) (is_nowhere : T → Bool) (loaded : Result T ℕ) (r : ℕ) → IfErr loaded (λ s. (s ≡ 1) ⊎ (s ≡ 2))
    → IfOk loaded (λ h. is_nowhere h ≡ true → (r ≡ 2) × X) → IfOk loaded (λ h. is_nowhere h ≡ false → r < 2) → IfErr loaded (λ s. (r ≡ s) × X) → r ≤ 2
few_of X is_nowhere (Ok h) r fault told few unloaded = few_from X (is_nowhere h) r told few
few_of X is_nowhere (Err s) r (inl e) told few unloaded = omega (arith, unloaded.0, e)
few_of X is_nowhere (Err s) r (inr e) told few unloaded = omega (arith, unloaded.0, e)

-- at status 2 nothing was done by a host
untouched_from : (X : Type 0) (nowhere : Bool) (r : ℕ) → (nowhere ≡ true → (r ≡ 2) × X) → (nowhere ≡ false → r < 2) → r ≡ 2 → X
untouched_from X true r told few two = (told refl).1
untouched_from X false r told few two = absurd (omega (arith, few refl, two))

-- nor if none was loaded
untouched_of : {T : Type 0} (X : Type 0) (is_nowhere : T → Bool) (loaded : Result T ℕ) (r : ℕ)
    → IfOk loaded (λ h. is_nowhere h ≡ true → (r ≡ 2) × X) → IfOk loaded (λ h. is_nowhere h ≡ false → r < 2) → IfErr loaded (λ s. (r ≡ s) × X) → r ≡ 2 → X
untouched_of X is_nowhere (Ok h) r told few unloaded two = untouched_from X (is_nowhere h) r told few two
untouched_of X is_nowhere (Err s) r told few unloaded two = unloaded.1

-- a file has 1 to 8,192 buffers, or says nothing of them
buffers_of : (text : List ℕ) (h : HostConfig) → IsHostText text h → HasBuffers h
buffers_of text h is = elim is.2.buffers [
  | inl p ↦ (omega (arith, p.1), omega (arith, p.1))
  | inr p ↦ (omega (arith, p.2.1), p.2.2)
]

-- what was sent, and by which file
sent_of : {K : Type 0} (X : Type 0) (t : Target) (to : Address) (known left : Option (List ℕ)) (drives : K → Turn → K → Type 0) (P : HostConfig → Address → K → Type 0) (loaded : Result HostConfig ℕ) (r : ℕ)
    → IfErr loaded (λ s. (s ≡ 1) ⊎ (s ≡ 2)) → IfErr loaded (λ s. (r ≡ s) × X) → IfOk loaded (λ h. (text : List ℕ) × IsFileText text × IsHostText text h) → NamesAddress t to
    → IfOk loaded (λ h. r ≡ 0 → (w : SendsInput h (peer_address_of h to) known left drives) × P h to w.start.around) → r ≡ 0
    → (text : List ℕ) × (file : HostConfig) × (a : Address) × IsFileText text × IsHostText text file × NamesAddress t a × (w : SendsWholeInput file (peer_address_of file a) known left drives) × P file a w.sends.start.around
sent_of X t to known left drives P (Ok h) r fault unloaded host named sent zero =
    let it = sent zero in
    (host.0, h, to, host.1, host.2, named, record { buffers = buffers_of host.0 h host.2; sends = it.0 }, it.1)
sent_of X t to known left drives P (Err s) r (inl e) unloaded host named sent zero = absurd (omega (arith, unloaded.0, e, zero))
sent_of X t to known left drives P (Err s) r (inr e) unloaded host named sent zero = absurd (omega (arith, unloaded.0, e, zero))

pub returns-clause-few : goal.returns-clause-few
returns-clause-few g c =
    few_of (c.send_loaded.new.reader ≡ c.args.reader.now) (λ h. is_nowhere h (peer_address_of h c.in-Ok.to)) c.load_host-loaded.result c.send_loaded.result
    c.load_host-loaded.ensures.fault c.send_loaded.ensures.nowhere c.send_loaded.ensures.status c.send_loaded.ensures.unloaded

pub returns-clause-sent : goal.returns-clause-sent
returns-clause-sent g c =
    sent_of (c.send_loaded.new.reader ≡ c.args.reader.now) c.args.target c.in-Ok.to (g.I.Read.remaining c.args.reader.now) (g.I.Read.remaining c.send_loaded.new.reader) DrivesTurn (λ file to k. IsOpened file (dialed_ip file (peer_address_of file to)) k.port) c.load_host-loaded.result c.send_loaded.result
    c.load_host-loaded.ensures.fault c.send_loaded.ensures.unloaded c.load_host-loaded.ensures.host c.in-Ok.ensures.named c.send_loaded.ensures.sent

pub returns-clause-all : goal.returns-clause-all
returns-clause-all g c = λ zero.
    let sent = sent_of (c.send_loaded.new.reader ≡ c.args.reader.now) c.args.target c.in-Ok.to (g.I.Read.remaining c.args.reader.now) (g.I.Read.remaining c.send_loaded.new.reader) DrivesTurn (λ file to k. IsOpened file (dialed_ip file (peer_address_of file to)) k.port) c.load_host-loaded.result c.send_loaded.result
    c.load_host-loaded.ensures.fault c.send_loaded.ensures.unloaded c.load_host-loaded.ensures.host c.in-Ok.ensures.named c.send_loaded.ensures.sent zero in
    sent.6.sends.all

pub returns-clause-untouched : goal.returns-clause-untouched
returns-clause-untouched g c =
    untouched_of (c.send_loaded.new.reader ≡ c.args.reader.now) (λ h. is_nowhere h (peer_address_of h c.in-Ok.to)) c.load_host-loaded.result c.send_loaded.result
    c.send_loaded.ensures.nowhere c.send_loaded.ensures.status c.send_loaded.ensures.unloaded
