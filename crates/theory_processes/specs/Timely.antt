-- A course of calls by one clock. What a connection reads was sent by some host at most a second before, and no host
-- sends too many units within a second. So what is read is recent, and nothing but this is assumed of moments. The
-- entry points are `TimelyCourse` and `TimelyCoursesAreFresh`.
use Rattle.std.specs.Prelude.{ℕ, ◌≡◌, ◌<◌, ◌≤◌, ◌+◌, ◌==◌, ◌&&◌, Bool, true, false, List, [], ◌∷◌, ◌++◌, map, Option, None, Some, is_some, nat_le, slice_get, if◌then◌else◌}
use Rattle.ipx_wire.specs.declared.address.Network.{Network}
use Rattle.spx_link.specs.declared.outgoing.Sent.{Sent}
use Rattle.spx_link.specs.declared.outgoing.Sent.TheVariants as Sents
use Rattle.spx_messages.specs.EndpointView.{EndpointView}
use Rattle.spx_messages.specs.declared.arrived.Arrived.{Arrived}
use Rattle.spx_messages.specs.declared.arrived.Arrived.TheVariants as Arriveds
use Rattle.spx_theory.specs.Deeds.{Reached}
use Rattle.spx_theory.specs.PacketsOnWay.{IsOneOn}
use Rattle.spx_theory.specs.Peers.{IsFresh}
use Rattle.spx_theory.specs.Scene.{Scene}
use Rattle.theory_processes.specs.Course.{AtHost, AtRouter, Call, Course, DoesCall, IsNewSite, on_network}
use Rattle.theory_processes.specs.HostCalls.{ByACore, FromOutside, Gives, Hears, HostCall, Source}
use Rattle.theory_processes.specs.Processes.{AreTransfers, IdsDiffer}
use Rattle.theory_processes.specs.Shows.{Shows}
use Rattle.theory_processes.specs.Site.{Datagram, Site}

-- a call, and when it is made, in milliseconds of one clock for all
pub record TimedCall : Type 0 where
  pub at : ℕ
  pub call : Call

abbrev pub untimed : List TimedCall → List Call
untimed calls = map (λ (t : TimedCall). t.call) calls

-- a host gave a unit for the first time
pub record NewUnit : Type 0 where
  pub host : ℕ
  pub at : ℕ

-- a site by the clock: when the last call was made, when each datagram was given that hosts sent, and each new unit
pub record TimedSite : Type 0 where
  pub site : Site
  pub now : ℕ
  pub sent_at : List ℕ
  pub units : List NewUnit

-- the longest life of a datagram, in milliseconds, and the units that fit into half of the numbers of 16 bits
abbrev pub longest_life : ℕ
longest_life = 1000

abbrev pub half_of_numbers : ℕ
half_of_numbers = 32768

-- ---- what a call gives

-- when a host gave a datagram, if it did
abbrev pub given_at : ℕ → HostCall → List ℕ
given_at at (Gives now (Some given)) = at ∷ []
given_at at call = []

abbrev pub sent_moments : ℕ → Call → List ℕ
sent_moments at (AtHost host call) = given_at at call
sent_moments at (AtRouter router call) = []

-- a unit goes for the first time. One that is sent again is not counted
abbrev pub is_new_unit : Sent → Bool
is_new_unit Sents.Request = false
is_new_unit Sents.Reply = false
is_new_unit Sents.Confirm = false
is_new_unit Sents.Unit = true
is_new_unit Sents.Again = false
is_new_unit Sents.Ack = false
is_new_unit Sents.Probe = false

-- the new unit of a host that was polled, by what its endpoint then says that it gave
abbrev pub unit_said : ℕ → ℕ → Option (ℕ × Sent) → List NewUnit
unit_said host at None = []
unit_said host at (Some said) =
    if is_new_unit said.1 then record { host = host; at = at } ∷ [] else []

abbrev pub unit_of_host : ℕ → ℕ → Option EndpointView → List NewUnit
unit_of_host host at None = []
unit_of_host host at (Some e) = unit_said host at e.said

abbrev pub unit_given : ℕ → ℕ → HostCall → List EndpointView → List NewUnit
unit_given host at (Gives now given) hosts = unit_of_host host at (slice_get hosts host)
unit_given host at call hosts = []

abbrev pub new_units : ℕ → Call → List EndpointView → List NewUnit
new_units at (AtHost host call) hosts = unit_given host at call hosts
new_units at (AtRouter router call) hosts = []

-- ---- what a connection reads

-- a datagram that is this one, or what routers made of it: each adds a hop, and sends it on some network
pub data IsPassedOn (first : Datagram) : Datagram → Type 0 where
  itself : IsPassedOn first first
  further : (d : Datagram) (network : Network) (bytes : List ℕ) → IsPassedOn first d
      → IsOneOn d.network d.bytes bytes → IsPassedOn first (on_network network bytes)

-- some host sent this datagram, up to what routers made of it, and that was at most a second ago
pub record WasJustSent (s : TimedSite) (at : ℕ) (d : Datagram) : Type 0 where
  pub place : ℕ
  pub first : Datagram
  pub since : ℕ
  pub sent : slice_get s.site.sent place ≡ Some first
  pub sent_then : slice_get s.sent_at place ≡ Some since
  pub soon : at ≤ since + longest_life
  pub passed : IsPassedOn first d

abbrev pub ComesSoon : Source → TimedSite → ℕ → Datagram → Type 0
ComesSoon ByACore s at d = WasJustSent s at d
ComesSoon FromOutside s at d = Unit {0}

-- an answer of an endpoint, which then is this: a connection read the datagram, or was made for it. A request that
-- comes again is answered, and not read
abbrev pub is_read : Arrived → EndpointView → Bool
is_read (Arriveds.Accepted id) after = true
is_read (Arriveds.Link id r) after = is_some after.heard
is_read answer after = false

abbrev pub HostReadsSoon : HostCall → (before after : EndpointView) → TimedSite → ℕ → Type 0
HostReadsSoon (Hears source bytes now answer) before after s at =
    is_read answer after ≡ true → ComesSoon source s at (on_network before.network bytes)
HostReadsSoon call before after s at = Unit {0}

-- routers are free: their time is a part of a datagram's way. So is what no connection reads
abbrev pub ReadsSoon : (call : Call) (old : TimedSite) (new : Site) → DoesCall call old.site new → ℕ → Type 0
ReadsSoon (AtHost host call) old new does at = HostReadsSoon call does.before does.after old at
ReadsSoon (AtRouter router call) old new does at = Unit {0}

-- ---- a course by the clock

-- a call that comes no earlier than the one before, and nothing that a connection reads is older than a second
pub record DoesInTime (t : TimedCall) (old new : TimedSite) : Type 0 where
  pub does : DoesCall t.call old.site new.site
  pub order : old.now ≤ t.at
  pub now : new.now ≡ t.at
  pub soon : ReadsSoon t.call old new.site does t.at
  pub sent_at : new.sent_at ≡ old.sent_at ++ sent_moments t.at t.call
  pub units : new.units ≡ old.units ++ new_units t.at t.call new.site.hosts

abbrev pub TimelyCourse : List TimedCall → TimedSite → TimedSite → Type 0
TimelyCourse [] old new = new ≡ old
TimelyCourse (t ∷ calls) old new = (mid : TimedSite) × DoesInTime t old mid × TimelyCourse calls mid new

pub record IsNewTimed (s : TimedSite) : Type 0 where
  pub site : IsNewSite s.site
  pub sent_at : s.sent_at ≡ []
  pub units : s.units ≡ []

-- a unit of this host is given in the 1,000 ms from this moment on, both ends counted
abbrev pub is_unit_within : ℕ → ℕ → NewUnit → Bool
is_unit_within host from u = (u.host == host) && (nat_le from u.at && nat_le u.at (from + longest_life))

abbrev pub units_within : ℕ → ℕ → List NewUnit → ℕ
units_within host from [] = 0
units_within host from (u ∷ us) = (if is_unit_within host from u then 1 else 0) + units_within host from us

-- within no 1,000 ms a host gives as many new units as half of the numbers of 16 bits
abbrev pub AreSpaced : TimedSite → Type 0
AreSpaced s = (host from : ℕ) → units_within host from s.units < half_of_numbers

-- ---- what follows

-- a scene that shows the hosts, and in which what is read is recent
pub record HasFreshScene (site : Site) : Type 0 where
  pub scene : Scene
  pub reached : Reached scene
  pub shows : Shows scene site
  pub fresh : IsFresh scene.log

-- without the moments it is a course, and if nothing comes from outside, there is such a scene
abbrev pub TimelyCoursesAreFresh : Type 0
TimelyCoursesAreFresh = (start last : TimedSite) (calls : List TimedCall) → IsNewTimed start
    → TimelyCourse calls start last → AreSpaced last → last.site.outside ≡ []
    → Course (untimed calls) start.site last.site × HasFreshScene last.site

-- so the headline and the close hold if no id is given twice at one network and node
pub record HandsOnInTime (site : Site) : Type 0 where
  pub scene : Scene
  pub reached : Reached scene
  pub shows : Shows scene site
  pub transfers : AreTransfers scene site

abbrev pub TimelyCoursesHandOn : Type 0
TimelyCoursesHandOn = (start last : TimedSite) (calls : List TimedCall) → IsNewTimed start
    → TimelyCourse calls start last → AreSpaced last → last.site.outside ≡ [] → IdsDiffer last.site
    → HandsOnInTime last.site
