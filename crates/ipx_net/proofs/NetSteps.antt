-- What an event does to a network is a step of its world.
use Rattle.std.proofs.Common.{ℕ, ◌≡◌, List, Ok, Err, inl, inr, refl, sym, subst}
use Rattle.ipx_router.specs.OutcomeView as Outcomes
use Rattle.ipx_router.specs.OutcomeView.{OutcomeView}
use Rattle.ipx_router.specs.declared.port.Port.{Port}
use Rattle.spx_messages.specs.declared.fault.EndFault.{EndFault}
use Rattle.spx_theory.specs.WorldStep.{WorldStep, Delivered, Polled, Taken, Dialled, Sent, Closed, Released, Paced, AskedAgain, Refused, Injected, Ticked, Told, Carried}
use Rattle.spx_theory.specs.World.{World}
use Rattle.spx_messages.specs.Taking.{overlong}
use Rattle.spx_messages.specs.Message.{message_view}
use Rattle.ipx_net.specs.AnswerView.{AnswerView}
use Rattle.ipx_net.specs.HostEvents.{RefusedOf}
use Rattle.ipx_net.specs.NetEvents.{Happens}
use Rattle.ipx_net.specs.NetView.{NetNow}
use Rattle.ipx_net.specs.RouterEvents.{RouterDoes}
use Rattle.ipx_net.specs.RouterMembers.{letters_of, network_of, port_at}
use Rattle.ipx_net.specs.declared.event.Event.{Event}
use Rattle.ipx_net.specs.declared.event.Event.TheVariants as Events
use Rattle.ipx_net.specs.declared.event.Member.TheVariants as Members
use Rattle.ipx_net.specs.declared.place.Place.TheVariants as Places

no_change : (old : World) → WorldStep old old
no_change old = Ticked old.moment (record { hosts = refl; ends = refl; parcels = refl; log = refl; moment = refl })

same_world : (old new : World) → new ≡ old → WorldStep old new
same_world old new same = subst (WorldStep old) (sym same) (no_change old)

refusal : (who : ℕ) (f : EndFault) (a : AnswerView) (old new : World) → RefusedOf who f a old new → WorldStep old new
refusal who f a old new r = Refused _ r.2.1

router_does : (parcel router port : ℕ) (ports : List Port) (outcome : OutcomeView) (a : AnswerView) (old new : World) → RouterDoes parcel router ports outcome a old new → WorldStep old new
router_does parcel router port ports (Outcomes.Forward at next bytes) a old new d = Carried parcel router at (network_of (port_at ports at)) next bytes d.1
router_does parcel router port ports (Outcomes.Replies sent) a old new d = Told router (letters_of router ports sent) d.1
router_does parcel router port ports (Outcomes.Heard n) a old new d = same_world old new d.1
router_does parcel router port ports (Outcomes.Dropped reason) a old new d = same_world old new d.1

pub happens_step : (e : Event) (a : AnswerView) (o n : NetNow) → Happens e a o n → WorldStep o.world n.world
happens_step (Events.Dial host socket to buffers) a o n h = elim h.0 [ inl d ↦ Dialled host socket to buffers d.2 d.3 | inr r ↦ Refused host r.2.1 ]
happens_step (Events.Send who message) a o n h = elim h.0 [ inl d ↦ Sent who (message_view message) d.2 | inr r ↦ refusal who r.0 a o.world n.world r.2 ]
happens_step (Events.Take who) a o n h = elim h.0 [
  | inl t ↦ Taken who (Ok t.0) t.2
  | inr more ↦ elim more [ inl l ↦ Taken who (Err overlong) l.1 | inr r ↦ refusal who _ a o.world n.world r.1 ]
]
happens_step (Events.Close who) a o n h = elim h.0 [ inl d ↦ Closed who d.2 | inr r ↦ refusal who r.0 a o.world n.world r.2 ]
happens_step (Events.Pace who window manual) a o n h = Paced who window manual h.0.1
happens_step (Events.Again who place) a o n h = AskedAgain who place h.0.1
happens_step (Events.Release who) a o n h = Released who h.0.1
happens_step (Events.Tick now) a o n h = Ticked now h.0.1
happens_step (Events.Poll (Members.Host host)) a o n h = Polled host h.0.0 h.0.1
happens_step (Events.Poll (Members.Router router)) a o n h = Told router _ h.tells
happens_step (Events.Deliver parcel (Places.Host host)) a o n h = Delivered parcel host h.0.0 h.0.1
happens_step (Events.Deliver parcel (Places.Port router port)) a o n h = router_does parcel router port h.before.router.ports h.outcome a o.world n.world h.does
happens_step (Events.Inject segment next bytes) a o n h = Injected segment next bytes.items h.0.1
