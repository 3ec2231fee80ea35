-- A turn over the links of an endpoint is a poll of it.
use Rattle.std.proofs.Common.{◌≡◌, ◌≤◌, ℕ, List, refl, ap, subst, Option, None, Some, take, drop}
use Rattle.spx_link.specs.LinkView.{LinkView}
use Rattle.spx_link.specs.Links.{LinksView, link_at}
use Rattle.spx_link.specs.Poll.{OutgoingView, poll_link}
use Rattle.spx_link.specs.declared.outgoing.Sent.{Sent}
use Rattle.spx_messages.specs.Message.{MessageView}
use Rattle.spx_messages.specs.WrittenPackets.{IsWrittenPacket}
use Rattle.spx_messages.specs.Changes.{SameSelf}
use Rattle.spx_messages.specs.EndpointView.{EndpointView, Held, held_at, held_with, rest_in}
use Rattle.spx_messages.specs.Polls.{Polls, RestsAt, home_of}
use Rattle.spx_messages.specs.EndpointTurns.{AllRest, IsPacketBetween, Rests, Turned, address_at}
use Rattle.spx_messages.specs.declared.poll.turn.Given.{Given}
use Rattle.spx_messages.specs.declared.poll.writing.HostAddress.{HostAddress}

-- an endpoint with other links, and this as the result of the last poll
abbrev pub with_links : EndpointView → LinksView → Option (ℕ × Sent) → EndpointView
with_links e links said = record e { links = links; said = said }

abbrev pub place_of : EndpointView → HostAddress
place_of e = record { network = e.network; node = e.node; router = e.router }

-- ---- what an id with a link holds

held_link : (o : Option LinkView) (rest : Option MessageView) (h : Held) → held_with o rest ≡ Some h → (o ≡ Some h.link) × (rest ≡ h.rest)
held_link None rest h is = absurd (cc is)
held_link (Some l) rest h is =
    let same : record { link = l; rest = rest } ≡ h = cc is in
    (ap (λ (x : Held). Some x.link) same, ap (λ (x : Held). x.rest) same)

held_none : (o : Option LinkView) (rest : Option MessageView) → held_with o rest ≡ None → o ≡ None
held_none None rest is = refl
held_none (Some l) rest is = absurd (cc is)

held_some : (links : LinksView) (rest : Option MessageView) (id : ℕ) (l : LinkView) → link_at links id ≡ Some l → held_with (link_at links id) rest ≡ Some (record { link = l; rest = rest })
held_some links rest id l is = ap (λ o. held_with o rest) is

-- ---- one id

rests_at : (e : EndpointView) (links : LinksView) (said : Option (ℕ × Sent)) (now q : ℕ) → ((l : LinkView) → link_at e.links q ≡ Some l → Rests e.links links now q l) → (link_at e.links q ≡ None → link_at links q ≡ None) → RestsAt e (with_links e links said) now q
rests_at e links said now q rests none = record {
  asked = λ h at.
      let x = held_link (link_at e.links q) (rest_in e.parts q) h at in
      let r = rests h.link x.0 in
      let new : held_at (with_links e links said) q ≡ Some (record { link = (poll_link h.link now).1; rest = rest_in e.parts q }) = held_some links (rest_in e.parts q) q (poll_link h.link now).1 r.link in
      (r.nothing, subst (λ rest. held_at (with_links e links said) q ≡ Some (record { link = (poll_link h.link now).1; rest = rest })) x.1 new);
  none = λ at. ap (λ o. held_with o (rest_in e.parts q)) (none (held_none (link_at e.links q) (rest_in e.parts q) at));
}

-- ---- the whole poll

same_self : (e : EndpointView) (links : LinksView) (said : Option (ℕ × Sent)) → SameSelf e (with_links e links said)
same_self e links said = record { network = refl; node = refl; router = refl; buffers = λ s. refl }

pub gives_nothing : (e : EndpointView) (links : LinksView) (now : ℕ) (room written : List ℕ) → AllRest e.links links now → written ≡ room → Polls e now None room written (with_links e links None)
gives_nothing e links now room written all same = record {
  gives = record { each = λ q. rests_at e links None now q (λ l. all.asked q l) (all.none q); said = refl; room' = same };
  self = same_self e links None;
  last = all.last;
  count = all.count;
  heard = refl;
}

is_written : (e : EndpointView) (l : LinkView) (g : OutgoingView) (bytes : List ℕ) → IsPacketBetween (address_at (place_of e) l.local) l.remote g bytes → IsWrittenPacket (home_of e) l g bytes
is_written e l g bytes b = record {
  packet = record { header = record { hops = 0; kind = 5; to = l.remote; from = address_at (place_of e) l.local }; body = b.body };
  is = b.ipx;
  kind = refl;
  hops = refl;
  to = refl;
  from = refl;
  spx = b.spx;
}

pub gives_packet : (e : EndpointView) (links : LinksView) (now : ℕ) (g : Given) (room written : List ℕ) → Turned (place_of e) e.links links now g (take g.count written) → drop g.count written ≡ drop g.count room → g.count ≤ 576 → Polls e now (Some (g.next, g.count)) room written (with_links e links (Some (g.id, g.what)))
unfolding is_written
gives_packet e links now g room written turned behind short =
    let x = turned.gives in
    let said : Option (ℕ × Sent) = Some (g.id, g.what) in
    let rest = rest_in e.parts g.id in
    let held : Held = record { link = x.link; rest = rest } in
    record {
      gives = record {
        id = g.id;
        held = held;
        given = x.given;
        at = held_some e.links rest g.id x.link x.at;
        gives = x.gives;
        becomes = held_some links rest g.id (poll_link x.link now).1 (turned.giver x.link x.at);
        below = λ q low. rests_at e links said now q (λ l. turned.before q l low) (turned.none q);
        above = λ q up. ap (λ o. held_with o (rest_in e.parts q)) (turned.after q up);
        said = ap (λ (what : Sent). Some (g.id, what)) x.what;
        short = short;
        is = is_written e x.link x.given (take g.count written) x.is;
        clear = x.is.clear;
        behind = behind;
        next = x.next;
      };
      self = same_self e links said;
      last = turned.last;
      count = turned.count;
      heard = refl;
    }
