-- A poll of a host has one outcome.
use Rattle.std.proofs.Common.{ℕ, ◌≡◌, ◌<◌, ◌≤◌, ◌+◌, ◌-◌, inl, inr, List, [], ◌∷◌, ◌++◌, length, take, drop, get_or, Option, Some, None, refl, sym, ◌∙◌, ap, arith, subst}
use Rattle.std.proofs.lemmas.Bool.{cases_lt}
use Rattle.std.proofs.lemmas.List.{drop_at, get_or-append_right, get_or-drop, get_or-take, get_or_append_left, length-append, length-drop, length-take-le, take_at}
use Rattle.ipx_wire.specs.Assigned.{spx_max_packet_size}
use Rattle.ipx_wire.specs.Ipx.{IsBytes}
use Rattle.ipx_wire.specs.Spx.{HasFreeBitsClear}
use Rattle.ipx_wire.specs.declared.address.Node.{Node}
use Rattle.spx_messages.specs.WrittenPackets.{IsWrittenPacket}
use Rattle.spx_messages.specs.EndpointView.{EndpointView}
use Rattle.spx_messages.specs.OneValue.{IsOnePoll, IsBufferStill, IsSamePoll}
use Rattle.spx_messages.specs.Polls.{FirstLinkGives, Polls, home_of}
use Rattle.spx_theory.specs.HostSteps.{sending_notes, sent_letters}
use Rattle.spx_theory.specs.World.{AtHost, HostState, ParcelView, World, end_at}
use Rattle.ipx_net.specs.AnswerView.{AnswerView, Parcels}
use Rattle.ipx_net.specs.HostEvents.{PollingHost, made_by}
use Rattle.ipx_net.specs.OneOutcome.{AreAlike}
use Rattle.ipx_net.proofs.OneOutcome.{AreSameWorlds, count_both, hosts_both, same_read}

front_is_bytes : (n : ℕ) (a b : List ℕ) → n ≤ length a → IsBytes a → IsBytes b → IsBytes (take n a ++ drop n b)
front_is_bytes n a b fits in_a in_b i =
    elim (cases_lt i n) [
      | inl within ↦
          let at : get_or (take n a ++ drop n b) i 0 ≡ get_or a i 0 =
          get_or_append_left (take n a) (drop n b) 0 i (omega (arith, within, length-take-le n a fits)) ∙ get_or-take n a i 0 within in
          subst (λ (k : ℕ). k < 256) (sym at) (in_a i)
      | inr past ↦
          let at : get_or (take n a ++ drop n b) i 0 ≡ get_or b (n + (i - n)) 0 =
          get_or-append_right (take n a) (drop n b) n i 0 (length-take-le n a fits) (omega (arith, past)) ∙ get_or-drop n b (i - n) 0 in
          subst (λ (k : ℕ). k < 256) (sym at) (in_b (n + (i - n)))
    ]

-- a poll that gives the same packet in another room
record GivesIn (old new : EndpointView) (now : ℕ) (r : Option (Node × ℕ)) (written room : List ℕ) : Type 0 where
  into : List ℕ
  still : IsBufferStill room into
  polls : Polls old now r room into new
  letters : (s : HostState) (host : ℕ) → sent_letters r s host into ≡ sent_letters r s host written

-- what a poll gives does not depend on the room
gives_in : (old new : EndpointView) (now : ℕ) (r : Option (Node × ℕ)) (before written room : List ℕ) → spx_max_packet_size ≤ length before → IsBufferStill before written → spx_max_packet_size ≤ length room → IsBytes room
    → Polls old now r before written new → GivesIn old new now r written room
gives_in old new now None before written room long still long' bytes p =
    record {
      into = room;
      still = record { bytes = bytes; size = refl };
      polls = record { gives = record { each = p.gives.each; said = p.gives.said; room' = refl }; self = p.self; last = p.last; count = p.count; heard = p.heard };
      letters = λ s host. refl;
    }
gives_in old new now (Some r) before written room long still long' bytes p =
    let n : ℕ = r.1 in
    let g : FirstLinkGives old now r.0 n before written new = p.gives in
    let into : List ℕ = take n written ++ drop n room in
    let fits : n ≤ length written = omega (arith, g.short, long, still.size) in
    let size : length (take n written) ≡ n = length-take-le n written fits in
    let front : take n into ≡ take n written = take_at (take n written) (drop n room) n size in
    let is : (w : IsWrittenPacket (home_of old) g.held.link g.given (take n into)) × HasFreeBitsClear w.packet.body =
    subst (λ (bs : List ℕ). (w : IsWrittenPacket (home_of old) g.held.link g.given bs) × HasFreeBitsClear w.packet.body) (sym front) (g.is, g.clear) in
    record {
      into = into;
      still = record {
        bytes = front_is_bytes n written room fits still.bytes bytes;
        size = omega (arith, g.short, long', size, length-append (take n written) (drop n room), length-drop n room);
      };
      polls = record {
        gives = record {
          id = g.id;
          held = g.held;
          given = g.given;
          at = g.at;
          gives = g.gives;
          becomes = g.becomes;
          below = g.below;
          above = g.above;
          said = g.said;
          short = g.short;
          is = is.0;
          clear = is.1;
          behind = drop_at (take n written) (drop n room) n size;
          next = g.next;
        };
        self = p.self;
        last = p.last;
        count = p.count;
        heard = p.heard;
      };
      letters = λ s host. ap (λ (bs : List ℕ). record { segment = s.endpoint.network; next = r.0; bytes = bs; sent_by = Some (AtHost host) } ∷ []) front;
    }

pub polls_host_both : IsOnePoll → (old x y : World) (host : ℕ) (a b : AnswerView) → PollingHost host a old x → PollingHost host b old y → (b ≡ a) × AreSameWorlds x y
polls_host_both law old x y host a b p q =
    let one = p.1 in
    let two = q.1 in
    let n : ℕ = length old.parcels in
    let now : ℕ = old.moment in
    let same : two.before ≡ one.before = same_read old.hosts host host two.before one.before refl two.there one.there in
    let e : EndpointView = one.before.endpoint in
    let polls : Polls e now q.0 two.room two.written two.after.endpoint = subst (λ (z : HostState). Polls z.endpoint now q.0 two.room two.written two.after.endpoint) same two.polls in
    let long : spx_max_packet_size ≤ length one.written = omega (arith, p.3, p.4.size) in
    let first = gives_in e one.after.endpoint now p.0 one.room one.written one.written p.3 p.4 long p.4.bytes one.polls in
    let other = gives_in e two.after.endpoint now q.0 two.room two.written one.written q.3 q.4 long p.4.bytes polls in
    let is : IsSamePoll p.0 q.0 first.into other.into one.after.endpoint two.after.endpoint =
    law e one.after.endpoint two.after.endpoint now p.0 q.0 one.written first.into other.into long first.still other.still first.polls other.polls in
    let letters : sent_letters q.0 two.before host two.written ≡ sent_letters p.0 one.before host one.written =
    ap (λ (z : HostState). sent_letters q.0 z host two.written) same ∙ sym (other.letters one.before host) ∙ ap (sent_letters q.0 one.before host) (sym is.written)
    ∙ ap (λ o. sent_letters o one.before host first.into) (sym is.result) ∙ first.letters one.before host in
    let notes : sending_notes two.before.here two.after.endpoint.said n ≡ sending_notes one.before.here one.after.endpoint.said n =
    ap (λ (z : HostState). sending_notes z.here two.after.endpoint.said n) same ∙ ap (λ o. sending_notes one.before.here o n) is.said in
    let alike : AreAlike one.after two.after = record {
      endpoint = is.same;
      here = λ i. ap (λ ps. end_at ps i) (two.here ∙ ap (λ (z : HostState). z.here) same ∙ sym one.here);
    } in (
      q.2 ∙ ap (λ o. Parcels (made_by o n)) (sym is.result) ∙ sym p.2,
      record {
        count = count_both old.hosts x.hosts y.hosts host one.after two.after one.hosts two.hosts;
        hosts = hosts_both old.hosts x.hosts y.hosts host one.after two.after one.hosts two.hosts alike;
        ends = two.ends ∙ sym one.ends;
        parcels = two.parcels ∙ ap (λ zs. old.parcels ++ zs) letters ∙ sym one.parcels;
        log = two.log ∙ ap (λ ns. old.log ++ ns) notes ∙ sym one.log;
        moment = two.moment ∙ sym one.moment;
      },
    )
