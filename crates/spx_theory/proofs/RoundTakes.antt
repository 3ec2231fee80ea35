-- All that a link holds is taken.
use Rattle.std.proofs.Common.{◌+◌, ◌≡◌, ◌||◌, true, List, [], ◌∷◌, length, Option, Some, None, refl, sym, ap, ◌∙◌, subst, arith}
use Rattle.spx_link.specs.declared.unit.Unit.{Unit}
use Rattle.spx_link.specs.ByClock.{pace_of}
use Rattle.spx_link.specs.LinkView.{LinkView, is_working}
use Rattle.spx_link.specs.Machine.{End, AreSound}
use Rattle.spx_link.specs.Machine.Act.{Takes}
use Rattle.spx_link.specs.Machine.Step.{One}
use Rattle.spx_link.specs.Offer.{take_link, take_held}
use Rattle.spx_theory.specs.Tracks.{Follows}
use Rattle.spx_theory.specs.PairSteps.{TakesTo}
use Rattle.spx_theory.specs.LinkLaws.{LinkLaws}
use Rattle.spx_theory.specs.LosslessRounds.{TakesAll, nothing, another}

pub record TookAll (l k : LinkView) (us : List Unit) : Type 0 where
  pub state : k.state ≡ l.state
  pub own : k.own ≡ l.own
  pub peer : k.peer ≡ l.peer
  pub queued : k.end_queued ≡ l.end_queued
  pub ended : k.peer_ended ≡ l.peer_ended
  pub queue : k.queue ≡ l.queue
  pub out : k.out ≡ l.out
  pub spoke : k.spoke ≡ l.spoke
  pub probes : k.probes ≡ l.probes
  pub reply : k.owes_reply ≡ l.owes_reply
  pub confirm : k.owes_confirm ≡ l.owes_confirm
  pub acks : l.owes_ack ≡ true → k.owes_ack ≡ true
  pub none : l.held ≡ [] → k.owes_ack ≡ l.owes_ack
  pub units : us ≡ l.held
  pub held : k.held ≡ []
  pub pace : pace_of k ≡ pace_of l

nothing_held : (l k : LinkView) (hs : List Unit) → ◌≡◌ {A = Option Unit × LinkView} (take_held l hs) (None, k) → (hs ≡ []) × (k ≡ l)
nothing_held l k [] is = (refl, sym (ap (λ z. z.1) is))
nothing_held l k (u ∷ us) is = let f = ap (λ (z : Option Unit × LinkView). z.0) is in absurd (cc f)

pub record FirstTaken (l m : LinkView) (u : Unit) (hs : List Unit) : Type 0 where
  pub rest : List Unit
  pub held : hs ≡ u ∷ rest
  pub after : m ≡ record l { held = rest; owes_ack = l.owes_ack || is_working l.state }

first_taken : (l m : LinkView) (u : Unit) (hs : List Unit) → ◌≡◌ {A = Option Unit × LinkView} (take_held l hs) (Some u, m) → FirstTaken l m u hs
first_taken l m u [] is = let f = ap (λ (z : Option Unit × LinkView). z.0) is in absurd (cc f)
first_taken l m u (v ∷ vs) is =
    let f = ap (λ (z : Option Unit × LinkView). z.0) is in
    let same : v ≡ u = cc f in
    record { rest = vs; held = ap (λ w. w ∷ vs) same; after = sym (ap (λ z. z.1) is) }

same_took : (l : LinkView) → l.held ≡ [] → TookAll l l []
same_took l none = record { state = refl; own = refl; peer = refl; queued = refl; ended = refl; queue = refl; out = refl; spoke = refl; probes = refl; reply = refl; confirm = refl; acks = λ e. e; none = λ e. refl; units = sym none; held = none; pace = refl }

pub took_all : (l k : LinkView) (us : List Unit) → TakesAll l k us → TookAll l k us
took_all l k us (nothing is) =
    let n = nothing_held l k l.held is in
    subst (λ z. TookAll l z []) (sym n.1) (same_took l n.0)
took_all l k us (another {m = m} {us = vs} u is rest) =
    let f = first_taken l m u l.held is in
    let n : LinkView = record l { held = f.rest; owes_ack = l.owes_ack || is_working l.state } in
    let t : TookAll n k vs = subst (λ z. TookAll z k vs) f.after (took_all m k vs rest) in
    record {
      state = t.state;
      own = t.own;
      peer = t.peer;
      queued = t.queued;
      ended = t.ended;
      queue = t.queue;
      out = t.out;
      spoke = t.spoke;
      probes = t.probes;
      reply = t.reply;
      confirm = t.confirm;
      acks = λ e. t.acks (ap (λ x. x || is_working l.state) e);
      none = λ e. absurd (cc (sym e ∙ f.held));
      units = ap (λ ws. u ∷ ws) t.units ∙ sym f.held;
      held = t.held;
      pace = t.pace;
    }

-- its end of the machine took all that it read
pub record TakenTo (k : LinkView) (c d : End) : Type 0 where
  pub after : End
  pub follows : Follows k after d
  pub line : AreSound after d
  pub base : after.base ≡ c.base
  pub sent : after.sent ≡ c.sent
  pub limit : after.limit ≡ c.limit
  pub read : after.read ≡ c.read
  pub buffers : after.buffers ≡ c.buffers
  pub units : after.units ≡ c.units
  pub taken : after.taken ≡ after.read

pub taken_to : (laws : LinkLaws) (l k : LinkView) (us : List Unit) (c d : End) → TakesAll l k us → Follows l c d → AreSound c d → TakenTo k c d
taken_to laws l k us c d (nothing is) f s =
    let n = nothing_held l k l.held is in
    record {
      after = c;
      follows = subst (λ z. Follows z c d) (sym n.1) f;
      line = s;
      base = refl;
      sent = refl;
      limit = refl;
      read = refl;
      buffers = refl;
      units = refl;
      taken = omega (arith, f.tracks.counts.held, ap length n.0);
    }
taken_to laws l k us c d (another {m = m} {us = vs} u is rest) f s =
    let gives : (take_link l).0 ≡ Some u = ap (λ (z : Option Unit × LinkView). z.0) is in
    let t : TakesTo l u c d = laws.steps.takes l u c d f s gives in
    let e : End = record c { taken = c.taken + 1 } in
    let f' : Follows m e d = subst (λ (z : Option Unit × LinkView). Follows z.1 e d) is t.follows in
    let s' : AreSound e d = laws.step (One Takes) (record { one = c; two = d }) (record { one = e; two = d }) ((t.some, refl), refl) s in
    let r = taken_to laws m k vs e d rest f' s' in
    record { after = r.after; follows = r.follows; line = r.line; base = r.base; sent = r.sent; limit = r.limit; read = r.read; buffers = r.buffers; units = r.units; taken = r.taken }
