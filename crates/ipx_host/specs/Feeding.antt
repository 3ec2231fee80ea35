-- How a sending host turns what it reads into messages of its link, and queues the end after them. The entry
-- point is `Feeds`, of one step. `Rounds` states it for a sequence of steps. Nothing here is from a public
-- standard.
use Rattle.std.specs.Prelude.{◌≡◌, ◌≤◌, ◌⊎◌, ℕ, Bool, true, false, List, [], ◌∷◌, length, Option, Some, None}
use Rattle.std.specs.Io.KnownBytes.{Consumes, IsAtEnd}
use Rattle.spx_link.specs.LinkView.{LinkView}
use Rattle.spx_link.specs.Offer.{end_link, offer_link}
use Rattle.spx_link.specs.declared.state.State.TheVariants as States
use Rattle.spx_messages.specs.Cut.{cut_of}
use Rattle.spx_messages.specs.Changes.{ChangesEnd}
use Rattle.spx_messages.specs.EndpointView.{EndpointView, Held, held_at}
use Rattle.ipx_host.specs.Books.{EntersRead}
use Rattle.ipx_host.specs.declared.acked_bytes.Ledger.{Ledger}

-- at most 65,535 bytes are queued as one message, after everything that was queued before, on a link that is
-- Live
pub record HandsIn (old new : EndpointView) (id : ℕ) (bytes : List ℕ) : Type 0 where
  pub short : length bytes ≤ 65535
  pub held : Held
  pub before : held_at old id ≡ Some held
  pub live : held.link.state ≡ States.Live
  pub after : ChangesEnd old new id (record held {
    link = offer_link held.link (cut_of (record { stream = 0; body = bytes }));
  })

-- the end is queued on a Live link, after everything that was queued
pub record QueuesEnd (old new : EndpointView) (id : ℕ) : Type 0 where
  pub held : Held
  pub before : held_at old id ≡ Some held
  pub live : held.link.state ≡ States.Live
  pub after : ChangesEnd old new id (record held { link = end_link held.link })

-- the bytes of a read become one message, or nothing if there are none
abbrev pub HandsOn : EndpointView → EndpointView → ℕ → List ℕ → Type 0
HandsOn old new id [] = new ≡ old
HandsOn old new id (b ∷ bs) = HandsIn old new id (b ∷ bs)

-- the sending side of a link is unchanged: what is queued, and how many units are outstanding
pub record SameQueue (old new : LinkView) : Type 0 where
  pub queue : new.queue ≡ old.queue
  pub out : new.out ≡ old.out
  pub next : new.next ≡ old.next
  pub ended : new.end_queued ≡ old.end_queued

abbrev pub KeepsQueue : Option Held → Option Held → Type 0
KeepsQueue None None = Unit {0}
KeepsQueue None (Some new) = ⊥
KeepsQueue (Some old) None = ⊥
KeepsQueue (Some old) (Some new) = SameQueue old.link new.link

-- the state of a transfer between its reader and its link: whether all is read, whether the end is queued,
-- what is counted, and what the reader has left, if known
pub record FeedState : Type 0 where
  pub endpoint : EndpointView
  pub read : Bool
  pub closed : Bool
  pub acked_bytes : Ledger
  pub known : Option (List ℕ)

abbrev pub feed_state : EndpointView → Bool → Bool → Ledger → Option (List ℕ) → FeedState
feed_state endpoint read closed acked_bytes known = record {
  endpoint = endpoint;
  read = read;
  closed = closed;
  acked_bytes = acked_bytes;
  known = known;
}

-- the reader gives these bytes, which are queued and counted. If everything is read then, the reader has
-- nothing left
pub record ReadsOn (old new : FeedState) (id : ℕ) (bytes : List ℕ) : Type 0 where
  pub unread : old.read ≡ false
  pub taken : Consumes old.known new.known bytes
  pub handed : HandsOn old.endpoint new.endpoint id bytes
  pub entered : EntersRead old.acked_bytes new.acked_bytes bytes
  pub same : new.closed ≡ old.closed
  pub all : new.read ≡ true → (bytes ≡ []) × IsAtEnd new.known

-- everything is read, and the end is queued. Nothing more is read
pub record EndsInput (old new : FeedState) (id : ℕ) (bytes : List ℕ) : Type 0 where
  pub read : old.read ≡ true
  pub unqueued : old.closed ≡ false
  pub queued : QueuesEnd old.endpoint new.endpoint id
  pub is : new ≡ record old { endpoint = new.endpoint; closed = true }
  pub none : bytes ≡ []

-- nothing is read, queued or counted
pub record LeavesIntake (old new : FeedState) (bytes : List ℕ) : Type 0 where
  pub same : new ≡ old
  pub none : bytes ≡ []

-- the bytes that leave the reader in one step, and what the step feeds into a link
abbrev pub Feeds : FeedState → FeedState → ℕ → List ℕ → Type 0
Feeds old new id bytes = ReadsOn old new id bytes ⊎ EndsInput old new id bytes ⊎ LeavesIntake old new bytes
