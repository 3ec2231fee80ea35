-- How an endpoint changes: at one id, or not at all.
use Rattle.std.specs.Prelude.{ℕ, ◌≡◌, ◌≢◌, ◌+◌, Some, None}
use Rattle.ipx_wire.specs.declared.address.Socket.{Socket}
use Rattle.spx_link.specs.LinkView.{LinkView}
use Rattle.spx_link.specs.Links.{count_of}
use Rattle.spx_messages.specs.EndpointView.{EndpointView, Held, buffers_at, held_at, rest_in}

-- the address and the listening sockets are unchanged
pub record SameSelf (old new : EndpointView) : Type 0 where
  pub network : new.network ≡ old.network
  pub node : new.node ≡ old.node
  pub router : new.router ≡ old.router
  pub buffers : (socket : Socket) → buffers_at new socket ≡ buffers_at old socket

-- an id now holds this, and nothing else changes
pub record ChangesEnd (old new : EndpointView) (id : ℕ) (after : Held) : Type 0 where
  pub held : held_at new id ≡ Some after
  pub others : (q : ℕ) → q ≢ id → held_at new q ≡ held_at old q
  pub last : new.links.last ≡ old.links.last
  pub count : count_of new.links ≡ count_of old.links
  pub self : SameSelf old new

-- a link is added under an id, without a partial message; that id is now the last one that was given
pub record AddsEnd (old new : EndpointView) (id : ℕ) (made : LinkView) : Type 0 where
  pub held : held_at new id ≡ Some (record { link = made; rest = None })
  pub others : (q : ℕ) → q ≢ id → held_at new q ≡ held_at old q
  pub last : new.links.last ≡ id
  pub count : count_of new.links ≡ count_of old.links + 1
  pub self : SameSelf old new

-- an id is removed, with its link and its partial message
pub record ReleasesEnd (old new : EndpointView) (id : ℕ) : Type 0 where
  pub gone : held_at new id ≡ None
  pub rest : rest_in new.parts id ≡ None
  pub others : (q : ℕ) → q ≢ id → held_at new q ≡ held_at old q
  pub last : new.links.last ≡ old.links.last
  pub count : count_of new.links + 1 ≡ count_of old.links
  pub self : SameSelf old new

-- nothing changes, except for the last packet sent and the last datagram read
pub record SameBut (old new : EndpointView) : Type 0 where
  pub held : (q : ℕ) → held_at new q ≡ held_at old q
  pub last : new.links.last ≡ old.links.last
  pub count : count_of new.links ≡ count_of old.links
  pub self : SameSelf old new

-- a socket listens with so many buffers, and nothing else changes
pub record Listens (old new : EndpointView) (socket : Socket) (buffers : ℕ) : Type 0 where
  pub this : buffers_at new socket ≡ Some buffers
  pub others : (s : Socket) → s.0 ≢ socket.0 → buffers_at new s ≡ buffers_at old s
  pub network : new.network ≡ old.network
  pub node : new.node ≡ old.node
  pub router : new.router ≡ old.router
  pub links : new.links ≡ old.links
  pub parts : new.parts ≡ old.parts
