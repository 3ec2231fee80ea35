-- The queries of a host that asks routers: which are due, and their bytes (RIP request and SAP query of the
-- Novell IPX Router Specification). When a host asks again is defined by this project. The entry point is
-- `AskGives`.
use Rattle.std.specs.Prelude.{◌≡◌, ℕ, ◌+◌, ◌/◌, Bool, false, not, ◌&&◌, nat_le, nat_lt, min, List, [], ◌∷◌, position, slice_get, slice_set, Option, Some, None, unwrap_or, if◌then◌else◌}
use Rattle.ipx_wire.specs.declared.address.Address.{Address}
use Rattle.ipx_wire.specs.declared.address.Node.{Node}
use Rattle.ipx_wire.specs.declared.ipx.packet.IpxHeader.{IpxHeader}
use Rattle.ipx_wire.specs.Assigned.{packet_exchange_type, rip_socket, rip_type, sap_socket}
use Rattle.ipx_wire.specs.Ipx.{IsBytes, IsIpx, packet_of}
use Rattle.ipx_control.specs.Rip.{IsRip, Request}
use Rattle.ipx_control.specs.Sap.{IsSap, Query}
use Rattle.ipx_router.specs.Starting.{all_asked}
use Rattle.ipx_carrier.specs.Turns.{Given}
use Rattle.ipx_query.specs.declared.question.TableQuery.{TableQuery}
use Rattle.ipx_query.specs.declared.question.TableQuery.TheVariants.{Networks, Services}
use Rattle.ipx_query.specs.declared.queried_router.QueriedRouter.{QueriedRouter}
use Rattle.ipx_query.specs.QueryView.{AskView, asked_for}

-- a question's packet type, and the socket that it is sent to
abbrev pub question_type : TableQuery → ℕ
question_type Networks = rip_type
question_type (Services kind) = packet_exchange_type

abbrev pub question_socket : TableQuery → ℕ
question_socket Networks = rip_socket
question_socket (Services kind) = sap_socket

-- a query goes from the host's own network, node and socket to a node of that network
abbrev pub query_header : Address → TableQuery → Node → IpxHeader
query_header own question node = record {
  hops = 0;
  kind = question_type question;
  to = record {
    network = own.network;
    node = node;
    socket = record { 0 = question_socket question };
  };
  from = own;
}

-- it asks for all networks, or for the services of a type, not for the nearest
abbrev pub IsQuestion : TableQuery → List ℕ → Type 0
IsQuestion Networks body = IsRip (Request (all_asked ∷ [])) body []
IsQuestion (Services kind) body = IsSap (Query false kind) body []

-- the bytes are a query to a node, and nothing else
pub record IsQuery (own : Address) (question : TableQuery) (node : Node)
    (bytes : List ℕ) : Type 0 where
  pub body : List ℕ
  pub asks : IsQuestion question body
  pub packet : IsIpx (packet_of (query_header own question node) body) bytes []
  pub in_range : IsBytes bytes

-- how many rounds have begun this long after the first, in ms: one at once, and one after each of two
-- seconds. After four seconds there are none
abbrev pub rounds_by : ℕ → ℕ
rounds_by passed = if nat_le 4000 passed then 0 else (min (passed / 1000) 2 + 1)

-- a router is due if it has not answered, and was not asked in this round
abbrev pub is_ask_due : ℕ → QueriedRouter → Bool
is_ask_due rounds r = not r.answered && nat_lt r.rounds rounds

-- asking begins, if it has not yet
abbrev pub ask_begun : AskView → ℕ → AskView
ask_begun ask now = record ask { begun = Some (unwrap_or ask.begun now) }

-- the router at a position was asked in a round
abbrev pub asked_at_place : ℕ → QueriedRouter → ℕ → AskView → AskView
asked_at_place place r rounds ask =
    record ask { routers = slice_set ask.routers place (record r { rounds = rounds }) }

-- the first router that is due is asked, at its node; if none is due, none is asked
abbrev pub GivesToPlace : AskView → ℕ → Option ℕ → Option Given → AskView → Type 0
GivesToPlace ask rounds None given new = (given ≡ None) × (new ≡ ask)
GivesToPlace ask rounds (Some place) given new = (r : QueriedRouter) × (bytes : List ℕ)
    × (slice_get ask.routers place ≡ Some r) × IsQuery ask.own ask.question r.node bytes
    × (given ≡ Some (record { port = 0; node = r.node; bytes = bytes }))
    × (new ≡ asked_at_place place r rounds ask)

-- what the host gives as it is asked for a packet at a given time
abbrev pub AskGives : AskView → ℕ → Option Given → AskView → Type 0
AskGives old now given new = let rounds = rounds_by (asked_for old now) in
    GivesToPlace (ask_begun old now) rounds (position (is_ask_due rounds) old.routers) given new
