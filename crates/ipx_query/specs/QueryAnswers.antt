-- What a host that asks routers receives: which packets are answers, and what it learns from them (RIP and
-- SAP responses of the Novell IPX Router Specification). It learns entries as a router of one port does. The
-- entry points are `AskHears`, and `QueryHearOutOfMemory` for out of memory.
use Rattle.std.specs.Prelude.{◌≡◌, ℕ, ◌==◌, ◌||◌, ◌&&◌, Bool, true, nat_lt, List, [], ◌∷◌, length, map, Option, Some, None, MatchBool, MatchOption, if◌then◌else◌}
use Rattle.std.specs.List.{list_any}
use Rattle.ipx_wire.specs.declared.address.Address.{Address}
use Rattle.ipx_wire.specs.declared.address.Network.{Network}
use Rattle.ipx_wire.specs.declared.address.Node.{Node}
use Rattle.ipx_wire.specs.declared.ipx.packet.IpxHeader.{IpxHeader}
use Rattle.ipx_wire.specs.Assigned.{local_network}
use Rattle.ipx_wire.specs.Ipx.{IsIpx, PacketView, ipx_fault}
use Rattle.ipx_control.specs.declared.rip.packet.RipEntry.{RipEntry}
use Rattle.ipx_control.specs.declared.sap.packet.ServiceEntry.{ServiceEntry}
use Rattle.ipx_control.specs.Rip.{IsRip, RipView, rip_fault}
use Rattle.ipx_control.specs.Rip as rip
use Rattle.ipx_control.specs.Sap.{IsSap, SapView, sap_fault}
use Rattle.ipx_control.specs.Sap as sap
use Rattle.ipx_tables.specs.declared.route.RouteMetric.{RouteMetric}
use Rattle.ipx_tables.specs.declared.service.ServiceKey.{ServiceKey}
use Rattle.ipx_tables.specs.declared.service.ServiceMetric.{ServiceMetric}
use Rattle.ipx_tables.specs.declared.source.Source.{Source}
use Rattle.ipx_tables.specs.Content.{Table}
use Rattle.ipx_router.specs.declared.port.Port.{Port}
use Rattle.ipx_router.specs.Classify.{is_node}
use Rattle.ipx_router.specs.Hearing.{AtEntry, HeardRoutes, HeardServices, IsFullForRoute, IsFullForService}
use Rattle.ipx_router.specs.Knowledge.{routes_in, services_in}
use Rattle.ipx_router.specs.OutOfMemoryCases.{HearingRoutesOutOfMemory, HearingServicesOutOfMemory}
use Rattle.ipx_query.specs.declared.question.TableQuery.{TableQuery}
use Rattle.ipx_query.specs.declared.question.TableQuery.TheVariants.{Networks, Services}
use Rattle.ipx_query.specs.declared.queried_router.QueriedRouter.{QueriedRouter}
use Rattle.ipx_query.specs.declared.answer_heard.AnswerHeard.{AnswerHeard}
use Rattle.ipx_query.specs.AskQueries.{question_socket}
use Rattle.ipx_query.specs.QueryView.{AskView}

-- ---- which packets are answers

-- the local network (0), or the host's own
abbrev pub is_at_hand : Network → Network → Bool
is_at_hand own network = (network.0 == local_network) || (network.0 == own.0)

-- the router of that node was asked
abbrev pub was_asked : Node → QueriedRouter → Bool
was_asked node r = nat_lt 0 r.rounds && is_node r.node node

-- a packet is to the host's own node and socket
abbrev pub is_to_querier : AskView → Address → Bool
is_to_querier ask to = is_at_hand ask.own.network to.network
    && (is_node to.node ask.own.node && (to.socket.0 == ask.own.socket.0))

-- a packet is from a node of the host's network that was asked, and from the socket that the question was
-- sent to: an answer to another question does not count
abbrev pub is_from_asked : AskView → Address → Bool
is_from_asked ask from = is_at_hand ask.own.network from.network
    && (list_any (was_asked from.node) ask.routers
    && (from.socket.0 == question_socket ask.question))

-- a packet is an answer, which no router forwarded: a router that answers on its own network sends 0 hops
abbrev pub is_answer : AskView → IpxHeader → Bool
is_answer ask h = (h.hops == 0) && (is_to_querier ask h.to && is_from_asked ask h.from)

-- ---- what is learned from one

-- the host as a router of one port, and the source of an answer
abbrev pub lone_port : Address → List Port
lone_port own = record { network = own.network; node = own.node; cost = 1 } ∷ []

abbrev pub source_at : Node → Source
source_at node = record { port = 1; neighbour = node }

-- entries are learned in order, as a router learns them: all of them, or those before the first for which the
-- table is full
abbrev pub TakesRoutes : Address → Node → ℕ → List RipEntry → Table Network RouteMetric → Bool
    → Table Network RouteMetric → Type 0
TakesRoutes own node now entries old cut new = (new.capacity ≡ old.capacity) × MatchBool cut
    ((n : ℕ) × HeardRoutes (lone_port own) (source_at node) now entries (routes_in old) n new
    × AtEntry entries n (IsFullForRoute (lone_port own) (source_at node) new))
    (HeardRoutes (lone_port own) (source_at node) now entries (routes_in old) (length entries) new)

abbrev pub TakesServices : Node → ℕ → List ServiceEntry → Table ServiceKey ServiceMetric → Bool
    → Table ServiceKey ServiceMetric → Type 0
TakesServices node now entries old cut new = (new.capacity ≡ old.capacity) × MatchBool cut
    ((n : ℕ) × HeardServices (source_at node) now entries (services_in old) n new
    × AtEntry entries n (IsFullForService (source_at node) new))
    (HeardServices (source_at node) now entries (services_in old) (length entries) new)

-- a response is an answer. Its last packet is not full: under 50 routes, or under 7 services. A request, and
-- what is no packet, changes nothing
abbrev pub HearsRipMessage : Address → Node → ℕ → Table Network RouteMetric → RipView
    → Option AnswerHeard → Table Network RouteMetric → Type 0
HearsRipMessage own node now old (rip.Request asked) answer new = (answer ≡ None) × (new ≡ old)
HearsRipMessage own node now old (rip.Response entries) answer new = (cut : Bool)
    × (answer ≡ Some (record { ended = nat_lt (length entries) 50; cut = cut }))
    × TakesRoutes own node now entries old cut new

abbrev pub HearsRip : Address → Node → ℕ → Table Network RouteMetric → List ℕ
    → Option AnswerHeard → Table Network RouteMetric → Type 0
HearsRip own node now old body answer new = MatchOption (rip_fault body)
    ((m : RipView) × (tail : List ℕ) × IsRip m body tail
    × HearsRipMessage own node now old m answer new)
    (λ f. (answer ≡ None) × (new ≡ old))

abbrev pub HearsSapMessage : Node → ℕ → Table ServiceKey ServiceMetric → SapView
    → Option AnswerHeard → Table ServiceKey ServiceMetric → Type 0
HearsSapMessage node now old (sap.Query nearest kind) answer new = (answer ≡ None) × (new ≡ old)
HearsSapMessage node now old (sap.Response nearest entries) answer new = (cut : Bool)
    × (answer ≡ Some (record { ended = nat_lt (length entries) 7; cut = cut }))
    × TakesServices node now entries old cut new

abbrev pub HearsSap : Node → ℕ → Table ServiceKey ServiceMetric → List ℕ → Option AnswerHeard
    → Table ServiceKey ServiceMetric → Type 0
HearsSap node now old body answer new = MatchOption (sap_fault body)
    ((m : SapView) × (tail : List ℕ) × IsSap m body tail
    × HearsSapMessage node now old m answer new)
    (λ f. (answer ≡ None) × (new ≡ old))

-- ---- the host after that

-- the router of the node answered
abbrev pub router_heard : Node → Bool → QueriedRouter → QueriedRouter
router_heard node ended r =
    if was_asked node r then record r { answered = true; ended = r.ended || ended } else r

-- an answer of the node was learned, or there was none
abbrev pub ask_heard : Node → ℕ → Option AnswerHeard → AskView → AskView
ask_heard node now None ask = ask
ask_heard node now (Some a) ask = record ask {
  routers = map (router_heard node a.ended) ask.routers;
  heard_at = now;
  cut = ask.cut || a.cut;
}

-- a body from the node is learned, as an answer to the question
abbrev pub HearsBody : TableQuery → AskView → Node → List ℕ → ℕ → AskView → Type 0
HearsBody Networks old node body now new = (answer : Option AnswerHeard)
    × (routes : Table Network RouteMetric) × HearsRip old.own node now old.routes body answer routes
    × (new ≡ ask_heard node now answer (record old { routes = routes }))
HearsBody (Services kind) old node body now new = (answer : Option AnswerHeard)
    × (services : Table ServiceKey ServiceMetric)
    × HearsSap node now old.services body answer services
    × (new ≡ ask_heard node now answer (record old { services = services }))

abbrev pub HearsPacket : AskView → PacketView → ℕ → AskView → Type 0
HearsPacket old d now new = MatchBool (is_answer old d.header)
    (HearsBody old.question old d.header.from.node d.body now new)
    (new ≡ old)

-- the host after it received bytes at a given time: what is not an answer changes nothing
abbrev pub AskHears : AskView → List ℕ → ℕ → AskView → Type 0
AskHears old bytes now new = MatchOption (ipx_fault bytes)
    ((d : PacketView) × (tail : List ℕ) × IsIpx d bytes tail × HearsPacket old d now new)
    (λ f. new ≡ old)

-- ---- out of memory

-- an entry could not be learned, because its table had to grow: those before it were learned, and nothing
-- else changed
abbrev pub RipBodyOutOfMemory : Address → Node → ℕ → Table Network RouteMetric → List ℕ
    → Table Network RouteMetric → Type 0
RipBodyOutOfMemory own node now old body new = (entries : List RipEntry) × (tail : List ℕ)
    × IsRip (rip.Response entries) body tail × (new.capacity ≡ old.capacity)
    × HearingRoutesOutOfMemory (lone_port own) (routes_in old) (source_at node) now entries new

abbrev pub SapBodyOutOfMemory : Node → ℕ → Table ServiceKey ServiceMetric → List ℕ
    → Table ServiceKey ServiceMetric → Type 0
SapBodyOutOfMemory node now old body new = (nearest : Bool) × (entries : List ServiceEntry)
    × (tail : List ℕ) × IsSap (sap.Response nearest entries) body tail × (new.capacity ≡ old.capacity)
    × HearingServicesOutOfMemory (services_in old) (source_at node) now entries new

abbrev pub BodyOutOfMemory : TableQuery → AskView → Node → List ℕ → ℕ → AskView → Type 0
BodyOutOfMemory Networks old node body now new = (routes : Table Network RouteMetric)
    × RipBodyOutOfMemory old.own node now old.routes body routes
    × (new ≡ record old { routes = routes })
BodyOutOfMemory (Services kind) old node body now new =
    (services : Table ServiceKey ServiceMetric)
    × SapBodyOutOfMemory node now old.services body services
    × (new ≡ record old { services = services })

abbrev pub QueryHearOutOfMemory : AskView → List ℕ → ℕ → AskView → Type 0
QueryHearOutOfMemory old bytes now new = (d : PacketView) × (tail : List ℕ) × IsIpx d bytes tail
    × (is_answer old d.header ≡ true)
    × BodyOutOfMemory old.question old d.header.from.node d.body now new
