-- What the commands of an operator print of the answers of routers. Defined by this project.
use Rattle.std.specs.Prelude.{◌≡◌, ◌==◌, ℕ, List, Bool, Option, Some, None, if◌then◌else◌, map}
use Rattle.ipx_tables.specs.Listing.{IsListing}
use Rattle.ipx_tables.specs.Route.{network_cmp, route_before}
use Rattle.ipx_tables.specs.Service.{service_before, service_key_cmp}
use Rattle.ipx_wire.specs.AddressText.{spelled_socket}
use Rattle.ipx_router.specs.Knowledge.{routes_in, services_in}
use Rattle.ipx_query.specs.QueryEnds.{ask_status}
use Rattle.ipx_query.specs.QueryView.{AskView}
use Rattle.ipx_query_cmd.specs.declared.answer_times.AnswerTime.{AnswerTime}
use Rattle.ipx_query_cmd.specs.OperatorLines.{AdvertisedNetwork, AdvertisedService, answering_nodes, networks_text, services_text}

-- a text lists the networks of the answers to a host, each with the best route at this time, and says which
-- routers answered
pub record ListsNetworks (json : Bool) (ask : AskView) (now : ℕ) (text : List ℕ) : Type 0 where
  pub listed : List AdvertisedNetwork
  pub best : IsListing network_cmp route_before (routes_in ask.routes) now listed
  pub answers : List AnswerTime
  pub who : map (λ a. a.node) answers ≡ answering_nodes ask.routers
  pub prints : text ≡ networks_text json listed answers

-- the same for services
pub record ListsServices (json : Bool) (ask : AskView) (now : ℕ) (text : List ℕ) : Type 0 where
  pub listed : List AdvertisedService
  pub best : IsListing service_key_cmp service_before (services_in ask.services) now listed
  pub answers : List AnswerTime
  pub who : map (λ a. a.node) answers ≡ answering_nodes ask.routers
  pub prints : text ≡ services_text json listed answers

-- the exit status of a command, given the status of writing the text: the host's status if all is written,
-- otherwise 1
abbrev pub printed_status : ℕ → AskView → ℕ
printed_status written ask = if written == 0 then ask_status ask else 1

-- a word is a type in four hex digits; without a word, all types
abbrev pub IsTypeWord : Option (List ℕ) → ℕ → Type 0
IsTypeWord None kind = kind ≡ 0xffff
IsTypeWord (Some word) kind = spelled_socket word ≡ Some (record { 0 = kind })
