-- What the commands of an operator print by the file of a router. Defined by this project.
use Rattle.std.specs.Prelude.{String, string_bytes, ◌≡◌, ℕ, List, Bool, Some, true}
use Rattle.std.specs.Global.{Global}
use Rattle.ipx_query.specs.QueryEnds.{ask_status}
use Rattle.ipx_query.specs.QueryView.{AskView}
use Rattle.ipx_query.specs.declared.question.TableQuery.{TableQuery}
use Rattle.ipx_table_dump.specs.TableParts.{has_all_titles}
use Rattle.ipx_config.specs.Host.{IsHostText}
use Rattle.ipx_config.specs.Site.{IsSiteText}
use Rattle.ipx_config.specs.declared.host.HostConfig.{HostConfig}
use Rattle.ipx_config.specs.declared.site.RouterConfig.{RouterConfig}
use Rattle.ipx_query_cmd.specs.QueryRuns.{HasAsked}
use Rattle.ipx_query_cmd.specs.KnownLines.{known_networks_text, known_services_text}

-- the file of a router names a table file, and this is a complete text of one
pub record NamesTables (site : RouterConfig) (place : String Global) (tables : List ℕ) : Type 0 where
  pub named : site.tables_file ≡ Some place
  pub whole : has_all_titles tables ≡ true

-- a text lists the networks of such a table file
pub record ListsKnownNetworks (json : Bool) (site : RouterConfig) (text : List ℕ) : Type 0 where
  pub place : String Global
  pub tables : List ℕ
  pub known : NamesTables site place tables
  pub prints : text ≡ known_networks_text json (string_bytes place) tables

-- a text lists its services of a type
pub record ListsKnownServices (json : Bool) (kind : ℕ) (site : RouterConfig) (text : List ℕ) : Type 0 where
  pub place : String Global
  pub tables : List ℕ
  pub known : NamesTables site place tables
  pub prints : text ≡ known_services_text json (string_bytes place) kind tables

-- this is printed if the text of a file is that of a host: it asked until it was over, each router answered,
-- and the answers are listed
abbrev pub ListsAsked : TableQuery → (AskView → ℕ → List ℕ → Type 0) → List ℕ → List ℕ → Type 0
ListsAsked question Lists text lines = (file : HostConfig) × (ask : AskView) × (over : ℕ)
    × IsHostText text file × HasAsked file question ask over × (ask_status ask ≡ 0)
    × Lists ask over lines

-- this is printed if the text of a file is that of a router: its table file is listed
abbrev pub ListsWritten : (RouterConfig → List ℕ → Type 0) → List ℕ → List ℕ → Type 0
ListsWritten Lists text lines = (site : RouterConfig) × IsSiteText text site × Lists site lines
