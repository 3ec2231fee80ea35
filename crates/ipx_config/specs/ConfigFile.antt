-- What a text describes that is the file of a router or a host, and its fault if it is neither. Defined by
-- this project.
use Rattle.std.specs.Prelude.{ℕ, List, Bool, true, false, Option, Some, None, is_some}
use Rattle.toml.specs.Data.{Members, get_member}
use Rattle.toml.specs.Parse.{parse_document}
use Rattle.ipx_config.specs.Host.{IsHostText, IsHostTextFault}
use Rattle.ipx_config.specs.Keys.{key_text}
use Rattle.ipx_config.specs.Site.{IsSiteText, IsSiteTextFault}
use Rattle.ipx_config.specs.declared.fault.ConfigError.{ConfigError}
use Rattle.ipx_config.specs.declared.key.Key.TheVariants as Key
use Rattle.ipx_config.specs.declared.config_file.ConfigFile.{ConfigFile}
use Rattle.ipx_config.specs.declared.config_file.ConfigFile.TheVariants.{Host, Router}

abbrev pub IsStationText : List ℕ → ConfigFile → Type 0
IsStationText text (Router site) = IsSiteText text site
IsStationText text (Host host) = IsHostText text host

-- a text has ports if it is TOML with their key
abbrev pub has_port_key : Option Members → Bool
has_port_key None = false
has_port_key (Some ms) = is_some (get_member (key_text Key.Port) ms)

-- the first fault of a text as that of a router, or of a host
abbrev pub IsFaultOfStation : Bool → List ℕ → ConfigError → Type 0
IsFaultOfStation true text f = IsSiteTextFault text f
IsFaultOfStation false text f = IsHostTextFault text f

-- a text with ports is that of a router, and any other that of a host
abbrev pub IsStationTextFault : List ℕ → ConfigError → Type 0
IsStationTextFault text f = IsFaultOfStation (has_port_key (parse_document text)) text f
