-- The file of a router's secret and of its ipxnet clients. Defined by this project.
use Rattle.std.specs.Prelude.{Vec, ◌≡◌, ◌⊎◌, ℕ, Bool, false, true, List, [], ◌∷◌, ◌++◌, All, Ok, Option, Some, None, drop, length, min, take}
use Rattle.std.specs.Global.{Global}
use Rattle.hex.specs.Hex.{decode_sized, encode_lower}
use Rattle.ipx_config.specs.declared.site.PortConfig.{PortConfig}
use Rattle.ipx_config.specs.declared.site.PortConfig.TheVariants as configs
use Rattle.ipx_table_dump.specs.ClientsText.{IsClientPlace, IsClientsText, clients_text}
use Rattle.ipx_table_dump.specs.declared.client_places.ClientPlace.{ClientPlace}
use Rattle.ipxnet_server.specs.declared.port.Secret.{Secret}
use Rattle.ipx_site.specs.declared.secret.SecretFault.{SecretFault}
use Rattle.ipx_site.specs.declared.secret.SecretFault.TheVariants as faults
use Rattle.ipx_site.specs.declared.secret_file.SavedClients.{SavedClients}
use Rattle.ipx_site.specs.declared.secret_file.KeptText.{KeptText}
use Rattle.ipx_site.specs.declared.secret_file.KeptText.TheVariants as Texts

-- a line is this secret: the hex digits of its 32 bytes, and the end of the line
abbrev pub IsSecretText : List ℕ → Secret → Type 0
IsSecretText line s = (digits : List ℕ) × (line ≡ digits ++ 10 ∷ []) × (decode_sized digits 32 ≡ Ok s.0)

-- the bytes in which the line of a secret can be: the first 65 of a text, or all if it has fewer; and those after them
abbrev pub first_line : List ℕ → List ℕ
first_line text = take (min (length text) 65) text

abbrev pub after_line : List ℕ → List ℕ
after_line text = drop (min (length text) 65) text

-- what is read of the text after the line: clients if it lists some, none if it is empty, as in files of before, and
-- nothing otherwise
abbrev pub SaysClients : List ℕ → Option (Vec ClientPlace Global) → Type 0
SaysClients rest None = (clients : List ClientPlace) → All IsClientPlace clients
    → ((rest ≡ []) × (clients ≡ [])) ⊎ IsClientsText clients rest → ⊥
SaysClients rest (Some v) = ((rest ≡ []) × (v.items ≡ [])) ⊎ IsClientsText v.items rest

-- what is read of a text: the secret of its first line, with the clients that follow; or that secret alone, if what
-- follows is neither nothing nor the text of clients; or that the line is no secret
abbrev pub SaysKept : List ℕ → KeptText → Type 0
SaysKept text (Texts.Whole kept) =
    IsSecretText (first_line text) kept.secret × SaysClients (after_line text) (Some kept.clients)
SaysKept text (Texts.Cut secret) = IsSecretText (first_line text) secret × SaysClients (after_line text) None
SaysKept text Texts.None = (secret : Secret) → IsSecretText (first_line text) secret → ⊥

-- the text that is written
abbrev pub kept_text : Secret → List ClientPlace → List ℕ
kept_text secret clients = encode_lower secret.0 ++ (10 ∷ clients_text clients)

-- what a router keeps of a text: what it says, or the secret that it says and no client, if its list was cut
abbrev pub IsKeptOf : List ℕ → SavedClients → Type 0
IsKeptOf text kept =
    SaysKept text (Texts.Whole kept) ⊎ (SaysKept text (Texts.Cut kept.secret) × (kept.clients.items ≡ []))

-- why it keeps nothing of a text: its first line is no secret, or memory ran out
abbrev pub IsSecretFaultOf : List ℕ → SecretFault → Type 0
IsSecretFaultOf text faults.OutOfMemory = Unit {0}
IsSecretFaultOf text (faults.Random error) = ⊥
IsSecretFaultOf text (faults.File error) = ⊥
IsSecretFaultOf text (faults.Read error) = ⊥
IsSecretFaultOf text faults.Text = SaysKept text Texts.None

-- it is a port for ipxnet
abbrev pub is_ipxnet : PortConfig → Bool
is_ipxnet (configs.Rfc1234 p) = false
is_ipxnet (configs.Ethernet p) = false
is_ipxnet (configs.Ipxnet p) = true
