-- Addresses in hex digits, in either case: two digits for each byte, the first byte first. Defined by this
-- project.
use Rattle.std.specs.Prelude.{ℕ, List, Option, option_map}
use Rattle.std.specs.Result.{result_ok}
use Rattle.byteorder.specs.Endian.{big_number}
use Rattle.hex.specs.Hex.{decode_sized}
use Rattle.ipx_wire.specs.declared.address.Network.{Network}
use Rattle.ipx_wire.specs.declared.address.Node.{Node}
use Rattle.ipx_wire.specs.declared.address.Socket.{Socket}

-- so many bytes, read from twice as many digits; any other text gives none
abbrev pub spelled_bytes : ℕ → List ℕ → Option (List ℕ)
spelled_bytes count text = result_ok (decode_sized text count)

-- the network of eight digits
abbrev pub spelled_network : List ℕ → Option Network
spelled_network text = option_map (λ bytes. record { 0 = big_number 4 bytes }) (spelled_bytes 4 text)

-- the node of twelve digits
abbrev pub spelled_node : List ℕ → Option Node
spelled_node text = option_map (λ bytes. record { 0 = bytes }) (spelled_bytes 6 text)

-- the socket of four digits
abbrev pub spelled_socket : List ℕ → Option Socket
spelled_socket text = option_map (λ bytes. record { 0 = big_number 2 bytes }) (spelled_bytes 2 text)
