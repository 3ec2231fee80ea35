-- Assigned numbers and sizes (Novell IPX, Novell SPX), which are the same on every network.
use Rattle.std.specs.Prelude.{ℕ, List, replicate}

-- well-known sockets: of file servers (NCP), of SAP and of RIP
abbrev pub ncp_socket : ℕ
ncp_socket = 0x451

abbrev pub sap_socket : ℕ
sap_socket = 0x452

abbrev pub rip_socket : ℕ
rip_socket = 0x453

-- packet types
abbrev pub unknown_type : ℕ
unknown_type = 0

abbrev pub rip_type : ℕ
rip_type = 1

abbrev pub packet_exchange_type : ℕ
packet_exchange_type = 4

abbrev pub spx_type : ℕ
spx_type = 5

abbrev pub ncp_type : ℕ
ncp_type = 17

abbrev pub netbios_propagation_type : ℕ
netbios_propagation_type = 20

-- the local network, and the number for all networks
abbrev pub local_network : ℕ
local_network = 0

abbrev pub all_networks : ℕ
all_networks = 0xffff_ffff

-- the node number for every node of a network
abbrev pub broadcast_node : List ℕ
broadcast_node = replicate 6 0xff

-- the size of an IPX header, of the largest packet and of the largest body, in bytes
abbrev pub ipx_header_size : ℕ
ipx_header_size = 30

abbrev pub ipx_max_packet_size : ℕ
ipx_max_packet_size = 1500

abbrev pub ipx_max_body_size : ℕ
ipx_max_body_size = 1470

-- the size of an SPX header, of the most data, of both, and of the largest SPX packet with its IPX header, in
-- bytes
abbrev pub spx_header_size : ℕ
spx_header_size = 12

abbrev pub spx_max_data_size : ℕ
spx_max_data_size = 534

abbrev pub spx_max_size : ℕ
spx_max_size = 546

abbrev pub spx_max_packet_size : ℕ
spx_max_packet_size = 576
