-- Totals over the switches of a router's Ethernet ports. Defined by this project.
use Rattle.std.specs.Prelude.{ℕ, ◌+◌, List, sum_by}
use Rattle.ipx_carrier.specs.Counting.{counted}
use Rattle.ipx_ethernet.specs.declared.encapsulation.Encapsulation.{Encapsulation}
use Rattle.ipx_ethernet.specs.declared.encapsulation.Encapsulation.TheVariants.{Raw, Llc, Snap, EthernetII}
use Rattle.ipx_ethernet.specs.declared.frame_counters.FrameCounters.{FrameCounters}
use Rattle.ipx_ethernet.specs.Heard.{SwitchView}

-- the frames with a packet in an encapsulation other than the port's
abbrev pub encapsulated_otherwise : FrameCounters → ℕ
encapsulated_otherwise c = c.in_raw + c.in_llc + c.in_snap + c.in_ethernet_ii

-- those in this encapsulation, at a port with another one
abbrev pub came_as : FrameCounters → Encapsulation → ℕ
came_as c Raw = c.in_raw
came_as c Llc = c.in_llc
came_as c Snap = c.in_snap
came_as c EthernetII = c.in_ethernet_ii

-- the same at all ports
abbrev pub encapsulated_otherwise_in : List SwitchView → ℕ
encapsulated_otherwise_in switches = counted (sum_by (λ h. encapsulated_otherwise h.counts) switches)

-- the packets that no frame could carry
abbrev pub unframed_in : List SwitchView → ℕ
unframed_in switches = counted (sum_by (λ h. h.refused) switches)
