-- What sockets in memory record.
use Rattle.std.specs.Prelude.{List, map}
use Rattle.ipx_ethernet_ports.specs.declared.memory.MemoryEnds.{MemoryEnds}
use Rattle.ipx_ethernet_ports.specs.declared.memory.MemoryFrame.{MemoryFrame}
use Rattle.ipx_ethernet_ports.specs.EndTraffic.{EndFrame, EndTraffic}

abbrev pub memory_frame : MemoryFrame → EndFrame
memory_frame f = record { port = f.port; end = f.end; bytes = f.bytes.items }

abbrev pub memory_frames : List MemoryFrame → List EndFrame
memory_frames frames = map memory_frame frames

abbrev pub ends_traffic : MemoryEnds → EndTraffic
ends_traffic m =
    record { came = memory_frames m.came.items; went = memory_frames m.went.items }

-- what waits at all ports, in order
abbrev pub frames_waiting : MemoryEnds → List EndFrame
frames_waiting m = memory_frames m.waiting.items
