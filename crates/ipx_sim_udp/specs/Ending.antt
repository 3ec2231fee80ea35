-- The lines at the end of a script over sockets: one for each end. Defined by this project.
use Rattle.std.specs.Prelude.{ℕ, ◌+◌, List, [], ◌∷◌, ◌++◌, None}
use Rattle.ipx_net.specs.declared.endinfo.EndInfo.{EndInfo}
use Rattle.ipx_sim.specs.Summary.{end_counts_text, present_text}
use Rattle.ipx_sim_udp.specs.UdpCalls.{next_at, link_state_of}
use Rattle.ipx_sim_udp.specs.declared.layout_binding.End.{End}
use Rattle.ipx_sim_udp.specs.declared.layout_binding.UdpNet.{UdpNet}

-- what is printed of an end: its host and state, how many messages went in and out, and its next number
abbrev pub info_of : UdpNet → End → EndInfo
info_of s end' =
    record {
      host = end'.host;
      state = link_state_of s end';
      given = end'.given;
      out = end'.out;
      next = next_at s end';
      peer = None;
    }

-- its line: as for a network in memory, without what only a log can tell
abbrev pub udp_end_line : List (List ℕ) → ℕ → EndInfo → List ℕ
udp_end_line names who info = present_text names who info ++ (end_counts_text info ++ 10 ∷ [])

-- the lines of ends, numbered from this number on
abbrev pub end_lines : UdpNet → List (List ℕ) → ℕ → List End → List ℕ
end_lines s names who [] = []
end_lines s names who (end' ∷ ends) =
    udp_end_line names who (info_of s end') ++ end_lines s names (who + 1) ends
