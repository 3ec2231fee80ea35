-- The messages that an end handed out, compared with those that were handed in at its peer.
use Rattle.std.specs.Prelude.{ℕ, ◌≡◌, ◌<◌, List, [], length}
use Rattle.spx_theory.specs.Note.{Note}
use Rattle.spx_theory.specs.Scan.{scan}
use Rattle.spx_theory.specs.Peers.{ArePeers}
use Rattle.spx_theory.specs.Handed.{handed_in, handed_out, IsBeginning}
use Rattle.spx_theory.specs.LogPremises.{HavePeer, IsEnd}

-- there is an end of this number, and what it handed out is a prefix of what its peer handed in; without a
-- peer it handed out nothing
pub record Begins (log : List Note) (end : ℕ) : Type 0 where
  pub made : IsEnd log end
  pub begins : (peer : ℕ) → HavePeer log end peer
      → IsBeginning (handed_out end log) (handed_in peer log)
  pub alone : ((peer : ℕ) → ¬ HavePeer log end peer) → handed_out end log ≡ []

-- the same, with ends and peers by the index of the log
pub record BeginsAsRead (log : List Note) (end : ℕ) : Type 0 where
  pub made : end < length (scan log).roles
  pub begins : (peer : ℕ) → ArePeers log end peer
      → IsBeginning (handed_out end log) (handed_in peer log)
  pub alone : ((peer : ℕ) → ¬ ArePeers log end peer) → handed_out end log ≡ []
