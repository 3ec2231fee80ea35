use Rattle.std.proofs.Common.{◌<◌, ◌≤◌, ℕ, List, inl, inr, arith}
use Rattle.ipx_config.specs.Host.{IsHostText}
use Rattle.ipx_config.specs.declared.host.HostConfig.{HostConfig}
use Rattle.theory_processes.proofs.Listening.{listens_well}
use Rattle.theory_processes.proofs.programs.listen.Goals as goal

-- a file has 1 to 8,192 buffers, or says nothing of them
buffers : (text : List ℕ) (file : HostConfig) → IsHostText text file → (0 < file.buffers) × (file.buffers ≤ 8192)
buffers text file h = elim h.2.buffers [
  | inl usual ↦ (omega (arith, usual.1), omega (arith, usual.1))
  | inr given ↦ (omega (arith, given.2.1), given.2.2)
]

pub returns : goal.returns
returns g c = λ ok. let it = c.do_listen.ensures.well ok in (it.0, it.1, it.2, it.3, listens_well it.1 _ _ _ it.3.2.network.2.2.1 (buffers it.0 it.1 it.3) it.4 it.5)
