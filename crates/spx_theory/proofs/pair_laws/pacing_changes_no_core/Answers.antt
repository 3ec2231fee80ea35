use Rattle.std.proofs.Common.{refl}
use Rattle.spx_theory.proofs.pair_laws.pacing_changes_no_core.Goals as goal

pub returns : goal.returns
returns c =
    record {
      paces = λ l window manual. record { core = refl; names = refl; lasting = refl; queue = refl; state = refl; end_queued = refl };
      asks = λ l place. record { core = refl; names = refl; lasting = refl; queue = refl; state = refl; end_queued = refl };
    }
