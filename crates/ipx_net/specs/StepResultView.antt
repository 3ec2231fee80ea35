-- What an event adds to the log of a network, and its answer, without their place in memory.
use Rattle.std.specs.Prelude.{ℕ, ◌≡◌, List, ◌++◌, length}
use Rattle.spx_theory.specs.Note.{Note}
use Rattle.spx_theory.specs.World.{ParcelView, World}
use Rattle.ipx_net_hosts.specs.Hosts.{HostsView, world_of}
use Rattle.ipx_net.specs.AnswerView.{AnswerView, answer_view}
use Rattle.ipx_net.specs.LogEntries.{entry_notes}
use Rattle.ipx_net.specs.Parcels.{parcel_views}
use Rattle.ipx_net.specs.declared.step_result.StepResult.{StepResult}

pub record StepResultView : Type 0 where
  pub parcels : List ParcelView
  pub notes : List Note
  pub answer : AnswerView

abbrev pub step_result_view : StepResult → StepResultView
step_result_view g =
    record {
      parcels = parcel_views g.parcels.items;
      notes = entry_notes g.entries.items;
      answer = answer_view g.answer;
    }

-- for any `first` parcels before, and any log: a relation of the worlds before and after
abbrev pub GrowsWorld : HostsView → HostsView → (first now : ℕ) → StepResultView
    → (AnswerView → World → World → Type 0) → Type 0
GrowsWorld old new first now g P = (parcels : List ParcelView) (log : List Note)
    → length parcels ≡ first
    → P g.answer (world_of old parcels log now)
    (world_of new (parcels ++ g.parcels) (log ++ g.notes) now)
