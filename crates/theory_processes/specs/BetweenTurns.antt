-- What `ipx send` and `ipx listen` do to their endpoint between two turns, as calls of a host.
-- Defined by this project.
use Rattle.std.specs.Prelude.{ℕ, ◌≡◌, ◌⊎◌, ◌++◌, All, List, [], ◌∷◌, map}
use Rattle.spx_messages.specs.EndpointView.{EndpointView}
use Rattle.spx_messages.specs.Message.{MessageView}
use Rattle.ipx_host.specs.Passing.{Take}
use Rattle.theory_processes.specs.HostCalls.{DoesHostCall, Fails, HandsIn, HostCall, Takes}
use Rattle.theory_processes.specs.Loops.{HostRuns}

-- the message that these bytes become
abbrev pub message_of : List ℕ → MessageView
message_of bytes = record { stream = 0; body = bytes }

-- the call that hands it in. A read of no bytes hands in nothing
abbrev pub hands_on : ℕ → List ℕ → List HostCall
hands_on id [] = []
hands_on id (b ∷ bs) = HandsIn id (message_of (b ∷ bs)) ∷ []

-- a take as a call
abbrev pub take_call : Take → HostCall
take_call t = Takes t.id t.gave

-- takes, one after another. A refused call follows, which changes nothing that is held
abbrev pub TakesAre : List Take → EndpointView → EndpointView → Type 0
TakesAre takes old new = HostRuns (map take_call takes ++ Fails ∷ []) old new

-- some takes of an id
abbrev pub TakesOf : ℕ → EndpointView → EndpointView → Type 0
TakesOf id old new = (takes : List Take) × All (λ (t : Take). t.id ≡ id) takes × TakesAre takes old new

-- a call, or one that is refused
abbrev pub DoesOrFails : HostCall → EndpointView → EndpointView → Type 0
DoesOrFails call old new = DoesHostCall call old new ⊎ DoesHostCall Fails old new
