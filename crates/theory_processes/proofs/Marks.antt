-- Where a datagram comes from changes neither which connection a call keeps nor what it hands in or takes.
use Rattle.std.proofs.Common.{◌≡◌, ◌++◌, ℕ, List, [], ◌∷◌, refl, ap}
use Rattle.std.specs.Prelude.{flat_map}
use Rattle.ipx_wire.specs.declared.address.Address.{Address}
use Rattle.ipx_wire.specs.declared.address.Socket.{Socket}
use Rattle.ipx_host.specs.Passing.{Take}
use Rattle.theory_processes.specs.HostCalls.{AsksAgain, Begins, Closes, Dials, Fails, Gives, HandsIn, Hears, HostCall, Paces, Releases, Source, Takes}
use Rattle.theory_processes.specs.Loops.{marked}
use Rattle.theory_processes.specs.Senders.{AllKeepId, message_in, messages_in}
use Rattle.theory_processes.specs.ListeningCalls.{take_in}

-- a first call that hears nothing stays the first
pub first_dials : (sources : List Source) (socket : Socket) (to : Address) (buffers now id : ℕ) (more : List HostCall)
    → marked sources (Dials socket to buffers now id ∷ more) ≡ Dials socket to buffers now id ∷ marked sources more
first_dials [] socket to buffers now id more = refl
first_dials (s ∷ ss) socket to buffers now id more = refl

pub keeps_marked : (sources : List Source) (calls : List HostCall) (id : ℕ) → AllKeepId id calls → AllKeepId id (marked sources calls)
keeps_marked [] calls id k = k
keeps_marked (s ∷ ss) [] id k = k
keeps_marked (s ∷ ss) (Hears source bytes now answer ∷ calls) id k = (k.0, keeps_marked ss calls id k.1)
keeps_marked (s ∷ ss) (Gives now given ∷ calls) id k = (k.0, keeps_marked (s ∷ ss) calls id k.1)
keeps_marked (s ∷ ss) (Dials socket to buffers now j ∷ calls) id k = (k.0, keeps_marked (s ∷ ss) calls id k.1)
keeps_marked (s ∷ ss) (HandsIn j m ∷ calls) id k = (k.0, keeps_marked (s ∷ ss) calls id k.1)
keeps_marked (s ∷ ss) (Closes j ∷ calls) id k = (k.0, keeps_marked (s ∷ ss) calls id k.1)
keeps_marked (s ∷ ss) (Takes j answer ∷ calls) id k = (k.0, keeps_marked (s ∷ ss) calls id k.1)
keeps_marked (s ∷ ss) (Paces j window manual ∷ calls) id k = (k.0, keeps_marked (s ∷ ss) calls id k.1)
keeps_marked (s ∷ ss) (AsksAgain j place ∷ calls) id k = (k.0, keeps_marked (s ∷ ss) calls id k.1)
keeps_marked (s ∷ ss) (Releases j ∷ calls) id k = (k.0, keeps_marked (s ∷ ss) calls id k.1)
keeps_marked (s ∷ ss) (Begins socket buffers ∷ calls) id k = (k.0, keeps_marked (s ∷ ss) calls id k.1)
keeps_marked (s ∷ ss) (Fails ∷ calls) id k = (k.0, keeps_marked (s ∷ ss) calls id k.1)

pub messages_marked : (sources : List Source) (calls : List HostCall) (id : ℕ) → messages_in id (marked sources calls) ≡ messages_in id calls
messages_marked [] calls id = refl
messages_marked (s ∷ ss) [] id = refl
messages_marked (s ∷ ss) (Hears source bytes now answer ∷ calls) id = messages_marked ss calls id
messages_marked (s ∷ ss) (Gives now given ∷ calls) id = ap (λ ms. message_in id (Gives now given) ++ ms) (messages_marked (s ∷ ss) calls id)
messages_marked (s ∷ ss) (Dials socket to buffers now j ∷ calls) id = ap (λ ms. message_in id (Dials socket to buffers now j) ++ ms) (messages_marked (s ∷ ss) calls id)
messages_marked (s ∷ ss) (HandsIn j m ∷ calls) id = ap (λ ms. message_in id (HandsIn j m) ++ ms) (messages_marked (s ∷ ss) calls id)
messages_marked (s ∷ ss) (Closes j ∷ calls) id = ap (λ ms. message_in id (Closes j) ++ ms) (messages_marked (s ∷ ss) calls id)
messages_marked (s ∷ ss) (Takes j answer ∷ calls) id = ap (λ ms. message_in id (Takes j answer) ++ ms) (messages_marked (s ∷ ss) calls id)
messages_marked (s ∷ ss) (Paces j window manual ∷ calls) id = ap (λ ms. message_in id (Paces j window manual) ++ ms) (messages_marked (s ∷ ss) calls id)
messages_marked (s ∷ ss) (AsksAgain j place ∷ calls) id = ap (λ ms. message_in id (AsksAgain j place) ++ ms) (messages_marked (s ∷ ss) calls id)
messages_marked (s ∷ ss) (Releases j ∷ calls) id = ap (λ ms. message_in id (Releases j) ++ ms) (messages_marked (s ∷ ss) calls id)
messages_marked (s ∷ ss) (Begins socket buffers ∷ calls) id = ap (λ ms. message_in id (Begins socket buffers) ++ ms) (messages_marked (s ∷ ss) calls id)
messages_marked (s ∷ ss) (Fails ∷ calls) id = ap (λ ms. message_in id Fails ++ ms) (messages_marked (s ∷ ss) calls id)

pub takes_marked : (sources : List Source) (calls : List HostCall) → flat_map take_in (marked sources calls) ≡ flat_map take_in calls
takes_marked [] calls = refl
takes_marked (s ∷ ss) [] = refl
takes_marked (s ∷ ss) (Hears source bytes now answer ∷ calls) = takes_marked ss calls
takes_marked (s ∷ ss) (Gives now given ∷ calls) = ap (λ (ts : List Take). take_in (Gives now given) ++ ts) (takes_marked (s ∷ ss) calls)
takes_marked (s ∷ ss) (Dials socket to buffers now j ∷ calls) = ap (λ (ts : List Take). take_in (Dials socket to buffers now j) ++ ts) (takes_marked (s ∷ ss) calls)
takes_marked (s ∷ ss) (HandsIn j m ∷ calls) = ap (λ (ts : List Take). take_in (HandsIn j m) ++ ts) (takes_marked (s ∷ ss) calls)
takes_marked (s ∷ ss) (Closes j ∷ calls) = ap (λ (ts : List Take). take_in (Closes j) ++ ts) (takes_marked (s ∷ ss) calls)
takes_marked (s ∷ ss) (Takes j answer ∷ calls) = ap (λ (ts : List Take). take_in (Takes j answer) ++ ts) (takes_marked (s ∷ ss) calls)
takes_marked (s ∷ ss) (Paces j window manual ∷ calls) = ap (λ (ts : List Take). take_in (Paces j window manual) ++ ts) (takes_marked (s ∷ ss) calls)
takes_marked (s ∷ ss) (AsksAgain j place ∷ calls) = ap (λ (ts : List Take). take_in (AsksAgain j place) ++ ts) (takes_marked (s ∷ ss) calls)
takes_marked (s ∷ ss) (Releases j ∷ calls) = ap (λ (ts : List Take). take_in (Releases j) ++ ts) (takes_marked (s ∷ ss) calls)
takes_marked (s ∷ ss) (Begins socket buffers ∷ calls) = ap (λ (ts : List Take). take_in (Begins socket buffers) ++ ts) (takes_marked (s ∷ ss) calls)
takes_marked (s ∷ ss) (Fails ∷ calls) = ap (λ (ts : List Take). take_in Fails ++ ts) (takes_marked (s ∷ ss) calls)
