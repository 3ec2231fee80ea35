-- The index of a log, read from its start: the origin of each parcel, who sent units, what was read, and the
-- ends.
use Rattle.std.specs.Prelude.{ℕ, ◌≡◌, ◌+◌, ◌==◌, Bool, true, false, List, [], ◌∷◌, ◌++◌, length, Option, Some, None, set, slice_get, slice_index_or, if◌then◌else◌}
use Rattle.spx_theory.specs.Note.{Note, Opened, Accepted, Joined, HandsIn, HandsOut, TakesUnit, AsksEnd, Got, Released, SendsUnit, SendsAgain, SendsSystem, Told, Carried, Injected}

-- the fact holds of each element
abbrev pub Each : {A : Type 0} → (A → Type 0) → List A → Type 0
Each {A} P xs = (k : ℕ) (x : A) → slice_get xs k ≡ Some x → P x

-- how many times a number is in a list
abbrev pub times : ℕ → List ℕ → ℕ
times e [] = 0
times e (n ∷ ns) = (if n == e then 1 else 0) + times e ns

-- the maker of a parcel that no router forwarded: an end, by a packet with a unit or without, a router, or
-- nobody here
pub data Maker : Type 0 where
  ByUnit : (who : ℕ) → Maker
  BySystem : (who : ℕ) → Maker
  ByRouter : (router : ℕ) → Maker
  FromOutside : Maker

-- of a parcel: its origin, the origin's maker, the number of routers that it passed, and the number of units
-- that all ends had sent for the first time when the origin was made, including its own
pub record Mark : Type 0 where
  pub origin : ℕ
  pub maker : Maker
  pub passed : ℕ
  pub units : ℕ

-- of a packet that an end read: the maker of its origin, and the units that all ends sent since then, as a
-- range of `sent`. `first` says that it made or joined the end: its entry comes directly after the one that
-- says so
pub record Reading : Type 0 where
  pub who : ℕ
  pub maker : Maker
  pub from : ℕ
  pub to : ℕ
  pub first : Bool

-- of an end: its buffers, whether it dialled, whether a request made it or a reply joined it, and the end
-- whose packet without a unit did that
pub record Role : Type 0 where
  pub buffers : ℕ
  pub called : Bool
  pub joined : Bool
  pub partner : Option ℕ

-- of each parcel, of each unit in order (the end that first sent it), of each packet read, and of each end
pub record Scan : Type 0 where
  pub marks : List Mark
  pub sent : List ℕ
  pub readings : List Reading
  pub roles : List Role
  -- the end that the last entry made or joined
  pub newest : Option ℕ

-- the mark of no parcel
abbrev pub nowhere : Mark
nowhere = record { origin = 0; maker = FromOutside; passed = 0; units = 0 }

abbrev pub mark_of : Scan → ℕ → Mark
mark_of s parcel = slice_index_or s.marks parcel nowhere

-- a parcel is made that no router forwarded
abbrev pub marked : Maker → Scan → Scan
marked maker s =
    record s {
      marks = s.marks ++ record {
        origin = length s.marks;
        maker = maker;
        passed = 0;
        units = length s.sent;
      } ∷ [];
      newest = None;
    }

-- a router forwarded it
abbrev pub one_further : Mark → Mark
one_further m = record m { passed = m.passed + 1 }

-- an end that sent a packet without a unit
abbrev pub asker : Maker → Option ℕ
asker (ByUnit who) = None
asker (BySystem who) = Some who
asker (ByRouter router) = None
asker FromOutside = None

abbrev pub is_now : Option ℕ → ℕ → Bool
is_now None who = false
is_now (Some e) who = e == who

abbrev pub no_role : Role
no_role = record { buffers = 0; called = false; joined = false; partner = None }

abbrev pub role_of : Scan → ℕ → Role
role_of s who = slice_index_or s.roles who no_role

-- an end joins only once
abbrev pub joined_by : Maker → Role → Role
joined_by maker r = if r.joined then r else record r { joined = true; partner = asker maker }

-- the index after one more entry
abbrev pub seen : Scan → Note → Scan
seen s (Opened who host buffers) =
    record s {
      roles = s.roles ++ record {
        buffers = buffers;
        called = true;
        joined = false;
        partner = None;
      } ∷ [];
      newest = None;
    }
seen s (Accepted who parcel buffers) =
    record s {
      roles = s.roles ++ record {
        buffers = buffers;
        called = false;
        joined = true;
        partner = asker (mark_of s parcel).maker;
      } ∷ [];
      newest = Some who;
    }
seen s (Joined who parcel) =
    record s {
      roles = set s.roles who (joined_by (mark_of s parcel).maker (role_of s who));
      newest = Some who;
    }
seen s (HandsIn who m) = record s { newest = None }
seen s (HandsOut who m) = record s { newest = None }
seen s (TakesUnit who u) = record s { newest = None }
seen s (AsksEnd who) = record s { newest = None }
seen s (Got who parcel) =
    record s {
      readings = s.readings ++ record {
        who = who;
        maker = (mark_of s parcel).maker;
        from = (mark_of s parcel).units;
        to = length s.sent;
        first = is_now s.newest who;
      } ∷ [];
      newest = None;
    }
seen s (Released who) = record s { newest = None }
seen s (SendsUnit who parcel) = marked (ByUnit who) (record s { sent = s.sent ++ who ∷ [] })
seen s (SendsAgain who parcel) = marked (ByUnit who) s
seen s (SendsSystem who parcel) = marked (BySystem who) s
seen s (Told router parcel) = marked (ByRouter router) s
seen s (Carried from parcel) =
    record s { marks = s.marks ++ one_further (mark_of s from) ∷ []; newest = None }
seen s (Injected parcel) = marked FromOutside s

abbrev pub seen_all : Scan → List Note → Scan
seen_all s [] = s
seen_all s (n ∷ ns) = seen_all (seen s n) ns

abbrev pub unread : Scan
unread = record { marks = []; sent = []; readings = []; roles = []; newest = None }

abbrev pub scan : List Note → Scan
scan log = seen_all unread log
