use Rattle.std.proofs.Common.{◌≡◌, ◌∙◌, Bool, true, [], Some, Result, Ok, Err, refl, sym, subst}
use Rattle.std.specs.Prelude.{MatchBool, OnErr}
use Rattle.ipx_router.specs.Knowledge.{Known, known_aged}
use Rattle.ipx_router.specs.RouterPackets.{sendings}
use Rattle.ipx_router.specs.Advertisements.{AreAdvertisements, HasToTell, is_due}
use Rattle.ipx_router.proofs.Receiving.{known_same}
use Rattle.ipx_router.proofs.KeptTables.{sound_aged}
use Rattle.ipx_router.proofs.advertising.tell_at.Goals as goal

pub returns-clause-tells : goal.returns-clause-tells
returns-clause-tells c =
    let same = known_same c.args.ports.now c.args.now c.args.routes.now c.age.new.self c.args.services.now c.age-2.new.self c.age.ensures.aged c.age-2.ensures.aged in
    let sent = sendings c.in_ok-replies.replies.items in
    let k = known_aged c.args.ports.now c.args.routes.now c.args.services.now c.args.now in
    let due : is_due c.args.told.now c.args.now ≡ true = sym c.is_time.ensures ∙ c.if-not-is_time.false in
    subst (λ (b : Bool). MatchBool b (AreAdvertisements k.ports k.routes k.services c.args.now 1 k.ports sent × (Some c.args.now ≡ Some c.args.now)) ((sent ≡ []) × (Some c.args.now ≡ c.args.told.now))) (sym due)
    (subst (λ (k : Known). AreAdvertisements k.ports k.routes k.services c.args.now 1 k.ports sent) same c.in_ok-replies.ensures.tells, refl)

on_err : {A E P : Type 0} (r : Result A E) → P → OnErr r P
on_err (Ok x) p = tt
on_err (Err e) p = p

pub returns-in_err-replies-clause-refused : goal.returns-in_err-replies-clause-refused
returns-in_err-replies-clause-refused c =
    let same = known_same c.args.ports.now c.args.now c.args.routes.now c.age.new.self c.args.services.now c.age-2.new.self c.age.ensures.aged c.age-2.ensures.aged in
    let due : is_due c.args.told.now c.args.now ≡ true = sym c.is_time.ensures ∙ c.if-not-is_time.false in
    let told : c.args.told.now ≡ c.args.told.now = refl in
    on_err c.from_residual.result (due, subst (λ (k : Known). HasToTell k c.args.now) same c.in_err-replies.ensures.refused, told)

pub tell_all-requires : goal.tell_all-requires
tell_all-requires c =
    sound_aged c.args.ports.now c.args.now (c.args.routes.now, c.args.services.now) (c.age.new.self, c.age-2.new.self) c.requires c.age.ensures.valid c.age-2.ensures.valid c.age.ensures.capacity c.age-2.ensures.capacity c.age.ensures.aged c.age-2.ensures.aged

pub returns-then-not-is_time-clause-sound : goal.returns-then-not-is_time-clause-sound
returns-then-not-is_time-clause-sound c =
    sound_aged c.args.ports.now c.args.now (c.args.routes.now, c.args.services.now) (c.age.new.self, c.age-2.new.self) c.requires c.age.ensures.valid c.age-2.ensures.valid c.age.ensures.capacity c.age-2.ensures.capacity c.age.ensures.aged c.age-2.ensures.aged

pub returns-in_err-replies-clause-sound : goal.returns-in_err-replies-clause-sound
returns-in_err-replies-clause-sound c =
    sound_aged c.args.ports.now c.args.now (c.args.routes.now, c.args.services.now) (c.age.new.self, c.age-2.new.self) c.requires c.age.ensures.valid c.age-2.ensures.valid c.age.ensures.capacity c.age-2.ensures.capacity c.age.ensures.aged c.age-2.ensures.aged

pub returns-clause-sound : goal.returns-clause-sound
returns-clause-sound c =
    sound_aged c.args.ports.now c.args.now (c.args.routes.now, c.args.services.now) (c.age.new.self, c.age-2.new.self) c.requires c.age.ensures.valid c.age-2.ensures.valid c.age.ensures.capacity c.age-2.ensures.capacity c.age.ensures.aged c.age-2.ensures.aged
