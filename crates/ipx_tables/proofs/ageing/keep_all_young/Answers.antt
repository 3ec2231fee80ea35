use Rattle.std.proofs.Common.{subst}
use Rattle.ipx_tables.specs.Expiry.{NoneOldBefore}
use Rattle.ipx_tables.proofs.Expiry.{no_later_than_oldest}
use Rattle.ipx_tables.proofs.ageing.keep_all_young.Goals as goal

pub returns-in-Some-clause-no_later : goal.returns-in-Some-clause-no_later
returns-in-Some-clause-no_later g c = λ moment fits none.
    no_later_than_oldest c.expire.new.self c.in-Some.field-0-0 c.in-Some.moment c.in-Some.ensures.oldest c.expiry.result moment c.expiry.ensures fits (subst (NoneOldBefore moment) c.in-Some.ensures.same none)
