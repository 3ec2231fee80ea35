use Rattle.std.proofs.Common.{◌≡◌, rules, subst, sym}
use Rattle.std.specs.Prelude.{OnErr, OnOk}
use Rattle.ipx_query.specs.declared.question.TableQuery.{TableQuery}
use Rattle.ipx_query.specs.declared.question.TableQuery.TheVariants.{Services}
use Rattle.ipx_query.specs.QueryAnswers.{BodyOutOfMemory, HearsBody}
use Rattle.ipx_query.proofs.query_core.QueryCore.hear_body.Goals as goal

pub returns-in-Services-clause-heard : goal.returns-in-Services-clause-heard
returns-in-Services-clause-heard c =
    let is : c.args.self.now.question ≡ Services c.in-Services.field-0 = first_of (search rules, cc) in
    subst (λ (q : TableQuery). OnOk c.hear_services.result (HearsBody q c.args.self.now c.args.node c.args.body.now c.args.now c.hear_services.new.self)) (sym is) (c.hear_services.ensures.heard c.in-Services.field-0)

pub returns-in-Services-clause-refused : goal.returns-in-Services-clause-refused
returns-in-Services-clause-refused c =
    let is : c.args.self.now.question ≡ Services c.in-Services.field-0 = first_of (search rules, cc) in
    subst (λ (q : TableQuery). OnErr c.hear_services.result (BodyOutOfMemory q c.args.self.now c.args.node c.args.body.now c.args.now c.hear_services.new.self)) (sym is) (c.hear_services.ensures.refused c.in-Services.field-0)
