use Rattle.std.proofs.Common.{arith, ◌≡◌, ◌≢◌, ◌<◌, ◌≤◌, Err, Some}
use Rattle.spx_link.specs.Limits.{most_links}
use Rattle.spx_link.specs.Links.{count_of}
use Rattle.spx_link.specs.declared.fault.LinksFault.TheVariants as LinksFaults
use Rattle.spx_messages.specs.EndpointView.{buffers_in}
use Rattle.spx_messages.specs.Readings.{IsOpenTo}
use Rattle.spx_messages.proofs.receive.asked.accept.Goals as goal

pub returns-in-Ok-clause-asked : goal.returns-in-Ok-clause-asked
returns-in-Ok-clause-asked c =
    let listens : buffers_in c.args.listening.now c.args.reading.now.to.0 ≡ Some c.in-Some.buffers = cc in
    let some : count_of c.args.links.now ≤ most_links = c.after-next_link.ensures.few in
    let not_all : count_of c.args.links.now ≢ most_links = λ e.
    let full : c.accept.result ≡ Err LinksFaults.TooMany = c.accept.ensures.too_many.1 e in
    cc in
    let few : count_of c.args.links.now < most_links = omega arith in
    let room : IsOpenTo c.args.listening.now c.args.links.now c.args.reading.now = record { new = c.requires; buffers = c.in-Some.buffers; listens = listens; room = few } in
    record {
      room = room;
      free = c.in-Ok.ensures.id;
      adds = c.in-Ok.ensures.adds;
      forgets = record { gone = c.forget.ensures.gone; others = c.forget.ensures.others };
    }
