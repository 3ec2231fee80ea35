use Rattle.std.proofs.Common.{rules, refl}
use Rattle.ipx_host.proofs.Passed.{gives_no_more}
use Rattle.ipx_host.proofs.Fed.{took}
use Rattle.ipx_host.proofs.taking.take_next.Goals as goal

pub returns-in-Ok-Nothing-2 : goal.returns-in-Ok-Nothing-2
returns-in-Ok-Nothing-2 c =
    let at = c.take.ensures in
    let left = took c.args.endpoint.now c.take.new.self c.args.session.now.id c.take.result at.takes at.memory at.unchanged in
    record {
      takes = first_of (search rules, cc);
      nothing = λ none. first_of (search rules, cc);
      ends = first_of (search rules, cc);
      unknown = λ none. refl;
      no_more = λ none. gives_no_more c.args.endpoint.now c.take.new.self c.args.session.now.id c.take.result (search rules) (λ m. search rules) (search rules) (search rules) at.takes at.memory;
      id = refl;
      others = record { others = left.1; last = left.3; count = left.4; self = left.2; heard = at.heard };
    }

pub returns-in-Ok-Nothing-3 : goal.returns-in-Ok-Nothing-3
returns-in-Ok-Nothing-3 c =
    let at = c.take.ensures in
    let left = took c.args.endpoint.now c.take.new.self c.args.session.now.id c.take.result at.takes at.memory at.unchanged in
    record {
      takes = first_of (search rules, cc);
      nothing = λ none. first_of (search rules, cc);
      ends = first_of (search rules, cc);
      unknown = λ none. refl;
      no_more = λ none. gives_no_more c.args.endpoint.now c.take.new.self c.args.session.now.id c.take.result (search rules) (λ m. search rules) (search rules) (search rules) at.takes at.memory;
      id = refl;
      others = record { others = left.1; last = left.3; count = left.4; self = left.2; heard = at.heard };
    }
