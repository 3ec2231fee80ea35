use Rattle.rip_convergence.proofs.below.laws_below.Goals as goal

pub returns : goal.returns
returns c = record {
  one_best = c.one_best.ensures;
  strict = c.one_is_better.ensures.strict;
  apart = c.sources_are_distinct.ensures;
}
