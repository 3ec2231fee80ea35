use Rattle.ipx_static.proofs.with_statics.WithStatics.new.Goals as goal

pub invariant_of-result : goal.invariant_of-result
invariant_of-result g c = c.in_ok-advertisements.ensures.there (g.C.Core.port_count c.args.core) c.requires
