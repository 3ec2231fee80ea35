use Rattle.ipx_config.proofs.ethernet_values.usual_place_of.Goals as goal

pub returns-in_err-ip : goal.returns-in_err-ip
returns-in_err-ip c = rw c.from_residual-in_err-ip.ensures (λ p place. c.in_err-ip.ensures place.1 place.3)
