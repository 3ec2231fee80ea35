use Rattle.spx_link.proofs.Unpaced.{place_outside, place_unasked}
use Rattle.spx_link.proofs.by_clock.places_are_manual_only.Goals as goal

pub returns : goal.returns
returns c = record { by_clock = λ l place now clock. place_unasked l place now clock; outside = λ l place out. place_outside l place out }
