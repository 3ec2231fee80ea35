use Rattle.ipx_ethernet.specs.Frame.{frame_view}
use Rattle.ipx_ethernet.proofs.OneFrame.{only_frame}
use Rattle.ipx_ethernet.proofs.reading.decode_frame.Goals as goal

pub returns-clause-only : goal.returns-clause-only
returns-clause-only c = λ e d tail x h.
    only_frame _ (λ r. r.1) (λ r. frame_view r.0) c.args.own e d c.args.bytes.now tail c.frame_in.result c.bytes_are_one_frame.ensures
    (c.frame_has_no_fault.ensures c.args.own e d c.args.bytes.now tail x h) x c.frame_in.ensures.found c.frame_in.ensures.fault
