use Rattle.ipx_inspect.proofs.OneOutput.{frames_one}
use Rattle.ipx_inspect.proofs.frame_laws.shown_frames_are_one.Goals as goal

pub returns : goal.returns
returns c = frames_one c.reading_is_one.ensures c.bytes_are_one_frame.ensures
