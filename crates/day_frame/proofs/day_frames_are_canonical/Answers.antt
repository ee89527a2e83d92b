use Rattle.day_frame.proofs.DayFrames.{one_day_frame}
use Rattle.day_frame.proofs.day_frames_are_canonical.Goals as goal

pub returns : goal.returns
returns c = one_day_frame
