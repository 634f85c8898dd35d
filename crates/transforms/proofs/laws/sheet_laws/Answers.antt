use Rattle.transforms.proofs.PlainFramesJoin.{plain_frames_join}
use Rattle.transforms.proofs.laws.sheet_laws.Goals as goal

pub returns : goal.returns
returns c = plain_frames_join
