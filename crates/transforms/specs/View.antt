-- What frames are as data.
use Rattle.transforms.specs.Sheet.{FrameData}
use Rattle.transforms.specs.declared.sheet.Frame.{Frame}

abbrev pub frame_view : Frame → FrameData
frame_view frame = record { head = frame.head.now; glue = frame.glue.now; last = frame.last.now; tail = frame.tail.now }
