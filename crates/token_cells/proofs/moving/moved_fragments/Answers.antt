use Rattle.token_cells.specs.declared.format.Format.TheVariants.{Css, Android, Swift, Json}
use Rattle.token_cells.proofs.moving.moved_fragments.Goals as goal

pub moved_lines-requires : goal.moved_lines-requires
moved_lines-requires c = record { lies = c.requires.stands.lines Css; room = c.requires.room.lines Css }

pub moved_lines-requires-2 : goal.moved_lines-requires-2
moved_lines-requires-2 c = record { lies = c.requires.stands.lines Android; room = c.requires.room.lines Android }

pub moved_lines-requires-3 : goal.moved_lines-requires-3
moved_lines-requires-3 c = record { lies = c.requires.stands.lines Swift; room = c.requires.room.lines Swift }

pub moved_lines-requires-4 : goal.moved_lines-requires-4
moved_lines-requires-4 c = record { lies = c.requires.stands.lines Json; room = c.requires.room.lines Json }
