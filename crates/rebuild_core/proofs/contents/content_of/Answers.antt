use Rattle.std.proofs.Common.{option_map, sym, ap, ◌∙◌}
use Rattle.source_trees.specs.View.{home_view}
use Rattle.rebuild_core.proofs.SameContents.{file_content, missing_content, object_content}
use Rattle.rebuild_core.proofs.contents.content_of.Goals as goal

pub returns-in-Some : goal.returns-in-Some
returns-in-Some c =
    file_content c.args.files.now (home_view c.args.home) c.args.source.now c.in-File.name c.in-File.start c.in-File.end c.as_str-name.result.now c.in-Some.text.now c.in-File.is c.as_str-name.ensures
    (sym c.get.ensures ∙ ap (option_map (λ t. t.now)) c.in-Some.is)

pub returns-in-None : goal.returns-in-None
returns-in-None c =
    missing_content c.args.files.now (home_view c.args.home) c.args.source.now c.in-File.name c.in-File.start c.in-File.end c.as_str-name.result.now c.in-File.is c.as_str-name.ensures
    (sym c.get.ensures ∙ ap (option_map (λ t. t.now)) c.in-None.is)

pub returns-in-Inline : goal.returns-in-Inline
returns-in-Inline c =
    object_content c.args.files.now (home_view c.args.home) c.args.source.now c.in-Inline.node c.bytes_between-slice.result.now c.start-in-Inline.result c.start.result c.end.result c.in-Inline.is
    c.bytes_between-slice.ensures c.start.ensures c.end.ensures c.start-in-Inline.ensures
