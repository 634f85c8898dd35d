use Rattle.std.proofs.Common.{codes, sym, ◌∙◌}
use Rattle.json_span.specs.View.{ref_view}
use Rattle.token_tree.proofs.Listed.{unnamed}
use Rattle.token_tree.proofs.listed_members.ListedMembers.note_named.Goals as goal

pub returns : goal.returns
returns c = record {
  value = unnamed c.args.name.now (codes "$value") (ref_view c.args.value) _ (sym c.is_word.ensures ∙ c.if-is_word.false);
  reference = c.first-self.ensures;
  kind = c.first-self-2.ensures;
  description = c.first-self-3.ensures;
  extensions = c.first-self-4.ensures;
  deprecated = c.first-self-5.ensures;
  extends = c.first-self-6.ensures;
}
