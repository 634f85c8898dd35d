-- What is kept, and what is to come, is all that is listed.
use Rattle.json_span.specs.View.{fields_view}
use Rattle.token_tree.specs.inner.Listed.{AreListedSoFar}
use Rattle.token_tree.specs.inner.Names.{NamesStand}
use Rattle.token_tree.proofs.listed_members.ListedMembers.among.Given as goal

abbrev pub invariant-loop-field : goal.invariant-loop-field
invariant-loop-field l = record {
  listed : AreListedSoFar l.listed (fields_view l.field-iterator) (fields_view l.fields);
  names : NamesStand l.text (fields_view l.field-iterator);
}
