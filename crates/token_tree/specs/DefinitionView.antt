-- A definition as data.
use Rattle.std.specs.Prelude.{option_map}
use Rattle.json_span.specs.View.{node_view}
use Rattle.token_tree.specs.Tree.{Definition}
use Rattle.token_tree.specs.declared.definition.TokenDef.TheInside.{Inside}

abbrev pub definition_view : Inside → Definition
definition_view d = record {
  file = d.file.now;
  source = d.source.now;
  start = d.start;
  end = d.end;
  value = node_view d.value;
  by_ref = d.by_ref;
  kind = d.kind;
  description = d.description;
  extensions = option_map (λ t. t.now) d.extensions;
  deprecated = d.deprecated;
}
