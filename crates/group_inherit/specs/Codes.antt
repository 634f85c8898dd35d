-- Codes of the entries of a flat tree, by which a proof tells them apart.
use Rattle.std.specs.Prelude.{Option}
use Rattle.std.proofs.Common.{refl}
use Rattle.std.specs.Coded.{Coded, code_by, coded_option, coded×}
use Rattle.name_path.specs.declared.kind.Kind.{Kind}
use Rattle.token_tree.specs.declared.mark.Mark.{Mark}
use Rattle.token_tree.specs.Tree.{Definition}
use Rattle.token_tree.specs.Codes.{coded_definition, coded_kind, coded_mark}
use Rattle.group_inherit.specs.Flattening.{Flattened}

abbrev pub Fields : Type 0
Fields = Definition × (Option Kind × Option Mark)

abbrev pub coded_fields : Coded Fields
coded_fields = coded× coded_definition (coded× (coded_option coded_kind) (coded_option coded_mark))

abbrev pub fields_of : Flattened → Fields
fields_of f = (f.def, (f.group_kind, f.group_mark))

abbrev pub of_fields : Fields → Flattened
of_fields f = record { def = f.0; group_kind = f.1.0; group_mark = f.1.1 }

abbrev pub coded_flattened : Coded Flattened
coded_flattened = code_by Fields coded_fields fields_of of_fields (λ _. refl)
