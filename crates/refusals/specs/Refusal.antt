-- What is printed of a refusal: the rule that is broken, where it is, and what else is said of it.
use Rattle.std.specs.Prelude.{ℕ, ◌+◌, ◌==◌, not, List, [], ◌∷◌, ◌++◌, take, codes, count_by, flat_map, unwrap_or}
use Rattle.std.specs.FinMap as finite
use Rattle.std.specs.Fmt.{decimal}
use Rattle.std.specs.List.{suffix_len}
use Rattle.tk_io.specs.Characters.{newline}
use Rattle.tk_io.specs.FilesData.{FilesData}
use Rattle.json_span.specs.Spelling.{string_text}
use Rattle.name_path.specs.Reference.{pointer_text, path_text, place_text}
use Rattle.name_path.specs.declared.place.Place.{Place}
use Rattle.token_tree.specs.declared.fault.Rule as shape_rule
use Rattle.token_tree.specs.declared.fault.Rule.TheVariants as shape
use Rattle.alias_ref.specs.declared.fault.RefRule.{RefRule}
use Rattle.alias_ref.specs.declared.fault.RefRule.TheVariants as reference
use Rattle.resolver_doc.specs.declared.rule.PlanRule.{PlanRule}
use Rattle.resolver_doc.specs.declared.rule.PlanRule.TheVariants as plan
use Rattle.type_rules.specs.Rules.{rule_name as value_rule_name}
use Rattle.transforms.specs.declared.platform.Platform.{Platform}
use Rattle.transforms.specs.declared.platform.Platform.TheVariants.{Css, Android, Swift}
use Rattle.refusals.specs.declared.rule.CellRule.{CellRule}
use Rattle.refusals.specs.declared.rule.CellRule.TheVariants.{Ref, Value}
use Rattle.refusals.specs.declared.rule.Rule.{Rule}
use Rattle.refusals.specs.declared.rule.Rule.TheVariants as rule

-- The names of rules.

abbrev pub shape_rule_name : shape_rule.Rule → List ℕ
shape_rule_name shape.Root = codes "shape-root"
shape_rule_name shape.Name = codes "shape-name"
shape_rule_name shape.Member = codes "shape-member"
shape_rule_name shape.Property = codes "shape-property"
shape_rule_name shape.TokenChild = codes "shape-token-child"
shape_rule_name shape.RootToken = codes "shape-root-token"

abbrev pub ref_rule_name : RefRule → List ℕ
ref_rule_name reference.RefSyntax = codes "alias-syntax"
ref_rule_name reference.RefTarget = codes "alias-target"
ref_rule_name reference.Cycle = codes "alias-cycle"
ref_rule_name reference.Deep = codes "alias-depth"
ref_rule_name reference.Big = codes "alias-size"
ref_rule_name reference.NoType = codes "type-missing"

abbrev pub cell_rule_name : CellRule → List ℕ
cell_rule_name (Ref broken) = ref_rule_name broken
cell_rule_name (Value broken) = value_rule_name broken

abbrev pub plan_rule_name : PlanRule → List ℕ
plan_rule_name plan.Version = codes "plan-version"
plan_rule_name plan.Shape = codes "plan-shape"
plan_rule_name plan.Reference = codes "plan-reference"
plan_rule_name plan.ModifierInSet = codes "plan-modifier-in-set"
plan_rule_name plan.Contexts = codes "plan-contexts"
plan_rule_name plan.Default = codes "plan-default"
plan_rule_name plan.Duplicate = codes "plan-duplicate"
plan_rule_name plan.Cycle = codes "plan-cycle"

abbrev pub rule_name : Rule → List ℕ
rule_name rule.ConfigToml = codes "config-toml"
rule_name rule.ConfigKey = codes "config-key"
rule_name rule.FileMissing = codes "file-missing"
rule_name rule.JsonSyntax = codes "json-syntax"
rule_name rule.JsonDuplicate = codes "json-duplicate"
rule_name rule.JsonDepth = codes "json-depth"
rule_name (rule.Plan broken) = plan_rule_name broken
rule_name rule.PlanPermutations = codes "plan-permutations"
rule_name rule.PlanSources = codes "plan-sources"
rule_name (rule.Shape broken) = shape_rule_name broken
rule_name rule.ExtendsTarget = codes "extends-target"
rule_name rule.ExtendsCycle = codes "extends-cycle"
rule_name rule.ExtendsCount = codes "extends-count"
rule_name rule.ExtendsHeight = codes "extends-height"
rule_name (rule.Token broken) = cell_rule_name broken
rule_name rule.NameClash = codes "name-clash"

-- The four lines that each refusal has.

-- one plus the newlines before the place
abbrev pub line_of : List ℕ → ℕ → ℕ
line_of text start = count_by (λ b. b == newline) (take start text) + 1

-- one plus the bytes after the last of them
abbrev pub column_of : List ℕ → ℕ → ℕ
column_of text start = suffix_len (λ b. not (b == newline)) (take start text) + 1

-- by the rule, the file, its text and a span in it
unfoldable pub refusal_text : Rule → List ℕ → List ℕ → ℕ → ℕ → List ℕ
refusal_text broken file text start end =
    codes "rule " ++ rule_name broken ++ codes "\nfile " ++ file
    ++ codes "\nline " ++ decimal (line_of text start) ++ codes " column " ++ decimal (column_of text start)
    ++ codes "\nbytes " ++ decimal start ++ codes " " ++ decimal end ++ codes "\n"

-- The further lines.

abbrev pub platform_name : Platform → List ℕ
platform_name Css = codes "css"
platform_name Android = codes "android"
platform_name Swift = codes "swift"

-- What is said of a break beside its rule and its span.
pub data Detail : Type 0 where
  -- the group that names a lost target
  lost_group : List (List ℕ) → Detail
  -- a group of a ring
  ring_group : List (List ℕ) → Detail
  counted : ℕ → Detail
  -- the token whose verdict it is, and the place, which may stand in another token
  of_token : List (List ℕ) → Detail
  at_place : Place → Detail
  ring_place : Place → Detail
  -- the earlier token that has the name
  other_token : List (List ℕ) → Detail
  on_platform : Platform → Detail
  of_key : List ℕ → Detail
  -- a set of a ring
  ring_set : List ℕ → Detail

-- a word, and a text as a JSON string
abbrev pub quoted_line : List ℕ → List ℕ → List ℕ
quoted_line word text = word ++ string_text text ++ codes "\n"

abbrev pub detail_line : Detail → List ℕ
detail_line (lost_group path) = quoted_line (codes "place ") (pointer_text path)
detail_line (ring_group path) = quoted_line (codes "ring ") (pointer_text path)
detail_line (counted n) = codes "count " ++ decimal n ++ codes "\n"
detail_line (of_token path) = quoted_line (codes "token ") (path_text path)
detail_line (at_place place) = quoted_line (codes "place ") (place_text place)
detail_line (ring_place place) = quoted_line (codes "ring ") (place_text place)
detail_line (other_token path) = quoted_line (codes "other ") (path_text path)
detail_line (on_platform platform) = codes "platform " ++ platform_name platform ++ codes "\n"
detail_line (of_key key) = quoted_line (codes "key ") key
detail_line (ring_set name) = quoted_line (codes "ring ") (pointer_text (codes "sets" ∷ name ∷ []))

abbrev pub detail_lines : List Detail → List ℕ
detail_lines details = flat_map detail_line details

-- A rule that is broken, the span where it is, and what else is said of it.
pub record Report : Type 0 where
  pub rule : Rule
  pub file : List ℕ
  pub start : ℕ
  pub end : ℕ
  pub details : List Detail

abbrev pub report : Rule → List ℕ → ℕ → ℕ → List Detail → Report
report rule file start end details = record { rule = rule; file = file; start = start; end = end; details = details }

-- the text of a file; of an absent one it is empty
abbrev pub file_text : FilesData → List ℕ → List ℕ
file_text files file = unwrap_or (finite.get files file) []

-- what is printed of it, with its line and column in the file's text
unfoldable pub report_text : FilesData → Report → List ℕ
report_text files r = refusal_text r.rule r.file (file_text files r.file) r.start r.end ++ detail_lines r.details
