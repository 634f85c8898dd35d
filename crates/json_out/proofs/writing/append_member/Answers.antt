use Rattle.std.proofs.Common.{◌++◌, codes, ◌∙◌, ap}
use Rattle.name_path.specs.Kinds.{kind_name}
use Rattle.name_path.specs.Reference.{path_text}
use Rattle.composite_rules.specs.Sound.{kind_of}
use Rattle.json_out.specs.PlatformValue.{typed_json}
use Rattle.json_out.specs.Properties.{extras_view}
use Rattle.json_out.specs.Spelling.{value_text, extras_text}
use Rattle.json_out.proofs.Appending.{six}
use Rattle.json_out.proofs.MemberJoined.{joined, kind_stays}
use Rattle.json_out.proofs.writing.append_member.Goals as goal

pub returns : goal.returns
returns c =
    let typed = c.args.typed.now in
    let kind = kind_of typed in
    let rest = value_text (typed_json typed) ++ (extras_text (extras_view c.args.extras.now) ++ codes "}") in
    six _ _ _ _ _ _ _ _ _ _ _ _ _
    c.in_ok-append.ensures.ok c.in_ok-append_path.ensures
    (c.in_ok-append-2.ensures.ok ∙ ap (λ before. c.append_path.new.out ++ before) (c.before_value.ensures ∙ ap (λ k. codes "\": {\"$type\": \"" ++ (kind_name k ++ codes "\", \"$value\": ")) c.kind.ensures))
    c.in_ok-spell.ensures c.in_ok-append_extras.ensures c.in_ok-append-3.ensures.ok
    ∙ ap (λ t. c.args.out.now ++ t) (joined (path_text c.args.path.now) (kind_name kind) rest (kind_stays kind))
