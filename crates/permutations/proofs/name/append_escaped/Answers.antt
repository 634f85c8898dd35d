use Rattle.std.proofs.Common.{◌++◌, ap, sym, ◌∙◌}
use Rattle.std.specs.List.{list_all}
use Rattle.std.specs.String.{string_bytes}
use Rattle.permutations.specs.Name.{is_unescaped}
use Rattle.permutations.proofs.Escapes.{escaped-unescaped}
use Rattle.permutations.proofs.name.append_escaped.Goals as goal

pub returns-then-are_unescaped : goal.returns-then-are_unescaped
returns-then-are_unescaped c =
    let kept = ap (list_all is_unescaped) (sym c.as_bytes.ensures.value) ∙ (sym c.are_unescaped.ensures ∙ c.if-are_unescaped.true) in
    c.in_ok-push_str.ensures.bytes ∙ ap (λ text. string_bytes c.args.out.now ++ text) (sym (escaped-unescaped c.args.name.now kept))
