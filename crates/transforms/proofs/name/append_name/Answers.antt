use Rattle.std.proofs.Common.{◌++◌, ap, sym, ◌∙◌}
use Rattle.std.specs.List.{list_all}
use Rattle.transforms.specs.PlatformName.{is_kept}
use Rattle.transforms.proofs.Spelled.{kept_whole, spelled_is_some}
use Rattle.transforms.proofs.name.append_name.Goals as goal

pub returns-then-is_kept_whole-clause-spelled : goal.returns-then-is_kept_whole-clause-spelled
returns-then-is_kept_whole-clause-spelled c =
    let kept = ap (list_all (is_kept c.args.platform)) (sym c.as_bytes.ensures.value) ∙ (sym c.is_kept_whole.ensures ∙ c.if-is_kept_whole.true) in
    c.in_ok-append.ensures.ok ∙ ap (λ text. c.args.out.now ++ text) (c.as_bytes-then-is_kept_whole.ensures.value ∙ sym (kept_whole c.args.platform c.args.name.now kept))

pub returns-then-is_kept_whole-clause-some : goal.returns-then-is_kept_whole-clause-some
returns-then-is_kept_whole-clause-some c h = spelled_is_some c.args.platform c.args.name.now c.utf8.name h

pub returns-clause-some : goal.returns-clause-some
returns-clause-some c h = spelled_is_some c.args.platform c.args.name.now c.utf8.name h
