use Rattle.std.proofs.Common.{sym, subst, ◌∙◌}
use Rattle.std.specs.Cmp.Lexicographic.{lists_total, nat_list_cmp_total}
use Rattle.std.specs.FinMap.{slice_cmp-IsAntisymmetric, nat_cmp-IsAntisymmetric}
use Rattle.tk_io.specs.Order.{names_cmp}
use Rattle.group_inherit.specs.inner.Halves.{IsPlace, IsGap}
use Rattle.group_inherit.proofs.Halves.{put_new, put_same}
use Rattle.group_inherit.proofs.flat_tree.put_token.Goals as goal

pub returns-in_ok-insert-in-Err-clause-ok : goal.returns-in_ok-insert-in-Err-clause-ok
returns-in_ok-insert-in-Err-clause-ok c =
    let g : IsGap names_cmp c.args.path c.args.tokens.now.items c.in-Err.i = subst (λ l. IsGap names_cmp c.args.path l c.in-Err.i) c.as_slice.ensures.value c.in-Err.ensures.gap in
    c.in_ok-insert-in-Err.ensures.items ∙ sym (put_new (lists_total nat_list_cmp_total) c.args.path c.args.entry c.in-Err.i c.args.tokens.now.items g.passed g.ahead)

pub returns-in-Ok-clause-ok : goal.returns-in-Ok-clause-ok
returns-in-Ok-clause-ok c =
    let p : IsPlace names_cmp c.args.path c.args.tokens.now.items c.in-Ok.i = subst (λ l. IsPlace names_cmp c.args.path l c.in-Ok.i) c.as_slice.ensures.value c.in-Ok.ensures.place in
    sym (put_same (lists_total nat_list_cmp_total) (slice_cmp-IsAntisymmetric (slice_cmp-IsAntisymmetric nat_cmp-IsAntisymmetric)) c.args.path c.args.entry c.in-Ok.i c.args.tokens.now.items (c.args.path, c.args.entry) p)
