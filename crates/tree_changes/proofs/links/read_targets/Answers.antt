use Rattle.std.proofs.Common.{ℕ, List, sym, ap, subst, ◌∙◌}
use Rattle.group_inherit.specs.Flattening.{TokenAt}
use Rattle.alias_ref.specs.Refs.{refs_of}
use Rattle.alias_ref.specs.Written.{Step}
use Rattle.tree_changes.specs.inner.Links.{AreNamed}
use Rattle.tree_changes.proofs.links.read_targets.Goals as goal

pub returns : goal.returns
returns c =
    let old = c.args.old.now in
    let new = c.args.new.now in
    let of_token = c.deref.ensures ∙ ap (λ (t : TokenAt). t.1.def) c.token.view_is in
    let names = c.in_ok-names.ensures ∙ ap refs_of of_token in
    let named = subst (λ (ns : List (List Step)). AreNamed old new ns c.row_of.new.row.items) c.as_slice.ensures (c.in_ok-is_lost.ensures.named c.if-is_lost.false) in (
      subst (λ (ns : List (List Step)). AreNamed old new ns c.row_of.new.row.items) names named,
      c.named_by.ensures old new c.args.token.now (sym (c.as_slice-2.ensures ∙ names))
          (subst (λ (ns : List (List Step)). AreNamed old new ns c.as_slice-3.result.now) (sym c.as_slice-2.ensures)
          (subst (λ (ts : List ℕ). AreNamed old new c.in_ok-names.names ts) (sym c.as_slice-3.ensures.value) named)),
    )
