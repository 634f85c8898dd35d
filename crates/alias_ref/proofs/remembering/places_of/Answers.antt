use Rattle.alias_ref.specs.inner.Remembering.{AreAt}
use Rattle.std.proofs.Common.{subst, ◌∙◌}
use Rattle.std.proofs.lemmas.List.{take_all}
use Rattle.alias_ref.proofs.RememberedTokens.{more_at}
use Rattle.alias_ref.proofs.remembering.places_of.Goals as goal

pub loop-path-preserved : goal.loop-path-preserved
loop-path-preserved c =
    more_at c.args.tokens.now c.as_slice-named.result.now c.loop-path.path-index c.path-item.result c.loop-path.places.items c.push.new.self.items c.in-Some.place
    c.loop-path.invariant c.loop-path-test.true c.path-item.is c.in-Some.ensures c.in_ok-push.ensures.items

pub returns : goal.returns
returns c =
    subst (λ ps. AreAt c.args.tokens.now ps c.loop-path.places.items) (take_all c.loop-path.path-index c.as_slice-named.result.now c.loop-path-test.false ∙ c.as_slice-named.ensures) c.loop-path.invariant
