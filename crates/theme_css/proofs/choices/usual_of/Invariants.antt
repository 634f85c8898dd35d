-- The usual contexts of the modifiers so far.
use Rattle.std.proofs.Common.{◌≡◌, take}
use Rattle.resolver_doc.specs.View.{order_view}
use Rattle.theme_css.specs.Themes.{usual}
use Rattle.theme_css.specs.inner.Views.{choices_view}
use Rattle.theme_css.proofs.choices.usual_of.Given as goal

abbrev pub invariant-loop-item : goal.invariant-loop-item
invariant-loop-item l = choices_view l.usual.items ≡ usual (order_view (take l.item-index l.order))
