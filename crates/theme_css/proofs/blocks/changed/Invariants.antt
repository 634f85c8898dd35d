-- What differs so far.
use Rattle.std.proofs.Common.{◌≡◌, take, filter}
use Rattle.theme_css.specs.inner.Offers.{differs_at}
use Rattle.theme_css.specs.inner.Views.{offers_view}
use Rattle.theme_css.proofs.blocks.changed.Given as goal

abbrev pub invariant-loop-each : goal.invariant-loop-each
invariant-loop-each l = l.others.items ≡ filter (λ d. differs_at (offers_view l.before.items) (offers_view l.own.items) d.rank) (take l.each-index l.declared)
