use Rattle.std.proofs.Common.{◌++◌, sym, subst}
use Rattle.transforms.specs.Rising.{RiseTo}
use Rattle.token_cells.specs.inner.Kept.{texts_of}
use Rattle.token_cells.proofs.pages.Pages.rises.Goals as goal

pub returns : goal.returns
returns c = λ names rise is.
    subst (λ own. RiseTo (names ++ own) c.run_rises.new.rising) (sym (c.run_on.ensures (texts_of c.args.self.now))) (c.run_rises.ensures names rise is)
