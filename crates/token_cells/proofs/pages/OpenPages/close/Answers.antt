use Rattle.token_cells.specs.declared.format.Format.TheVariants.{Css, Android, Swift, Json}
use Rattle.token_cells.proofs.pages.OpenPages.close.Goals as goal

pub returns-clause-sheets : goal.returns-clause-sheets
returns-clause-sheets c = λ cells h. record {
  css = c.in_ok-close.ensures.sheet Css cells h.css;
  android = c.in_ok-close-2.ensures.sheet Android cells h.android;
  swift = c.in_ok-close-3.ensures.sheet Swift cells h.swift;
  json = c.in_ok-close-4.ensures.sheet Json cells h.json;
}
