use Rattle.std.proofs.Common.{lit<, Some}
use Rattle.std.proofs.lemmas.Str.Pattern.{strip_prefix_char}
use Rattle.resolver_doc.proofs.Dots.{behind_both, no_first}
use Rattle.resolver_doc.proofs.sources.behind_dot.Goals as goal

pub returns-in_default : goal.returns-in_default
returns-in_default c =
    no_first c.args.text.now c.strip_prefix.result c.in_default.is (strip_prefix_char 46 c.args.text.now c.strip_prefix.result c.strip_prefix.ensures.cases (lit< tt))

pub returns : goal.returns
returns c =
    behind_both c.args.text.now c.in-Some.rest.now c.strip_prefix-2.result
    (strip_prefix_char 46 c.args.text.now (Some c.in-Some.rest) c.in-Some.ensures.cases (lit< tt))
    (strip_prefix_char 47 c.in-Some.rest.now c.strip_prefix-2.result c.strip_prefix-2.ensures.cases (lit< tt))
