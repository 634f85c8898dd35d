use Rattle.std.proofs.Common.{Option, inr, subst}
use Rattle.alias_ref.specs.Laws.{Flat}
use Rattle.build_plain.specs.OneTree.{ComesTo, IsStop}
use Rattle.explain_cli.specs.inner.Judging.{IsWeighed}
use Rattle.explain_cli.proofs.AcceptedTrees.{accepted, is_fit, token_breaks, tree_breaks}
use Rattle.explain_cli.proofs.judging.judged.Goals as goal

pub returns-in-Some-clause-judged : goal.returns-in-Some-clause-judged
returns-in-Some-clause-judged c =
    accepted c.args.files.now c.args.name.now c.in-Ok.flat c.in-Some.flat c.in-Ok.ensures.ok
    (λ settings e. subst (λ (o : Option Flat). IsWeighed settings c.in-Ok.flat o) c.in-Some.is (c.in_ok-flat-in-Ok.ensures settings e))

pub returns-in-Some-clause-fit : goal.returns-in-Some-clause-fit
returns-in-Some-clause-fit c short =
    is_fit (record {
      paths = c.merged_tokens.ensures.paths;
      in_files = c.merged_tokens.ensures.files;
      places = c.printed_spans.ensures.tokens;
      names = c.permutation_names.ensures;
    }) c.args.files.now short c.resolver_is_utf8.ensures c.args.name.now c.in-Ok.flat c.in-Some.flat c.in-Ok.ensures.ok
    (λ settings e. subst (λ (o : Option Flat). IsWeighed settings c.in-Ok.flat o) c.in-Some.is (c.in_ok-flat-in-Ok.ensures settings e))

pub returns-in-None-clause-judged : goal.returns-in-None-clause-judged
returns-in-None-clause-judged c =
    inr (token_breaks c.args.files.now c.args.name.now c.in-Ok.flat c.in-Ok.ensures.ok
    (λ settings e. subst (λ (o : Option Flat). IsWeighed settings c.in-Ok.flat o) c.in-None.is (c.in_ok-flat-in-Ok.ensures settings e)))

pub returns-in-Err-NoFlat-clause-judged : goal.returns-in-Err-NoFlat-clause-judged
returns-in-Err-NoFlat-clause-judged c =
    inr (tree_breaks c.args.files.now c.args.name.now (subst (IsStop (ComesTo c.args.files.now c.args.name.now)) c.in-Err-NoFlat.field-0-is c.in-Err-NoFlat.ensures.stop))
