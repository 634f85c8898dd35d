use Rattle.std.proofs.Common.{◌∙◌, ◌++◌, ap, map, ℕ, List, Option, subst}
use Rattle.std.specs.List.{flat_map}
use Rattle.css_out.specs.Fragment.{typography_lines}
use Rattle.css_out.specs.Parts.{declaration}
use Rattle.css_out.specs.Spelling.{line_text}
use Rattle.css_out.specs.inner.Written.{IsFragment, fragment_of}
use Rattle.css_out.proofs.token.Token.typography.Goals as goal

pub returns : goal.returns
returns c =
    let prefix = c.args.self.now.cfg.now.prefix in
    let links = c.args.self.now.links.now in
    let name = c.args.name.now in
    let es = typography_lines prefix links name c.in_ok-whole.whole c.args.value.now in
    let P : Option (List ℕ) → Type 0 = λ whole.
    IsFragment name (typography_lines prefix links name whole c.args.value.now) (fragment_of c.several.result c.typography_lines.new.lines.line.text) in
    subst P c.in_ok-whole.ensures (record {
      names = c.several.ensures ∙ (c.in_ok-typography_lines.ensures.names ∙ ap (λ ns. ns ++ map (λ e. e.name) es) c.new.ensures);
      body = c.in_ok-typography_lines.ensures.text ∙ ap (λ t. t ++ flat_map line_text (map declaration es)) c.over.ensures.text;
    })
