use Rattle.std.proofs.Common.{◌≡◌, ◌+◌, List, ℕ, drop, rules, sym, ◌∙◌, arith}
use Rattle.std.specs.Prelude.{slice_range}
use Rattle.std.specs.Coded.{Coded-set}
use Rattle.std.proofs.Math.Logic.{∥∥₁_elim}
use Rattle.std.proofs.lemmas.Result.{IfOk-weaker}
use Rattle.json_span.specs.CodedText.{coded_text}
use Rattle.json_span.specs.Table.{IsString}
use Rattle.json_span.proofs.Lying.{quote_seen, name_inside, name_read, content_at, has_content}
use Rattle.json_span.proofs.Strings as string
use Rattle.json_span.proofs.text.string_text.Goals as goal

pub overflow_add-at : goal.overflow_add-at
overflow_add-at c = let (s, end, p) = c.requires in let h = name_inside c.args.text.now s c.args.at end p in search (rules, h)

pub plain_end-plain-requires : goal.plain_end-plain-requires
plain_end-plain-requires c = let (s, end, p) = c.requires in let h = name_inside c.args.text.now s c.args.at end p in omega (arith, h)

pub range-requires-clause-start_boundary : goal.range-requires-clause-start_boundary
range-requires-clause-start_boundary c = λ _.
    let (s, end, p) = c.requires in
    string.behind_byte c.args.text.now 34 c.args.at c.utf8.text (omega arith) (name_inside c.args.text.now s c.args.at end p) (quote_seen c.args.text.now s c.args.at end p)

pub returns-then-has : goal.returns-then-has
returns-then-has c = λ s end p.
    let T = c.args.text.now in
    let plain = c.plain_end-plain.result in
    let k = (string.plain_string T c.args.at plain (name_inside T s c.args.at end p) (quote_seen T s c.args.at end p) c.plain_end-plain.ensures.plain c.if-has.ensures.bound (sym c.if-has.ensures.test)).1 in
    let same : c.of.result ≡ slice_range T (c.args.at + 1) plain = c.of.ensures ∙ c.range.ensures.value in
    same ∙ sym (name_read T s (slice_range T (c.args.at + 1) plain) c.args.at end (plain + 1) p k)

pub decode-requires-clause-boundary : goal.decode-requires-clause-boundary
decode-requires-clause-boundary c =
    let (s, end, p) = c.requires in
    string.behind_byte c.args.text.now 34 c.args.at c.utf8.text (omega arith) (name_inside c.args.text.now s c.args.at end p) (quote_seen c.args.text.now s c.args.at end p)

pub decode-requires-clause-content : goal.decode-requires-clause-content
decode-requires-clause-content c = let (s, end, p) = c.requires in has_content c.args.text.now s c.args.at end p

pub returns : goal.returns
returns c =
    let T = c.args.text.now in
    IfOk-weaker c.owned.result (λ t. t ≡ c.as_str.result.now) (λ t. (s : List ℕ) (end : ℕ) → IsString T c.args.at s end → t ≡ s)
    (λ t h s end p. ∥∥₁_elim p (Coded-set coded_text t s) (λ x. h ∙ c.as_str.ensures.value ∙ c.in_ok-characters.ensures s (drop end T) (content_at T s c.args.at end x))) c.owned.ensures
