use Rattle.std.proofs.Common.{◌≡◌, ◌∙◌, true, false, map, ap, sym, subst, rules}
use Rattle.std.specs.Ordering.{is_lt}
use Rattle.std.specs.String.{string_bytes}
use Rattle.out_store.specs.Paths.{IsOutputPath}
use Rattle.out_store.proofs.Lines.{empty_rest, less_by, longer_rest, names_push, read_all, read_from, read_on, read_unended, read_unfit}
use Rattle.out_store.proofs.Places.{no_both}
use Rattle.out_store.proofs.listed.read_lines.Goals as goal

pub loop-last-init : goal.loop-last-init
loop-last-init c =
    (search rules, search rules, read_from c.args.text.now (map string_bytes c.new-paths.result.items) (ap (map string_bytes) c.new-paths.ensures.items))

pub returns-in_default : goal.returns-in_default
returns-in_default c =
    let some : c.is_empty.result ≡ false = cc in
    read_unended c.args.text.now (map string_bytes c.loop-last.paths.items) c.loop-last.last.now c.loop-last.rest.now c.loop-last.invariant.2 c.in_default.ensures (longer_rest c.loop-last.rest.now c.is_empty.result c.is_empty.ensures some)

pub returns-then-not-is_output_path : goal.returns-then-not-is_output_path
returns-then-not-is_output_path c =
    let bad : c.is_output_path.result ≡ false = cc in
    read_unfit c.args.text.now (map string_bytes c.loop-last.paths.items) c.loop-last.last.now c.loop-last.rest.now c.in-Some.path.now c.in-Some.more.now c.loop-last.invariant.2 c.in-Some.ensures
    (λ fits above. no_both c.is_output_path.result (c.is_output_path.ensures.1 (subst IsOutputPath (sym c.as_bytes.ensures.value) fits)) bad)

pub loop-last-preserved : goal.loop-last-preserved
loop-last-preserved c =
    let good : c.is_output_path.result ≡ true = cc in
    let above : c.is_lt.result ≡ true = cc in (
      search rules,
      search rules,
      read_on c.args.text.now (map string_bytes c.loop-last.paths.items) (map string_bytes c.push.new.self.items) c.loop-last.last.now c.loop-last.rest.now c.in-Some.path.now c.in-Some.more.now
          (names_push c.loop-last.paths.items c.push.new.self.items c.in_ok-from_str.field-0 c.in-Some.path.now c.in_ok-push.ensures.items c.in_ok-from_str.ensures.ok)
          c.loop-last.invariant.2 c.in-Some.ensures (subst IsOutputPath c.as_bytes.ensures.value (c.is_output_path.ensures.0 good)) (sym c.cmp.ensures ∙ less_by c.cmp.result (sym c.is_lt.ensures ∙ above)),
    )

pub returns : goal.returns
returns c =
    let none : c.is_empty.result ≡ true = cc in
    read_all c.args.text.now (map string_bytes c.loop-last.paths.items) c.loop-last.last.now c.loop-last.rest.now c.loop-last.invariant.2 (empty_rest c.loop-last.rest.now c.is_empty.result c.is_empty.ensures none)

pub returns-then-not-is_lt : goal.returns-then-not-is_lt
returns-then-not-is_lt c =
    let bad : c.is_lt.result ≡ false = cc in
    read_unfit c.args.text.now (map string_bytes c.loop-last.paths.items) c.loop-last.last.now c.loop-last.rest.now c.in-Some.path.now c.in-Some.more.now c.loop-last.invariant.2 c.in-Some.ensures
    (λ fits above. no_both c.is_lt.result (c.is_lt.ensures ∙ ap is_lt (c.cmp.ensures ∙ above)) bad)
