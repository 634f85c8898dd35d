use Rattle.std.proofs.Common.{◌≡◌, ℕ, List, ◌∷◌, [], ◌++◌, Some, Bor, ap, subst, sym, ◌∙◌, append_assoc}
use Rattle.std.proofs.KnownBytes.{Appends-trans}
use Rattle.edit_script.specs.declared.change.Change.{Change}
use Rattle.edit_script.specs.declared.change.Change.TheVariants.{Written}
use Rattle.edit_script.specs.View.{change_view, with_line}
use Rattle.edit_script.specs.Stream.{record_line, record_of}
use Rattle.edit_script.proofs.Written.{on_err, on_err_then, part_more, part_after}
use Rattle.edit_script.proofs.record_line.write_change.Goals as goal

-- the record of new bytes, by the line that the change carries
record_is : (change : Change) (path bytes : Bor (List ℕ)) (line piece : List ℕ) → change ≡ Written path bytes line → change_view change ≡ with_line (change_view change).0 → piece ≡ line → record_of (change_view change).0 ≡ piece ++ (bytes.now ++ 10 ∷ [])
record_is change path bytes line piece is lined same =
    let P : Change → Type 0 = λ x. change_view x ≡ with_line (change_view x).0 in
    let first : line ≡ record_line (path.now, Some bytes.now) = ap (λ x. x.1) (subst P is lined) in
    ap (λ x. record_of (change_view x).0) is ∙ (append_assoc (record_line (path.now, Some bytes.now)) bytes.now (10 ∷ []) ∙ ap (λ x. x ++ (bytes.now ++ 10 ∷ [])) (sym (same ∙ first)))

pub returns-in_err-write_all-in-Written-clause-part :
    goal.returns-in_err-write_all-in-Written-clause-part
returns-in_err-write_all-in-Written-clause-part g c =
    let piece = c.as_slice-in-Written.result.now in
    let bytes = c.in-Written.bytes.now in
    let whole = record_is c.args.change.now c.in-Written.field-0 c.in-Written.bytes c.in-Written.line piece c.in-Written.is c.requires c.as_slice-in-Written.ensures in
    on_err c.from_residual.result (part_more (g.K.Sink.written c.args.out.now) (g.K.Sink.written c.write_all-in-Written.new.out) (record_of (change_view c.args.change.now).0) piece (bytes ++ 10 ∷ []) c.in_err-write_all-in-Written.ensures.part whole)

pub returns-in_err-write_all-in-Written-2-clause-part :
    goal.returns-in_err-write_all-in-Written-2-clause-part
returns-in_err-write_all-in-Written-2-clause-part g c =
    let piece = c.as_slice-in-Written.result.now in
    let bytes = c.in-Written.bytes.now in
    let whole = record_is c.args.change.now c.in-Written.field-0 c.in-Written.bytes c.in-Written.line piece c.in-Written.is c.requires c.as_slice-in-Written.ensures in
    on_err c.from_residual-in_err-write_all-in-Written-2.result
    (part_after (g.K.Sink.written c.args.out.now) (g.K.Sink.written c.write_all-in-Written.new.out) (g.K.Sink.written c.write_all-in-Written-2.new.out) (record_of (change_view c.args.change.now).0) piece bytes (10 ∷ []) c.in_ok-write_all-in-Written.ensures.whole c.in_err-write_all-in-Written-2.ensures.part whole)

pub returns-in_ok-write_all-in-Written-2-clause-part :
    goal.returns-in_ok-write_all-in-Written-2-clause-part
returns-in_ok-write_all-in-Written-2-clause-part g c =
    let piece = c.as_slice-in-Written.result.now in
    let bytes = c.in-Written.bytes.now in
    let whole = record_is c.args.change.now c.in-Written.field-0 c.in-Written.bytes c.in-Written.line piece c.in-Written.is c.requires c.as_slice-in-Written.ensures in
    let before = g.K.Sink.written c.args.out.now in
    let between = g.K.Sink.written c.write_all-in-Written-2.new.out in
    let after = g.K.Sink.written c.write_all-in-Written-3.new.out in
    let done = Appends-trans before (g.K.Sink.written c.write_all-in-Written.new.out) between piece bytes c.in_ok-write_all-in-Written.ensures.whole c.in_ok-write_all-in-Written-2.ensures.whole in
    on_err_then c.write_all-in-Written-3.result
    (λ front. part_after before between after (record_of (change_view c.args.change.now).0) (piece ++ bytes) (10 ∷ []) [] done front (whole ∙ sym (append_assoc piece bytes (10 ∷ []))))
    c.write_all-in-Written-3.ensures.part
