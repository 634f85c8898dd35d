use Rattle.std.proofs.Common.{◌≡◌, ◌∙◌, ℕ, List, [], ◌++◌, ap, sym, append-nil, append_assoc}
use Rattle.std.specs.Fmt.{decimal}
use Rattle.std.proofs.KnownBytes.{Appends-trans}
use Rattle.edit_script.proofs.Written.{on_err, on_err_then, part_more, part_after}
use Rattle.token_cli.proofs.Pieces.{on_ok_then, three_written}
use Rattle.token_cli.proofs.reporting.write_number.Goals as goal

abbrev line : List ℕ → List ℕ → ℕ → List ℕ → List ℕ
line program said number rest = program ++ said ++ decimal number ++ rest

-- the digits that were written are the number's
text_is : (program said : List ℕ) (number : ℕ) (digits format rest : List ℕ) → digits ≡ format → format ≡ decimal number → line program said number rest ≡ (program ++ said) ++ (digits ++ rest)
text_is program said number digits format rest same text =
    append_assoc (program ++ said) (decimal number) rest ∙ ap (λ d. (program ++ said) ++ (d ++ rest)) (sym (same ∙ text))

-- .. and the rest is the last of it
rest_is : (program said : List ℕ) (number : ℕ) (digits format rest : List ℕ) → digits ≡ format → format ≡ decimal number → line program said number rest ≡ ((program ++ said) ++ digits) ++ (rest ++ [])
rest_is program said number digits format rest same text =
    ap (λ d. ((program ++ said) ++ d) ++ rest) (sym (same ∙ text)) ∙ ap (λ l. ((program ++ said) ++ digits) ++ l) (sym (append-nil rest))

pub returns-in_err-write_said-clause-part : goal.returns-in_err-write_said-clause-part
returns-in_err-write_said-clause-part g c =
    let program = c.args.program.now in
    let said = c.args.said.now in
    let number = decimal c.args.number in
    let rest = c.args.rest.now in
    on_err c.from_residual.result (part_more (g.E.Sink.written c.args.err.now) (g.E.Sink.written c.write_said.new.err) (line program said c.args.number rest) (program ++ said) (number ++ rest) c.in_err-write_said.ensures.part (append_assoc (program ++ said) number rest))

pub returns-in_err-write_all-clause-part : goal.returns-in_err-write_all-clause-part
returns-in_err-write_all-clause-part g c =
    let program = c.args.program.now in
    let said = c.args.said.now in
    let digits = c.as_bytes.result.now in
    on_err c.from_residual-in_err-write_all.result
    (part_after (g.E.Sink.written c.args.err.now) (g.E.Sink.written c.write_said.new.err) (g.E.Sink.written c.write_all.new.out) (line program said c.args.number c.args.rest.now) (program ++ said) digits c.args.rest.now c.in_ok-write_said.ensures.whole c.in_err-write_all.ensures.part (text_is program said c.args.number digits c.format.result.now c.args.rest.now c.as_bytes.ensures.value c.format.ensures.text))

pub returns-clause-whole : goal.returns-clause-whole
returns-clause-whole g c =
    let program = c.args.program.now in
    let said = c.args.said.now in
    let digits = c.as_bytes.result.now in
    on_ok_then c.write_all-2.result
    (λ last. three_written (g.E.Sink.written c.args.err.now) (g.E.Sink.written c.write_said.new.err) (g.E.Sink.written c.write_all.new.out) (g.E.Sink.written c.write_all-2.new.out) (line program said c.args.number c.args.rest.now) (program ++ said) digits c.args.rest.now c.in_ok-write_said.ensures.whole c.in_ok-write_all.ensures.whole last (text_is program said c.args.number digits c.format.result.now c.args.rest.now c.as_bytes.ensures.value c.format.ensures.text))
    c.write_all-2.ensures.whole

pub returns-clause-part : goal.returns-clause-part
returns-clause-part g c =
    let program = c.args.program.now in
    let said = c.args.said.now in
    let digits = c.as_bytes.result.now in
    let before = g.E.Sink.written c.args.err.now in
    let between = g.E.Sink.written c.write_all.new.out in
    let done = Appends-trans before (g.E.Sink.written c.write_said.new.err) between (program ++ said) digits c.in_ok-write_said.ensures.whole c.in_ok-write_all.ensures.whole in
    on_err_then c.write_all-2.result
    (λ front. part_after before between (g.E.Sink.written c.write_all-2.new.out) (line program said c.args.number c.args.rest.now) ((program ++ said) ++ digits) c.args.rest.now [] done front (rest_is program said c.args.number digits c.format.result.now c.args.rest.now c.as_bytes.ensures.value c.format.ensures.text))
    c.write_all-2.ensures.part
