use Rattle.std.proofs.Common.{◌≡◌, ℕ, List, [], ◌++◌, codes, Option, Result, Ok, Err, OnOk, ap, sym, subst, refl, append-nil, append_assoc}
use Rattle.std.proofs.KnownBytes.{Appends-trans}
use Rattle.edit_script.proofs.Written.{on_err, on_err_then, part_after, part_more}
use Rattle.std.specs.Io.KnownBytes.{Appends}
use Rattle.theme_cli.proofs.reporting.write_line.Goals as goal

on_ok_then : {T E P Q : Type 0} (r : Result T E) → (P → Q) → OnOk r P → OnOk r Q
on_ok_then (Ok x) f p = f p
on_ok_then (Err e) f p = tt

-- what went before, and the rest
two_written : (a b c : Option (List ℕ)) (all p q : List ℕ) → Appends a b p → Appends b c q → all ≡ p ++ q → Appends a c all
two_written a b c all p q first second e = subst (λ (l : List ℕ). Appends a c l) (sym e) (Appends-trans a b c p q first second)

abbrev end : List ℕ
end = codes "\n"

abbrev line : List ℕ → List ℕ → List ℕ
line said matter = said ++ matter ++ end

pub returns-in_err-write_all-clause-part : goal.returns-in_err-write_all-clause-part
returns-in_err-write_all-clause-part g c =
    let said = c.args.said.now in
    let matter = c.args.matter.now in
    on_err c.from_residual.result (part_more (g.E.Sink.written c.args.err.now) (g.E.Sink.written c.write_all.new.out) (line said matter) said (matter ++ end) c.in_err-write_all.ensures.part (append_assoc said matter end))

pub returns-in_err-write_all-2-clause-part : goal.returns-in_err-write_all-2-clause-part
returns-in_err-write_all-2-clause-part g c =
    let said = c.args.said.now in
    let matter = c.args.matter.now in
    on_err c.from_residual-in_err-write_all-2.result
    (part_after (g.E.Sink.written c.args.err.now) (g.E.Sink.written c.write_all.new.out) (g.E.Sink.written c.write_all-2.new.out) (line said matter) said matter end c.in_ok-write_all.ensures.whole c.in_err-write_all-2.ensures.part (append_assoc said matter end))

pub returns-clause-whole : goal.returns-clause-whole
returns-clause-whole g c =
    let said = c.args.said.now in
    let matter = c.args.matter.now in
    let before = g.E.Sink.written c.args.err.now in
    let between = g.E.Sink.written c.write_all-2.new.out in
    let done = Appends-trans before (g.E.Sink.written c.write_all.new.out) between said matter c.in_ok-write_all.ensures.whole c.in_ok-write_all-2.ensures.whole in
    on_ok_then c.write_all-3.result
    (λ last. two_written before between (g.E.Sink.written c.write_all-3.new.out) (line said matter) (said ++ matter) end done last refl)
    c.write_all-3.ensures.whole

pub returns-clause-part : goal.returns-clause-part
returns-clause-part g c =
    let said = c.args.said.now in
    let matter = c.args.matter.now in
    let before = g.E.Sink.written c.args.err.now in
    let between = g.E.Sink.written c.write_all-2.new.out in
    let done = Appends-trans before (g.E.Sink.written c.write_all.new.out) between said matter c.in_ok-write_all.ensures.whole c.in_ok-write_all-2.ensures.whole in
    on_err_then c.write_all-3.result
    (λ front. part_after before between (g.E.Sink.written c.write_all-3.new.out) (line said matter) (said ++ matter) end [] done front (ap (λ l. (said ++ matter) ++ l) (sym (append-nil end))))
    c.write_all-3.ensures.part
