use Rattle.std.proofs.Common.{◌≡◌, ℕ, ◌+◌, ◌≤◌, List, ◌++◌, length, Result, Ok, Err, OnErr, arith, refl, sym, subst}
use Rattle.tk_io.specs.Writing.{Extends}
use Rattle.tk_io.proofs.Extending.{extends_self, extends_more}
use Rattle.json_span.proofs.Insides as inside
use Rattle.json_span.proofs.written.put_inside.Goals as goal

on_any : {A B P : Type 0} (r : Result A B) → P → OnErr r P
on_any (Ok x) p = tt
on_any (Err x) p = p

-- a run is put after what was written
run_added : (old mid new run : List ℕ) → Extends old mid → new ≡ mid ++ run → Extends old new
run_added old mid new run p e = extends_more old mid new p (run, e)

pub loop-out-init : goal.loop-out-init
loop-out-init c = record { within = omega arith; completes = refl; extends = extends_self c.args.out.now }

pub returns-then-special-text-clause-ok : goal.returns-then-special-text-clause-ok
returns-then-special-text-clause-ok c =
    let text = c.args.text.now in
    let special = c.first_special-special.result in
    let at = c.loop-out.at in
    inside.written_whole text c.args.out.now c.loop-out.out c.append.new.self _ at special (omega (arith, c.first_special-special.ensures.first)) (omega (arith, c.if-special-text.true)) c.first_special-special.ensures.passed refl c.loop-out.invariant.completes c.in_ok-append.ensures.ok

pub returns-in_err-append-clause-err : goal.returns-in_err-append-clause-err
returns-in_err-append-clause-err c = on_any _ (subst (Extends c.args.out.now) (sym c.in_err-append.ensures.err) c.loop-out.invariant.extends)

pub returns-in_err-write_escape-clause-err : goal.returns-in_err-write_escape-clause-err
returns-in_err-write_escape-clause-err c =
    on_any _ (extends_more c.args.out.now c.append.new.self c.write_escape.new.out (run_added c.args.out.now c.loop-out.out c.append.new.self _ c.loop-out.invariant.extends c.in_ok-append.ensures.ok) c.in_err-write_escape.ensures.err)

pub loop-out-preserved : goal.loop-out-preserved
loop-out-preserved c =
    let text = c.args.text.now in
    let special = c.first_special-special.result in
    let at = c.loop-out.at in
    let lt : special + 1 ≤ length text = omega (arith, c.first_special-special.ensures.within, c.if-special-text.false) in
    record {
      within = lt;
      completes = inside.written_more text c.args.out.now c.loop-out.out c.append.new.self c.write_escape.new.out _ at special (omega (arith, c.first_special-special.ensures.first)) (omega (arith, lt)) c.first_special-special.ensures.passed refl c.loop-out.invariant.completes c.in_ok-append.ensures.ok c.in_ok-write_escape.ensures.ok;
      extends = extends_more c.args.out.now c.append.new.self c.write_escape.new.out (run_added c.args.out.now c.loop-out.out c.append.new.self _ c.loop-out.invariant.extends c.in_ok-append.ensures.ok) (_, c.in_ok-write_escape.ensures.ok);
    }
