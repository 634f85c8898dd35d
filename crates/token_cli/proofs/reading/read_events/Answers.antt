use Rattle.std.proofs.Common.{◌≡◌, ℕ, List, inl, inr, sym, subst}
use Rattle.std.specs.Str.{IsUtf8, IsValidUpTo}
use Rattle.edit_script.specs.Script.{EventData, IsScript, IsScriptEnd, IsScriptStop}
use Rattle.edit_script.proofs.Spelled.{script_utf8}
use Rattle.token_cli.proofs.reading.read_events.Goals as goal

pub returns-in-Err-clause-bad : goal.returns-in-Err-clause-bad
returns-in-Err-clause-bad c at e =
    let bytes = c.args.script.now in
    let none = c.in-Err.ensures.cases.0 in
    let P : ℕ → Type 0 = λ n. IsValidUpTo bytes n in
    let here : c.valid_up_to.result ≡ at = cc (e) in
    record { none = λ es h. none (script_utf8 bytes es h); place = inl (none, subst P here (subst P (sym c.valid_up_to.ensures) c.in-Err.ensures.cases.1)) }

-- a text that is no script is refused at its stop
stopped : (text script : List ℕ) (at : ℕ) → text ≡ script → IsUtf8 script → ((es : List EventData) → IsScript text es → ⊥) → IsScriptEnd text at → IsScriptStop script at
stopped text script at same utf8 none end = record {
  none = λ es is. none es (subst (λ (bytes : List ℕ). IsScript bytes es) (sym same) is);
  place = inr (utf8, subst (λ (bytes : List ℕ). IsScriptEnd bytes at) same end);
}

pub returns-in-Ok-clause-bad : goal.returns-in-Ok-clause-bad
returns-in-Ok-clause-bad c at e =
    stopped c.in-Ok.text.now c.args.script.now at c.in-Ok.ensures.cases.0 c.in-Ok.ensures.cases.1 (c.read_script.ensures.none at e) (c.read_script.ensures.stop at e)
