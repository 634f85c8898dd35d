-- A script that was read from a source to its end, and what the source had left says of it.
use Rattle.std.proofs.Common.{◌≡◌, ◌+◌, ◌≤◌, ◌<◌, ◌∙◌, ℕ, List, ◌++◌, length, Option, Some, None, Result, Ok, Err, ap, sym, subst, arith, append-nil, length-append}
use Rattle.std.specs.Prelude.{IfSome, IsErrAnd, IsErrOf}
use Rattle.std.proofs.lemmas.Option.{none-some, same_Some}
use Rattle.std.specs.Io.KnownBytes.{Consumes, IsAtEnd}
use Rattle.tk_io.specs.Reading.{TakesExactly}
use Rattle.tk_io.specs.declared.source.ReadStop.{ReadStop}
use Rattle.tk_io.specs.declared.source.ReadStop.TheVariants as reading
use Rattle.edit_script.specs.Script.{EventData, IsScript, IsScriptStop}
use Rattle.edit_script.specs.Files.{EveryFits, IsUnfit}
use Rattle.edit_script.proofs.Readings.{one_reading}
use Rattle.edit_script.proofs.UnfitEvents.{not_both}
use Rattle.token_cli.specs.Headline.{OfSource, most_bytes}
use Rattle.token_cli.specs.inner.Causes.{of_read}
use Rattle.token_cli.specs.declared.stop.Stop.{Stop}
use Rattle.token_cli.specs.declared.stop.Stop.TheVariants as stop

-- a run that did not stop since the script is too long read no more than the limit
pub not_long : {X T : Type 0} (r : Result X Stop) (s : ReadStop) → IsErrAnd r (λ e. e ≡ of_read s) → (r ≡ Err stop.TooLong → ⊥) → IsErrOf {T = T} (Err s) reading.TooLong → ⊥
not_long (Ok y) s h not is = absurd h
not_long {X} {T} (Err e) s h not is = not (ap Err (h ∙ ap of_read (same s reading.TooLong is)))
  where
    same : (x y : ReadStop) → IsErrOf {T = T} (Err x) y → x ≡ y
    same x y e = cc

-- what holds of its bytes holds of what the source had left
pub of_source : (left rest : Option (List ℕ)) (script : List ℕ) (claim : List ℕ → Type 0) → Consumes left rest script → IsAtEnd rest → length script ≤ most_bytes → claim script
    → OfSource left claim
of_source None rest script claim all end short holds = tt
of_source (Some xs) None script claim all end short holds = absurd all
of_source (Some xs) (Some ys) script claim all end short holds =
    let same : xs ≡ script = all ∙ (ap (λ l. script ++ l) end ∙ append-nil script) in
    (subst (λ (l : List ℕ). length l ≤ most_bytes) (sym same) short, subst claim (sym same) holds)

pub at_some : {A : Type 0} (x : A) (o : Option A) (P : A → Type 0) → o ≡ Some x → IfSome o P → P x
at_some x None P e h = absurd (none-some x e)
at_some x (Some y) P e h = subst P (same_Some y x e) h

-- what a source took that told what it had left
pub taken : (n : ℕ) (script : List ℕ) (old new : Option (List ℕ)) → old ≡ Some script → TakesExactly n old new → n ≤ length script
taken n script None new e t = absurd (none-some script e)
taken n script (Some xs) None e t = absurd t.1
taken n script (Some xs) (Some ys) e t = let same = same_Some xs script e in omega (arith, ap length t.1, length-append t.0 ys, t.2, ap length same)

-- The script is what the source told that it had left.
module _ (left rest : Option (List ℕ)) (script : List ℕ) (told : left ≡ Some script) where
  -- what holds of the script, and that it is not too long
  pub of_it : (claim : List ℕ → Type 0) → OfSource left claim → (length script ≤ most_bytes) × claim script
  of_it claim h = at_some script left (λ text. (length text ≤ most_bytes) × claim text) told h

  pub longer : {P : Type 0} → most_bytes < length script → (claim : List ℕ → Type 0) → OfSource left claim → P
  longer more claim h = absurd (omega (arith, more, (of_it claim h).0))

  pub too_long : {P : Type 0} → TakesExactly (most_bytes + 1) left rest → length script ≤ most_bytes → P
  too_long t short = let more = taken (most_bytes + 1) script left rest told t in absurd (omega (arith, more, short))

  -- a script with a reading is not refused, ..
  pub is_read : {P : Type 0} (es : List EventData) (at : ℕ) → IsScript script es → OfSource left (λ text. IsScriptStop text at) → P
  is_read es at is h = absurd ((of_it (λ text. IsScriptStop text at) h).1.none es is)

  -- .. and one without has none
  pub has_none : {P : Type 0} → ((es : List EventData) → IsScript script es → ⊥) → (claim : List EventData → Type 0) → OfSource left (λ text. (es : List EventData) × IsScript text es × claim es) → P
  has_none none claim h = let made = (of_it (λ text. (es : List EventData) × IsScript text es × claim es) h).1 in absurd (none made.0 made.1)

  -- what holds of the events that were read holds of the script's
  pub of_events : (es : List EventData) → IsScript script es → (claim : List EventData → Type 0) → OfSource left (λ text. (fs : List EventData) × IsScript text fs × claim fs) → claim es
  of_events es is claim h =
      let (fs, is_too, holds) = (of_it (λ text. (fs : List EventData) × IsScript text fs × claim fs) h).1 in
      subst claim (one_reading script fs es is_too is) holds

  -- events that fit are not told as one that does not, ..
  pub every_fits : {P : Type 0} (es : List EventData) (number : ℕ) → IsScript script es → EveryFits es → OfSource left (λ text. (fs : List EventData) × IsScript text fs × IsUnfit fs number) → P
  every_fits es number is fits h = absurd (not_both es number fits (of_events es is (λ fs. IsUnfit fs number) h))

  -- .. nor the other way round
  pub one_unfit : {P : Type 0} (es : List EventData) (number : ℕ) → IsScript script es → IsUnfit es number → (claim : List EventData → Type 0) → ((fs : List EventData) → claim fs → EveryFits fs)
      → OfSource left (λ text. (fs : List EventData) × IsScript text fs × claim fs) → P
  one_unfit es number is unfit claim fits h = absurd (not_both es number (fits es (of_events es is claim h)) unfit)
