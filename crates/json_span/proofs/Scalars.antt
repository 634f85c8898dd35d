-- Values that hold no others.
use Rattle.std.proofs.Common.{◌≡◌, ℕ, zero, suc, List, length, drop, true, false, refl, None, Bool}
use Rattle.std.specs.Prelude.{slice_range}
use Rattle.grammar.proofs.Predicts.{reads}
use Rattle.json_span.specs.Predictive as predictive
use Rattle.json_span.specs.Predictive.{ahead}
use Rattle.json_span.specs.Tree.{Tree, a_null, a_boolean, a_number, a_string}
use Rattle.json_span.specs.Reading.{Shape, null_shape, false_shape, true_shape, number_shape, string_shape}
use Rattle.json_span.specs.Flaw.{flaw_at}
use Rattle.json_span.specs.inner.Scan.{ReadsTo}
use Rattle.json_span.specs.inner.Alternatives.{rule_of_scalar}
use Rattle.json_span.specs.declared.alternative.Scalar.{Scalar}
use Rattle.json_span.specs.declared.alternative.Scalar.TheVariants.{False, Null, True, Number, String}
use Rattle.json_span.proofs.Predictive.{honest_json}
use Rattle.json_span.proofs.Strings.{cut_at}
use Rattle.json_span.proofs.Exists.{string_of}

flaw-null : (room start : ℕ) → flaw_at room start a_null ≡ None
flaw-null zero start = refl
flaw-null (suc room) start = refl

flaw-boolean : (b : Bool) (room start : ℕ) → flaw_at room start (a_boolean b) ≡ None
flaw-boolean b zero start = refl
flaw-boolean b (suc room) start = refl

flaw-number : (k : List ℕ) (room start : ℕ) → flaw_at room start (a_number k) ≡ None
flaw-number k zero start = refl
flaw-number k (suc room) start = refl

flaw-string : (s : List ℕ) (room start : ℕ) → flaw_at room start (a_string s) ≡ None
flaw-string s zero start = refl
flaw-string s (suc room) start = refl

-- what a scalar shows
pub scalar_shape : (scalar : Scalar) (text : List ℕ) (at end : ℕ) → ReadsTo (rule_of_scalar scalar) text at end → (v : Tree) × Shape (length text) (drop at text) v (drop end text) × ((room start : ℕ) → flaw_at room start v ≡ None)
scalar_shape False text at end x = (a_boolean false, false_shape (reads predictive.rules ahead honest_json x.steers), flaw-boolean false)
scalar_shape Null text at end x = (a_null, null_shape (reads predictive.rules ahead honest_json x.steers), flaw-null)
scalar_shape True text at end x = (a_boolean true, true_shape (reads predictive.rules ahead honest_json x.steers), flaw-boolean true)
scalar_shape Number text at end x = (a_number (slice_range text at end), number_shape (reads predictive.rules ahead honest_json x.steers) (cut_at text at end x.forward), flaw-number (slice_range text at end))
scalar_shape String text at end x = let (s, k) = string_of (reads predictive.rules ahead honest_json x.steers) in (a_string s, string_shape k, flaw-string s)
