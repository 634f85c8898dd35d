-- A text has at most one answer.
use Rattle.std.proofs.Common.{◌≡◌, ℕ, ◌<◌, List, ap, ◌∙◌, subst, arith, Option, Some, None, Result, Ok, Err, IfOk, IfErr}
use Rattle.grammar.specs.Grammar.{Derives}
use Rattle.grammar.specs.Stop.{IsStop}
use Rattle.json_span.specs.Grammar.{grammar, json_text}
use Rattle.json_span.specs.Tree.{Placed}
use Rattle.json_span.specs.Reading.{Shows}
use Rattle.json_span.specs.Flaw.{Flaw, first_flaw}
use Rattle.json_span.specs.Answer.{Answer, shows, flawed, stops, IsAnswer, IsJsonFault, Answers}
use Rattle.json_span.specs.View.{node_view}
use Rattle.json_span.specs.declared.node.Node.{Node}
use Rattle.json_span.specs.declared.reader.JsonFault.{JsonFault}
use Rattle.json_span.specs.declared.reader.JsonFault.TheVariants.{Syntax, Dup, Deep, NoMemory}
use Rattle.json_span.proofs.Rfc.{to_rfc, from_rfc}
use Rattle.json_span.proofs.Exists.{shown}
use Rattle.json_span.proofs.Unique.{shows_one, shows_derives}

pub shows_text : (text : List ℕ) (n : Placed) → Shows text n → Derives grammar json_text text
shows_text text n s = to_rfc (shows_derives text n s)

pub text_shows : (text : List ℕ) → Derives grammar json_text text → (n : Placed) × Shows text n
text_shows text d = shown text (from_rfc d)

none_some : (o : Option Flaw) (f : Flaw) → o ≡ None → o ≡ Some f → ⊥
none_some o f e h = cc

some_one : (o : Option Flaw) (f g : Flaw) → o ≡ Some f → o ≡ Some g → f ≡ g
some_one o f g e h = cc

not_below : (text : List ℕ) (a b : ℕ) → IsStop grammar json_text text a → IsStop grammar json_text text b → a < b → ⊥
not_below text a b x y lt = x.longest b lt y.within_text y.front

stop_one : (text : List ℕ) (a b : ℕ) → IsStop grammar json_text text a → IsStop grammar json_text text b → a ≡ b
stop_one text a b x y = omega (arith, not_below text a b x y, not_below text b a y x)

pub one_answer : (text : List ℕ) (a b : Answer) → IsAnswer text a → IsAnswer text b → a ≡ b
one_answer text (shows n) (shows m) (s, f) (s2, f2) = ap shows (shows_one text n m s s2)
one_answer text (shows n) (flawed f) (s, e) (m, s2, e2) = absurd (none_some (first_flaw n) f e (ap first_flaw (shows_one text n m s s2) ∙ e2))
one_answer text (shows n) (stops at) (s, e) r = absurd (r.no_reading (shows_text text n s))
one_answer text (flawed f) (shows n) (m, s2, e2) (s, e) = absurd (none_some (first_flaw n) f e (ap first_flaw (shows_one text n m s s2) ∙ e2))
one_answer text (flawed f) (flawed g) (m, s, e) (n, s2, e2) = ap flawed (some_one (first_flaw n) f g (ap first_flaw (shows_one text n m s2 s) ∙ e) e2)
one_answer text (flawed f) (stops at) (m, s, e) r = absurd (r.no_reading (shows_text text m s))
one_answer text (stops at) (shows n) r (s, e) = absurd (r.no_reading (shows_text text n s))
one_answer text (stops at) (flawed f) r (m, s, e) = absurd (r.no_reading (shows_text text m s))
one_answer text (stops a) (stops b) r s = ap stops (stop_one text a b r.stop s.stop)

answer_is : {a b : Answer} → Some a ≡ Some b → a ≡ b
answer_is e = cc

-- what `read` answered, found or refused, is the text's answer
pub is_answer : (text : List ℕ) (r : Result Node JsonFault) → IfOk r (λ n. IsAnswer text (shows (node_view n))) → IfErr r (λ e. IsJsonFault text e) → Answers text r
is_answer text (Ok n) found refused a e = subst (IsAnswer text) (answer_is e) found
is_answer text (Err (Syntax at)) found refused a e = subst (IsAnswer text) (answer_is e) refused
is_answer text (Err (Dup start end)) found refused a e = subst (IsAnswer text) (answer_is e) refused
is_answer text (Err (Deep start end)) found refused a e = subst (IsAnswer text) (answer_is e) refused
is_answer text (Err NoMemory) found refused a e = cc
