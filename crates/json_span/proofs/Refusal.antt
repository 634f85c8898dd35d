-- Where the reader stops, the text has no reading, and its longest viable prefix ends.
use Rattle.std.proofs.Common.{◌≡◌, ℕ, ◌<◌, ◌≤◌, List, [], length, drop, refl, ap, ◌∙◌, subst, inl, inr}
use Rattle.std.proofs.lemmas.List.{drop_all}
use Rattle.grammar.specs.Grammar.{named, Reads}
use Rattle.grammar.specs.Predict.{on_both, at_first, at_second}
use Rattle.grammar.specs.Stop.{Stops, Refuses}
use Rattle.grammar.proofs.Tables.{passes_from}
use Rattle.grammar.proofs.Refusals.{refuses}
use Rattle.grammar.proofs.Predicts.{reads}
use Rattle.json_span.specs.Grammar.{value, ws, grammar, json_text}
use Rattle.json_span.specs.Predictive.{rules, ahead, json}
use Rattle.json_span.specs.Tree.{Placed}
use Rattle.json_span.specs.Reading.{ValueAt, Shows}
use Rattle.json_span.specs.inner.Scan.{ReadsTo, Halts}
use Rattle.json_span.specs.inner.Skipping.{StopsAt}
use Rattle.json_span.specs.declared.stop.Stop.{Stop}
use Rattle.json_span.specs.declared.stop.Stop.TheVariants as stopped
use Rattle.json_span.specs.declared.table.Span.{Span}
use Rattle.json_span.specs.inner.Building.{IsBuilt, IsTableOf, end_of_built, flaw_view}
use Rattle.json_span.specs.Answer.{IsAnswer, IsJsonFault, fault_of, fault_of_stop, flawed, stops}
use Rattle.json_span.specs.declared.build.Built.{Built}
use Rattle.json_span.specs.declared.build.Built.TheVariants.{Whole, Flawed}
use Rattle.json_span.specs.declared.flaw.Flaw as declared
use Rattle.json_span.specs.declared.flaw.Flaw.TheVariants.{Dup, Deep}
use Rattle.json_span.proofs.Predictive.{honest_json, steered_json, spelled, passes}
use Rattle.json_span.proofs.Rfc.{refuses_to}

pub refusal : (text : List ℕ) (at : ℕ) → Stops rules ahead json text at → Refuses grammar json_text text at
refusal text at h = refuses_to text at (refuses rules ahead honest_json spelled passes json text at (passes_from json refl) steered_json h)

refused : (text : List ℕ) (f : declared.Flaw) → IsAnswer text (flawed (flaw_view f)) → IsJsonFault text (fault_of f)
refused text (Dup start end) h = h
refused text (Deep start end) h = h

module _ (text : List ℕ) (start : ℕ) (b : ReadsTo ws text 0 start) where
  bad_value : (stop : ℕ) → Halts (named value) text start stop → Refuses grammar json_text text stop
  bad_value stop x = refusal text stop (x.within_text, inl (at_second b.steers (at_first x.stuck)))

  pub no_value : (s : Stop) → StopsAt (named value) text start s → IsJsonFault text (fault_of_stop s)
  no_value (stopped.Syntax stop) x = bad_value stop x
  no_value stopped.NoMemory x = tt

  pub more_behind : (end last : ℕ) → ReadsTo (named value) text start end → ReadsTo ws text end last → last < length text → Refuses grammar json_text text last
  more_behind end last v c lt = refusal text last (c.within_text, inr (on_both b.steers (on_both v.steers c.steers), lt))

  pub shown : (end last : ℕ) (n : Placed) → ValueAt (length text) (drop start text) n (drop end text) → ReadsTo ws text end last → length text ≤ last → Shows text n
  shown end last n v c le = (
    drop start text,
    drop end text,
    reads rules ahead honest_json b.steers,
    v,
    subst (Reads rules ws (drop end text)) (drop_all last text le) (reads rules ahead honest_json c.steers),
  )

  pub whole_answer : (nodes : List Span) (built : Built) (close end last : ℕ) → built ≡ Whole close → IsBuilt text start 64 0 0 [] nodes built → end ≡ end_of_built built → ReadsTo ws text end last → length text ≤ last → IsTableOf text nodes
  whole_answer nodes built close end last e g h c le =
      let w = subst (IsBuilt text start 64 0 0 [] nodes) e g in
      let c2 = subst (λ z. ReadsTo ws text z last) (h ∙ ap end_of_built e) c in
      (w.tree, (shown close last w.tree w.value c2 le, w.flaw), w.kept.0)

  pub flawed_answer : (nodes : List Span) (built : Built) (f : declared.Flaw) (last_of end last : ℕ) → built ≡ Flawed f last_of → IsBuilt text start 64 0 0 [] nodes built → end ≡ end_of_built built → ReadsTo ws text end last → length text ≤ last → IsJsonFault text (fault_of f)
  flawed_answer nodes built f last_of end last e g h c le =
      let w = subst (IsBuilt text start 64 0 0 [] nodes) e g in
      let c2 = subst (λ z. ReadsTo ws text z last) (h ∙ ap end_of_built e) c in
      refused text f (w.tree, shown last_of last w.tree w.value c2 le, w.flaw)

  pub more_answer : (nodes : List Span) (built : Built) (end last : ℕ) → IsBuilt text start 64 0 0 [] nodes built → end ≡ end_of_built built → ReadsTo ws text end last → last < length text → IsAnswer text (stops last)
  more_answer nodes built end last g h c lt = more_behind (end_of_built built) last g.reads (subst (λ z. ReadsTo ws text z last) h c) lt
