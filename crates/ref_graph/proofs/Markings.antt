-- Marks of some nodes and then of others.
use Rattle.std.proofs.Common.{◌≡◌, ℕ, Bool, true, false, not, ◌||◌, ◌&&◌, List, ◌++◌, refl, sym, ap, ◌∙◌, nat_eq}
use Rattle.std.proofs.lemmas.List.Folds.{list_any-append}
use Rattle.ref_graph.specs.Edges.{is_in}
use Rattle.ref_graph.specs.inner.Marking.{is_marked, Marking}

or_again : (a b c : Bool) → ((a || b) || c) ≡ (a || (b || c))
or_again true b c = refl
or_again false b c = refl

wait_again : (w m a b : Bool) → ((w || ((m || a) && not m)) || (((m || a) || b) && not (m || a))) ≡ (w || (((m || a) || b) && not m))
wait_again true m a b = refl
wait_again false true a b = refl
wait_again false false true b = refl
wait_again false false false b = refl

pub marked_more : (xs ys : List ℕ) (m m' m'' : List Bool) (w w' w'' : List ℕ) → Marking xs m w m' w' → Marking ys m' w' m'' w'' → Marking (xs ++ ys) m w m'' w''
marked_more xs ys m m' m'' w w' w'' f s = record {
  long = s.long ∙ f.long;
  marked = λ v. s.marked v ∙ (ap (λ (b : Bool). b || is_in ys v) (f.marked v) ∙ (or_again (is_marked m v) (is_in xs v) (is_in ys v) ∙ ap (λ (b : Bool). is_marked m v || b) (sym (list_any-append (nat_eq v) xs ys))));
  waiting = λ v. s.waiting v
      ∙ (ap (λ (b : Bool). b || (is_marked m'' v && not (is_marked m' v))) (f.waiting v)
      ∙ (ap (λ (b : Bool). (is_in w v || (is_marked m' v && not (is_marked m v))) || (b && not (is_marked m' v))) (s.marked v)
      ∙ (ap (λ (b : Bool). (is_in w v || (b && not (is_marked m v))) || ((b || is_in ys v) && not b)) (f.marked v)
      ∙ (wait_again (is_in w v) (is_marked m v) (is_in xs v) (is_in ys v)
      ∙ ap (λ (b : Bool). is_in w v || (b && not (is_marked m v))) (sym (s.marked v ∙ ap (λ (b : Bool). b || is_in ys v) (f.marked v)))))));
  work = s.work ∙ f.work;
}
