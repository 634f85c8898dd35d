-- Each document breaks no rule, or a break is told of it.
use Rattle.std.proofs.Common.{◌≡◌, ℕ, zero, suc, ◌+◌, ◌<◌, ◌≤◌, true, List, [], ◌∷◌, ◌++◌, ◌⊎◌, inl, inr, Option, Some, None, map, length, refl, arith}
use Rattle.std.proofs.lemmas.Bool.{cases_eq}
use Rattle.std.specs.List.{range_with_len}
use Rattle.json_span.specs.Tree.{Placed, start_of, end_of}
use Rattle.ring.specs.Existence.{EachGraphAnswers, ReachesOnly}
use Rattle.ring.specs.Lists.{In}
use Rattle.ring.specs.Routes.{IsRoute}
use Rattle.resolver_doc.specs.declared.rule.Break.{Break}
use Rattle.resolver_doc.specs.declared.rule.PlanRule.TheVariants.{Cycle}
use Rattle.resolver_doc.specs.Answer.{IsUnbroken}
use Rattle.resolver_doc.specs.Break.{first_of}
use Rattle.resolver_doc.specs.Document.{SetData, resolver_of, set_entries, name_in}
use Rattle.resolver_doc.specs.Form.{form_breaks}
use Rattle.resolver_doc.specs.Laws.{IsBroken, EachDocumentAnswers}
use Rattle.resolver_doc.specs.Naming.{naming_breaks}
use Rattle.resolver_doc.specs.Rings.{set_needs, are_sets_right, IsRingOfSets, HasNoRingOfSets}
use Rattle.resolver_doc.proofs.First.{none_is_told}
use Rattle.resolver_doc.proofs.RightSets.{listed_right}
use Rattle.resolver_doc.proofs.SetRings.{first_below, needed_below, ring_closes}

in_range : (a n v : ℕ) → a ≤ v → v < a + n → In v (range_with_len a n)
in_range a zero v h k = absurd (omega (arith, h, k))
in_range a (suc n) v h k = elim (cases_eq v a) [
  | inl e ↦ inl e
  | inr other ↦ inr (in_range (a + 1) n v (omega (arith, h, other)) (omega (arith, k)))
]

-- routes come to the document, which is the number after the sets, and to the numbers of sets
module _ (sets : List SetData) (right : are_sets_right sets sets ≡ true) where
  abbrev numbers : List ℕ
  numbers = length sets ∷ range_with_len 0 (length sets)

  within : ReachesOnly (set_needs sets) (length sets) numbers
  within v r = begins r.before r.steps
    where
      begins : (xs : List ℕ) → IsRoute (set_needs sets) (length sets) (xs ++ v ∷ []) → In v numbers
      begins [] s = inl s.0
      begins (x ∷ xs) s =
          let below = first_below (length sets) (set_needs sets) (needed_below sets right) x v xs s.1 in
          inr (in_range 0 (length sets) v (omega arith) (omega (arith, below)))

-- sets name each other in a ring, or they do not
abbrev AreJudged : List SetData → Type 0
AreJudged sets = ((ring : List ℕ) × IsRingOfSets sets ring) ⊎ HasNoRingOfSets sets

abbrev Answers : Placed → Type 0
Answers root = IsUnbroken root ⊎ IsBroken root

module _ (each : EachGraphAnswers ℕ) where
  sets_answer : (sets : List SetData) → are_sets_right sets sets ≡ true → AreJudged sets
  sets_answer sets right = each cases_eq (set_needs sets) (length sets) (numbers sets right) (within sets right)

  ring_told : (root : Placed) → form_breaks root ≡ [] → naming_breaks root ≡ [] → AreJudged (resolver_of root).sets → Answers root
  ring_told root forms names (inr none) = inl (record { forms = forms; names = names; rings = none })
  ring_told root forms names (inl (ring, is)) =
      let closed = ring_closes (set_entries root) ring is in
      inr (
        record { rule = Cycle; start = start_of closed.0; end = end_of closed.0 },
        map (name_in (set_entries root)) ring,
        inr (inr (record {
          forms = forms;
          names = names;
          rule = refl;
          ring = record {
            ring = ring;
            is = is;
            named = refl;
            string = closed.0;
            closes = closed.1;
            starts = refl;
            ends = refl;
          };
        })),
      )

  name_told : (root : Placed) → form_breaks root ≡ [] → (o : Option Break) → first_of (naming_breaks root) ≡ o → Answers root
  name_told root forms (Some told) e = inr (told, [], inr (inl (record { forms = forms; first = e; no_ring = refl })))
  name_told root forms None e =
      ring_told root forms (none_is_told (naming_breaks root) e)
      (sets_answer (resolver_of root).sets (listed_right (set_entries root)))

  form_told : (root : Placed) (o : Option Break) → first_of (form_breaks root) ≡ o → Answers root
  form_told root (Some told) e = inr (told, [], inl (record { first = e; no_ring = refl }))
  form_told root None e = name_told root (none_is_told (form_breaks root) e) (first_of (naming_breaks root)) refl

  pub documents_answer : EachDocumentAnswers
  documents_answer root = form_told root (first_of (form_breaks root)) refl
