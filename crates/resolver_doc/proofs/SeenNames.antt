-- Names that were seen, and items that repeat one.
use Rattle.std.proofs.Common.{◌≡◌, ℕ, List, [], ◌∷◌, Option, is_some, sym, ap, ◌∙◌}
use Rattle.std.specs.FinMap as map
use Rattle.json_span.specs.Tree.{Placed, Entry}
use Rattle.tk_io.specs.Order.{text_cmp}
use Rattle.resolver_doc.specs.declared.rule.Break.{Break}
use Rattle.resolver_doc.specs.Break.{with_breaks}
use Rattle.resolver_doc.specs.Naming.{of_each, repeat_at, with_name, repeats, item_name, name_string}
use Rattle.resolver_doc.specs.inner.Pointers.{Numbers, HoldsTexts}
use Rattle.resolver_doc.proofs.Breaks.{with_breaks-append}

-- at first nothing is seen
pub keeps_none : (numbers : Numbers) → numbers ≡ map.empty → HoldsTexts numbers []
keeps_none numbers e q = ap is_some (ap (λ m. map.get m q) e ∙ map.get-empty text_cmp q)

-- with the next item, the others have all breaks
pub repeats_next : (sets modifiers : List Entry) (before : List (List ℕ)) (n : Placed) (ns : List Placed) (old new all : Option Break)
    → new ≡ with_breaks old (of_each (repeat_at before (item_name sets modifiers n)) (name_string n))
    → with_breaks old (repeats sets modifiers before (n ∷ ns)) ≡ all
    → with_breaks new (repeats sets modifiers (with_name before (item_name sets modifiers n)) ns) ≡ all
repeats_next sets modifiers before n ns old new all e h =
    ap (λ b. with_breaks b (repeats sets modifiers (with_name before (item_name sets modifiers n)) ns)) e
    ∙ (sym (with_breaks-append old (of_each (repeat_at before (item_name sets modifiers n)) (name_string n)) (repeats sets modifiers (with_name before (item_name sets modifiers n)) ns)) ∙ h)
