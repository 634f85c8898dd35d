-- Breaks that are taken in one after another.
use Rattle.std.proofs.Common.{◌≡◌, List, [], ◌∷◌, ◌++◌, Option, refl}
use Rattle.resolver_doc.specs.declared.rule.Break.{Break}
use Rattle.resolver_doc.specs.Break.{earlier, with_breaks}

pub with_breaks-append : (first : Option Break) (xs ys : List Break) → with_breaks first (xs ++ ys) ≡ with_breaks (with_breaks first xs) ys
with_breaks-append first [] ys = refl
with_breaks-append first (x ∷ xs) ys = with_breaks-append (earlier first x) xs ys
