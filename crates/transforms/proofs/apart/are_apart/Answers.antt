use Rattle.std.proofs.Common.{rules, subst, ◌≡◌, Bor, List, ℕ, refl}
use Rattle.std.proofs.lemmas.List.Sorted.{answers_always}
use Rattle.std.specs.List.{IsAllAdjacentAnswer}
use Rattle.transforms.specs.Rising.{rises}
use Rattle.transforms.proofs.RisingNames.{rising_names}
use Rattle.transforms.proofs.apart.are_apart.Goals as goal

pub returns-then-is_sorted_by : goal.returns-then-is_sorted_by
returns-then-is_sorted_by c =
    let up = λ (x y : Bor (List ℕ)). rises x.now y.now in
    let answered = c.is_sorted_by.ensures.cases up (answers_always _ _ _ (λ f a r q k. search rules)) in
    let told = subst (λ xs. IsAllAdjacentAnswer (λ x y b. b ≡ up x y) xs c.is_sorted_by.result) c.deref.ensures.value answered in
    ((λ e. rising_names (λ name. name.now) c.args.names.items (subst (IsAllAdjacentAnswer (λ x y b. b ≡ up x y) c.args.names.items) c.if-is_sorted_by.true told)), (λ apart. refl))
