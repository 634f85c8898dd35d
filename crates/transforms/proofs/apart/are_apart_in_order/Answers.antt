use Rattle.std.proofs.Common.{rules, subst, ◌≡◌, Bor, List, ℕ}
use Rattle.std.proofs.lemmas.List.Sorted.{answers_always}
use Rattle.std.specs.List.{IsAllAdjacentAnswer}
use Rattle.transforms.proofs.SortedNames.{is_less, told_apart}
use Rattle.transforms.proofs.apart.are_apart_in_order.Goals as goal

pub returns : goal.returns
returns c =
    let answered = c.is_sorted_by.ensures.cases (is_less (λ (name : Bor (List ℕ)). name.now)) (answers_always _ _ _ (λ f a r q k. search rules)) in
    told_apart (λ name. name.now) c.args.names.items c.sort.new.self.items c.is_sorted_by.result c.in_ok-sort.ensures.permutation c.in_ok-sort.ensures.sorted
    (subst (λ xs. IsAllAdjacentAnswer (λ x y b. b ≡ is_less (λ name. name.now) x y) xs c.is_sorted_by.result) c.deref.ensures.value answered)
