use Rattle.std.proofs.Common.{◌≡◌, ℕ, ◌+◌, ◌-◌, List, [], ◌∷◌, ◌++◌, take, drop, length, length-append, arith, refl, sym, ap, ap₂, ◌∙◌}
use Rattle.std.proofs.Common.{map as map_list}
use Rattle.std.specs.FinMap as map
use Rattle.std.specs.Option.{option_copied}
use Rattle.token_tree.specs.Tree.{children_of}
use Rattle.token_tree.specs.View.{member_view, members_view, properties_view}
use Rattle.group_inherit.specs.inner.View.{nearest_view}
use Rattle.group_inherit.specs.Flattening.{Nearest, nearest, tokens_among}
use Rattle.group_inherit.specs.Putting.{put_all}
use Rattle.group_inherit.proofs.Options.{copied_or}
use Rattle.group_inherit.proofs.Turns.{first_left, none_left, entry_lighter}
use Rattle.group_inherit.proofs.Flats.{member_put}
use Rattle.group_inherit.proofs.walking.+put.Goals as goal

front : {A : Type 0} (xs : List A) (x : A) → take (length xs) (xs ++ x ∷ []) ≡ xs
front [] x = refl
front (y ∷ xs) x = ap (λ zs. y ∷ zs) (front xs x)

-- a name that was added is taken away again
popped : {A : Type 0} (xs : List A) (x : A) (before after : List A) (n : ℕ) → before ≡ xs ++ x ∷ [] → n ≡ length before → after ≡ take (n - 1) before → after ≡ xs
popped xs x before after n e f is =
    is ∙ (ap (take (n - 1)) e ∙ (ap (λ m. take m (xs ++ x ∷ [])) (omega (arith, f, ap length e, length-append xs (x ∷ []))) ∙ front xs x))

pub put_group-put_child-requires : goal.put_group-put_child-requires
put_group-put_child-requires t c =
    let items = c.as_slice-member-items.result.now in
    let same = c.as_slice-member-items.ensures in
    let h = entry_lighter items (map.entries (members_view c.args.group.now.members)) c.loop-member.member-index c.member-item.result same c.loop-member-test.true c.member-item.is in
    (omega (arith, h, c.decreases), tt)

pub put_group-loop-member-preserved : goal.put_group-loop-member-preserved
put_group-loop-member-preserved t c =
    let items = c.as_slice-member-items.result.now in
    let i = c.loop-member.member-index in
    let x = c.member-item.result in
    let all = map_list member_view items in
    let near : Nearest = nearest_view (record { kind = c.or.result; mark = c.or-2.result }) in
    let cut = first_left member_view items i x c.loop-member-test.true c.member-item.is in
    let inner : c.push.new.self.items ≡ c.args.names.now.items ++ x.name ∷ [] = c.in_ok-push.ensures.items ∙ ap₂ (λ p n. p ++ n ∷ []) c.loop-member.invariant.names c.in_ok-copy.ensures in
    record {
      names = popped c.args.names.now.items x.name c.put_child.new.names.items c.pop.new.self.items c.put_child.new.names.len (c.in_ok-put_child.ensures.names ∙ inner) c.put_child.new.names.ok.0 c.pop.ensures.rest;
      flat = member_put c.args.names.now.items c.push.new.self.items near (drop i all) (drop (i + 1) all) (member_view x) c.loop-member.flat c.put_child.new.flat cut inner c.in_ok-put_child.ensures.flat
          ∙ c.loop-member.invariant.flat;
    }

pub put_group-returns-clause-flat : goal.put_group-returns-clause-flat
put_group-returns-clause-flat t c =
    let items = c.as_slice-member-items.result.now in
    let g = c.args.group.now in
    let above = c.args.above.now in
    let path = c.args.names.now.items in
    let same = c.as_slice-member-items.ensures in
    let near : Nearest = nearest_view (record { kind = c.or.result; mark = c.or-2.result }) in
    let mark = copied_or c.as_ref.result above.mark c.or-2.result g.deprecated (option_copied above.mark) c.or-2.ensures c.as_ref.ensures.value refl in
    let near_is : near ≡ nearest (properties_view g) (nearest_view above) = λ i. record { kind = c.or.ensures i; mark = mark i } in
    ap (λ l. put_all (tokens_among path near (children_of l)) c.loop-member.flat) (sym (none_left member_view items c.loop-member.member-index c.loop-member-test.false))
    ∙ (c.loop-member.invariant.flat
    ∙ (ap (λ l. put_all (tokens_among path near (children_of l)) c.args.flat.now) same
    ∙ ap (λ n. put_all (tokens_among path n (children_of (map.entries (members_view g.members)))) c.args.flat.now) near_is))
