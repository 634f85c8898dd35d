-- The size of a bare group, member by member.
use Rattle.std.proofs.Common.{◌≡◌, ℕ, suc, ◌+◌, ◌≤◌, min, max, List, [], ◌∷◌, None, T, arith, sym, subst, ◌∙◌}
use Rattle.std.specs.FinMap as map_of
use Rattle.std.specs.FinMap.Entries.{is_sorted}
use Rattle.tk_io.specs.Order.{text_cmp}
use Rattle.token_tree.specs.Tree.{Properties, Child, Named, children_of, group_with}
use Rattle.group_inherit.specs.Answer.{most_told}
use Rattle.group_inherit.specs.inner.Bare.{AreBare, IsBareSize, IsChildSize, member_count_among, member_count_in, levels_among, levels_in}
use Rattle.group_inherit.proofs.OrderedTrees.{entries_again}

abbrev pub Entries : Type 0
Entries = List (List ℕ × Child)

-- the size so far, and what is left of the members
pub record Measuring (es left : Entries) (members levels : ℕ) : Type 0 where
  pub many : min (members + member_count_among (children_of left)) most_told ≡ min (member_count_among (children_of es)) most_told
  pub high : min (max levels (levels_among (children_of left))) most_told ≡ min (levels_among (children_of es)) most_told
  pub bare : AreBare (children_of left) → AreBare (children_of es)
  pub most : members ≤ most_told
  pub low : levels ≤ most_told

pub no_member : (es : Entries) → Measuring es es 0 0
no_member es = record { many = omega arith; high = omega arith; bare = λ b. b; most = omega arith; low = omega arith }

count_more : (members a r n m : ℕ) → m ≡ min a most_told → n ≡ min (members + 1 + m) most_told → min (n + r) most_told ≡ min (members + suc (a + r)) most_told
count_more members a r n m e f = omega (arith, e, f)

height_more : (levels a r n h : ℕ) → h ≡ min a most_told → n ≡ max levels h → min (max n r) most_told ≡ min (max levels (max a r)) most_told
height_more levels a r n h e f = omega (arith, e, f)

pub member_more : (es left rest : Entries) (e : List ℕ × Child) (members levels m h n k : ℕ) → left ≡ e ∷ rest → IsChildSize e.1 m h → n ≡ min (members + 1 + m) most_told → k ≡ max levels h
    → Measuring es left members levels → Measuring es rest n k
member_more es left rest e members levels m h n k cut s is up w =
    let v : Measuring es (e ∷ rest) members levels = subst (λ (l : Entries). Measuring es l members levels) cut w in
    record {
      many = count_more members (member_count_in e.1) (member_count_among (children_of rest)) n m s.many is ∙ v.many;
      high = height_more levels (levels_in e.1) (levels_among (children_of rest)) k h s.high up ∙ v.high;
      bare = λ b. v.bare (s.bare, b);
      most = omega (arith, is);
      low = omega (arith, up, s.high, v.low);
    }

-- all members are measured
pub all_measured : (ps : Properties) (m : Named) (left : Entries) (members levels : ℕ) → ps.extends ≡ None → left ≡ [] → Measuring (map_of.entries m) left members levels → IsBareSize (group_with ps m) members levels
all_measured ps m left members levels e gone w =
    let es = map_of.entries m in
    let v : Measuring es [] members levels = subst (λ (l : Entries). Measuring es l members levels) gone w in
    record {
      bare = (e, subst (λ (l : Entries). T (is_sorted text_cmp l)) (sym (entries_again es)) (map_of.entries_sorted m), v.bare tt);
      many = omega (arith, v.many, v.most);
      high = omega (arith, v.high, v.low);
    }
