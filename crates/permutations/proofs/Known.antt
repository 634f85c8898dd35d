-- Right sources name sets that have rows.
use Rattle.std.proofs.Common.{◌≡◌, ◌<◌, ℕ, zero, suc, true, get_or, List, [], ◌∷◌, length, sym, ap, subst, inl, inr, arith}
use Rattle.std.specs.List.{All}
use Rattle.ring.specs.Lists.{In}
use Rattle.resolver_doc.specs.Document.{SourceData, file_source, set_source, inline_source, SetData}
use Rattle.resolver_doc.specs.Rings.{sets_in, is_right, are_right, are_sets_right, is_item_right, are_items_right}
use Rattle.resolver_doc.specs.View.{source_view, sources_view, sets_view, item_view, order_view}
use Rattle.permutations.specs.Permutation.{sources_written}
use Rattle.resolver_doc.specs.declared.written.WrittenSource.{WrittenSource}
use Rattle.resolver_doc.specs.declared.written.SetDef.{SetDef}
use Rattle.resolver_doc.specs.declared.written.Item.{Item}
use Rattle.resolver_doc.specs.declared.written.Item.TheVariants.{Set, Modifier}
use Rattle.permutations.specs.inner.Parts.{HasRow, HaveRows, ItemHasRows}
use Rattle.permutations.proofs.SetNeeds.{named_below, first_true, second_true}

known_of : (sets : List SetData) (s : SourceData) → is_right sets s ≡ true → HasRow (length sets) s
known_of sets (file_source name start end) r = tt
known_of sets (set_source name v) r = named_below name sets v r
known_of sets (inline_source n) r = tt

pub known_sources : (sets : List SetData) (ss : List WrittenSource) → are_right sets (sources_view ss) ≡ true → HaveRows (length sets) ss
known_sources sets [] r k d h = absurd (omega arith)
known_sources sets (s ∷ ss) r zero d h = known_of sets (source_view s) (first_true (is_right sets (source_view s)) (are_right sets (sources_view ss)) r)
known_sources sets (s ∷ ss) r (suc k) d h = known_sources sets ss (second_true (is_right sets (source_view s)) (are_right sets (sources_view ss)) r) k d (omega arith)

pub known_sets : (sets : List SetData) (ss : List SetDef) → are_sets_right sets (sets_view ss) ≡ true → All (λ s. HaveRows (length sets) s.sources) ss
known_sets sets [] r k d h = absurd (omega arith)
known_sets sets (s ∷ ss) r zero d h = known_sources sets s.sources (first_true (are_right sets (sources_view s.sources)) (are_sets_right sets (sets_view ss)) r)
known_sets sets (s ∷ ss) r (suc k) d h = known_sets sets ss (second_true (are_right sets (sources_view s.sources)) (are_sets_right sets (sets_view ss)) r) k d (omega arith)

known_item : (sets : List SetData) (item : Item) → is_item_right sets (item_view item) ≡ true → ItemHasRows (length sets) item
known_item sets (Set sources) r = known_sources sets sources r
known_item sets (Modifier name contexts default) r = known_sets sets contexts r

pub known_items : (sets : List SetData) (items : List Item) → are_items_right sets (order_view items) ≡ true → All (ItemHasRows (length sets)) items
known_items sets [] r k d h = absurd (omega arith)
known_items sets (i ∷ is) r zero d h = known_item sets i (first_true (is_item_right sets (item_view i)) (are_items_right sets (order_view is)) r)
known_items sets (i ∷ is) r (suc k) d h = known_items sets is (second_true (is_item_right sets (item_view i)) (are_items_right sets (order_view is)) r) k d (omega arith)

pub written_found : (ss : List SetDef) (v : ℕ) (s : SetDef) → v < length ss → s ≡ get_or ss v s → sources_view s.sources ≡ sources_written (sets_view ss) v
written_found [] v s h is = absurd (omega arith)
written_found (t ∷ ss) zero s h is = ap (λ (x : SetDef). sources_view x.sources) is
written_found (t ∷ ss) (suc v) s h is = written_found ss v s (omega arith) is

named_source : (n : ℕ) (s : SourceData) (more : List SourceData) → HasRow n s → ((w : ℕ) → In w (sets_in more) → w < n) → (w : ℕ) → In w (sets_in (s ∷ more)) → w < n
named_source n (file_source name start end) more known rest w i = rest w i
named_source n (set_source name v) more known rest w i = elim i [ inl e ↦ subst (λ (x : ℕ). x < n) (sym e) known | inr j ↦ rest w j ]
named_source n (inline_source m) more known rest w i = rest w i

-- what known sources name has rows
pub named_known : (n : ℕ) (ss : List WrittenSource) → HaveRows n ss → (w : ℕ) → In w (sets_in (sources_view ss)) → w < n
named_known n [] known w i = absurd i
named_known n (s ∷ ss) known w i =
    named_source n (source_view s) (sources_view ss) (known 0 s (omega arith)) (named_known n ss (λ k d h. known (suc k) d (omega arith))) w i
