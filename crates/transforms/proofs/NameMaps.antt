-- Maps whose keys are the bytes of names: the lemmas on shown maps at the order of texts.
use Rattle.std.proofs.Common.{◌≡◌, ℕ, List, Option, Some, None, option_map, sym, ◌∙◌, refl}
use Rattle.std.specs.declared.vec.Vec.{Vec}
use Rattle.std.specs.BTreeMap.{insert_entry}
use Rattle.std.specs.Cmp.Lexicographic.{nat_list_cmp_total}
use Rattle.std.specs.FinMap as map
use Rattle.std.specs.Map.{lookup, remove_entry}
use Rattle.std.specs.Ordering.{is_eq}
use Rattle.tk_io.specs.Order.{text_cmp}
use Rattle.tk_io.specs.View.{entries_view}
use Rattle.tk_io.proofs.MapViews as views
use Rattle.tk_io.proofs.TextMaps.{text_cmp-IsAntisymmetric}

same_option : {X : Type 0} (o : Option X) → option_map (λ v. v) o ≡ o
same_option None = refl
same_option (Some v) = refl

module _ {Z X : Type 0} where
  -- the map that the entries show
  abbrev pub by_name : List (Vec ℕ Z × X) → map.FinMap text_cmp X
  by_name es = map.from_entries (entries_view (λ name. name.items) (λ v. v) es)

  pub name_get : (es : List (Vec ℕ Z × X)) (q : List ℕ) → lookup (λ k. is_eq (text_cmp q k.items)) es ≡ map.get (by_name es) q
  name_get es q = sym (views.get_shown nat_list_cmp_total text_cmp-IsAntisymmetric (λ name. name.items) (λ v. v) es q ∙ same_option _)

  pub name_put : (es fs : List (Vec ℕ Z × X)) (k : Vec ℕ Z) (v : X) → fs ≡ insert_entry (λ i j. text_cmp i.items j.items) es k v → by_name fs ≡ map.insert (by_name es) k.items v
  name_put es fs k v h = views.insert_shown nat_list_cmp_total text_cmp-IsAntisymmetric (λ name. name.items) (λ v. v) es fs k v h

  pub name_remove : (es fs : List (Vec ℕ Z × X)) (k : List ℕ) → fs ≡ remove_entry (λ x. is_eq (text_cmp k x.items)) es → lookup (λ x. is_eq (text_cmp k x.items)) fs ≡ None → by_name fs ≡ map.remove (by_name es) k
  name_remove es fs k h gone = views.remove_shown nat_list_cmp_total text_cmp-IsAntisymmetric (λ name. name.items) (λ v. v) es fs k h gone
