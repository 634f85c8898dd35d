-- A map whose keys and values are borrowed texts: the lemmas of `MapViews` at the order of texts.
use Rattle.std.proofs.Common.{◌≡◌, ℕ, List, Option, Some, None, option_map, sym, ap, ◌∙◌, Bor, Equal, length}
use Rattle.std.proofs.lemmas.Map.Entries.{entries_from_clone}
use Rattle.std.specs.BTreeMap.{insert_entry}
use Rattle.std.specs.Cmp.Lexicographic.{nat_list_cmp_total}
use Rattle.std.specs.FinMap as map
use Rattle.std.specs.List.{AllZip}
use Rattle.std.specs.List.Sorted.{IsStrictlySortedBy}
use Rattle.std.specs.Map.{keys_of, lookup, remove_entry}
use Rattle.std.specs.Map.Iter.{deref_pair}
use Rattle.std.specs.Option.{IfSome}
use Rattle.std.specs.Ordering.{is_eq}
use Rattle.std.specs.Prelude.{slice_get}
use Rattle.tk_io.specs.Order.{text_cmp}
use Rattle.tk_io.specs.View.{entries_view}
use Rattle.tk_io.proofs.MapViews as views
use Rattle.tk_io.proofs.TextMaps.{text_cmp-IsAntisymmetric}

abbrev pub Line : Type 0
Line = Bor (List ℕ)

abbrev pub bytes_at : Line → List ℕ
bytes_at b = b.now

abbrev pub Entries : Type 0
Entries = List (Line × Line)

-- the map that the entries show
abbrev pub files_of : Entries → map.FinMap text_cmp (List ℕ)
files_of es = map.from_entries (entries_view bytes_at bytes_at es)

pub file_get : (es : Entries) (q : List ℕ) → option_map bytes_at (lookup (λ k. is_eq (text_cmp q k.now)) es) ≡ map.get (files_of es) q
file_get es q = sym (views.get_shown nat_list_cmp_total text_cmp-IsAntisymmetric bytes_at bytes_at es q)

pub file_len : (es : Entries) → IsStrictlySortedBy (λ j k. text_cmp j.now k.now) (keys_of es) → length es ≡ map.len (files_of es)
file_len es h = sym (views.len_shown nat_list_cmp_total text_cmp-IsAntisymmetric bytes_at bytes_at es h)

pub file_at : (es : Entries) → IsStrictlySortedBy (λ j k. text_cmp j.now k.now) (keys_of es) → (i : ℕ) → option_map {U = List ℕ × List ℕ} (λ e. (e.0.now, e.1.now)) (slice_get es i) ≡ slice_get (map.entries (files_of es)) i
file_at es h i = views.item_shown bytes_at bytes_at es i ∙ ap (λ l. slice_get l i) (sym (views.entries_shown nat_list_cmp_total text_cmp-IsAntisymmetric bytes_at bytes_at es h))

pub file_put : (es fs : Entries) (k v : Line) → fs ≡ insert_entry (λ i j. text_cmp i.now j.now) es k v → files_of fs ≡ map.insert (files_of es) k.now v.now
file_put es fs k v h = views.insert_shown nat_list_cmp_total text_cmp-IsAntisymmetric bytes_at bytes_at es fs k v h

pub file_del : (es fs : Entries) (k : List ℕ) → fs ≡ remove_entry (λ x. is_eq (text_cmp k x.now)) es → lookup (λ x. is_eq (text_cmp k x.now)) fs ≡ None → files_of fs ≡ map.remove (files_of es) k
file_del es fs k h gone = views.remove_shown nat_list_cmp_total text_cmp-IsAntisymmetric bytes_at bytes_at es fs k h gone

-- what is cloned shows the same map
pub file_copy : (es fs : Entries) → AllZip (λ p q. (q.0 ≡ p.0) × (q.1 ≡ p.1)) es fs → files_of fs ≡ files_of es
file_copy es fs h = ap files_of (entries_from_clone (λ x y. y ≡ x) (λ x y. y ≡ x) (λ x y e. e) (λ x y e. e) es fs h)

-- an entry that was found under a path, by that path and what stands there
pub entry_shown : (r : Option (Bor Line × Bor Line)) (path : List ℕ) (o : Option (List ℕ)) → IfSome r (λ p. text_cmp path p.0.now.now ≡ Equal)
    → option_map bytes_at (option_map (λ p. p.1.now) r) ≡ o
    → option_map {U = List ℕ × List ℕ} (λ e. (e.0.now, e.1.now)) (option_map deref_pair r) ≡ option_map {U = List ℕ × List ℕ} (λ text. (path, text)) o
entry_shown None path o tied e = ap (option_map {U = List ℕ × List ℕ} (λ text. (path, text))) e
entry_shown (Some p) path o tied e =
    (λ i. Some (sym (text_cmp-IsAntisymmetric path p.0.now.now tied) i, p.1.now.now)) ∙ ap (option_map {U = List ℕ × List ℕ} (λ text. (path, text))) e
