-- In a table whose keys ascend, the first key that is refused comes before each other one in byte order.
use Rattle.std.proofs.Common.{◌≡◌, ◌≢◌, ℕ, Bool, true, false, List, [], ◌∷◌, Some, Ordering, Less, Equal, Greater, refl, sym, ap, subst, ◌∙◌}
use Rattle.std.specs.Prelude.{if◌then◌else◌, String}
use Rattle.std.proofs.lemmas.Cmp.{tied_back, tied_itself}
use Rattle.std.specs.Cmp.Lexicographic.{nat_list_cmp_total}
use Rattle.std.specs.List.{AllByRecursion}
use Rattle.std.specs.List.Sorted.{IsStrictlySortedBy}
use Rattle.std.specs.Map.{keys_of}
use Rattle.std.specs.Ordering.{match_ordering}
use Rattle.std.specs.String.{string_bytes, string_cmp}
use Rattle.std.specs.declared.alloc.Global.{Global}
use Rattle.tk_io.specs.Order.{text_cmp}
use Rattle.tk_io.proofs.TextMaps.{text_cmp-IsAntisymmetric}
use Rattle.toml.specs.Data.{Data, member, get_member}
use Rattle.toml.specs.View.{view, members_view}
use Rattle.toml.specs.declared.value.Value.{Value}
use Rattle.transforms.specs.Config.{is_setting, first_refused, IsFirstRefused}

abbrev Entry : Type 0
Entry = String Global × Value

-- a key that is found among later ones comes later
later : (key : List ℕ) (es : List Entry) → AllByRecursion (λ y. text_cmp key (string_bytes y) ≡ Less) (keys_of es)
    → (other : List ℕ) (its : Data) → get_member other (members_view es) ≡ Some its → text_cmp key other ≡ Less
later key [] above other its found = cc
later key (e ∷ es) above other its found = at (later key es above.1 other its) (text_cmp other (string_bytes e.0)) refl found
  where
    at : (get_member other (members_view es) ≡ Some its → text_cmp key other ≡ Less) → (o : Ordering) → text_cmp other (string_bytes e.0) ≡ o
        → match_ordering o (get_member other (members_view es)) (Some (view e.1)) (get_member other (members_view es)) ≡ Some its → text_cmp key other ≡ Less
    at rest Less same found = rest found
    at rest Equal same found = subst (λ k. text_cmp key k ≡ Less) (sym (text_cmp-IsAntisymmetric other (string_bytes e.0) same)) above.0
    at rest Greater same found = rest found

-- a key that is not that of the first member is found among the others
passed : (key name : List ℕ) → text_cmp name key ≡ Less → {X : Type 0} (a b : X) → match_ordering (text_cmp key name) a b a ≡ a
passed key name less a b = at (text_cmp key name) refl
  where
    at : (o : Ordering) → text_cmp key name ≡ o → match_ordering o a b a ≡ a
    at Less same = refl
    at Equal same = absurd (let one = text_cmp-IsAntisymmetric key name same in let equal = tied_back nat_list_cmp_total key name same in let both : Less ≡ Equal = sym less ∙ equal in (cc))
    at Greater same = refl

pub is_first_refused : (es : List Entry) → IsStrictlySortedBy string_cmp (keys_of es) → (key : List ℕ) → first_refused (members_view es) ≡ Some key → IsFirstRefused (members_view es) key
unfolding IsStrictlySortedBy
is_first_refused [] sorted key e = cc
is_first_refused (e ∷ es) sorted key is = here (is_first_refused es sorted.1 key) (is_setting name value) refl is
  where
    name : List ℕ
    name = string_bytes e.0

    value : Data
    value = view e.1

    inner : (x y : List ℕ) → Some x ≡ Some y → x ≡ y
    inner x y e = cc

    still : (other : List ℕ) (its : Data) → is_setting other its ≡ false → is_setting name value ≡ true
        → ((another : List ℕ) (that : Data) → get_member another (members_view es) ≡ Some that → is_setting another that ≡ false → text_cmp key another ≢ Greater)
        → (o : Ordering) → text_cmp other name ≡ o → match_ordering o (get_member other (members_view es)) (Some value) (get_member other (members_view es)) ≡ Some its
        → text_cmp key other ≢ Greater
    still other its refused setting first Less same found = first other its found refused
    still other its refused setting first Equal same found = absurd (let one = text_cmp-IsAntisymmetric other name same in cc)
    still other its refused setting first Greater same found = first other its found refused

    before : (other : List ℕ) (its : Data) → (o : Ordering) → text_cmp other name ≡ o
        → match_ordering o (get_member other (members_view es)) (Some value) (get_member other (members_view es)) ≡ Some its → text_cmp name other ≢ Greater
    before other its Less same found greater = let less = later name es sorted.0 other its found in cc
    before other its Equal same found greater = let equal = tied_back nat_list_cmp_total other name same in cc
    before other its Greater same found greater = let less = later name es sorted.0 other its found in cc

    here : (first_refused (members_view es) ≡ Some key → IsFirstRefused (members_view es) key) → (b : Bool) → is_setting name value ≡ b
        → (if b then first_refused (members_view es) else Some name) ≡ Some key → IsFirstRefused (member name value (members_view es)) key
    here rest true setting is =
        let r = rest is in
        record {
          value = r.value;
          there = passed key name (later name es sorted.0 key r.value r.there) (get_member key (members_view es)) (Some value) ∙ r.there;
          refused = r.refused;
          first = λ other its found refused. still other its refused setting r.first (text_cmp other name) refl found;
        }
    here rest false setting is = subst (IsFirstRefused (member name value (members_view es))) (inner name key is) (record {
      value = value;
      there = ap (λ o. match_ordering o (get_member name (members_view es)) (Some value) (get_member name (members_view es))) (tied_itself nat_list_cmp_total name);
      refused = setting;
      first = λ other its found refused. before other its (text_cmp other name) refl found;
    })
