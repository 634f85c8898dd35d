-- Options of borrowed values.
use Rattle.std.proofs.Common.{◌≡◌, Bool, true, false, Option, Some, None, Bor, is_some, option_map, refl, sym, ap, ap₂, ◌∙◌}
use Rattle.std.specs.Option.{option_or, option_copied}

pub map_or : {A B : Type 0} (f : A → B) (x y : Option A) → option_map f (option_or x y) ≡ option_or (option_map f x) (option_map f y)
map_or f None y = refl
map_or f (Some x) y = refl

-- what is copied of a choice
pub copied_or : {A : Type 0} (x y r : Option (Bor A)) (l e : Option A) → r ≡ option_or x y → option_copied x ≡ l → option_copied y ≡ e → option_copied r ≡ option_or l e
copied_or x y r l e is later earlier = ap option_copied is ∙ (map_or (λ b. b.now) x y ∙ ap₂ option_or later earlier)

some_map : {A B : Type 0} (f : A → B) (x : Option A) → is_some (option_map f x) ≡ is_some x
some_map f None = refl
some_map f (Some x) = refl

-- whether something was found
pub found : {A B : Type 0} (f : A → B) (r : Option A) (g : Option B) (b : Bool) → b ≡ is_some r → option_map f r ≡ g → is_some g ≡ b
found f r g b is same = ap is_some (sym same) ∙ (some_map f r ∙ sym is)

true≢false : true ≡ false → ⊥
true≢false e = cc

pub none_then : {A B : Type 0} (f : A → B) (o : Option A) (b : Bool) → b ≡ is_some o → b ≡ false → option_map f o ≡ None
none_then f None b e h = refl
none_then f (Some x) b e h = absurd (true≢false (sym e ∙ h))
