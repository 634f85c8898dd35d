-- A script has one stream.
use Rattle.std.proofs.Common.{◌≡◌, ◌∙◌, ℕ, zero, suc, List, [], ◌∷◌, length, Option, None, Some, ap, sym, subst, refl, arith}
use Rattle.std.specs.FinMap as map
use Rattle.std.specs.List.{slice_get}
use Rattle.edit_script.specs.Script.{EventData}
use Rattle.tk_io.specs.FilesData.{FilesData}
use Rattle.edit_script.specs.Files.{up_to}
use Rattle.edit_script.specs.Delta.{Delta, AreDeltas}
use Rattle.edit_script.proofs.Deltas.{one_delta}
use Rattle.edit_script.proofs.Standing.{one_files}
use Rattle.build_plain.specs.Out.{Builds}
use Rattle.build_plain.specs.Laws.{OneBuild}
use Rattle.build_plain.specs.Work.{Work}
use Rattle.rebuild_core.specs.Laws.{OneWorkFrom}
use Rattle.rebuild_core.specs.Work.{IsWorkFrom}
use Rattle.token_cli.specs.Headline.{AreCommits, AreWorks, BuildsAt, IsKeptAt, IsWorkAt}

one_built : (one : OneBuild) (es : List EventData) (k : ℕ) (a b : FilesData) → BuildsAt es k a → BuildsAt es k b → a ≡ b
one_built one es k a b left right =
    let (files, stand, builds) = left in
    let (others, stand_too, builds_too) = right in
    let P : FilesData → Type 0 = λ f. Builds f a in
    one others a b (subst P (one_files (up_to k es) files others stand stand_too) builds) builds_too

same_items : {A : Type 0} (xs ys : List A) → length xs ≡ length ys → ((k : ℕ) → (x y : A) → slice_get xs k ≡ Some x → slice_get ys k ≡ Some y → x ≡ y) → xs ≡ ys
same_items [] [] size same = refl
same_items [] (y ∷ ys) size same = absurd (omega (arith, size))
same_items (x ∷ xs) [] size same = absurd (omega (arith, size))
same_items (x ∷ xs) (y ∷ ys) size same =
    ap (λ z. z ∷ xs) (same 0 x y refl refl) ∙ ap (λ l. y ∷ l) (same_items xs ys (omega (arith, size)) (λ k a b. same (suc k) a b))

pub one_held : (one : OneBuild) (es : List EventData) (held others : List FilesData) (deltas changes : List Delta) → AreCommits es held deltas → AreCommits es others changes → length held ≡ length others → held ≡ others
one_held one es held others deltas changes left right size =
    same_items held others size (λ k a b at_left at_right. one_built one es (suc k) a b (left.built k a at_left) (right.built k b at_right))

one_changes : (before : FilesData) (held : List FilesData) (deltas changes : List Delta) → AreDeltas before held deltas → AreDeltas before held changes → deltas ≡ changes
one_changes before [] [] [] left right = refl
one_changes before [] (d ∷ ds) changes left right = absurd left
one_changes before [] [] (c ∷ cs) left right = absurd right
one_changes before (o ∷ os) [] changes left right = absurd left
one_changes before (o ∷ os) (d ∷ ds) [] left right = absurd right
one_changes before (o ∷ os) (d ∷ ds) (c ∷ cs) left right =
    ap (λ z. z ∷ ds) (one_delta before o d c left.0 right.0) ∙ ap (λ l. c ∷ l) (one_changes o os ds cs left.1 right.1)

pub one_deltas : (one : OneBuild) (es : List EventData) (held others : List FilesData) (deltas changes : List Delta) → AreCommits es held deltas → AreCommits es others changes → length held ≡ length others → deltas ≡ changes
one_deltas one es held others deltas changes left right size =
    let P : List FilesData → Type 0 = λ h. AreDeltas map.empty h changes in
    one_changes map.empty held deltas changes left.changes (subst P (sym (one_held one es held others deltas changes left right size)) right.changes)

-- what is kept after so many commits
one_kept : (es : List EventData) (n : ℕ) (a b : Option FilesData) → IsKeptAt es n a → IsKeptAt es n b → a ≡ b
one_kept es zero a b left right = left ∙ sym right
one_kept es (suc n) None b left right = absurd left
one_kept es (suc n) (Some files) None left right = absurd right
one_kept es (suc n) (Some files) (Some others) left right = ap Some (one_files (up_to (suc n) es) files others left right)

one_done : (one : OneWorkFrom) (es : List EventData) (n : ℕ) (v w : Work) → IsWorkAt es n v → IsWorkAt es n w → v ≡ w
one_done one es n v w (kept, files, before, stand, done) (kept_too, others, before_too, stand_too, done_too) =
    let P : FilesData → Type 0 = λ f. IsWorkFrom kept f w in
    let Q : Option FilesData → Type 0 = λ k. IsWorkFrom k others w in
    let here : IsWorkFrom kept others w = subst Q (sym (one_kept es n kept kept_too before before_too)) done_too in
    one kept files v w done (subst P (sym (one_files (up_to (suc n) es) files others stand stand_too)) here)

pub one_works : (one : OneWorkFrom) (es : List EventData) (held others : List FilesData) (works counts : List Work) → AreWorks es held works → AreWorks es others counts → length held ≡ length others → works ≡ counts
one_works one es held others works counts left right size =
    same_items works counts (left.count ∙ (size ∙ sym right.count)) (λ n v w at_left at_right. one_done one es n v w (left.done n v at_left) (right.done n w at_right))
