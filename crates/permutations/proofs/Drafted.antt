-- Drafts that are put together item by item are the permutations.
use Rattle.std.proofs.Common.{◌≡◌, ◌<◌, ℕ, List, [], ◌∷◌, ◌++◌, append-nil, append_assoc, length, length-append, map, fold, refl, sym, ap, ap₂, ◌∙◌, subst, arith, codes}
use Rattle.std.proofs.lemmas.List.{map-append}
use Rattle.std.proofs.lemmas.List.Concat.{flat_map-append}
use Rattle.std.specs.List.{flat_map, join_with_byte}
use Rattle.resolver_doc.specs.Document.{SetData, ItemData}
use Rattle.permutations.specs.Name.{escaped_name, Choice, label, name_of}
use Rattle.permutations.specs.Permutation.{TokenSource, Pick, picks, choices, sources_from, Permutation, permutation}
use Rattle.permutations.specs.inner.Drafts.{DraftData, joined_labels, with_more, with_each, no_draft, pick_draft, options, drafts_of, name_by_labels, finished}
use Rattle.permutations.proofs.NamesTell.{behind, joined as spelled}

-- texts joined by '+'
joined-nil : (xs : List ℕ) → joined_labels xs [] ≡ xs
joined-nil [] = refl
joined-nil (x ∷ xs) = refl

joined_some : (xs ys : List ℕ) → 0 < length xs → 0 < length ys → joined_labels xs ys ≡ xs ++ 43 ∷ ys
joined_some [] ys h k = absurd (omega arith)
joined_some (x ∷ xs) [] h k = absurd (omega arith)
joined_some (x ∷ xs) (y ∷ ys) h k = refl

joined_assoc : (xs ys zs : List ℕ) → joined_labels (joined_labels xs ys) zs ≡ joined_labels xs (joined_labels ys zs)
joined_assoc [] ys zs = refl
joined_assoc (x ∷ xs) [] zs = refl
joined_assoc (x ∷ xs) (y ∷ ys) [] = refl
joined_assoc (x ∷ xs) (y ∷ ys) (z ∷ zs) = append_assoc (x ∷ xs) (43 ∷ y ∷ ys) (43 ∷ z ∷ zs)

abbrev labels : List Choice → List ℕ
labels cs = join_with_byte 43 (map label cs)

behind-append : (cs ds : List Choice) → behind (cs ++ ds) ≡ behind cs ++ behind ds
behind-append [] ds = refl
behind-append (c ∷ cs) ds =
    ap (λ rest. 43 ∷ rest) (ap (λ rest. label c ++ rest) (behind-append cs ds) ∙ sym (append_assoc (label c) (behind cs) (behind ds)))

some_label : (c : Choice) (rest : List ℕ) → 0 < length (label c ++ rest)
some_label c rest = omega (arith, length-append (label c) rest, length-append (escaped_name c.modifier ++ codes "=") (escaped_name c.context), length-append (escaped_name c.modifier) (codes "="))

labels-append : (cs ds : List Choice) → labels (cs ++ ds) ≡ joined_labels (labels cs) (labels ds)
labels-append [] ds = refl
labels-append (c ∷ cs) [] = ap labels (append-nil (c ∷ cs)) ∙ sym (joined-nil (labels (c ∷ cs)))
labels-append (c ∷ cs) (d ∷ ds) =
    spelled c (cs ++ d ∷ ds)
    ∙ (ap (λ rest. label c ++ rest) (behind-append cs (d ∷ ds))
    ∙ (sym (append_assoc (label c) (behind cs) (behind (d ∷ ds)))
    ∙ (sym (joined_some (label c ++ behind cs) (label d ++ behind ds) (some_label c (behind cs)) (some_label d (behind ds)))
    ∙ ap₂ joined_labels (sym (spelled c cs)) (sym (spelled d ds)))))

named_some : (xs : List ℕ) → 0 < length xs → name_by_labels xs ≡ xs
named_some [] h = absurd (omega arith)
named_some (x ∷ xs) h = refl

named_labels : (cs : List Choice) → name_by_labels (labels cs) ≡ name_of cs
named_labels [] = refl
named_labels (c ∷ cs) = named_some (labels (c ∷ cs)) (subst (λ xs. 0 < length xs) (sym (spelled c cs)) (some_label c (behind cs)))

-- drafts
with_more-nil : (d : DraftData) → with_more d no_draft ≡ d
with_more-nil d =
    let draft : List ℕ → List TokenSource → DraftData = λ xs ys. record { labels = xs; sources = ys } in
    ap₂ draft (joined-nil d.labels) (append-nil d.sources)

with_more_assoc : (d e f : DraftData) → with_more (with_more d e) f ≡ with_more d (with_more e f)
with_more_assoc d e f =
    let draft : List ℕ → List TokenSource → DraftData = λ xs ys. record { labels = xs; sources = ys } in
    ap₂ draft (joined_assoc d.labels e.labels f.labels) (append_assoc d.sources e.sources f.sources)

each-nil : (ds : List DraftData) → with_each ds (no_draft ∷ []) ≡ ds
each-nil [] = refl
each-nil (d ∷ ds) = ap₂ (λ (e : DraftData) (es : List DraftData). e ∷ es) (with_more-nil d) (each-nil ds)

more_of_more : (d e : DraftData) (fs : List DraftData) → map (with_more (with_more d e)) fs ≡ map (with_more d) (map (with_more e) fs)
more_of_more d e [] = refl
more_of_more d e (f ∷ fs) = ap₂ (λ (x : DraftData) (xs : List DraftData). x ∷ xs) (with_more_assoc d e f) (more_of_more d e fs)

each_of_more : (d : DraftData) (es fs : List DraftData) → with_each (map (with_more d) es) fs ≡ map (with_more d) (with_each es fs)
each_of_more d [] fs = refl
each_of_more d (e ∷ es) fs =
    ap₂ (λ (xs ys : List DraftData). xs ++ ys) (more_of_more d e fs) (each_of_more d es fs)
    ∙ sym (map-append (with_more d) (map (with_more e) fs) (with_each es fs))

each_assoc : (ds es fs : List DraftData) → with_each (with_each ds es) fs ≡ with_each ds (with_each es fs)
each_assoc [] es fs = refl
each_assoc (d ∷ ds) es fs =
    flat_map-append (λ e. map (with_more e) fs) (map (with_more d) es) (with_each ds es)
    ∙ ap₂ (λ (xs ys : List DraftData). xs ++ ys) (each_of_more d es fs) (each_assoc ds es fs)

-- what is picked of all items, as a draft
abbrev pub picked : List SetData → List Pick → DraftData
picked sets ps = record { labels = labels (flat_map (λ p. p.chosen) ps); sources = flat_map (λ p. sources_from sets p.sources) ps }

picked_more : (sets : List SetData) (p : Pick) (ps : List Pick) → picked sets (p ∷ ps) ≡ with_more (pick_draft sets p) (picked sets ps)
picked_more sets p ps =
    let draft : List ℕ → List TokenSource → DraftData = λ xs ys. record { labels = xs; sources = ys } in
    ap₂ draft (labels-append p.chosen (flat_map (λ q. q.chosen) ps)) refl

each_picked : (sets : List SetData) (p : Pick) (cs : List (List Pick)) → map (picked sets) (map (λ rest. p ∷ rest) cs) ≡ map (with_more (pick_draft sets p)) (map (picked sets) cs)
each_picked sets p [] = refl
each_picked sets p (c ∷ cs) = ap₂ (λ (x : DraftData) (xs : List DraftData). x ∷ xs) (picked_more sets p c) (each_picked sets p cs)

all_picked : (sets : List SetData) (ps : List Pick) (cs : List (List Pick)) → map (picked sets) (flat_map (λ p. map (λ rest. p ∷ rest) cs) ps) ≡ with_each (map (pick_draft sets) ps) (map (picked sets) cs)
all_picked sets [] cs = refl
all_picked sets (p ∷ ps) cs =
    map-append (picked sets) (map (λ rest. p ∷ rest) cs) (flat_map (λ q. map (λ rest. q ∷ rest) cs) ps)
    ∙ ap₂ (λ (xs ys : List DraftData). xs ++ ys) (each_picked sets p cs) (all_picked sets ps cs)

extends : (sets : List SetData) (ds : List DraftData) (items : List ItemData) → fold (λ drafts item. with_each drafts (options sets item)) ds items ≡ with_each ds (map (picked sets) (choices items))
extends sets ds [] = sym (each-nil ds)
extends sets ds (item ∷ items) =
    extends sets (with_each ds (options sets item)) items
    ∙ (each_assoc ds (options sets item) (map (picked sets) (choices items))
    ∙ ap (λ (es : List DraftData). with_each ds es) (sym (all_picked sets (picks item) (choices items))))

more_than_none : (ds : List DraftData) → map (with_more no_draft) ds ++ [] ≡ ds
more_than_none [] = refl
more_than_none (d ∷ ds) = ap (λ (es : List DraftData). d ∷ es) (more_than_none ds)

all_finished : (sets : List SetData) (cs : List (List Pick)) → map finished (map (picked sets) cs) ≡ map (permutation sets) cs
all_finished sets [] = refl
all_finished sets (c ∷ cs) =
    let perm : List ℕ → List TokenSource → Permutation = λ xs ys. record { name = xs; sources = ys } in
    ap₂ (λ (p : Permutation) (ps : List Permutation). p ∷ ps) (ap₂ perm (named_labels (flat_map (λ p. p.chosen) c)) refl) (all_finished sets cs)

-- the drafts of an order, finished, are its permutations
pub drafts_are_permutations : (sets : List SetData) (order : List ItemData) → map finished (drafts_of sets order) ≡ map (permutation sets) (choices order)
drafts_are_permutations sets order =
    ap (map finished) (extends sets (no_draft ∷ []) order ∙ more_than_none (map (picked sets) (choices order))) ∙ all_finished sets (choices order)
