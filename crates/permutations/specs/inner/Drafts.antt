-- Permutations that are put together item by item.
use Rattle.std.specs.Prelude.{ℕ, List, [], ◌∷◌, ◌++◌, codes, fold, map}
use Rattle.std.specs.List.{flat_map, join_with_byte}
use Rattle.std.specs.String.{string_bytes}
use Rattle.tk_io.specs.Characters.{plus_sign}
use Rattle.resolver_doc.specs.Document.{SetData, ItemData}
use Rattle.permutations.specs.Name.{label}
use Rattle.permutations.specs.Permutation.{TokenSource, Pick, picks, sources_from, Permutation}
use Rattle.permutations.specs.View.{token_sources_view}
use Rattle.permutations.specs.declared.draft.Draft.{Draft}

-- labels joined by '+', and sources
pub record DraftData : Type 0 where
  pub labels : List ℕ
  pub sources : List TokenSource

abbrev pub draft_view : Draft → DraftData
draft_view d = record { labels = string_bytes d.labels; sources = token_sources_view d.sources }

abbrev pub drafts_view : List Draft → List DraftData
drafts_view drafts = map draft_view drafts

-- two texts, joined by '+' where none is empty
abbrev pub joined_labels : List ℕ → List ℕ → List ℕ
joined_labels [] more = more
joined_labels (b ∷ bs) [] = b ∷ bs
joined_labels (b ∷ bs) (c ∷ cs) = (b ∷ bs) ++ plus_sign ∷ c ∷ cs

abbrev pub with_more : DraftData → DraftData → DraftData
with_more draft more = record { labels = joined_labels draft.labels more.labels; sources = draft.sources ++ more.sources }

-- each draft with each option, the options fastest
abbrev pub with_each : List DraftData → List DraftData → List DraftData
with_each drafts options = flat_map (λ draft. map (with_more draft) options) drafts

abbrev pub no_draft : DraftData
no_draft = record { labels = []; sources = [] }

-- what is picked, as a draft
abbrev pub pick_draft : List SetData → Pick → DraftData
pick_draft sets pick = record { labels = join_with_byte plus_sign (map label pick.chosen); sources = sources_from sets pick.sources }

abbrev pub options : List SetData → ItemData → List DraftData
options sets item = map (pick_draft sets) (picks item)

-- the drafts of items
abbrev pub drafts_of : List SetData → List ItemData → List DraftData
drafts_of sets items = fold (λ drafts item. with_each drafts (options sets item)) (no_draft ∷ []) items

-- the name that labels make
abbrev pub name_by_labels : List ℕ → List ℕ
name_by_labels [] = codes "default"
name_by_labels (b ∷ bs) = b ∷ bs

abbrev pub finished : DraftData → Permutation
finished draft = record { name = name_by_labels draft.labels; sources = draft.sources }
