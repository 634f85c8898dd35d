-- The kind of a token, and the links that are written in its value.
use Rattle.std.specs.Prelude.{◌≡◌, List, [], ◌∷◌, ◌++◌, Option, Some, None, option_and_then}
use Rattle.std.specs.FinMap as flat_map
use Rattle.tk_io.specs.Order.{names_cmp}
use Rattle.name_path.specs.declared.kind.Kind.{Kind}
use Rattle.name_path.specs.declared.link.Link.{Link}
use Rattle.name_path.specs.declared.place.Place.{Place}
use Rattle.group_inherit.specs.Flattening.{Flattened}
use Rattle.group_inherit.specs.Merging.{either}
use Rattle.alias_ref.specs.Written.{Step, Container, Written, leaf, parts, refers, misspelled, WrittenPlaces, whole, part}

-- what says the kinds of tokens: each token's own, or those of the nearest groups
abbrev pub Kinds : Type 0
Kinds = List Step → Option Kind

abbrev pub own_in : flat_map.FinMap names_cmp Flattened → Kinds
own_in flat token = option_and_then (λ f. f.def.kind) (flat_map.get flat token)

abbrev pub group_in : flat_map.FinMap names_cmp Flattened → Kinds
group_in flat token = option_and_then (λ f. f.group_kind) (flat_map.get flat token)

-- the token that a reference without steps names
abbrev pub link_token : Option Written → Option (List Step)
link_token (Some (refers token [])) = Some token
link_token (Some (refers token (s ∷ steps))) = None
link_token (Some (leaf v)) = None
link_token (Some (parts c steps)) = None
link_token (Some misspelled) = None
link_token None = None

-- The token's own kind; else that of the token which its whole value links to; else that of the nearest group.
pub data KindOf (T : WrittenPlaces) (own group : Kinds) : List Step → Option Kind → Type 0 where
  kind_alone : {token : List Step} {k : Option Kind} → link_token (T (whole token)) ≡ None → k ≡ either (own token) (group token) → KindOf T own group token k
  kind_linked : {token other : List Step} {l k : Option Kind} → link_token (T (whole token)) ≡ Some other → KindOf T own group other l → k ≡ either (own token) (either l (group token)) → KindOf T own group token k

mutual
  -- the references without steps at this place and below, in written order, each with its steps, its token and that token's kind
  pub data LinksAt (T : WrittenPlaces) (own group : Kinds) : Place → List Link → Type 0 where
    links_leaf : {p : Place} {v : _} → T p ≡ Some (leaf v) → LinksAt T own group p []
    links_steps : {p : Place} {token : List Step} {s : Step} {steps : List Step} → T p ≡ Some (refers token (s ∷ steps)) → LinksAt T own group p []
    links_one : {p : Place} {token : List Step} {k : Option Kind} {ls : List Link} → T p ≡ Some (refers token []) → KindOf T own group token k → ls ≡ record { trail = p.trail; target = token; kind = k } ∷ [] → LinksAt T own group p ls
    links_parts : {p : Place} {c : Container} {steps : List Step} {ls : List Link} → T p ≡ Some (parts c steps) → LinksEach T own group p steps ls → LinksAt T own group p ls

  pub data LinksEach (T : WrittenPlaces) (own group : Kinds) : Place → List Step → List Link → Type 0 where
    each_done : {p : Place} → LinksEach T own group p [] []
    each_more : {p : Place} {s : Step} {steps : List Step} {xs ys ls : List Link} → LinksAt T own group (part p s) xs → LinksEach T own group p steps ys → ls ≡ xs ++ ys → LinksEach T own group p (s ∷ steps) ls

-- The link is a reference without steps that is written in the token, with the kind of the token that it names.
pub record IsLink (T : WrittenPlaces) (own group : Kinds) (token : List Step) (l : Link) : Type 0 where
  pub written : T (record { token = token; trail = l.trail }) ≡ Some (refers l.target [])
  pub kind : KindOf T own group l.target l.kind
