-- Where the links of a token stand, what they mean, and how deep they go.
use Rattle.std.proofs.Common.{◌≡◌, ℕ, suc, true, List, [], ◌∷◌, ◌++◌, Option, Some, None, refl, sym, ap, subst, ◌∙◌, inl, inr, append_assoc}
use Rattle.std.proofs.lemmas.List.{append-nil}
use Rattle.std.specs.FinMap as finite
use Rattle.std.specs.Option.{option_and_then}
use Rattle.std.specs.Prelude.{◌⊎◌}
use Rattle.ring.specs.Lists.{In}
use Rattle.json_span.specs.PlainView.{Value}
use Rattle.name_path.specs.declared.kind.Kind.{Kind}
use Rattle.name_path.specs.declared.link.Link.{Link}
use Rattle.name_path.specs.declared.place.Place.{Place}
use Rattle.group_inherit.specs.Flattening.{Flattened}
use Rattle.alias_ref.specs.Depth.{LinkDepth, depth_leaf, depth_steps, depth_link, depth_parts, EachDepth, depth_more}
use Rattle.alias_ref.specs.Kinds.{Kinds, KindOf, LinksAt, links_leaf, links_steps, links_one, links_parts, LinksEach, each_done, each_more}
use Rattle.alias_ref.specs.Laws.{Flat}
use Rattle.alias_ref.specs.Meaning.{Leads, leads, Goes, arrived, Means, means_leaf, means_parts, means_target}
use Rattle.alias_ref.specs.PlainParts.{Below, below_here, below_part}
use Rattle.alias_ref.specs.Written.{Step, Container, Written, parts, refers, WrittenPlaces, whole, part, is_written, value_at, written_at, written_in}

in_either : {A : Type 0} (x : A) (xs ys : List A) → In x (xs ++ ys) → In x xs ⊎ In x ys
in_either x [] ys i = inr i
in_either x (y ∷ xs) ys (inl same) = inl (inl same)
in_either x (y ∷ xs) ys (inr i) = elim (in_either x xs ys i) as (λ _. In x (y ∷ xs) ⊎ In x ys) [ inl a ↦ inl (inr a) | inr b ↦ inr b ]

module _ (T : WrittenPlaces) (own group : Kinds) where
  -- a link below a place: the steps from there, what is written at their end, the kind, and how many links may follow it
  pub record Stands (k : ℕ) (p : Place) (l : Link) : Type 0 where
    pub steps : List Step
    pub trail : l.trail ≡ p.trail ++ steps
    pub below : Below T p steps (record { token = p.token; trail = l.trail })
    pub written : T (record { token = p.token; trail = l.trail }) ≡ Some (refers l.target [])
    pub kind : KindOf T own group l.target l.kind
    pub less : ℕ
    pub deep : k ≡ suc less
    pub behind : LinkDepth T less (whole l.target)

  same_written : {v w : Written} (p : Place) → T p ≡ Some v → T p ≡ Some w → v ≡ w
  same_written {v} {w} p e f = let h : Some v ≡ Some w = sym e ∙ f in cc

  same_target : (token other : List Step) → refers token [] ≡ refers other [] → token ≡ other
  same_target token other e = cc

  same_steps : (c d : Container) (steps others : List Step) → parts c steps ≡ parts d others → steps ≡ others
  same_steps c d steps others e = cc

  -- the depth after a link
  link_depth : (k : ℕ) (p : Place) (token : List Step) → T p ≡ Some (refers token []) → LinkDepth T k p → (j : ℕ) × (k ≡ suc j) × LinkDepth T j (whole token)
  link_depth k p token e (depth_leaf f) = let h = same_written p e f in cc
  link_depth k p token e (depth_steps f) = let h = same_written p e f in cc
  link_depth k p token e (depth_link {n = j} {token = other} f d) = (j, refl, subst (λ t. LinkDepth T j (whole t)) (sym (same_target token other (same_written p e f))) d)
  link_depth k p token e (depth_parts f d) = let h = same_written p e f in cc

  parts_depth : (k : ℕ) (p : Place) (c : Container) (steps : List Step) → T p ≡ Some (parts c steps) → LinkDepth T k p → EachDepth T k p steps
  parts_depth k p c steps e (depth_leaf f) = let h = same_written p e f in cc
  parts_depth k p c steps e (depth_steps f) = let h = same_written p e f in cc
  parts_depth k p c steps e (depth_link f d) = let h = same_written p e f in cc
  parts_depth k p c steps e (depth_parts {c = d} {steps = others} f each) = subst (λ s. EachDepth T k p s) (sym (same_steps c d steps others (same_written p e f))) each

  -- seen from the place above
  seen_above : (k : ℕ) (p : Place) (c : Container) (all : List Step) (s : Step) (l : Link) → T p ≡ Some (parts c all) → In s all → Stands k (part p s) l → Stands k p l
  seen_above k p c all s l e i h = record {
    steps = s ∷ h.steps;
    trail = h.trail ∙ append_assoc p.trail (s ∷ []) h.steps;
    below = below_part s e i h.below;
    written = h.written;
    kind = h.kind;
    less = h.less;
    deep = h.deep;
    behind = h.behind;
  }

  only_one : (k : ℕ) (p : Place) (link l : Link) → Stands k p link → In l (link ∷ []) → Stands k p l
  only_one k p link l found (inl same) = subst (λ x. Stands k p x) (sym same) found
  only_one k p link l found (inr i) = absurd i

  one_stands : (k : ℕ) (p : Place) (token : List Step) (kind : Option Kind) (ls : List Link) → T p ≡ Some (refers token []) → KindOf T own group token kind
      → ls ≡ record { trail = p.trail; target = token; kind = kind } ∷ [] → LinkDepth T k p → (l : Link) → In l ls → Stands k p l
  one_stands k p token kind ls e of is d l i =
      let link : Link = record { trail = p.trail; target = token; kind = kind } in
      let (j, more, behind) = link_depth k p token e d in
      let found : Stands k p link = record {
        steps = [];
        trail = sym (append-nil p.trail);
        below = below_here;
        written = e;
        kind = of;
        less = j;
        deep = more;
        behind = behind;
      } in
      only_one k p link l found (subst (λ xs. In l xs) is i)

  among : (before : List Step) (s : Step) (more : List Step) → In s (before ++ s ∷ more)
  among [] s more = inl refl
  among (b ∷ before) s more = inr (among before s more)

  mutual
    pub links_stand : (k : ℕ) (p : Place) (ls : List Link) → LinksAt T own group p ls → LinkDepth T k p → (l : Link) → In l ls → Stands k p l
    links_stand k p ls (links_leaf e) d l i = absurd i
    links_stand k p ls (links_steps e) d l i = absurd i
    links_stand k p ls (links_one {token = token} {k = kind} e of is) d l i = one_stands k p token kind ls e of is d l i
    links_stand k p ls (links_parts {c = c} {steps = steps} e each) d l i = each_stand k p c steps [] steps ls e refl each (parts_depth k p c steps e d) l i

    each_stand : (k : ℕ) (p : Place) (c : Container) (all before steps : List Step) (ls : List Link) → T p ≡ Some (parts c all) → all ≡ before ++ steps
        → LinksEach T own group p steps ls → EachDepth T k p steps → (l : Link) → In l ls → Stands k p l
    each_stand k p c all before steps ls e split each_done d l i = absurd i
    each_stand k p c all before steps ls e split (each_more {s = s} {steps = more} {xs = xs} {ys = ys} here rest is) (depth_more first others) l i =
        elim (in_either l xs ys (subst (λ zs. In l zs) is i)) as (λ _. Stands k p l) [
          | inl j ↦ seen_above k p c all s l e (subst (λ zs. In s zs) (sym split) (among before s more)) (links_stand k (part p s) xs here first l j)
          | inr j ↦ each_stand k p c all (before ++ s ∷ []) more ys e (split ∙ sym (append_assoc before (s ∷ []) more)) rest others l j
        ]

  -- what a reference without steps means is what its token means
  arrives : (p q : Place) → Goes T p [] q → p ≡ q
  arrives p q arrived = refl

  leads_whole : (p q : Place) (token : List Step) → T p ≡ Some (refers token []) → Leads T p q → (q ≡ whole token) × (is_written (T (whole token)) ≡ true)
  leads_whole p q token e (leads {token = other} {steps = steps} f written goes) =
      let same = same_written p e f in
      let target : token ≡ other = cc in
      let none : steps ≡ [] = cc in
      (sym (arrives (whole token) q (subst (λ s. Goes T (whole token) s q) none (subst (λ t. Goes T (whole t) steps q) (sym target) goes))), subst (λ t. is_written (T (whole t)) ≡ true) (sym target) written)

  pub link_means : (p : Place) (token : List Step) (v : Value) → T p ≡ Some (refers token []) → Means T p v → Means T (whole token) v × (is_written (T (whole token)) ≡ true)
  link_means p token v e (means_leaf f) = let h = same_written p e f in cc
  link_means p token v e (means_parts f each) = let h = same_written p e f in cc
  link_means p token v e (means_target {q = q} l m) =
      let (same, written) = leads_whole p q token e l in
      (subst (λ x. Means T x v) same m, written)

-- a token that is written is one of the flat tree
there : (flat : Flat) (token : List Step) (o : Option Flattened) → is_written (option_and_then (λ f. written_at f.def []) o) ≡ true → (f : Flattened) × (o ≡ Some f)
there flat token None h = cc
there flat token (Some f) h = (f, refl)

pub written_there : (flat : Flat) (token : List Step) → is_written (written_in flat (whole token)) ≡ true → (f : Flattened) × (finite.get flat token ≡ Some f)
unfolding written_in
written_there flat token h = there flat token (finite.get flat token) h

-- a token of the flat tree is written
pub token_written : (flat : Flat) (token : List Step) (f : Flattened) → finite.get flat token ≡ Some f → is_written (written_in flat (whole token)) ≡ true
unfolding written_in written_at value_at
token_written flat token f found = ap (λ o. is_written (option_and_then (λ g. written_at g.def []) o)) found
