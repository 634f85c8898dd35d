-- Codes of groups and their members, by which a proof tells them apart.
use Rattle.std.specs.Prelude.{◌≡◌, ℕ, List, Option}
use Rattle.std.proofs.Common.{ap, ap₂, refl}
use Rattle.std.specs.Coded.{Coded, code_by, coded_ℕ, coded_list, coded_option, coded×}
use Rattle.std.specs.FinMap as map
use base.Stored.{Gv, gnil, gnum, gcons}
use Rattle.name_path.specs.declared.kind.Kind.{Kind}
use Rattle.token_tree.specs.declared.mark.Mark.{Mark}
use Rattle.token_tree.specs.Codes.{coded_text, coded_kind, coded_mark, coded_definition}
use Rattle.token_tree.specs.Tree.{Extension, Properties, Child, a_token, a_group, Group, group, Children, no_children, child, Named}

-- what a group says of itself is coded as its fields

abbrev pub coded_extension : Coded Extension
coded_extension =
    code_by (List (List ℕ) × (List ℕ × (ℕ × ℕ))) (coded× (coded_list coded_text) (coded× coded_text (coded× coded_ℕ coded_ℕ)))
    (λ e. (e.target, (e.file, (e.start, e.end)))) (λ p. record { target = p.0; file = p.1.0; start = p.1.1.0; end = p.1.1.1 }) (λ _. refl)

abbrev pub coded_properties : Coded Properties
coded_properties =
    code_by (Option Kind × (Option Mark × Option Extension)) (coded× (coded_option coded_kind) (coded× (coded_option coded_mark) (coded_option coded_extension)))
    (λ p. (p.kind, (p.deprecated, p.extends))) (λ q. record { kind = q.0; deprecated = q.1.0; extends = q.1.1 }) (λ _. refl)

abbrev mutual
  pub code_child : Child → Gv
  code_child (a_token d) = gcons (gnum 0) (coded_definition.code d)
  code_child (a_group g) = gcons (gnum 1) (code_group g)

  pub code_group : Group → Gv
  code_group (group ps cs) = gcons (coded_properties.code ps) (code_children cs)

  pub code_children : Children → Gv
  code_children no_children = gnil
  code_children (child name c cs) = gcons (coded_text.code name) (gcons (code_child c) (code_children cs))

rest : (x y a b : Gv) → gcons x a ≡ gcons y b → a ≡ b
rest x y a b e = cc

front : (x y a b : Gv) → gcons x a ≡ gcons y b → x ≡ y
front x y a b e = cc

mutual
  pub inj_child : (x y : Child) → code_child x ≡ code_child y → x ≡ y
  inj_child (a_token d) (a_token e) q = ap a_token (coded_definition.inj d e (rest _ _ _ _ q))
  inj_child (a_group g) (a_group h) q = ap a_group (inj_group g h (rest _ _ _ _ q))
  inj_child x y q = cc

  pub inj_group : (x y : Group) → code_group x ≡ code_group y → x ≡ y
  inj_group (group ps cs) (group qs ds) q = ap₂ group (coded_properties.inj ps qs (front _ _ _ _ q)) (inj_children cs ds (rest _ _ _ _ q))

  pub inj_children : (x y : Children) → code_children x ≡ code_children y → x ≡ y
  inj_children no_children no_children q = refl
  inj_children (child name c cs) (child other d ds) q =
      let n = coded_text.inj name other (front _ _ _ _ q) in
      let r = rest _ _ _ _ q in
      let h = inj_child c d (front _ _ _ _ r) in
      let t = inj_children cs ds (rest _ _ _ _ r) in
      λ i. child (n i) (h i) (t i)
  inj_children x y q = cc

abbrev pub coded_child : Coded Child
coded_child = record { code = code_child; inj = inj_child }

abbrev pub coded_named : Coded Named
coded_named = map.code coded_text coded_child
