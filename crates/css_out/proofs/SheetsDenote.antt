-- A sheet denotes the values of its tokens, and each name in it that stands for a part is that of a token which has the part.
use Rattle.std.proofs.Common.{◌≡◌, ℕ, zero, suc, Bool, true, false, List, [], ◌∷◌, ◌++◌, map, flat_map, refl, sym, ◌∙◌, ap, subst, Some, inl, inr}
use Rattle.std.specs.Prelude.{if◌then◌else◌}
use Rattle.std.specs.List.{AllByRecursion}
use Rattle.name_path.specs.declared.link.Link.{Link}
use Rattle.transforms.specs.Config.{Settings}
use Rattle.transforms.specs.PlatformName.{is_property}
use Rattle.transforms.proofs.NamesApart.{all_of, each_of, from_flat, in_flat, map-append, names_apart, names_in}
use Rattle.transforms.proofs.PlainFramesJoin.{framed}
use Rattle.composite_rules.specs.Sound.{kind_of}
use Rattle.composite_rules.specs.declared.typed.Typed.{Typed}
use Rattle.ring.specs.Lists.{In, AreApart, Each}
use Rattle.css_out.specs.Piece.{Mark, Values, value_names}
use Rattle.css_out.specs.PlatformValue.{css_values}
use Rattle.css_out.specs.Reading.{Declared, Block, ended, head, foot}
use Rattle.css_out.specs.Rounds.{Denotes, most_links}
use Rattle.css_out.specs.Parts.{Part, plain, linked, NamedParts, declaration, own_value}
use Rattle.css_out.specs.Fragment.{css_name, spelled_links}
use Rattle.css_out.specs.Sources.{TargetsAreNamed, IsFrom, ComesFrom}
use Rattle.css_out.specs.Sheets.{Cell, cell_name, cell_entries, cell_text, cell_values, cell_names, sheet_bytes, sheet_values, LeadsTo, LinksLead, no_links, link_leads, IsSheet, Refers}
use Rattle.css_out.proofs.BlocksJoin.{joined}
use Rattle.css_out.proofs.NamesComeFromLinks.{come_from}
use Rattle.css_out.proofs.RoundsEnd.{Nested, no_parts, itself, leads, denotes, value_in}
use Rattle.css_out.proofs.OwnValues.{own_values}
use Rattle.css_out.proofs.OwnNamesApart.{own_apart}
use Rattle.css_out.proofs.LinesAreSpellable.{entries_sound}
use Rattle.css_out.proofs.SpelledIsRead.{body_read}

in_spelled : (b : Bool) (link : Link) (links : List Link) → In link (if b then links else []) → In link links
in_spelled true link links i = i
in_spelled false link links i = absurd i

-- where a link of a list leads
record IsLed (cells : List Cell) (k : ℕ) (from : Cell) (link : Link) : Type 0 where
  less : ℕ
  is_less : k ≡ suc less
  to : Cell
  there : In to cells
  way : LeadsTo from link to
  behind : LinksLead cells less to to.links

led : {cells : List Cell} {k : ℕ} {from : Cell} {links : List Link} → LinksLead cells k from links → (link : Link) → In link links → IsLed cells k from link
led no_links link i = absurd i
led (link_leads {k} {from} to there way behind more) link (inl same) =
    let P : Link → Type 0 = λ l. LeadsTo from l to in
    record { less = k; is_less = refl; to = to; there = there; way = subst P (sym same) way; behind = behind }
led (link_leads to there way behind more) link (inr i) = led more link i

module _ (settings : Settings) (cells : List Cell) (sheet : IsSheet settings cells) where
  abbrev all : List NamedParts
  all = flat_map (cell_entries settings) cells

  abbrev spelled : Cell → List Link
  spelled c = spelled_links settings c.links

  -- a name in place of a part is one of the link's token, under which it has the part's marks
  abbrev From : Cell → List ℕ → List Mark → Type 0
  From c name marks = IsFrom settings.prefix (spelled c) c.typed name marks

  among : (c to : Cell) (name : List ℕ) (marks : List Mark) (from : From c name marks) → LeadsTo c from.link to → In (name, marks) (cell_values settings to)
  among c to name marks from way =
      let P : List (List ℕ) → Type 0 = λ path. In (name, marks) (css_values (css_name settings.prefix path) from.there) in
      let Q : Typed → Type 0 = λ v. In (name, marks) (css_values (cell_name settings to) v) in
      subst Q (sym (way.same from.there from.stands from.kind)) (subst P (sym way.target) from.among)

  -- lines are nested as deep as links
  abbrev Deep : ℕ → Type 0
  Deep k = (c : Cell) → In c cells → LinksLead cells k c c.links → Each (cell_entries settings c) (λ e. Nested all k e.parts)

  from_link : (k : ℕ) → ((j : ℕ) → k ≡ suc j → Deep j) → (c : Cell) → LinksLead cells k c c.links → (name : List ℕ) (marks : List Mark) (parts : List Part)
      → From c name marks → Nested all k parts → Nested all k (linked name marks ∷ parts)
  from_link k deep c lead name marks parts from rest =
      let l = led lead from.link (in_spelled settings.references from.link c.links from.listed) in
      let R : Values → Type 0 = λ vs. In (name, marks) vs in
      let own = own_values settings.prefix (spelled l.to) (cell_name settings l.to) l.to.typed in
      let listed : In (name, marks) (map own_value (cell_entries settings l.to)) = subst R (sym own) (among c l.to name marks from l.way) in
      let (e, i, same) = value_in (cell_entries settings l.to) name marks listed in
      let P : ℕ → Type 0 = λ m. Nested all m parts in
      let Q : ℕ → Type 0 = λ m. Nested all m (linked name marks ∷ parts) in
      let inner : Nested all l.less e.parts = deep l.less l.is_less l.to l.there l.behind e i in
      subst Q (sym l.is_less) (leads e (in_flat (cell_entries settings) l.to e cells l.there i) same inner (subst P l.is_less rest))

  part_nested : (k : ℕ) → ((j : ℕ) → k ≡ suc j → Deep j) → (c : Cell) → LinksLead cells k c c.links → (parts : List Part)
      → AllByRecursion (ComesFrom settings.prefix (spelled c) c.typed) parts → Nested all k parts
  part_nested k deep c lead [] from = no_parts
  part_nested k deep c lead (plain marks ∷ parts) from = itself (part_nested k deep c lead parts from.1)
  part_nested k deep c lead (linked name marks ∷ parts) from = from_link k deep c lead name marks parts from.0 (part_nested k deep c lead parts from.1)

  abbrev AreFrom : Cell → NamedParts → Type 0
  AreFrom c e = AllByRecursion (ComesFrom settings.prefix (spelled c) c.typed) e.parts

  entry_from : (c : Cell) → In c cells → Each (cell_entries settings c) (AreFrom c)
  entry_from c i = each_of (AreFrom c) (cell_entries settings c) (come_from settings.prefix (spelled c) (cell_name settings c) c.typed (sheet.room c i))

  nested : (k : ℕ) → Deep k
  nested zero c i lead e j = part_nested zero (λ m more. cc) c lead e.parts (entry_from c i e j)
  nested (suc k) c i lead e j = part_nested (suc k) (λ m more. let same : k ≡ m = cc in subst Deep same (nested k)) c lead e.parts (entry_from c i e j)

  -- the lines of all tokens
  all_values : (cs : List Cell) → map own_value (flat_map (cell_entries settings) cs) ≡ sheet_values settings cs
  all_values [] = refl
  all_values (c ∷ cs) = map-append own_value (cell_entries settings c) (flat_map (cell_entries settings) cs) ∙ rw (own_values settings.prefix (spelled c) (cell_name settings c) c.typed, all_values cs) refl

  targets_named : (k : ℕ) (c : Cell) → LinksLead cells k c c.links → TargetsAreNamed settings.prefix (spelled c)
  targets_named k c lead = all_of (λ l. is_property (css_name settings.prefix l.target) ≡ true) (spelled c) (λ link i.
      let l = led lead link (in_spelled settings.references link c.links i) in
      let P : List (List ℕ) → Type 0 = λ path. is_property (css_name settings.prefix path) ≡ true in
      subst P l.way.target (sheet.named l.to l.there))

  one_block : (c : Cell) → In c cells → Block (cell_text settings c) (map declaration (cell_entries settings c))
  one_block c i = body_read (cell_name settings c) (map declaration (cell_entries settings c)) (sheet.named c i)
      (entries_sound settings.prefix (spelled c) (targets_named most_links c (sheet.links c i)) (cell_name settings c) c.typed (sheet.named c i) (sheet.typed c i))

  all_blocks : (cs : List Cell) → Each cs (λ c. In c cells) → Block (flat_map (cell_text settings) cs) (map declaration (flat_map (cell_entries settings) cs))
  all_blocks [] each = ended [] refl
  all_blocks (c ∷ cs) each =
      let P : List Declared → Type 0 = λ ds. Block (cell_text settings c ++ flat_map (cell_text settings) cs) ds in
      subst P (sym (map-append declaration (cell_entries settings c) (flat_map (cell_entries settings) cs))) (joined (one_block c (each c (inl refl))) (all_blocks cs (λ d i. each d (inr i))))

  -- all names
  all_apart : AreApart (value_names (sheet_values settings cells))
  all_apart =
      subst AreApart (sym (names_in (cell_values settings) cells))
      (names_apart (cell_names settings) cells (λ c i. own_apart (cell_name settings c) c.typed) sheet.apart)

  pub sheet_denotes : Denotes (sheet_bytes settings cells) (sheet_values settings cells)
  sheet_denotes =
      let P : List ℕ → Type 0 = λ bytes. Denotes bytes (sheet_values settings cells) in
      let Q : Values → Type 0 = λ vs. Denotes (head ++ (flat_map (cell_text settings) cells ++ foot)) vs in
      let R : Values → Type 0 = λ vs. AreApart (value_names vs) in
      subst P (sym (framed head foot (cell_text settings) cells))
      (subst Q (all_values cells) (denotes all (subst R (sym (all_values cells)) all_apart)
      (λ e i. let (c, j, k) = from_flat (cell_entries settings) e cells i in nested most_links c j (sheet.links c j) e k)
      (flat_map (cell_text settings) cells) (all_blocks cells (λ c i. i))))

  -- each name in a line stands for its token's value
  reference : (c : Cell) → In c cells → (part : Part) → ComesFrom settings.prefix (spelled c) c.typed part → Refers settings cells c part
  reference c i (plain marks) from = tt
  reference c i (linked name marks) from =
      let link = in_spelled settings.references from.link c.links from.listed in
      let l = led (sheet.links c i) from.link link in
      let here = among c l.to name marks from l.way in
      let same = l.way.same from.there from.stands from.kind in
      let denoted = sheet_denotes in
      record {
        link = from.link;
        listed = link;
        to = l.to;
        there = l.there;
        target = l.way.target;
        stands = from.stands ∙ ap (λ v. Some v) (sym same);
        kind = from.kind ∙ ap (λ v. Some (kind_of v)) (sym same);
        among = here;
        value = denoted.gives name marks (in_flat (cell_values settings) l.to (name, marks) cells l.there here);
      }

  parts_refer : (c : Cell) → In c cells → (parts : List Part) → AllByRecursion (ComesFrom settings.prefix (spelled c) c.typed) parts → AllByRecursion (Refers settings cells c) parts
  parts_refer c i [] from = tt
  parts_refer c i (p ∷ parts) from = (reference c i p from.0, parts_refer c i parts from.1)

  lines_refer : (c : Cell) → In c cells → (es : List NamedParts) → AllByRecursion (AreFrom c) es → AllByRecursion (λ e. AllByRecursion (Refers settings cells c) e.parts) es
  lines_refer c i [] from = tt
  lines_refer c i (e ∷ es) from = (parts_refer c i e.parts from.0, lines_refer c i es from.1)

  pub references : (c : Cell) → In c cells → AllByRecursion (λ e. AllByRecursion (Refers settings cells c) e.parts) (cell_entries settings c)
  references c i = lines_refer c i (cell_entries settings c) (come_from settings.prefix (spelled c) (cell_name settings c) c.typed (sheet.room c i))
