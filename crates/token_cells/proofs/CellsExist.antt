-- Each token of a flat tree comes to something.
use Rattle.std.proofs.Common.{◌≡◌, ℕ, suc, ◌<◌, true, List, [], ◌∷◌, get_or, length, Option, Some, None, Ok, Err, refl, arith}
use Rattle.std.specs.FinMap as finite
use Rattle.json_span.specs.FitsIn.{FitsIn, SaidFits}
use Rattle.json_span.specs.Laws.{ShowsSay}
use Rattle.json_span.specs.PlainView.{Value as Plain}
use Rattle.name_path.specs.declared.kind.Kind.{Kind}
use Rattle.name_path.specs.declared.link.Link.{Link}
use Rattle.group_inherit.specs.Flattening.{Flattened, TokenAt}
use Rattle.alias_ref.specs.Answer.{in_walk, kind_missing}
use Rattle.alias_ref.specs.Kinds.{KindOf, LinksAt, own_in, group_in}
use Rattle.alias_ref.specs.Laws.{Flat, UnbrokenMeans, UnbrokenHasKind, UnbrokenHasLinks, MeaningsFit}
use Rattle.alias_ref.specs.Visits.{walk_break, ref_break, RefBreak}
use Rattle.alias_ref.specs.Written.{whole, written_in, is_written}
use Rattle.alias_ref.specs.declared.fault.RefRule.TheVariants as reference
use Rattle.type_rules.specs.Checked.{Checked}
use Rattle.composite_rules.specs.Value.{value_of}
use Rattle.composite_rules.specs.declared.typed.Typed.{Typed}
use Rattle.transforms.specs.Config.{Settings, AreAllowed}
use Rattle.transforms.specs.PlatformName.{PathsAreNamed}
use Rattle.transforms.specs.declared.platform.Platform.{Platform}
use Rattle.transforms.specs.declared.platform.Platform.TheVariants.{Css, Android, Swift}
use Rattle.transforms.specs.Frag.{Frag}
use Rattle.css_out.specs.Spelling as on_css
use Rattle.android_out.specs.Spelling as on_android
use Rattle.ios_out.specs.Spelling as on_swift
use Rattle.json_out.specs.Spelling as on_json
use Rattle.refusals.specs.declared.rule.CellRule.TheVariants.{Ref, Value}
use Rattle.token_cells.specs.Cell.{TokenPath, IsMeant, by_reference, by_value, extras_of, GivesAll, IsCell, AreCells}
use Rattle.token_cells.specs.Existence.{AreDefined, EachCell, EachCells}
use Rattle.token_cells.specs.TokenCell.{TokenCell, Refused, Made}
use Rattle.token_cells.proofs.Entries.{stands_there}
use Rattle.token_cells.proofs.LinkedTokens.{token_written}
use Rattle.token_cells.proofs.TextsOfTokens.{path_bytes, extras_bytes}
use Rattle.token_cells.proofs.ValuesFit.{Keeps, most, values_keep}

-- the laws that are needed
pub record Laws : Type 0 where
  pub meaning : UnbrokenMeans
  pub kind : UnbrokenHasKind
  pub links : UnbrokenHasLinks
  pub fits : MeaningsFit
  pub say : ShowsSay ℕ
  pub said : SaidFits ℕ
  pub named : PathsAreNamed

-- the cell of a token
abbrev HasCell : Flat → Settings → TokenPath → Type 0
HasCell flat settings path = (cell : TokenCell) × IsCell flat settings path cell

module _ (laws : Laws) (flat : Flat) (settings : Settings) (defined : AreDefined flat)
    (allowed : AreAllowed settings) where
  module _ (path : TokenPath) (entry : Flattened) (there : finite.get flat path ≡ Some entry) where
    css_frag : Typed → List Link → Frag
    css_frag typed links = record {
      names = on_css.fragment_names settings path typed;
      body = on_css.fragment_text settings path links typed;
    }

    android_frag : Typed → Frag
    android_frag typed = record {
      names = on_android.fragment_names settings path typed;
      body = on_android.fragment_text settings path typed;
    }

    swift_frag : Typed → Frag
    swift_frag typed = record {
      names = on_swift.fragment_names settings path typed;
      body = on_swift.fragment_text settings path typed;
    }

    json_frag : Typed → Frag
    json_frag typed = record { names = []; body = on_json.fragment_text path typed (extras_of entry) }

    gives_all : (typed : Typed) (links : List Link) → Keeps typed
        → GivesAll settings path entry typed links (css_frag typed links) (android_frag typed) (swift_frag typed)
        (json_frag typed)
    unfolding css_frag android_frag swift_frag json_frag
    gives_all typed links keeps =
        let d = defined path entry there in
        let e = extras_bytes laws.say laws.said path entry d in
        let most_pixels = allowed.most in
        let named = λ (platform : Platform). laws.named platform settings path allowed d.names in
        record {
          css_of = record { names = refl; body = refl; room = keeps.room; named = named Css };
          android_of = record { names = refl; body = refl; base = omega arith; named = named Android };
          ios_of = record { names = refl; body = refl; base = omega arith; named = named Swift };
          json_of = record {
            names = refl;
            body = refl;
            bytes = record {
              names = path_bytes path d.names;
              families = keeps.families;
              description = e.description;
              reason = e.reason;
            };
          };
        }

    -- of a token that means something under a kind
    value_cell : (kind : Kind) (meaning : Plain) (links : List Link) → IsMeant flat path kind meaning
        → FitsIn most meaning
        → LinksAt (written_in flat) (own_in flat) (group_in flat) (whole path) links
        → (read : Checked Typed) → value_of settings.legacy kind meaning ≡ read → HasCell flat settings path
    value_cell kind meaning links meant fits are (Err b) is =
        (Refused (Value b.rule) (record { token = path; trail = b.trail }) [], by_value kind meaning b meant is refl)
    value_cell kind meaning links meant fits are (Ok typed) is = (
      Made (css_frag typed links) (android_frag typed) (swift_frag typed) (json_frag typed),
      record {
        typed = typed;
        links = links;
        value = record { kind = kind; meaning = meaning; meant = meant; is_typed = is; are_links = are };
        entry = entry;
        there = there;
        gives = gives_all typed links (values_keep settings.legacy kind meaning typed fits is);
      },
    )

    written : is_written (written_in flat (whole path)) ≡ true
    written = token_written flat path entry there

    -- of a token whose references break no rule
    unbroken_cell : walk_break (written_in flat) path ≡ None → (k : Option Kind)
        → KindOf (written_in flat) (own_in flat) (group_in flat) path k → HasCell flat settings path
    unbroken_cell unbroken None of =
        let missing : RefBreak = ref_break reference.NoType (whole path) in
        (Refused (Ref reference.NoType) (whole path) [], by_reference missing (kind_missing unbroken of refl) refl)
    unbroken_cell unbroken (Some kind) of =
        let (meaning, means) = laws.meaning flat path written unbroken in
        let (links, are) = laws.links flat path written unbroken in
        let fits = laws.fits flat most (λ q f at. (defined q f at).definition)
        (λ q f at. let d = defined q f at in (d.utf8, d.fits)) (whole path) meaning means in
        let meant : IsMeant flat path kind meaning = record { unbroken = unbroken; kind_of = of; means = means } in
        value_cell kind meaning links meant fits are (value_of settings.legacy kind meaning) refl

    walked_cell : (b : Option RefBreak) → walk_break (written_in flat) path ≡ b → HasCell flat settings path
    walked_cell (Some b) is = (Refused (Ref b.rule) b.place b.ring, by_reference b (in_walk is) refl)
    walked_cell None is = let (k, of) = laws.kind flat path written is in unbroken_cell is k of

    one_cell : HasCell flat settings path
    one_cell = walked_cell (walk_break (written_in flat) path) refl

  -- of tokens that each have a cell
  abbrev EachHas : List TokenAt → Type 0
  EachHas tokens = (i : ℕ) (token : TokenAt) → i < length tokens → token ≡ get_or tokens i token
      → HasCell flat settings token.0

  all_cells : (tokens : List TokenAt) → EachHas tokens → (cells : List TokenCell) × AreCells flat settings tokens cells
  all_cells [] each = ([], tt)
  all_cells (token ∷ tokens) each =
      let (cell, is) = each 0 token (omega arith) refl in
      let (cells, are) = all_cells tokens (λ i later within at. each (suc i) later (omega (arith, within)) at) in
      (cell ∷ cells, (is, are))

  tree_cells : (cells : List TokenCell) × AreCells flat settings (finite.entries flat) cells
  tree_cells =
      all_cells (finite.entries flat) (λ i token within at.
      one_cell token.0 token.1 (stands_there flat i token within at))

pub each_cell : Laws → EachCell
each_cell laws flat settings defined allowed path entry there =
    one_cell laws flat settings defined allowed path entry there

pub each_cells : Laws → EachCells
each_cells laws flat settings defined allowed = tree_cells laws flat settings defined allowed
