-- A file denotes the values of its tokens.
use Rattle.std.proofs.Common.{◌≡◌, ℕ, ◌<◌, ◌^◌, true, List, [], ◌∷◌, flat_map, refl, sym, subst, inl, inr}
use Rattle.ring.specs.Lists.{In, AreApart, Each}
use Rattle.transforms.specs.Config.{Settings}
use Rattle.transforms.specs.PlatformName.{is_identifier}
use Rattle.transforms.proofs.NamesApart.{names_apart, names_in}
use Rattle.transforms.proofs.PlainFramesJoin.{framed}
use Rattle.composite_rules.specs.Sound.{IsTyped}
use Rattle.composite_rules.specs.declared.typed.Typed.{Typed}
use Rattle.ios_out.specs.Constant.{value_names}
use Rattle.ios_out.specs.PlatformValue.{swift_values}
use Rattle.ios_out.specs.Reading.{Block, ended, head, foot}
use Rattle.ios_out.specs.Spelling.{body_text, swift_name, fragment_values, fragment_text}
use Rattle.ios_out.specs.Sheets.{Cell, cell_text, cell_values, cell_names, sheet_bytes, sheet_values, IsSheet, Denotes}
use Rattle.ios_out.proofs.BlocksJoin.{joined}
use Rattle.ios_out.proofs.OwnNamesApart.{own_apart}
use Rattle.ios_out.proofs.SpelledIsRead.{body_read}
use Rattle.ios_out.proofs.ValuesSpellable.{values_spellable}

pub lines_read : (settings : Settings) (name : List ℕ) (v : Typed) → settings.rem_base < 2 ^ 8 → IsTyped v → is_identifier name ≡ true
    → Block (body_text name (swift_values settings name v)) (swift_values settings name v)
lines_read settings name v base typed named = body_read name (swift_values settings name v) named (values_spellable settings name v base typed named)

pub fragments_read : (settings : Settings) (path : List (List ℕ)) (v : Typed) → settings.rem_base < 2 ^ 8 → IsTyped v → is_identifier (swift_name settings path) ≡ true
    → Block (fragment_text settings path v) (fragment_values settings path v)
fragments_read settings path v base typed named = lines_read settings (swift_name settings path) v base typed named

module _ (settings : Settings) (cells : List Cell) (sheet : IsSheet settings cells) where
  all_blocks : (cs : List Cell) → Each cs (λ c. In c cells) → Block (flat_map (cell_text settings) cs) (sheet_values settings cs)
  all_blocks [] each = ended [] refl
  all_blocks (c ∷ cs) each =
      let i = each c (inl refl) in
      joined (fragments_read settings c.path c.typed sheet.base (sheet.typed c i) (sheet.named c i)) (all_blocks cs (λ d j. each d (inr j)))

  -- all names
  apart : AreApart (value_names (sheet_values settings cells))
  apart =
      subst AreApart (sym (names_in (cell_values settings) cells))
      (names_apart (cell_names settings) cells (λ c i. own_apart settings (swift_name settings c.path) c.typed) sheet.apart)

  pub sheet_denotes : Denotes (sheet_bytes settings cells) (sheet_values settings cells)
  sheet_denotes = record {
    reads = record { inside = flat_map (cell_text settings) cells; frame = framed head foot (cell_text settings) cells; block = all_blocks cells (λ c i. i) };
    apart = apart;
  }
