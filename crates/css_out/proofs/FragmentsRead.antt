-- The text of a token is read as its lines.
use Rattle.std.proofs.Common.{◌≡◌, true, false, Bool, ℕ, List, [], sym, subst}
use Rattle.std.specs.Prelude.{if◌then◌else◌}
use Rattle.name_path.specs.declared.link.Link.{Link}
use Rattle.transforms.specs.Config.{Settings}
use Rattle.composite_rules.specs.Sound.{IsTyped}
use Rattle.composite_rules.specs.declared.typed.Typed.{Typed}
use Rattle.css_out.specs.Reading.{Block}
use Rattle.css_out.specs.Fragment.{spelled_links}
use Rattle.css_out.specs.Spelling.{lines_under, text_under}
use Rattle.css_out.specs.Sources.{TargetsAreNamed, IsReadUnder}
use Rattle.css_out.proofs.LinesAreSpellable.{entries_sound}
use Rattle.css_out.proofs.SpelledIsRead.{body_read}

targets_if : (prefix : List ℕ) (b : Bool) (links : List Link) → TargetsAreNamed prefix links → TargetsAreNamed prefix (if b then links else [])
targets_if prefix true links h = h
targets_if prefix false links h = tt

pub read_under : (settings : Settings) (name : List ℕ) (links : List Link) (v : Typed) (text : List ℕ) → IsTyped v
    → text ≡ text_under settings name links v → IsReadUnder settings name links v text
read_under settings name links v text typed same = λ named targets.
    let lines = lines_under settings name links v in
    let P : List ℕ → Type 0 = λ t. Block t lines in
    subst P (sym same)
    (body_read name lines named (entries_sound settings.prefix (spelled_links settings links) (targets_if settings.prefix settings.references links targets) name v named typed))
