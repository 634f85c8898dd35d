-- What stands when events were taken into the files.
use Rattle.std.specs.Prelude.{◌≡◌, List}
use Rattle.edit_script.specs.Script.{EventData}
use Rattle.edit_script.specs.Files.{AreFilesAfter, EveryFits, IsUnfit, made_after}
use Rattle.token_cli.specs.inner.Step.{State, first_state}
use Rattle.token_cli.specs.declared.stop.Stop.{Stop}
use Rattle.token_cli.specs.declared.stop.Stop.TheVariants as stop

-- these events fit and were taken into the files, and nothing was told
pub record AreEdited (es : List EventData) (s : State) : Type 0 where
  pub fits : EveryFits es
  pub files : AreFilesAfter es s.files
  pub made : s.made ≡ made_after es
  pub held : s.held ≡ first_state.held
  pub kept : s.kept ≡ first_state.kept
  pub commits : s.commits ≡ 0

-- why these events aren't all taken into the files
abbrev pub EditsFail : Stop → List EventData → Type 0
EditsFail stop.NoMemory es = Unit {0}
EditsFail (stop.BadEvent number) es = IsUnfit es number
EditsFail stop.WriteFault es = ⊥
EditsFail stop.Usage es = ⊥
EditsFail (stop.BadScript at) es = ⊥
EditsFail stop.ReadFault es = ⊥
EditsFail stop.TooLong es = ⊥
