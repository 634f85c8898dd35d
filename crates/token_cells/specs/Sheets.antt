-- The sheets of a flat tree's cells: one file for each platform, and one for programs.
use Rattle.std.specs.Prelude.{ℕ, List, [], ◌∷◌, flat_map}
use Rattle.transforms.specs.Sheet.{sheet_text, FrameData}
use Rattle.css_out.specs.Sheets.{css_frame}
use Rattle.android_out.specs.Sheets.{android_frame}
use Rattle.ios_out.specs.Sheets.{swift_frame}
use Rattle.json_out.specs.Sheets.{json_frame}
use Rattle.token_cells.specs.declared.format.Format.{Format}
use Rattle.token_cells.specs.declared.format.Format.TheVariants.{Css, Android, Swift, Json}
use Rattle.token_cells.specs.TokenCell.{TokenCell, Refused, Made}

abbrev pub bodies_for : Format → TokenCell → List (List ℕ)
bodies_for format (Refused rule place ring) = []
bodies_for Css (Made css android ios json) = css.body ∷ []
bodies_for Android (Made css android ios json) = android.body ∷ []
bodies_for Swift (Made css android ios json) = ios.body ∷ []
bodies_for Json (Made css android ios json) = json.body ∷ []

abbrev pub frame_for : Format → FrameData
frame_for Css = css_frame
frame_for Android = android_frame
frame_for Swift = swift_frame
frame_for Json = json_frame

abbrev pub sheet_for : Format → List TokenCell → List ℕ
sheet_for format cells = sheet_text (frame_for format) (flat_map (bodies_for format) cells)
