-- Sheets: the bodies of fragments in a frame.
use Rattle.std.specs.Prelude.{◌≡◌, Bool, true, false, ℕ, List, [], ◌∷◌, ◌++◌}
use Rattle.std.specs.List.{flat_map}

-- what stands before the bodies, between each two, after the last where there is one, and at the end
pub record FrameData : Type 0 where
  pub head : List ℕ
  pub glue : List ℕ
  pub last : List ℕ
  pub tail : List ℕ

-- the bodies with the glue between
abbrev pub glued : List ℕ → List (List ℕ) → List ℕ
glued glue [] = []
glued glue (body ∷ bodies) = body ++ flat_map (λ next. glue ++ next) bodies

-- whether there is a body
abbrev pub are_some : List (List ℕ) → Bool
are_some [] = false
are_some (body ∷ bodies) = true

-- what stands after the last body, where there is one
abbrev pub behind_last : FrameData → List (List ℕ) → List ℕ
behind_last frame [] = []
behind_last frame (body ∷ bodies) = frame.last

-- the sheet of these bodies
abbrev pub sheet_text : FrameData → List (List ℕ) → List ℕ
sheet_text frame bodies = frame.head ++ (glued frame.glue bodies ++ (behind_last frame bodies ++ frame.tail))

-- a frame with nothing between bodies or after the last
abbrev pub plain_frame : List ℕ → List ℕ → FrameData
plain_frame head tail = record { head = head; glue = []; last = []; tail = tail }

-- in it the bodies stand one after another
abbrev pub PlainFramesJoin : Type 0
PlainFramesJoin = (head tail : List ℕ) (bodies : List (List ℕ))
    → sheet_text (plain_frame head tail) bodies ≡ head ++ (flat_map (λ body. body) bodies ++ tail)

-- a sheet that may still grow: its frame, its bytes so far, and whether they have a body
pub record OpenSheet : Type 0 where
  pub frame : FrameData
  pub text : List ℕ
  pub has_body : Bool

-- the sheet has this frame, and these bodies were added
pub record Holds (sheet : OpenSheet) (frame : FrameData) (bodies : List (List ℕ)) : Type 0 where
  pub frame_is : sheet.frame ≡ frame
  pub text_is : sheet.text ≡ frame.head ++ glued frame.glue bodies
  pub has_body_is : sheet.has_body ≡ are_some bodies

-- the sheet has one body more, whatever it held
abbrev pub Gains : OpenSheet → OpenSheet → List ℕ → Type 0
Gains before after body =
    (frame : FrameData) (bodies : List (List ℕ)) → Holds before frame bodies → Holds after frame (bodies ++ body ∷ [])

-- the bytes are the sheet of all that it holds
abbrev pub IsSheetText : OpenSheet → List ℕ → Type 0
IsSheetText sheet bytes = (frame : FrameData) (bodies : List (List ℕ)) → Holds sheet frame bodies
    → bytes ≡ sheet_text frame bodies
