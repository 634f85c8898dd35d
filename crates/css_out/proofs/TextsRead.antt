-- Between its head and foot a sheet declares what its texts declare.
use Rattle.std.proofs.Common.{ℕ, List, [], ◌∷◌, map, flat_map, refl}
use Rattle.std.specs.List.{AllByRecursion}
use Rattle.transforms.specs.Sheet.{sheet_text}
use Rattle.transforms.proofs.PlainFramesJoin.{framed}
use Rattle.css_out.specs.Reading.{Declared, Block, ended, Reads, head, foot}
use Rattle.css_out.specs.Sheets.{css_frame}
use Rattle.css_out.proofs.BlocksJoin.{joined}

texts_joined : (texts : List (List ℕ × List Declared)) → AllByRecursion (λ t. Block t.0 t.1) texts → Block (flat_map (λ t. t.0) texts) (flat_map (λ t. t.1) texts)
texts_joined [] h = ended [] refl
texts_joined (t ∷ texts) h = joined h.0 (texts_joined texts h.1)

pub texts_read : (texts : List (List ℕ × List Declared)) → AllByRecursion (λ t. Block t.0 t.1) texts → Reads (sheet_text css_frame (map (λ t. t.0) texts)) (flat_map (λ t. t.1) texts)
texts_read texts h = record { inside = flat_map (λ t. t.0) texts; frame = framed head foot (λ t. t.0) texts; block = texts_joined texts h }
