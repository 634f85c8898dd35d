-- Where the outputs of files stand.
use Rattle.std.specs.Prelude.{◌≡◌, ℕ, List, true}
use Rattle.std.specs.FinMap as finite
use Rattle.tk_io.specs.FilesData.{FilesData}
use Rattle.build_plain.specs.Names.{HaveUtf8Resolver}
use Rattle.build_plain.specs.Out.{Builds}
use Rattle.out_store.specs.Paths.{IsOutputPath}

-- the outputs of files whose resolver document is UTF-8 stand at output paths, which a store can hold
abbrev pub OutputsFit : Type 0
OutputsFit = (files out : FilesData) → HaveUtf8Resolver files → Builds files out
    → (path : List ℕ) → finite.contains_key out path ≡ true → IsOutputPath path
