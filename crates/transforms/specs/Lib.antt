-- `config_of text` is what a text says, over the kit's own reading of TOML; `name_on platform
-- prefix path` spells a name character by character, `is_name_on` says which texts are names in the
-- platform's language. `Holds` says which bodies a sheet has, and `IsSheetText` what its bytes are.
-- `first_taken` is the path of the first of a token's names that is there.
--
-- What is promised, with the calls and clauses that carry it:
-- * a configuration text is answered with what it says, or with the fault that it has; a key that
--   is told is refused, and no refused key comes before it in byte order (`read_config`: `ok`,
--   `refused`, `first`)
-- * what a configuration text says, and the settings of no text, have a prefix of its form and 1 to
--   100 pixels of a rem; under such settings each token path of UTF-8 names has a name on each
--   platform (`config_laws`: `texts`, `plain`; `name_laws`: `named`)
-- * a token's name on a platform is its path spelled character by character; whatever the path of a
--   token holds, it is a name of the platform's language, also with an ending (`write_name`,
--   `name_for`: `is`, `named`; `name_laws`)
-- * lengths in rem are scaled exactly; a color is `#AARRGGBB` (`scale_rem`, `hex8`)
-- * a sheet is its head, the bodies with the glue between, `last` where there is a body, and its
--   tail (`Sheet::start`, `add_body`, `finish`)
-- * a clash is answered with the path of the first of the names that is there, and changes nothing;
--   where tokens are added and none is answered, no token has a name of an earlier one
--   (`Clash::add`; `clash_laws`)
-- * names are apart exactly where none stands twice; whether a name stands behind the last is
--   answered exactly, and names that rise so are apart (`are_apart`; `Rising::add`, `clash_laws`:
--   `rising`)
-- * a body stands in the sheet where it is told, whatever comes behind it; a text between two
--   offsets is that part of the bytes (`Sheet::add_body`: `there`; `Extent::text`)
-- * texts in one buffer are those that were put in, in their order (`Texts::push`, `at`, `len`)

pub mod Config
pub mod PlatformName
pub mod FiveNames
pub mod Hexadecimal
pub mod Quoted
pub mod Runs
pub mod Scaling
pub mod Frag
pub mod Extent
pub mod Sheet
pub mod Rising
pub mod Clash
pub mod View
pub mod inner
