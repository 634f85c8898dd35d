use Rattle.std.proofs.Common.{rules, ◌≡◌, true, None}
use Rattle.alias_ref.specs.inner.Remembering.{known_at, all_known}
use Rattle.alias_ref.proofs.RememberedTokens.{remembers_more}
use Rattle.alias_ref.proofs.remembering.remember.Goals as goal

pub known_of-requires : goal.known_of-requires
known_of-requires c =
    let none : known_at c.args.memory.now.known.items c.args.i ≡ None = search rules in
    record { token = c.requires.token; right = c.requires.right; new = none; aliases = c.requires.aliases }

pub returns-in-Some : goal.returns-in-Some
returns-in-Some c =
    let old = c.args.memory.now.known.items in
    let known : all_known old c.args.i c.args.named.now ≡ true = search rules in
    remembers_more c.args.flat.now old c.keep.new.self.known.items c.args.i c.args.token.now c.in-Some.known c.args.named.now c.requires.right c.keep.ensures c.requires.token
    (search rules) (search rules) c.requires.named known
