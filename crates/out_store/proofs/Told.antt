-- What is told of a store over two calls or more.
use Rattle.std.proofs.Common.{◌≡◌, Option, Some, None, sym, subst}
use Rattle.std.specs.Option.{IfSome}
use Rattle.tk_io.specs.FilesData.{FilesData}
use Rattle.out_store.specs.Effects.{Told}

pub told_as : {P : FilesData → FilesData → Type 0} (Q : FilesData → FilesData → Type 0) (a b : Option FilesData) → Told a b P → ((m n : FilesData) → P m n → Q m n) → Told a b Q
told_as Q None b h f = tt
told_as Q (Some m) None h f = h
told_as Q (Some m) (Some n) h f = f m n h

pub told_then : {P Q : FilesData → FilesData → Type 0} (R : FilesData → FilesData → Type 0) (a b c : Option FilesData) → Told a b P → Told b c Q → ((m k n : FilesData) → P m k → Q k n → R m n) → Told a c R
told_then R None b c h k f = tt
told_then R (Some m) None c h k f = absurd h
told_then R (Some m) (Some k) None h g f = absurd g
told_then R (Some m) (Some k) (Some n) h g f = f m k n h g

pub told_both : {P Q : FilesData → FilesData → Type 0} (R : FilesData → FilesData → Type 0) (a b : Option FilesData) → Told a b P → Told a b Q → ((m n : FilesData) → P m n → Q m n → R m n) → Told a b R
told_both R None b h g f = tt
told_both R (Some m) None h g f = h
told_both R (Some m) (Some n) h g f = f m n h g

told_itself : (Q : FilesData → FilesData → Type 0) (a : Option FilesData) → ((m : FilesData) → Q m m) → Told a a Q
told_itself Q None f = tt
told_itself Q (Some m) f = f m

pub told_same : (Q : FilesData → FilesData → Type 0) (a b : Option FilesData) → b ≡ a → ((m : FilesData) → Q m m) → Told a b Q
told_same Q a b e f = subst (λ (x : Option FilesData). Told a x Q) (sym e) (told_itself Q a f)

given_itself : {P : FilesData → Type 0} (Q : FilesData → FilesData → Type 0) (a : Option FilesData) → IfSome a P → ((m : FilesData) → P m → Q m m) → Told a a Q
given_itself Q None h f = tt
given_itself Q (Some m) h f = f m h

pub told_given : {P : FilesData → Type 0} {Q : FilesData → FilesData → Type 0} (R : FilesData → FilesData → Type 0) (a b : Option FilesData) → IfSome a P → Told a b Q → ((m n : FilesData) → P m → Q m n → R m n) → Told a b R
told_given R None b h g f = tt
told_given R (Some m) None h g f = g
told_given R (Some m) (Some n) h g f = f m n h g

-- where what is told stays the same
pub told_read : {P : FilesData → Type 0} (Q : FilesData → FilesData → Type 0) (a b : Option FilesData) → b ≡ a → IfSome a P → ((m : FilesData) → P m → Q m m) → Told a b Q
told_read Q a b e h f = subst (λ (x : Option FilesData). Told a x Q) (sym e) (given_itself Q a h f)

pub if_both : {P Q : FilesData → Type 0} (R : FilesData → Type 0) (a : Option FilesData) → IfSome a P → IfSome a Q → ((m : FilesData) → P m → Q m → R m) → IfSome a R
if_both R None h g f = tt
if_both R (Some m) h g f = f m h g

pub if_as : {P : FilesData → Type 0} (R : FilesData → Type 0) (a : Option FilesData) → IfSome a P → ((m : FilesData) → P m → R m) → IfSome a R
if_as R None h f = tt
if_as R (Some m) h f = f m h
