use Rattle.alias_ref.proofs.RememberedWalks.{remembered_walk, remembered_breaks, remembered_pass, remembered_pass_breaks, unbroken_walk, unbroken_pass, walk_rememberable, pass_rememberable, measures_below, measures_kept, counts_below, counts_kept}
use Rattle.alias_ref.proofs.RememberedFaults.{remembered_fault}
use Rattle.alias_ref.proofs.BranchesRise.{walked_rises, passed_rises}
use Rattle.alias_ref.proofs.ClosedTokens.{closed_avoid, numbered_avoid, numbers_grow, listed_have_numbers, known_is_walked, walked_is_known}
use Rattle.alias_ref.proofs.laws.remembered_walks.Goals as goal

pub returns-clause-walks : goal.returns-clause-walks
returns-clause-walks c = λ T b p n d r a room. remembered_walk T b p n d r a room

pub returns-clause-breaks : goal.returns-clause-breaks
returns-clause-breaks c = λ T b p n d k r a room. remembered_breaks T b p n d k r a room

pub returns-clause-passes : goal.returns-clause-passes
returns-clause-passes c = λ T b p n d r a room. remembered_pass T b p n d r a room

pub returns-clause-pass_breaks : goal.returns-clause-pass_breaks
returns-clause-pass_breaks c = λ T b p n d k r a room. remembered_pass_breaks T b p n d k r a room

pub returns-clause-rememberable : goal.returns-clause-rememberable
returns-clause-rememberable c = λ T b p k h. (unbroken_walk T b p k h, walk_rememberable T b p k h)

pub returns-clause-pass_rememberable : goal.returns-clause-pass_rememberable
returns-clause-pass_rememberable c = λ T b p k h. (unbroken_pass T b p k h, pass_rememberable T b p k h)

pub returns-clause-closed : goal.returns-clause-closed
returns-clause-closed c = λ T among closed b x p h k. closed_avoid T among closed b x p h k

pub returns-clause-numbered : goal.returns-clause-numbered
returns-clause-numbered c = λ T number smaller b x p i h k. numbered_avoid T number smaller b x p i h k

pub returns-clause-below : goal.returns-clause-below
returns-clause-below c = λ T b p n d k r a room few. measures_below T b p n d k r a room few

pub returns-clause-kept : goal.returns-clause-kept
returns-clause-kept c = λ T b p n d k r. measures_kept T b p n d k r

pub returns-clause-grow : goal.returns-clause-grow
returns-clause-grow c = λ T number t i less new names. numbers_grow T number t i less new names

pub returns-clause-faults : goal.returns-clause-faults
returns-clause-faults c = λ T b p before after last d k br is clean own deep big a within room few. remembered_fault T b p before after last d k br is clean own deep big a within room few

pub returns-clause-rise : goal.returns-clause-rise
returns-clause-rise c = λ T b p c x. (walked_rises T b p c x, passed_rises T b p c x)

pub returns-clause-counts : goal.returns-clause-counts
returns-clause-counts c = λ T b p k h a room few. counts_below T b p k h a room few

pub returns-clause-counts_kept : goal.returns-clause-counts_kept
returns-clause-counts_kept c = λ T b p k h. counts_kept T b p k h

pub returns-clause-listed : goal.returns-clause-listed
returns-clause-listed c = λ flat number t i smaller new names. listed_have_numbers flat number t i smaller new names

pub returns-clause-known : goal.returns-clause-known
returns-clause-known c = λ flat number b token i n d k v kind less known is above room few. known_is_walked flat number b token i n d k v kind less known is above room few

pub returns-clause-learnt : goal.returns-clause-learnt
returns-clause-learnt c = λ flat b token n d k v kind m means is. walked_is_known flat b token n d k v kind m means is
