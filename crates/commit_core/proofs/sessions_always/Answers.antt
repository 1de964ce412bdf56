use Rattle.std.proofs.Common.{inl, inr, refl}
use Rattle.commit_core.specs.Sessions.{fresh_disk}
use Rattle.commit_core.proofs.Opening.{open_end}
use Rattle.commit_core.proofs.Sessions.{each_grows, each_is_kept, opens_again}
use Rattle.commit_core.proofs.SessionSafety.{each_is_safe}
use Rattle.commit_core.proofs.sessions_always.Goals as goal

pub returns-clause-grows : goal.returns-clause-grows
returns-clause-grows c = λ content sessions end can are. each_grows (fresh_disk content) sessions end are

pub returns-clause-opens : goal.returns-clause-opens
returns-clause-opens c = λ content sessions end left can are crash. opens_again content sessions end can are left (inr crash)

pub returns-clause-reads : goal.returns-clause-reads
returns-clause-reads c = λ content sessions end can are. opens_again content sessions end can are end.content (inl refl)

pub returns-clause-opened : goal.returns-clause-opened
returns-clause-opened c = λ disk bodies store. open_end disk bodies store

pub returns-clause-safe : goal.returns-clause-safe
returns-clause-safe c = λ content sessions end can are. each_is_safe (fresh_disk content) sessions end are

pub returns-clause-kept : goal.returns-clause-kept
returns-clause-kept c = λ content sessions end can are. each_is_kept (fresh_disk content) sessions end are
