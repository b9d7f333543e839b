-- How a command ends that serves no conversation of its own: neither at a cut request nor at a bound.
use Rattle.std.proofs.Common.{◌≢◌, arith}
use Rattle.conversation.specs.declared.ended.Ended.{Ended}
use Rattle.conversation.specs.declared.ended.Ended.TheVariants as how
use Rattle.commands.specs.declared.finish.Finish.{Finish}
use Rattle.commands.specs.declared.finish.Finish.TheVariants as finish
use Rattle.commands.specs.Finish.{status_of, status_at_end}
use Rattle.commands.specs.Replaying.{IsOfReplaying}
use Rattle.commands.specs.Running.{IsOfRunning}
use Rattle.commands.specs.Serving.{IsEndOfServing, IsOfServing}
use Rattle.commands.proofs.Statuses.{unavailable_alone}

pub not_cut_at : (end : Ended) → IsEndOfServing end → status_at_end end ≢ 5
not_cut_at how.End of is = omega (arith, is)
not_cut_at how.Asked of is = of
not_cut_at (how.Closed fault) of is = of
not_cut_at how.ReadFault of is = omega (arith, is)
not_cut_at how.NoMemory of is = omega (arith, is)
not_cut_at how.WriteFault of is = omega (arith, is)
not_cut_at (how.Truncated count) of is = of
not_cut_at how.LongTalk of is = of

pub not_long_at : (end : Ended) → IsEndOfServing end → status_at_end end ≢ 8
not_long_at how.End of is = omega (arith, is)
not_long_at how.Asked of is = of
not_long_at (how.Closed fault) of is = of
not_long_at how.ReadFault of is = omega (arith, is)
not_long_at how.NoMemory of is = omega (arith, is)
not_long_at how.WriteFault of is = omega (arith, is)
not_long_at (how.Truncated count) of is = of
not_long_at how.LongTalk of is = of

pub not_cut : (end : Finish) → IsOfServing end → status_of end ≢ 5
not_cut (finish.Served end) of is = not_cut_at end of is
not_cut (finish.BadUsers row) of is = omega (arith, is)
not_cut finish.UsersLong of is = omega (arith, is)
not_cut (finish.BadJournal entry) of is = omega (arith, is)
not_cut finish.JournalLong of is = omega (arith, is)
not_cut finish.Unavailable of is = omega (arith, is)

pub not_long : (end : Finish) → IsOfServing end → status_of end ≢ 8
not_long (finish.Served end) of is = not_long_at end of is
not_long (finish.BadUsers row) of is = omega (arith, is)
not_long finish.UsersLong of is = omega (arith, is)
not_long (finish.BadJournal entry) of is = omega (arith, is)
not_long finish.JournalLong of is = omega (arith, is)
not_long finish.Unavailable of is = omega (arith, is)

pub replaying_serves : (end : Finish) → IsOfReplaying end → IsOfServing end
replaying_serves (finish.Served end) of = of
replaying_serves (finish.BadUsers row) of = tt
replaying_serves finish.UsersLong of = tt
replaying_serves (finish.BadJournal entry) of = tt
replaying_serves finish.JournalLong of = tt
replaying_serves finish.Unavailable of = tt

never_of_running : (end : Finish) → IsOfRunning end → end ≢ finish.Unavailable
never_of_running (finish.Served end) of is = cc
never_of_running (finish.BadUsers row) of is = cc
never_of_running finish.UsersLong of is = cc
never_of_running (finish.BadJournal entry) of is = of
never_of_running finish.JournalLong of is = of
never_of_running finish.Unavailable of is = of

pub always_running : (end : Finish) → IsOfRunning end → status_of end ≢ 7
always_running end of is = never_of_running end of (unavailable_alone end is)
