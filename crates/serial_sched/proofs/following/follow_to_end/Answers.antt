use Rattle.serial_sched.proofs.following.follow_to_end.Goals as goal

pub returns-in-Preempt : goal.returns-in-Preempt
returns-in-Preempt c = rw c.in-Preempt.is c.follow_preempt.ensures

pub returns-in-Call : goal.returns-in-Call
returns-in-Call c = rw c.in-Call.is c.follow_call.ensures

pub returns-in-Fault : goal.returns-in-Fault
returns-in-Fault c = rw c.in-Fault.is c.follow_fault.ensures

pub returns-in-Expire : goal.returns-in-Expire
returns-in-Expire c = rw c.in-Expire.is c.follow_expire.ensures
