use Rattle.std.proofs.lemmas.Result.{err_from_is_err_and}
use Rattle.command_line.proofs.Questions.{no_memory, no_threads, no_where}
use Rattle.command_line.proofs.asked.inquiry_in.Goals as goal

pub returns-in_err-range_of-in-memory : goal.returns-in_err-range_of-in-memory
returns-in_err-range_of-in-memory c =
    let p = err_from_is_err_and c.from_residual-in_err-range_of-in-memory.result c.from_residual-in_err-range_of-in-memory.ensures.1 in
    rw p.1 (record
    { found = tt; none = no_memory c.args.name.now c.args.value.now c.in-memory.is c.in_err-range_of-in-memory.ensures.reads.none })

pub returns-in_err-none_of-in-threads : goal.returns-in_err-none_of-in-threads
returns-in_err-none_of-in-threads c =
    let p = err_from_is_err_and c.from_residual-in_err-none_of-in-threads.result c.from_residual-in_err-none_of-in-threads.ensures.1 in
    rw p.1 (record {
      found = tt;
      none = no_threads c.args.name.now c.args.value.now c.in-threads.is (λ e. c.in_err-none_of-in-threads.ensures.none tt e);
    })

pub returns-in_err-none_of-in-where : goal.returns-in_err-none_of-in-where
returns-in_err-none_of-in-where c =
    let p = err_from_is_err_and c.from_residual-in_err-none_of-in-where.result c.from_residual-in_err-none_of-in-where.ensures.1 in
    rw p.1 (record
    { found = tt; none = no_where c.args.name.now c.args.value.now c.in-where.is (λ e. c.in_err-none_of-in-where.ensures.none tt e) })
