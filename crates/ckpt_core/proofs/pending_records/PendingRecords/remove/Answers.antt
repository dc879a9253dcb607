-- Answers the goals of `PendingRecords::remove`.
use Rattle.ckpt_core.proofs.{Bool, not, sym, ap, has_id, Record, fails-from_list_any, filter-all, find-none}
use Rattle.ckpt_core.proofs.pending_records.PendingRecords.remove.Goals as goal

pub returns-in-Some-clause-value : goal.returns-in-Some-clause-value
returns-in-Some-clause-value c = sym (c.take_out.ensures.found c.args.id c.in-Some.ensures.found)

pub returns-in-Some-clause-rest : goal.returns-in-Some-clause-rest
returns-in-Some-clause-rest c = c.take_out.ensures.rest c.args.id c.in-Some.ensures.found

pub returns-in-None-clause-value : goal.returns-in-None-clause-value
returns-in-None-clause-value c = sym (find-none (has_id c.args.id) c.args.self.now c.in-None.ensures.absent)

pub returns-in-None-clause-rest : goal.returns-in-None-clause-rest
returns-in-None-clause-rest c = let other : Record → Bool = λ r. not (has_id c.args.id r) in
    sym (filter-all other c.args.self.now (λ r h. ap not (fails-from_list_any (has_id c.args.id) c.args.self.now c.in-None.ensures.absent r h)))
