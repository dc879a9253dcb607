-- Answers the goals of `parts_held`.
use Rattle.ckpt_registry.proofs.{parts_in, none_found, parts_found}
use Rattle.std.proofs.Common.{ap, sym}
use Rattle.ckpt_registry.proofs.holdings.parts_held.Goals as goal

pub returns-in-Ok-clause-some : goal.returns-in-Ok-clause-some
returns-in-Ok-clause-some c =
    sym (parts_found c.args.id c.in-Ok.place c.args.acknowledged.now.items c.requires c.in-Ok.ensures.found c.index.result.now c.index.ensures)

pub returns-in-Err-clause-none : goal.returns-in-Err-clause-none
returns-in-Err-clause-none c = ap parts_in (none_found c.args.id c.in-Err.field-0 c.args.acknowledged.now.items c.in-Err.ensures.absent)
