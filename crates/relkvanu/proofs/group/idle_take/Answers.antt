-- Answers the goals of `idle_take`.
use Rattle.relkvanu.proofs.Takes as takes
use Rattle.relkvanu.proofs.group.idle_take.Goals as goal

pub returns : goal.returns
returns c = takes.idle_take
