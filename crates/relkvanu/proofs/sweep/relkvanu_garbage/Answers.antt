-- Answers the goals of `relkvanu_garbage`.
use Rattle.relkvanu.proofs.Imports.{rules, ◌≡◌, subst, Promises}
use Rattle.relkvanu.proofs.sweep.relkvanu_garbage.Goals as goal

pub returns-clause-promised : goal.returns-clause-promised
returns-clause-promised c k at =
    let is : c.deref.result.now ≡ k = search (rules, at) in
    subst Promises is c.machine.ensures.promised
