-- Answers the goals of `relkvanu_call_line`.
use Rattle.relkvanu.proofs.Imports.{List, ℕ, take, rules, ReadsBack, given}
use Rattle.relkvanu.proofs.SayingLemmas.{says_back}
use Rattle.relkvanu.proofs.writing.relkvanu_call_line.Goals as goal

pub returns-in-Ok-asked_line-clause-said : goal.returns-in-Ok-asked_line-clause-said
returns-in-Ok-asked_line-clause-said c =
    let line : List ℕ = take c.write_text.result.a c.write_text.new.line in
    let reads : ReadsBack (given c.args.call.now c.args.first.now c.args.second.now) line c.write_text.result = search rules in
    says_back (given c.args.call.now c.args.first.now c.args.second.now) line c.write_text.result reads
