-- Answers the goals of `restore`.
use Rattle.std.proofs.Common.{◌≡◌, ◌∙◌, true}
use Rattle.ckpt_lines.specs.Reading.{begins_with_a_number}
use Rattle.ckpt_lines.proofs.ListLemmas.{shape_reached, some_begin}
use Rattle.ckpt_lines.proofs.rows.restore.Goals as goal

pub returns-clause-memory : goal.returns-clause-memory
returns-clause-memory c = λ memory.
    let begins : begins_with_a_number c.target.new.words ≡ true =
    some_begin c.target.new.words c.in_ok-parallelisms.parallelisms c.in_ok-parallelisms.ensures.line (c.restoring.ensures.memory memory) in
    shape_reached c.args.words.now c.number.new.self c.target.new.words c.in_ok-now.now c.in_ok-target.target c.in_ok-now.ensures c.in_ok-target.ensures ∙ begins
