-- Answers the goals of `long_keyword`.
use Rattle.ckpt_lines.proofs.{ℕ, List, rules, Savepoint, Undeleted, BeginsWith, no_long}
use Rattle.ckpt_lines.proofs.keyword.long_keyword.Goals as goal

pub returns-in_default-clause-none : goal.returns-in_default-clause-none
returns-in_default-clause-none c =
    let savepoint : (rest : List ℕ) → BeginsWith c.args.text.now Savepoint rest → ⊥ = λ rest begins. search rules in
    let undeleted : (rest : List ℕ) → BeginsWith c.args.text.now Undeleted rest → ⊥ = λ rest begins. search rules in
    no_long c.args.text.now savepoint undeleted
