-- Answers the goals of `usual_keyword`.
use Rattle.ckpt_lines.proofs.{ℕ, List, rules, Tick, Ack, Take, Deleted, Dispose, Count, BeginsWith, none_begins}
use Rattle.ckpt_lines.proofs.keyword.usual_keyword.Goals as goal

pub returns-in_default-clause-none : goal.returns-in_default-clause-none
returns-in_default-clause-none c =
    let tick : (rest : List ℕ) → BeginsWith c.args.text.now Tick rest → ⊥ = λ rest begins. search rules in
    let ack : (rest : List ℕ) → BeginsWith c.args.text.now Ack rest → ⊥ = λ rest begins. search rules in
    let take : (rest : List ℕ) → BeginsWith c.args.text.now Take rest → ⊥ = λ rest begins. search rules in
    let deleted : (rest : List ℕ) → BeginsWith c.args.text.now Deleted rest → ⊥ = λ rest begins. search rules in
    let dispose : (rest : List ℕ) → BeginsWith c.args.text.now Dispose rest → ⊥ = λ rest begins. search rules in
    let count : (rest : List ℕ) → BeginsWith c.args.text.now Count rest → ⊥ = λ rest begins. search rules in
    none_begins c.args.text.now c.long_keyword.result c.long_keyword.ensures.none tick ack take deleted dispose count
