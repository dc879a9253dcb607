-- Answers the goals of `Parts::begun`.
use Rattle.ckpt_core.proofs.{◌≡◌, ℕ, ◌+◌, List, [], refl, ap, arith, Record, Queues, FailureCount, Moments, Stored, records_of, state_same, Names.state_of}
use Rattle.ckpt_core.proofs.parts.Parts.begun.Goals as goal

no_records : (us : _) (pending : List Record) (s : Stored) → pending ≡ [] → s.checkpoints ≡ [] → s.savepoints ≡ [] → records_of us pending s.checkpoints s.savepoints ≡ []
no_records us pending s a b c = rw (a, b, c)

counted : (before after : FailureCount) (tolerable failures : ℕ) → before ≡ record { tolerable = tolerable; number = 0 } → after ≡ record before { number = before.number + failures } →
    after.number ≡ failures
counted before after tolerable failures new add = omega (arith, ap (λ (f : FailureCount). f.number) add, ap (λ (f : FailureCount). f.number) new)

pub returns-clause-state : goal.returns-clause-state
unfolding state_of
returns-clause-state c =
    state_same _ _ (ap (λ (s : List ℕ). record { config = c.args.image.now.config; shape = s; start = c.args.image.now.start; first = c.args.image.now.first }) c.in_ok-shape.ensures.value)
    c.in_ok-reshaped.ensures.value refl (ap (λ (m : Moments). m.latest) c.of.ensures) (ap (λ (m : Moments). m.due) c.of.ensures) (ap (λ (m : Moments). m.completed) c.of.ensures)
    (counted c.new-failures.result c.add.new.self c.tolerable.result c.args.image.now.failures c.new-failures.ensures c.add.ensures.number) refl (ap (λ (s : Stored). s.base) c.new.ensures)
    (no_records c.keyed.result c.new-2.result c.new.result c.new-2.ensures (ap (λ (s : Stored). s.checkpoints) c.new.ensures) (ap (λ (s : Stored). s.savepoints) c.new.ensures))
    (ap (λ (q : Queues). q.waiting) c.keyed-2.ensures) (ap (λ (q : Queues). q.taken) c.keyed-2.ensures)
