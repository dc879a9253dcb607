-- The loop invariants of `give_out`.
use Rattle.ckpt_locked.proofs.{newcomers, vec_capacity, ◌≡◌}
use Rattle.ckpt_locked.proofs.lock.give_out.Given as goal

abbrev pub invariant-loop-number : goal.invariant-loop-number
invariant-loop-number g l =
    (l.first.table_id ≡ l.initial.first.table_id) × (l.first.me ≡ l.initial.first.me)
    × (l.passes.items ≡ newcomers (record { table_id = l.initial.first.table_id; base = l.initial.first.me.0.mine.base }) l.number)
    × (vec_capacity l.passes ≡ vec_capacity l.initial.passes)
