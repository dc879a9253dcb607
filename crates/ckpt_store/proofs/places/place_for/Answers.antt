-- Answers the goals of `place_for`.
use Rattle.ckpt_store.proofs.{◌≡◌, ◌<◌, ◌∙◌, ℕ, ltb, true, false, length, get_or, rules, lt-ltb, IsPartitionPoint-from_clause, Record, numbers_in_order, all_before, end_point, id_of, partitioned}
use Rattle.ckpt_store.proofs.places.place_for.Goals as goal
use Rattle.ckpt_store.proofs.places.place_for.Goals.{in_default-via-in-Some+else-le, in_default-via-in_default}

pub returns-in-Some-clause-parted : goal.returns-in-Some-clause-parted
returns-in-Some-clause-parted c =
    IsPartitionPoint-from_clause (λ r. ltb r.id c.args.id) c.args.queue.now.items c.partition_point.result c.partition_point.ensures.partitioned
    (partitioned c.args.id c.args.queue.now.items c.requires) (λ a r g called. search rules)

pub returns-in_default-clause-parted : goal.returns-in_default-clause-parted
returns-in_default-clause-parted c =
    let all : c.len.result ≡ length c.args.queue.now.items = c.len.ensures ∙ c.args.queue.now.ok.0 in
    let below : (k : ℕ) (d : Record) → k < c.len.result → ltb (get_or c.args.queue.now.items k d).id c.args.id ≡ true =
    elim c.in_default.branch [
      | in_default-via-in-Some+else-le w ↦
          let under : w.in-Some.last.now.id < c.args.id = search rules in
          all_before id_of numbers_in_order c.args.id c.args.queue.now.items c.len.result w.in-Some.last.now c.requires all (rw c.len.ensures w.in-Some.ensures.lookup)
          (lt-ltb w.in-Some.last.now.id c.args.id under)
      | in_default-via-in_default w ↦ λ k d h. absurd (search rules)
    ] in
    end_point (λ (r : Record). ltb r.id c.args.id ≡ true) (λ (r : Record). ltb r.id c.args.id ≡ false) c.args.queue.now.items c.len.result all below
