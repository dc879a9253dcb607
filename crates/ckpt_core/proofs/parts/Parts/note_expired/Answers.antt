-- Answers the goals of `Parts::note_expired`.
use Rattle.ckpt_core.proofs.{◌≡◌, ℕ, ◌+◌, ◌-◌, ◌&&◌, ◌++◌, Bool, ltb, length, ap, sym, ◌∙◌, arith, count_by, filter, lt-ltb, length-map, Expiry, is_checkpoint, groups_of, numbers, room_to_note}
use Rattle.ckpt_core.proofs.{are_too_many, expiry_is, few_checkpoints, few_expired, few_failures, is_old, late_at_most, state-ended}
use Rattle.ckpt_core.proofs.parts.Parts.note_expired.Goals as goal

pub note_expired-late-requires : goal.note_expired-late-requires
note_expired-late-requires c = record { room = omega (arith, room_to_note c.args.self.now (length c.args.self.now.pending) c.requires.sound (omega arith)) }

pub overflow_cast-late : goal.overflow_cast-late
overflow_cast-late c =
    let most = late_at_most c.args.self.now c.timeout-timeout.result c.read-moment.result c.note_expired-late.result c.note_expired-late.ensures.checkpoints in
    omega (arith, most, few_checkpoints c.args.self.now c.requires.sound (groups_of c.args.self.now c.recall_groups.ensures.pending c.recall_groups.ensures.stored))

pub add-are_too_many-requires : goal.add-are_too_many-requires
add-are_too_many-requires c =
    let few = few_checkpoints c.args.self.now c.requires.sound (groups_of c.args.self.now c.recall_groups.ensures.pending c.recall_groups.ensures.stored) in
    let most = late_at_most c.args.self.now c.timeout-timeout.result c.read-moment.result c.note_expired-late.result c.note_expired-late.ensures.checkpoints in
    omega (arith, most, few, few_failures c.args.self.now c.requires.sound c.requires.running)

pub overflow_cast-expired : goal.overflow_cast-expired
overflow_cast-expired c =
    let groups = groups_of c.args.self.now c.recall_groups.ensures.pending c.recall_groups.ensures.stored in
    let old = is_old c.timeout-timeout.result c.read-moment.result in
    let items : c.note_expired-late.new.ended.items ≡ numbers (filter old c.args.self.now.pending) = c.note_expired-late.ensures.items ∙ ap (λ ids. ids ++ numbers (filter old c.args.self.now.pending))
    c.requires.sound.none_ended in
    omega (arith, c.len-expired.ensures, ap length items, length-map (filter old c.args.self.now.pending) (λ r. r.id), few_expired c.args.self.now old c.requires.sound groups)

pub overflow_cast-left : goal.overflow_cast-left
overflow_cast-left c = let p = c.args.self.now in omega (arith, c.checkpoints.ensures, few_checkpoints p c.requires.sound (groups_of p c.recall_groups.ensures.pending c.recall_groups.ensures.stored))

pub overflow_sub-left : goal.overflow_sub-left
overflow_sub-left c =
    omega (arith, c.checkpoints.ensures, late_at_most c.args.self.now c.timeout-timeout.result c.read-moment.result c.note_expired-late.result c.note_expired-late.ensures.checkpoints)

pub returns-clause-state : goal.returns-clause-state
returns-clause-state c = state-ended c.args.self.now c.note_expired-late.new.ended

pub returns-clause-expired : goal.returns-clause-expired
returns-clause-expired c =
    let p = c.args.self.now in
    let late : ℕ = c.note_expired-late.result in
    let failures = c.add-are_too_many.new.self in
    let old = is_old c.timeout-timeout.result c.read-moment.result in
    let e : Expiry = record { expired = c.len-expired.result; left = c.checkpoints.result - late; failures = failures; intolerable = c.if-late-gt0.intolerable } in
    let items : c.note_expired-late.new.ended.items ≡ numbers (filter old p.pending) = c.note_expired-late.ensures.items ∙ ap (λ ids. ids ++ numbers (filter old p.pending))
    c.requires.sound.none_ended in
    let counted : e.expired ≡ length c.note_expired-late.new.ended.items = omega (arith, c.len-expired.ensures) in
    let at_most = late_at_most p c.timeout-timeout.result c.read-moment.result late c.note_expired-late.ensures.checkpoints in
    let left : e.left + late ≡ count_by is_checkpoint p.pending = omega (arith, at_most, c.checkpoints.ensures) in
    let many = are_too_many c.add-are_too_many.result failures.tolerable failures.number c.add-are_too_many.ensures.intolerable in
    let intolerable : e.intolerable ≡ (ltb 0 late && ltb failures.tolerable failures.number) = elim c.if-late-gt0.branch [
      | goal.then-late-gt0 w ↦ w.intolerable-is ∙ many ∙ sym (ap (λ (b : Bool). b && ltb failures.tolerable failures.number) (lt-ltb 0 late (omega (arith, w.if-late-gt0.true))))
      | goal.else-late-gt0 w ↦ let none : late ≡ 0 = omega (arith, w.if-late-gt0.false) in w.intolerable-is ∙ ap (ltb 0) none ∙ sym (ap (λ n. ltb 0 n && ltb failures.tolerable failures.number) none)
    ] in
    expiry_is p c.note_expired-late.new.ended e c.timeout-timeout.result c.read-moment.result late c.requires.sound (groups_of p c.recall_groups.ensures.pending c.recall_groups.ensures.stored)
    c.timeout-timeout.ensures.value c.read-moment.ensures.value items c.note_expired-late.ensures.checkpoints counted left c.add-are_too_many.ensures.number intolerable
