-- What an acknowledgement does that comes after its record has ended.
use Rattle.ckpt_core.proofs.Names.{◌≡◌, ℕ, ◌≤◌, ◌<◌, max, true, false, not, ◌||◌, List, ◌++◌, length, sym, ap, ◌∙◌, arith, None, count_by, filter, not-true, or_parts, lt-ltb, length-filter, Ack, Done}
use Rattle.ckpt_core.proofs.Names.{SubtaskId, is_present, IsIn-from_filter, filter-same, AreDistinct-left, AreDistinct-filter, IsIn-from_test, Moments, Parts, may_want_memory, Answers, AreSound}
use Rattle.ckpt_core.proofs.Names.{AreTied, IsAccepted, is_known_in, state_of, present_in, pending_of, ack, step, accepted_ack, ack_step, distinct-from_test, AreDistinct, common_steps}
use Rattle.ckpt_model.specs.State.{is_known}
use Rattle.ckpt_ids.specs.declared.reply.Reply.TheVariants as reply
use Rattle.ckpt_outbox.specs.Queues as queues

-- the unknown files
abbrev pub unknown_in : Parts → List ℕ → List ℕ
unknown_in p fresh = filter (λ f. not (is_known_in p f)) fresh

unknown_same : (p : Parts) (now : ℕ) (fresh : List ℕ) → AreTied p → filter (λ f. not (is_known (record (state_of p) { latest = max now p.clock.latest }) f)) fresh ≡ unknown_in p fresh
unfolding state_of
unknown_same p now fresh tied = filter-same (λ f. not (is_known (state_of p) f)) (λ f. not (is_known_in p f)) fresh
    (λ f h. ap not (sym (ap (λ us. is_present us f || queues.is_known p.outbox f) tied.uses_are)))

late_step : (p : Parts) (now id : ℕ) (subtask : SubtaskId) (fresh reused : List ℕ) → AreTied p → IsAccepted p (Ack now id subtask fresh reused) → pending_of (state_of p).records id ≡ None →
    step (state_of p) (Ack now id subtask fresh reused) ≡
    (record (state_of p) { latest = max now p.clock.latest; waiting = p.outbox.waiting ++ unknown_in p fresh }, Done (reply.AckLate (length (unknown_in p fresh))))
unfolding state_of ack
late_step p now id subtask fresh reused tied accepted ended = grind (arith, common_steps, ack_step, unknown_same)

pub late_wants : (p : Parts) (now id : ℕ) (subtask : SubtaskId) (fresh reused : List ℕ) → AreTied p → IsAccepted p (Ack now id subtask fresh reused) → pending_of (state_of p).records id ≡ None →
    0 < length (unknown_in p fresh) → may_want_memory (state_of p) (Ack now id subtask fresh reused) ≡ true
late_wants p now id subtask fresh reused tied accepted ended some = grind (arith, common_steps, late_step, lt-ltb)

pub unknown_counted : (p : Parts) (fresh : List ℕ) → 0 < count_by (λ f. not (is_known_in p f)) fresh → 0 < length (unknown_in p fresh)
unknown_counted p fresh h = omega (arith, length-filter (λ f. not (is_known_in p f)) fresh)

-- they can be put
pub unknown_distinct : (p : Parts) (now id : ℕ) (subtask : SubtaskId) (fresh reused files : List ℕ) → IsAccepted p (Ack now id subtask fresh reused) → files ≡ unknown_in p fresh → AreDistinct files
unknown_distinct p now id subtask fresh reused files accepted is = grind (arith, common_steps, AreDistinct-filter, AreDistinct-left, accepted_ack, distinct-from_test)

pub unknown_new : (p : Parts) (fresh files : List ℕ) → files ≡ unknown_in p fresh → (f : ℕ) → queues.is_in f files ≡ true → queues.is_known p.outbox f ≡ false
unknown_new p fresh files is f h =
    let there = IsIn-from_test f (unknown_in p fresh) (ap (queues.is_in f) (sym is) ∙ h) in
    (or_parts (is_present p.registry f) (queues.is_known p.outbox f) (not-true (is_known_in p f) (IsIn-from_filter (λ g. not (is_known_in p g)) f fresh there).1)).1

-- the parts after it
abbrev late : Parts → ℕ → List ℕ → ℕ → Parts
late p now files spare = record p { outbox = record p.outbox { waiting = p.outbox.waiting ++ files; spare = spare }; clock = record p.clock { latest = max now p.clock.latest } }

pub late_answers : (p o : Parts) (now id : ℕ) (subtask : SubtaskId) (fresh reused files : List ℕ) (n : ℕ) (clock : Moments) → AreSound p → IsAccepted p (Ack now id subtask fresh reused) →
    pending_of (state_of p).records id ≡ None → files ≡ unknown_in p fresh → o ≡ record p { outbox = record p.outbox { waiting = p.outbox.waiting ++ files; spare = o.outbox.spare } } →
    present_in p.registry ≤ o.outbox.spare → clock ≡ record o.clock { latest = max now o.clock.latest } → n ≡ length files → Answers p (record o { clock = clock }) (Ack now id subtask fresh reused)
    (reply.AckLate n)
unfolding state_of
late_answers p o now id subtask fresh reused files n clock sound accepted ended is put room seen counted =
    let same : record o { clock = clock } ≡ late p now (unknown_in p fresh) o.outbox.spare = rw (seen, put, is) in
    rw same (rw (counted ∙ ap length is) (record {
      step_is = late_step p now id subtask fresh reused sound.tied accepted ended;
      tied = record { uses_are = sound.tied.uses_are; retained = sound.tied.retained; tolerable = sound.tied.tolerable; spare = room; room = sound.tied.room };
      none_ended = sound.none_ended;
    }))
