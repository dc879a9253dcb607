-- A pending record stays one, with its count, through each change.
use Rattle.ckpt_pending.proofs.Names.{◌≡◌, ℕ, ◌+◌, ◌-◌, ◌≤◌, Bool, true, false, not, List, [], length, refl, sym, ap, ◌∙◌, arith, count_by-le-length, cases_Bool, both_ways, SubtaskId, Kind, Acked}
use Rattle.ckpt_pending.proofs.Names.{IsIn, acknowledges_before, AreInSubtaskOrder, put_ack, IsShape, subtasks, is_subtask, same_subtask, Record, missing, has_acknowledged, count_by-all}
use Rattle.ckpt_pending.proofs.Names.{subtasks_in_order, same_subtask-Decides, IsIn-put_cases, IsIn-from_filter, IsInOrder-filter, IsInOrder-put_between, IsIn-from_list_any, list_any-from_IsIn}
use Rattle.ckpt_pending.proofs.Names.{length-subtasks_from, pending_record, without_ack, IsPending, IsDone, IsCounted}
use Rattle.ckpt_pending.proofs.AckLemmas.{acked, missing-put, missing-without, without_put}
use Rattle.ckpt_pending.proofs.FullLemmas.{full_from_missing}

pub IsCounted-new : (id : ℕ) (kind : Kind) (shape : List ℕ) (started count : ℕ) → IsShape shape → count ≡ length (subtasks shape) → IsCounted (pending_record id kind shape started []) count
IsCounted-new id kind shape started count h e = record {
  pending = record { not_done = refl; no_pins = refl; has_shape = h; in_order = tt; expected = λ a k. absurd k };
  counted = e ∙ sym (count_by-all (λ s. true) (subtasks shape) (λ s h. refl));
}

other_subtask : (s : SubtaskId) (a : Acked) (acks : List Acked) → acked acks s ≡ false → IsIn a acks → s ≡ a.subtask → ⊥
other_subtask s a acks h k e = both_ways (acked acks s) h (list_any-from_IsIn (λ (b : Acked). same_subtask s b.subtask) a acks k ((same_subtask-Decides s a.subtask).1 e))

AreInSubtaskOrder-put : (one : Acked) (acks : List Acked) → acked acks one.subtask ≡ false → AreInSubtaskOrder acks → AreInSubtaskOrder (put_ack one acks)
AreInSubtaskOrder-put one acks h a =
    IsInOrder-put_between acknowledges_before (λ x y z. subtasks_in_order.transitive x.subtask y.subtask z.subtask) one acks
    (λ b k e. grind (arith, other_subtask one.subtask b acks h k, subtasks_in_order.total one.subtask b.subtask, cases_Bool)) a

-- the record with one acknowledgement more
abbrev pub with_ack : SubtaskId → List ℕ → Record → Record
with_ack s files r = record r { acks = put_ack (record { subtask = s; files = files }) r.acks }

pub IsPending-put : (r : Record) (s : SubtaskId) (files : List ℕ) → IsPending r → is_subtask r.shape s ≡ true → has_acknowledged r s ≡ false → IsPending (with_ack s files r)
IsPending-put r s files p h k =
    let one : Acked = record { subtask = s; files = files } in
    grind (arith, p.expected, IsIn-put_cases acknowledges_before one, AreInSubtaskOrder-put one r.acks k p.in_order)

pub missing-with_ack : (r : Record) (s : SubtaskId) (files : List ℕ) → is_subtask r.shape s ≡ true → has_acknowledged r s ≡ false → missing (with_ack s files r) + 1 ≡ missing r
missing-with_ack r s files h k = missing-put r.shape s files r.acks h k

pub without-with_ack : (r : Record) (s : SubtaskId) (files : List ℕ) → has_acknowledged r s ≡ false → without_ack s (with_ack s files r) ≡ r
without-with_ack r s files h = let make : List Acked → Record = λ acks. record r { acks = acks } in ap make (without_put s files r.acks h)

pub IsCounted-put : (r : Record) (s : SubtaskId) (files : List ℕ) (count : ℕ) → IsCounted r count → is_subtask r.shape s ≡ true → has_acknowledged r s ≡ false
    → IsCounted (with_ack s files r) (count - 1)
IsCounted-put r s files count c h k = record { pending = IsPending-put r s files c.pending h k; counted = omega (arith, c.counted, missing-with_ack r s files h k) }

-- and with one less
pub IsPending-without : (r : Record) (s : SubtaskId) → IsPending r → IsPending (without_ack s r)
IsPending-without r s p = let keep : Acked → Bool = λ a. not (same_subtask s a.subtask) in grind (arith, IsInOrder-filter acknowledges_before keep r.acks p.in_order, p.expected, IsIn-from_filter keep)

-- a subtask that has acknowledged is one of the shape
pub expected_acknowledged : (r : Record) (s : SubtaskId) → IsPending r → has_acknowledged r s ≡ true → is_subtask r.shape s ≡ true
expected_acknowledged r s p h =
    let q = IsIn-from_list_any (λ (a : Acked). same_subtask s a.subtask) r.acks h in rw ((same_subtask-Decides s q.0.subtask).0 q.2) (p.expected q.0 q.1)

pub missing-without_ack : (r : Record) (s : SubtaskId) → IsPending r → has_acknowledged r s ≡ true → missing r + 1 ≡ missing (without_ack s r)
missing-without_ack r s p h = missing-without r.shape s r.acks (expected_acknowledged r s p h) h

pub IsCounted-without : (r : Record) (s : SubtaskId) (count : ℕ) → IsCounted r count → has_acknowledged r s ≡ true → IsCounted (without_ack s r) (count + 1)
IsCounted-without r s count c h = record { pending = IsPending-without r s c.pending; counted = omega (arith, c.counted, missing-without_ack r s c.pending h) }

-- no more are missing than there are
pub missing_bound : (r : Record) → IsPending r → missing r ≤ 4096
missing_bound r p = omega (arith, count_by-le-length (λ s. not (has_acknowledged r s)) (subtasks r.shape), length-subtasks_from 0 r.shape, p.has_shape.size_to)

pub IsDone-from_pending : (r : Record) → IsPending r → missing r ≡ 0 → IsDone (record r { done = true })
IsDone-from_pending r p none = record { is_done = refl; no_pins = p.no_pins; has_shape = p.has_shape; in_order = p.in_order; full = full_from_missing r p none }
