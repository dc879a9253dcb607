-- What the table of refusals looks up in the records, found in the parts.
use Rattle.ckpt_core.proofs.Names.{Refusal, NameTaken, FileGone, IsIn, IsInOrder, LiesAt, Record, uses, is_present, IsPending, find-none, IsStored, has_id, has_savepoint, id_of, find-place, Parts}
use Rattle.ckpt_core.proofs.Names.{is_checkpoint, first_some, is_foreign, is_repeat, is_done_savepoint, savepoints, named, pending_of, where_pending, id_before, with_pins, grouped, AreSound, AreTied}
use Rattle.ckpt_core.proofs.Names.{◌≡◌, ℕ, ◌+◌, false, not, eqb, List, [], ◌∷◌, length, sym, ◌∙◌, Option, Some, None, count_by, find, slice_get, IfNone, IfSome, list_any, option_map, SubtaskId}
use Rattle.ckpt_core.proofs.Names.{pending_checkpoints}
use Rattle.ckpt_core.proofs.Records.{GroupLookups.pending_checkpoints-groups, GroupLookups.savepoints-groups, GroupLookups.done_savepoint-groups, Grouped.AreApart, Grouped.apart-from_in_order, Lookups.pending_of-groups}
use Rattle.ckpt_core.proofs.{Ending.Drops.groups_of, Names.IsPlaceOf, Names.records_in, Names.state_of, Names.is_known_in, Names.common_steps, Names.arith}
use Rattle.ckpt_model.specs.State.{is_known}

apart_of : (p : Parts) → AreSound p → AreApart (grouped p.registry p.pending p.store.checkpoints p.store.savepoints)
unfolding state_of
apart_of p sound = apart-from_in_order (grouped p.registry p.pending p.store.checkpoints p.store.savepoints) sound.sound.records.in_order

pub pending_of-parts : (p : Parts) (id : ℕ) (o : Option Record) → AreSound p → ((r : Record) → IsIn r p.pending → IsPending r) → IsStored p.store → o ≡ find (λ r. eqb r.id id) p.pending →
    pending_of (records_in p) id ≡ option_map (with_pins p.registry) o
pending_of-parts p id o sound pending stored e = grind (arith, common_steps, apart_of, groups_of, pending_of-groups)

-- the place of a pending record, as a search for it returns it
pub place_of-parts : (p : Parts) (id : ℕ) (place : Option ℕ) → AreSound p → ((r : Record) → IsIn r p.pending → IsPending r) → IsStored p.store →
    IfSome place (LiesAt id_of id p.pending) → IfNone place (list_any (has_id id) p.pending ≡ false) → IsPlaceOf p id place
place_of-parts p id (Some place) sound pending stored lies none = lies
place_of-parts p id None sound pending stored lies none = pending_of-parts p id None sound pending stored (sym (find-none (has_id id) p.pending none))

-- and the record at it
pub found_at-parts : (p : Parts) (id : ℕ) (place : Option ℕ) (r : Record) → AreSound p → ((r : Record) → IsIn r p.pending → IsPending r) → IsStored p.store → IsInOrder id_before p.pending →
    IfSome place (LiesAt id_of id p.pending) → IfSome place (λ k. slice_get p.pending k ≡ Some r → pending_of (records_in p) id ≡ Some (with_pins p.registry r))
found_at-parts p id (Some place) r sound pending stored order lies = λ e. pending_of-parts p id (Some r) sound pending stored (sym e ∙ find-place id p.pending place order lies)
found_at-parts p id None r sound pending stored order lies = tt

pub done_savepoint-parts : (p : Parts) (id : ℕ) → ((r : Record) → IsIn r p.pending → IsPending r) → IsStored p.store → is_done_savepoint (state_of p) id ≡ has_savepoint p.store id
unfolding state_of
done_savepoint-parts p id pending stored = done_savepoint-groups id p.registry p.pending p.store.checkpoints p.store.savepoints (groups_of p pending stored)

pub savepoints-parts : (p : Parts) → ((r : Record) → IsIn r p.pending → IsPending r) → IsStored p.store → savepoints (state_of p) ≡ count_by (λ r. not (is_checkpoint r)) p.pending + length
    p.store.savepoints
unfolding state_of
savepoints-parts p pending stored = grind (arith, common_steps, groups_of, savepoints-groups)

pub pending_checkpoints-parts : (p : Parts) → ((r : Record) → IsIn r p.pending → IsPending r) → IsStored p.store → pending_checkpoints (state_of p) ≡ count_by is_checkpoint p.pending
unfolding state_of
pending_checkpoints-parts p pending stored = pending_checkpoints-groups p.registry p.pending p.store.checkpoints p.store.savepoints (groups_of p pending stored)

-- the rows on the part of a subtask, before rows that do not hold
abbrev rows_of : Option Record → SubtaskId → Option Refusal → Option Refusal → List (Option Refusal) → List (Option Refusal)
rows_of o subtask taken gone rows = is_foreign o subtask ∷ is_repeat o subtask ∷ where_pending o taken ∷ where_pending o gone ∷ rows

-- if the record is pending
pub part_rows : (p : Parts) (id : ℕ) (subtask : SubtaskId) (fresh reused : List ℕ) (rows : List (Option Refusal)) (r : Record) (o : Option Refusal) → AreTied p →
    pending_of (records_in p) id ≡ Some (with_pins p.registry r) → o ≡ first_some (is_foreign (Some r) subtask ∷ is_repeat (Some r) subtask ∷ named NameTaken (find (is_known_in p) fresh) ∷ named
    FileGone (find (λ f. not (is_present p.registry f)) reused) ∷ []) → first_some rows ≡ None →
    o ≡ first_some (rows_of (pending_of (records_in p) id) subtask (named NameTaken (find (is_known (state_of p)) fresh)) (named FileGone (find (λ f. not (is_present (uses (records_in p)) f)) reused))
    rows)
unfolding state_of
part_rows p id subtask fresh reused rows r o tied e h none = grind (arith, common_steps)

-- if it is not
pub no_part_rows : (o : Option Record) (subtask : SubtaskId) (taken gone : Option Refusal) (rows : List (Option Refusal)) → o ≡ None → first_some rows ≡ None →
    None ≡ first_some (rows_of o subtask taken gone rows)
no_part_rows o subtask taken gone rows e none = grind (arith, common_steps)
