-- One record of a list put in the place of another with its number.
use Rattle.ckpt_model.proofs.Names.{◌≡◌, ℕ, ◌<◌, ◌≤◌, Bool, true, false, cond, eqb, List, [], ◌∷◌, map, refl, ◌⊎◌, arith, count_by, Some, filter, cases_Bool, both_ways, not-true, and_parts, cond-true}
use Rattle.ckpt_model.proofs.Names.{cond-false, eqb-true, eqb-false, eq-eqb, ne_eqb, IsIn, IsInOrder, Record, ComesBefore-at, Opening, is_done_checkpoint, unpinned, IsRecord, id_before, common_steps}
use Rattle.ckpt_model.proofs.Records.Counts.{count_by-changed}
use Rattle.ckpt_model.proofs.Records.Lists.{AreSoundRecords, IsKept, changed_records, is_pending_checkpoint, pending_checkpoint_before}

-- two records of a list with one number are one
pub same_record : (x y : Record) (rs : List Record) → IsInOrder id_before rs → IsIn x rs → IsIn y rs → x.id ≡ y.id → x ≡ y
same_record x y [] a h k e = absurd h
same_record x y (r ∷ rs) a h k e = grind (arith, common_steps, ComesBefore-at id_before r, same_record x y rs a.1)

-- what is the same of two values is that of either
pub cond_same : {X Y : Type 0} (g : X → Y) (b : Bool) (x y : X) → g x ≡ g y → g (cond b x y) ≡ g y
cond_same g b x y h4 = grind (arith, common_steps)

-- the record of this number, in the place of the one that has it
abbrev pub put_in : Record → Record → Record
put_in r old = cond (eqb old.id r.id) r old

-- a change that puts `new` in the place of `old`, and leaves all others
pub record IsReplacing (change : Record → Record) (old new : Record) (rs : List Record) : Type 0 where
  pub same : (x : Record) → (change x).id ≡ x.id
  pub cases : (x : Record) → IsIn x rs → ((x ≡ old) × (change x ≡ new)) ⊎ ((x.id ≡ old.id → ⊥) × (change x ≡ x))

-- the number stays
put_in_same : (r x : Record) → (put_in r x).id ≡ x.id
put_in_same r x = grind (arith, common_steps)

-- it is such a change
pub put_in_replaces : (old new : Record) (rs : List Record) → IsInOrder id_before rs → IsIn old rs → new.id ≡ old.id → IsReplacing (put_in new) old new rs
put_in_replaces old new rs a there id = grind (arith, common_steps, cases_Bool, cond-false, cond-true, eqb-false, eqb-true, put_in_same, same_record)

-- letting the pins go keeps the number
unpinned_same : (ended : ℕ) (x : Record) → (unpinned (Some ended) x).id ≡ x.id
unpinned_same ended x = cond_same (λ (z : Record). z.id) (eqb x.id ended) (record x { pins = [] }) x refl

-- the same, without the pins of the record put in
pub unpinned_replaces : (old new : Record) (rs : List Record) → IsInOrder id_before rs → IsIn old rs → new.id ≡ old.id
    → IsReplacing (λ x. unpinned (Some new.id) (put_in new x)) old (record new { pins = [] }) rs
unpinned_replaces old new rs a there id =
    let p = put_in_replaces old new rs a there id in
    grind (arith, common_steps, unpinned_same, p.same, cond-true, eq-eqb, cond-false, ne_eqb, p.cases)

-- what a list's order and limits read of the record put in is as it was
pub replacing_keeps : {change : Record → Record} {old new : Record} {rs : List Record} → IsReplacing change old new rs → old.done ≡ false → new.kind ≡ old.kind → new.started ≡ old.started
    → (x : Record) → IsIn x rs → IsKept x (change x)
replacing_keeps {change} {old} {new} p pending kind started x h = grind (arith, common_steps)

-- each record is one after it
pub replacing_is_record : {change : Record → Record} {old new : Record} {rs : List Record} → IsReplacing change old new rs → ((x : Record) → IsIn x rs → IsRecord x) → IsRecord new → (x : Record)
    → IsIn x rs → IsRecord (change x)
replacing_is_record {change} {old} {new} p each i x h = grind (arith, common_steps)

-- a done checkpoint after it was one before, if the record put in is none
done_checkpoint_before : {change : Record → Record} {old new : Record} {rs : List Record} → IsReplacing change old new rs → is_done_checkpoint new ≡ false → (x : Record) → IsIn x rs
    → is_done_checkpoint (change x) ≡ true → is_done_checkpoint x ≡ true
done_checkpoint_before {change} {old} {new} p none x h d = grind (arith, common_steps)

-- a record put in that is no done checkpoint keeps the list sound
pub replaced_records : {o : Opening} {next : ℕ} {rs : List Record} {change : Record → Record} {old new : Record} (q : Record → Bool) → AreSoundRecords o next rs → IsReplacing change old new rs
    → old.done ≡ false → new.kind ≡ old.kind → new.started ≡ old.started → IsRecord new → is_done_checkpoint new ≡ false → AreSoundRecords o next (map change (filter q rs))
replaced_records {o} {next} {rs} {change} q a p pending kind started i none =
    let fewer : count_by is_done_checkpoint (map change (filter q rs)) ≤ count_by is_done_checkpoint rs =
    count_by-changed is_done_checkpoint is_done_checkpoint change q rs (λ x h _ d. done_checkpoint_before p none x h d) in
    let kept : (x : Record) → IsIn x rs → IsKept x (change x) = replacing_keeps p pending kind started in
    changed_records change q a p.same kept (λ x h _. replacing_is_record p a.each i x h) (omega (arith, a.retained))
    (λ x y h k _ _ t d. a.newer x y h k (pending_checkpoint_before x (change x) (kept x h) t) (done_checkpoint_before p none y k d))

-- a record put in that is a done checkpoint keeps it sound, if all pending checkpoints before it are dropped, and enough of the done ones
pub completed_records : {o : Opening} {next : ℕ} {rs : List Record} {change : Record → Record} {old new : Record} (q : Record → Bool) → AreSoundRecords o next rs → IsReplacing change old new rs
    → old.done ≡ false → new.done ≡ true → new.kind ≡ old.kind → new.started ≡ old.started → IsRecord new → count_by is_done_checkpoint (map change (filter q rs)) ≤ o.config.retained
    → ((x : Record) → IsIn x rs → q x ≡ true → change x ≡ x → is_pending_checkpoint x ≡ true → old.id ≤ x.id) → AreSoundRecords o next (map change (filter q rs))
completed_records {o} {next} {rs} {change} {old} {new} q a p pending done kind started i retained after =
    changed_records change q a p.same (replacing_keeps p pending kind started) (λ x h _. replacing_is_record p a.each i x h) retained newer
  where
    newer : (x y : Record) → IsIn x rs → IsIn y rs → q x ≡ true → q y ≡ true → is_pending_checkpoint (change x) ≡ true → is_done_checkpoint (change y) ≡ true → y.id < x.id
    newer x y h k qx qy t d =
        grind (arith, common_steps, both_ways, not-true, and_parts, is_pending_checkpoint, after, a.newer, p.cases)
