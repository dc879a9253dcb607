-- Answers the goals of `Parts::load_done`.
use Rattle.ckpt_core.proofs.{◌≡◌, true, ◌&&◌, [], ◌∷◌, ◌++◌, OnOk, Result, Ok, Err, ap, ◌∙◌, arith, Record, Parts, record_in, with_done, records_in, is_checkpoint, is_checkpoint-kind, groups_of}
use Rattle.ckpt_core.proofs.{few_records, few_uses, joined_records, done_checkpoints-groups, state_done, savepoints-groups}
use Rattle.ckpt_ids.specs.declared.numbers.Kind.TheVariants as kind
use Rattle.ckpt_core.proofs.parts.Parts.load_done.Goals as goal

-- what holds after a success follows from what does
on_both : {T E : Type 0} (r : Result T E) (P Q R : Type 0) → (P → Q → R) → OnOk r P → OnOk r Q → OnOk r R
on_both (Ok x) P Q R f p q = f p q
on_both (Err e) P Q R f p q = p

pub load_checkpoint-requires-clause-fewer : goal.load_checkpoint-requires-clause-fewer
load_checkpoint-requires-clause-fewer c =
    let its : c.args.done.kind ≡ kind.Checkpoint = ap (λ (r : Record). r.kind) c.requires.done ∙ c.in-Checkpoint.is in
    let yes : (c.args.done.done && is_checkpoint c.args.done) ≡ true = ap (λ b. b && is_checkpoint c.args.done) c.recall_done.ensures.is_done ∙ is_checkpoint-kind c.args.done its in
    let counted = done_checkpoints-groups c.args.self.now.registry _ _ _ (groups_of c.args.self.now c.recall_groups.ensures.pending c.recall_groups.ensures.stored) in
    omega (arith, counted, c.requires.joins.retained yes, c.requires.tied.retained)

pub load_checkpoint-requires-clause-files : goal.load_checkpoint-requires-clause-files
load_checkpoint-requires-clause-files c = rw c.requires.done at c.requires.joins.is_record.files

pub load_checkpoint-requires-clause-few : goal.load_checkpoint-requires-clause-few
load_checkpoint-requires-clause-few c = omega (arith, few_records (records_in c.args.self.now) c.recall_limits.ensures c.requires.sound)

pub load_checkpoint-requires-clause-below : goal.load_checkpoint-requires-clause-below
load_checkpoint-requires-clause-below c = few_uses (records_in c.args.self.now ++ c.args.done ∷ []) c.recall_limits.ensures (joined_records c.requires.sound c.requires.joins)

pub load_savepoint-requires-clause-fewer : goal.load_savepoint-requires-clause-fewer
load_savepoint-requires-clause-fewer c =
    let counted = savepoints-groups c.args.self.now.registry _ _ _ (groups_of c.args.self.now c.recall_groups.ensures.pending c.recall_groups.ensures.stored) in
    omega (arith, counted, c.requires.sound.savepoints_to)

pub load_savepoint-requires-clause-files : goal.load_savepoint-requires-clause-files
load_savepoint-requires-clause-files c = rw c.requires.done at c.requires.joins.is_record.files

pub load_savepoint-requires-clause-few : goal.load_savepoint-requires-clause-few
load_savepoint-requires-clause-few c = omega (arith, few_records (records_in c.args.self.now) c.recall_limits.ensures c.requires.sound)

pub load_savepoint-requires-clause-below : goal.load_savepoint-requires-clause-below
load_savepoint-requires-clause-below c = few_uses (records_in c.args.self.now ++ c.args.done ∷ []) c.recall_limits.ensures (joined_records c.requires.sound c.requires.joins)

pub returns-in-Checkpoint-clause-state : goal.returns-in-Checkpoint-clause-state
returns-in-Checkpoint-clause-state c =
    let q : Parts = c.load_checkpoint.new.self in
    on_both c.load_checkpoint.result (records_in q ≡ records_in c.args.self.now ++ c.args.done ∷ []) (q ≡ with_done c.args.self.now q) _
    (λ all rest. state_done c.args.self.now q (records_in c.args.self.now ++ record_in c.args.saved.now ∷ []) rest (all ∙ ap (λ r. records_in c.args.self.now ++ r ∷ []) c.requires.done))
    c.load_checkpoint.ensures.records c.load_checkpoint.ensures.rest

pub returns-in-Savepoint-clause-state : goal.returns-in-Savepoint-clause-state
returns-in-Savepoint-clause-state c =
    let q : Parts = c.load_savepoint.new.self in
    on_both c.load_savepoint.result (records_in q ≡ records_in c.args.self.now ++ c.args.done ∷ []) (q ≡ with_done c.args.self.now q) _
    (λ all rest. state_done c.args.self.now q (records_in c.args.self.now ++ record_in c.args.saved.now ∷ []) rest (all ∙ ap (λ r. records_in c.args.self.now ++ r ∷ []) c.requires.done))
    c.load_savepoint.ensures.records c.load_savepoint.ensures.rest
