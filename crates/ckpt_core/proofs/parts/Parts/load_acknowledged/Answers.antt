-- Answers the goals of `Parts::load_acknowledged`.
use Rattle.ckpt_core.proofs.{◌≡◌, List, [], ◌∷◌, ◌++◌, refl, ap, ◌∙◌, arith, Record, Saved, record_in, opening_of, records_in, Joins, few_records, few_uses, joined_records, not_full}
use Rattle.ckpt_core.proofs.{pending_is_record, pending_same, state_pending}
use Rattle.ckpt_core.proofs.parts.Parts.load_acknowledged.Goals as goal

pub returns-then-saved-clause-damaged : goal.returns-then-saved-clause-damaged
returns-then-saved-clause-damaged c = λ e ir. not_full c.args.saved.now c.args.pending c.requires.made (c.in-Err.ensures.missing.0 refl) c.if-saved.true ir

pub load_pending-requires-clause-newest : goal.load_pending-requires-clause-newest
load_pending-requires-clause-newest c = λ r h.
    let j : Joins (opening_of c.args.self.now.opened) c.args.self.now.next (records_in c.args.self.now) (record_in c.args.saved.now) =
    c.requires.place (pending_is_record c.args.saved.now c.args.pending c.requires.made c.recall_pending.ensures (c.in-Err.ensures.missing.0 refl) c.requires.once c.if-saved.false) in
    omega (arith, ap (λ (x : Record). x.id) (c.in-Err.ensures.pending ∙ c.requires.made), j.above r h)

pub load_pending-requires-clause-few : goal.load_pending-requires-clause-few
load_pending-requires-clause-few c = omega (arith, few_records (records_in c.args.self.now) c.recall_limits.ensures c.requires.sound)

pub load_pending-requires-clause-below : goal.load_pending-requires-clause-below
load_pending-requires-clause-below c = λ f.
    let s : Saved = c.args.saved.now in
    let rs : List Record = records_in c.args.self.now in
    let j : Joins (opening_of c.args.self.now.opened) c.args.self.now.next rs (record_in s) =
    c.requires.place (pending_is_record s c.args.pending c.requires.made c.recall_pending.ensures (c.in-Err.ensures.missing.0 refl) c.requires.once c.if-saved.false) in
    let same : record c.in-Err.pending { pins = s.pins } ≡ record_in s = pending_same s c.in-Err.pending (c.in-Err.ensures.pending ∙ c.requires.made) c.if-saved.false in
    rw same (few_uses (rs ++ record_in s ∷ []) c.recall_limits.ensures (joined_records c.requires.sound j) f)

pub returns-in_ok-load_pending-in-Err-clause-state : goal.returns-in_ok-load_pending-in-Err-clause-state
returns-in_ok-load_pending-in-Err-clause-state c =
    let s : Saved = c.args.saved.now in
    let rs : List Record = records_in c.args.self.now in
    let same : record c.in-Err.pending { pins = s.pins } ≡ record_in s = pending_same s c.in-Err.pending (c.in-Err.ensures.pending ∙ c.requires.made) c.if-saved.false in
    state_pending c.args.self.now c.load_pending.new.self (rs ++ record_in s ∷ []) c.in_ok-load_pending-in-Err.ensures.rest (c.in_ok-load_pending-in-Err.ensures.records ∙ ap (λ x. rs ++ x ∷ []) same)

pub returns-in_err-load_pending-in-Err-clause-memory : goal.returns-in_err-load_pending-in-Err-clause-memory
returns-in_err-load_pending-in-Err-clause-memory c = λ e.
    c.requires.place (pending_is_record c.args.saved.now c.args.pending c.requires.made c.recall_pending.ensures (c.in-Err.ensures.missing.0 refl) c.requires.once c.if-saved.false)

pub returns-in_ok-load_pending-in-Err-clause-joins : goal.returns-in_ok-load_pending-in-Err-clause-joins
returns-in_ok-load_pending-in-Err-clause-joins c =
    c.requires.place (pending_is_record c.args.saved.now c.args.pending c.requires.made c.recall_pending.ensures (c.in-Err.ensures.missing.0 refl) c.requires.once c.if-saved.false)
