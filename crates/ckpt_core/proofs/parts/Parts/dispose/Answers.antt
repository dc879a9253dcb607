-- A savepoint that is there and not the base is let go; the table refuses the other disposals.
use Rattle.ckpt_core.proofs.{Disposed, DisposeFault, has_savepoint, Drops, is_number, refusal, done_savepoint-parts, names_it, names_none, refusal_dispose, none_known, room_to_note, savepoint_dropped}
use Rattle.ckpt_core.proofs.{one_there, disposed_answers, Names.state_of, parts.Parts.dispose.Goals.In-Ok, parts.Parts.dispose.Goals.After-hand_out}
use Rattle.ckpt_core.proofs.{◌≡◌, ℕ, ◌++◌, ◌∷◌, [], true, false, eqb, refl, ap, ◌∙◌, arith, Option, Some, None, Result, Ok, Err, eqb-true, eq-eqb, true_from_ne_false, false_from_ne_true, Dispose}
use Rattle.ckpt_store.specs.declared.store.DisposeFault.TheVariants.{NoSuchSavepoint, InUse}
use Rattle.ckpt_ids.specs.declared.reply.Refusal.TheVariants as refusals
use Rattle.ckpt_core.proofs.parts.Parts.dispose.Goals as goal

not_both : {T : Type 0} (r : Result T DisposeFault) (u : T) (fault : DisposeFault) → r ≡ Ok u → r ≡ Err fault → ⊥
not_both (Ok v) u fault e h = cc
not_both (Err f) u fault e h = cc

base_is : (o : Option ℕ) (id : ℕ) → is_number o id ≡ true → o ≡ Some id
base_is None id h = absurd (cc)
base_is (Some base) id h = ap Some (eqb-true base id h)

there : (c : In-Ok) → has_savepoint c.args.self.now.store c.args.id ≡ true
there c = true_from_ne_false (has_savepoint c.args.self.now.store c.args.id) (λ e. not_both c.dispose.result _ NoSuchSavepoint c.in-Ok.is (c.dispose.ensures.absent.1 e))

free : (c : In-Ok) → is_number c.args.self.now.store.base c.args.id ≡ false
free c =
    let base = c.args.self.now.store.base in
    false_from_ne_true (is_number base c.args.id) (λ e. not_both c.dispose.result _ InUse c.in-Ok.is (c.dispose.ensures.in_use.1 (there c, base_is base c.args.id e)))

pub push_reserved-requires : goal.push_reserved-requires
push_reserved-requires c = let p = c.args.self.now in omega (arith, room_to_note p 1 c.requires (omega (arith, one_there p c.args.id (there (goal.at.push_reserved-requires c).In-Ok))))

pub hand_out-requires-clause-unknown : goal.hand_out-requires-clause-unknown
hand_out-requires-clause-unknown c = none_known c.args.self.now c.requires.tied c.requires.sound

accepted : (c : After-hand_out) → refusal (state_of c.args.self.now) (Dispose c.args.id) ≡ None
unfolding state_of
accepted c =
    let at = (goal.at.returns-in-Ok-clause-ok c).In-Ok in
    refusal_dispose (state_of c.args.self.now) c.args.id true false (done_savepoint-parts c.args.self.now c.args.id c.recall_groups.ensures.pending c.recall_groups.ensures.stored ∙ there at) (free at)

pub returns-in-Ok-clause-ok : goal.returns-in-Ok-clause-ok
returns-in-Ok-clause-ok c =
    let id = c.args.id in
    let q = c.hand_out.new.self in
    let at = (goal.at.returns-in-Ok-clause-ok c).In-Ok in
    let ended = c.push_reserved.new.self in
    let drops : Drops c.args.self.now q (λ r. eqb r.id id) c.hand_out.result = savepoint_dropped c.args.self.now (record c.args.self.now { store = c.dispose.new.self; ended = ended }) q id
    c.dispose.new.self.spare c.hand_out.result c.requires.tied c.requires.sound (there at) (ap (λ s. record c.args.self.now { store = s; ended = ended }) c.in-Ok.ensures.ok)
    (c.push_reserved.ensures.items ∙ ap (λ ids. ids ++ id ∷ []) c.requires.none_ended) c.hand_out.ensures.parts c.hand_out.ensures.cleared
    (c.hand_out.ensures.capacity ∙ c.push_reserved.ensures.capacity) c.hand_out.ensures.count in
    disposed_answers c.args.self.now q id c.hand_out.result (accepted c) drops

pub returns-in-Ok-clause-refused : goal.returns-in-Ok-clause-refused
returns-in-Ok-clause-refused c = names_none (state_of c.args.self.now) (Dispose c.args.id) (Ok (Disposed c.hand_out.result)) tt (accepted c)

pub returns-in-Err-NoSuchSavepoint-clause-refused : goal.returns-in-Err-NoSuchSavepoint-clause-refused
returns-in-Err-NoSuchSavepoint-clause-refused c =
    let p = c.args.self.now in
    let absent : has_savepoint p.store c.args.id ≡ false = c.dispose.ensures.absent.0 (c.in-Err-NoSuchSavepoint.is ∙ ap Err c.in-Err-NoSuchSavepoint.field-0-is) in
    let row = refusal_dispose (state_of p) c.args.id false _ (done_savepoint-parts p c.args.id c.recall_groups.ensures.pending c.recall_groups.ensures.stored ∙ absent) refl in
    names_it (state_of p) (Dispose c.args.id) refusals.NoSuchSavepoint row

pub returns-in-Err-InUse-clause-refused : goal.returns-in-Err-InUse-clause-refused
unfolding state_of
returns-in-Err-InUse-clause-refused c =
    let p = c.args.self.now in
    let used = c.dispose.ensures.in_use.0 (c.in-Err-InUse.is ∙ ap Err c.in-Err-InUse.field-0-is) in
    let done = done_savepoint-parts p c.args.id c.recall_groups.ensures.pending c.recall_groups.ensures.stored ∙ used.0 in
    names_it (state_of p) (Dispose c.args.id) refusals.InUse (refusal_dispose (state_of p) c.args.id true true done (ap (λ base. is_number base c.args.id) used.1 ∙ eq-eqb c.args.id c.args.id refl))
