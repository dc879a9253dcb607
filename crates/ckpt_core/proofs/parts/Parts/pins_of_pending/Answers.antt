-- The registry has the pins of a pending record.
use Rattle.ckpt_core.proofs.{◌∙◌, ap, not, IfOk-weaker, on_each_error, is_pending_there, pins_found}
use Rattle.ckpt_core.proofs.parts.Parts.pins_of_pending.Goals as goal

pub returns-clause-value : goal.returns-clause-value
returns-clause-value c =
    IfOk-weaker c.pins_metered.result _ _ (λ files is. is ∙ pins_found c.args.self.now c.args.id c.pending_record.result c.pending_record.ensures (c.is_none.ensures ∙ ap not c.if-is_none.false))
    c.pins_metered.ensures.files

pub returns-clause-memory : goal.returns-clause-memory
returns-clause-memory c = on_each_error c.pins_metered.result _ (is_pending_there c.args.self.now c.args.id c.pending_record.result c.pending_record.ensures (c.is_none.ensures ∙ ap not c.if-is_none.false))
