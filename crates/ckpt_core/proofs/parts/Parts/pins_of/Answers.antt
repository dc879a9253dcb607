-- Answers the goals of `Parts::pins_of`.
use Rattle.ckpt_core.proofs.{◌≡◌, ℕ, List, sym, ap, ◌∙◌, IfOk-weaker, ascending, pins_by, Parts, done_pins_none, pending_pins}
use Rattle.ckpt_core.proofs.parts.Parts.pins_of.Goals as goal

pub returns-then-done-clause-pins : goal.returns-then-done-clause-pins
returns-then-done-clause-pins c = λ r h same done. c.of.ensures ∙ ap ascending c.new.ensures.items ∙ sym (done_pins_none c.args.self.now r c.requires h (done ∙ c.if-done.true))

pub returns-clause-pins : goal.returns-clause-pins
returns-clause-pins c =
    let p : Parts = c.args.self.now in
    IfOk-weaker c.pins_metered.result (λ (files : List ℕ). files ≡ pins_by c.args.id p.registry) _ (λ files e r h same done. e ∙ ap (λ (n : ℕ). pins_by n p.registry) (sym same) ∙ pending_pins p r
    c.recall_groups.ensures.pending c.recall_groups.ensures.stored h (done ∙ c.if-done.false)) c.pins_metered.ensures.files
