-- Answers the goals of `element`.
use Rattle.ckpt_task.proofs.Names.{rules, ◌≡◌, ◌∙◌, Ok, ap, sym, Alignment, step, Hold, At}
use Rattle.ckpt_task.proofs.Turning.{element_held, element_put, element_stays}
use Rattle.ckpt_align.specs.declared.event.Event.TheVariants.{Element}
use Rattle.ckpt_task.proofs.task.Task.element.Goals as goal

pub returns-in_default : goal.returns-in_default
returns-in_default g c =
    let at : c.self.inside.aligner ≡ c.args.self.now.alignment = ap (λ (m : At). m.alignment) c.self.view_is in
    let inside : (step c.self.inside.aligner (Element c.args.input)).1 ≡ Ok Hold = element_held c.self.inside.aligner c.args.input c.in_ok-apply.field-0 (sym c.in_ok-apply.ensures.answer) c.in_default.not-Process in
    let held : (step c.args.self.now.alignment (Element c.args.input)).1 ≡ Ok Hold = ap (λ (a : Alignment). (step a (Element c.args.input)).1) (sym at) ∙ inside in
    search (rules, element_stays, element_put)
