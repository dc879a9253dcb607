-- Answers the goals of `Outbox::taken_files_metered`.
use Rattle.ckpt_outbox.proofs.{◌∙◌, ap, nat_eq, ascending, Queues, taken-from_index, map_get, map_keys}
use Rattle.ckpt_outbox.proofs.outbox.Outbox.taken_files_metered.Goals as goal

pub returns-clause-files : goal.returns-clause-files
returns-clause-files c =
    let o = c.self.inside in
    c.of.ensures ∙ ap ascending c.in_ok-files.ensures.files
    ∙ taken-from_index (map_get nat_eq o.index) (map_keys o.index) o.waiting.items o.taken c.in_ok-files.ensures.unique c.in_ok-files.ensures.has c.self.invariant.distinct c.self.invariant.known
    ∙ ap (λ (q : Queues). ascending q.taken) c.self.view_is
