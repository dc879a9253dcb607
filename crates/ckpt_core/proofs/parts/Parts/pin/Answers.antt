-- Answers the goals of `Parts::pin`.
use Rattle.ckpt_core.proofs.{◌≡◌, List, [], ◌++◌, sym, ap, ◌∙◌, append-nil, in_order_once, Use, Pin, use_before, triples, files_chosen, Using.Order.in_order_once-itself}
use Rattle.ckpt_core.proofs.parts.Parts.pin.Goals as goal

pub pin_record_metered-requires-clause-below : goal.pin_record_metered-requires-clause-below
pin_record_metered-requires-clause-below c = λ f h. c.requires.below f (rw c.in-Checkpoint.is h)

pub pin_record_metered-requires-in-Savepoint-clause-below : goal.pin_record_metered-requires-in-Savepoint-clause-below
pin_record_metered-requires-in-Savepoint-clause-below c = λ f h. c.requires.below f (rw c.in-Savepoint.is h)

pub returns-in-Fresh-clause-ok : goal.returns-in-Fresh-clause-ok
returns-in-Fresh-clause-ok c =
    let us : List Use = c.args.self.now.registry in
    let none : files_chosen c.args.choice us ≡ [] = ap (λ d. files_chosen d us) c.in-Fresh.is in
    let same : in_order_once use_before (us ++ triples c.args.id Pin (files_chosen c.args.choice us)) ≡ us =
    ap (λ fs. in_order_once use_before (us ++ triples c.args.id Pin fs)) none ∙ ap (in_order_once use_before) (append-nil us) ∙ in_order_once-itself us c.requires.in_order in
    ap (λ vs. record c.args.self.now { registry = vs }) (sym same)
