-- Answers the goals of `remove`.
use Rattle.ckpt_registry.proofs.{eqb, not, ap, sym, ◌∙◌, ne_eqb, numbers_in_order, filter-all, apart_from, Holding, number, parts_found, remove_found}
use Rattle.ckpt_registry.proofs.holdings.remove.Goals as goal

pub returns-in_default-clause-gone : goal.returns-in_default-clause-gone
returns-in_default-clause-gone c =
    let hs = c.args.acknowledged.now.items in
    sym (filter-all (λ (h : Holding). not (eqb h.id c.args.id)) hs
    (λ h k. ap not (ne_eqb h.id c.args.id (apart_from number numbers_in_order c.args.id hs c.in_default.field-0 c.in_default.ensures.absent h k))))

pub returns-clause-gone : goal.returns-clause-gone
returns-clause-gone c = c.take_out-holding.ensures.rest ∙ remove_found c.args.id c.in-Ok.place c.args.acknowledged.now.items c.requires c.in-Ok.ensures.found

pub returns-clause-parts : goal.returns-clause-parts
returns-clause-parts c =
    sym (parts_found c.args.id c.in-Ok.place c.args.acknowledged.now.items c.requires c.in-Ok.ensures.found c.take_out-holding.result c.take_out-holding.ensures.value)
