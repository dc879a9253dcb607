-- The number of a pending record, of a stored one, or of none.
use Rattle.ckpt_core.proofs.{◌≡◌, ◌∙◌, None, sym, find, stored_record, live_in_order, none_copied, standing_done, standing_of_none, standing_pending, has_number}
use Rattle.ckpt_core.proofs.parts.Parts.standing.Goals as goal

pub returns-then-is_some : goal.returns-then-is_some
returns-then-is_some c =
    standing_pending c.args.self.now c.args.id c.get.result (live_in_order c.args.self.now c.requires) c.get.ensures.pending c.get.ensures.value (sym c.is_some.ensures ∙ c.if-is_some.true)

pub returns-then-is_some-2 : goal.returns-then-is_some-2
returns-then-is_some-2 c =
    let none : find (has_number c.args.id) c.args.self.now.pending ≡ None = sym c.get.ensures.value ∙ none_copied c.get.result (sym c.is_some.ensures ∙ c.if-is_some.false) in
    standing_done c.args.self.now c.args.id c.get-2.result (live_in_order c.args.self.now c.requires) c.get-2.ensures.stored none c.get-2.ensures.value (sym c.is_some-2.ensures ∙ c.if-is_some-2.true)

pub returns : goal.returns
returns c =
    let none : find (has_number c.args.id) c.args.self.now.pending ≡ None = sym c.get.ensures.value ∙ none_copied c.get.result (sym c.is_some.ensures ∙ c.if-is_some.false) in
    c.standing_without.ensures ∙ standing_of_none c.args.self.now c.args.id (stored_record c.args.self.now c.args.id (live_in_order c.args.self.now c.requires) none ∙ sym c.get-2.ensures.value
    ∙ none_copied c.get-2.result (sym c.is_some-2.ensures ∙ c.if-is_some-2.false))
