-- Answers the goals of `Parts::load_base`.
use Rattle.ckpt_core.proofs.{rules, ◌≡◌, ℕ, true, sym, ap, ◌∙◌, Option, Some, None, both_ways, has_savepoint, state_of, done_savepoint-parts, set_state, base_state}
use Rattle.ckpt_core.proofs.parts.Parts.load_base.Goals as goal

pub returns-in_default-clause-state : goal.returns-in_default-clause-state
returns-in_default-clause-state c = let none : c.args.base ≡ None = search rules in base_state c.args.self.now c.args.base (c.requires.none ∙ sym none)

pub returns-then-not-has_savepoint-clause-damaged : goal.returns-then-not-has_savepoint-clause-damaged
returns-then-not-has_savepoint-clause-damaged c =
    λ e there. both_ways (has_savepoint c.args.self.now.store c.in-Some.id) (sym c.has_savepoint.ensures ∙ c.if-not-has_savepoint.true)
    (sym (done_savepoint-parts c.args.self.now c.in-Some.id c.recall_groups.ensures.pending c.recall_groups.ensures.stored) ∙ there c.in-Some.id c.in-Some.is)

pub returns-clause-state : goal.returns-clause-state
returns-clause-state c = set_state c.args.self.now c.set_base.new.self (Some c.in-Some.id) c.set_base.ensures ∙ ap (λ (b : Option ℕ). record (state_of c.args.self.now) { base = b }) (sym c.in-Some.is)

pub returns-clause-there : goal.returns-clause-there
returns-clause-there c = λ id e.
    let both : ◌≡◌ {A = Option ℕ} (Some c.in-Some.id) (Some id) = sym c.in-Some.is ∙ e in
    let same : c.in-Some.id ≡ id = cc in
    rw same at (done_savepoint-parts c.args.self.now c.in-Some.id c.recall_groups.ensures.pending c.recall_groups.ensures.stored ∙ sym c.has_savepoint.ensures ∙ c.if-not-has_savepoint.false)
